-- The bytes between two quotes.
use Rattle.std.specs.Prelude.{◌≡◌, ℕ, ◌+◌, ◌-◌, ◌<◌, ◌≤◌, ◌==◌, ◌&&◌, Bool, true, false, List, [], ◌∷◌, ◌++◌, length, take, get_or, slice_range, if◌then◌else◌}
use Rattle.std.proofs.Common.{refl, sym, ◌∙◌, ap, arith, append_assoc}
use Rattle.tow_language.specs.Symbols.{inner, unescaped}
use Rattle.tow_language.specs.Tokens.{next_is}
use Rattle.tow_model.proofs.Spans.{span_step}

pub inner_short : (s : List ℕ) → length s < 2 → inner s ≡ []
inner_short [] lt = refl
inner_short (q ∷ []) lt = refl
inner_short (q ∷ b ∷ bs) lt = absurd (omega arith)

pub inner_is : (s : List ℕ) → 2 ≤ length s → inner s ≡ slice_range s 1 (length s - 1)
inner_is [] two = absurd (omega arith)
inner_is (q ∷ bs) two = ap (λ k. take k bs) (let e : length bs - 1 ≡ (length (q ∷ bs) - 1) - 1 = omega arith in e)

-- one more byte
pub one_byte : (q : ℕ) (s : List ℕ) (at end : ℕ) → at < end → end ≤ length s → (skips : Bool) → skips ≡ (get_or s at 0 == 92 && next_is q (slice_range s (at + 1) end)) →
    unescaped q (slice_range s at end) ≡ if skips then unescaped q (slice_range s (at + 1) end) else get_or s at 0 ∷ unescaped q (slice_range s (at + 1) end)
one_byte q s at end lt within skips e =
    ap (unescaped q) (span_step s at end lt (omega arith))
    ∙ ap (λ (t : Bool). if t then unescaped q (slice_range s (at + 1) end) else get_or s at 0 ∷ unescaped q (slice_range s (at + 1) end)) (sym e)

pub next_byte : (q : ℕ) (s : List ℕ) (at end : ℕ) → at < end → end ≤ length s → next_is q (slice_range s at end) ≡ (get_or s at 0 == q)
next_byte q s at end lt within = ap (next_is q) (span_step s at end lt (omega arith))

module _ (q : ℕ) (s : List ℕ) (at end : ℕ) (lt : at < end) (within : end ≤ length s) (before out whole : List ℕ) (so_far : before ++ unescaped q (slice_range s at end) ≡ whole) where
  pub byte_kept : false ≡ (get_or s at 0 == 92 && next_is q (slice_range s (at + 1) end)) → out ≡ before ++ get_or s at 0 ∷ [] → out ++ unescaped q (slice_range s (at + 1) end) ≡ whole
  byte_kept e o =
      ap (λ k. k ++ unescaped q (slice_range s (at + 1) end)) o ∙ append_assoc before (get_or s at 0 ∷ []) (unescaped q (slice_range s (at + 1) end))
      ∙ ap (λ k. before ++ k) (sym (one_byte q s at end lt within false e)) ∙ so_far

  pub byte_skipped : true ≡ (get_or s at 0 == 92 && next_is q (slice_range s (at + 1) end)) → out ≡ before → out ++ unescaped q (slice_range s (at + 1) end) ≡ whole
  byte_skipped e o =
      ap (λ k. k ++ unescaped q (slice_range s (at + 1) end)) o ∙ ap (λ k. before ++ k) (sym (one_byte q s at end lt within true e)) ∙ so_far
