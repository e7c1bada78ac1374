-- An entry more, in a history that a count shows.
use Rattle.std.proofs.Common.{ℕ, suc, ◌+◌, ◌-◌, ◌<◌, ◌≤◌, ◌≡◌, Bool, true, false, nat_lt, sym, List, [], ◌∷◌, ◌++◌, length, ◌∙◌, ap, inl, arith}
use Rattle.tow_model.specs.declared.account.What.TheVariants.{Enter, Leave}
use Rattle.tow_history.specs.declared.entry.Entry.{Entry}
use Rattle.tow_model.specs.declared.account.Verdict.{Verdict}
use Rattle.std.specs.Prelude.{if◌then◌else◌}
use Rattle.tow_model.specs.declared.account.Verdict.TheVariants.{Admitted, Refused}
use Rattle.tow_history.specs.Legal.{Who, LimitState, legal, nobody, after_entry, state_from, state_after, entry_of, times, take_out, let_in}
use Rattle.tow_history.proofs.Sound.{sound_after, state_add, legal_add, length_add, length_take_out}
use Rattle.tow_limit.specs.Shows.{Places, is_exact, exact_from, Shows}

no_line : (most : ℕ) (h : List Entry) → legal h most 0 → length (state_after h).line ≡ 0
no_line most h ok = let short = (sound_after most 0 h ok).short in omega arith

exact_add : (most : ℕ) (s : LimitState) (h : List Entry) (e : Entry) → exact_from most s h → is_exact most (state_from s h) e.call.what → exact_from most s (h ++ e ∷ [])
exact_add most s [] e ok is = (is, tt)
exact_add most s (d ∷ h) e ok is = (ok.0, exact_add most (after_entry s d) h e ok.1 is)

has_room : (m n : ℕ) → m < n → nat_lt m n ≡ true
has_room m n h = grind (arith, h)

no_room : (m n : ℕ) → n ≤ m → nat_lt m n ≡ false
no_room m n h = grind (arith, h)

abbrev answer : Bool → Verdict
answer b = if b then Admitted else Refused

pub admits : (c : Places) (h : List Entry) (k l j : ℕ) → c.inside < c.most → Shows c h → Shows (record { most = c.most; inside = c.inside + 1 }) (h ++ entry_of k l j (Enter Admitted) ∷ [])
admits c h k l j room s =
    let inside = s.are_inside in
    let e : Entry = entry_of k l j (Enter Admitted) in
    let add : length ((state_after h).inside ++ (k, j) ∷ []) ≡ suc (length (state_after h).inside) = length_add (state_after h).inside (k, j) in
    record {
      is_legal = legal_add c.most 0 nobody h e s.is_legal (omega arith);
      verdicts_exact = exact_add c.most nobody h e s.verdicts_exact (sym (ap answer (has_room (length (state_after h).inside) c.most (omega arith))));
      are_inside = ap (λ t. length t.inside) (state_add nobody h e) ∙ omega arith;
    }

pub refuses : (c : Places) (h : List Entry) (k l j : ℕ) → c.inside ≡ c.most → Shows c h → Shows c (h ++ entry_of k l j (Enter Refused) ∷ [])
refuses c h k l j full s =
    let inside = s.are_inside in
    let e : Entry = entry_of k l j (Enter Refused) in
    record {
      is_legal = legal_add c.most 0 nobody h e s.is_legal (inl (omega arith, inl (no_line c.most h s.is_legal)));
      verdicts_exact = exact_add c.most nobody h e s.verdicts_exact (sym (ap answer (no_room (length (state_after h).inside) c.most (omega arith))));
      are_inside = ap (λ t. length t.inside) (state_add nobody h e) ∙ inside;
    }

one_out : (w : Who) (inside : List Who) (line : List (Who × ℕ)) → length line ≡ 0 → 0 < times w inside → length (let_in line (take_out w inside)) ≡ length inside - 1
one_out w inside [] none has = let out : suc (length (take_out w inside)) ≡ length inside = length_take_out w inside has in omega arith
one_out w inside (p ∷ line) none has = absurd (omega (arith, none))

pub leaves : (c : Places) (h : List Entry) (k l j : ℕ) → Shows c h → 0 < times (k, j) (state_after h).inside → Shows (record { most = c.most; inside = c.inside - 1 }) (h ++ entry_of k l j Leave ∷ [])
leaves c h k l j s has =
    let e : Entry = entry_of k l j Leave in
    record {
      is_legal = legal_add c.most 0 nobody h e s.is_legal has;
      verdicts_exact = exact_add c.most nobody h e s.verdicts_exact tt;
      are_inside = ap (λ t. length t.inside) (state_add nobody h e) ∙ one_out (k, j) (state_after h).inside (state_after h).line (no_line c.most h s.is_legal) has ∙ ap (λ n. n - 1) s.are_inside;
    }
