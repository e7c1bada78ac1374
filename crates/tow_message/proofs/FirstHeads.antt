-- The first head is one, and the function finds it.
use Rattle.std.proofs.Common.{◌≡◌, ℕ, ◌+◌, ◌≤◌, Bool, true, false, ◌&&◌, nat_le, List, length, Some, None, if◌then◌else◌, refl, ap, ◌∙◌, subst, arith}
use Rattle.std.proofs.lemmas.Option.{same_Some}
use Rattle.std.proofs.lemmas.Bool.Decides.{nat_tests}
use Rattle.httparse.specs.Grammar.{RequestHead}
use Rattle.httparse.proofs.GrammarLemmas.{request_unique}
use Rattle.tow_message.specs.Heads.{HeadIsOne}
use Rattle.tow_message.specs.FirstHead.{Got, within, head_of, FindsHead}
use Rattle.tow_message.proofs.HeadProofs.{finds_heads}

pub head_is_one : (input : List ℕ) → HeadIsOne input
head_is_one input h k rest other one two = request_unique input h k rest other one.reads two.reads

le_test : (a b : ℕ) → a ≤ b → nat_le a b ≡ true
le_test a b is = grind (arith, nat_tests)

test_le : (a b : ℕ) → nat_le a b ≡ true → a ≤ b
test_le a b is = grind (arith, nat_tests)

abbrev kept : Bool → Bool → RequestHead × List ℕ → Got RequestHead
kept a b x = if a && b then Some x else None

-- what is kept has passed both tests
kept_some : (a b : Bool) (x y : RequestHead × List ℕ) → kept a b x ≡ Some y → (a ≡ true) × (b ≡ true) × (x ≡ y)
kept_some true true x y is = (refl, refl, same_Some x y is)
kept_some true false x y is = absurd (cc)
kept_some false b x y is = absurd (cc)

within_some : (len : ℕ) (o : Got RequestHead) (y : RequestHead × List ℕ) → within len o ≡ Some y
    → (o ≡ Some y) × (len ≤ length y.1 + 65536) × (length y.0.fields ≤ 200)
within_some len None y is = absurd (cc)
within_some len (Some x) y is =
    let k = kept_some (nat_le len (length x.1 + 65536)) (nat_le (length x.0.fields) 200) x y is in (
      ap (λ z. Some z) k.2,
      subst (λ (z : RequestHead × List ℕ). len ≤ length z.1 + 65536) k.2 (test_le _ _ k.0),
      subst (λ (z : RequestHead × List ℕ). length z.0.fields ≤ 200) k.2 (test_le _ _ k.1),
    )

within_kept : (len : ℕ) (x : RequestHead × List ℕ) → len ≤ length x.1 + 65536 → length x.0.fields ≤ 200 → within len (Some x) ≡ Some x
within_kept len x bytes fields =
    ap (λ a. kept a (nat_le (length x.0.fields) 200) x) (le_test _ _ bytes) ∙ ap (λ b. kept true b x) (le_test _ _ fields)

pub finds_head : (input : List ℕ) → FindsHead input
finds_head input h rest = (
  λ has. ap (within (length input)) ((finds_heads input h rest).0 has.reads) ∙ within_kept (length input) (h, rest) has.bytes_fit has.fields_fit,
  λ is.
      let k = within_some (length input) (head_of input) (h, rest) is in
      record { reads = (finds_heads input h rest).1 k.0; bytes_fit = k.1; fields_fit = k.2 },
)
