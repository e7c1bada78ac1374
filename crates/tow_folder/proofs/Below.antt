-- What stands in a name behind its front.
use Rattle.std.proofs.Common.{◌≡◌, Bool, true, false, ◌++◌, length, drop, Option, Some, None, MatchOption, option_copied, Bor, refl, sym, ap, ◌∙◌, if◌then◌else◌}
use Rattle.std.proofs.lemmas.Bool.Decides.{Decides-eqb}
use Rattle.std.proofs.lemmas.List.{append_cancel_left, append_assoc}
use Rattle.std.proofs.lemmas.Slice.Eq.{starts_is}
use Rattle.tow_model.specs.Texts.{Text, begins_with}
use Rattle.tow_folder.specs.Memory.{behind}

not_true : (b : Bool) → (b ≡ true → ⊥) → b ≡ false
not_true b never = by b refl
  where
    by : (a : Bool) → b ≡ a → b ≡ false
    by true is = absurd (never is)
    by false is = is

some_behind : (front name rest : Text) → name ≡ front ++ rest → behind front name ≡ Some rest
some_behind front name rest e =
    let s = starts_is Decides-eqb name front (begins_with front name) refl in
    let yes : begins_with front name ≡ true = s.1 rest e in
    let cut : drop (length front) name ≡ rest = append_cancel_left front (drop (length front) name) rest (sym (s.0 yes) ∙ e) in
    ap (λ (b : Bool). if b then Some (drop (length front) name) else None) yes ∙ ap Some cut

none_behind : (front name : Text) → ((rest : Text) → name ≡ front ++ rest → ⊥) → behind front name ≡ None
none_behind front name apart =
    let s = starts_is Decides-eqb name front (begins_with front name) refl in
    let no : begins_with front name ≡ false = not_true (begins_with front name) (λ yes. apart (drop (length front) name) (s.0 yes)) in
    ap (λ (b : Bool). if b then Some (drop (length front) name) else None) no

-- what is left of the name where the front was taken off
pub behind_is : (front name : Text) (r : Option (Bor Text)) → MatchOption r ((rest : Text) → name ≡ front ++ rest → ⊥) (λ x. name ≡ front ++ x.now) →
    option_copied r ≡ behind front name
behind_is front name None h = sym (none_behind front name h)
behind_is front name (Some x) h = sym (some_behind front name x.now h)

-- the same where the front was taken off in two parts
pub behind_both : (first second name rest : Text) (r : Option (Bor Text)) → name ≡ first ++ rest →
    MatchOption r ((more : Text) → rest ≡ second ++ more → ⊥) (λ x. rest ≡ second ++ x.now) → option_copied r ≡ behind (first ++ second) name
behind_both first second name rest None e h =
    sym (none_behind (first ++ second) name (λ more same. h more (append_cancel_left first rest (second ++ more) (sym e ∙ same ∙ append_assoc first second more))))
behind_both first second name rest (Some x) e h =
    sym (some_behind (first ++ second) name x.now (e ∙ ap (λ k. first ++ k) h ∙ sym (append_assoc first second x.now)))

-- nothing is left where the first part does not stand
pub behind_none : (first second name : Text) → ((rest : Text) → name ≡ first ++ rest → ⊥) → None ≡ behind (first ++ second) name
behind_none first second name apart =
    sym (none_behind (first ++ second) name (λ more same. apart (second ++ more) (same ∙ append_assoc first second more)))
