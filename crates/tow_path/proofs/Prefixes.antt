-- A path that begins with a prefix, and a slash behind it.
use Rattle.std.proofs.Common.{◌≡◌, Bool, true, false, ◌||◌, [], ◌∷◌, ◌++◌, length, drop, codes, refl, sym, ap, ◌∙◌}
use Rattle.std.proofs.lemmas.Bool.Decides.{Decides-eqb}
use Rattle.std.proofs.lemmas.List.{append_cancel_left, append-nil, append_assoc}
use Rattle.std.proofs.lemmas.Slice.Eq.{bytes_eq-Decides, starts_is}
use Rattle.std.specs.Str.{bytes_eq}
use mathlib.Core.Logic.{inl, inr}
use Rattle.tow_model.specs.Texts.{Text, begins_with}
use Rattle.tow_model.specs.Paths.{slash, is_prefix}
use Rattle.tow_path.specs.Output.{LiesUnder}

one_of : (a b : Bool) (P : Type 0) → (a ≡ true → P) → (b ≡ true → P) → (a || b) ≡ true → P
one_of true b P p q is = p refl
one_of false b P p q is = q is

same_test : (r b : Bool) → (r ≡ true → b ≡ true) → (b ≡ true → r ≡ true) → r ≡ b
same_test true b there back = sym (there refl)
same_test false true there back = back refl
same_test false false there back = refl

or_right : (a b : Bool) → b ≡ true → (a || b) ≡ true
or_right true b is = refl
or_right false b is = is

begins : (prefix path : Text) → begins_with (prefix ++ codes "/") path ≡ true → (rest : Text) × (path ≡ prefix ++ slash ∷ rest)
begins prefix path is =
    let s = starts_is Decides-eqb path (prefix ++ codes "/") (begins_with (prefix ++ codes "/") path) refl in
    let rest = drop (length (prefix ++ codes "/")) path in
    (rest, s.0 is ∙ append_assoc prefix (codes "/") rest)

pub lies_under : (prefix path : Text) → is_prefix prefix path ≡ true → LiesUnder prefix path
lies_under prefix path is =
    one_of (bytes_eq path prefix) (begins_with (prefix ++ codes "/") path) (LiesUnder prefix path)
    (λ e. inl ((bytes_eq-Decides path prefix).0 e)) (λ e. inr (begins prefix path e)) is

is_under : (prefix path : Text) → LiesUnder prefix path → is_prefix prefix path ≡ true
is_under prefix path (inl e) = let t = (bytes_eq-Decides path prefix).1 e in rw t refl
is_under prefix path (inr (rest, e)) =
    let s = starts_is Decides-eqb path (prefix ++ codes "/") (begins_with (prefix ++ codes "/") path) refl in
    or_right (bytes_eq path prefix) _ (s.1 rest (e ∙ sym (append_assoc prefix (codes "/") rest)))

-- what is behind the prefix is nothing
pub is_whole : (prefix path rest : Text) → path ≡ prefix ++ rest → rest ≡ [] → true ≡ is_prefix prefix path
is_whole prefix path rest e none = sym (is_under prefix path (inl (e ∙ ap (λ k. prefix ++ k) none ∙ append-nil prefix)))

-- or it is something, with a slash first or not
pub is_more : (prefix path rest : Text) (r : Bool) → path ≡ prefix ++ rest → (rest ≡ [] → ⊥) → r ≡ begins_with (codes "/") rest → r ≡ is_prefix prefix path
is_more prefix path rest r e some is =
    let s = starts_is Decides-eqb rest (codes "/") r is in
    same_test r (is_prefix prefix path)
    (λ yes. is_under prefix path (inr (drop 1 rest, e ∙ ap (λ k. prefix ++ k) (s.0 yes)))) (λ yes. slash_first s.1 (lies_under prefix path yes))
  where
    slash_first : ((more : Text) → rest ≡ codes "/" ++ more → r ≡ true) → LiesUnder prefix path → r ≡ true
    slash_first begins (inl same) = absurd (some (append_cancel_left prefix rest [] (sym e ∙ same ∙ sym (append-nil prefix))))
    slash_first begins (inr (more, same)) = begins more (append_cancel_left prefix rest (slash ∷ more) (sym e ∙ same))

-- the path does not begin with the prefix
pub is_apart : (prefix path : Text) → ((rest : Text) → path ≡ prefix ++ rest → ⊥) → false ≡ is_prefix prefix path
is_apart prefix path apart = same_test false (is_prefix prefix path) (λ no. absurd (cc)) (λ yes. absurd (not_under (lies_under prefix path yes)))
  where
    not_under : LiesUnder prefix path → ⊥
    not_under (inl same) = apart [] (same ∙ sym (append-nil prefix))
    not_under (inr (rest, same)) = apart (slash ∷ rest) same
