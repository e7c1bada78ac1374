-- Sorted fields are in order, and each name keeps its own.
use Rattle.std.proofs.Common.{◌≡◌, ℕ, Bool, true, false, true≢false, if◌then◌else◌, List, [], ◌∷◌, Ordering, Less, Equal, Greater, is_le, nat_cmp, refl, sym, ap, ◌∙◌, subst, cond}
use Rattle.std.specs.Prelude.{bytes_eq}
use Rattle.std.specs.Ordering.{ordering_reverse}
use Rattle.std.specs.Cmp.Lexicographic.{slice_cmp, nat_list_cmp_total}
use Rattle.std.proofs.lemmas.Slice.Eq.{bytes_eq-Decides}
use Rattle.tow_model.specs.declared.request.Field.{Field}
use Rattle.tow_model.specs.Lists.{bytes_le}
use Rattle.tow_wire.specs.Answers.{placed, sorted, AreInOrder, named, SortedAre}

-- ---- the order of names

flipped : (o p : Ordering) → p ≡ ordering_reverse o → is_le o ≡ false → is_le p ≡ true
flipped Less p is e = absurd (cc)
flipped Equal p is e = absurd (cc)
flipped Greater p is e = ap is_le is

itself : (o : Ordering) → o ≡ ordering_reverse o → is_le o ≡ true
itself Less is = refl
itself Equal is = refl
itself Greater is = absurd (cc)

le_other : (a b : List ℕ) → bytes_le a b ≡ false → bytes_le b a ≡ true
le_other a b e = flipped (slice_cmp nat_cmp a b) (slice_cmp nat_cmp b a) (nat_list_cmp_total.antisymm b a) e

le_same : (a : List ℕ) → bytes_le a a ≡ true
le_same a = itself (slice_cmp nat_cmp a a) (nat_list_cmp_total.antisymm a a)

abbrev choice : Bool → Field → Field → List Field → List Field
choice b f g rest = if b then f ∷ g ∷ rest else g ∷ placed f rest

-- ---- in order

-- g stands before f and before all of rest, so before f in its place among them
behind : (g f : Field) (rest : List Field) → bytes_le g.name f.name ≡ true → AreInOrder (g ∷ rest) → AreInOrder (placed f rest)
    → AreInOrder (g ∷ placed f rest)
behind g f [] le order placed_order = (le, tt)
behind g f (h ∷ rest) le order placed_order = by (bytes_le f.name h.name) refl placed_order
  where
    by : (b : Bool) → bytes_le f.name h.name ≡ b → AreInOrder (placed f (h ∷ rest)) → AreInOrder (g ∷ placed f (h ∷ rest))
    by true is all =
        let here : placed f (h ∷ rest) ≡ f ∷ h ∷ rest = ap (λ (b : Bool). choice b f h rest) is in
        subst (λ (l : List Field). AreInOrder (g ∷ l)) (sym here) (le, subst AreInOrder here all)
    by false is all =
        let here : placed f (h ∷ rest) ≡ h ∷ placed f rest = ap (λ (b : Bool). choice b f h rest) is in
        subst (λ (l : List Field). AreInOrder (g ∷ l)) (sym here) (order.0, subst AreInOrder here all)

tail_order : (g : Field) (rest : List Field) → AreInOrder (g ∷ rest) → AreInOrder rest
tail_order g [] order = tt
tail_order g (h ∷ rest) order = order.1

placed_order : (f : Field) (fields : List Field) → AreInOrder fields → AreInOrder (placed f fields)
placed_order f [] order = tt
placed_order f (g ∷ rest) order = by (bytes_le f.name g.name) refl (placed_order f rest (tail_order g rest order))
  where
    by : (b : Bool) → bytes_le f.name g.name ≡ b → AreInOrder (placed f rest) → AreInOrder (placed f (g ∷ rest))
    by true is later = subst AreInOrder (sym (ap (λ (b : Bool). choice b f g rest) is)) (is, order)
    by false is later =
        subst AreInOrder (sym (ap (λ (b : Bool). choice b f g rest) is)) (behind g f rest (le_other f.name g.name is) order later)

sorted_order : (fields : List Field) → AreInOrder (sorted fields)
sorted_order [] = tt
sorted_order (f ∷ rest) = placed_order f (sorted rest) (sorted_order rest)

-- ---- each name keeps its fields

abbrev put : Bool → Field → List Field → List Field
put b f rest = cond b (f ∷ rest) rest

same_name : (a b name : List ℕ) → bytes_eq a name ≡ true → bytes_eq b name ≡ true → a ≡ b
same_name a b name x y = (bytes_eq-Decides a name).0 x ∙ sym ((bytes_eq-Decides b name).0 y)

-- fields of two names may change places
swapped : (p q : Bool) (f g : Field) (rest : List Field) → (p ≡ true → q ≡ true → ⊥) → put q g (put p f rest) ≡ put p f (put q g rest)
swapped true true f g rest never = absurd (never refl refl)
swapped true false f g rest never = refl
swapped false q f g rest never = refl

placed_same : (name : List ℕ) (f : Field) (fields : List Field) → named name (placed f fields) ≡ named name (f ∷ fields)
placed_same name f [] = refl
placed_same name f (g ∷ rest) = by (bytes_le f.name g.name) refl (placed_same name f rest)
  where
    by : (b : Bool) → bytes_le f.name g.name ≡ b → named name (placed f rest) ≡ named name (f ∷ rest)
        → named name (placed f (g ∷ rest)) ≡ named name (f ∷ g ∷ rest)
    by true is later = ap (λ (b : Bool). named name (choice b f g rest)) is
    by false is later =
        ap (λ (b : Bool). named name (choice b f g rest)) is
        ∙ ap (λ (l : List Field). put (bytes_eq g.name name) g l) later
        ∙ swapped (bytes_eq f.name name) (bytes_eq g.name name) f g (named name rest)
        (λ x y. true≢false (sym (le_same f.name) ∙ ap (bytes_le f.name) (same_name f.name g.name name x y) ∙ is))

sorted_same : (name : List ℕ) (fields : List Field) → named name (sorted fields) ≡ named name fields
sorted_same name [] = refl
sorted_same name (f ∷ rest) =
    placed_same name f (sorted rest) ∙ ap (λ (l : List Field). put (bytes_eq f.name name) f l) (sorted_same name rest)

pub sorted_are : SortedAre
sorted_are fields = record { in_order = sorted_order fields; same = λ name. sorted_same name fields }
