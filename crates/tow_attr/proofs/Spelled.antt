-- The templates that texts spell, and where they spell none.
use Rattle.std.specs.Prelude.{◌≡◌, ◌≢◌, ◌⊎◌, ℕ, ◌+◌, ◌≤◌, Bool, true, false, not, ◌&&◌, ◌||◌, ◌==◌, zero, suc, List, [], ◌∷◌, ◌++◌, length, Option, None, Some, Result, Ok, Err, if◌then◌else◌, ⊤}
use Rattle.std.specs.Result.{result_map_both}
use Rattle.std.proofs.Common.{refl, sym, ◌∙◌, ap, ap₂, subst, arith, rules, append_assoc, length-append}
use Rattle.std.proofs.Math.Bool.{and-false}
use Rattle.std.proofs.lemmas.List.{append-nil}
use mathlib.Core.Logic.{inl, inr}
use Rattle.tow_model.specs.declared.attribute.Attribute.{Attribute}
use Rattle.tow_model.specs.declared.attribute.Piece.{Piece}
use Rattle.tow_model.specs.declared.attribute.Piece.TheVariants.{Literal, Value}
use Rattle.tow_language.specs.Tokens.{next_is}
use Rattle.tow_language.specs.Templates.{begins_value, piece_of, spelled_piece, with_piece, with_first, template_from, template_of}
use Rattle.tow_language.specs.Laws.{IsFormOf, has_no_context, IsNoLiteral, Spells, BeginsNoPiece, TemplatesSpelled, TemplateFaults}
use Rattle.tow_language.proofs.Cut.{sigil}
use Rattle.tow_attr.specs.Reading.{plain_ahead}
use Rattle.tow_attr.proofs.Shapes.{IsShape, two, braced, IsShapeless, shape_reads, shape_or_open, one_shape, not_true, both_left, both_right, same_number}
use Rattle.tow_attr.proofs.Braced.{form_is, is_form, is_percent}
use Rattle.tow_attr.proofs.Joins.{plain_none, plain_twice}

-- how a byte that stands for itself is spelled
abbrev spelled_byte : ℕ → List ℕ
spelled_byte b = if b == 37 then 37 ∷ 37 ∷ [] else b ∷ []

or_left : (s t : Bool) → (s || t) ≡ false → s ≡ false
or_left true t e = e
or_left false t e = refl

or_right : (s t : Bool) → (s || t) ≡ false → t ≡ false
or_right true t e = absurd cc
or_right false t e = e

plain_begins : (b : ℕ) (rest : List ℕ) → (b == 37) ≡ false → (b == 36 && next_is 123 rest) ≡ false → begins_value b rest ≡ false
plain_begins b rest f g = ap (λ t. t || ((t || b == 36) && next_is 123 rest)) f ∙ g

begins_plain : (b : ℕ) (rest : List ℕ) → begins_value b rest ≡ false → ((b == 37) ≡ false) × ((b == 36 && next_is 123 rest) ≡ false)
begins_plain b rest e =
    let f = or_left (b == 37) _ e in (f, sym (ap (λ t. t || ((t || b == 36) && next_is 123 rest)) f) ∙ e)

plain_reads : (b at : ℕ) (bytes : List ℕ) → begins_value b bytes ≡ false → template_from [] at (b ∷ bytes) ≡ plain_ahead (b ∷ []) (template_from [] (at + 1) bytes)
plain_reads b at bytes e =
    ap (λ t. if t then template_from (b ∷ []) at bytes else with_first (Some (Literal (b ∷ []))) (template_from [] (at + 1) bytes) at) e

-- the first byte of a spelled byte is a brace where the byte is
next_of_byte : (m : ℕ) (rest : List ℕ) → next_is 123 (spelled_byte m ++ rest) ≡ (m == 123)
next_of_byte m rest = by_test (m == 37) refl
  where
    by_test : (t : Bool) → (m == 37) ≡ t → next_is 123 (spelled_byte m ++ rest) ≡ (m == 123)
    by_test true e =
        ap (λ t. next_is 123 ((if t then 37 ∷ 37 ∷ [] else m ∷ []) ++ rest)) e ∙ sym (ap (λ k. k == 123) (same_number m 37 e))
    by_test false e = ap (λ t. next_is 123 ((if t then 37 ∷ 37 ∷ [] else m ∷ []) ++ rest)) e

next_of_literal : (bytes rest : List ℕ) → next_is 123 rest ≡ false → next_is 123 (spelled_piece (Literal bytes) ++ rest) ≡ next_is 123 bytes
next_of_literal [] rest e = e
next_of_literal (m ∷ bytes) rest e =
    ap (next_is 123) (append_assoc (spelled_byte m) (spelled_piece (Literal bytes)) rest) ∙ next_of_byte m (spelled_piece (Literal bytes) ++ rest)

-- a literal's bytes, before what begins with no brace
literal_reads : (bytes rest : List ℕ) (at : ℕ) → has_no_context bytes ≡ true → next_is 123 rest ≡ false →
    template_from [] at (spelled_piece (Literal bytes) ++ rest) ≡ plain_ahead bytes (template_from [] (at + length (spelled_piece (Literal bytes))) rest)
literal_reads [] rest at n e =
    let z : at ≡ at + 0 = omega arith in
    ap (λ k. template_from [] k rest) z ∙ sym (plain_none (template_from [] (at + 0) rest))
literal_reads (b ∷ bytes) rest at n e =
    by_test (b == 37) refl (λ k. literal_reads bytes rest k (both_right (not (b == 36 && next_is 123 bytes)) (has_no_context bytes) n) e)
  where
    more : List ℕ
    more = spelled_piece (Literal bytes)

    context : (b == 36 && next_is 123 (more ++ rest)) ≡ false
    context = ap (λ t. b == 36 && t) (next_of_literal bytes rest e) ∙ not_true (b == 36 && next_is 123 bytes) (both_left (not (b == 36 && next_is 123 bytes)) (has_no_context bytes) n)

    goes_on : ((k : ℕ) → template_from [] k (more ++ rest) ≡ plain_ahead bytes (template_from [] (k + length more) rest)) → (byte : List ℕ) → spelled_byte b ≡ byte → template_from [] at (byte ++ (more ++ rest)) ≡ plain_ahead (b ∷ []) (template_from [] (at + length byte) (more ++ rest)) →
        template_from [] at ((spelled_byte b ++ more) ++ rest) ≡ plain_ahead (b ∷ bytes) (template_from [] (at + length (spelled_byte b ++ more)) rest)
    goes_on reads byte is step =
        let here : spelled_byte b ++ more ≡ byte ++ more = ap (λ k. k ++ more) is in
        let far : at + length byte + length more ≡ at + length (spelled_byte b ++ more) = omega (arith, length-append byte more, ap length here) in
        ap (template_from [] at) (ap (λ k. k ++ rest) here ∙ append_assoc byte more rest) ∙ step
        ∙ ap (plain_ahead (b ∷ [])) (reads (at + length byte))
        ∙ plain_twice (b ∷ []) bytes (template_from [] (at + length byte + length more) rest)
        ∙ ap (λ k. plain_ahead (b ∷ bytes) (template_from [] k rest)) far

    by_test : (t : Bool) → (b == 37) ≡ t → ((k : ℕ) → template_from [] k (more ++ rest) ≡ plain_ahead bytes (template_from [] (k + length more) rest)) →
        template_from [] at ((spelled_byte b ++ more) ++ rest) ≡ plain_ahead (b ∷ bytes) (template_from [] (at + length (spelled_byte b ++ more)) rest)
    by_test true f reads =
        let is : spelled_byte b ≡ 37 ∷ 37 ∷ [] = ap (λ t. if t then 37 ∷ 37 ∷ [] else b ∷ []) f in
        goes_on reads (37 ∷ 37 ∷ []) is (shape_reads (37 ∷ 37 ∷ []) (more ++ rest) at (two 37 refl) ∙ ap (λ k. plain_ahead (k ∷ []) (template_from [] (at + 2) (more ++ rest))) (sym (same_number b 37 f)))
    by_test false f reads =
        let is : spelled_byte b ≡ b ∷ [] = ap (λ t. if t then 37 ∷ 37 ∷ [] else b ∷ []) f in
        goes_on reads (b ∷ []) is (plain_reads b at (more ++ rest) (plain_begins b (more ++ rest) f context))

-- what the rest gives does not begin with bytes that stand for themselves
abbrev JoinsNot : Result (List Piece) ℕ → Type 0
JoinsNot (Ok ps) = IsNoLiteral ps
JoinsNot (Err e) = ⊤

abbrev behind : List Piece → Result (List Piece) ℕ → Result (List Piece) ℕ
behind ps rest = result_map_both (λ qs. ps ++ qs) (λ place. place) rest

behind_none : (rest : Result (List Piece) ℕ) → behind [] rest ≡ rest
behind_none (Ok ps) = refl
behind_none (Err e) = refl

behind_value : (a : Attribute) (ps : List Piece) (rest : Result (List Piece) ℕ) (at : ℕ) → with_first (Some (Value a)) (behind ps rest) at ≡ behind (Value a ∷ ps) rest
behind_value a ps (Ok qs) at = refl
behind_value a ps (Err e) at = refl

behind_literal : (bytes : List ℕ) (ps : List Piece) (rest : Result (List Piece) ℕ) → bytes ≢ [] → IsNoLiteral ps → JoinsNot rest →
    plain_ahead bytes (behind ps rest) ≡ behind (Literal bytes ∷ ps) rest
behind_literal [] ps rest some bare joins = absurd (some refl)
behind_literal (b ∷ bytes) ps (Err e) some bare joins = refl
behind_literal (b ∷ bytes) [] (Ok []) some bare joins = refl
behind_literal (b ∷ bytes) [] (Ok (Literal more ∷ qs)) some bare joins = absurd joins
behind_literal (b ∷ bytes) [] (Ok (Value a ∷ qs)) some bare joins = refl
behind_literal (b ∷ bytes) (Literal more ∷ ps) (Ok qs) some bare joins = absurd bare
behind_literal (b ∷ bytes) (Value a ∷ ps) (Ok qs) some bare joins = refl

shape_next : (spelled rest : List ℕ) → IsShape spelled → next_is 123 (spelled ++ rest) ≡ false
shape_next spelled rest (two c e) = refl
shape_next spelled rest (braced s inside e n) =
    elim (sigil s e) [ inl f ↦ ap (λ k. k == 123) f | inr f ↦ ap (λ k. k == 123) f ]

value_next : (text rest : List ℕ) (ps : List Piece) → Spells text ps → IsNoLiteral ps → next_is 123 rest ≡ false → next_is 123 (text ++ rest) ≡ false
value_next text rest [] e bare f = ap (λ k. next_is 123 (k ++ rest)) e ∙ f
value_next text rest (Literal bytes ∷ ps) e bare f = absurd bare
value_next text rest (Value a ∷ ps) (spelled, after, e, form, more) bare f =
    ap (next_is 123) (ap (λ k. k ++ rest) e ∙ append_assoc spelled after rest) ∙ shape_next spelled (after ++ rest) (form_is a spelled form).0

-- a text is read as the pieces that it spells
spelled_reads : (ps : List Piece) (text rest : List ℕ) (at : ℕ) → Spells text ps → next_is 123 rest ≡ false → ((n : ℕ) → JoinsNot (template_from [] n rest)) →
    template_from [] at (text ++ rest) ≡ behind ps (template_from [] (at + length text) rest)
spelled_reads [] text rest at e f joins =
    let z : at ≡ at + length text = omega (arith, ap length e) in
    ap (λ k. template_from [] at (k ++ rest)) e ∙ ap (λ k. template_from [] k rest) z ∙ sym (behind_none (template_from [] (at + length text) rest))
spelled_reads (Literal bytes ∷ ps) text rest at (after, e, some, context, bare, more) f joins =
    let front = spelled_piece (Literal bytes) in
    let far : at + length front + length after ≡ at + length text = omega (arith, length-append front after, ap length e) in
    ap (template_from [] at) (ap (λ k. k ++ rest) e ∙ append_assoc front after rest)
    ∙ literal_reads bytes (after ++ rest) at context (value_next after rest ps more bare f)
    ∙ ap (plain_ahead bytes) (spelled_reads ps after rest (at + length front) more f joins)
    ∙ behind_literal bytes ps (template_from [] (at + length front + length after) rest) some bare (joins (at + length front + length after))
    ∙ ap (λ k. behind (Literal bytes ∷ ps) (template_from [] k rest)) far
spelled_reads (Value a ∷ ps) text rest at (spelled, after, e, form, more) f joins =
    let far : at + length spelled + length after ≡ at + length text = omega (arith, length-append spelled after, ap length e) in
    let is = form_is a spelled form in
    ap (template_from [] at) (ap (λ k. k ++ rest) e ∙ append_assoc spelled after rest)
    ∙ shape_reads spelled (after ++ rest) at is.0
    ∙ ap₂ (λ p r. with_first p r at) is.1 (spelled_reads ps after rest (at + length spelled) more f joins)
    ∙ behind_value a ps (template_from [] (at + length spelled + length after) rest) at
    ∙ ap (λ k. behind (Value a ∷ ps) (template_from [] k rest)) far

-- where no piece stands the text is refused
no_piece_reads : (text : List ℕ) (at : ℕ) → BeginsNoPiece text → template_from [] at text ≡ Err at
no_piece_reads text at (b, after, e, begins, percent, form) = ap (template_from [] at) e ∙ by_view (shape_or_open b after begins)
  where
    by_piece : (spelled more : List ℕ) → b ∷ after ≡ spelled ++ more → IsShape spelled → (o : Option Piece) → piece_of spelled ≡ o →
        with_first o (template_from [] (at + length spelled) more) at ≡ Err at
    by_piece spelled more f shape None p = refl
    by_piece spelled more f shape (Some (Literal bytes)) p = absurd (percent more (e ∙ f ∙ ap (λ k. k ++ more) (is_percent spelled bytes shape p).0))
    by_piece spelled more f shape (Some (Value a)) p = absurd (form a spelled more (e ∙ f) (is_form a spelled shape p))

    by_view : ((spelled more : List ℕ) × (b ∷ after ≡ spelled ++ more) × IsShape spelled) ⊎ (IsShapeless (b ∷ after) × ((n : ℕ) → template_from [] n (b ∷ after) ≡ Err n)) →
        template_from [] at (b ∷ after) ≡ Err at
    by_view (inl (spelled, more, f, shape)) = ap (template_from [] at) f ∙ shape_reads spelled more at shape ∙ by_piece spelled more f shape (piece_of spelled) refl
    by_view (inr (none, reads)) = reads at

no_piece_next : (text : List ℕ) → BeginsNoPiece text → next_is 123 text ≡ false
no_piece_next text (b, after, e, begins, percent, form) = ap (next_is 123) e ∙ by_sigil (begins_sigil b after begins)
  where
    begins_sigil : (b : ℕ) (after : List ℕ) → begins_value b after ≡ true → (b == 37 || b == 36) ≡ true
    begins_sigil b after f = search rules

    by_sigil : (b == 37 || b == 36) ≡ true → (b == 123) ≡ false
    by_sigil f = elim (sigil b f) [ inl g ↦ ap (λ k. k == 123) g | inr g ↦ ap (λ k. k == 123) g ]

-- what is read of a text
abbrev IsOutcome : List ℕ → ℕ → Result (List Piece) ℕ → Type 0
IsOutcome text at (Ok ps) = Spells text ps
IsOutcome text at (Err place) =
    (front left : List ℕ) × (ps : List Piece) × (text ≡ front ++ left) × (place ≡ at + length front) × Spells front ps × BeginsNoPiece left

-- one byte that stands for itself before pieces
spells_byte : (b : ℕ) (text : List ℕ) (ps : List Piece) → (b == 36 && next_is 123 text) ≡ false → Spells text ps → Spells (spelled_byte b ++ text) (with_piece (Literal (b ∷ [])) ps)
spells_byte b text [] f s = (text, ap (λ k. k ++ text) (sym (append-nil (spelled_byte b))), λ e. cc, alone b, tt, s)
  where
    alone : (b : ℕ) → has_no_context (b ∷ []) ≡ true
    alone b = ap (λ t. not t && true) (and-false (b == 36))
spells_byte b text (Value a ∷ ps) f s = (text, ap (λ k. k ++ text) (sym (append-nil (spelled_byte b))), λ e. cc, alone b, tt, s)
  where
    alone : (b : ℕ) → has_no_context (b ∷ []) ≡ true
    alone b = ap (λ t. not t && true) (and-false (b == 36))
spells_byte b text (Literal [] ∷ ps) f (after, e, some, context, bare, s) = absurd (some refl)
spells_byte b text (Literal (m ∷ more) ∷ ps) f (after, e, some, context, bare, s) =
    let bytes = spelled_piece (Literal (m ∷ more)) in
    let next : next_is 123 text ≡ (m == 123) =
    ap (next_is 123) (e ∙ append_assoc (spelled_byte m) (spelled_piece (Literal more)) after) ∙ next_of_byte m (spelled_piece (Literal more) ++ after) in
    let here : (b == 36 && m == 123) ≡ false = ap (λ t. b == 36 && t) (sym next) ∙ f in
    (after, ap (λ k. spelled_byte b ++ k) e ∙ sym (append_assoc (spelled_byte b) bytes after), λ z. cc, ap (λ t. not t && has_no_context (m ∷ more)) here ∙ context, bare, s)

byte_outcome : (b at n : ℕ) (byte text : List ℕ) (r : Result (List Piece) ℕ) → spelled_byte b ≡ byte → n ≡ at + length byte →
    ((front left : List ℕ) → text ≡ front ++ left → (b == 36 && next_is 123 front) ≡ false) → IsOutcome text n r → IsOutcome (byte ++ text) at (plain_ahead (b ∷ []) r)
byte_outcome b at n byte text (Ok ps) is far context o =
    subst (λ k. Spells (k ++ text) (with_piece (Literal (b ∷ [])) ps)) is (spells_byte b text ps (context text [] (sym (append-nil text))) o)
byte_outcome b at n byte text (Err place) is far context (front, left, ps, e, p, s, bare) = (
  byte ++ front,
  left,
  with_piece (Literal (b ∷ [])) ps,
  ap (λ k. byte ++ k) e ∙ sym (append_assoc byte front left),
  omega (arith, p, far, length-append byte front),
  subst (λ k. Spells (k ++ front) (with_piece (Literal (b ∷ [])) ps)) is (spells_byte b front ps (context front left e) s),
  bare,
)

value_outcome : (a : Attribute) (at : ℕ) (spelled after : List ℕ) (r : Result (List Piece) ℕ) → IsFormOf a spelled → IsOutcome after (at + length spelled) r →
    IsOutcome (spelled ++ after) at (with_first (Some (Value a)) r at)
value_outcome a at spelled after (Ok ps) form o = (spelled, after, refl, form, o)
value_outcome a at spelled after (Err place) form (front, left, ps, e, p, s, bare) = (
  spelled ++ front,
  left,
  Value a ∷ ps,
  ap (λ k. spelled ++ k) e ∙ sym (append_assoc spelled front left),
  omega (arith, p, length-append spelled front),
  (spelled, front, refl, form, s),
  bare,
)

refused_here : (text : List ℕ) (at : ℕ) → BeginsNoPiece text → IsOutcome text at (Err at)
refused_here text at bare = ([], text, [], refl, omega arith, refl, bare)

shape_length : (spelled : List ℕ) → IsShape spelled → 1 ≤ length spelled
shape_length spelled (two c e) = omega arith
shape_length spelled (braced s inside e n) = omega arith

-- each text is read so
outcome : (n at : ℕ) (text : List ℕ) → length text ≤ n → IsOutcome text at (template_from [] at text)
outcome n at [] le = refl
outcome zero at (b ∷ bytes) le = absurd (omega (arith, le))
outcome (suc n) at (b ∷ bytes) le = by_test (begins_value b bytes) refl (λ k t short. outcome n k t short)
  where
    plain_front : begins_value b bytes ≡ false → (front left : List ℕ) → bytes ≡ front ++ left → (b == 36 && next_is 123 front) ≡ false
    plain_front e [] left f = and-false (b == 36)
    plain_front e (c ∷ front) left f = ap (λ k. b == 36 && next_is 123 k) (sym f) ∙ (begins_plain b bytes e).1

    by_piece : (spelled after : List ℕ) → b ∷ bytes ≡ spelled ++ after → begins_value b bytes ≡ true → IsShape spelled → IsOutcome after (at + length spelled) (template_from [] (at + length spelled) after) →
        (o : Option Piece) → piece_of spelled ≡ o → IsOutcome (spelled ++ after) at (with_first o (template_from [] (at + length spelled) after) at)
    by_piece spelled after e begins shape more None p =
        refused_here (spelled ++ after) at (
          b,
          bytes,
          sym e,
          begins,
          (λ rest f.
              let same = one_shape spelled (37 ∷ 37 ∷ []) after rest shape (two 37 refl) f in
              let g : None ≡ Some (Literal (37 ∷ [])) = sym p ∙ ap piece_of same.0 in cc),
          (λ a other rest f form.
              let is = form_is a other form in let same = one_shape spelled other after rest shape is.0 f in
              let g : None ≡ Some (Value a) = sym p ∙ ap piece_of same.0 ∙ is.1 in cc),
        )
    by_piece spelled after e begins shape more (Some (Literal bytes)) p =
        let is = is_percent spelled bytes shape p in
        subst (λ k. IsOutcome (k ++ after) at (with_first (Some (Literal bytes)) (template_from [] (at + length k) after) at)) (sym is.0)
        (subst (λ k. IsOutcome (37 ∷ 37 ∷ after) at (with_first (Some (Literal k)) (template_from [] (at + 2) after) at)) (sym is.1)
        (byte_outcome 37 at (at + 2) (37 ∷ 37 ∷ []) after (template_from [] (at + 2) after) refl refl (λ front left f. refl)
        (subst (λ k. IsOutcome after (at + length k) (template_from [] (at + length k) after)) is.0 more)))
    by_piece spelled after e begins shape more (Some (Value a)) p = value_outcome a at spelled after (template_from [] (at + length spelled) after) (is_form a spelled shape p) more

    by_view : ((k : ℕ) (t : List ℕ) → length t ≤ n → IsOutcome t k (template_from [] k t)) → begins_value b bytes ≡ true →
        ((spelled after : List ℕ) × (b ∷ bytes ≡ spelled ++ after) × IsShape spelled) ⊎ (IsShapeless (b ∷ bytes) × ((k : ℕ) → template_from [] k (b ∷ bytes) ≡ Err k)) →
        IsOutcome (b ∷ bytes) at (template_from [] at (b ∷ bytes))
    by_view reads begins (inl (spelled, after, e, shape)) =
        let short : length after ≤ n = omega (arith, le, ap length e, length-append spelled after, shape_length spelled shape) in
        let piece = by_piece spelled after e begins shape (reads (at + length spelled) after short) (piece_of spelled) refl in
        subst (λ k. IsOutcome k at (template_from [] at k)) (sym e) (subst (IsOutcome (spelled ++ after) at) (sym (shape_reads spelled after at shape)) piece)
    by_view reads begins (inr (none, refuses)) =
        subst (IsOutcome (b ∷ bytes) at) (sym (refuses at)) (refused_here (b ∷ bytes) at (
          b,
          bytes,
          refl,
          begins,
          (λ rest f. none (37 ∷ 37 ∷ []) rest f (two 37 refl)),
          (λ a other rest f form. none other rest f (form_is a other form).0),
        ))

    by_test : (t : Bool) → begins_value b bytes ≡ t → ((k : ℕ) (t : List ℕ) → length t ≤ n → IsOutcome t k (template_from [] k t)) → IsOutcome (b ∷ bytes) at (template_from [] at (b ∷ bytes))
    by_test false e reads =
        let byte : spelled_byte b ≡ b ∷ [] = ap (λ t. if t then 37 ∷ 37 ∷ [] else b ∷ []) (begins_plain b bytes e).0 in
        subst (IsOutcome (b ∷ bytes) at) (sym (plain_reads b at bytes e))
        (byte_outcome b at (at + 1) (b ∷ []) bytes (template_from [] (at + 1) bytes) byte refl (plain_front e) (reads (at + 1) bytes (omega (arith, le))))
    by_test true e reads = by_view reads e (shape_or_open b bytes e)

outcome_at : (text : List ℕ) (r : Result (List Piece) ℕ) → template_of text ≡ r → IsOutcome text 0 r
outcome_at text r e = subst (IsOutcome text 0) e (outcome (length text) 0 text (omega arith))

pub templates_are_spelled : TemplatesSpelled
templates_are_spelled text ps = (outcome_at text (Ok ps), reads)
  where
    reads : Spells text ps → template_of text ≡ Ok ps
    reads s = ap (template_from [] 0) (sym (append-nil text)) ∙ spelled_reads ps text [] 0 s refl (λ n. tt) ∙ ap (λ k. Ok k) (append-nil ps)

pub template_faults_are : TemplateFaults
template_faults_are text place = (λ e. from_start (outcome_at text (Err place) e), refused)
  where
    from_start : IsOutcome text 0 (Err place) → (front left : List ℕ) × (ps : List Piece) × (text ≡ front ++ left) × (place ≡ length front) × Spells front ps × BeginsNoPiece left
    from_start (front, left, ps, e, p, s, bare) = (front, left, ps, e, omega (arith, p), s, bare)

    refused : (front left : List ℕ) × (ps : List Piece) × (text ≡ front ++ left) × (place ≡ length front) × Spells front ps × BeginsNoPiece left → template_of text ≡ Err place
    refused (front, left, ps, e, p, s, bare) =
        ap (template_from [] 0) e
        ∙ spelled_reads ps front left 0 s (no_piece_next left bare) (λ n. subst JoinsNot (sym (no_piece_reads left n bare)) tt)
        ∙ ap (behind ps) (no_piece_reads left (0 + length front) bare) ∙ ap (λ k. Err k) (let z : 0 + length front ≡ place = omega (arith, p) in z)
