-- A template meets the segments of a text, one part after the other.
use Rattle.std.proofs.Common.{◌≡◌, Bool, true, false, not, List, [], ◌∷◌, ◌++◌, map, Option, Some, None, if◌then◌else◌, refl, sym, ap, ◌∙◌, append-nil, append_assoc}
use Rattle.std.proofs.lemmas.List.{map-append}
use Rattle.std.specs.Option.{option_map}
use Rattle.std.specs.Str.{bytes_eq}
use denote.Ref.{Bor}
use Rattle.tow_model.specs.declared.predicate.Segment.{Segment}
use Rattle.tow_model.specs.declared.predicate.Segment.TheVariants.{Fixed, Bind}
use Rattle.tow_model.specs.declared.request.Field.{Field}
use Rattle.tow_model.specs.Texts.{Text, is_empty}
use Rattle.tow_model.specs.Fields.{field}
use Rattle.tow_model.specs.Paths.{bind_segments}
use Rattle.tow_path.specs.Parts.{meets, bindings}

-- the bindings so far, and those that follow
abbrev pub and_then : List Field → Option (List Field) → Option (List Field)
and_then fields found = option_map (λ more. fields ++ more) found

and_nothing : (found : Option (List Field)) → found ≡ and_then [] found
and_nothing None = refl
and_nothing (Some more) = refl

and_more : (a b : List Field) (found : Option (List Field)) → and_then a (and_then b found) ≡ and_then (a ++ b) found
and_more a b None = refl
and_more a b (Some more) = ap (λ k. Some k) (sym (append_assoc a b more))

fixed : (x : Bool) (found : Option (List Field)) → (if x then found else None) ≡ (if x then and_then [] found else None)
fixed true found = and_nothing found
fixed false found = refl

binds : (x : Bool) (f : Field) (found : Option (List Field)) → (if x then None else option_map (λ more. f ∷ more) found) ≡ (if not x then and_then (f ∷ []) found else None)
binds true f found = refl
binds false f found = refl

one_part : (part : Segment) (parts : List Segment) (s : Text) (ss : List Text)
    → bind_segments (part ∷ parts) (s ∷ ss) ≡ (if meets part s then and_then (bindings part s) (bind_segments parts ss) else None)
one_part (Fixed text) parts s ss = fixed (bytes_eq s text) (bind_segments parts ss)
one_part (Bind name) parts s ss = binds (is_empty s) (field name s) (bind_segments parts ss)

part_meets : (part : Segment) (parts : List Segment) (s : Text) (ss : List Text) → meets part s ≡ true → bind_segments (part ∷ parts) (s ∷ ss) ≡ and_then (bindings part s) (bind_segments parts ss)
part_meets part parts s ss is = one_part part parts s ss ∙ ap (λ k. if k then and_then (bindings part s) (bind_segments parts ss) else None) is

part_fails : (part : Segment) (parts : List Segment) (s : Text) (ss : List Text) → meets part s ≡ false → bind_segments (part ∷ parts) (s ∷ ss) ≡ None
part_fails part parts s ss is = one_part part parts s ss ∙ ap (λ k. if k then and_then (bindings part s) (bind_segments parts ss) else None) is

-- what the loop keeps: the parts behind, met by the segments so far, gave the fields, and the parts that are left meet the rest
abbrev pub Goes : List Segment → List (Bor Text) → List Segment → List Field → Type 0
Goes parts yielded left fields = (more : List Text) → bind_segments parts (map (λ x. x.now) yielded ++ more) ≡ and_then fields (bind_segments left more)

pub goes_first : (parts : List Segment) → Goes parts [] parts []
goes_first parts = λ more. and_nothing (bind_segments parts more)

pub goes_on : (parts : List Segment) (yielded : List (Bor Text)) (left : List Segment) (fields : List Field) (segment : Bor Text) (part : Segment) (more_parts : List Segment) (grown : List Field) → Goes parts yielded left fields
    → left ≡ part ∷ more_parts → meets part segment.now ≡ true → grown ≡ fields ++ bindings part segment.now → Goes parts (yielded ++ segment ∷ []) more_parts grown
goes_on parts yielded left fields segment part more_parts grown goes is met grows = λ more.
    ap (λ k. bind_segments parts (k ++ more)) (map-append (λ (x : Bor Text). x.now) yielded (segment ∷ []))
    ∙ ap (bind_segments parts) (append_assoc (map (λ (x : Bor Text). x.now) yielded) (segment.now ∷ []) more) ∙ goes (segment.now ∷ more)
    ∙ ap (λ k. and_then fields (bind_segments k (segment.now ∷ more))) is ∙ ap (and_then fields) (part_meets part more_parts segment.now more met)
    ∙ and_more fields (bindings part segment.now) (bind_segments more_parts more) ∙ ap (λ k. and_then k (bind_segments more_parts more)) (sym grows)

-- no part is left for a segment
pub too_long : (parts : List Segment) (yielded : List (Bor Text)) (left : List Segment) (fields : List Field) (s : Text) (rest all : List Text) → Goes parts yielded left fields
    → left ≡ [] → all ≡ map (λ x. x.now) yielded ++ s ∷ rest → None ≡ bind_segments parts all
too_long parts yielded left fields s rest all goes none is =
    sym (ap (bind_segments parts) is ∙ goes (s ∷ rest) ∙ ap (λ k. and_then fields (bind_segments k (s ∷ rest))) none)

-- a part does not meet its segment
pub not_met : (parts : List Segment) (yielded : List (Bor Text)) (left : List Segment) (fields : List Field) (part : Segment) (more_parts : List Segment) (s : Text) (rest all : List Text) → Goes parts yielded left fields
    → left ≡ part ∷ more_parts → meets part s ≡ false → all ≡ map (λ x. x.now) yielded ++ s ∷ rest → None ≡ bind_segments parts all
not_met parts yielded left fields part more_parts s rest all goes some fails is =
    sym (ap (bind_segments parts) is ∙ goes (s ∷ rest) ∙ ap (λ k. and_then fields (bind_segments k (s ∷ rest))) some ∙ ap (and_then fields) (part_fails part more_parts s rest fails))

end_is : (parts : List Segment) (yielded : List (Bor Text)) (left : List Segment) (fields : List Field) (all : List Text) → Goes parts yielded left fields
    → map (λ x. x.now) yielded ≡ all → bind_segments parts all ≡ and_then fields (bind_segments left [])
end_is parts yielded left fields all goes is = ap (bind_segments parts) (sym (append-nil (map (λ x. x.now) yielded) ∙ is)) ∙ goes []

-- every segment has met its part
pub all_met : (parts : List Segment) (yielded : List (Bor Text)) (left : List Segment) (fields : List Field) (all : List Text) → Goes parts yielded left fields
    → map (λ x. x.now) yielded ≡ all → left ≡ [] → Some fields ≡ bind_segments parts all
all_met parts yielded left fields all goes is none =
    sym (end_is parts yielded left fields all goes is ∙ ap (λ k. and_then fields (bind_segments k [])) none ∙ ap (λ k. Some k) (append-nil fields))

parts_left : (left : List Segment) (fields : List Field) → (left ≡ [] → ⊥) → and_then fields (bind_segments left []) ≡ None
parts_left [] fields some = absurd (some refl)
parts_left (part ∷ left) fields some = refl

-- no segment is left for a part
pub too_short : (parts : List Segment) (yielded : List (Bor Text)) (left : List Segment) (fields : List Field) (all : List Text) → Goes parts yielded left fields
    → map (λ x. x.now) yielded ≡ all → (left ≡ [] → ⊥) → None ≡ bind_segments parts all
too_short parts yielded left fields all goes is some = sym (end_is parts yielded left fields all goes is ∙ parts_left left fields some)
