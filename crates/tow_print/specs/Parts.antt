-- The parts of a tree in the printed form, as the code takes them.
use Rattle.std.specs.Prelude.{ℕ, List, [], ◌∷◌, ◌++◌, flat_map, codes}
use Rattle.tow_model.specs.declared.predicate.Predicate.{Predicate, fold-Predicate}
use Rattle.tow_language.specs.Printed.{predicate_by}
use Rattle.tow_language.specs.Templates.{spelled_template}
use Rattle.tow_print.specs.declared.printer.forms.Form.{Form}
use Rattle.tow_print.specs.declared.printer.long_forms.LongTemplate.{LongTemplate}
use Rattle.tow_print.specs.declared.printer.predicates.Site.{Site}
use Rattle.tow_print.specs.declared.printer.predicates.Site.TheVariants.{Whole, Conjunct, Factor}

-- what an attribute is spelled as
abbrev pub spelled_form : Form → List ℕ
spelled_form form = form.before.now ++ (form.name.now ++ form.behind.now)

-- what a template with a long form is spelled as
abbrev pub spelled_parts : LongTemplate → List ℕ
spelled_parts t = spelled_template t.front.now ++ (spelled_form t.long ++ spelled_template t.behind.now)

-- how tightly the place of a predicate binds
abbrev pub tightness : Site → ℕ
tightness Whole = 0
tightness Conjunct = 1
tightness Factor = 2

-- a predicate at a place that binds at most so tightly
abbrev pub printed_at : Predicate → ℕ → List ℕ
printed_at p place = fold-Predicate (ℕ → List ℕ) predicate_by p place

-- the parts of a block behind its opening brace
abbrev pub parts_behind : List (List ℕ) → List ℕ
parts_behind [] = []
parts_behind (s ∷ ss) = codes " " ++ (s ++ flat_map (λ t. codes "; " ++ t) ss)

-- what stands before a part that has these before it
abbrev pub before_part : List (List ℕ) → List ℕ
before_part [] = codes " "
before_part (s ∷ ss) = codes "; "
