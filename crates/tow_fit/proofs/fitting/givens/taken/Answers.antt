use Rattle.std.proofs.Common.{◌∙◌, ◌<◌, List, length, ap, sym, subst, map, get_or, option_map, Some}
use Rattle.std.specs.Prelude.{bytes_eq}
use Rattle.std.specs.Map.{lookup}
use Rattle.std.specs.Option.{option_or}
use Rattle.tow_language.specs.declared.kind.Kind.TheVariants.{BadParameter}
use Rattle.tow_language.specs.Fit.{wanted}
use Rattle.tow_fit.specs.declared.fitting.parameters.Found.{Found}
use Rattle.tow_fit.specs.Fitting.{Meets, found_as}
use Rattle.tow_language.specs.Signatures.{standard_of}
use Rattle.tow_fit.proofs.Taking.{lookup_removed, other_name}
use Rattle.tow_fit.proofs.fitting.givens.taken.Goals as goal

pub returns-in-Some-clause-value : goal.returns-in-Some-clause-value
returns-in-Some-clause-value c =
    let row = c.args.row in let taken = c.remove-given.result in
    let here = ap (λ (k : List Found). lookup (bytes_eq row.name.now) (map found_as k)) (sym c.as_slice.ensures.value) ∙ c.in-Some.ensures.value taken in
    let same = ap (λ (k : List Found). Some (get_or k c.in-Some.at taken).given) c.as_slice.ensures.value ∙ ap (λ (f : Found). Some f.given) (sym c.remove-given.ensures.value) in
    ap (λ o. wanted (option_or o (option_map standard_of row.standard)) BadParameter c.args.place) (here ∙ same)

pub returns-in-Some-clause-others : goal.returns-in-Some-clause-others
returns-in-Some-clause-others c name e =
    let found = c.args.found.now.items in let row = c.args.row in let taken = c.remove-given.result in
    let named = ap (λ (k : List Found). bytes_eq row.name.now (get_or k c.in-Some.at taken).row.name.now) (sym c.as_slice.ensures.value) ∙ c.in-Some.ensures.named taken in
    let within = subst (λ (k : List Found). c.in-Some.at < length k) c.as_slice.ensures.value c.in-Some.ensures.within in
    ap (λ (k : List Found). lookup (bytes_eq name) (map found_as k)) c.remove-given.ensures.items
    ∙ lookup_removed name found c.in-Some.at taken within (other_name name row.name.now (get_or found c.in-Some.at taken).row.name.now e named)

pub returns-in-None-clause-value : goal.returns-in-None-clause-value
returns-in-None-clause-value c =
    let row = c.args.row in
    let none = ap (λ (k : List Found). lookup (bytes_eq row.name.now) (map found_as k)) (sym c.as_slice.ensures.value) ∙ c.in-None.ensures.none in
    subst (λ k. Meets c.standard_given.result k)
    (sym (ap (λ o. wanted (option_or o (option_map standard_of row.standard)) BadParameter c.args.place) none)) c.standard_given.ensures
