use Rattle.std.proofs.Common.{◌≡◌, map, drop}
use Rattle.std.specs.List.{list_all}
use Rattle.std.specs.Str.{bytes_eq}
use Rattle.tow_semantics.specs.Values.{value_of}
use Rattle.tow_pred.proofs.values.have_value.Given as goal

-- whether all have the value is whether those that are left do
abbrev pub invariant-loop-template : goal.invariant-loop-template
invariant-loop-template l =
    list_all (bytes_eq l.wanted) (map (λ v. value_of v l.request l.state l.moment) (drop l.template-index l.templates))
    ≡ list_all (bytes_eq l.wanted) (map (λ v. value_of v l.request l.state l.moment) l.templates)
