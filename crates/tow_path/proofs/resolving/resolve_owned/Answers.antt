use Rattle.std.proofs.Common.{◌∙◌, sym, ap}
use Rattle.tow_path.specs.Output.{has_dot_segment}
use Rattle.tow_path.proofs.Outputs.{stays}
use Rattle.tow_path.proofs.resolving.resolve_owned.Goals as goal

pub returns : goal.returns
returns c =
    c.from_vec.ensures
    ∙ stays c.args.path.items (ap has_dot_segment (sym c.as_slice.ensures.value) ∙ sym c.has_dot_segment.ensures ∙ c.if-has_dot_segment.false)
