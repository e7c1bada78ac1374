use Rattle.std.proofs.Common.{◌∙◌, ap, take}
use Rattle.tow_attr.proofs.Signs.{before_place}
use Rattle.tow_attr.proofs.binding.name_of.Goals as goal

pub returns : goal.returns
returns c = ap (λ n. take n c.args.text.now) c.sign_place.ensures ∙ before_place 61 c.args.text.now
