use Rattle.std.proofs.Common.{length, ◌-◌, ◌≡◌, ◌≤◌}
use Rattle.tow_language.specs.Templates.{template_of}
use Rattle.tow_attr.specs.Reading.{ahead, rest_from}
use Rattle.tow_attr.proofs.template.read_template.Given as goal

abbrev pub invariant-loop-draft : goal.invariant-loop-draft
invariant-loop-draft l = (l.at ≤ length l.text) × (template_of l.text ≡ ahead l.draft.pieces l.draft.literal.items (rest_from l.text l.at))

abbrev pub decreases-loop-draft : goal.decreases-loop-draft
decreases-loop-draft l = length l.text - l.at
