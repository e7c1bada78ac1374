use Rattle.std.proofs.Common.{◌≡◌, ◌-◌}
use Rattle.tow_explain.specs.Scripts as model
use Rattle.tow_explain.proofs.script.Script.before.Given as goal

abbrev pub invariant-tokens : goal.invariant-tokens
invariant-tokens l = model.before l.self.tokens.now l.past_lines (l.index - l.back) ≡ model.before l.self.tokens.now l.past_lines l.index
