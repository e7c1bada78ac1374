use Rattle.std.proofs.Common.{◌≡◌}
use Rattle.tow_explain.specs.Scripts as model
use Rattle.tow_explain.proofs.script.Script.past_lines.Given as goal

abbrev pub invariant-tokens : goal.invariant-tokens
invariant-tokens l = model.past_lines l.self.tokens.now l.at ≡ model.past_lines l.self.tokens.now l.index
