use Rattle.std.proofs.Common.{◌≡◌}
use Rattle.tow_explain.specs.Surroundings as model
use Rattle.tow_explain.proofs.«open».open_before.Given as goal

abbrev pub invariant-tokens : goal.invariant-tokens
invariant-tokens l = l.«open».items ≡ model.open_before l.script.tokens.now l.at
