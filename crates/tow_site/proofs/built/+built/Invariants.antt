use Rattle.std.proofs.Common.{◌≡◌, drop}
use Rattle.std.specs.List.{list_all}
use Rattle.tow_site.specs.Built as built
use Rattle.tow_site.proofs.built.+built.Given as goal

-- all are built just where those still to come are
abbrev pub invariant-are_built-loop-statement : goal.invariant-are_built-loop-statement
invariant-are_built-loop-statement l =
    list_all built.is_built_statement l.statements ≡ list_all built.is_built_statement (drop l.statement-index l.statements)
