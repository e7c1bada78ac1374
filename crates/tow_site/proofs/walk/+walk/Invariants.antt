use Rattle.std.proofs.Common.{◌≡◌, IsTrue, drop}
use Rattle.std.specs.List.{list_all}
use Rattle.tow_model.specs.declared.record.Record.{Record}
use Rattle.tow_semantics.specs.Predicates.{AreAmong}
use Rattle.tow_pred.specs.Numbering.{tree_patterns}
use Rattle.tow_site.specs.Built.{is_built_statement}
use Rattle.tow_site.specs.Walking.{WalksAll}
use Rattle.tow_site.specs.declared.walk.Walked.{Walked}
use Rattle.tow_site.proofs.walk.+walk.Given as goal

-- the statements still to come are built, and what they lead to is what all lead to
abbrev pub invariant-walk_list-loop-statement : goal.invariant-walk_list-loop-statement
invariant-walk_list-loop-statement l =
    record {
      built : IsTrue (list_all is_built_statement (drop l.statement-index l.statements));
      among : AreAmong (tree_patterns (drop l.statement-index l.statements)) l.initial.scratch;
      scratch : l.scratch ≡ l.initial.scratch;
      leads : (end : Walked) (y : Record) → WalksAll l.request l.moment (drop l.statement-index l.statements) l.state end y
          → WalksAll l.request l.moment l.statements l.initial.state end y;
    }
