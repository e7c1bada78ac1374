use Rattle.std.proofs.Common.{rules, ◌≡◌, ◌+◌, Some, None, option_map, sym, ap, subst, ◌∙◌}
use Rattle.tow_program.specs.Skips.{shown}
use Rattle.tow_program.specs.Tables.{AreEntered, unentered}
use Rattle.tow_program.specs.declared.table.Table.{Table}
use Rattle.tow_program.proofs.Entering.{rests, start_entered}
use Rattle.tow_program.proofs.table.Table.new.Goals.{then-is_some+in_ok-put_run, else-is_some}
use Rattle.tow_program.proofs.table.Table.new.Goals as goal

pub loop-start-preserved : goal.loop-start-preserved
loop-start-preserved c =
    let program = c.args.instructions.now in
    let l = c.loop-start in
    elim c.if-is_some.branch [
      | then-is_some+in_ok-put_run w ↦
          let entered : AreEntered program (l.start + 1) w.put_run.new.self.runs w.put_run.new.self.entries.items = search rules in
          subst (λ (t : Table). AreEntered program (l.start + 1) t.runs t.entries.items) (sym w.table-is) entered
      | else-is_some w ↦
          let none : c.unentered.result ≡ None = search rules in
          let lacks : unentered program l.table.entries.items l.start ≡ None = sym c.unentered.ensures ∙ ap (option_map shown) none in
          subst (λ (t : Table). AreEntered program (l.start + 1) t.runs t.entries.items) (sym w.table-is)
          (start_entered program l.start l.table.runs l.table.entries.items l.invariant (rests program l.table.entries.items l.start lacks))
    ]
