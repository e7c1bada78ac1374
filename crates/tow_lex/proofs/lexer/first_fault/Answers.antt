use Rattle.std.proofs.Common.{◌∙◌, sym}
use Rattle.tow_lex.proofs.Stops.{bad_at_end, bad_at_stop, early_faults}
use Rattle.tow_lex.proofs.lexer.first_fault.Goals as goal
use Rattle.tow_lex.proofs.lexer.first_fault.Goals.{in-Ok, in-Err, in-Err-2}

pub returns : goal.returns
returns c =
    let text = c.args.text.now in let place = c.args.place in
    elim c.match-scan.branch [
      | in-Ok w ↦ rw w.result-is (bad_at_end text place w.in-Ok.field-0 c.requires.short c.requires.valid w.in-Ok.ensures.ok)
      | in-Err w ↦
          rw w.result-is (early_faults text place w.in-Err.fault c.requires.short c.requires.valid w.in-Err.ensures.err (sym w.comes_first.ensures ∙ w.if-comes_first.true))
      | in-Err-2 w ↦
          rw w.result-is (bad_at_stop text place w.in-Err.fault c.requires.short c.requires.valid w.in-Err.ensures.err (sym w.comes_first.ensures ∙ w.if-comes_first.false))
    ]
