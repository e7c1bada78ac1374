use Rattle.tow_site.proofs.Naming.{any_count}
use Rattle.tow_site.proofs.Sites.{one_program}
use Rattle.tow_site.proofs.compiling.compile.Goals as goal

pub build_site-requires-clause-program : goal.build_site-requires-clause-program
build_site-requires-clause-program g c =
    one_program c.args.text.now c.in-Ok-program_again.program c.in-Ok-parse.parsed.tree c.in-Ok-parse.parsed.patterns c.in-Ok-parse.ensures.ok
    c.in-Ok-program_again.ensures.ok

pub returns-in-Err-clause-fault : goal.returns-in-Err-clause-fault
returns-in-Err-clause-fault g c =
    any_count c.args.text.now (g.M.Maker.larges c.args.maker.now) (g.M.Maker.larges c.args.maker.now) c.fault_of_tokens.result
    c.fault_of_tokens.ensures.fault

pub returns-in-Err-parse-clause-fault : goal.returns-in-Err-parse-clause-fault
returns-in-Err-parse-clause-fault g c =
    any_count c.args.text.now (g.M.Maker.larges c.args.maker.now) (g.M.Maker.larges c.args.maker.now) c.fault_of_tree.result
    c.fault_of_tree.ensures.fault

pub returns-in-Err-program_again-clause-fault : goal.returns-in-Err-program_again-clause-fault
returns-in-Err-program_again-clause-fault g c =
    any_count c.args.text.now (g.M.Maker.larges c.args.maker.now) (g.M.Maker.larges c.args.maker.now) c.in-Err-program_again.fault c.in-Err-program_again.ensures.fault
