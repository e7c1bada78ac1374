use Rattle.std.proofs.Common.{rules, ◌≡◌, List}
use Rattle.tow_model.specs.declared.statement.Statement.{Statement}
use Rattle.tow_exchange.specs.Exchanges.{with_fields}
use Rattle.tow_exchange.specs.declared.phase.Phase.TheVariants.{AwaitsPage}
use Rattle.tow_program.specs.Programs.{program_of}
use Rattle.tow_course.specs.Course.{Advances}
use Rattle.tow_walks.specs.Folders.{told_by}
use Rattle.tow_walks.specs.Walks.{BreaksOff, Looks}
use Rattle.tow_walks.proofs.Steps.{by_look, cut_at_page, cut_in_step, some_page}
use Rattle.tow_walks.proofs.walking.turn.Goals as goal

pub returns-in-Given-clause-walks : goal.returns-in-Given-clause-walks
returns-in-Given-clause-walks g c =
    let told = told_by g.F.Folder.shows c.args.folder.now in
    let seen = c.go_on.new.exchange in
    let goes : (tree : List Statement) → c.args.program.now ≡ program_of tree → Advances tree c.args.exchange.now seen = search rules in
    let looked : Looks told seen c.look_by.new.exchange = search rules in
    λ known tree is. by_look tree told c.args.exchange.now seen c.look_by.new.exchange (goes tree is) looked

pub returns-in-NeedFolder-clause-short : goal.returns-in-NeedFolder-clause-short
returns-in-NeedFolder-clause-short g c =
    let told = told_by g.F.Folder.shows c.args.folder.now in
    let seen = c.go_on.new.exchange in
    let new = c.look_by.new.exchange in
    let goes : (tree : List Statement) → c.args.program.now ≡ program_of tree → Advances tree c.args.exchange.now seen = search rules in
    let waits : seen.phase ≡ AwaitsPage c.in-NeedFolder.location c.in-NeedFolder.listing = search rules in
    let fields : new ≡ with_fields new.stand.state.fields seen = search rules in
    λ short tree is. cut_at_page tree told c.args.exchange.now seen new (goes tree is)
    (record { waits = some_page seen.phase c.in-NeedFolder.location c.in-NeedFolder.listing waits; fields = fields })

pub returns-clause-short : goal.returns-clause-short
returns-clause-short g c =
    let told = told_by g.F.Folder.shows c.args.folder.now in
    let breaks : (tree : List Statement) → c.args.program.now ≡ program_of tree → BreaksOff tree c.args.exchange.now c.go_on.new.exchange = search rules in
    λ short tree is. cut_in_step tree told c.args.exchange.now c.go_on.new.exchange (breaks tree is)
