use Rattle.std.proofs.Common.{rules, ◌≡◌, ◌≢◌, ℕ, true, false, Option, None, Some, sym, ap, subst, ◌∙◌}
use Rattle.tow_semantics.specs.Files.{Files}
use Rattle.tow_walks.specs.Folders.{FolderStays, may_look, told_by}
use Rattle.tow_walks.specs.Walks.{IsCutShort, Walks}
use Rattle.tow_walks.specs.declared.halt.Halt.TheVariants.{NoMemory}
use Rattle.tow_walks.proofs.Folders.{folder_further, looks_same, tells_same}
use Rattle.tow_walks.proofs.Steps.{cut_later, keeps_further, walk_on}
use Rattle.tow_walks.proofs.walking.walk.Goals as goal

pub returns-in-Some-clause-walks : goal.returns-in-Some-clause-walks
returns-in-Some-clause-walks g c =
    let shows = g.F.Folder.shows in
    let told = told_by shows c.args.folder.now in
    let there = c.loop-halt.exchange in
    let new = c.turn.new.exchange in
    let i = c.loop-halt.invariant in
    let same = tells_same shows c.args.exchange.now.connection c.args.folder.now c.loop-halt.folder i.4 in
    λ known tree is.
    let live : Some c.in-Some.halt ≢ Some NoMemory = λ wrong. known cc in
    walk_on tree told c.args.exchange.now there new (i.2 tree is)
    (subst (λ (t : Option Files). Walks tree t there new) same (c.in-Some.ensures.walks live tree is))

pub returns-in-Some-clause-short : goal.returns-in-Some-clause-short
returns-in-Some-clause-short g c =
    let shows = g.F.Folder.shows in
    let told = told_by shows c.args.folder.now in
    let there = c.loop-halt.exchange in
    let new = c.turn.new.exchange in
    let i = c.loop-halt.invariant in
    let same = tells_same shows c.args.exchange.now.connection c.args.folder.now c.loop-halt.folder i.4 in
    λ short tree is.
    cut_later tree told c.args.exchange.now there new (i.2 tree is)
    (subst (λ (t : Option Files). IsCutShort tree t there new) same (c.in-Some.ensures.short (ap Some short) tree is))

pub returns-in-Some-clause-keeps : goal.returns-in-Some-clause-keeps
returns-in-Some-clause-keeps g c =
    keeps_further c.args.program.now c.args.exchange.now c.loop-halt.exchange c.turn.new.exchange c.loop-halt.invariant.3 c.turn.ensures.keeps

pub loop-halt-preserved : goal.loop-halt-preserved
loop-halt-preserved g c =
    let shows = g.F.Folder.shows in
    let told = told_by shows c.args.folder.now in
    let old = c.args.exchange.now in
    let there = c.loop-halt.exchange in
    let new = c.turn.new.exchange in
    let i = c.loop-halt.invariant in
    let none : c.turn.result ≡ None = search rules in
    let live : c.turn.result ≢ Some NoMemory = λ wrong. cc in
    let may : may_look c.args.role c.args.folder.now ≡ true =
    sym (looks_same shows old.connection c.args.role c.args.folder.now c.loop-halt.folder i.4) ∙ c.turn.ensures.looks none in
    let same = tells_same shows old.connection c.args.folder.now c.loop-halt.folder i.4 in
    let stays : FolderStays shows old.connection c.loop-halt.folder c.turn.new.folder =
    subst (λ (k : ℕ). FolderStays shows k c.loop-halt.folder c.turn.new.folder) i.3.connection c.turn.ensures.folder in
    let scratch : c.turn.new.scratch ≡ c.loop-halt.scratch = search rules in (
      λ idle. absurd (let wrong : true ≡ false = sym may ∙ idle in cc),
      λ idle. absurd (let wrong : true ≡ false = sym may ∙ idle in cc),
      λ tree is. walk_on tree told old there new (i.2 tree is)
          (subst (λ (t : Option Files). Walks tree t there new) same (c.turn.ensures.walks live tree is)),
      keeps_further c.args.program.now old there new i.3 c.turn.ensures.keeps,
      folder_further shows old.connection c.args.folder.now c.loop-halt.folder c.turn.new.folder i.4 stays,
      scratch ∙ i.5,
    )
