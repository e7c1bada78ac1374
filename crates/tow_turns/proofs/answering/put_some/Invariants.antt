use Rattle.std.proofs.Common.{◌≡◌, ◌≤◌, length}
use Rattle.tow_states.specs.Known.{Setting}
use Rattle.tow_walks.specs.Folders.{FolderStays, told_by}
use Rattle.tow_turns.specs.Data.{base_of, stage_of}
use Rattle.tow_turns.specs.Folders.{IsFolderOf}
use Rattle.tow_turns.specs.Puttings.{with_output}
use Rattle.tow_turns.specs.Roles.{IsLoop}
use Rattle.tow_turns.specs.Safe.{IsPuttable}
use Rattle.tow_turns.specs.Steps.{Leads}
use Rattle.tow_turns.specs.declared.stage.Stage.TheVariants as stage
use Rattle.tow_turns.proofs.answering.put_some.Given as goal

-- Some pieces were put, and nothing else changed.
abbrev pub invariant-pieces : goal.invariant-pieces
invariant-pieces g l = record {
  steps : (s : Setting) → IsFolderOf g.F.Folder.shows l.initial.folder s.files
      → Leads s (base_of g.L.Link.shows l.initial.base) (base_of g.L.Link.shows l.base)
      (stage_of (stage.Answering l.initial.answering)) (stage_of (stage.Answering l.answering));
  puttable : IsPuttable (told_by g.F.Folder.shows l.initial.folder) (base_of g.L.Link.shows l.base)
      l.answering.closing l.answering.sending l.answering.drain;
  base : base_of g.L.Link.shows l.base ≡ with_output l.base.port.output (base_of g.L.Link.shows l.initial.base);
  grows : length l.initial.base.port.output.items ≤ length l.base.port.output.items;
  folder : FolderStays g.F.Folder.shows l.initial.base.number l.initial.folder l.folder;
  idle : IsLoop l.role → l.folder ≡ l.initial.folder;
}

-- how many pieces are left
abbrev pub decreases-pieces : goal.decreases-pieces
decreases-pieces g l = length l.answering.sending
