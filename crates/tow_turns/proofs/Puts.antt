-- An answer is put as far as there is room, and then something follows.
use Rattle.std.proofs.Common.{◌≡◌, ◌≢◌, ◌⊎◌, inl, inr, ◌<◌, ◌≤◌, ◌+◌, ◌*◌, ℕ, Bool, List, [], ◌∷◌, length, Option, Some, None, refl, sym, ap, subst, ◌∙◌, arith}
use Rattle.std.proofs.lemmas.List.{nil_from_length}
use Rattle.std.proofs.lemmas.List.Elements.{All-head}
use Rattle.circular_buffer.specs.Buffer.{Buffer, buffer}
use Rattle.tow_model.specs.declared.account.Role.{Role}
use Rattle.tow_model.specs.declared.account.End.{End}
use Rattle.tow_model.specs.declared.account.End.TheVariants.{FolderFault}
use Rattle.tow_model.specs.declared.limits.TheConstants.{PIPE_LEN}
use Rattle.tow_model.specs.declared.statement.Statement.{Statement}
use Rattle.tow_semantics.specs.Files.{Files}
use Rattle.tow_closing.specs.Closings.{ClosingData}
use Rattle.tow_source.specs.declared.drain.Drain.{Drain}
use Rattle.tow_content.specs.declared.source.ContentSource.{ContentSource}
use Rattle.tow_link.specs.Data.{Rose}
use Rattle.tow_replies.specs.Replies.{FitPipe}
use Rattle.tow_sending.specs.Pieces.{Own, Part, Piece, size_of}
use Rattle.tow_sending.specs.declared.sent.Sent.{Sent}
use Rattle.tow_sending.specs.declared.sent.Sent.TheVariants as sent
use Rattle.tow_stages.specs.Stages.{Base, Stage, answering, closing}
use Rattle.tow_turns.specs.Cuts.{IsLive}
use Rattle.tow_turns.specs.Nexts.{IsForLoop, IsForWorker, IsNext, IsOwnEnd, KeepsLink, StepFits, end_in, weight}
use Rattle.tow_turns.specs.Puttings.{HasPut, IsFileNext, IsFull, with_output}
use Rattle.tow_turns.specs.Roles.{IsLoop}
use Rattle.tow_turns.specs.Safe.{IsPuttable}
use Rattle.tow_turns.specs.declared.stage.Then.{Then}
use Rattle.tow_turns.specs.declared.stage.Then.TheVariants.{On, Read, Stop, Write}
use Rattle.tow_turns.specs.declared.turn.Turn.TheVariants.{ToPool}
use Rattle.tow_turns.proofs.Cuts.{answer_leaves}
use Rattle.tow_turns.proofs.Fits.{goes_on, live_is_not_over, waits_for, write_goes_not_on, write_reads_not}

-- another pipe of output changes nothing of the link
pub output_keeps : (b b' : Base) (pipe : Buffer ℕ) → b' ≡ with_output pipe b → KeepsLink b b'
output_keeps b b' pipe is = record {
  link = ap (λ (x : Base). x.port.link) is;
  ended_so = ap (λ (x : Base). x.port.ended) is;
  number = ap (λ (x : Base). x.number) is;
}

-- ---- the link is to be written

-- there is no room for the next piece, which an empty pipe has room for
full_holds : (b : Base) (d : ClosingData) (pieces : List Piece) (closes : Bool) (drain : Option (Drain ContentSource)) → FitPipe pieces
    → b.port.output.capacity ≡ PIPE_LEN → IsFull pieces b.port.output
    → IsForLoop b (answering d pieces closes drain) × (0 < length b.port.output.items)
full_holds b d [] closes drain fit large full = absurd full
full_holds b d (p ∷ rest) closes drain fit large full =
    let small : size_of p ≤ PIPE_LEN = All-head (λ (x : Piece). size_of x ≤ PIPE_LEN) p rest fit in
    (full, omega (arith, small, large, full))

module _ (role : Role) (tree : List Statement) (told : Option Files) (n n' : ℕ) (b b' : Base) (d : ClosingData) (pieces : List Piece)
    (closes : Bool) (drain : Option (Drain ContentSource)) (d' : ClosingData) (pieces' : List Piece) (closes' : Bool)
    (drain' : Option (Drain ContentSource)) (keeps : KeepsLink b b') (puttable : IsPuttable told b' d' pieces' drain') where
  abbrev before : Stage
  before = answering d pieces closes drain

  abbrev after : Stage
  after = answering d' pieces' closes' drain'

  writes : IsNext role b' after Write → StepFits role tree told n n' b b' before after Write
  writes next = waits_for role tree told n n' b b' before after tt keeps puttable Write write_goes_not_on next (λ is. absurd (write_reads_not is)) refl

  -- an I/O loop has put a piece
  piece_fits : IsLoop role × (0 < length b'.port.output.items) → StepFits role tree told n n' b b' before after Write
  piece_fits (loop, some) = writes (λ no. absurd (no loop), some, tt)

  full_fits : b'.port.output.capacity ≡ PIPE_LEN → IsFull pieces' b'.port.output → StepFits role tree told n n' b b' before after Write
  full_fits large full =
      let held = full_holds b' d' pieces' closes' drain' puttable.fit large full in
      writes (λ no. held.0, held.1, tt)

  pub put_fits : (tells : Sent) → HasPut role tells pieces' b'.port.output → b'.port.output.capacity ≡ PIPE_LEN
      → (tells ≡ sent.Piece) ⊎ (tells ≡ sent.Full) → StepFits role tree told n n' b b' before after Write
  put_fits tells put large (inl is) = piece_fits (subst (λ (x : Sent). HasPut role x pieces' b'.port.output) is put)
  put_fits tells put large (inr is) = full_fits large (subst (λ (x : Sent). HasPut role x pieces' b'.port.output) is put)

  file_for_worker : (l : List Piece) → IsFileNext l → IsForWorker (answering d' l closes' drain')
  file_for_worker [] is = absurd is
  file_for_worker (Own bytes ∷ rest) is = absurd is
  file_for_worker (Part path at len ∷ rest) is = tt

  stop_is_not_on : Stop ToPool ≢ On
  stop_is_not_on is = cc

  stop_is_not_read : Stop ToPool ≡ Read → ⊥
  stop_is_not_read is = cc

  -- a worker is to go on
  pub pool_fits : IsLoop role × IsFileNext pieces' → StepFits role tree told n n' b b' before after (Stop ToPool)
  pool_fits (loop, file) =
      waits_for role tree told n n' b b' before after tt keeps puttable (Stop ToPool) stop_is_not_on (loop, file_for_worker pieces' file)
      (λ is. absurd (stop_is_not_read is)) refl

  -- the folder failed
  pub fault_fits : (stage : Stage) → stage ≡ closing d' None (Some FolderFault) → b'.port.input ≡ b.port.input → Rose n n'
      → StepFits role tree told n n' b b' before stage On
  fault_fits stage is same rose =
      subst (λ (x : Stage). StepFits role tree told n n' b b' before x On) (sym is)
      (goes_on role tree told n n' b b' before (closing d' None (Some FolderFault)) tt keeps
      (answer_leaves tree told b' d' pieces' drain' FolderFault (closing d' None (Some FolderFault)) refl puttable)
      (subst (λ (x : Buffer ℕ). 8 * length x.items + 3 < 8 * length b.port.input.items + 4) (sym same) (omega arith)) rose)

-- ---- all was put

empty_pipes : (old new : Buffer ℕ) → old.capacity ≡ new.capacity → length old.items ≤ length new.items → new.items ≡ [] → new ≡ old
empty_pipes old new same grows none = buffers old.items new.items none_so none where
  none_so : old.items ≡ []
  none_so = nil_from_length _ (let len : length new.items ≡ 0 = ap (λ (l : List ℕ). length l) none in omega (arith, len, grows))

  buffers : (x y : List ℕ) → x ≡ [] → y ≡ [] → buffer y new.capacity ≡ buffer x old.capacity
  buffers x y is_x is_y = ap (λ (l : List ℕ). buffer l new.capacity) (is_y ∙ sym is_x) ∙ ap (λ (c : ℕ). buffer x c) (sym same)

-- what follows is what follows the last piece
pub whole_fits : (role : Role) (tree : List Statement) (told : Option Files) (n n' : ℕ) (a b c : Base) (x y z : Stage) (follows : Then)
    → weight b y ≡ weight a x → KeepsLink a b → a.port.output.capacity ≡ b.port.output.capacity
    → length a.port.output.items ≤ length b.port.output.items → (follows ≡ Read → b.port.output.items ≡ []) → IsLive x
    → ((end : End) → end_in y ≡ Some end → ⊥) → StepFits role tree told n n' b c y z follows → StepFits role tree told n n' a c x z follows
whole_fits role tree told n n' a b c x y z follows same keeps large grows empty live none fits = record {
  safe = fits.safe;
  next = fits.next;
  nearer = λ on. subst (λ (w : ℕ). weight c z < w) same (fits.nearer on);
  keeps = record {
    link = fits.keeps.link ∙ keeps.link;
    ended_so = fits.keeps.ended_so ∙ keeps.ended_so;
    number = fits.keeps.number ∙ keeps.number;
  };
  waits = λ read. fits.waits read ∙ empty_pipes a.port.output b.port.output large grows (empty read);
  links = λ which. live;
  stays_over = λ over_so. absurd (live_is_not_over x live over_so);
  ends_so = λ end is. ends_by end (fits.ends_so end is);
} where
  ends_by : (end : End) → (end_in y ≡ Some end) ⊎ IsOwnEnd n n' end → (end_in x ≡ Some end) ⊎ IsOwnEnd n n' end
  ends_by end (inl kept) = absurd (none end kept)
  ends_by end (inr own) = inr own
