-- An exchange that has stopped comes to its answer.
use Rattle.std.specs.Prelude.{IfSome}
use Rattle.std.proofs.Common.{◌≡◌, ◌<◌, Bool, true, false, List, reverse, Option, Some, None, refl, sym, ap, subst, ◌∙◌, lit<}
use Rattle.tow_model.specs.declared.record.Choice.{Choice}
use Rattle.tow_model.specs.declared.record.Listener.{Listener}
use Rattle.tow_model.specs.declared.account.End.TheVariants.{NoMemory}
use Rattle.tow_model.specs.declared.record.Record.{Record}
use Rattle.tow_model.specs.declared.statement.Statement.{Statement}
use Rattle.tow_semantics.specs.Files.{Files}
use Rattle.tow_exchange.specs.Exchanges.{ExchangeData}
use Rattle.tow_exchange.specs.Completions.{CompletedData, completion, without_listeners, without_record}
use Rattle.tow_answer.specs.declared.content_use.ContentUse.{ContentUse}
use Rattle.tow_answer.specs.declared.content_use.ContentUse.TheVariants.{Refused, Served, Unasked}
use Rattle.tow_replies.specs.Replies.{FitPipe, RepliesBy}
use Rattle.tow_source.specs.Readings.{unread}
use Rattle.tow_closing.specs.Closings.{ClosingData}
use Rattle.tow_source.specs.declared.drain.Drain.{Drain}
use Rattle.tow_content.specs.declared.source.ContentSource.{ContentSource}
use Rattle.tow_sending.specs.Pieces.{HasFile, HasParts, Piece}
use Rattle.tow_progress.specs.Progress.{Progress, Origin}
use Rattle.tow_progress.specs.Accounts.{Tally}
use Rattle.tow_states.specs.Known.{Setting}
use Rattle.tow_states.specs.Calling.{HasPlacesFor}
use Rattle.tow_states.specs.Closing.{IsWorkOf}
use Rattle.tow_stages.specs.Answering.{AnswerBegins, IsDrainFor}
use Rattle.tow_stages.specs.Holding.{Holds}
use Rattle.tow_stages.specs.Stages.{Base, Stage, answering, closing}
use Rattle.tow_turns.specs.Contents.{DropsSome}
use Rattle.tow_turns.specs.Folders.{HasPartsIn}
use Rattle.tow_turns.specs.Nexts.{end_in, rank}
use Rattle.tow_turns.specs.Safe.{IsPuttable, IsSafe, calls_of}

-- the closing work of an exchange whose record was taken out
abbrev pub taken_from : ClosingData → ClosingData
taken_from d = record d { completed = without_record d.completed }

-- What is known of an exchange when its answer is made.
pub record IsTaken (tree : List Statement) (e : ExchangeData) (d after : ClosingData) (state : Record) : Type 0 where
  pub work : IsWorkOf tree e d
  pub completed : d.completed ≡ completion e
  pub taken : after ≡ taken_from d
  pub state_is : state ≡ without_listeners d.completed.state

same_work : (tree : List Statement) (e : ExchangeData) (d after : ClosingData) (state : Record) → IsTaken tree e d after state
    → IsWorkOf tree e after
same_work tree e d after state is = subst (λ (x : ClosingData). IsWorkOf tree e x) (sym is.taken) kept where
  kept : IsWorkOf tree e (taken_from d)
  kept = record { left = is.work.left; texts = is.work.texts; none = is.work.none }

state_of : (tree : List Statement) (e : ExchangeData) (d after : ClosingData) (state : Record) → IsTaken tree e d after state
    → state ≡ without_listeners e.stand.state
state_of tree e d after state is = is.state_is ∙ ap (λ (x : CompletedData). without_listeners x.state) is.completed

-- ---- that its stage is safe

-- the record that was taken out chooses what the exchange chose
pub chooses : (e : ExchangeData) (d : ClosingData) (state : Record) → d.completed ≡ completion e → state ≡ without_listeners d.completed.state
    → state ≡ without_listeners e.stand.state
chooses e d state is taken = taken ∙ ap (λ (x : CompletedData). without_listeners x.state) is

at_told : (told : Option Files) (files : Files) (P : Files → Type 0) → told ≡ Some files → IfSome told P → P files
at_told told files P is = subst (λ (x : Option Files). IfSome x P) is

parts_in : (told : Option Files) (choice : Choice) (pieces : List Piece) → ((files : Files) → HasFile files choice → HasParts files pieces)
    → IfSome told (λ (files : Files). HasFile files choice) → HasPartsIn told pieces
parts_in told choice pieces there has =
    λ files tells. there files (at_told told files (λ (x : Files). HasFile x choice) tells has)

-- what is dropped behind it has come nowhere yet
drops_some : (content_use : ContentUse) (e : ExchangeData) (closes : Bool) (drain : Option (Drain ContentSource))
    → IsDrainFor content_use e closes drain → DropsSome drain
drops_some Unasked e true drain is = subst (λ (x : Option (Drain ContentSource)). DropsSome x) (sym is) tt
drops_some Unasked e false None is = elim is [ ]
drops_some Unasked e false (Some drain) is = (unread e.request.framing, is)
drops_some Served e closes drain is = subst (λ (x : Option (Drain ContentSource)). DropsSome x) (sym is) tt
drops_some Refused e closes drain is = subst (λ (x : Option (Drain ContentSource)). DropsSome x) (sym is) tt

-- the listeners of the exchange are left to run
left_of : (e : ExchangeData) (d after : ClosingData) → d.completed ≡ completion e → after ≡ taken_from d
    → after.completed.left ≡ reverse e.stand.state.listeners
left_of e d after is taken = ap (λ (x : ClosingData). x.completed.left) taken ∙ ap (λ (x : CompletedData). x.left) is

pub answer_is_safe : (told : Option Files) (b : Base) (e : ExchangeData) (content_use : ContentUse) (d after : ClosingData)
    (state : Record) (pieces : List Piece) (closes : Bool) (drain : Option (Drain ContentSource)) → d.completed ≡ completion e
    → after ≡ taken_from d → state ≡ without_listeners d.completed.state
    → ((files : Files) → HasFile files state.choice → HasParts files pieces) → FitPipe pieces → IsDrainFor content_use e closes drain
    → IfSome told (λ (files : Files). HasFile files e.stand.state.choice)
    → HasPlacesFor b.room (calls_of b) (reverse e.stand.state.listeners) → IsPuttable told b after pieces drain
answer_is_safe told b e content_use d after state pieces closes drain is taken taken_out there fit drains has places = record {
  parts = parts_in told state.choice pieces there
      (subst (λ (x : Record). IfSome told (λ (files : Files). HasFile files x.choice)) (sym (chooses e d state is taken_out)) has);
  fit = fit;
  drops = drops_some content_use e closes drain drains;
  places = subst (λ (l : List Listener). HasPlacesFor b.room (calls_of b) l) (sym (left_of e d after is taken)) places;
}

pub short_is_safe : (tree : List Statement) (told : Option Files) (b : Base) (e : ExchangeData) (d after : ClosingData) (stage : Stage)
    → d.completed ≡ completion e → after ≡ taken_from d → stage ≡ closing after None (Some NoMemory)
    → HasPlacesFor b.room (calls_of b) (reverse e.stand.state.listeners) → IsSafe tree told b stage
short_is_safe tree told b e d after stage is taken so places =
    subst (λ (x : Stage). IsSafe tree told b x) (sym so)
    (subst (λ (l : List Listener). HasPlacesFor b.room (calls_of b) l) (sym (left_of e d after is taken)) places, tt)

pub short_is_near : (after : ClosingData) (stage : Stage) → stage ≡ closing after None (Some NoMemory) → rank stage < 5
short_is_near after stage so = subst (λ (x : Stage). rank x < 5) (sym so) (lit< tt)

pub short_ends : (after : ClosingData) (stage : Stage) → stage ≡ closing after None (Some NoMemory)
    → IfSome (end_in stage) (λ end. end ≡ NoMemory)
short_ends after stage so = subst (λ (x : Stage). IfSome (end_in x) (λ end. end ≡ NoMemory)) (sym so) refl

-- ---- what it leads to

pub has_its_file : (files : Files) (tree : List Statement) (e : ExchangeData) (d after : ClosingData) (state : Record)
    → IsTaken tree e d after state → HasFile files e.stand.state.choice → HasFile files state.choice
has_its_file files tree e d after state is =
    subst (λ (x : Record). HasFile files x.choice) (sym (state_of tree e d after state is))

pub is_answered : (failed : Bool) (s : Setting) (o : Origin) (b : Base) (e : ExchangeData) (content_use : ContentUse) (c : Progress)
    (t : Tally) (d after : ClosingData) (state : Record) (pieces : List Piece) (closes : Bool) (drain : Option (Drain ContentSource))
    → IsTaken s.tree e d after state → RepliesBy content_use after.completed state pieces closes → HasParts s.files pieces
    → IsDrainFor content_use e closes drain → AnswerBegins failed s o b e content_use c t
    → Holds failed s o b (answering after pieces closes drain) c t
is_answered failed s o b e content_use c t d after state pieces closes drain is replies parts drains begins =
    let completed : after.completed ≡ without_record (completion e) =
    ap (λ (x : ClosingData). x.completed) is.taken ∙ ap without_record is.completed in
    begins.replies after (same_work s.tree e d after state is) pieces closes
    (subst (λ (x : Record). RepliesBy content_use (without_record (completion e)) x pieces closes) (state_of s.tree e d after state is)
    (subst (λ (x : CompletedData). RepliesBy content_use x state pieces closes) completed replies))
    parts drain drains

pub is_short : (failed : Bool) (s : Setting) (o : Origin) (b : Base) (e : ExchangeData) (content_use : ContentUse) (c : Progress)
    (t : Tally) (d after : ClosingData) (state : Record) (stage : Stage) → stage ≡ closing after None (Some NoMemory)
    → IsTaken s.tree e d after state → AnswerBegins failed s o b e content_use c t → Holds failed s o b stage c t
is_short failed s o b e content_use c t d after state stage so is begins =
    subst (λ (x : Stage). Holds failed s o b x c t) (sym so) (begins.is_short after (same_work s.tree e d after state is))
