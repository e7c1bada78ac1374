-- An exchange is given its content, and comes to its answer.
use Rattle.std.specs.Prelude.{IfSome}
use Rattle.std.proofs.Common.{◌≡◌, Bool, List, reverse, Option, sym, subst}
use Rattle.tow_model.specs.declared.content.Content.{Content}
use Rattle.tow_model.specs.declared.statement.Statement.{Statement}
use Rattle.tow_semantics.specs.Files.{Files}
use Rattle.tow_exchange.specs.Exchanges.{ExchangeData, content_given}
use Rattle.tow_exchange.specs.declared.phase.Phase.TheVariants.{AwaitsContent}
use Rattle.tow_answer.specs.declared.content_use.ContentUse.{ContentUse}
use Rattle.tow_sending.specs.Pieces.{HasFile}
use Rattle.tow_walks.specs.Sendable.{IsSendable}
use Rattle.tow_walks.proofs.Sendable.{contents_stay_sendable}
use Rattle.tow_progress.specs.Progress.{Progress, Origin}
use Rattle.tow_progress.specs.Accounts.{Tally}
use Rattle.tow_states.specs.Calling.{HasPlacesFor}
use Rattle.tow_states.specs.Known.{Setting}
use Rattle.tow_states.proofs.Calls.{calls_have_places}
use Rattle.tow_stages.specs.Answering.{AnswerBegins}
use Rattle.tow_stages.specs.Stages.{Base}
use Rattle.tow_stages.proofs.Answers.{adds_none}
use Rattle.tow_turns.specs.Safe.{IsOpen, calls_of}

-- the answer that begins is that of the exchange that was made
pub begins_so : (failed : Bool) (s : Setting) (o : Origin) (b : Base) (e new : ExchangeData) (known content_use : ContentUse)
    (c : Progress) (t : Tally) → new ≡ e → content_use ≡ known → AnswerBegins failed s o b e known c t
    → AnswerBegins failed s o b new content_use c t
begins_so failed s o b e new known content_use c t is used begins =
    subst (λ (x : ExchangeData). AnswerBegins failed s o b x content_use c t) (sym is)
    (subst (λ (u : ContentUse). AnswerBegins failed s o b e u c t) (sym used) begins)

-- with its content it names no file that the folder lacks
pub given_is_there : (told : Option Files) (e new : ExchangeData) (content : Content) → new ≡ content_given content e → IsSendable told e
    → IfSome told (λ (files : Files). HasFile files new.stand.state.choice)
given_is_there told e new content is sendable =
    subst (λ (x : ExchangeData). IfSome told (λ (files : Files). HasFile files x.stand.state.choice)) (sym is)
    (contents_stay_sendable told e content sendable).there

-- it has places for what its listeners leave
pub given_has_places : (tree : List Statement) (told : Option Files) (b : Base) (e new : ExchangeData) (content : Content)
    → new ≡ content_given content e → e.phase ≡ AwaitsContent → IsOpen tree told b e
    → HasPlacesFor b.room (calls_of b) (reverse new.stand.state.listeners)
given_has_places tree told b e new content is waits open_so =
    let kept = calls_have_places tree b.room (calls_of b) in
    subst (λ (x : ExchangeData). HasPlacesFor b.room (calls_of b) (reverse x.stand.state.listeners)) (sym is)
    (kept.completes (content_given content e) open_so.asks (content_given content e).stand.state.listeners
    (kept.reads e content open_so.asks waits open_so.places) (adds_none (content_given content e).stand.state.listeners))
