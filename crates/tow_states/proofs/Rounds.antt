-- An example: a request without content and without listeners, from its head to the next one, by one law after the other.
use Rattle.std.proofs.Common.{◌≡◌, ℕ, false, List, [], ◌++◌, Some, refl, sym, ap, ◌∙◌, subst, append-nil}
use Rattle.tow_model.specs.declared.content.Content.TheVariants.{Whole}
use Rattle.tow_model.specs.declared.request.Framing.{Framing}
use Rattle.tow_model.specs.declared.request.Framing.TheVariants.{Empty}
use Rattle.tow_model.specs.declared.request.Request.{Request}
use Rattle.tow_message.specs.Stream.{HasRequest}
use Rattle.tow_exchange.specs.Exchanges.{ExchangeData, opened}
use Rattle.tow_exchange.specs.declared.phase.Phase.TheVariants.{Stopped}
use Rattle.tow_closing.specs.Closings.{ClosingData}
use Rattle.tow_progress.specs.Progress.{Progress, Origin}
use Rattle.tow_progress.specs.Steps.{completed, taken, with_piece, written_out}
use Rattle.tow_progress.specs.Accounts.{Tally, settled}
use Rattle.tow_course.specs.Course.{fresh}
use Rattle.tow_states.specs.Known.{Setting, Shows, moment_of}
use Rattle.tow_states.specs.Reading.{IsReading}
use Rattle.tow_states.specs.Walking.{GoesOn}
use Rattle.tow_states.specs.Sending.{answer_text}
use Rattle.tow_states.specs.Closing.{IsWorkOf}
use Rattle.tow_states.specs.Completing.{answer_closes}
use Rattle.tow_states.proofs.Walks.{exchange_opens, walk_is_kept}
use Rattle.tow_states.proofs.Answers.{answer_is_decided, answer_is_sent}
use Rattle.tow_states.proofs.Completions.{exchange_completes}
use Rattle.tow_states.proofs.Ends.{closing_comes_to_end}
use Rattle.tow_states.proofs.Moves.{states_move}

module _ (s : Setting) (o : Origin) (c : Progress) (t : Tally) (is : IsReading s o c t) (silent : c.piped_out ≡ [])
    -- a head was read
    (q : Request) (head piped : List ℕ) (cut : c.piped_in ≡ head ++ piped)
    (request : HasRequest c.peer (c.piped_in ++ c.left) q (piped ++ c.left))
    -- the exchange stopped at once, with no listener, on an answer that does not close
    (e : ExchangeData) (goes : GoesOn s.tree (opened c.number c.request q (moment_of s c)) e) (stopped : e.phase ≡ Stopped)
    (bare : e.request.framing ≡ Empty) (d : ClosingData) (work : IsWorkOf s.tree e d) (none : d.completed.left ≡ []) where
  abbrev begun : Progress
  begun = taken head piped c

  abbrev text : List ℕ
  text = answer_text s begun e fresh

  abbrev answered : Progress
  answered = written_out text [] (with_piece text begun)

  round : answer_closes begun e fresh ≡ false → IsReading s o (completed answered) (settled t)
  round keeps =
      let walks = exchange_opens s o c t is q head piped cut request in
      let first = opened c.number c.request q (moment_of s c) in
      let stops = (walk_is_kept s o begun t first fresh walks).advances e goes in
      let decided = answer_is_decided.walked s o begun t e fresh stops stopped in
      let put = (answer_is_sent s o begun t e fresh [] text decided).puts text [] (sym (append-nil text)) in
      let piped_out : c.piped_out ++ text ≡ text ++ [] = ap (λ (l : List ℕ). l ++ text) silent ∙ sym (append-nil text) in
      let written = ((states_move s o (with_piece text begun) t).sending e fresh [] [] put).writes text [] piped_out in
      let shows : Shows e.request.framing [] (Some (Whole [])) =
      subst (λ (f : Framing). Shows f [] (Some (Whole []))) (sym bare) (refl, refl) in
      let closing = (exchange_completes s o answered t e fresh [] written d work).goes_on keeps [] shows tt in
      (closing_comes_to_end s o answered t e fresh d none).next_request [] closing
