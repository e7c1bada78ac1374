-- The pieces of a reply are what is to be put for its exchange.
use Rattle.std.proofs.Common.{◌≡◌, ℕ, Bool, true, false, not, List, refl, sym, ap, ap₂, subst, ◌∙◌}
use Rattle.tow_model.specs.declared.record.Record.{Record}
use Rattle.tow_wire.specs.Wire.{Met, answer_to, goes_on}
use Rattle.tow_exchange.specs.Exchanges.{ExchangeData}
use Rattle.tow_exchange.specs.Completions.{completion, without_listeners, without_record}
use Rattle.tow_answer.specs.Uses.{IsUsed}
use Rattle.tow_answer.specs.declared.content_use.ContentUse.{ContentUse}
use Rattle.tow_sending.specs.Pieces.{Piece}
use Rattle.tow_replies.specs.Replies.{IsOutcomeOf, Replies, RepliesBy}
use Rattle.tow_progress.specs.Progress.{Progress}
use Rattle.tow_progress.specs.Accounts.{Tally}
use Rattle.tow_course.specs.Course.{Course}
use Rattle.tow_states.specs.Known.{Setting, HasExchange, run_in}
use Rattle.tow_states.specs.Sending.{ending_of}
use Rattle.tow_states.specs.Completing.{answer_closes}
use Rattle.tow_leads.specs.Replied.{IsReply, RepliesLeadOn}

not_not : (b : Bool) → not (not b) ≡ b
not_not true = refl
not_not false = refl

module _ (s : Setting) (c : Progress) (t : Tally) (e : ExchangeData) (n : Course) (took : List ℕ) (has : HasExchange s c t e n took) where
  -- the exchange under this number, as the wire has it
  abbrev met_at : ℕ → Met
  met_at number = record { number = number; request = e.request; content = n.content; outcome = ending_of e n }

  is_reply : (content_use : ContentUse) (x : Record) → x ≡ without_listeners e.stand.state → IsUsed content_use n.content (ending_of e n)
      → (pieces : List Piece) (ends : Bool) → RepliesBy content_use (without_record (completion e)) x pieces ends
      → IsReply s c e n pieces ends
  is_reply content_use x same used pieces ends replies =
      let moment : s.moments e.connection e.number ≡ e.moment = ap₂ s.moments has.connection has.number ∙ sym has.moment in
      let r : Replies (run_in s) e.connection (met_at e.number) pieces ends =
      replies (run_in s) n.content (ending_of e n) moment
      (subst (λ (y : Record). IsOutcomeOf content_use y n.content (ending_of e n)) (sym same)
      (record { decided = refl; status = refl; fields = refl; choice = refl; used = used })) in
      record {
        text = r.text ∙ ap₂ (λ (k j : ℕ). answer_to (run_in s) k (met_at j)) has.connection has.number;
        last = r.last ∙ ap (λ (j : ℕ). not (goes_on (met_at j))) has.number ∙ not_not (answer_closes c e n);
      }

pub replies_lead_on : RepliesLeadOn
replies_lead_on = is_reply
