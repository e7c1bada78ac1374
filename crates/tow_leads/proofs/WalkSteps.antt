-- A walk leaves an exchange where its connection knows it, or to be cut.
use Rattle.std.proofs.Common.{◌≡◌, ℕ, zero, suc, List, [], ◌++◌, map, Option, Some, None, refl, sym, ap, subst, ◌∙◌}
use Rattle.tow_model.specs.declared.request.Request.{Request}
use Rattle.tow_model.specs.declared.record.Record.{Record}
use Rattle.tow_model.specs.declared.content.Content.{Content}
use Rattle.tow_model.specs.Lists.{IsPrefix}
use Rattle.tow_message.specs.Stream.{HasRequest}
use Rattle.tow_semantics.specs.Listeners.{entering}
use Rattle.tow_semantics.specs.Runs.{Entry}
use Rattle.tow_wire.specs.Wire.{invitation_to}
use Rattle.tow_exchange.specs.Exchanges.{ExchangeData}
use Rattle.tow_program.specs.declared.instruction.Instruction.{Instruction}
use Rattle.tow_closing.specs.Closings.{ClosingData}
use Rattle.tow_progress.specs.Progress.{Progress, Origin, unfinished}
use Rattle.tow_progress.specs.Accounts.{Tally}
use Rattle.tow_course.specs.Course.{Course}
use Rattle.tow_course.specs.Breaks.{IsBroken}
use Rattle.tow_walks.specs.Staying.{looked_after}
use Rattle.tow_walks.specs.Walks.{IsCutShort, Keeps, Walks}
use Rattle.tow_walks.proofs.Staying.{cut_short_is_broken, walks_stay_on_course}
use Rattle.tow_states.specs.Known.{Setting, Shows, exchange_of}
use Rattle.tow_states.specs.Walking.{IsWalking}
use Rattle.tow_states.specs.Closing.{IsClosing, IsWorkOf, MayEnd, cut_off}
use Rattle.tow_states.proofs.Leavings.{request_stays_inside}
use Rattle.tow_states.proofs.Works.{open_may_end, work_begins}
use Rattle.tow_leads.specs.Walked.{WalksLeadOn}

-- ---- looks alone change nothing but that there were some

looked_entries : (looks : ℕ) (n : Course) → (looked_after looks n).entries ≡ n.entries
looked_entries zero n = refl
looked_entries (suc looks) n = refl

looked_content : (looks : ℕ) (n : Course) → (looked_after looks n).content ≡ n.content
looked_content zero n = refl
looked_content (suc looks) n = refl

looked_asked : (looks : ℕ) (n : Course) → (looked_after looks n).asked ≡ n.asked
looked_asked zero n = refl
looked_asked (suc looks) n = refl

-- ---- an exchange that walks

module _ (s : Setting) (o : Origin) (c : Progress) (t : Tally) (program : List Instruction) (old new : ExchangeData) (n : Course)
    (is : IsWalking s o c t old n) (keeps : Keeps program old new) where
  -- a walk leaves it walking, or halted
  walk_stays : (w : Walks s.tree (Some s.files) old new) → IsWalking s o c t new (looked_after w.looks n)
  walk_stays w =
      let has = is.exchange in
      let none : (looked_after w.looks n).content ≡ None = looked_content w.looks n ∙ is.none in
      record {
        stands = is.stands;
        exchange = record {
          connection = keeps.connection ∙ has.connection;
          number = keeps.number ∙ has.number;
          moment = keeps.moment ∙ has.moment;
          request = subst (λ (q : Request). HasRequest c.peer (unfinished c) q ([] ++ (c.piped_in ++ c.left))) (sym keeps.request) has.request;
          content = subst (λ (content : Option Content). Shows new.request.framing [] content) (sym none) tt;
          course = walks_stay_on_course s.tree s.files old new n w has.course;
          verdicts = has.verdicts ∙ ap (map (λ (entry : Entry). entry.verdict)) (sym (looked_entries w.looks n));
          calls = has.calls ∙ ap (map (entering c.request)) (sym (looked_entries w.looks n));
          lines = has.lines;
          inside = (request_stays_inside c.request t.calls).adds old new keeps.adds has.inside;
        };
        none = none;
        unasked = looked_asked w.looks n ∙ is.unasked;
        put = is.put;
      }

-- that it looked changes nothing of how it is cut
unlooked : (looks : ℕ) (s : Setting) (e : ExchangeData) (n : Course) (x : Record) → IsBroken s.tree s.files e (looked_after looks n) x
    → IsBroken s.tree s.files e n x
unlooked zero s e n x is = is
unlooked (suc looks) s e n x is = record {
  front = λ content agrees more. let f = is.front content agrees more in record { listeners = f.listeners; entries = f.entries };
  choice = is.choice;
  inside = is.inside;
}

module _ (s : Setting) (o : Origin) (c : Progress) (t : Tally) (program : List Instruction) (old new : ExchangeData) (n : Course)
    (is : IsWalking s o c t old n) (keeps : Keeps program old new) where
  -- a walk that is cut short leaves it to be completed
  walk_is_cut : (short : IsCutShort s.tree (Some s.files) old new) (d : ClosingData) → IsWorkOf s.tree new d
      → IsClosing s o c t new n d None (cut_off None)
  walk_is_cut short d work =
      let has = is.exchange in
      let broken = unlooked short.walks.looks s old n new.stand.state (cut_short_is_broken s.tree s.files old new n short has.course) in
      let invitation = invitation_to (exchange_of s c old.request None) in
      let front : IsPrefix c.put invitation = (invitation, ap (λ (l : List ℕ). l ++ invitation) (sym is.put)) in
      record {
        stands = is.stands;
        may_end = subst (λ (q : Request). MayEnd s c q new.stand.state n None) (sym keeps.request)
            (open_may_end s c t old n [] has is.none new.stand.state broken front);
        runs = work_begins s c t new n d (keeps.moment ∙ has.moment) has.calls has.lines
            ((request_stays_inside c.request t.calls).adds old new keeps.adds has.inside) work;
        leads = tt;
      }

pub walks_lead_on : WalksLeadOn
walks_lead_on s o c t program old new n is keeps =
    record { halts = walk_stays s o c t program old new n is keeps; is_cut = walk_is_cut s o c t program old new n is keeps }
