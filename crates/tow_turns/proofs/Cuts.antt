-- A connection is cut.
use Rattle.std.proofs.Common.{◌≡◌, ◌≢◌, ℕ, Bool, true, false, List, [], filter_map, reverse, Option, Some, None, refl, sym, ap, subst, ◌∙◌}
use Rattle.tow_model.specs.declared.account.End.{End}
use Rattle.tow_model.specs.declared.account.End.TheVariants.{Done}
use Rattle.tow_model.specs.declared.statement.Statement.{Statement}
use Rattle.tow_model.specs.declared.record.Listener.{Listener}
use Rattle.tow_semantics.specs.Files.{Files}
use Rattle.tow_exchange.specs.Exchanges.{ExchangeData}
use Rattle.tow_exchange.specs.Completions.{CompletedData, completion}
use Rattle.tow_exchange.specs.declared.phase.Phase.TheVariants.{Stopped}
use Rattle.tow_program.specs.Actions.{formats_in}
use Rattle.tow_program.specs.Programs.{program_of}
use Rattle.tow_program.specs.declared.instruction.Instruction.{Instruction}
use Rattle.tow_closing.specs.Closings.{ClosingData, line_told}
use Rattle.tow_source.specs.declared.drain.Drain.{Drain}
use Rattle.tow_content.specs.declared.source.ContentSource.{ContentSource}
use Rattle.tow_content.specs.declared.gathering.Gathering.{Gathering}
use Rattle.tow_sending.specs.Pieces.{Piece}
use Rattle.tow_progress.specs.Progress.{Progress, Origin}
use Rattle.tow_progress.specs.Accounts.{Tally}
use Rattle.tow_states.specs.Known.{Setting}
use Rattle.tow_states.specs.Calling.{HasPlacesFor}
use Rattle.tow_states.specs.Closing.{IsWorkOf}
use Rattle.tow_states.proofs.Calls.{calls_have_places}
use Rattle.tow_stages.specs.Stages.{Base, Stage, answering, closing, ended, gathering, reading, refusing, walking}
use Rattle.tow_stages.specs.Holding.{Holds}
use Rattle.tow_stages.proofs.Heads.{readings_lead_on, refusals_lead_on}
use Rattle.tow_stages.proofs.Walks.{walkings_lead_on}
use Rattle.tow_stages.proofs.Gathers.{gatherings_lead_on}
use Rattle.tow_stages.proofs.Answers.{adds_none, answerings_lead_on}
use Rattle.tow_turns.specs.Nexts.{end_in}
use Rattle.tow_turns.specs.Safe.{IsOpen, IsPuttable, IsSafe, calls_of}
use Rattle.tow_turns.specs.Steps.{Comes, Leads}

pub comes_to : (failed : Bool) (s : Setting) (o : Origin) (b : Base) (stage : Stage) (c : Progress) (t : Tally)
    → Holds failed s o b stage c t → Comes failed s o b stage t.lines
comes_to failed s o b stage c t h = record { progress = c; tally = t; holds = h; same_lines = refl }

pub rests : (s : Setting) (b : Base) (stage : Stage) → Leads s b b stage stage
rests s b stage failed o c t h = comes_to failed s o b stage c t h

pub is_work : (program : List Instruction) (e : ExchangeData) (d : ClosingData) → d.completed ≡ completion e
    → (d.lost ≡ false → d.lines ≡ filter_map (line_told (formats_in program) e.request e.stand.state e.moment) (reverse e.stand.state.listeners))
    → (d.lost ≡ true → d.lines ≡ []) → (tree : List Statement) → program ≡ program_of tree → IsWorkOf tree e d
is_work program e d is texts none tree same = record {
  left = ap (λ c. c.left) is;
  texts = λ kept. texts kept ∙ ap (λ (p : List Instruction). filter_map (line_told (formats_in p) e.request e.stand.state e.moment) (reverse e.stand.state.listeners)) same;
  none = none;
}

pub cut_reading : (s : Setting) (b : Base) (end : End) → end ≢ Done → Leads s b b reading (ended end)
cut_reading s b end fault failed o c t h =
    comes_to failed s o b (ended end) c t ((readings_lead_on failed s o b c t h).is_cut end fault)

pub cut_refusing : (s : Setting) (b : Base) (left : List ℕ) (end : End) → end ≢ Done → Leads s b b (refusing left) (ended end)
cut_refusing s b left end fault failed o c t h =
    comes_to failed s o b (ended end) c t ((refusals_lead_on failed s o b left c t h).is_cut end fault)

pub cut_walking : (s : Setting) (b : Base) (e : ExchangeData) (d : ClosingData) (end : End) (after : Stage)
    → after ≡ closing d None (Some end) → end ≢ Done → e.phase ≢ Stopped → IsWorkOf s.tree e d → Leads s b b (walking e) after
cut_walking s b e d end after is fault early work failed o c t h =
    comes_to failed s o b after c t (subst (λ (x : Stage). Holds failed s o b x c t) (sym is)
    ((walkings_lead_on failed s o b e c t h).is_cut early end fault d work))

pub cut_gathering : (s : Setting) (b : Base) (e : ExchangeData) (g : Gathering) (to_tell : Bool) (d : ClosingData) (end : End) (after : Stage)
    → after ≡ closing d None (Some end) → end ≢ Done → IsWorkOf s.tree e d → Leads s b b (gathering e g to_tell) after
cut_gathering s b e g to_tell d end after is fault work failed o c t h =
    comes_to failed s o b after c t (subst (λ (x : Stage). Holds failed s o b x c t) (sym is)
    ((gatherings_lead_on failed s o b e g to_tell c t h).is_cut end fault d work))

pub cut_answering : (s : Setting) (b : Base) (d : ClosingData) (pieces : List Piece) (closes : Bool) (drain : Option (Drain ContentSource))
    (end : End) (after : Stage) → after ≡ closing d None (Some end) → end ≢ Done → Leads s b b (answering d pieces closes drain) after
cut_answering s b d pieces closes drain end after is fault failed o c t h =
    comes_to failed s o b after c t (subst (λ (x : Stage). Holds failed s o b x c t) (sym is)
    ((answerings_lead_on failed s o b d pieces closes drain c t h).is_cut end fault))

-- ---- that it stays safe

-- the listeners of an exchange that is open are left to run
pub open_leaves : (tree : List Statement) (told : Option Files) (b : Base) (e : ExchangeData) (d : ClosingData) (end : End) (after : Stage)
    → after ≡ closing d None (Some end) → d.completed ≡ completion e → IsOpen tree told b e → IsSafe tree told b after
open_leaves tree told b e d end after is completed is_open =
    subst (λ (x : Stage). IsSafe tree told b x) (sym is) (
      subst (λ (l : List Listener). HasPlacesFor b.room (calls_of b) l) (sym (ap (λ (x : CompletedData). x.left) completed))
          ((calls_have_places tree b.room (calls_of b)).completes e is_open.asks e.stand.state.listeners is_open.places
          (adds_none e.stand.state.listeners)),
      tt,
    )

-- those of an answer are
pub answer_leaves : (tree : List Statement) (told : Option Files) (b : Base) (d : ClosingData) (pieces : List Piece)
    (drain : Option (Drain ContentSource)) (end : End) (after : Stage) → after ≡ closing d None (Some end)
    → IsPuttable told b d pieces drain → IsSafe tree told b after
answer_leaves tree told b d pieces drain end after is puttable =
    subst (λ (x : Stage). IsSafe tree told b x) (sym is) (puttable.places, tt)

pub ends_so : (d : ClosingData) (end : End) (after : Stage) → after ≡ closing d None (Some end) → end_in after ≡ Some end
ends_so d end after is = ap end_in is
