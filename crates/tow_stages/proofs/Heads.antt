-- A head is taken, or refused, or nothing more is asked.
use Rattle.std.proofs.Common.{◌≡◌, ◌≢◌, ℕ, suc, pred, ◌+◌, ◌*◌, ◌≤◌, Bool, List, [], ◌++◌, length, take, drop, Option, Some, refl, sym, ap, subst, ◌∙◌, inl}
use Rattle.std.proofs.lemmas.List.{take-append-drop}
use Rattle.circular_buffer.specs.Buffer.{Buffer}
use Rattle.tow_model.specs.declared.request.Request.{Request}
use Rattle.tow_model.specs.declared.account.Call.{Call}
use Rattle.tow_model.specs.declared.account.End.{End}
use Rattle.tow_model.specs.declared.account.End.TheVariants.{Done, LinkFault, FolderFault, NoMemory}
use Rattle.tow_message.specs.Stream.{HasRequest, ReadsStream, nothing, refused}
use Rattle.tow_wire.specs.Answers.{refusal_text}
use Rattle.tow_heads.specs.NextRequests.{GoesOnWith}
use Rattle.tow_heads.specs.declared.requests.NextRequest.TheVariants as requests
use Rattle.tow_exchange.specs.Exchanges.{opened}
use Rattle.tow_walks.proofs.Sendable.{opened_is_sendable}
use Rattle.tow_progress.specs.Progress.{Progress, Origin}
use Rattle.tow_progress.specs.Steps.{taken}
use Rattle.tow_progress.specs.Accounts.{Tally}
use Rattle.tow_progress.specs.Whole.{a_refusal, an_end}
use Rattle.tow_progress.specs.Cuts.{between}
use Rattle.tow_course.specs.Course.{fresh}
use Rattle.tow_states.specs.Known.{Setting, moment_of}
use Rattle.tow_states.specs.Walking.{IsWalking}
use Rattle.tow_states.specs.Reading.{IsRefusing}
use Rattle.tow_states.specs.Calling.{most_asks}
use Rattle.tow_states.proofs.Breaks.{states_break}
use Rattle.tow_states.proofs.Calls.{calls_have_places}
use Rattle.tow_states.proofs.Ends.{reading_ends}
use Rattle.tow_states.proofs.Heads.{refusal_is_put, refusing_begins}
use Rattle.tow_states.proofs.Walks.{exchange_opens}
use Rattle.tow_leads.specs.Ports.{IsPortOf}
use Rattle.tow_leads.proofs.PortSteps.{ports_lead_on}
use Rattle.tow_stages.specs.Stages.{Base, ended, reading, refusing, walking}
use Rattle.tow_stages.specs.Holding.{HasEnded, Holds, IsCut, IsSilentBy, IsSilentOrEnds, Reads}
use Rattle.tow_stages.specs.Opening.{ReadingsLeadOn, RefusalsLeadOn, begun_with}

-- what may be silent may be so at an end
pub silent_still : (failed : Bool) (b : Base) (end : Option End) → IsSilentBy failed b → IsSilentOrEnds failed b end
silent_still failed b end quiet = λ silent. inl (quiet silent)

-- an end that is not `Done` is a cut
pub ended_by_cut : (end : End) (s : Setting) (o : Origin) (b : Base) (c : Progress) (t : Tally) → end ≢ Done → IsCut s o b c t
    → HasEnded end s o b c t
ended_by_cut Done s o b c t other is = absurd (other refl)
ended_by_cut LinkFault s o b c t other is = is
ended_by_cut FolderFault s o b c t other is = is
ended_by_cut NoMemory s o b c t other is = is

-- the requests that were begun are those before the next one
begun_before : (begun request : ℕ) → suc begun ≡ request → begun ≡ pred request
begun_before begun request is = ap pred is

module _ (failed : Bool) (s : Setting) (o : Origin) (b : Base) (c : Progress) (t : Tally) (h : Holds failed s o b reading c t) where
  abbrev is : Reads s o b c t
  is = h.holds.0

  abbrev quiet : IsSilentBy failed b
  quiet = h.holds.1

  abbrev port : IsPortOf b.port c
  port = h.is_at.port

  -- what was read and is not taken, and what is left, is the input from here on
  rest_is : b.port.input.items ++ c.left ≡ c.piped_in ++ c.left
  rest_is = ap (λ (l : List ℕ). l ++ c.left) port.piped_in

  opens : (q : Request) (used : ℕ) → GoesOnWith c.peer b.port.input.items c.left (requests.Request q used)
      → (m : ℕ) → m ≡ moment_of s c → (room : ℕ) → length b.calls + 2 * most_asks s.tree ≤ room
      → (input : Buffer ℕ) → input.items ≡ drop used b.port.input.items
      → Holds failed s o (begun_with input room b) (walking (opened b.number (suc b.begun) q m))
      (taken (take used b.port.input.items) input.items c) t
  opens q used (some, within, request) m moment room places input dropped =
      let head = take used b.port.input.items in
      let split : b.port.input.items ≡ head ++ input.items =
      sym (take-append-drop used b.port.input.items) ∙ ap (λ (l : List ℕ). head ++ l) (sym dropped) in
      let cut : c.piped_in ≡ head ++ input.items = sym port.piped_in ∙ split in
      let has : HasRequest c.peer (c.piped_in ++ c.left) q (input.items ++ c.left) =
      subst (λ (l : List ℕ). HasRequest c.peer (c.piped_in ++ c.left) q (l ++ c.left)) (sym dropped)
      (subst (λ (l : List ℕ). HasRequest c.peer l q (drop used b.port.input.items ++ c.left)) rest_is request) in
      let new = taken head input.items c in
      let there : IsWalking s o new t (opened c.number c.request q (moment_of s c)) fresh = exchange_opens s o c t is.is q head input.items cut has in
      let e = opened b.number (suc b.begun) q m in
      record {
        is_at = record {
          number = h.is_at.number;
          port = (ports_lead_on b.port c port).takes head input split;
          calls = h.is_at.calls;
          all = h.is_at.all;
        };
        holds = (
          record {
            course = fresh;
            is = subst (λ (k : ℕ). IsWalking s o new t (opened k (suc b.begun) q m) fresh) (sym h.is_at.number)
                (subst (λ (j : ℕ). IsWalking s o new t (opened c.number j q m) fresh) (sym is.begun)
                (subst (λ (n : ℕ). IsWalking s o new t (opened c.number c.request q n) fresh) (sym moment) there));
            served = record {
              sendable = opened_is_sendable (Some s.files) b.number (suc b.begun) q m;
              begun = is.begun;
              asks = most_asks s.tree;
              places = (calls_have_places s.tree room t).opens b.number (suc b.begun) q m
                  (subst (λ (calls : List Call). length calls + 2 * most_asks s.tree ≤ room) h.is_at.calls places);
            };
          },
          quiet,
        );
      }

  refuses : (status : ℕ) → GoesOnWith c.peer b.port.input.items c.left (requests.Refuse status)
      → (m : ℕ) → m ≡ moment_of s c → Holds failed s o b (refusing (refusal_text status m)) c t
  refuses status why m moment = record {
    is_at = h.is_at;
    holds = (
      record {
        status = status;
        is = subst (λ (n : ℕ). IsRefusing s o c t status (refusal_text status n)) (sym moment)
            (refusing_begins s o c t is.is status (subst (λ (l : List ℕ). ReadsStream c.peer l (refused status)) rest_is why));
        begun = is.begun;
      },
      quiet,
    );
  }

  is_done : GoesOnWith c.peer b.port.input.items c.left requests.Nothing → b.port.output.items ≡ [] → Holds failed s o b (ended Done) c t
  is_done blank out = record {
    is_at = h.is_at;
    holds = (
      record {
        thing = an_end;
        is = reading_ends.nothing_more s o c t is.is (subst (λ (l : List ℕ). ReadsStream c.peer l nothing) rest_is blank);
        written = sym port.piped_out ∙ out;
        begun = begun_before b.begun c.request is.begun;
      },
      silent_still failed b (Some Done) quiet,
    );
  }

  is_cut : (end : End) → end ≢ Done → Holds failed s o b (ended end) c t
  is_cut end other = record {
    is_at = h.is_at;
    holds = (
      ended_by_cut end s o b c t other
          (record { at = between; is = (states_break s o c t).reading is.is; begun = begun_before b.begun c.request is.begun }),
      silent_still failed b (Some end) quiet,
    );
  }

pub readings_lead_on : ReadingsLeadOn
readings_lead_on failed s o b c t h = record {
  opens = opens failed s o b c t h;
  refuses = refuses failed s o b c t h;
  is_done = is_done failed s o b c t h;
  is_cut = is_cut failed s o b c t h;
}

pub refusals_lead_on : RefusalsLeadOn
refusals_lead_on failed s o b left c t h =
    let (is, quiet) = h.holds in
    record {
      puts = λ piece rest split. record {
        is_at = record {
          number = h.is_at.number;
          port = (ports_lead_on b.port c h.is_at.port).puts piece;
          calls = h.is_at.calls;
          all = h.is_at.all;
        };
        holds = (
          record {
            status = is.status;
            is = refusal_is_put s o c t is.status left is.is piece rest split;
            begun = is.begun;
          },
          quiet,
        );
      };
      is_done = λ none out. record {
        is_at = h.is_at;
        holds = (
          record {
            thing = a_refusal is.status;
            is = reading_ends.refused_head s o c t is.status (subst (λ (l : List ℕ). IsRefusing s o c t is.status l) none is.is);
            written = sym h.is_at.port.piped_out ∙ out;
            begun = begun_before b.begun c.request is.begun;
          },
          silent_still failed b (Some Done) quiet,
        );
      };
      is_cut = λ end other. record {
        is_at = h.is_at;
        holds = (
          ended_by_cut end s o b c t other
              (record { at = between; is = (states_break s o c t).refusing is.status left is.is; begun = begun_before b.begun c.request is.begun }),
          silent_still failed b (Some end) quiet,
        );
      };
    }
