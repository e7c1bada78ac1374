-- A head is taken, or refused, or nothing more is asked.
use Rattle.std.specs.Prelude.{Bool, ◌≡◌, ◌≢◌, ℕ, suc, ◌+◌, ◌*◌, ◌≤◌, List, [], ◌++◌, length, take, drop}
use Rattle.circular_buffer.specs.Buffer.{Buffer}
use Rattle.tow_model.specs.declared.request.Request.{Request}
use Rattle.tow_model.specs.declared.account.End.{End}
use Rattle.tow_model.specs.declared.account.End.TheVariants.{Done}
use Rattle.tow_wire.specs.Answers.{refusal_text}
use Rattle.tow_heads.specs.NextRequests.{GoesOnWith}
use Rattle.tow_heads.specs.declared.requests.NextRequest.TheVariants as requests
use Rattle.tow_exchange.specs.Exchanges.{opened}
use Rattle.tow_progress.specs.Progress.{Progress, Origin}
use Rattle.tow_progress.specs.Steps.{taken, with_piece}
use Rattle.tow_progress.specs.Accounts.{Tally}
use Rattle.tow_states.specs.Known.{Setting, moment_of}
use Rattle.tow_states.specs.Calling.{most_asks}
use Rattle.tow_leads.specs.Ports.{as_put}
use Rattle.tow_stages.specs.Stages.{Base, ended, reading, refusing, walking}
use Rattle.tow_stages.specs.Holding.{Holds}
use Rattle.tow_stages.specs.Moving.{over}

-- the next request is begun: its head was taken, and its calls have so many places
abbrev pub begun_with : (input : Buffer ℕ) (room : ℕ) → Base → Base
begun_with input room b = record b { begun = suc b.begun; port = record b.port { input = input }; room = room }

-- What follows between two requests.
pub record ReadingLeadsOn (failed : Bool) (s : Setting) (o : Origin) (b : Base) (c : Progress) (t : Tally) : Type 0 where
  -- a head was taken, and its exchange opens
  pub opens : (q : Request) (used : ℕ) → GoesOnWith c.peer b.port.input.items c.left (requests.Request q used)
      → (m : ℕ) → m ≡ moment_of s c → (room : ℕ) → length b.calls + 2 * most_asks s.tree ≤ room
      → (input : Buffer ℕ) → input.items ≡ drop used b.port.input.items
      → Holds failed s o (begun_with input room b) (walking (opened b.number (suc b.begun) q m))
      (taken (take used b.port.input.items) input.items c) t
  -- it is refused
  pub refuses : (status : ℕ) → GoesOnWith c.peer b.port.input.items c.left (requests.Refuse status)
      → (m : ℕ) → m ≡ moment_of s c → Holds failed s o b (refusing (refusal_text status m)) c t
  -- nothing more is asked, and all is written
  pub is_done : GoesOnWith c.peer b.port.input.items c.left requests.Nothing → b.port.output.items ≡ []
      → Holds failed s o b (ended Done) c t
  pub is_cut : (end : End) → end ≢ Done → Holds failed s o b (ended end) c t

-- What follows a head that is refused.
pub record RefusingLeadsOn (failed : Bool) (s : Setting) (o : Origin) (b : Base) (left : List ℕ) (c : Progress) (t : Tally) : Type 0 where
  -- some bytes of the answer were put
  pub puts : (piece rest : List ℕ) → left ≡ piece ++ rest
      → Holds failed s o (over (as_put piece b.port) b) (refusing rest) (with_piece piece c) t
  -- all was put, and written
  pub is_done : left ≡ [] → b.port.output.items ≡ [] → Holds failed s o b (ended Done) c t
  pub is_cut : (end : End) → end ≢ Done → Holds failed s o b (ended end) c t

-- ---- laws

abbrev pub ReadingsLeadOn : Type 0
ReadingsLeadOn =
    (failed : Bool) (s : Setting) (o : Origin) (b : Base) (c : Progress) (t : Tally) → Holds failed s o b reading c t
    → ReadingLeadsOn failed s o b c t

abbrev pub RefusalsLeadOn : Type 0
RefusalsLeadOn =
    (failed : Bool) (s : Setting) (o : Origin) (b : Base) (left : List ℕ) (c : Progress) (t : Tally)
    → Holds failed s o b (refusing left) c t → RefusingLeadsOn failed s o b left c t
