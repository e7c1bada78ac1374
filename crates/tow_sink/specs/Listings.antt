-- What a sink for listings puts over all its calls.
use Rattle.std.specs.Prelude.{◌≡◌, ℕ, true, false, List, [], ◌∷◌, ◌++◌, take}
use Rattle.std.specs.List.{flat_map}
use Rattle.circular_buffer.specs.Buffer.{Buffer, buffer}
use Rattle.tow_model.specs.declared.request.Version.TheVariants.{V11}
use Rattle.tow_model.specs.declared.request.Request.{Request}
use Rattle.tow_model.specs.declared.record.Choice.TheVariants.{Listing}
use Rattle.tow_model.specs.declared.answer.Answer.{Answer}
use Rattle.tow_semantics.specs.Values.{has_no_content}
use Rattle.tow_wire.specs.Answers.{framed}
use Rattle.tow_sink.specs.declared.finish.Finish.TheVariants.{Finished, Full}
use Rattle.tow_sink.specs.Feeds.{Feed, Feeding, Opens, ended, unfed}
use Rattle.tow_sink.specs.Calls.{Writes, Finishes}
use Rattle.tow_sink.specs.Whole.{blocks_in_chunks}

-- a pipe at a call: before it, and the bytes that it gained
pub record Fill : Type 0 where
  pub piped : Buffer ℕ
  pub gained : List ℕ

abbrev pub filled : Fill → Buffer ℕ
filled fill = buffer (fill.piped.items ++ fill.gained) fill.piped.capacity

-- a write: the bytes that were handed in, and how many of them were fed
pub record Write : Type 0 where
  pub from : List ℕ
  pub count : ℕ
  pub fill : Fill

-- the bytes that the writes fed
abbrev pub bytes_fed : List Write → List ℕ
bytes_fed = flat_map (λ w. take w.count w.from)

-- the bytes that pipes gained
abbrev pub bytes_put : List Write → List Fill → List ℕ
bytes_put writes fills = flat_map (λ w. w.fill.gained) writes ++ flat_map (λ fill. fill.gained) fills

-- These writes, one after the other. Nothing is said of the pipe between two of them: it may be emptied, or be another.
abbrev pub AreWrites : List Write → Feeding → Feeding → Type 0
AreWrites [] old new = new ≡ old
AreWrites (w ∷ writes) old new =
    (next : Feeding) × Writes w.count w.from w.fill.piped (filled w.fill) old next × AreWrites writes next new

-- these calls of `finish`, one after the other: each finds the pipe full but for the last one
abbrev pub AreEnds : List Fill → Fill → Feeding → Feeding → Type 0
AreEnds [] last old new = Finishes Finished last.piped (filled last) old new
AreEnds (fill ∷ fills) last old new =
    (next : Feeding) × Finishes Full fill.piped (filled fill) old next × AreEnds fills last next new

-- the answer sends these bytes as a listing, to a request that takes chunks
pub record SendsListing (q : Request) (a : Answer) (bytes : List ℕ) : Type 0 where
  pub version : q.version ≡ V11
  pub choice : a.choice ≡ Listing bytes
  pub some : has_no_content q a.status ≡ false

-- However a listing is cut into writes, and whatever room the pipe has at each call: once `finish` has finished, the
-- calls have put just the framing of the answer that sends it.
abbrev pub FramesListing : Type 0
FramesListing =
    (writes : List Write) (fills : List Fill) (last : Fill) (fed_all done : Feeding)
    → AreWrites writes (unfed blocks_in_chunks) fed_all → AreEnds fills last fed_all done
    → (file : List ℕ → List ℕ) (q : Request) (a : Answer) → SendsListing q a (bytes_fed writes)
    → bytes_put writes (fills ++ last ∷ []) ≡ framed file q a

-- a sink for listings before its first call: its calls go on from no feed, and it may always be finished
pub record OpensListing (feeds : Feeding → Type 0) : Type 0 where
  pub opens : Opens feeds blocks_in_chunks
  pub may_end : (feed : Feed) → blocks_in_chunks.may_end (ended feed) ≡ true
  pub framed : FramesListing
