-- Where an open connection stands in what it is to write: the one fact that its calls keep.
use Rattle.std.specs.Prelude.{◌≡◌, ℕ, suc, List, ◌++◌, length, All, IsTrue}
use Rattle.tow_model.specs.declared.account.Verdict.{Verdict}
use Rattle.tow_model.specs.Lists.{IsPrefix}
use Rattle.tow_message.specs.Stream.{Stream, ReadsStream}
use Rattle.tow_semantics.specs.Runs.{Run}
use Rattle.tow_wire.specs.Wire.{Met, texts_of, goes_on, wire, wire_from, met, met_from}
use Rattle.tow_progress.specs.Progress.{Progress, unfinished, input_of, verdicts_of, opening}

-- The whole input is read as whole, and from the open request on as rest: what stands before rest is finished.
pub record Continues (run : Run) (c : Progress) (whole rest : Stream) : Type 0 where
  -- what is not finished is read as rest
  pub reads : ReadsStream c.peer (unfinished c) rest
  -- the exchanges that are finished
  pub before : List Met
  -- each of them let the next request be read
  pub went_on : All (λ e. IsTrue (goes_on e)) before
  -- what was put for them is their texts
  pub texts : c.texts ≡ texts_of run c.number before
  -- they are those before the open request
  pub count : c.request ≡ suc (length before)
  -- whatever verdicts still come, they come first, and the exchanges of rest follow
  pub exchanges : (more : List Verdict)
      → met run c.number whole (c.spent ++ more) ≡ before ++ met_from run c.number c.request rest more
  -- whatever verdicts still come, their texts come first, and what rest writes follows
  pub joined : (more : List Verdict)
      → wire run c.number whole (c.spent ++ more) ≡ c.texts ++ wire_from run c.number c.request rest more

-- whatever verdicts still come, what was put for the open request is a front of what rest writes
abbrev pub PutsFront : Run → Progress → Stream → Type 0
PutsFront run c rest =
    (more : List Verdict) → IsPrefix c.put (wire_from run c.number c.request rest (c.own ++ more))

-- The pipe of input, the exchange and the pipe of output stand where the wire says.
pub record IsOnWire (run : Run) (c : Progress) : Type 0 where
  -- what was put is what was written, and then what stands in the pipe of output
  pub out : c.texts ++ c.put ≡ c.written ++ c.piped_out
  -- however the whole input is read, it continues from the open request on, of which a front was put
  pub within : (whole : Stream) → ReadsStream c.peer (input_of c) whole
      → (rest : Stream) × Continues run c whole rest × PutsFront run c rest

-- The written bytes are a front of the wire under the verdicts so far.
abbrev pub WritesFront : Run → Progress → Type 0
WritesFront run c =
    (whole : Stream) → ReadsStream c.peer (input_of c) whole
    → IsPrefix c.written (wire run c.number whole (verdicts_of c))

-- ---- laws

-- a connection of which nothing was read or written is on its wire
abbrev pub OpeningIs : Type 0
OpeningIs = (run : Run) (k peer : ℕ) (input : List ℕ) → IsOnWire run (opening k peer input)

-- a connection on its wire has written a front of it
abbrev pub FrontFollows : Type 0
FrontFollows = (run : Run) (c : Progress) → IsOnWire run c → WritesFront run c

-- a type keeps the fact without its reasons, and that is enough
abbrev pub KeptFrontFollows : Type 0
KeptFrontFollows = (run : Run) (c : Progress) → ∥ IsOnWire run c ∥₁ → WritesFront run c
