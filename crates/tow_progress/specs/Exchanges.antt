-- What the exchanges of a connection ask of limits, the lines that they owe, and the bytes that they are owed.
use Rattle.std.specs.Prelude.{◌≡◌, ◌⊎◌, ℕ, suc, List, [], ◌++◌, length, flat_map}
use Rattle.tow_model.specs.declared.record.Record.{Record}
use Rattle.tow_model.specs.declared.account.Call.{Call}
use Rattle.tow_model.specs.declared.account.Line.{Line}
use Rattle.tow_model.specs.declared.account.Verdict.{Verdict}
use Rattle.tow_model.specs.declared.statement.Statement.{Statement}
use Rattle.tow_message.specs.Stream.{Stream}
use Rattle.tow_semantics.specs.Runs.{Run}
use Rattle.tow_semantics.specs.Listeners.{lines, calls}
use Rattle.tow_wire.specs.Answers.{refusal_text}
use Rattle.tow_wire.specs.Wire.{Met, texts_of, wire, met}

-- the calls of limits of these exchanges, one exchange after the other
abbrev pub calls_of : List Met → List Call
calls_of exchanges = flat_map (λ e. calls e.number e.outcome) exchanges

-- the lines that the exchange owes if its record is x at its end
abbrev pub lines_by : List Statement → Run → ℕ → Met → Record → List Line
lines_by tree run k e x = lines tree k e.number e.request (run.moment k e.number) x

-- the lines of these exchanges, one exchange after the other
abbrev pub lines_of : List Statement → Run → ℕ → List Met → List Line
lines_of tree run k exchanges = flat_map (λ e. lines_by tree run k e e.outcome.state) exchanges

-- What is written behind these exchanges is nothing, or the answer to a head that is refused.
abbrev pub IsBehind : Run → ℕ → List Met → List ℕ → Type 0
IsBehind run k exchanges bytes =
    (bytes ≡ []) ⊎ ((status : ℕ) × (bytes ≡ refusal_text status (run.moment k (suc (length exchanges)))))

-- The wire is the texts of its exchanges, and then at most the answer to a head that is refused.
abbrev pub WireIsTexts : Type 0
WireIsTexts =
    (run : Run) (k : ℕ) (stream : Stream) (v : List Verdict)
    → (behind : List ℕ) × (wire run k stream v ≡ texts_of run k (met run k stream v) ++ behind)
    × IsBehind run k (met run k stream v) behind
