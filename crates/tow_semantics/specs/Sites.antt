-- What a connection takes of a site: the outcomes of its text, over a folder and a table of moments.
use Rattle.std.specs.Prelude.{ℕ, List, [], Option, option_map}
use Rattle.std.specs.Option.{unwrap_or}
use Rattle.tow_model.specs.declared.request.Request.{Request}
use Rattle.tow_model.specs.declared.content.Content.{Content}
use Rattle.tow_model.specs.declared.statement.Statement.{Statement}
use Rattle.tow_model.specs.Texts.{Text}
use Rattle.tow_semantics.specs.Files.{Files, file_at}
use Rattle.tow_semantics.specs.Walk.{Given}
use Rattle.tow_semantics.specs.Outcome.{outcome}
use Rattle.tow_semantics.specs.Runs.{Run}

abbrev pub given : Files → Request → ℕ → Option Content → Given
given files q moment content = record { request = q; moment = moment; files = files; content = content }

abbrev pub file_bytes : Files → Text → Text
file_bytes files path = unwrap_or (option_map (λ f. f.bytes) (file_at files path)) []

-- the run of a text over this folder, with these moments
abbrev pub run_of : List Statement → Files → (ℕ → ℕ → ℕ) → Run
run_of tree files moments = record {
  outcome = λ q moment content verdicts. outcome tree (given files q moment content) verdicts;
  file = file_bytes files;
  moment = moments;
}
