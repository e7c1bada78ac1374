-- What became of a request's content.
use Rattle.std.specs.Prelude.{◌≡◌, true, false, Option}
use Rattle.tow_model.specs.declared.content.Content.{Content}
use Rattle.tow_semantics.specs.Runs.{Ending}
use Rattle.tow_wire.specs.Answers.{is_refused}
use Rattle.tow_answer.specs.declared.content_use.ContentUse.{ContentUse}
use Rattle.tow_answer.specs.declared.content_use.ContentUse.TheVariants.{Unasked, Served, Refused}

-- the exchange that ended so, over this content, used it so
abbrev pub IsUsed : ContentUse → Option Content → Ending → Type 0
IsUsed Unasked content o = o.asked ≡ false
IsUsed Served content o = (o.asked ≡ true) × (is_refused content ≡ false)
IsUsed Refused content o = (o.asked ≡ true) × (is_refused content ≡ true)
