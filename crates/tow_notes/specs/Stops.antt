-- How targets leave a text.
use Rattle.std.specs.Prelude.{ℕ, List, Option, None, Some, codes, bytes_eq, if◌then◌else◌}
use Rattle.tow_language.specs.declared.table.Handler.{Handler}
use Rattle.tow_language.specs.declared.table.Handler.TheVariants as handlers
use Rattle.tow_language.specs.Table.{handler_named}
use Rattle.tow_notes.specs.declared.stop.Stop.{Stop}
use Rattle.tow_notes.specs.declared.stop.Stop.TheVariants as stops

-- a statement of two parts goes on if one of them does, and ends the text if both do
abbrev pub either : Stop → Stop → Stop
either stops.GoesOn b = stops.GoesOn
either stops.Answers stops.GoesOn = stops.GoesOn
either stops.Answers stops.Answers = stops.Answers
either stops.Answers stops.Ends = stops.Answers
either stops.Ends stops.GoesOn = stops.GoesOn
either stops.Ends stops.Answers = stops.Answers
either stops.Ends stops.Ends = stops.Ends

-- three handlers always answer
abbrev pub handler_stop : Handler → Stop
handler_stop handlers.Redirect = stops.Answers
handler_stop handlers.ResponseCode = stops.Answers
handler_stop handlers.Echo = stops.Answers
handler_stop _ = stops.GoesOn

abbrev pub named_stop : Option Handler → Option Stop
named_stop None = None
named_stop (Some h) = Some (handler_stop h)

-- how the target of this word leaves the text, if it names one
abbrev pub stop_of : List ℕ → Option Stop
stop_of word =
    if bytes_eq word (codes "done") then Some stops.Ends else
    (if bytes_eq word (codes "restart") then Some stops.Answers else named_stop (handler_named word))
