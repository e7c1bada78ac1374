-- What is known of a list of statements that is walked.
use Rattle.std.specs.Prelude.{ℕ, Bool, true, false, Option, Some, None, if◌then◌else◌}
use Rattle.tow_notes.specs.declared.level.Level.{Level}
use Rattle.tow_notes.specs.declared.stop.Stop.{Stop}
use Rattle.tow_notes.specs.declared.stop.Stop.TheVariants as stops
use Rattle.tow_notes.specs.Stops.{either}

-- a list of which nothing is read
abbrev pub unread : Bool → ℕ → Level
unread around locations = record {
  stopped = stops.GoesOn;
  targets = None;
  is_conditional = false;
  is_over = true;
  is_plain = false;
  is_plain_around = around;
  locations = locations;
}

-- how the targets of a statement leave the text, with one more
abbrev pub joined : Option Stop → Stop → Stop
joined None stop = stop
joined (Some before) stop = either before stop

-- how a statement leaves the text: it goes on, if it has no target, or its last part has a condition
abbrev pub statement_stop : Option Stop → Bool → Stop
statement_stop None conditional = stops.GoesOn
statement_stop (Some stop) conditional = if conditional then stops.GoesOn else stop

-- how a list leaves the text: as its first statement that always stops
abbrev pub first_stop : Stop → Stop → Stop
first_stop stops.GoesOn next = next
first_stop stops.Answers next = stops.Answers
first_stop stops.Ends next = stops.Ends

-- the list after its statement
abbrev pub ended : Level → Level
ended l = record l {
  stopped = first_stop l.stopped (statement_stop l.targets l.is_conditional);
  targets = None;
  is_conditional = false;
  is_over = true;
  is_plain = false;
}
