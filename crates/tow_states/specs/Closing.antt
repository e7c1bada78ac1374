-- An exchange completes: its listeners run, the one added last first.
use Rattle.std.specs.Prelude.{◌≡◌, ◌≢◌, ℕ, ◌<◌, ◌≤◌, ◌⊎◌, true, false, List, [], ◌++◌, filter_map, length, map, reverse, count_by, Option, Some, None, IsTrue}
use Rattle.tow_model.specs.declared.request.Request.{Request}
use Rattle.tow_model.specs.declared.record.Record.{Record}
use Rattle.tow_model.specs.declared.record.Choice.TheVariants.{Undecided}
use Rattle.tow_model.specs.declared.content.Content.{Content}
use Rattle.tow_model.specs.declared.content.Content.TheVariants.{Whole}
use Rattle.tow_model.specs.declared.account.Line.{Line}
use Rattle.tow_model.specs.declared.statement.Statement.{Statement}
use Rattle.tow_model.specs.Lists.{IsPrefix}
use Rattle.tow_model.specs.Texts.{Text}
use Rattle.tow_semantics.specs.Listeners.{at_number, entering, formats_of, leaving, line_by, lines}
use Rattle.tow_semantics.specs.Runs.{Ending, for_verdict}
use Rattle.tow_semantics.specs.Values.{line_of}
use Rattle.tow_wire.specs.Wire.{invitation_to, text_of}
use Rattle.tow_exchange.specs.Exchanges.{ExchangeData}
use Rattle.tow_program.specs.Actions.{formats_in}
use Rattle.tow_program.specs.Programs.{program_of}
use Rattle.tow_closing.specs.Closings.{ClosingData, Does, line_told}
use Rattle.tow_closing.specs.declared.work.Work.TheVariants as work
use Rattle.tow_progress.specs.Progress.{Progress, Origin}
use Rattle.tow_progress.specs.Steps.{IsOpen, IsComplete}
use Rattle.tow_progress.specs.Whole.{a_closing, a_request, IsAtEnd}
use Rattle.tow_progress.specs.Ended.{IsDecidedAs, admits, leaves}
use Rattle.tow_progress.specs.Accounts.{Tally, called, released, stored, lost}
use Rattle.tow_progress.specs.Inside.{KeepsInside}
use Rattle.tow_course.specs.Course.{Course}
use Rattle.tow_states.specs.Leaving.{left_in}
use Rattle.tow_states.specs.Known.{Setting, Stands, exchange_of, moment_of, run_in}

-- ---- what follows

-- what follows an exchange that completes
pub data Onward : Type 0 where
  -- the next request is read, after this content
  to_next : List ℕ → Onward
  -- nothing: its answer closes, whatever its content is
  to_end : Onward
  -- nothing, after this content as far as it came
  to_last : Option Content → Onward
  -- nothing: it is cut, and this is known of its content
  cut_off : Option Content → Onward

abbrev pub content_in : Onward → Option Content
content_in (to_next bytes) = Some (Whole bytes)
content_in to_end = None
content_in (to_last content) = content
content_in (cut_off content) = content

-- the exchange did all that the wire has of it
pub record IsAll (e : ExchangeData) (n : Course) (o : Ending) : Type 0 where
  pub state : o.state ≡ e.stand.state
  pub entries : o.entries ≡ n.entries
  pub heard : o.waits ≢ Some for_verdict

-- The connection has come to where this follows.
abbrev pub LeadsTo : Setting → Progress → ExchangeData → Course → Onward → Type 0
LeadsTo s c e n (to_next bytes) =
    IsComplete (run_in s) c e.request bytes × IsAll e n (exchange_of s c e.request (Some (Whole bytes))).outcome
LeadsTo s c e n to_end = IsAtEnd (run_in s) c (a_closing e.request) × IsAll e n (exchange_of s c e.request None).outcome
LeadsTo s c e n (to_last content) =
    IsAtEnd (run_in s) c (a_request e.request content) × IsAll e n (exchange_of s c e.request content).outcome
LeadsTo s c e n (cut_off content) = Unit {0}

-- ---- what was put and done

-- Wherever the connection is cut now, what was put for the open request q and what its exchange did, whose record is x, are as
-- they have to be.
pub record MayEnd (s : Setting) (c : Progress) (q : Request) (x : Record) (n : Course) (content : Option Content) : Type 0 where
  pub opens : IsOpen c q content
  -- a front of its text was put
  pub put : IsPrefix c.put (text_of (run_in s) c.number (exchange_of s c q content))
  -- its answer is decided, or none is chosen; it is decided if more was put than its `100 Continue`
  pub ends : IsDecidedAs (exchange_of s c q content) x ⊎ (x.choice ≡ Undecided)
  pub decided : length (invitation_to (exchange_of s c q content)) < length c.put
      → IsDecidedAs (exchange_of s c q content) x
  -- its listeners and its entries are fronts of those that the wire has
  pub added : IsPrefix x.listeners (exchange_of s c q content).outcome.state.listeners
  pub entered : IsPrefix n.entries (exchange_of s c q content).outcome.entries
  -- each of its admissions has its leaving
  pub freed : (limit : ℕ) → count_by (admits limit) n.entries ≤ count_by (leaves limit) x.listeners

-- ---- what is left to run

-- the line of the open request for the log of this number
abbrev pub line_at : Progress → ℕ → Text → Line
line_at c number text = record { connection = c.number; request = c.request; number = number; text = text }

-- the line that is owed there
abbrev pub line_owed : Setting → Progress → ExchangeData → ℕ → Line
line_owed s c e number =
    line_at c number (line_of (at_number number (formats_of s.tree)) e.request e.stand.state (moment_of s c))

-- The listeners have run but for those that are left.
pub record Runs (s : Setting) (c : Progress) (t : Tally) (e : ExchangeData) (n : Course) (d : ClosingData)
    (owed : Option ℕ) : Type 0 where
  -- the calls made and those that are left are the entries and all leavings
  pub calls : t.made ++ filter_map (leaving c.request) (left_in owed d)
      ≡ map (entering c.request) n.entries ++ filter_map (leaving c.request) (reverse e.stand.state.listeners)
  -- the lines told and those that are left are all that it owes
  pub told : t.owed ++ filter_map (line_by s.tree c.number c.request e.request e.stand.state (moment_of s c)) (left_in owed d)
      ≡ lines s.tree c.number c.request e.request (moment_of s c) e.stand.state
  pub inside : KeepsInside c.request (left_in owed d) t.calls
  -- the lines that are made are those that are left, if they are not lost
  pub texts : d.lost ≡ false
      → d.lines ≡ filter_map (line_told (formats_of s.tree) e.request e.stand.state (moment_of s c)) d.completed.left
  pub none : d.lost ≡ true → d.lines ≡ []

-- The exchange e completes, by the work d, of which the leaving of a limit may be owed.
pub record IsClosing (s : Setting) (o : Origin) (c : Progress) (t : Tally) (e : ExchangeData) (n : Course) (d : ClosingData)
    (owed : Option ℕ) (onward : Onward) : Type 0 where
  pub stands : Stands s o c t
  pub may_end : MayEnd s c e.request e.stand.state n (content_in onward)
  pub runs : Runs s c t e n d owed
  pub leads : LeadsTo s c e n onward

-- All listeners of the exchange e are left to run, with the lines that they tell.
pub record IsWorkOf (tree : List Statement) (e : ExchangeData) (d : ClosingData) : Type 0 where
  pub left : d.completed.left ≡ reverse e.stand.state.listeners
  pub texts : d.lost ≡ false → d.lines
      ≡ filter_map (line_told (formats_in (program_of tree)) e.request e.stand.state e.moment) (reverse e.stand.state.listeners)
  pub none : d.lost ≡ true → d.lines ≡ []

-- ---- law

-- Each step of the closing work keeps it.
pub record CloseStepsKeep (s : Setting) (o : Origin) (c : Progress) (t : Tally) (e : ExchangeData) (n : Course)
    (onward : Onward) : Type 0 where
  -- the next listener leaves a limit, which is owed then
  pub next_leaves : (d new : ClosingData) (limit : ℕ) → IsClosing s o c t e n d None onward
      → Does (work.Leave limit) d new → new.lost ≡ d.lost → IsClosing s o c t e n new (Some limit) onward
  -- the limit was left
  pub releases : (d : ClosingData) (limit : ℕ) → IsClosing s o c t e n d (Some limit) onward
      → IsClosing s o c (called (released limit c) t) e n d None onward
  -- the next listener told its line, which was stored; none was lost before
  pub stores : (d new : ClosingData) (number : ℕ) (text : Text) → IsClosing s o c t e n d None onward
      → Does (work.Tell number (Some text)) d new → new.lost ≡ d.lost → IsTrue t.all
      → IsClosing s o c (stored (line_at c number text) t) e n new None onward
  -- its line was lost, or comes after one that was
  pub loses : (d new : ClosingData) (number : ℕ) (text : Option Text) → IsClosing s o c t e n d None onward
      → Does (work.Tell number text) d new → new.lost ≡ d.lost
      → IsClosing s o c (lost (line_owed s c e number) t) e n new None onward
  -- the connection is cut
  pub breaks : (d : ClosingData) (owed : Option ℕ) → IsClosing s o c t e n d owed onward
      → IsClosing s o c t e n d owed (cut_off (content_in onward))

abbrev pub ClosingIsKept : Type 0
ClosingIsKept =
    (s : Setting) (o : Origin) (c : Progress) (t : Tally) (e : ExchangeData) (n : Course) (onward : Onward)
    → CloseStepsKeep s o c t e n onward
