-- No listener is left: the next request is read, or the connection ends.
use Rattle.std.specs.Prelude.{◌≡◌, ◌++◌, ℕ, ◌≢◌, List, [], Option, None, IsTrue}
use Rattle.tow_model.specs.declared.content.Content.{Content}
use Rattle.tow_model.specs.declared.account.End.TheVariants.{Done, NoMemory}
use Rattle.tow_message.specs.Stream.{nothing, ReadsStream}
use Rattle.tow_exchange.specs.Exchanges.{ExchangeData}
use Rattle.tow_closing.specs.Closings.{ClosingData}
use Rattle.tow_progress.specs.Progress.{Progress, Origin}
use Rattle.tow_progress.specs.Steps.{completed}
use Rattle.tow_progress.specs.Whole.{LastThing, an_end, a_refusal, a_closing, a_request, IsAtEnd}
use Rattle.tow_progress.specs.Ended.{Seen, EndedUnder}
use Rattle.tow_progress.specs.Accounts.{Tally, settled, LastIsAccounted, exchanges_at, IsSeenOf}
use Rattle.tow_progress.specs.Cuts.{CutAt, inside, IsCutAt, begun_at}
use Rattle.tow_progress.specs.Inside.{KeepsInside}
use Rattle.tow_course.specs.Course.{Course}
use Rattle.tow_states.specs.Known.{Setting, Stands, run_in}
use Rattle.tow_states.specs.Reading.{IsReading, IsRefusing}
use Rattle.tow_states.specs.Closing.{IsClosing, cut_off, to_end, to_last, to_next}

-- The connection has come to its last thing, has put all, and has asked and told all.
pub record IsAtLast (s : Setting) (o : Origin) (c : Progress) (t : Tally) (thing : LastThing) : Type 0 where
  pub stands : Stands s o c t
  pub at_end : IsAtEnd (run_in s) c thing
  pub accounted : LastIsAccounted s.tree (run_in s) c t thing
  pub none_inside : KeepsInside c.request [] t.calls

-- The connection was cut here, and the listeners of its open exchange have run.
pub record IsCutOff (s : Setting) (o : Origin) (c : Progress) (t : Tally) (at : CutAt) : Type 0 where
  pub stands : Stands s o c t
  pub cut : IsCutAt s.tree (run_in s) c t at
  pub none_inside : KeepsInside c.request [] t.calls

-- ---- to the end

-- nothing more is asked, or all of the answer to a head that is refused was put
pub record ReadingEnds : Type 0 where
  pub nothing_more : (s : Setting) (o : Origin) (c : Progress) (t : Tally) → IsReading s o c t
      → ReadsStream c.peer (c.piped_in ++ c.left) nothing → IsAtLast s o c t an_end
  pub refused_head : (s : Setting) (o : Origin) (c : Progress) (t : Tally) (status : ℕ) → IsRefusing s o c t status []
      → IsAtLast s o c t (a_refusal status)

-- All listeners of an exchange have run.
pub record ClosingEnds (s : Setting) (o : Origin) (c : Progress) (t : Tally) (e : ExchangeData) (n : Course)
    (d : ClosingData) : Type 0 where
  pub next_request : (bytes : List ℕ) → IsClosing s o c t e n d None (to_next bytes)
      → IsReading s o (completed c) (settled t)
  pub last_closes : IsClosing s o c t e n d None to_end → IsAtLast s o c t (a_closing e.request)
  pub last_request : (content : Option Content) → IsClosing s o c t e n d None (to_last content)
      → IsAtLast s o c t (a_request e.request content)
  pub cut : (content : Option Content) → IsClosing s o c t e n d None (cut_off content)
      → IsCutOff s o c t (inside e.request content)

abbrev pub ClosingComesToEnd : Type 0
ClosingComesToEnd =
    (s : Setting) (o : Origin) (c : Progress) (t : Tally) (e : ExchangeData) (n : Course) (d : ClosingData)
    → d.completed.left ≡ [] → ClosingEnds s o c t e n d

-- ---- what has ended

-- A connection whose last bytes were written is done as it has to be.
abbrev pub LastIsDone : Type 0
LastIsDone =
    (s : Setting) (o : Origin) (c : Progress) (t : Tally) (thing : LastThing) → IsAtLast s o c t thing → c.piped_out ≡ []
    → (seen : Seen) → seen.account.end ≡ Done → IsSeenOf c t (exchanges_at c thing) seen
    → (IsTrue seen.logged → IsTrue t.all) → EndedUnder s.tree s.files s.moments o.number o.peer o.input seen

-- One that was cut has ended as it has to. It ends with want of memory if a line found none.
abbrev pub CutHasEnded : Type 0
CutHasEnded =
    (s : Setting) (o : Origin) (c : Progress) (t : Tally) (at : CutAt) → IsCutOff s o c t at
    → (seen : Seen) → seen.account.end ≢ Done → IsSeenOf c t (begun_at c at) seen
    → (seen.account.end ≢ NoMemory → IsTrue seen.logged → IsTrue t.all)
    → EndedUnder s.tree s.files s.moments o.number o.peer o.input seen
