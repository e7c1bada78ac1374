-- What is true of a connection in each stage.
use Rattle.std.specs.Prelude.{◌≡◌, ◌⊎◌, ℕ, suc, Bool, true, false, not, List, [], reverse, Option, Some, None}
use Rattle.tow_model.specs.declared.content.Content.{Content}
use Rattle.tow_model.specs.declared.content.Content.TheVariants.{Whole}
use Rattle.tow_model.specs.declared.account.End.{End}
use Rattle.tow_model.specs.declared.account.End.TheVariants.{Done, LinkFault, FolderFault, NoMemory}
use Rattle.tow_semantics.specs.Sites.{file_bytes}
use Rattle.tow_exchange.specs.Exchanges.{ExchangeData}
use Rattle.tow_exchange.specs.declared.phase.Phase.TheVariants.{AwaitsContent}
use Rattle.tow_source.specs.Readings.{Reading, unread}
use Rattle.tow_source.specs.declared.drain.Drain.{Drain}
use Rattle.tow_content.specs.declared.source.ContentSource.{ContentSource}
use Rattle.tow_content.specs.declared.gathering.Gathering.{Gathering}
use Rattle.tow_content.specs.Sources.{ReadsContent}
use Rattle.tow_content.specs.Gatherings.{Gathers}
use Rattle.tow_closing.specs.Closings.{ClosingData}
use Rattle.tow_sending.specs.Pieces.{HasParts, Piece, texts}
use Rattle.tow_walks.specs.Sendable.{IsSendable}
use Rattle.tow_progress.specs.Progress.{Progress, Origin}
use Rattle.tow_progress.specs.Whole.{LastThing}
use Rattle.tow_progress.specs.Accounts.{Tally, exchanges_at}
use Rattle.tow_progress.specs.Cuts.{CutAt, begun_at}
use Rattle.tow_course.specs.Course.{Course}
use Rattle.tow_states.specs.Known.{Setting}
use Rattle.tow_states.specs.Reading.{IsReading, IsRefusing}
use Rattle.tow_states.specs.Walking.{IsWalking}
use Rattle.tow_states.specs.Gathering.{IsGathering, is_to_be_told}
use Rattle.tow_states.specs.Sending.{IsSending}
use Rattle.tow_states.specs.Completing.{answer_closes}
use Rattle.tow_states.specs.Closing.{IsClosing, IsWorkOf, Onward, cut_off, to_end, to_last, to_next}
use Rattle.tow_states.specs.Ending.{IsAtLast, IsCutOff}
use Rattle.tow_states.specs.Calling.{HasPlaces, HasPlacesFor}
use Rattle.tow_states.specs.Leaving.{left_in}
use Rattle.tow_leads.specs.Ports.{IsPortOf}
use Rattle.tow_stages.specs.Stages.{Base, Stage, answering, closing, ended, gathering, reading, refusing, walking}

-- It has come so far.
pub record IsAt (b : Base) (c : Progress) (t : Tally) : Type 0 where
  pub number : b.number ≡ c.number
  pub port : IsPortOf b.port c
  pub calls : b.calls ≡ t.calls
  pub all : t.all ≡ not b.silent

-- lines are put no more only if its log has failed for it
abbrev pub IsSilentBy : Bool → Base → Type 0
IsSilentBy failed b = b.silent ≡ true → failed ≡ true

-- so it is, or a line found no memory, of which the connection ends
abbrev pub IsSilentOrEnds : Bool → Base → Option End → Type 0
IsSilentOrEnds failed b end = b.silent ≡ true → (failed ≡ true) ⊎ (end ≡ Some NoMemory)

-- ---- between requests

pub record Reads (s : Setting) (o : Origin) (b : Base) (c : Progress) (t : Tally) : Type 0 where
  pub is : IsReading s o c t
  pub begun : suc b.begun ≡ c.request

pub record Refuses (s : Setting) (o : Origin) (b : Base) (left : List ℕ) (c : Progress) (t : Tally) : Type 0 where
  pub status : ℕ
  pub is : IsRefusing s o c t status left
  pub begun : suc b.begun ≡ c.request

-- ---- an exchange on its walk

-- its answer can be sent, and its calls have their places
pub record IsServed (s : Setting) (b : Base) (e : ExchangeData) (c : Progress) (t : Tally) : Type 0 where
  pub sendable : IsSendable (Some s.files) e
  pub begun : b.begun ≡ c.request
  pub asks : ℕ
  pub places : HasPlaces s.tree b.room t e asks

pub record WalksOn (s : Setting) (o : Origin) (b : Base) (e : ExchangeData) (c : Progress) (t : Tally) : Type 0 where
  pub course : Course
  pub is : IsWalking s o c t e course
  pub served : IsServed s b e c t

-- the client is to be told to send the content
pub record Tells (s : Setting) (o : Origin) (e : ExchangeData) (g : Gathering) (c : Progress) (t : Tally) (n : Course) : Type 0 where
  pub is : IsWalking s o c t e n
  pub phase : e.phase ≡ AwaitsContent
  pub to_tell : is_to_be_told e.request ≡ true
  pub gathers : Gathers g (unread e.request.framing)

-- so much of the content was taken
pub record Takes (s : Setting) (o : Origin) (e : ExchangeData) (g : Gathering) (c : Progress) (t : Tally) (n : Course) : Type 0 where
  pub reading : Reading
  pub is : IsGathering s o c t e n reading.taken
  pub framing : reading.framing ≡ e.request.framing
  pub gathers : Gathers g reading

abbrev pub TellsOrTakes : Bool → Setting → Origin → ExchangeData → Gathering → Progress → Tally → Course → Type 0
TellsOrTakes true s o e g c t n = Tells s o e g c t n
TellsOrTakes false s o e g c t n = Takes s o e g c t n

pub record GathersOn (s : Setting) (o : Origin) (b : Base) (e : ExchangeData) (g : Gathering) (to_tell : Bool) (c : Progress)
    (t : Tally) : Type 0 where
  pub course : Course
  pub is : TellsOrTakes to_tell s o e g c t course
  pub served : IsServed s b e c t

-- ---- an exchange whose answer is decided

-- What is dropped of a content, of which so much was taken. Nothing is, behind an answer that closes, or if the exchange was
-- given its content.
abbrev pub DropsRest : Option (Drain ContentSource) → Bool → ExchangeData → Course → List ℕ → Type 0
DropsRest None closes e n took = (closes ≡ true) ⊎ ((bytes : List ℕ) × n.content ≡ Some (Whole bytes))
DropsRest (Some drain) closes e n took =
    (closes ≡ false) × (n.content ≡ None)
    × ((r : Reading) × (r.taken ≡ took) × (r.framing ≡ e.request.framing) × ReadsContent drain.source r)

pub record AnswersOn (s : Setting) (o : Origin) (b : Base) (d : ClosingData) (pieces : List Piece) (closes : Bool)
    (drain : Option (Drain ContentSource)) (c : Progress) (t : Tally) : Type 0 where
  pub exchange : ExchangeData
  pub course : Course
  pub took : List ℕ
  pub is : IsSending s o c t exchange course took (texts (file_bytes s.files) pieces)
  pub work : IsWorkOf s.tree exchange d
  -- the folder has what is left of a file
  pub there : HasParts s.files pieces
  pub closes_so : closes ≡ answer_closes c exchange course
  pub drops : DropsRest drain closes exchange course took
  pub begun : b.begun ≡ c.request
  pub places : HasPlacesFor b.room t (reverse exchange.stand.state.listeners)

-- what follows the listeners
abbrev pub Follows : Option End → Onward → Type 0
Follows None onward = (bytes : List ℕ) × onward ≡ to_next bytes
Follows (Some Done) onward = (onward ≡ to_end) ⊎ ((content : Option Content) × onward ≡ to_last content)
Follows (Some LinkFault) onward = (content : Option Content) × onward ≡ cut_off content
Follows (Some FolderFault) onward = (content : Option Content) × onward ≡ cut_off content
Follows (Some NoMemory) onward = (content : Option Content) × onward ≡ cut_off content

pub record ClosesOn (s : Setting) (o : Origin) (b : Base) (d : ClosingData) (owed : Option ℕ) (end : Option End) (c : Progress)
    (t : Tally) : Type 0 where
  pub exchange : ExchangeData
  pub course : Course
  pub onward : Onward
  pub is : IsClosing s o c t exchange course d owed onward
  pub follows : Follows end onward
  -- all is written behind which the connection is done
  pub written : end ≡ Some Done → c.piped_out ≡ []
  pub begun : b.begun ≡ c.request
  pub places : HasPlacesFor b.room t (left_in owed d)

-- ---- a connection that has ended

pub record IsDone (s : Setting) (o : Origin) (b : Base) (c : Progress) (t : Tally) : Type 0 where
  pub thing : LastThing
  pub is : IsAtLast s o c t thing
  pub written : c.piped_out ≡ []
  pub begun : b.begun ≡ exchanges_at c thing

pub record IsCut (s : Setting) (o : Origin) (b : Base) (c : Progress) (t : Tally) : Type 0 where
  pub at : CutAt
  pub is : IsCutOff s o c t at
  pub begun : b.begun ≡ begun_at c at

abbrev pub HasEnded : End → Setting → Origin → Base → Progress → Tally → Type 0
HasEnded Done s o b c t = IsDone s o b c t
HasEnded LinkFault s o b c t = IsCut s o b c t
HasEnded FolderFault s o b c t = IsCut s o b c t
HasEnded NoMemory s o b c t = IsCut s o b c t

-- ---- all of it

abbrev pub HoldsAt : Bool → Setting → Origin → Base → Stage → Progress → Tally → Type 0
HoldsAt failed s o b reading c t = Reads s o b c t × IsSilentBy failed b
HoldsAt failed s o b (refusing left) c t = Refuses s o b left c t × IsSilentBy failed b
HoldsAt failed s o b (walking e) c t = WalksOn s o b e c t × IsSilentBy failed b
HoldsAt failed s o b (gathering e g to_tell) c t = GathersOn s o b e g to_tell c t × IsSilentBy failed b
HoldsAt failed s o b (answering d pieces closes drain) c t = AnswersOn s o b d pieces closes drain c t × IsSilentBy failed b
HoldsAt failed s o b (closing d owed end) c t = ClosesOn s o b d owed end c t × IsSilentOrEnds failed b end
HoldsAt failed s o b (ended end) c t = HasEnded end s o b c t × IsSilentOrEnds failed b (Some end)

-- The connection in this stage has come so far; `failed` says that its log has failed for it.
pub record Holds (failed : Bool) (s : Setting) (o : Origin) (b : Base) (stage : Stage) (c : Progress) (t : Tally) : Type 0 where
  pub is_at : IsAt b c t
  pub holds : HoldsAt failed s o b stage c t
