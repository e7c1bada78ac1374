-- Which files an answer names: those that a page gave.
use Rattle.std.specs.Prelude.{◌≡◌, ℕ, Bool, nat_le, List, length, IsTrue}
use Rattle.tow_model.specs.declared.request.Request.{Request}
use Rattle.tow_model.specs.declared.record.Record.{Record}
use Rattle.tow_model.specs.declared.record.Choice.{Choice}
use Rattle.tow_model.specs.declared.record.Choice.TheVariants as choice
use Rattle.tow_model.specs.declared.account.Verdict.{Verdict}
use Rattle.tow_model.specs.declared.content.Content.{Content}
use Rattle.tow_model.specs.declared.statement.Statement.{Statement}
use Rattle.tow_model.specs.Texts.{Text}
use Rattle.tow_semantics.specs.Files.{Files}
use Rattle.tow_semantics.specs.Pages.{Found, Serve, found_page}
use Rattle.tow_semantics.specs.Sites.{file_bytes}
use Rattle.tow_exchange.specs.Exchanges.{ExchangeData, content_given, opened, page_given, verdict_given}
use Rattle.tow_exchange.specs.declared.phase.Phase.TheVariants.{Stopped}
use Rattle.tow_course.specs.Course.{Advances}

-- the content of an answer is no file, or one of which this is true by its path and its length
abbrev pub IsServed : (Text → ℕ → Bool) → Choice → Type 0
IsServed fits (choice.File path len) = IsTrue (fits path len)
IsServed fits other = Unit {0}

-- a page gives no file, or such a one
abbrev pub IsGiven : (Text → ℕ → Bool) → Found → Type 0
IsGiven fits (Serve path len second) = IsTrue (fits path len)
IsGiven fits other = Unit {0}

-- An exchange that has stopped serves no file, or such a one.
abbrev pub Serves : (Text → ℕ → Bool) → ExchangeData → Type 0
Serves fits e = e.phase ≡ Stopped → IsServed fits e.stand.state.choice

-- the folder has that many bytes of the file
abbrev pub has_bytes : Files → Text → ℕ → Bool
has_bytes files path len = nat_le len (length (file_bytes files path))

-- ---- laws

-- Whatever is true of all files that pages give is true of the file that an exchange serves: no other step of it serves one.
pub record ServingIsKept (fits : Text → ℕ → Bool) : Type 0 where
  pub opens : (k j : ℕ) (q : Request) (m : ℕ) → Serves fits (opened k j q m)
  pub advances : (tree : List Statement) (old new : ExchangeData) → Advances tree old new → Serves fits old → Serves fits new
  pub hears : (limit : ℕ) (verdict : Verdict) (e : ExchangeData) → Serves fits (verdict_given limit verdict e)
  pub reads : (content : Content) (e : ExchangeData) → Serves fits (content_given content e)
  pub looks : (found : Found) (e : ExchangeData) → IsGiven fits found → Serves fits (page_given found e)

abbrev pub FilesAreOfPages : Type 0
FilesAreOfPages = (fits : Text → ℕ → Bool) → ServingIsKept fits

-- of a file that is found the folder has all the bytes that are told
abbrev pub FoundFilesHaveBytes : Type 0
FoundFilesHaveBytes =
    (files : Files) (location : Text) (listing : Bool) (q : Request) (x : Record)
    → IsGiven (has_bytes files) (found_page files location listing q x)
