-- What a look into a folder is answered with.
use Rattle.std.specs.Prelude.{◌≡◌, ℕ, ◌<◌, true, List, [], ◌∷◌, if◌then◌else◌, Option, Some, None, IsPermutation}
use Rattle.std.specs.Option.{unwrap_or}
use Rattle.tow_model.specs.declared.limits.TheConstants.{FIRST_UNDATED}
use Rattle.tow_model.specs.declared.request.Request.{Request}
use Rattle.tow_model.specs.declared.record.Record.{Record}
use Rattle.tow_model.specs.declared.page.Page.{Page}
use Rattle.tow_model.specs.declared.page.Page.TheVariants as pages
use Rattle.tow_model.specs.Texts.{Text}
use Rattle.tow_semantics.specs.Files.{Name}
use Rattle.tow_semantics.specs.Laws.{are_in_order}
use Rattle.tow_semantics.specs.Pages.{Found, Serve, NotModified, is_unchanged, page_for}
use Rattle.tow_folder.specs.Folders.{is_askable}

-- the page is what is found, but for a fault and want of memory
abbrev pub IsPage : Found → Page → Type 0
IsPage found (pages.Serve path len second) = pages.Serve path len second ≡ page_for found
IsPage found (pages.Redirect location) = pages.Redirect location ≡ page_for found
IsPage found (pages.Listing bytes) = pages.Listing bytes ≡ page_for found
IsPage found pages.Forbidden = pages.Forbidden ≡ page_for found
IsPage found (pages.NotModified second) = pages.NotModified second ≡ page_for found
IsPage found pages.NotFound = pages.NotFound ≡ page_for found
IsPage found pages.BadMethod = pages.BadMethod ≡ page_for found
IsPage found pages.FolderFault = Unit {0}
IsPage found pages.NoMemory = Unit {0}

-- the page of what is found, if anything is, but for a fault
abbrev pub IsPageOr : Option Found → Option Page → Type 0
IsPageOr found None = found ≡ None
IsPageOr found (Some page) = (other : Found) → IsPage (unwrap_or found other) page

-- a path that is served is one that a folder's calls take, and a second that the client has is one that a date shows
abbrev pub CanBeGiven : Page → Type 0
CanBeGiven (pages.Serve path len second) = is_askable path ≡ true
CanBeGiven (pages.NotModified second) = second < FIRST_UNDATED
CanBeGiven other = Unit {0}

-- a file of this path, this length and this second, as it is found
abbrev pub served_at : Request → Record → Text → ℕ → ℕ → Found
served_at q x path len second = if is_unchanged q x second then NotModified second else Serve path len second

-- the text, if there is no other
abbrev pub only : List Text → Option Text
only [] = None
only (value ∷ []) = Some value
only (value ∷ more ∷ values) = None

-- the second names are the first, in the order of their bytes, if no two are the same
abbrev pub AreOrdered : List Name → List Name → Type 0
AreOrdered names result = (ordered : List Name) → are_in_order ordered ≡ true → IsPermutation ordered names → result ≡ ordered
