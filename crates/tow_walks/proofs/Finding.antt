-- What a page that was given was found as.
use Rattle.std.proofs.Common.{◌≡◌, ◌≢◌, Bool, Option, Some, None, IfSome, refl, subst}
use Rattle.tow_model.specs.declared.page.Page.{Page}
use Rattle.tow_model.specs.declared.page.Page.TheVariants as pages
use Rattle.tow_model.specs.Texts.{Text}
use Rattle.tow_semantics.specs.Files.{Files}
use Rattle.tow_semantics.specs.Pages.{Found, Serve, Redirect, Listing, Forbidden, NotModified, NotFound, BadMethod, found_page, page_for}
use Rattle.tow_exchange.specs.Exchanges.{ExchangeData, page_given}
use Rattle.tow_exchange.specs.declared.phase.Phase.TheVariants.{AwaitsPage}
use Rattle.tow_page.specs.Answers.{CanBeGiven, IsPage}
use Rattle.tow_walks.specs.Walks.{IsFoundIn, Looks}

is_page : (found : Found) (page : Page) → page ≢ pages.FolderFault → page ≢ pages.NoMemory → IsPage found page → page ≡ page_for found
is_page found (pages.Serve path len second) fault want is = is
is_page found (pages.Redirect location) fault want is = is
is_page found (pages.Listing bytes) fault want is = is
is_page found pages.Forbidden fault want is = is
is_page found (pages.NotModified second) fault want is = is
is_page found pages.NotFound fault want is = is
is_page found pages.BadMethod fault want is = is
is_page found pages.FolderFault fault want is = absurd (fault refl)
is_page found pages.NoMemory fault want is = absurd (want refl)

some_found : (page : Page) → page ≢ pages.FolderFault → page ≢ pages.NoMemory → (found : Found) × (page ≡ page_for found)
some_found (pages.Serve path len second) fault want = (Serve path len second, refl)
some_found (pages.Redirect location) fault want = (Redirect location, refl)
some_found (pages.Listing bytes) fault want = (Listing bytes, refl)
some_found pages.Forbidden fault want = (Forbidden, refl)
some_found (pages.NotModified second) fault want = (NotModified second, refl)
some_found pages.NotFound fault want = (NotFound, refl)
some_found pages.BadMethod fault want = (BadMethod, refl)
some_found pages.FolderFault fault want = absurd (fault refl)
some_found pages.NoMemory fault want = absurd (want refl)

module _ (e new : ExchangeData) (location : Text) (listing : Bool) (page : Page) (is : e.phase ≡ AwaitsPage location listing)
    (fault : page ≢ pages.FolderFault) (want : page ≢ pages.NoMemory) (can : CanBeGiven page)
    (gives : (found : Found) → page ≡ page_for found → new ≡ page_given found e) where
  looks_as : (told : Option Files) (found : Found) → page ≡ page_for found → IsFoundIn told location listing e found → Looks told e new
  looks_as told found same in_folder = record {
    location = location;
    listing = listing;
    waits = is;
    found = found;
    is_found = in_folder;
    can = subst CanBeGiven same can;
    given = gives found same;
  }

  -- the exchange was given the page that the folder has
  pub looks : (told : Option Files) → IfSome told (λ files. IsPage (found_page files location listing e.request e.stand.state) page) →
      Looks told e new
  looks None shown = let some = some_found page fault want in looks_as None some.0 some.1 tt
  looks (Some files) shown =
      let found = found_page files location listing e.request e.stand.state in
      looks_as (Some files) found (is_page found page fault want shown) refl
