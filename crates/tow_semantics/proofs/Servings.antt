-- A file that is served is one of the map, under a path that can be looked up.
use Rattle.std.proofs.Common.{◌≡◌, ℕ, Bool, true, false, not, List, [], ◌∷◌, ◌++◌, length, Option, Some, None, refl, sym, ap, ◌∙◌, subst, if◌then◌else◌, codes}
use Rattle.std.proofs.lemmas.List.{append-nil}
use Rattle.std.proofs.lemmas.Slice.Eq.{bytes_eq-Decides}
use Rattle.std.specs.Prelude.{option_map}
use Rattle.std.specs.Option.{unwrap_or, option_or}
use Rattle.std.specs.Str.{bytes_eq}
use Rattle.tow_model.specs.declared.request.Request.{Request}
use Rattle.tow_model.specs.declared.record.Record.{Record}
use Rattle.tow_model.specs.Lists.{IsPrefix}
use Rattle.tow_model.specs.Texts.{Text, is_among, ends_in}
use Rattle.tow_semantics.specs.Files.{File, Files, file_at, is_directory, names_in}
use Rattle.tow_semantics.specs.Pages.{Found, Serve, Redirect, Listing, Forbidden, NotModified, NotFound, BadMethod, is_servable, is_unchanged, served, directory_location, file_page, directory_page, welcome_file, welcome_names, listing_of}
use Rattle.tow_semantics.specs.Laws.{IsServedFrom, ServesItsFiles}

-- what is found is no file, or one of the map
abbrev Fair : Files → Text → Found → Type 0
Fair files full (Serve path len second) =
    (f : File) × (file_at files path ≡ Some f) × (len ≡ length f.bytes) × (second ≡ f.second) × IsPrefix full path
Fair files full (Redirect location) = Unit {0}
Fair files full (Listing bytes) = Unit {0}
Fair files full Forbidden = Unit {0}
Fair files full (NotModified second) = Unit {0}
Fair files full NotFound = Unit {0}
Fair files full BadMethod = Unit {0}

file_is : (files : Files) (path : Text) (f : File) → file_at files path ≡ Some f → f.path ≡ path
file_is [] path f is = absurd (cc)
file_is (g ∷ files) path f is = by (bytes_eq g.path path) refl is (file_is files path f)
  where
    by : (b : Bool) → bytes_eq g.path path ≡ b → (if b then Some g else file_at files path) ≡ Some f → (file_at files path ≡ Some f → f.path ≡ path) → f.path ≡ path
    by true same at rest = let e : g ≡ f = cc in ap (λ (h : File). h.path) (sym e) ∙ (bytes_eq-Decides g.path path).0 same
    by false other at rest = rest at

served_fair : (files : Files) (q : Request) (x : Record) (full rest : Text) (f : File) → file_at files (full ++ rest) ≡ Some f → Fair files full (served q x f)
served_fair files q x full rest f at = by (is_unchanged q x f.second)
  where
    named : f.path ≡ full ++ rest
    named = file_is files (full ++ rest) f at

    by : (b : Bool) → Fair files full (if b then NotModified f.second else Serve f.path (length f.bytes) f.second)
    by true = tt
    by false = (f, ap (file_at files) named ∙ at, refl, refl, (rest, named))

file_fair : (files : Files) (q : Request) (x : Record) (full : Text) → Fair files full (file_page files q x full)
file_fair files q x full = by (file_at files full) refl
  where
    other : (b : Bool) → Fair files full (if b then Redirect (directory_location x) else NotFound)
    other true = tt
    other false = tt

    by : (found : Option File) → file_at files full ≡ found →
        Fair files full (unwrap_or (option_map (served q x) found) (if is_directory files (full ++ codes "/") then Redirect (directory_location x) else NotFound))
    by None at = other (is_directory files (full ++ codes "/"))
    by (Some f) at = served_fair files q x full [] f (ap (file_at files) (append-nil full) ∙ at)

welcome_fair : (files : Files) (q : Request) (x : Record) (full : Text) (names : List Text) (listing : Bool) →
    Fair files full (unwrap_or (option_map (served q x) (welcome_file files full names)) (if listing then Listing (listing_of x.path (names_in files full)) else Forbidden))
welcome_fair files q x full [] true = tt
welcome_fair files q x full [] false = tt
welcome_fair files q x full (n ∷ names) listing = by (file_at files (full ++ n)) refl (welcome_fair files q x full names listing)
  where
    by : (found : Option File) → file_at files (full ++ n) ≡ found →
        Fair files full (unwrap_or (option_map (served q x) (welcome_file files full names)) (if listing then Listing (listing_of x.path (names_in files full)) else Forbidden)) →
        Fair files full (unwrap_or (option_map (served q x) (option_or found (welcome_file files full names))) (if listing then Listing (listing_of x.path (names_in files full)) else Forbidden))
    by None at rest = rest
    by (Some f) at rest = served_fair files q x full n f at

directory_fair : (files : Files) (listing : Bool) (q : Request) (x : Record) (full : Text) → Fair files full (directory_page files listing q x full)
directory_fair files listing q x full = by (is_directory files full)
  where
    by : (b : Bool) → Fair files full (if b
        then unwrap_or (option_map (served q x) (welcome_file files full welcome_names)) (if listing then Listing (listing_of x.path (names_in files full)) else Forbidden)
        else NotFound)
    by true = welcome_fair files q x full welcome_names listing
    by false = tt

found : (files : Files) (location : Text) (listing : Bool) (q : Request) (x : Record) (path : Text) (len second : ℕ) (known can : Bool) →
    is_servable (location ++ x.path) ≡ can →
    (if not known then BadMethod else (if not can then NotFound
    else (if ends_in (codes "/") (location ++ x.path) then directory_page files listing q x (location ++ x.path) else file_page files q x (location ++ x.path))))
    ≡ Serve path len second → IsServedFrom files (location ++ x.path) path len second
found files location listing q x path len second false can is at = absurd (cc)
found files location listing q x path len second true false is at = absurd (cc)
found files location listing q x path len second true true is at =
    let full = location ++ x.path in
    let fair = subst (Fair files full) at (ends (ends_in (codes "/") full)) in
    record { file = fair.0; is = fair.1; whole = fair.2; changed = fair.3; servable = is; below = fair.4 }
  where
    ends : (b : Bool) → Fair files (location ++ x.path) (if b then directory_page files listing q x (location ++ x.path) else file_page files q x (location ++ x.path))
    ends true = directory_fair files listing q x (location ++ x.path)
    ends false = file_fair files q x (location ++ x.path)

pub serves_its_files : ServesItsFiles
serves_its_files files location listing q x path len second at =
    found files location listing q x path len second (is_among q.method (codes "GET" ∷ codes "HEAD" ∷ [])) (is_servable (location ++ x.path)) refl at
