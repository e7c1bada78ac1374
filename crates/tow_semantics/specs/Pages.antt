-- Pages: what a look into the folder finds, and what it makes of the record.
use Rattle.std.specs.Prelude.{ℕ, Bool, true, false, not, ◌&&◌, ◌||◌, ◌==◌, nat_lt, nat_le, List, [], ◌∷◌, ◌++◌, length, drop, reverse, if◌then◌else◌, Option, None, option_map, codes, flat_map}
use Rattle.std.specs.List.{list_any, list_all}
use Rattle.std.specs.Option.{unwrap_or, option_or}
use Rattle.std.specs.Str.{bytes_eq, byte, is_utf8, str_to_ascii_lowercase}
use Rattle.httpdate.specs.Date.{parse_secs}
use Rattle.tow_model.specs.declared.request.Field.{Field}
use Rattle.tow_model.specs.declared.request.Request.{Request}
use Rattle.tow_model.specs.declared.record.Record.{Record}
use Rattle.tow_model.specs.declared.record.Choice.TheVariants as choice
use Rattle.tow_model.specs.declared.page.Page.{Page}
use Rattle.tow_model.specs.declared.page.Page.TheVariants as pages
use Rattle.tow_model.specs.Texts.{Text, is_empty, is_among, begins_with, ends_in, before, after, cut_at, but_last, escaped, is_unreserved, is_visible}
use Rattle.tow_model.specs.Fields.{values_of, without, set_to}
use Rattle.tow_model.specs.Paths.{slash}
use Rattle.tow_model.specs.Dates.{date_of, first_undated}
use Rattle.tow_semantics.specs.Steps.{Step, Go, Stop, answered}
use Rattle.tow_semantics.specs.Effects.{redirected, not_allowed}
use Rattle.tow_semantics.specs.Files.{File, Files, Name, file_at, is_directory, names_in}

-- WHAT A LOOK FINDS

-- What is found where neither the folder nor memory fails. A second counts from 1970.
pub data Found : Type 0 where
  -- a file, by its path in the folder, with its length and its second
  Serve : Text → ℕ → ℕ → Found
  -- a directory without its `/`: the address with it
  Redirect : Text → Found
  -- the page of a directory
  Listing : Text → Found
  Forbidden : Found
  -- the client has the file of this second as it is
  NotModified : ℕ → Found
  NotFound : Found
  BadMethod : Found

-- as code gives it; a fault is none of these
abbrev pub page_for : Found → Page
page_for (Serve path len second) = pages.Serve path len second
page_for (Redirect location) = pages.Redirect location
page_for (Listing bytes) = pages.Listing bytes
page_for Forbidden = pages.Forbidden
page_for (NotModified second) = pages.NotModified second
page_for NotFound = pages.NotFound
page_for BadMethod = pages.BadMethod

-- a path that can be looked up: UTF-8, from the root on, without NUL and without an empty segment but the last
abbrev pub is_servable : Text → Bool
is_servable path =
    is_utf8 path && begins_with (codes "/") path && not (list_any (λ b. b == 0) path)
    && list_all (λ s. not (is_empty s)) (but_last (cut_at slash (drop 1 path)))

-- the one date is one, and the file is not later (RFC 9110, section 13.1.3)
abbrev pub is_not_later : ℕ → List Text → Bool
is_not_later second (value ∷ []) = unwrap_or (option_map (nat_le second) (parse_secs value)) false
is_not_later second other = false

abbrev pub no_values : List Text → Bool
no_values [] = true
no_values (v ∷ vs) = false

abbrev pub is_unchanged : Request → Record → ℕ → Bool
is_unchanged q x second =
    x.status == 200 && no_values (values_of (codes "if-none-match") q.fields)
    && is_not_later second (values_of (codes "if-modified-since") q.fields)

abbrev pub served : Request → Record → File → Found
served q x f = if is_unchanged q x f.second then NotModified f.second else Serve f.path (length f.bytes) f.second

-- the record's path as a directory, with the query
abbrev pub directory_location : Record → Text
directory_location x =
    escaped (λ b. is_unreserved b || b == slash) x.path ++ codes "/"
    ++ unwrap_or (option_map (λ query. codes "?" ++ escaped is_visible query) x.query) []

abbrev pub file_page : Files → Request → Record → Text → Found
file_page files q x path =
    unwrap_or (option_map (served q x) (file_at files path))
    (if is_directory files (path ++ codes "/") then Redirect (directory_location x) else NotFound)

-- THE LISTING

abbrev pub html_byte : ℕ → Text
html_byte b =
    if b == byte "&" then codes "&amp;" else (if b == byte "<" then codes "&lt;"
    else (if b == byte ">" then codes "&gt;" else (if b == byte "\"" then codes "&quot;" else b ∷ [])))

abbrev pub html : Text → Text
html text = flat_map html_byte text

abbrev pub line : Text → Text
line text = text ++ codes "\n"

abbrev pub name_line : Name → Text
name_line n =
    let ending = if n.directory then codes "/" else [] in
    line (codes "<li><a href=\"" ++ escaped is_unreserved n.text ++ ending ++ codes "\">" ++ html (n.text ++ ending) ++ codes "</a></li>")

-- the names of a directory as a page under the record's path
abbrev pub listing_of : Text → List Name → Text
listing_of path names =
    line (codes "<!DOCTYPE html>") ++ line (codes "<html><head><title>Index of " ++ html path ++ codes "</title></head><body>")
    ++ line (codes "<ul>") ++ flat_map name_line names ++ line (codes "</ul>") ++ line (codes "</body></html>")

abbrev pub welcome_names : List Text
welcome_names = codes "index.html" ∷ codes "index.htm" ∷ codes "default.html" ∷ codes "default.htm" ∷ []

-- the file of the first name that is one
abbrev pub welcome_file : Files → Text → List Text → Option File
welcome_file files directory [] = None
welcome_file files directory (n ∷ ns) = option_or (file_at files (directory ++ n)) (welcome_file files directory ns)

abbrev pub directory_page : Files → Bool → Request → Record → Text → Found
directory_page files listing q x directory =
    if is_directory files directory
    then unwrap_or (option_map (served q x) (welcome_file files directory welcome_names))
    (if listing then Listing (listing_of x.path (names_in files directory)) else Forbidden)
    else NotFound

-- what the whole map has at the location, followed by the record's path
abbrev pub found_page : Files → Text → Bool → Request → Record → Found
found_page files location listing q x =
    let path = location ++ x.path in
    if not (is_among q.method (codes "GET" ∷ codes "HEAD" ∷ [])) then BadMethod
    else (if not (is_servable path) then NotFound
    else (if ends_in (codes "/") path then directory_page files listing q x path else file_page files q x path))

-- WHAT IT MAKES OF THE RECORD

-- the content type of a suffix in lower case
abbrev pub type_of_suffix : Text → Text
type_of_suffix suffix =
    if is_among suffix (codes "html" ∷ codes "htm" ∷ []) then codes "text/html; charset=utf-8"
    else (if bytes_eq suffix (codes "txt") then codes "text/plain; charset=utf-8"
    else (if bytes_eq suffix (codes "css") then codes "text/css"
    else (if bytes_eq suffix (codes "js") then codes "text/javascript"
    else (if bytes_eq suffix (codes "json") then codes "application/json"
    else (if bytes_eq suffix (codes "xml") then codes "application/xml"
    else (if bytes_eq suffix (codes "svg") then codes "image/svg+xml"
    else (if bytes_eq suffix (codes "png") then codes "image/png"
    else (if bytes_eq suffix (codes "gif") then codes "image/gif"
    else (if is_among suffix (codes "jpg" ∷ codes "jpeg" ∷ []) then codes "image/jpeg"
    else (if bytes_eq suffix (codes "pdf") then codes "application/pdf"
    else codes "application/octet-stream"))))))))))

-- what follows the last c, if there is one
abbrev pub last_after : ℕ → Text → Option Text
last_after c text = option_map (λ rest. reverse (before c (reverse text))) (after c (reverse text))

abbrev pub content_type : Text → Text
content_type path =
    type_of_suffix (str_to_ascii_lowercase (unwrap_or (last_after (byte ".") (unwrap_or (last_after slash path) path)) []))

-- a content type if the record has none
abbrev pub typed : Text → List Field → List Field
typed value fields =
    elim (values_of (codes "content-type") fields) [ [] ↦ set_to (codes "content-type") value fields | _ ↦ fields ]

-- the moment of the last change, if a date can show it
abbrev pub dated : ℕ → List Field → List Field
dated second fields = if nat_lt second first_undated then set_to (codes "last-modified") (date_of second) fields else fields

abbrev pub on_found : Found → Record → Step
on_found (Serve path len second) x =
    Stop (record x { fields = dated second (typed (content_type path) x.fields); choice = choice.File path len })
on_found (Redirect location) x = Stop (redirected location x)
on_found (Listing bytes) x =
    Stop (record x { fields = typed (codes "text/html; charset=utf-8") x.fields; choice = choice.Listing bytes })
on_found Forbidden x = Stop (answered 403 x)
on_found (NotModified second) x =
    Stop (answered 304 (record x { fields = dated second (without (codes "content-type") x.fields) }))
on_found NotFound x = Go x
on_found BadMethod x = Stop (not_allowed (codes "GET" ∷ codes "HEAD" ∷ []) x)

-- goes on if nothing is found, and else stops
abbrev pub page_of : Files → Text → Bool → Request → Record → Step
page_of files location listing q x = on_found (found_page files location listing q x) x
