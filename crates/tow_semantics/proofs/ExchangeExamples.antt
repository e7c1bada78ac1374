-- The definitions at the worked rows.
use Rattle.std.proofs.Common.{◌≡◌, ◌+◌, ◌*◌, true, false, List, [], ◌∷◌, length, Some, None, refl, codes}
use Rattle.percent_encoding.specs.Percent.{percent_decode}
use Rattle.std.specs.Fmt.{digits}
use Rattle.std.specs.Str.{is_utf8, chars}
use lib.Utf8.{encode}
use Rattle.httpdate.specs.Reader.{parse, read_name, read_tag, parse_imf_fixdate, read_two_digits, read_year, read_time}
use Rattle.httpdate.specs.Calendar.{days_of_years, days_of_months}
use Rattle.tow_model.specs.declared.request.Field.{Field}
use Rattle.tow_model.specs.declared.request.Request.{Request}
use Rattle.tow_model.specs.declared.request.Version.TheVariants.{V11}
use Rattle.tow_model.specs.declared.request.Framing.TheVariants as framing
use Rattle.tow_model.specs.declared.predicate.Segment.TheVariants as segment
use Rattle.tow_model.specs.declared.attribute.Attribute.TheVariants as attribute
use Rattle.tow_model.specs.declared.attribute.Piece.TheVariants as piece
use Rattle.tow_model.specs.declared.record.Record.{Record}
use Rattle.tow_model.specs.declared.record.Choice.TheVariants as choice
use Rattle.tow_model.specs.Texts.{Text}
use Rattle.tow_model.specs.Fields.{field}
use Rattle.tow_model.specs.Paths.{resolved, place_of, template_bindings}
use Rattle.tow_semantics.specs.Values.{value_of, line_of}
use Rattle.tow_semantics.specs.Predicates.{prefix_bindings}
use Rattle.tow_semantics.specs.Steps.{start}
use Rattle.tow_semantics.specs.Files.{Files, AFile, ADirectory, Absent, is_map, look, names_in}
use Rattle.tow_semantics.specs.Pages as page
use Rattle.tow_semantics.specs.Pages.{found_page, listing_of, content_type}

-- a GET of a path from 127.0.0.1, with these fields
get : Text → List Field → Request
get path fields = record {
  method = codes "GET";
  target = path;
  version = V11;
  fields = fields;
  url = path;
  path = path;
  query = None;
  framing = framing.Empty;
  expects = false;
  keep = true;
  peer = 2130706433;
}

-- PATHS

dots_go : resolved (codes "/x/../a b") ≡ codes "/a b"
dots_go = refl

a_last_dot_leaves_a_slash : resolved (codes "/a/b/..") ≡ codes "/a/"
a_last_dot_leaves_a_slash = refl

all_dots : resolved (codes "/../..") ≡ codes "/"
all_dots = refl

empty_segments_stay : resolved (codes "/a//./b/") ≡ codes "/a//b/"
empty_segments_stay = refl

an_absolute_target : place_of (codes "GET") (codes "HTTP://h/a%20b") ≡ Some (record { url = codes "/a%20b"; path = codes "/a b"; query = None })
unfolding percent_decode
an_absolute_target = refl

a_bare_authority : place_of (codes "GET") (codes "http://h?x=1") ≡ Some (record { url = codes "/"; path = codes "/"; query = Some (codes "x=1") })
unfolding percent_decode
a_bare_authority = refl

no_target : place_of (codes "GET") (codes "a") ≡ None
no_target = refl

-- PREDICATES

no_prefix_in_mid_segment : prefix_bindings (codes "/foo" ∷ []) (codes "/foobar") ≡ None
no_prefix_in_mid_segment = refl

a_prefix_alone : prefix_bindings (codes "/foo" ∷ []) (codes "/foo") ≡ Some (field (codes "remaining") [] ∷ [])
a_prefix_alone = refl

a_prefix_and_more : prefix_bindings (codes "/foo" ∷ codes "/foo/b" ∷ []) (codes "/foo/bar") ≡ Some (field (codes "remaining") (codes "/bar") ∷ [])
a_prefix_and_more = refl

a_template_binds : template_bindings (segment.Fixed [] ∷ segment.Fixed (codes "u") ∷ segment.Bind (codes "id") ∷ []) (codes "/u/7") ≡ Some (field (codes "id") (codes "7") ∷ [])
a_template_binds = refl

no_empty_binding : template_bindings (segment.Fixed [] ∷ segment.Fixed (codes "u") ∷ segment.Bind (codes "id") ∷ []) (codes "/u/") ≡ None
no_empty_binding = refl

-- TEMPLATES AND LOG LINES

plain : Record
plain = start (get (codes "/a") [])

the_query_has_its_mark : value_of (piece.Value attribute.Query ∷ piece.Literal (codes "!") ∷ []) (get (codes "/a") []) (record plain { query = Some (codes "x=1") }) 0 ≡ codes "?x=1!"
unfolding plain get
the_query_has_its_mark = refl

the_peer : value_of (piece.Value attribute.RemoteIp ∷ []) (get (codes "/a") []) plain 0 ≡ codes "127.0.0.1"
unfolding plain get digits
the_peer = refl

a_parameter : value_of (piece.Value (attribute.Param (codes "a b")) ∷ []) (get (codes "/a") []) (record plain { query = Some (codes "c&a%20b=1+2=3&a%20b=4") }) 0 ≡ codes "1+2=3"
unfolding plain get percent_decode
a_parameter = refl

a_cookie : value_of (piece.Value (attribute.Cookie (codes "b")) ∷ []) (get (codes "/a") (field (codes "Cookie") (codes "a=1;\t b=2 ; b=3") ∷ [])) plain 0 ≡ codes "2"
unfolding plain get
a_cookie = refl

two_lines_are_joined : value_of (piece.Value (attribute.RequestField (codes "x")) ∷ []) (get (codes "/a") (field (codes "X") (codes "1") ∷ field (codes "y") (codes "2") ∷ field (codes "x") (codes "3") ∷ [])) plain 0 ≡ codes "1, 3"
unfolding plain get
two_lines_are_joined = refl

-- a line of a literal and the status
a_line : line_of (piece.Literal (codes "b ") ∷ piece.Value attribute.Status ∷ []) (get (codes "/a") []) (record plain { status = 204; choice = choice.Empty }) 0 ≡ codes "b 204"
unfolding plain get digits
a_line = refl

undecided_lines_have_no_status : line_of (piece.Value attribute.Status ∷ piece.Literal (codes " ") ∷ piece.Value (attribute.RequestField (codes "host")) ∷ []) (get (codes "/a") []) plain 0 ≡ codes "- -"
unfolding plain get digits
undecided_lines_have_no_status = refl

control_bytes_are_shown : line_of (piece.Value (attribute.RequestField (codes "x")) ∷ []) (get (codes "/a") (field (codes "x") (97 ∷ 9 ∷ 127 ∷ []) ∷ [])) plain 0 ≡ codes "a\\x09\\x7f"
unfolding plain get digits
control_bytes_are_shown = refl

-- PAGES

site : Files
site = record { path = codes "/index.html"; second = 784111777; bytes = codes "<p>hello</p>" } ∷ record { path = codes "/d/b"; second = 0; bytes = [] } ∷ record { path = codes "/d/a/c"; second = 0; bytes = [] } ∷ record { path = codes "/d/a/d"; second = 0; bytes = [] } ∷ []

the_site_is_a_map : is_map site ≡ true
unfolding site
the_site_is_a_map = refl

-- a file below a file
no_map : is_map (record { path = codes "/a"; second = 0; bytes = [] } ∷ record { path = codes "/a/b"; second = 0; bytes = [] } ∷ []) ≡ false
no_map = refl

the_root_of_nothing : look [] (codes "/") ≡ Absent
the_root_of_nothing = refl

looks : (look site (codes "/") ≡ ADirectory) × (look site (codes "/d/b") ≡ AFile 0 0) × (look site (codes "/d/a") ≡ ADirectory) × (look site (codes "/e") ≡ Absent)
unfolding site
looks = (refl, refl, refl, refl)

a_welcome_file : found_page site [] false (get (codes "/") []) (start (get (codes "/") [])) ≡ page.Serve (codes "/index.html") 12 784111777
unfolding site get is_utf8 chars encode
a_welcome_file = refl

if_modified_since : Text → Request
if_modified_since date = get (codes "/index.html") (field (codes "If-Modified-Since") date ∷ [])

not_modified : found_page site [] false (if_modified_since (codes "Sun, 06 Nov 1994 08:49:37 GMT")) (start (get (codes "/index.html") [])) ≡ page.NotModified 784111777
unfolding site if_modified_since get is_utf8 chars encode days_of_years days_of_months parse read_name read_tag parse_imf_fixdate read_two_digits read_year read_time
not_modified = refl

modified_a_second_later : found_page site [] false (if_modified_since (codes "Sun, 06 Nov 1994 08:49:36 GMT")) (start (get (codes "/index.html") [])) ≡ page.Serve (codes "/index.html") 12 784111777
unfolding site if_modified_since get is_utf8 chars encode days_of_years days_of_months parse read_name read_tag parse_imf_fixdate read_two_digits read_year read_time
modified_a_second_later = refl

no_date : found_page site [] false (if_modified_since (codes "yesterday")) (start (get (codes "/index.html") [])) ≡ page.Serve (codes "/index.html") 12 784111777
unfolding site if_modified_since get is_utf8 chars encode days_of_years days_of_months parse read_name read_tag parse_imf_fixdate read_two_digits read_year read_time
no_date = refl

-- a directory without its last slash, and with it
a_directory : found_page site [] false (get (codes "/d") []) (record (start (get (codes "/d") [])) { query = Some (codes "x=1") }) ≡ page.Redirect (codes "/d/?x=1")
unfolding site get is_utf8 chars encode
a_directory = refl

forbidden : found_page site [] false (get (codes "/d/") []) (start (get (codes "/d/") [])) ≡ page.Forbidden
unfolding site get is_utf8 chars encode
forbidden = refl

listed : names_in site (codes "/d/") ≡ record { text = codes "a"; directory = true } ∷ record { text = codes "b"; directory = false } ∷ []
unfolding site
listed = refl

nothing_below_a_file : found_page site [] false (get (codes "/index.html/") []) (start (get (codes "/index.html/") [])) ≡ page.NotFound
unfolding site get is_utf8 chars encode
nothing_below_a_file = refl

-- a listing has 92 bytes and P, and 25 + 2n for a name of n bytes
an_empty_listing : length (listing_of (codes "/d/") []) ≡ 92 + 3
an_empty_listing = refl

a_listing_of_one : length (listing_of (codes "/d/") (record { text = codes "abc"; directory = false } ∷ [])) ≡ 92 + 3 + (25 + 2 * 3)
a_listing_of_one = refl

types : (content_type (codes "/a.b/c.HTM") ≡ codes "text/html; charset=utf-8") × (content_type (codes "/a.txt/b") ≡ codes "application/octet-stream") × (content_type (codes "/.css") ≡ codes "text/css")
types = (refl, refl, refl)
