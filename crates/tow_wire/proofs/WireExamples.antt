-- The definitions at work: what is written.
use Rattle.std.proofs.Common.{◌≡◌, ℕ, ◌+◌, Bool, true, false, List, [], ◌++◌, Option, Some, None, refl}
use Rattle.std.specs.Prelude.{codes, length}
use Rattle.std.specs.Fmt.{digits}
use Rattle.tow_model.specs.declared.request.Version.{Version}
use Rattle.tow_model.specs.declared.request.Version.TheVariants.{V10, V11}
use Rattle.tow_model.specs.declared.request.Framing.{Framing}
use Rattle.tow_model.specs.declared.request.Framing.TheVariants as Frames
use Rattle.tow_model.specs.declared.request.Request.{Request}
use Rattle.tow_model.specs.declared.record.Choice.{Choice}
use Rattle.tow_model.specs.declared.record.Choice.TheVariants.{Undecided, Empty, Whole, Listing}
use Rattle.tow_model.specs.declared.record.Record.{Record}
use Rattle.tow_model.specs.declared.content.Content.TheVariants as Contents
use Rattle.tow_semantics.specs.Runs.{Run, Wait, for_content}
use Rattle.tow_message.specs.Stream.{nothing, refused, last, next}
use Rattle.tow_model.specs.declared.limits.TheConstants.{BLOCK_LEN, MAX_CONTENT_LEN}
use Rattle.tow_wire.specs.Answers.{part_of}
use Rattle.tow_wire.specs.Wire.{wire}
use Rattle.tow_model.proofs.DateProofs.{date_zero}

-- the bytes and their line end
abbrev line : List ℕ → List ℕ
line bytes = bytes ++ codes "\r\n"

abbrev date_line : List ℕ
date_line = line (codes "date: Thu, 01 Jan 1970 00:00:00 GMT")

-- a request of this method and version
abbrev request : List ℕ → Version → Framing → Bool → Bool → Request
request method version framing expects keep = record {
  method = method;
  target = codes "/";
  version = version;
  fields = [];
  url = codes "/";
  path = codes "/";
  query = None;
  framing = framing;
  expects = expects;
  keep = keep;
  peer = 0;
}

abbrev get : Request
get = request (codes "GET") V11 Frames.Empty false true

abbrev old_get : Request
old_get = request (codes "GET") V10 Frames.Empty false false

abbrev head : Request
head = request (codes "HEAD") V11 Frames.Empty false true

abbrev state : ℕ → Choice → Record
state status choice =
    record { path = codes "/"; query = None; status = status; fields = []; context = []; listeners = []; choice = choice }

-- each request ends with this record
abbrev ending : Record → Bool → Option Wait → Run
ending x asked waits = record {
  outcome = λ q m c v. record { outcome = record { state = x; entries = []; asked = asked; looked = false; worked = false; waits = waits }; left = v };
  file = λ path. [];
  moment = λ k j. 0;
}

-- hi
hi : wire (ending (state 204 Empty) false None) 0 (next get [] nothing) []
    ≡ line (codes "HTTP/1.1 204 No Content") ++ date_line ++ line []
unfolding digits
hi = rw date_zero refl

hi_length : length (line (codes "HTTP/1.1 204 No Content") ++ date_line ++ line []) ≡ 64
hi_length = refl

-- empty-site
empty_site : wire (ending (state 404 Empty) false None) 0 (next get [] nothing) []
    ≡ line (codes "HTTP/1.1 404 Not Found") ++ line (codes "content-length: 0") ++ date_line ++ line []
unfolding digits
empty_site = rw date_zero refl

-- empty-input
empty_input : wire (ending (state 204 Empty) false None) 0 nothing [] ≡ []
empty_input = refl

abbrev bad : List ℕ
bad =
    line (codes "HTTP/1.1 400 Bad Request") ++ line (codes "connection: close") ++ line (codes "content-length: 0")
    ++ date_line ++ line []

-- cut-head
cut_head : wire (ending (state 204 Empty) false None) 0 (refused 400) [] ≡ bad
unfolding digits
cut_head = rw date_zero refl

-- two-lengths
not_built : wire (ending (state 204 Empty) false None) 0 (refused 501) []
    ≡ line (codes "HTTP/1.1 501 Not Implemented") ++ line (codes "connection: close") ++ line (codes "content-length: 0")
    ++ date_line ++ line []
unfolding digits
not_built = rw date_zero refl

-- host-line, in HTTP/1.0
old_hi : wire (ending (state 204 Empty) false None) 0 (next old_get [] nothing) []
    ≡ line (codes "HTTP/1.1 204 No Content") ++ line (codes "connection: close") ++ date_line ++ line []
unfolding digits
old_hi = rw date_zero refl

-- a closing answer is the last: the request behind it is not answered
after_closing : wire (ending (state 204 Empty) false None) 0 (next old_get [] (next get [] nothing)) []
    ≡ line (codes "HTTP/1.1 204 No Content") ++ line (codes "connection: close") ++ date_line ++ line []
unfolding digits
after_closing = rw date_zero refl

-- echo-chunked
abbrev post : Framing → Bool → Request
post framing expects = request (codes "POST") V11 framing expects true

echo_chunked : wire (ending (state 200 (Whole (codes "abc"))) true None) 0 (next (post Frames.Chunked false) (codes "abc") nothing) []
    ≡ line (codes "HTTP/1.1 200 OK") ++ line (codes "content-length: 3") ++ date_line ++ line [] ++ codes "abc"
unfolding digits
echo_chunked = rw date_zero refl

echo_bad : wire (ending (state 400 Empty) true None) 0 (last (post Frames.Chunked false) (Some Contents.Bad)) [] ≡ bad
unfolding digits
echo_bad = rw date_zero refl

-- echo-limit
echo_too_long : wire (ending (state 413 Empty) true None) 0 (last (post (Frames.Fixed (MAX_CONTENT_LEN + 1)) false) (Some Contents.TooLong)) []
    ≡ line (codes "HTTP/1.1 413 Content Too Large") ++ line (codes "connection: close") ++ line (codes "content-length: 0")
    ++ date_line ++ line []
unfolding digits
echo_too_long = rw date_zero refl

-- expect
expect : wire (ending (state 200 (Whole (codes "x"))) true None) 0 (next (post (Frames.Fixed 1) true) (codes "x") nothing) []
    ≡ line (codes "HTTP/1.1 100 Continue") ++ line []
    ++ (line (codes "HTTP/1.1 200 OK") ++ line (codes "content-length: 1") ++ date_line ++ line [] ++ codes "x")
unfolding digits
expect = rw date_zero refl

-- content-2: the content's end has not come, so nothing is written; a request that expects has its invitation
short : wire (ending (state 200 Undecided) true (Some for_content)) 0 (last (post (Frames.Fixed 3) false) None) [] ≡ []
short = refl

short_invited : wire (ending (state 200 Undecided) true (Some for_content)) 0 (last (post (Frames.Fixed 3) true) None) []
    ≡ line (codes "HTTP/1.1 100 Continue") ++ line []
short_invited = refl

-- listing, with a short one: in chunks for HTTP/1.1, plain and closed for HTTP/1.0, and its head alone for HEAD
listing : wire (ending (state 200 (Listing (codes "abc"))) false None) 0 (next get [] nothing) []
    ≡ line (codes "HTTP/1.1 200 OK") ++ date_line ++ line (codes "transfer-encoding: chunked") ++ line []
    ++ line (codes "3") ++ line (codes "abc") ++ line (codes "0") ++ line []
unfolding digits
listing = rw date_zero refl

old_listing : wire (ending (state 200 (Listing (codes "abc"))) false None) 0 (next old_get [] nothing) []
    ≡ line (codes "HTTP/1.1 200 OK") ++ line (codes "connection: close") ++ date_line ++ line [] ++ codes "abc"
unfolding digits
old_listing = rw date_zero refl

head_listing : wire (ending (state 200 (Listing (codes "abc"))) false None) 0 (next head [] nothing) []
    ≡ line (codes "HTTP/1.1 200 OK") ++ date_line ++ line (codes "transfer-encoding: chunked") ++ line []
unfolding digits
head_listing = rw date_zero refl

-- the size line of a whole block
block_line : digits 16 false BLOCK_LEN ≡ codes "4000"
unfolding digits
block_line = refl

-- byte-ranges-1's part
part : part_of 2 3 (codes "0123456789") ≡ codes "234"
part = refl
