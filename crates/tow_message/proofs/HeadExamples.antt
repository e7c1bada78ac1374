-- The definitions at work: heads.
use Rattle.std.proofs.Common.{◌≡◌, ℕ, Bool, true, false, List, [], ◌++◌, Option, Some, None, refl}
use Rattle.std.specs.Prelude.{option_map, codes}
use Rattle.std.specs.Str.{is_utf8, chars}
use lib.Utf8.{encode}
use Rattle.httparse.proofs.OnLiterals.{httparse_on_literals}
use Rattle.percent_encoding.specs.Percent.{percent_decode}
use Rattle.tow_model.specs.declared.request.Framing.{Framing}
use Rattle.tow_model.specs.declared.request.Framing.TheVariants.{Fixed, Chunked}
use Rattle.tow_model.specs.declared.request.Request.{Request}
use Rattle.tow_model.specs.declared.limits.TheConstants.{LOCAL_PEER}
use Rattle.tow_message.specs.Heads.{refusal, connection_refusal, request_of}
use Rattle.tow_message.specs.FirstHead.{read_then, read_many, read_newline, span_of, head_of, first_head}

-- the bytes and their line end
abbrev line : List ℕ → List ℕ
line bytes = bytes ++ codes "\r\n"

abbrev host_line : List ℕ
host_line = line (codes "Host: a")

abbrev refusal_in : List ℕ → Option (Option ℕ)
refusal_in input = option_map (λ x. refusal x.0) (first_head input)

abbrev answered_in : List ℕ → Option (Option ℕ)
answered_in input = option_map (λ x. connection_refusal x.0) (first_head input)

abbrev request_in : List ℕ → Option Request
request_in input = option_map (λ x. request_of LOCAL_PEER x.0) (first_head input)

abbrev waiting : Request → Bool × Framing
waiting q = (q.expects, q.framing)

abbrev lasting : Request → Bool × Bool
lasting q = (q.expects, q.keep)

abbrev place : Request → List ℕ × List ℕ × Option (List ℕ)
place q = (q.url, q.path, q.query)

-- hi
hi_is_served : refusal_in (line (codes "GET /hi HTTP/1.1") ++ host_line ++ line []) ≡ Some None
unfolding httparse_on_literals read_then read_many read_newline span_of head_of is_utf8 chars encode
hi_is_served = refl

hi_path : option_map (λ q. q.path) (request_in (line (codes "GET /hi HTTP/1.1") ++ host_line ++ line [])) ≡ Some (codes "/hi")
unfolding httparse_on_literals read_then read_many read_newline span_of head_of is_utf8 chars encode percent_decode
hi_path = refl

-- cut-head
cut_head : refusal_in (codes "GET / HT") ≡ None
unfolding httparse_on_literals read_then read_many read_newline span_of head_of is_utf8 chars encode
cut_head = refl

-- host-line
no_host : refusal_in (line (codes "GET /hi HTTP/1.1") ++ line []) ≡ Some (Some 400)
unfolding httparse_on_literals read_then read_many read_newline span_of head_of is_utf8 chars encode
no_host = refl

two_hosts : refusal_in (line (codes "GET /hi HTTP/1.0") ++ host_line ++ host_line ++ line []) ≡ Some (Some 400)
unfolding httparse_on_literals read_then read_many read_newline span_of head_of is_utf8 chars encode
two_hosts = refl

-- what a connection does not serve yet
old_version : refusal_in (line (codes "GET /hi HTTP/1.0") ++ line []) ≡ Some None
unfolding httparse_on_literals read_then read_many read_newline span_of head_of is_utf8 chars encode
old_version = refl

old_version_yet : answered_in (line (codes "GET /hi HTTP/1.0") ++ line []) ≡ Some (Some 501)
unfolding httparse_on_literals read_then read_many read_newline span_of head_of is_utf8 chars encode
old_version_yet = refl

two_lengths : refusal_in (line (codes "POST /e HTTP/1.1") ++ host_line ++ line (codes "Content-Length: 3") ++ line (codes "Transfer-Encoding: chunked") ++ line []) ≡ Some (Some 400)
unfolding httparse_on_literals read_then read_many read_newline span_of head_of is_utf8 chars encode
two_lengths = refl

no_length : refusal_in (line (codes "POST /e HTTP/1.1") ++ host_line ++ line (codes "Content-Length: +3") ++ line []) ≡ Some (Some 400)
unfolding httparse_on_literals read_then read_many read_newline span_of head_of is_utf8 chars encode
no_length = refl

coded : refusal_in (line (codes "POST /e HTTP/1.1") ++ host_line ++ line (codes "Transfer-Encoding: gzip, chunked") ++ line []) ≡ Some (Some 501)
unfolding httparse_on_literals read_then read_many read_newline span_of head_of is_utf8 chars encode
coded = refl

not_chunked : refusal_in (line (codes "POST /e HTTP/1.1") ++ host_line ++ line (codes "Transfer-Encoding: chunked") ++ line (codes "Transfer-Encoding: gzip") ++ line []) ≡ Some (Some 400)
unfolding httparse_on_literals read_then read_many read_newline span_of head_of is_utf8 chars encode
not_chunked = refl

no_coding : refusal_in (line (codes "POST /e HTTP/1.1") ++ host_line ++ line (codes "Transfer-Encoding: ,") ++ line []) ≡ Some (Some 400)
unfolding httparse_on_literals read_then read_many read_newline span_of head_of is_utf8 chars encode
no_coding = refl

old_coding : refusal_in (line (codes "POST /e HTTP/1.0") ++ line (codes "Transfer-Encoding: chunked") ++ line []) ≡ Some (Some 400)
unfolding httparse_on_literals read_then read_many read_newline span_of head_of is_utf8 chars encode
old_coding = refl

no_content : answered_in (line (codes "GET /hi HTTP/1.1") ++ host_line ++ line (codes "Content-Length: 0") ++ line []) ≡ Some (Some 501)
unfolding httparse_on_literals read_then read_many read_newline span_of head_of is_utf8 chars encode
no_content = refl

chunked_framing : option_map (λ q. q.framing) (request_in (line (codes "POST /e HTTP/1.1") ++ host_line ++ line (codes "Transfer-Encoding: chunked") ++ line [])) ≡ Some Chunked
unfolding httparse_on_literals read_then read_many read_newline span_of head_of is_utf8 chars encode
chunked_framing = refl

-- expect
expects : option_map waiting (request_in (line (codes "POST /e HTTP/1.1") ++ host_line ++ line (codes "Content-Length: 1") ++ line (codes "Expect: 100-continue") ++ line [])) ≡ Some (true, Fixed 1)
unfolding httparse_on_literals read_then read_many read_newline span_of head_of is_utf8 chars encode
expects = refl

old_expects : option_map lasting (request_in (line (codes "POST /e HTTP/1.0") ++ host_line ++ line (codes "Content-Length: 1") ++ line (codes "Expect: 100-continue") ++ line [])) ≡ Some (false, false)
unfolding httparse_on_literals read_then read_many read_newline span_of head_of is_utf8 chars encode
old_expects = refl

-- targets
absolute : option_map place (request_in (line (codes "GET HTTP://h?a=b?c HTTP/1.1") ++ host_line ++ line [])) ≡ Some (codes "/", codes "/", Some (codes "a=b?c"))
unfolding httparse_on_literals read_then read_many read_newline span_of head_of is_utf8 chars encode percent_decode
absolute = refl

resolves : option_map place (request_in (line (codes "GET /x/../a%20b/. HTTP/1.1") ++ host_line ++ line [])) ≡ Some (codes "/x/../a%20b/.", codes "/a b/", None)
unfolding httparse_on_literals read_then read_many read_newline span_of head_of is_utf8 chars encode percent_decode
resolves = refl

all_of_it : option_map place (request_in (line (codes "OPTIONS * HTTP/1.1") ++ host_line ++ line [])) ≡ Some (codes "*", codes "*", None)
unfolding httparse_on_literals read_then read_many read_newline span_of head_of is_utf8 chars encode percent_decode
all_of_it = refl

wrong_target : refusal_in (line (codes "GET a HTTP/1.1") ++ host_line ++ line []) ≡ Some (Some 400)
unfolding httparse_on_literals read_then read_many read_newline span_of head_of is_utf8 chars encode
wrong_target = refl

served_target : answered_in (line (codes "GET /a/../b?c HTTP/1.1") ++ host_line ++ line []) ≡ Some None
unfolding httparse_on_literals read_then read_many read_newline span_of head_of is_utf8 chars encode
served_target = refl
