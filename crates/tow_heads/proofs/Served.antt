-- What is known of a request that a connection serves, and of a head that it refuses.
use Rattle.std.proofs.Common.{◌≡◌, ℕ, Bool, true, false, ◌&&◌, List, take, drop, Option, Some, None, refl, sym, ap, ◌∙◌, if◌then◌else◌}
use Rattle.httparse.specs.Grammar.{RequestHead}
use Rattle.tow_model.specs.declared.request.Field.{Field}
use Rattle.tow_model.specs.declared.request.Framing.{Framing}
use Rattle.tow_model.specs.declared.request.Framing.TheVariants.{Empty, Fixed, Chunked}
use Rattle.tow_model.specs.declared.request.Request.{Request}
use Rattle.tow_model.specs.declared.request.Version.{Version}
use Rattle.tow_model.specs.declared.request.Version.TheVariants.{V10, V11}
use Rattle.tow_model.specs.Fields.{has}
use Rattle.tow_message.specs.Heads.{Head, IsRefusedBy, refusal, connection_refusal, is_framed, is_unserved, fields_of, framing_of, version_of, expects_by}
use Rattle.tow_message.specs.Stream.{HasRequest, IsRefused}
use Rattle.tow_model.proofs.Resolving.{neither}
use Rattle.tow_request.proofs.Fronts.{front_has}

-- ---- refusals

-- what the connection makes of a head's status
abbrev status_after : Option ℕ → Bool → Option ℕ
status_after (Some status) later = Some status
status_after None later = if later then Some 501 else None

after_is : (o : Option ℕ) (later : Bool) → (elim o [ Some status ↦ Some status | None ↦ if later then Some 501 else None ]) ≡ status_after o later
after_is (Some status) later = refl
after_is None later = refl

connection_is : (h : RequestHead) → connection_refusal h ≡ status_after (refusal h) (is_unserved (version_of h) (framing_of (fields_of h)) (fields_of h))
connection_is h = after_is (refusal h) (is_unserved (version_of h) (framing_of (fields_of h)) (fields_of h))

-- a head that is refused in itself is refused by the connection
pub refused_in_itself : (input : List ℕ) (status : ℕ) → IsRefusedBy refusal input status → IsRefused input status
refused_in_itself input status is = record {
  head = is.head;
  rest = is.rest;
  reads = is.reads;
  refused = connection_is is.head ∙ ap (λ (o : Option ℕ). status_after o (is_unserved (version_of is.head) (framing_of (fields_of is.head)) (fields_of is.head))) is.refused;
}

-- the request asks for what is not served yet
abbrev pub is_later : Request → Bool
is_later q = is_unserved q.version q.framing q.fields

-- so does its head, which stands at the front of the input
later_head : (bytes : List ℕ) (peer : ℕ) (q : Request) (b : Bool) → (is : Head bytes peer q) → is_later q ≡ b
    → is_unserved (version_of is.head) (framing_of (fields_of is.head)) (fields_of is.head) ≡ b
later_head bytes peer q b is later = ap is_later is.request ∙ later

pub refused_later : (input : List ℕ) (used peer : ℕ) (q : Request) → Head (take used input) peer q → is_later q ≡ true → IsRefused input 501
refused_later input used peer q is later = record {
  head = is.head;
  rest = drop used input;
  reads = front_has input used is.head is.whole;
  refused =
      connection_is is.head ∙ ap (λ (o : Option ℕ). status_after o (is_unserved (version_of is.head) (framing_of (fields_of is.head)) (fields_of is.head))) is.served
      ∙ ap (status_after None) (later_head (take used input) peer q true is later);
}

-- a head that is not refused, of a request that is served
pub served_head : (bytes : List ℕ) (peer : ℕ) (q : Request) → (is : Head bytes peer q) → is_later q ≡ false → connection_refusal is.head ≡ None
served_head bytes peer q is now =
    connection_is is.head ∙ ap (λ (o : Option ℕ). status_after o (is_unserved (version_of is.head) (framing_of (fields_of is.head)) (fields_of is.head))) is.served
    ∙ ap (status_after None) (later_head bytes peer q false is now)

-- ---- requests that are served

not_later : (o : Option ℕ) (later : Bool) → status_after o later ≡ None → later ≡ false
not_later (Some status) later served = absurd (cc)
not_later None true served = absurd (cc)
not_later None false served = refl

unframed : (framing : Framing) → is_framed framing ≡ false → framing ≡ Empty
unframed Empty is = refl
unframed (Fixed n) is = absurd (cc)
unframed Chunked is = absurd (cc)

plain_framing : (h : RequestHead) → connection_refusal h ≡ None → framing_of (fields_of h) ≡ Empty
plain_framing h served =
    let now = not_later (refusal h) (is_unserved (version_of h) (framing_of (fields_of h)) (fields_of h)) (sym (connection_is h) ∙ served) in
    unframed (framing_of (fields_of h)) (neither _ _ (neither _ _ (neither _ _ now).0).0).0

and_false : (b : Bool) → (b && false) ≡ false
and_false true = refl
and_false false = refl

plain_expects : (version : Version) (fields : List Field) → framing_of fields ≡ Empty → expects_by version fields ≡ false
plain_expects V10 fields empty = refl
plain_expects V11 fields empty = rw empty (and_false _)

pub served_framing : (peer : ℕ) (input : List ℕ) (q : Request) (rest : List ℕ) → HasRequest peer input q rest → q.framing ≡ Empty
served_framing peer input q rest has = ap (λ (r : Request). r.framing) (sym has.request) ∙ plain_framing has.head has.served

pub served_expects : (peer : ℕ) (input : List ℕ) (q : Request) (rest : List ℕ) → HasRequest peer input q rest → q.expects ≡ false
served_expects peer input q rest has =
    ap (λ (r : Request). r.expects) (sym has.request) ∙ plain_expects (version_of has.head) (fields_of has.head) (plain_framing has.head has.served)
