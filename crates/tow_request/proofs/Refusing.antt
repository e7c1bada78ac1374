-- Why a head is refused comes to its status, and what is copied of a served head to its request.
use Rattle.std.proofs.Common.{◌≡◌, ℕ, Bool, true, false, not, ◌||◌, List, take, Option, Some, None, is_some, is_none, if◌then◌else◌, codes, refl, ap, ◌∙◌}
use Rattle.std.specs.Prelude.{option_map}
use Rattle.httparse.specs.Grammar.{RequestHead}
use Rattle.httparse.specs.Spans.{IsRequestAt, span_bytes}
use Rattle.httparse.specs.declared.spans.HeaderSpan.{HeaderSpan}
use Rattle.httparse.specs.declared.spans.RequestSpans.{RequestSpans}
use Rattle.tow_model.specs.declared.request.Field.{Field}
use Rattle.tow_model.specs.declared.request.Framing.{Framing}
use Rattle.tow_model.specs.declared.request.Version.{Version}
use Rattle.tow_model.specs.Texts.{Text}
use Rattle.tow_model.specs.Fields.{values_of, elements}
use Rattle.tow_model.specs.Paths.{Place, place_of}
use Rattle.tow_message.specs.Heads.{fields_of, has_wrong_host, has_wrong_target, has_wrong_length, has_wrong_coding, is_coded, refusal, framing_of, expects_by, keeps, request_of, version_by}
use Rattle.tow_request.specs.declared.refusals.Refusal.{Refusal}
use Rattle.tow_request.specs.declared.refusals.Refusal.TheVariants.{WrongHost, WrongLength, WrongCoding, WrongTarget, CodedContent}
use Rattle.tow_request.specs.Lines.{fields_at}
use Rattle.tow_request.specs.Refusals.{refusal_by, status_of}
use Rattle.tow_request.proofs.Spans.{same_fields}

abbrev why : Bool → Bool → Bool → Bool → Bool → Option Refusal
why host len coding target coded =
    if host then Some WrongHost
    else (if len then Some WrongLength
    else (if coding then Some WrongCoding else (if target then Some WrongTarget else (if coded then Some CodedContent else None))))

abbrev status_by : Bool → Bool → Bool → Bool → Bool → Option ℕ
status_by host len coding target coded =
    if (host || len || coding) || target then Some 400 else (if coded then Some 501 else None)

status_is : (host len coding target coded : Bool) → option_map status_of (why host len coding target coded) ≡ status_by host len coding target coded
status_is true len coding target coded = refl
status_is false true coding target coded = refl
status_is false false true target coded = refl
status_is false false false true coded = refl
status_is false false false false true = refl
status_is false false false false false = refl

without_some : (o : Option Place) → not (is_some o) ≡ is_none o
without_some None = refl
without_some (Some place) = refl

refused_as : (h : RequestHead) → option_map status_of (refusal_by h.minor (fields_of h) (place_of h.method h.target)) ≡ refusal h
refused_as h =
    status_is (has_wrong_host h.minor (fields_of h)) (has_wrong_length (fields_of h)) (has_wrong_coding h.minor (fields_of h))
    (not (is_some (place_of h.method h.target))) (is_coded (fields_of h))
    ∙ ap (λ t. status_by (has_wrong_host h.minor (fields_of h)) (has_wrong_length (fields_of h)) (has_wrong_coding h.minor (fields_of h)) t (is_coded (fields_of h)))
    (without_some (place_of h.method h.target))

abbrev refusal_at : List ℕ → List HeaderSpan → RequestSpans → Option Refusal
refusal_at bytes headers r =
    refusal_by r.version (fields_at bytes (take r.headers headers)) (place_of (span_bytes bytes r.method) (span_bytes bytes r.path))

-- what the spans are refused for comes to the head's status
pub refused_at : (bytes : List ℕ) (headers : List HeaderSpan) (r : RequestSpans) (h : RequestHead) (found : Option Refusal) → IsRequestAt bytes headers r h
    → found ≡ refusal_at bytes headers r → option_map status_of found ≡ refusal h
refused_at bytes headers r h found at is =
    ap (option_map status_of) (
    is
    ∙ ap (λ v. refusal_by v (fields_at bytes (take r.headers headers)) (place_of (span_bytes bytes r.method) (span_bytes bytes r.path))) at.version
    ∙ ap (λ fs. refusal_by h.minor fs (place_of (span_bytes bytes r.method) (span_bytes bytes r.path))) (same_fields bytes headers r h at)
    ∙ ap (λ m. refusal_by h.minor (fields_of h) (place_of m (span_bytes bytes r.path))) at.method
    ∙ ap (λ t. refusal_by h.minor (fields_of h) (place_of h.method t)) at.path
    )
    ∙ refused_as h

-- a served head has a right length
by_none : (host len coding target coded : Bool) → status_by host len coding target coded ≡ None → len ≡ false
by_none true len coding target coded served = absurd (cc)
by_none false true coding target coded served = absurd (cc)
by_none false false coding target coded served = refl

pub right_length : (bytes : List ℕ) (headers : List HeaderSpan) (r : RequestSpans) (h : RequestHead) → IsRequestAt bytes headers r h → refusal h ≡ None
    → has_wrong_length (fields_at bytes (take r.headers headers)) ≡ false
right_length bytes headers r h at served =
    ap has_wrong_length (same_fields bytes headers r h at)
    ∙ by_none (has_wrong_host h.minor (fields_of h)) (has_wrong_length (fields_of h)) (has_wrong_coding h.minor (fields_of h)) (has_wrong_target h) (is_coded (fields_of h)) served

-- the target names the place for the head too
pub same_place : (h : RequestHead) (method target : Text) (place : Place) → method ≡ h.method → target ≡ h.target → place_of method target ≡ Some place
    → place_of h.method h.target ≡ Some place
same_place h method target place m t named = rw (m, t) at named

-- the copied parts are those of the head's request
pub same_parts : (peer : ℕ) (h : RequestHead) (minor : ℕ) (lines : List Field) (place : Place) (method target : Text) (version : Version) (fields : List Field)
    (framing : Framing) (expects keep : Bool) → minor ≡ h.minor → lines ≡ fields_of h → place_of h.method h.target ≡ Some place
    → method ≡ h.method → target ≡ h.target → version ≡ version_by minor → fields ≡ lines → framing ≡ framing_of lines
    → expects ≡ expects_by version lines → keep ≡ keeps version (elements (values_of (codes "connection") lines))
    → request_of peer h ≡ record {
      method = method;
      target = target;
      version = version;
      fields = fields;
      url = place.url;
      path = place.path;
      query = place.query;
      framing = framing;
      expects = expects;
      keep = keep;
      peer = peer;
    }
same_parts peer h minor lines place method target version fields framing expects keep v l p m t vv f fr e k =
    rw (k, e, fr, f, vv, v, l, m, t, p) refl
