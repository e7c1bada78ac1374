-- Why a head is refused, by its version, its fields and its target, and with which status.
use Rattle.std.specs.Prelude.{◌≡◌, ℕ, not, nat_lt, List, length, Option, Some, None, is_some, if◌then◌else◌}
use Rattle.tow_model.specs.declared.request.Field.{Field}
use Rattle.tow_model.specs.Texts.{Text}
use Rattle.tow_model.specs.Paths as paths
use Rattle.tow_message.specs.Heads.{has_wrong_host, has_wrong_length, has_wrong_coding, ends_in_chunked, is_coded}
use Rattle.tow_request.specs.declared.codings.Codings.{Codings}
use Rattle.tow_request.specs.declared.refusals.Refusal.{Refusal}
use Rattle.tow_request.specs.declared.refusals.Refusal.TheVariants.{NoHead, WrongHost, WrongLength, WrongCoding, WrongTarget, CodedContent}
use Rattle.tow_request.specs.declared.requests.Place.{Place}

-- the first rule that the head breaks
abbrev pub refusal_by : ℕ → List Field → Option paths.Place → Option Refusal
refusal_by minor fields place =
    if has_wrong_host minor fields then Some WrongHost
    else (if has_wrong_length fields then Some WrongLength
    else (if has_wrong_coding minor fields then Some WrongCoding
    else (if not (is_some place) then Some WrongTarget
    else (if is_coded fields then Some CodedContent else None))))

abbrev pub status_of : Refusal → ℕ
status_of NoHead = 400
status_of WrongHost = 400
status_of WrongLength = 400
status_of WrongCoding = 400
status_of WrongTarget = 400
status_of CodedContent = 501

-- the place that a target was read as
abbrev pub place_by : Place → paths.Place
place_by place = record { url = place.url; path = place.path; query = place.query }

-- what is known of a list of codings
pub record Sums (codings : List Text) (c : Codings) : Type 0 where
  pub one : c.has_one ≡ nat_lt 0 (length codings)
  pub two : c.has_two ≡ nat_lt 1 (length codings)
  pub last : c.ends_in_chunked ≡ ends_in_chunked codings
