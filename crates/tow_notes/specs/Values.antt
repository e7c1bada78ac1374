-- What is remarked on a value of a call.
use Rattle.std.specs.Prelude.{ℕ, Bool, false, ◌&&◌, ◌||◌, ◌==◌, nat_le, List, [], ◌∷◌, length, slice_index, codes, bytes_eq, Option, None, Some, if◌then◌else◌}
use Rattle.std.specs.List.{list_any}
use Rattle.tow_language.specs.Fit.{is_method}
use Rattle.tow_notes.specs.declared.remark.Remark.{Remark}
use Rattle.tow_notes.specs.declared.remark.Remark.TheVariants as remarks

abbrev pub has_small_letter : List ℕ → Bool
has_small_letter value = list_any (λ b. nat_le 97 b && nat_le b 122) value

abbrev pub is_hex : ℕ → Bool
is_hex b = (nat_le 48 b && nat_le b 57) || (nat_le 65 b && nat_le b 70) || (nat_le 97 b && nat_le b 102)

-- `%` and two hexadecimal digits
abbrev pub begins_escape : List ℕ → Bool
begins_escape text =
    nat_le 3 (length text) && (slice_index text 0 == 37) && is_hex (slice_index text 1) && is_hex (slice_index text 2)

abbrev pub has_escape : List ℕ → Bool
has_escape [] = false
has_escape (b ∷ bs) = begins_escape (b ∷ bs) || has_escape bs

-- `%`, or `${`
abbrev pub begins_attribute : List ℕ → Bool
begins_attribute text =
    nat_le 1 (length text) && ((slice_index text 0 == 37) || (nat_le 2 (length text) && (slice_index text 0 == 36) && (slice_index text 1 == 123)))

abbrev pub has_attribute : List ℕ → Bool
has_attribute [] = false
has_attribute (b ∷ bs) = begins_attribute (b ∷ bs) || has_attribute bs

abbrev pub is_format : List ℕ → Bool
is_format value = bytes_eq value (codes "common") || bytes_eq value (codes "combined")

-- a text that decoded ones are compared with
abbrev pub remark_on_decoded : List ℕ → Option Remark
remark_on_decoded value = if has_escape value then Some remarks.EscapeInPath else None

abbrev pub remark_on_path : List ℕ → Option Remark
remark_on_path value = if list_any (λ b. b == 42) value then Some remarks.StarInPath else remark_on_decoded value

abbrev pub remark_on_method : List ℕ → Option Remark
remark_on_method value =
    if has_small_letter value then Some remarks.SmallMethod else (if is_method value then None else Some remarks.NoMethod)

-- what is remarked on a value of the call of this name
abbrev pub remark_on : List ℕ → List ℕ → Option Remark
remark_on name value =
    if bytes_eq name (codes "method") || bytes_eq name (codes "allowed-methods") then remark_on_method value else
    (if bytes_eq name (codes "path") || bytes_eq name (codes "path-prefix") then remark_on_path value else
    (if bytes_eq name (codes "path-suffix") then remark_on_decoded value else
    (if bytes_eq name (codes "access-log") then (if is_format value || has_attribute value then None else Some remarks.FormatOfText) else
    (if bytes_eq name (codes "exists") then (if has_attribute value then None else Some remarks.ExistsOfText) else None))))
