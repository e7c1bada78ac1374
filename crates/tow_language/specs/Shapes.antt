-- What the bytes of a value stand for.
use Rattle.std.specs.Prelude.{ℕ, ◌+◌, ◌-◌, ◌*◌, Bool, true, false, not, ◌&&◌, ◌||◌, ◌==◌, nat_le, List, [], ◌∷◌, length, map, codes, bytes_eq, fold, if◌then◌else◌, Option, None, Some, option_map, option_and_then}
use Rattle.std.specs.List.{list_any, list_all}
use Rattle.std.specs.Char.{is_ascii_digit, is_ascii_alphanumeric}
use Rattle.tow_model.specs.declared.attribute.Attribute.{Attribute}
use Rattle.tow_model.specs.declared.attribute.Attribute.TheVariants as attributes
use Rattle.tow_model.specs.declared.action.Target.{Target}
use Rattle.tow_model.specs.declared.action.Target.TheVariants.{RelativePath, Query, Status, ResponseField, Context}
use Rattle.tow_model.specs.declared.predicate.Segment.{Segment}
use Rattle.tow_model.specs.declared.predicate.Segment.TheVariants.{Fixed, Bind}
use Rattle.tow_model.specs.Texts.{cut_at}
use Rattle.tow_model.specs.Paths.{rooted}

-- a prefix has no `/` at its end
abbrev pub without_last_slashes : List ℕ → List ℕ
without_last_slashes [] = []
without_last_slashes (b ∷ bs) = drop_slash b (without_last_slashes bs)
  where
    drop_slash : ℕ → List ℕ → List ℕ
    drop_slash b [] = if b == 47 then [] else b ∷ []
    drop_slash b (c ∷ cs) = b ∷ c ∷ cs

abbrev pub prefix_of : List ℕ → List ℕ
prefix_of text = without_last_slashes (rooted text)

-- one to ten digits, within these bounds
abbrev pub number_of : ℕ → ℕ → List ℕ → Option ℕ
number_of low high text =
    let n = fold (λ (m d : ℕ). 10 * m + (d - 48)) 0 text in
    if (nat_le 1 (length text) && nat_le (length text) 10) && (list_all is_ascii_digit text && (nat_le low n && nat_le n high)) then Some n else None

abbrev pub status_of : List ℕ → Option ℕ
status_of text = option_and_then (λ n. if n == 205 then None else Some n) (number_of 200 599 text)

abbrev pub truth_of : List ℕ → Option Bool
truth_of text = if bytes_eq text (codes "true") then Some true else (if bytes_eq text (codes "false") then Some false else None)

abbrev pub is_name_byte : ℕ → Bool
is_name_byte b = is_ascii_alphanumeric b || (b == 95 || b == 45)

-- the bytes before a last `}`
abbrev pub before_brace : List ℕ → Option (List ℕ)
before_brace [] = None
before_brace (b ∷ []) = if b == 125 then Some [] else None
before_brace (b ∷ c ∷ bs) = option_map (λ more. b ∷ more) (before_brace (c ∷ bs))

-- `{name}`, or a text without braces
abbrev pub segment_of : List ℕ → Option Segment
segment_of [] = Some (Fixed [])
segment_of (b ∷ bs) =
    if b == 123 then option_and_then (λ name. if nat_le 1 (length name) && list_all is_name_byte name then Some (Bind name) else None) (before_brace bs)
    else (if list_any (λ c. c == 123 || c == 125) (b ∷ bs) then None else Some (Fixed (b ∷ bs)))

abbrev pub all_some : {A : Type 0} → List (Option A) → Option (List A)
all_some [] = Some []
all_some (o ∷ os) = option_and_then (λ x. option_map (λ xs. x ∷ xs) (all_some os)) o

abbrev pub binds : List ℕ → Segment → Bool
binds name (Fixed bytes) = false
binds name (Bind other) = bytes_eq name other

-- no two segments bind one name
abbrev pub are_names_apart : List Segment → Bool
are_names_apart [] = true
are_names_apart (Fixed bytes ∷ parts) = are_names_apart parts
are_names_apart (Bind name ∷ parts) = not (list_any (binds name) parts) && are_names_apart parts

-- the segments of a path with names in braces
abbrev pub segments_of : List ℕ → Option (List Segment)
segments_of text = option_and_then (λ parts. if are_names_apart parts then Some parts else None) (all_some (map segment_of (cut_at 47 (rooted text))))

-- the fields that no text may write
abbrev pub is_kept_field : List ℕ → Bool
is_kept_field name = list_any (bytes_eq name)
    (codes "connection" ∷ codes "content-length" ∷ codes "date" ∷ codes "trailer" ∷ codes "transfer-encoding" ∷ codes "upgrade" ∷ [])

-- the attributes that may be written
abbrev pub target_of : Attribute → Option Target
target_of attributes.RelativePath = Some RelativePath
target_of attributes.Query = Some Query
target_of attributes.Status = Some Status
target_of (attributes.ResponseField name) = if is_kept_field name then None else Some (ResponseField name)
target_of (attributes.Context name) = Some (Context name)
target_of other = None
