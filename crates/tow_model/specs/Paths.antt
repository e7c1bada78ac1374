-- Targets and paths: what a target names (RFC 9112, section 3.2), dot segments (RFC 3986, section 5.2.4), prefixes, templates of paths.
use Rattle.std.specs.Prelude.{◌≡◌, ℕ, Bool, not, ◌&&◌, ◌||◌, List, [], ◌∷◌, ◌++◌, drop, if◌then◌else◌, Option, Some, None, option_map, codes, fold}
use Rattle.std.specs.List.{join_with_byte}
use Rattle.std.specs.Str.{bytes_eq, byte, str_to_ascii_lowercase}
use Rattle.percent_encoding.specs.Percent.{percent_decode}
use Rattle.tow_model.specs.declared.request.Field.{Field}
use Rattle.tow_model.specs.declared.predicate.Segment.{Segment}
use Rattle.tow_model.specs.declared.predicate.Segment.TheVariants.{Fixed, Bind}
use Rattle.tow_model.specs.Texts.{Text, is_empty, is_among, begins_with, before, after, cut_at, but_last}
use Rattle.tow_model.specs.Fields.{field}

abbrev pub slash : ℕ
slash = byte "/"

-- DOT SEGMENTS

abbrev pub is_dot : Text → Bool
is_dot s = bytes_eq s (codes ".")

abbrev pub is_dots : Text → Bool
is_dots s = bytes_eq s (codes "..")

-- the segments that stay so far, and one more: `.` goes, and `..` goes with the one before it
abbrev pub with_segment : List Text → Text → List Text
with_segment stay s = if is_dot s then stay else (if is_dots s then but_last stay else stay ++ s ∷ [])

-- the last segment, where it goes, leaves an empty one
abbrev pub left_behind : List Text → List Text
left_behind [] = []
left_behind (s ∷ []) = if is_dot s || is_dots s then [] ∷ [] else []
left_behind (s ∷ t ∷ rest) = left_behind (t ∷ rest)

-- the segments from the left, without `.` and `..`
abbrev pub resolved_segments : List Text → List Text
resolved_segments segments = fold with_segment [] segments ++ left_behind segments

abbrev pub resolved_relative : Text → Text
resolved_relative path = join_with_byte slash (resolved_segments (cut_at slash path))

-- the path without dot segments; its leading `/` stays
abbrev pub resolved : Text → Text
resolved path =
    if begins_with (codes "/") path then slash ∷ resolved_relative (drop 1 path) else resolved_relative path

-- a resolved path stays as it is when it is resolved again
abbrev pub ResolvedTwice : Type 0
ResolvedTwice = (path : Text) → resolved (resolved path) ≡ resolved path

-- with a leading `/`
abbrev pub rooted : Text → Text
rooted path = if begins_with (codes "/") path then path else slash ∷ path

-- TARGETS

-- what a target names: the path as it was sent, the path decoded and resolved, and the query
pub record Place : Type 0 where
  pub url : Text
  pub path : Text
  pub query : Option Text

-- an empty path is `/`
abbrev pub place_at : Text → Place
place_at text =
    let url = if is_empty (before (byte "?") text) then codes "/" else before (byte "?") text in
    record { url = url; path = resolved (percent_decode url); query = after (byte "?") text }

-- the path and the query of an absolute target, which stand behind its authority
abbrev pub behind_authority : Text → Text
behind_authority [] = []
behind_authority (b ∷ bs) =
    if is_among (b ∷ []) (codes "/" ∷ codes "?" ∷ []) then b ∷ bs else behind_authority bs

abbrev pub begins_authority : Text → Bool
begins_authority text = not (is_empty text) && not (begins_with (codes "/") text) && not (begins_with (codes "?") text)

-- `http://` or `https://` in any case, an authority, and what is behind it
abbrev pub absolute_place : Text → Option Place
absolute_place target =
    let lower = str_to_ascii_lowercase target in
    if begins_with (codes "http://") lower && begins_authority (drop 7 target) then Some (place_at (behind_authority (drop 7 target)))
    else (if begins_with (codes "https://") lower && begins_authority (drop 8 target)
    then Some (place_at (behind_authority (drop 8 target))) else None)

-- origin-form, absolute-form, or `*` with OPTIONS
abbrev pub place_of : Text → Text → Option Place
place_of method target =
    if begins_with (codes "/") target then Some (place_at target)
    else (if bytes_eq target (codes "*") && bytes_eq method (codes "OPTIONS")
    then Some (record { url = codes "*"; path = codes "*"; query = None })
    else absolute_place target)

-- PREFIXES

-- the path is the prefix, or begins with it and a `/`
abbrev pub is_prefix : Text → Text → Bool
is_prefix prefix path = bytes_eq path prefix || begins_with (prefix ++ codes "/") path

-- TEMPLATES OF PATHS

abbrev pub bind_segments : List Segment → List Text → Option (List Field)
bind_segments [] [] = Some []
bind_segments [] (s ∷ ss) = None
bind_segments (part ∷ parts) [] = None
bind_segments (Fixed text ∷ parts) (s ∷ ss) = if bytes_eq s text then bind_segments parts ss else None
bind_segments (Bind name ∷ parts) (s ∷ ss) =
    if is_empty s then None else option_map (λ bindings. field name s ∷ bindings) (bind_segments parts ss)

-- the bindings where the path, cut at `/`, has as many segments, each fixed one is equal and each name meets one that is not empty
abbrev pub template_bindings : List Segment → Text → Option (List Field)
template_bindings parts path = bind_segments parts (cut_at slash path)
