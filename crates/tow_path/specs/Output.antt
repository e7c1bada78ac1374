-- Dot segments that go out of a path while its output is written (RFC 3986, section 5.2.4).
use Rattle.std.specs.Prelude.{◌≡◌, ◌⊎◌, Bool, ◌||◌, ◌==◌, [], ◌∷◌, ◌++◌, if◌then◌else◌}
use Rattle.std.specs.List.{list_any}
use Rattle.tow_model.specs.Texts.{Text, cut_at}
use Rattle.tow_model.specs.Paths.{slash, is_dot, is_dots}

abbrev pub has_slash : Text → Bool
has_slash text = list_any (λ b. b == slash) text

-- what stands before the last slash, or nothing
abbrev pub before_last_slash : Text → Text
before_last_slash [] = []
before_last_slash (b ∷ bs) = if has_slash bs then b ∷ before_last_slash bs else []

-- the output and one more segment: `.` adds nothing, `..` takes the last segment and its slash away
abbrev pub put_segment : Text → Text → Text
put_segment output s =
    if is_dot s then output else (if is_dots s then before_last_slash output else output ++ slash ∷ s)

-- some segment is `.` or `..`
abbrev pub has_dot_segment : Text → Bool
has_dot_segment path = list_any (λ s. is_dot s || is_dots s) (cut_at slash path)

-- the path is the prefix, or the prefix, a slash and more
abbrev pub LiesUnder : Text → Text → Type 0
LiesUnder prefix path = (path ≡ prefix) ⊎ ((rest : Text) × (path ≡ prefix ++ slash ∷ rest))
