-- Words on texts, which are lists of bytes.
use Rattle.std.specs.Prelude.{ℕ, ◌-◌, Bool, true, false, ◌&&◌, ◌||◌, ◌==◌, nat_lt, nat_le, nat_eq, List, [], ◌∷◌, length, take, if◌then◌else◌, Option, Some, None, codes, flat_map}
use Rattle.std.specs.List.{list_any, list_all, starts_with, ends_with, slice_split}
use Rattle.std.specs.Str.{bytes_eq, byte}
use Rattle.percent_encoding.specs.Percent.{percent_encode_byte}

abbrev pub Text : Type 0
Text = List ℕ

abbrev pub is_empty : Text → Bool
is_empty [] = true
is_empty (b ∷ bs) = false

-- the text is one of them
abbrev pub is_among : Text → List Text → Bool
is_among text texts = list_any (λ t. bytes_eq t text) texts

abbrev pub begins_with : Text → Text → Bool
begins_with part text = starts_with nat_eq text part

abbrev pub ends_in : Text → Text → Bool
ends_in part text = ends_with nat_eq text part

-- the part stands somewhere in the text
abbrev pub contains : Text → Text → Bool
contains part [] = is_empty part
contains part (b ∷ bs) = begins_with part (b ∷ bs) || contains part bs

-- what stands before the first c
abbrev pub before : ℕ → Text → Text
before c [] = []
before c (b ∷ bs) = if b == c then [] else b ∷ before c bs

-- what follows the first c, where there is one
abbrev pub after : ℕ → Text → Option Text
after c [] = None
after c (b ∷ bs) = if b == c then Some bs else after c bs

-- the pieces between the places where c stands
abbrev pub cut_at : ℕ → Text → List Text
cut_at c text = slice_split (λ b. b == c) text

abbrev pub but_last : {A : Type 0} → List A → List A
but_last xs = take (length xs - 1) xs

-- the text without the spaces and tabs at its start
abbrev pub skip_blanks : Text → Text
skip_blanks [] = []
skip_blanks (b ∷ bs) = if b == 32 || b == 9 then skip_blanks bs else b ∷ bs

abbrev pub is_blank : Text → Bool
is_blank text = list_all (λ b. b == 32 || b == 9) text

-- the text without the spaces and tabs at its end
abbrev pub drop_blanks : Text → Text
drop_blanks [] = []
drop_blanks (b ∷ bs) = if is_blank (b ∷ bs) then [] else b ∷ drop_blanks bs

abbrev pub trimmed : Text → Text
trimmed text = drop_blanks (skip_blanks text)

-- the text with each byte but those that are kept percent-encoded
abbrev pub escaped : (ℕ → Bool) → Text → Text
escaped is_kept text = flat_map (λ b. if is_kept b then b ∷ [] else percent_encode_byte b) text

abbrev pub is_visible : ℕ → Bool
is_visible b = nat_le 0x21 b && nat_le b 0x7E

abbrev pub is_within : ℕ → ℕ → ℕ → Bool
is_within low high b = nat_le low b && nat_le b high

-- RFC 3986, section 2.3
abbrev pub is_unreserved : ℕ → Bool
is_unreserved b =
    is_within (byte "a") (byte "z") b || is_within (byte "A") (byte "Z") b || is_within (byte "0") (byte "9") b
    || list_any (λ c. c == b) (codes "-._~")

-- the texts in byte order: a differs from b, and is a front of it or has the lower byte where they first differ
abbrev pub is_before : Text → Text → Bool
is_before a [] = false
is_before [] (c ∷ b) = true
is_before (d ∷ a) (c ∷ b) = nat_lt d c || (d == c && is_before a b)
