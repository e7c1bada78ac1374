-- The first request head of some bytes, as a function.
use Rattle.std.specs.Prelude.{◌≡◌, ℕ, zero, suc, ◌+◌, Bool, ◌&&◌, ◌==◌, nat_le, List, [], ◌∷◌, length, take, drop, Option, Some, None, if◌then◌else◌, bytes_eq, ◌↔◌}
use Rattle.std.specs.Str.{byte, is_utf8}
use Rattle.httparse.specs.Grammar.{LineEnd, crlf, lf, is_token_byte, is_uri_byte, is_value_byte, Field, RequestHead, print_version}
use Rattle.httparse.specs.Pieces.{is_newline}
use Rattle.tow_model.specs.declared.limits.TheConstants.{MAX_HEAD_FIELDS, MAX_HEAD_LEN}
use Rattle.tow_message.specs.Heads.{HasHead, line_feed, carriage_return}

-- a value and the text after it
abbrev pub Got : Type 0 → Type 0
Got A = Option (A × List ℕ)

abbrev pub bind : {A B : Type 0} → Option A → (A → Option B) → Option B
bind None f = None
bind (Some x) f = f x

-- one reader and then another
unfoldable pub read_then : {A B : Type 0} → (List ℕ → Got A) → (List ℕ → Got B) → List ℕ → Got (A × B)
read_then p q text = bind (p text) (λ x. bind (q x.1) (λ y. Some ((x.0, y.0), y.1)))

-- as many values as the reader finds, at most n, and the text after them
abbrev pub after : {A : Type 0} → List ℕ → Got A → (List ℕ → List A × List ℕ) → List A × List ℕ
after text None go = ([], text)
after text (Some x) go = (x.0 ∷ (go x.1).0, (go x.1).1)

unfoldable pub read_many : {A : Type 0} → (List ℕ → Got A) → ℕ → List ℕ → List A × List ℕ
read_many p zero text = ([], text)
read_many p (suc n) text = after text (p text) (read_many p n)

-- CR LF or LF
unfoldable pub read_newline : List ℕ → Got LineEnd
read_newline [] = None
read_newline (b ∷ []) = if b == line_feed then Some (lf, []) else None
read_newline (b ∷ c ∷ text) =
    if b == line_feed then Some (lf, c ∷ text)
    else (if (b == carriage_return) && (c == line_feed) then Some (crlf, text) else None)

-- the bytes at the front that pass the test
unfoldable pub span_of : (ℕ → Bool) → List ℕ → List ℕ × List ℕ
span_of test [] = ([], [])
span_of test (b ∷ text) = if test b then (b ∷ (span_of test text).0, (span_of test text).1) else ([], b ∷ text)

abbrev pub word_end : ℕ → List ℕ × List ℕ → Got (List ℕ)
word_end stop ([], text) = None
word_end stop (b ∷ word, []) = None
word_end stop (b ∷ word, c ∷ text) = if c == stop then Some (b ∷ word, text) else None

-- one or more bytes that pass the test, and the byte stop
abbrev pub read_word : (ℕ → Bool) → ℕ → List ℕ → Got (List ℕ)
read_word test stop text = word_end stop (span_of test text)

abbrev pub blank_end : List LineEnd × List ℕ → Got (List LineEnd)
blank_end (ends, []) = None
blank_end (ends, b ∷ text) = if is_newline b then None else Some (ends, b ∷ text)

-- the empty lines before the start line
abbrev pub read_blank : List ℕ → Got (List LineEnd)
read_blank text = blank_end (read_many read_newline (length text) text)

-- a target, which is text
abbrev pub target_end : Got (List ℕ) → Got (List ℕ)
target_end None = None
target_end (Some x) = if is_utf8 x.0 then Some x else None

abbrev pub read_target : List ℕ → Got (List ℕ)
read_target text = target_end (read_word is_uri_byte (byte " ") text)

-- a version of this number
abbrev pub read_minor : ℕ → List ℕ → Got ℕ
read_minor minor text = if bytes_eq (take 8 text) (print_version minor) then Some (minor, drop 8 text) else None

abbrev pub or_else : {A : Type 0} → Option A → Option A → Option A
or_else None other = other
or_else (Some x) other = Some x

abbrev pub read_version : List ℕ → Got ℕ
read_version text = or_else (read_minor 0 text) (read_minor 1 text)

-- the bytes of a value and the line end
abbrev pub text_end : List ℕ × List ℕ → Got (List ℕ × LineEnd)
text_end s = bind (read_newline s.1) (λ e. Some ((s.0, e.0), e.1))

abbrev pub read_text : List ℕ → Got (List ℕ × LineEnd)
read_text text = text_end (span_of is_value_byte text)

-- a field line
abbrev pub field_of : (List ℕ × (List ℕ × LineEnd)) × List ℕ → Field × List ℕ
field_of x = (record { name = x.0.0; raw = x.0.1.0; end = x.0.1.1 }, x.1)

abbrev pub read_field : List ℕ → Got Field
read_field text = bind (read_then (read_word is_token_byte (byte ":")) read_text text) (λ x. Some (field_of x))

-- the field lines and the empty line after them
abbrev pub section_end : List Field × List ℕ → Got (List Field × LineEnd)
section_end m = bind (read_newline m.1) (λ e. Some ((m.0, e.0), e.1))

abbrev pub read_section : List ℕ → Got (List Field × LineEnd)
read_section text = section_end (read_many read_field (length text) text)

-- the request line with the empty lines before it
abbrev pub Start : Type 0
Start = List LineEnd × (List ℕ × (List ℕ × (ℕ × LineEnd)))

abbrev pub read_start : List ℕ → Got Start
read_start text =
    read_then read_blank (read_then (read_word is_token_byte (byte " ")) (read_then read_target (read_then read_version read_newline))) text

abbrev pub head_from : (Start × (List Field × LineEnd)) × List ℕ → RequestHead × List ℕ
head_from x = (
  record {
    blank = x.0.0.0;
    method = x.0.0.1.0;
    target = x.0.0.1.1.0;
    minor = x.0.0.1.1.1.0;
    line_end = x.0.0.1.1.1.1;
    fields = x.0.1.0;
    last = x.0.1.1;
  },
  x.1,
)

-- the request head that the bytes begin with, and the bytes after it
unfoldable pub head_of : List ℕ → Got RequestHead
head_of bytes = bind (read_then read_start read_section bytes) (λ x. Some (head_from x))

-- the head, where it is within the server's bounds
abbrev pub within : ℕ → Got RequestHead → Got RequestHead
within len None = None
within len (Some x) = if nat_le len (length x.1 + MAX_HEAD_LEN) && nat_le (length x.0.fields) MAX_HEAD_FIELDS then Some x else None

-- The head that the input begins with, and what follows it.
abbrev pub first_head : List ℕ → Got RequestHead
first_head input = within (length input) (head_of input)

-- the function is the grammar, within the bounds
abbrev pub FindsHead : List ℕ → Type 0
FindsHead input = (h : RequestHead) (rest : List ℕ) → HasHead input h rest ↔ (first_head input ≡ Some (h, rest))
