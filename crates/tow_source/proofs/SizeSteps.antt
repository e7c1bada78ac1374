-- A step within a size line leads to the place where the longer text stands.
use Rattle.std.proofs.Common.{◌≡◌, ℕ, ◌+◌, ◌*◌, ◌<◌, ◌≤◌, min, Bool, true, false, Option, Some, None, List, [], ◌∷◌, ◌++◌, length, nat_lt, ◌==◌, ◌||◌, not, refl, sym, ap, ◌∙◌, subst, arith, append_assoc, append-nil, length-append}
use Rattle.std.proofs.lemmas.Bool.{cond_both, ltb-true, ltb-false, eqb-true}
use Rattle.std.proofs.lemmas.List.Elements.{All-nil, All-cons, All-push}
use Rattle.std.specs.Char.{is_ascii_hexdigit, digit_value}
use Rattle.std.specs.Str.Parse.{digits_value}
use Rattle.httparse.specs.Ascii.{crlf_bytes}
use Rattle.httparse.specs.Grammar.{ChunkLine, print_chunk_line, is_extension_byte, is_ows}
use Rattle.httparse.proofs.ChunkLemmas.{digits_value_after_push}
use Rattle.tow_model.specs.declared.limits.TheConstants.{MAX_CONTENT_LEN}
use Rattle.tow_source.specs.declared.place.Place.{Place}
use Rattle.tow_source.specs.declared.place.Place.TheVariants.{Digits, Padding, Extension, SizeLf, Bad}
use Rattle.tow_source.specs.Places.{grown_size, first_digit, after_digits, next_digit, in_extension}
use Rattle.tow_source.proofs.Standing.{SameSize, IsSize, Chunks, Behind, InDigits, InPadding, InExtension, AtLf, Stands}

-- ---- sizes

pub grown_same : (size value digit : ℕ) → SameSize size value → SameSize (grown_size size digit) (value * 16 + digit)
grown_same size value digit same =
    cond_both (nat_lt MAX_CONTENT_LEN size) size (size * 16 + digit) (λ (x : ℕ). SameSize x (value * 16 + digit))
    (λ e. let over : MAX_CONTENT_LEN < size = ltb-true MAX_CONTENT_LEN size e in omega (arith, same, over))
    (λ e. let fits : size ≤ MAX_CONTENT_LEN = ltb-false MAX_CONTENT_LEN size e in omega (arith, same, fits))

zero_more : (n : ℕ) → n ≡ 0 + n
zero_more n = omega arith

one_digit : (b : ℕ) → is_ascii_hexdigit b ≡ true → IsSize (digit_value b) (b ∷ [])
one_digit b is = record {
  some = omega arith;
  few = omega arith;
  all = All-cons (λ v. is_ascii_hexdigit v ≡ true) b [] is (All-nil (λ v. is_ascii_hexdigit v ≡ true));
  value = ap (λ (n : ℕ). min n (MAX_CONTENT_LEN + 1)) (zero_more (digit_value b));
}

more_digits : (size : ℕ) (digits : List ℕ) (b : ℕ) → IsSize size digits → length digits < 15 → is_ascii_hexdigit b ≡ true
    → IsSize (grown_size size (digit_value b)) (digits ++ b ∷ [])
more_digits size digits b s few is = record {
  some = omega (arith, length-append digits (b ∷ []));
  few = omega (arith, length-append digits (b ∷ []), few);
  all = All-push (λ v. is_ascii_hexdigit v ≡ true) digits b s.all is;
  value = subst (λ (v : ℕ). SameSize (grown_size size (digit_value b)) v) (sym (digits_value_after_push 16 0 digits b))
      (grown_same size (digits_value 16 digits) (digit_value b) s.value);
}

-- ---- lines

grow : {Is Next : List ℕ → Type 0} (room : ℕ) (taken given : List ℕ) (b : ℕ) → Behind room taken given Is
    → ((line : List ℕ) → Is line → Next (line ++ b ∷ [])) → Behind room (taken ++ b ∷ []) given Next
grow room taken given b x f = record {
  front = x.front;
  line = x.line ++ b ∷ [];
  chunks = x.chunks;
  is = f x.line x.is;
  joined = ap (λ (t : List ℕ). t ++ b ∷ []) x.joined ∙ append_assoc x.front x.line (b ∷ []);
}

same_behind : {Is Next : List ℕ → Type 0} (room : ℕ) (taken given : List ℕ) → Behind room taken given Is
    → ((line : List ℕ) → Is line → Next line) → Behind room taken given Next
same_behind room taken given x f = record { front = x.front; line = x.line; chunks = x.chunks; is = f x.line x.is; joined = x.joined }

padding_of_digits : (len size : ℕ) (line : List ℕ) → InDigits len size line → InPadding len size line
padding_of_digits len size line x = record {
  digits = line;
  pad = [];
  sized = x.sized;
  blank = All-nil _;
  printed = sym (append-nil line);
  count = x.count;
  fits = omega (arith, x.count, x.sized.few);
}

abbrev line_of : List ℕ → List ℕ → Option (List ℕ) → ChunkLine
line_of digits pad extension = record { digits = digits; pad = pad; extension = extension }

line_end_at : (line : List ℕ) → line ++ crlf_bytes ≡ (line ++ 13 ∷ []) ++ 10 ∷ []
line_end_at line = sym (append_assoc line (13 ∷ []) (10 ∷ []))

padding_at_end : (len size : ℕ) (line : List ℕ) → InPadding len size line → AtLf size (line ++ 13 ∷ [])
unfolding print_chunk_line
padding_at_end len size line x =
    let whole = line_of x.digits x.pad None in
    let printed : print_chunk_line whole ≡ line ++ crlf_bytes =
    ap (λ (l : List ℕ). l ++ crlf_bytes) (append-nil (x.digits ++ x.pad) ∙ sym x.printed) in
    record {
      whole = whole;
      is = record {
        line = record {
          digits = (x.sized.some, omega (arith, x.sized.few), x.sized.all);
          pad = x.blank;
          extension = tt;
        };
        digits_fit = x.sized.few;
        bytes_fit = omega (arith, ap (λ (l : List ℕ). length l) printed, length-append line crlf_bytes, x.count, x.fits);
      };
      printed = printed ∙ line_end_at line;
      value = x.sized.value;
    }

extension_at_end : (len size : ℕ) (line : List ℕ) → InExtension len size line → AtLf size (line ++ 13 ∷ [])
unfolding print_chunk_line
extension_at_end len size line x =
    let whole = line_of x.digits x.pad (Some x.text) in
    let printed : print_chunk_line whole ≡ line ++ crlf_bytes = ap (λ (l : List ℕ). l ++ crlf_bytes) (sym x.printed) in
    record {
      whole = whole;
      is = record {
        line = record {
          digits = (x.sized.some, omega (arith, x.sized.few), x.sized.all);
          pad = x.blank;
          extension = x.plain;
        };
        digits_fit = x.sized.few;
        bytes_fit = omega (arith, ap (λ (l : List ℕ). length l) printed, length-append line crlf_bytes, x.count, x.fits);
      };
      printed = printed ∙ line_end_at line;
      value = x.sized.value;
    }

padding_grows : (len size b : ℕ) (line : List ℕ) → InPadding len size line → len < 254 → is_ows b ≡ true
    → InPadding (len + 1) size (line ++ b ∷ [])
padding_grows len size b line x less is = record {
  digits = x.digits;
  pad = x.pad ++ b ∷ [];
  sized = x.sized;
  blank = All-push (λ v. is_ows v ≡ true) x.pad b x.blank is;
  printed = ap (λ (l : List ℕ). l ++ b ∷ []) x.printed ∙ append_assoc x.digits x.pad (b ∷ []);
  count = omega (arith, length-append line (b ∷ []), x.count);
  fits = omega (arith, less);
}

extension_begins : (len size : ℕ) (line : List ℕ) → InPadding len size line → len < 254
    → InExtension (len + 1) size (line ++ 59 ∷ [])
extension_begins len size line x less = record {
  digits = x.digits;
  pad = x.pad;
  text = [];
  sized = x.sized;
  blank = x.blank;
  plain = All-nil _;
  printed = ap (λ (l : List ℕ). l ++ 59 ∷ []) x.printed;
  count = omega (arith, length-append line (59 ∷ []), x.count);
  fits = omega (arith, less);
}

extension_grows : (len size b : ℕ) (line : List ℕ) → InExtension len size line → len < 254 → is_extension_byte b ≡ true
    → InExtension (len + 1) size (line ++ b ∷ [])
extension_grows len size b line x less is = record {
  digits = x.digits;
  pad = x.pad;
  text = x.text ++ b ∷ [];
  sized = x.sized;
  blank = x.blank;
  plain = All-push (λ v. is_extension_byte v ≡ true) x.text b x.plain is;
  printed = ap (λ (l : List ℕ). l ++ b ∷ []) x.printed ∙ append_assoc (x.digits ++ x.pad) (59 ∷ x.text) (b ∷ []);
  count = omega (arith, length-append line (b ∷ []), x.count);
  fits = omega (arith, less);
}

pub not_line_end : (b : ℕ) → (b == 13) ≡ false → (b == 10) ≡ false → is_extension_byte b ≡ true
not_line_end b cr lf = ap (λ (t : Bool). not (t || b == 10)) cr ∙ ap not lf

-- ---- the places

pub at_size_start : (room b : ℕ) (taken given : List ℕ) → Chunks room taken given → Stands room (first_digit b) (taken ++ b ∷ []) given
at_size_start room b taken given x =
    cond_both (is_ascii_hexdigit b) (Digits 1 (digit_value b)) Bad (λ (p : Place). Stands room p (taken ++ b ∷ []) given)
    (λ is. record {
      front = taken;
      line = b ∷ [];
      chunks = x;
      is = record { sized = one_digit b is; count = refl };
      joined = refl;
    })
    (λ no. tt)

pub at_padding : (room len size b : ℕ) (taken given : List ℕ) → Behind room taken given (InPadding len size)
    → Stands room (after_digits len size b) (taken ++ b ∷ []) given
at_padding room len size b taken given x =
    cond_both (b == 13) (SizeLf size) _ (λ (p : Place). Stands room p (taken ++ b ∷ []) given)
    (λ cr. grow room taken given b x
    (λ line is. subst (λ (c : ℕ). AtLf size (line ++ c ∷ [])) (sym (eqb-true b 13 cr)) (padding_at_end len size line is)))
    (λ no_cr. cond_both (nat_lt len 254) _ Bad (λ (p : Place). Stands room p (taken ++ b ∷ []) given)
    (λ less. cond_both (b == 59) (Extension (len + 1) size) _ (λ (p : Place). Stands room p (taken ++ b ∷ []) given)
    (λ semi. grow room taken given b x
    (λ line is. subst (λ (c : ℕ). InExtension (len + 1) size (line ++ c ∷ [])) (sym (eqb-true b 59 semi))
    (extension_begins len size line is (ltb-true len 254 less))))
    (λ no_semi. cond_both (is_ows b) (Padding (len + 1) size) Bad (λ (p : Place). Stands room p (taken ++ b ∷ []) given)
    (λ ows. grow room taken given b x (λ line is. padding_grows len size b line is (ltb-true len 254 less) ows))
    (λ none. tt)))
    (λ full. tt))

pub at_digits : (room len size b : ℕ) (taken given : List ℕ) → Behind room taken given (InDigits len size)
    → Stands room (next_digit len size b) (taken ++ b ∷ []) given
at_digits room len size b taken given x =
    cond_both (is_ascii_hexdigit b) _ (after_digits len size b) (λ (p : Place). Stands room p (taken ++ b ∷ []) given)
    (λ hex. cond_both (nat_lt len 15) (Digits (len + 1) (grown_size size (digit_value b))) Bad (λ (p : Place). Stands room p (taken ++ b ∷ []) given)
    (λ less. grow room taken given b x
    (λ line is. record {
      sized = more_digits size line b is.sized (omega (arith, is.count, ltb-true len 15 less)) hex;
      count = omega (arith, length-append line (b ∷ []), is.count);
    }))
    (λ full. tt))
    (λ other. at_padding room len size b taken given (same_behind room taken given x (λ line is. padding_of_digits len size line is)))

pub at_extension : (room len size b : ℕ) (taken given : List ℕ) → Behind room taken given (InExtension len size)
    → Stands room (in_extension len size b) (taken ++ b ∷ []) given
at_extension room len size b taken given x =
    cond_both (b == 13) (SizeLf size) _ (λ (p : Place). Stands room p (taken ++ b ∷ []) given)
    (λ cr. grow room taken given b x
    (λ line is. subst (λ (c : ℕ). AtLf size (line ++ c ∷ [])) (sym (eqb-true b 13 cr)) (extension_at_end len size line is)))
    (λ no_cr. cond_both (b == 10) Bad _ (λ (p : Place). Stands room p (taken ++ b ∷ []) given)
    (λ lf. tt)
    (λ no_lf. cond_both (nat_lt len 254) (Extension (len + 1) size) Bad (λ (p : Place). Stands room p (taken ++ b ∷ []) given)
    (λ less. grow room taken given b x (λ line is. extension_grows len size b line is (ltb-true len 254 less) (not_line_end b no_cr no_lf)))
    (λ full. tt)))
