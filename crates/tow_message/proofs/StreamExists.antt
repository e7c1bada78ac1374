-- No input is read as no stream.
use Rattle.std.specs.Prelude.{true, false, nat_le}
use Rattle.std.proofs.Common.{◌≡◌, ℕ, zero, suc, ◌<◌, ◌≤◌, ◌⊎◌, inl, inr, List, [], ◌++◌, length, take, drop, Option, Some, None, refl, sym, ap, ◌∙◌, subst, arith, append_assoc, length-append, length-take, length-drop, take_at, take-append-drop}
use Rattle.std.proofs.lemmas.List.{append-nil}
use Rattle.std.proofs.lemmas.Bool.Decides.{leb_tells}
use Rattle.httparse.specs.Grammar.{RequestHead, print_request, print_blank}
use Rattle.tow_model.specs.declared.request.Framing.{Framing}
use Rattle.tow_model.specs.declared.request.Framing.TheVariants.{Empty, Fixed, Chunked}
use Rattle.tow_model.specs.declared.content.Content.{Content}
use Rattle.tow_model.specs.declared.content.Content.TheVariants.{Whole, Bad, TooLong}
use Rattle.tow_message.specs.Heads.{HasHead, connection_refusal, request_of}
use Rattle.tow_message.specs.FirstHead.{Got, first_head}
use Rattle.tow_message.specs.Contents.{IsContent, HasContent, Gives}
use Rattle.tow_message.specs.Stream.{Stream, nothing, refused, last, next, HasRequest, ReadsStream, StreamIsThere}
use Rattle.tow_message.proofs.FirstHeads.{finds_head}
use Rattle.tow_message.proofs.StreamLemmas.{request_split}

-- ---- contents

none_is_bad : (f : Framing) (text : List ℕ) → IsContent f text Bad → ⊥
none_is_bad Empty text is = is
none_is_bad (Fixed n) text is = is
none_is_bad Chunked text is = is

gives_of : (f : Framing) (input : List ℕ) (given : Content) (rest : List ℕ) → HasContent f input given rest → Gives f input (Some given)
gives_of f input (Whole bytes) rest has = (rest, has)
gives_of f input TooLong rest has = (rest, has)
gives_of f input Bad rest has = absurd (none_is_bad f has.text has.is_content)

-- the shorter of two fronts is a front of the longer
shorter_front : (a b s t : List ℕ) → a ++ s ≡ b ++ t → length a ≤ length b → b ≡ a ++ drop (length a) b
shorter_front a b s t e fits =
    let len : length (take (length a) b) ≡ length a = omega (arith, length-take (length a) b, fits) in
    let split : b ++ t ≡ take (length a) b ++ (drop (length a) b ++ t) =
    ap (λ (l : List ℕ). l ++ t) (sym (take-append-drop (length a) b)) ∙ append_assoc (take (length a) b) (drop (length a) b) t in
    let front : a ≡ take (length a) b =
    sym (take_at a s (length a) refl) ∙ ap (take (length a)) (e ∙ split) ∙ take_at (take (length a) b) (drop (length a) b ++ t) (length a) len in
    sym (take-append-drop (length a) b) ∙ ap (λ (l : List ℕ). l ++ drop (length a) b) (sym front)

content_is_there : (f : Framing) (input : List ℕ) → ((c : Option Content) → ¬ (Gives f input c)) → ⊥
content_is_there f input none = none (Some Bad) (λ more rest given has. by more rest given has (leb_tells (length has.text) (length input)))
  where
    by : (more rest : List ℕ) (given : Content) (has : HasContent f (input ++ more) given rest)
        → ((nat_le (length has.text) (length input) ≡ true) × (length has.text ≤ length input)) ⊎ ((nat_le (length has.text) (length input) ≡ false) × (length input < length has.text)) → ⊥
    by more rest given has (inl (is, fits)) =
        none (Some given) (gives_of f input given (drop (length has.text) input) (record {
          text = has.text;
          is_content = has.is_content;
          joined = shorter_front has.text input rest more (sym has.joined) fits;
        }))
    by more rest given has (inr (is, longer)) =
        none None (record {
          more = drop (length input) has.text;
          given = given;
          is_content = subst (λ (l : List ℕ). IsContent f l given) (shorter_front input has.text more rest has.joined (omega (arith, longer))) has.is_content;
          some = omega (arith, longer, length-drop (length input) has.text);
        })

-- ---- heads

longer_by : (a b : List ℕ) → length b ≤ length (a ++ b)
longer_by a b = omega (arith, length-append a b)

has_bytes : (whole a b c : List ℕ) → whole ≡ a ++ (b ++ c) → 0 < length b → 0 < length whole
has_bytes whole a b c is some =
    let len : length whole ≡ length (a ++ (b ++ c)) = ap (λ (l : List ℕ). length l) is in
    omega (arith, len, some, length-append a (b ++ c), length-append b c)

some_bytes : (h : RequestHead) → 0 < length h.method → 0 < length (print_request h)
some_bytes h some =
    has_bytes (print_request h) (print_blank h.blank) h.method _ (sym (append-nil (print_request h)) ∙ request_split h []) some

head_is_long : (input : List ℕ) (h : RequestHead) (rest : List ℕ) → HasHead input h rest → length rest < length input
head_is_long input h rest has =
    let len : length input ≡ length (print_request h ++ rest) = ap (λ (l : List ℕ). length l) has.reads.1 in
    omega (arith, len, length-append (print_request h) rest, some_bytes h has.reads.0.method.0)

content_is_no_longer : (f : Framing) (input : List ℕ) (given : Content) (rest : List ℕ) → HasContent f input given rest → length rest ≤ length input
content_is_no_longer f input given rest has =
    let len : length input ≡ length (has.text ++ rest) = ap (λ (l : List ℕ). length l) has.joined in
    omega (arith, len, length-append has.text rest)

some_is_none : (o : Got RequestHead) (x : RequestHead × List ℕ) → o ≡ None → o ≡ Some x → ⊥
some_is_none o x a b = absurd (cc)

-- ---- streams

with_request : (peer n : ℕ) (input : List ℕ) (h : RequestHead) (rest : List ℕ) → HasHead input h rest → length input ≤ suc n
    → ((after : List ℕ) → length after ≤ n → ((s : Stream) → ¬ (ReadsStream peer after s)) → ⊥)
    → (o : Option ℕ) → connection_refusal h ≡ o → ((s : Stream) → ¬ (ReadsStream peer input s)) → ⊥
with_request peer n input h rest has fits later (Some status) is none =
    none (refused status) (inl (record { head = h; rest = rest; reads = has; refused = is }))
with_request peer n input h rest has fits later None is none =
    content_is_there (request_of peer h).framing rest (λ c gives. by c gives)
  where
    request : HasRequest peer input (request_of peer h) rest
    request = record { head = h; reads = has; served = is; request = refl }

    by : (c : Option Content) → Gives (request_of peer h).framing rest c → ⊥
    by None gives = none (last (request_of peer h) None) (rest, request, gives, λ w. w)
    by (Some Bad) gives = none (last (request_of peer h) (Some Bad)) (rest, request, gives, λ w. w)
    by (Some TooLong) gives = none (last (request_of peer h) (Some TooLong)) (rest, request, gives, λ w. w)
    by (Some (Whole bytes)) gives =
        let long = head_is_long input h rest has in
        let short = content_is_no_longer (request_of peer h).framing rest (Whole bytes) gives.0 gives.1 in
        later gives.0 (omega (arith, fits, long, short))
        (λ s reads. none (next (request_of peer h) bytes s) (rest, gives.0, request, gives.1, reads))

-- where there is no head the input is blank or refused
by_first : (peer : ℕ) (input : List ℕ) (o : Got RequestHead) → first_head input ≡ o
    → ((x : RequestHead × List ℕ) → first_head input ≡ Some x → ⊥) → ((s : Stream) → ¬ (ReadsStream peer input s)) → ⊥
by_first peer input None is found none =
    none (refused 400) (inr (
      record {
        no_head = λ h rest has. some_is_none (first_head input) (h, rest) is ((finds_head input h rest).0 has);
        not_blank = none nothing;
      },
      refl,
    ))
by_first peer input (Some x) is found none = found x is

up_to : (peer n : ℕ) (input : List ℕ) → length input ≤ n → ((s : Stream) → ¬ (ReadsStream peer input s)) → ⊥
up_to peer zero input fits none =
    by_first peer input (first_head input) refl
    (λ x is. let long = head_is_long input x.0 x.1 ((finds_head input x.0 x.1).1 is) in absurd (omega (arith, long, fits))) none
up_to peer (suc n) input fits none =
    by_first peer input (first_head input) refl
    (λ x is. with_request peer n input x.0 x.1 ((finds_head input x.0 x.1).1 is) fits
    (λ after short. up_to peer n after short) (connection_refusal x.0) refl none) none

pub stream_is_there : (peer : ℕ) (input : List ℕ) → StreamIsThere peer input
stream_is_there peer input none = up_to peer (length input) input (omega arith) none
