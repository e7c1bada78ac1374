-- An input is read as one stream at most.
use Rattle.std.proofs.Common.{◌≡◌, ℕ, ◌<◌, ◌⊎◌, inl, inr, Bool, true, false, true≢false, ◌||◌, ◌==◌, IsTrue, List, [], ◌∷◌, ◌++◌, length, All, Option, Some, None, refl, sym, ap, ◌∙◌, subst, arith, append_assoc, length-append}
use Rattle.std.proofs.lemmas.List.{append-nil}
use Rattle.std.proofs.lemmas.Option.{same_Some}
use Rattle.std.proofs.lemmas.List.Elements.{All-head, All-tail}
use Rattle.std.proofs.lemmas.Bool.Decides.{nat_tests}
use Rattle.httparse.specs.Grammar.{RequestHead, print_request, print_blank, print_version, print_end, print_section, is_token_byte, IsToken}
use Rattle.tow_model.specs.declared.request.Framing.{Framing}
use Rattle.tow_model.specs.declared.request.Request.{Request}
use Rattle.tow_model.specs.declared.content.Content.{Content}
use Rattle.tow_model.specs.declared.content.Content.TheVariants.{Whole, Bad, TooLong}
use Rattle.tow_message.specs.Heads.{HasHead, connection_refusal, request_of}
use Rattle.tow_message.specs.Contents.{HasContent, IsShort, IsBad, Gives}
use Rattle.tow_message.specs.Stream.{Stream, nothing, refused, last, next, IsBlank, IsNoRequest, IsRefused, HasRequest, IsWhole, ReadsStream, StreamIsOne}
use Rattle.tow_message.proofs.FirstHeads.{head_is_one}
use Rattle.tow_message.proofs.ContentLemmas.{content_is_one}

-- ---- contents

not_empty : (a b : List ℕ) → [] ≡ a ++ b → 0 < length b → ⊥
not_empty a b e some =
    let none : 0 ≡ length (a ++ b) = ap (λ (l : List ℕ). length l) e in
    omega (arith, none, some, length-append a b)

short_has_none : (f : Framing) (input : List ℕ) (g : Content) (rest : List ℕ) → IsShort f input → HasContent f input g rest → ⊥
short_has_none f input g rest short has =
    let whole : HasContent f (input ++ short.more) short.given [] = record {
      text = input ++ short.more;
      is_content = short.is_content;
      joined = sym (append-nil (input ++ short.more));
    } in
    let longer : HasContent f (input ++ short.more) g (rest ++ short.more) = record {
      text = has.text;
      is_content = has.is_content;
      joined = ap (λ (l : List ℕ). l ++ short.more) has.joined ∙ append_assoc has.text rest short.more;
    } in
    let same = content_is_one f (input ++ short.more) short.given g [] (rest ++ short.more) whole longer in
    not_empty rest short.more same.1 short.some

bad_has_none : (f : Framing) (input : List ℕ) (g : Content) (rest : List ℕ) → IsBad f input → HasContent f input g rest → ⊥
bad_has_none f input g rest bad has =
    bad [] rest g (record { text = has.text; is_content = has.is_content; joined = append-nil input ∙ has.joined })

short_is_not_bad : (f : Framing) (input : List ℕ) → IsShort f input → IsBad f input → ⊥
short_is_not_bad f input short bad =
    bad short.more [] short.given (record {
      text = input ++ short.more;
      is_content = short.is_content;
      joined = sym (append-nil (input ++ short.more));
    })

pub gives_one : (f : Framing) (input : List ℕ) (a b : Option Content) → Gives f input a → Gives f input b → a ≡ b
gives_one f input None None x y = refl
gives_one f input None (Some Bad) x y = absurd (short_is_not_bad f input x y)
gives_one f input None (Some TooLong) x y = absurd (short_has_none f input _ _ x y.1)
gives_one f input None (Some (Whole v)) x y = absurd (short_has_none f input _ _ x y.1)
gives_one f input (Some Bad) None x y = absurd (short_is_not_bad f input y x)
gives_one f input (Some Bad) (Some Bad) x y = refl
gives_one f input (Some Bad) (Some TooLong) x y = absurd (bad_has_none f input _ _ x y.1)
gives_one f input (Some Bad) (Some (Whole v)) x y = absurd (bad_has_none f input _ _ x y.1)
gives_one f input (Some TooLong) None x y = absurd (short_has_none f input _ _ y x.1)
gives_one f input (Some TooLong) (Some Bad) x y = absurd (bad_has_none f input _ _ y x.1)
gives_one f input (Some TooLong) (Some TooLong) x y = refl
gives_one f input (Some TooLong) (Some (Whole v)) x y =
    ap (λ g. Some g) (content_is_one f input _ _ _ _ x.1 y.1).0
gives_one f input (Some (Whole u)) None x y = absurd (short_has_none f input _ _ y x.1)
gives_one f input (Some (Whole u)) (Some Bad) x y = absurd (bad_has_none f input _ _ y x.1)
gives_one f input (Some (Whole u)) (Some TooLong) x y =
    ap (λ g. Some g) (content_is_one f input _ _ _ _ x.1 y.1).0
gives_one f input (Some (Whole u)) (Some (Whole v)) x y =
    ap (λ g. Some g) (content_is_one f input _ _ _ _ x.1 y.1).0

-- ---- heads and blank input

abbrev is_line_byte : ℕ → Bool
is_line_byte b = b == 13 || b == 10

abbrev IsLineByte : ℕ → Type 0
IsLineByte b = IsTrue (is_line_byte b)

-- what is true of each byte is true of those behind
All-behind : (P : ℕ → Type 0) (xs ys : List ℕ) → All P (xs ++ ys) → All P ys
All-behind P [] ys all = all
All-behind P (x ∷ xs) ys all = All-behind P xs ys (All-tail P x (xs ++ ys) all)

line_or_token : (b : ℕ) → is_line_byte b ≡ true → is_token_byte b ≡ true → ⊥
unfolding is_token_byte
line_or_token b line token = by (or_is (b == 13) (b == 10) line)
  where
    is_byte : (n : ℕ) → (b == n) ≡ true → b ≡ n
    is_byte n e = grind (arith, nat_tests)

    or_is : (x y : Bool) → (x || y) ≡ true → (x ≡ true) ⊎ (y ≡ true)
    or_is true y e = inl refl
    or_is false y e = inr e

    apart : (n : ℕ) → is_token_byte n ≡ false → b ≡ n → ⊥
    apart n none e = true≢false (sym token ∙ ap is_token_byte e ∙ none)

    by : ((b == 13) ≡ true) ⊎ ((b == 10) ≡ true) → ⊥
    by (inl e) = apart 13 refl (is_byte 13 e)
    by (inr e) = apart 10 refl (is_byte 10 e)

token_in_line : (method rest : List ℕ) → IsToken method → All IsLineByte (method ++ rest) → ⊥
token_in_line [] rest token all = omega (arith, token.0)
token_in_line (b ∷ method) rest token all =
    line_or_token b (All-head IsLineByte b (method ++ rest) all) (All-head (λ v. is_token_byte v ≡ true) b method token.1)

regroup : (a m s t e f rest : List ℕ) → (a ++ m ++ s ++ t ++ e ++ f) ++ rest ≡ a ++ (m ++ (s ++ (t ++ (e ++ (f ++ rest)))))
regroup a m s t e f rest = simp append_assoc

-- a head is its empty lines, its method and more
pub request_split : (h : RequestHead) (rest : List ℕ)
    → print_request h ++ rest
    ≡ print_blank h.blank
    ++ (h.method ++ (32 ∷ h.target ++ (32 ∷ print_version h.minor ++ (print_end h.line_end ++ (print_section h.fields h.last ++ rest)))))
unfolding print_request
request_split h rest =
    regroup (print_blank h.blank) h.method (32 ∷ h.target) (32 ∷ print_version h.minor) (print_end h.line_end) (print_section h.fields h.last) rest

pub blank_has_none : (input : List ℕ) (h : RequestHead) (rest : List ℕ) → IsBlank input → HasHead input h rest → ⊥
blank_has_none input h rest blank has =
    let all : All IsLineByte (print_blank h.blank ++ _) = subst (All IsLineByte) (has.reads.1 ∙ request_split h rest) blank.bytes in
    token_in_line h.method _ has.reads.0.method (All-behind IsLineByte (print_blank h.blank) _ all)

-- ---- streams

refused_has_none : (status : ℕ) (o : Option ℕ) → o ≡ Some status → o ≡ None → ⊥
refused_has_none status o a b = absurd (cc)

pub one_request : (peer : ℕ) (input : List ℕ) (q p : Request) (rest other : List ℕ) → HasRequest peer input q rest → HasRequest peer input p other
    → (q ≡ p) × (rest ≡ other)
one_request peer input q p rest other one two =
    let same = head_is_one input one.head two.head rest other one.reads two.reads in
    (sym one.request ∙ ap (request_of peer) same.0 ∙ two.request, same.1)

-- a refused head is no request's
pub refused_is_none : (peer : ℕ) (input : List ℕ) (status : ℕ) (q : Request) (rest : List ℕ)
    → IsRefused input status ⊎ (IsNoRequest input × (status ≡ 400)) → HasRequest peer input q rest → ⊥
refused_is_none peer input status q rest (inl wrong) has =
    let same = head_is_one input wrong.head has.head _ _ wrong.reads has.reads in
    refused_has_none status (connection_refusal has.head) (sym (ap connection_refusal same.0) ∙ wrong.refused) has.served
refused_is_none peer input status q rest (inr wrong) has = wrong.0.no_head has.head rest has.reads

blank_is_not_refused : (input : List ℕ) (status : ℕ) → IsBlank input → IsRefused input status ⊎ (IsNoRequest input × (status ≡ 400)) → ⊥
blank_is_not_refused input status blank (inl wrong) = blank_has_none input wrong.head wrong.rest blank wrong.reads
blank_is_not_refused input status blank (inr wrong) = wrong.0.not_blank blank

one_status : (input : List ℕ) (a b : ℕ) → IsRefused input a ⊎ (IsNoRequest input × (a ≡ 400)) → IsRefused input b ⊎ (IsNoRequest input × (b ≡ 400)) → a ≡ b
one_status input a b (inl x) (inl y) =
    let same = head_is_one input x.head y.head _ _ x.reads y.reads in
    same_Some a b (sym x.refused ∙ ap connection_refusal same.0 ∙ y.refused)
one_status input a b (inl x) (inr y) = absurd (y.0.no_head x.head x.rest x.reads)
one_status input a b (inr x) (inl y) = absurd (x.0.no_head y.head y.rest y.reads)
one_status input a b (inr x) (inr y) = x.1 ∙ sym y.1

pub whole_is_some : (f : Framing) (input bytes after : List ℕ) (c : Option Content) → Gives f input c → ¬ (IsWhole c) → HasContent f input (Whole bytes) after → ⊥
whole_is_some f input bytes after c gives not_whole has =
    let same = gives_one f input c (Some (Whole bytes)) gives (after, has) in
    not_whole (subst IsWhole (sym same) tt)

bytes_in : Content → List ℕ
bytes_in (Whole v) = v
bytes_in Bad = []
bytes_in TooLong = []

pub bytes_of_whole : (x y : List ℕ) → ◌≡◌ {A = Content} (Whole x) (Whole y) → x ≡ y
unfolding bytes_in
bytes_of_whole x y e = ap bytes_in e

pub stream_is_one : (peer : ℕ) (input : List ℕ) → StreamIsOne peer input
stream_is_one peer input s t one two = by s t input one two
  where
    by : (s t : Stream) (input : List ℕ) → ReadsStream peer input s → ReadsStream peer input t → s ≡ t
    by nothing nothing input a b = refl
    by nothing (refused n) input a b = absurd (blank_is_not_refused input n a b)
    by nothing (last q c) input a b = absurd (blank_has_none input _ _ a b.1.reads)
    by nothing (next q x t) input a b = absurd (blank_has_none input _ _ a b.2.reads)
    by (refused m) nothing input a b = absurd (blank_is_not_refused input m b a)
    by (refused m) (refused n) input a b = ap (λ k. refused k) (one_status input m n a b)
    by (refused m) (last q c) input a b = absurd (refused_is_none peer input m q _ a b.1)
    by (refused m) (next q x t) input a b = absurd (refused_is_none peer input m q _ a b.2)
    by (last q c) nothing input a b = absurd (blank_has_none input _ _ b a.1.reads)
    by (last q c) (refused n) input a b = absurd (refused_is_none peer input n q _ b a.1)
    by (last q c) (last p d) input a b =
        let same = one_request peer input q p a.0 b.0 a.1 b.1 in
        let moved : Gives p.framing b.0 c = subst (λ (r : List ℕ). Gives p.framing r c) same.1 (subst (λ (r : Request). Gives r.framing a.0 c) same.0 a.2) in
        ap (λ r. last r c) same.0 ∙ ap (λ g. last p g) (gives_one p.framing b.0 c d moved b.2)
    by (last q c) (next p y t) input a b =
        let same = one_request peer input q p a.0 b.0 a.1 b.2 in
        let moved : Gives p.framing b.0 c = subst (λ (r : List ℕ). Gives p.framing r c) same.1 (subst (λ (r : Request). Gives r.framing a.0 c) same.0 a.2) in
        absurd (whole_is_some p.framing b.0 y b.1 c moved a.3 b.3)
    by (next q x s) nothing input a b = absurd (blank_has_none input _ _ b a.2.reads)
    by (next q x s) (refused n) input a b = absurd (refused_is_none peer input n q _ b a.2)
    by (next q x s) (last p d) input a b =
        let same = one_request peer input p q b.0 a.0 b.1 a.2 in
        let moved : Gives q.framing a.0 d = subst (λ (r : List ℕ). Gives q.framing r d) same.1 (subst (λ (r : Request). Gives r.framing b.0 d) same.0 b.2) in
        absurd (whole_is_some q.framing a.0 x a.1 d moved b.3 a.3)
    by (next q x s) (next p y t) input a b =
        let same = one_request peer input q p a.0 b.0 a.2 b.2 in
        let moved : HasContent p.framing b.0 (Whole x) a.1 =
        subst (λ (r : List ℕ). HasContent p.framing r (Whole x) a.1) same.1 (subst (λ (r : Request). HasContent r.framing a.0 (Whole x) a.1) same.0 a.3) in
        let contents = content_is_one p.framing b.0 (Whole x) (Whole y) a.1 b.1 moved b.3 in
        let later = by s t b.1 (subst (λ (r : List ℕ). ReadsStream peer r s) contents.1 a.4) b.4 in
        ap (λ r. next r x s) same.0 ∙ ap (λ l. next p l s) (bytes_of_whole x y contents.0) ∙ ap (λ k. next p y k) later
