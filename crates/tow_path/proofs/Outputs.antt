-- The output that grows segment by segment is the path without its dot segments.
use Rattle.std.proofs.Common.{◌≡◌, ℕ, zero, suc, ◌-◌, ◌<◌, Bool, true, false, ◌||◌, ◌==◌, List, [], ◌∷◌, ◌++◌, length, get_or, take, drop, if◌then◌else◌, fold, map, refl, sym, ap, ap₂, ◌∙◌, codes, arith, append-nil}
use Rattle.std.proofs.lemmas.Bool.Decides.{nat_tests}
use Rattle.std.proofs.lemmas.Grind.{flat_map-append}
use Rattle.std.proofs.lemmas.List.{map-append, take-append-drop}
use Rattle.std.proofs.lemmas.List.Sums.{fold-append}
use denote.Ref.{Bor}
use Rattle.std.proofs.Math.Bool.{cond}
use Rattle.std.proofs.Math.Seq.{drop-cons}
use Rattle.std.specs.List.{flat_map, list_any, onto_first}
use Rattle.tow_model.specs.Texts.{Text, begins_with, cut_at, but_last}
use Rattle.tow_model.specs.Paths.{slash, is_dot, is_dots, with_segment, left_behind, resolved_relative, resolved}
use Rattle.tow_model.proofs.Resolving.{Each, Plain, neither, each_append, each_take, add_byte, cut_smooth, segments_stay, no_dots, plain_resolved, resolved_twice}
use Rattle.tow_path.specs.Output.{has_slash, before_last_slash, put_segment, has_dot_segment}

-- a segment
abbrev Smooth : Text → Type 0
Smooth s = has_slash s ≡ false

-- each segment behind a slash (RFC 3986, section 3.3)
abbrev path_abempty : List Text → Text
path_abempty segments = flat_map (λ s. slash ∷ s) segments

-- THE LAST SLASH

or_right : (a b : Bool) → b ≡ true → (a || b) ≡ true
or_right true b is = refl
or_right false b is = is

has_in : (x y : Text) → has_slash y ≡ true → has_slash (x ++ y) ≡ true
has_in [] y is = is
has_in (b ∷ x) y is = or_right (b == slash) (has_slash (x ++ y)) (has_in x y is)

last_of : (x y : Text) → has_slash y ≡ true → before_last_slash (x ++ y) ≡ x ++ before_last_slash y
last_of [] y is = refl
last_of (b ∷ x) y is = let h = has_in x y is in rw h (ap (λ k. b ∷ k) (last_of x y is))

-- before a slash and a segment
last_before : (front s : Text) → Smooth s → before_last_slash (front ++ slash ∷ s) ≡ front
last_before front s smooth =
    let none : before_last_slash (slash ∷ s) ≡ [] = rw smooth refl in
    last_of front (slash ∷ s) refl ∙ ap (λ k. front ++ k) none ∙ append-nil front

pub last_nowhere : (text : Text) → has_slash text ≡ false → [] ≡ before_last_slash text
last_nowhere [] is = refl
last_nowhere (b ∷ text) is = let n = neither (b == slash) (has_slash text) is in rw n.1 refl

pub last_found : (path : Text) (at : ℕ) → at < length path → get_or path at 0 ≡ slash → has_slash (drop (suc at) path) ≡ false → take at path ≡ before_last_slash path
last_found path at within is none =
    let e : take at path ++ slash ∷ drop (suc at) path ≡ path =
    ap (λ k. take at path ++ k) (sym (drop-cons path at 0 within ∙ ap (λ b. b ∷ drop (suc at) path) is)) ∙ take-append-drop at path in
    sym (last_before (take at path) (drop (suc at) path) none) ∙ ap before_last_slash e

other : (b : ℕ) → (b ≡ slash → ⊥) → (b == slash) ≡ false
other b is = grind (arith, nat_tests)

pub last_further : (path : Text) (at : ℕ) → at < length path → (get_or path at 0 ≡ slash → ⊥) → has_slash (drop (suc at) path) ≡ false → has_slash (drop at path) ≡ false
last_further path at within is none =
    ap has_slash (drop-cons path at 0 within) ∙ ap (λ k. k || has_slash (drop (suc at) path)) (other (get_or path at 0) is) ∙ none

-- ONE SEGMENT MORE

abempty_append : (a b : List Text) → path_abempty (a ++ b) ≡ path_abempty a ++ path_abempty b
abempty_append a b = flat_map-append (λ s. slash ∷ s) a b

dots_off : (stay : List Text) → Each Smooth stay → before_last_slash (path_abempty stay) ≡ path_abempty (but_last stay)
dots_off [] p = refl
dots_off (s ∷ []) p = ap (λ k. before_last_slash (slash ∷ k)) (append-nil s) ∙ last_before [] s p.0
dots_off (s ∷ t ∷ stay) p =
    let e : suc (suc (length stay) - 1) ≡ suc (suc (length stay)) - 1 = omega arith in
    last_of (slash ∷ s) (path_abempty (t ∷ stay)) refl ∙ ap (λ k. (slash ∷ s) ++ k) (dots_off (t ∷ stay) p.1)
    ∙ ap (λ k. path_abempty (take k (s ∷ t ∷ stay))) e

choose : (a b : Bool) (x y z : Text) (X Y Z : List Text) → x ≡ path_abempty X → y ≡ path_abempty Y → z ≡ path_abempty Z
    → (if a then x else (if b then y else z)) ≡ path_abempty (if a then X else (if b then Y else Z))
choose true b x y z X Y Z p q r = p
choose false true x y z X Y Z p q r = q
choose false false x y z X Y Z p q r = r

put_is : (stay : List Text) (s : Text) → Each Smooth stay → put_segment (path_abempty stay) s ≡ path_abempty (with_segment stay s)
put_is stay s p =
    choose (is_dot s) (is_dots s) (path_abempty stay) (before_last_slash (path_abempty stay)) (path_abempty stay ++ slash ∷ s) stay (but_last stay) (stay ++ s ∷ []) refl (dots_off stay p)
    (ap (λ k. path_abempty stay ++ slash ∷ k) (sym (append-nil s)) ∙ sym (abempty_append stay (s ∷ [])))

one_holds : (a b : Bool) (X Y Z : List Text) → Each Smooth X → Each Smooth Y → Each Smooth Z → Each Smooth (if a then X else (if b then Y else Z))
one_holds true b X Y Z p q r = p
one_holds false true X Y Z p q r = q
one_holds false false X Y Z p q r = r

all_put : (stay segments : List Text) → Each Smooth stay → Each Smooth segments → fold put_segment (path_abempty stay) segments ≡ path_abempty (fold with_segment stay segments)
all_put stay [] p q = refl
all_put stay (s ∷ segments) p q =
    ap (λ k. fold put_segment k segments) (put_is stay s p)
    ∙ all_put (with_segment stay s) segments
    (one_holds (is_dot s) (is_dots s) stay (but_last stay) (stay ++ s ∷ []) p (each_take Smooth _ stay p) (each_append Smooth stay (s ∷ []) p (q.0, tt))) q.1

-- ALL SEGMENTS

same_byte : (b : ℕ) → (b == slash) ≡ true → slash ≡ b
same_byte b is = grind (arith, nat_tests)

piece_led : (x : Bool) (b : ℕ) (pieces : List Text) (t : Text) → (b == slash) ≡ x → path_abempty pieces ≡ slash ∷ t → path_abempty (add_byte x b pieces) ≡ slash ∷ b ∷ t
piece_led true b pieces t is e = ap (λ k. slash ∷ k) (e ∙ ap (λ k. k ∷ t) (same_byte b is))
piece_led false b [] t is e = absurd (cc)
piece_led false b (s ∷ pieces) t is e = ap (λ k. slash ∷ b ∷ drop 1 k) e

cut_led : (t : Text) → path_abempty (cut_at slash t) ≡ slash ∷ t
cut_led [] = refl
cut_led (b ∷ t) = piece_led (b == slash) b (cut_at slash t) t refl (cut_led t)

slash_left : (ends : Bool) → path_abempty (if ends then [] ∷ [] else []) ≡ (if ends then slash ∷ [] else [])
slash_left true = refl
slash_left false = refl

output_is : (path : Text) (ends : Bool) → left_behind (cut_at slash path) ≡ (if ends then [] ∷ [] else [])
    → fold put_segment [] (cut_at slash path) ++ (if ends then slash ∷ [] else []) ≡ slash ∷ resolved_relative path
output_is path ends left =
    let cut = cut_at slash path in
    ap₂ (λ a b. a ++ b) (all_put [] cut tt (cut_smooth path)) (sym (slash_left ends) ∙ ap path_abempty (sym left))
    ∙ sym (abempty_append (fold with_segment [] cut) (left_behind cut)) ∙ ap path_abempty (sym (segments_stay path)) ∙ cut_led (resolved_relative path)

left_next : (front : List Text) (s : Text) → left_behind (front ++ s ∷ []) ≡ (if is_dot s || is_dots s then [] ∷ [] else [])
left_next [] s = refl
left_next (t ∷ []) s = refl
left_next (t ∷ u ∷ front) s = left_next (u ∷ front) s

-- the segments that came are put out
pub record PutOut (path kept : Text) (ends : Bool) (came : List Text) : Type 0 where
  pub output : kept ≡ fold put_segment [] came
  pub left : left_behind came ≡ (if ends then [] ∷ [] else [])
  pub all : came ≡ cut_at slash path

put_all : (path kept : Text) (ends : Bool) (came : List Text) → PutOut path kept ends came → kept ++ (if ends then slash ∷ [] else []) ≡ slash ∷ resolved_relative path
put_all path kept ends came put =
    ap (λ k. k ++ (if ends then slash ∷ [] else [])) (put.output ∙ ap (λ k. fold put_segment [] k) put.all)
    ∙ output_is path ends (ap left_behind (sym put.all) ∙ put.left)

-- the last of them is a dot segment
pub dots_last : (path kept out : Text) (ends : Bool) (came : List Text) → PutOut path kept ends came → ends ≡ true → out ≡ kept ++ slash ∷ [] → out ≡ slash ∷ resolved_relative path
dots_last path kept out ends came put is e =
    e ∙ ap (λ k. kept ++ (if k then slash ∷ [] else [])) (sym is) ∙ put_all path kept ends came put

-- or is not
pub name_last : (path kept out : Text) (ends : Bool) (came : List Text) → PutOut path kept ends came → ends ≡ false → out ≡ kept → out ≡ slash ∷ resolved_relative path
name_last path kept out ends came put is e =
    e ∙ sym (append-nil kept) ∙ ap (λ k. kept ++ (if k then slash ∷ [] else [])) (sym is) ∙ put_all path kept ends came put

pub output_grows : (yielded : List (Bor Text)) (segment : Bor Text) (kept out : Text) → kept ≡ fold put_segment [] (map (λ x. x.now) yielded) → out ≡ put_segment kept segment.now
    → out ≡ fold put_segment [] (map (λ x. x.now) (yielded ++ segment ∷ []))
output_grows yielded segment kept out is e =
    e ∙ ap (λ k. put_segment k segment.now) is ∙ sym (fold-append put_segment [] (map (λ (x : Bor Text). x.now) yielded) (segment.now ∷ []))
    ∙ ap (λ k. fold put_segment [] k) (sym (map-append (λ (x : Bor Text). x.now) yielded (segment ∷ [])))

pub left_grows : (yielded : List (Bor Text)) (segment : Bor Text) (ends : Bool) → ends ≡ (is_dot segment.now || is_dots segment.now)
    → left_behind (map (λ x. x.now) (yielded ++ segment ∷ [])) ≡ (if ends then [] ∷ [] else [])
left_grows yielded segment ends is =
    ap left_behind (map-append (λ (x : Bor Text). x.now) yielded (segment ∷ [])) ∙ left_next (map (λ (x : Bor Text). x.now) yielded) segment.now
    ∙ ap (λ k. if k then [] ∷ [] else []) (sym is)

-- PATHS WITHOUT DOT SEGMENTS

each_plain : (segments : List Text) → list_any (λ s. is_dot s || is_dots s) segments ≡ false → Each Plain segments
each_plain [] is = tt
each_plain (s ∷ segments) is =
    let n = neither (is_dot s || is_dots s) (list_any (λ t. is_dot t || is_dots t) segments) is in (n.0, each_plain segments n.1)

pub stays : (path : Text) → has_dot_segment path ≡ false → path ≡ resolved path
stays path is = sym (plain_resolved path (each_plain (cut_at slash path) is))

none_plain : (segments : List Text) → Each Plain segments → list_any (λ s. is_dot s || is_dots s) segments ≡ false
none_plain [] p = refl
none_plain (s ∷ segments) p = rw p.0 (none_plain segments p.1)

by_front : (x : Bool) (path : Text) → begins_with (codes "/") path ≡ x → has_dot_segment (resolved path) ≡ false
by_front true path is =
    let e : resolved path ≡ slash ∷ resolved_relative (drop 1 path) = rw is refl in
    ap has_dot_segment e ∙ none_plain (cut_at slash (resolved_relative (drop 1 path))) (no_dots (drop 1 path))
by_front false path is =
    let e : resolved path ≡ resolved_relative path = rw is refl in
    ap has_dot_segment e ∙ none_plain (cut_at slash (resolved_relative path)) (no_dots path)

-- a resolved path has no dot segments
pub no_dots_left : (path : Text) → has_dot_segment (resolved path) ≡ false
no_dots_left path = by_front (begins_with (codes "/") path) path refl

-- what is equal to a resolved path has no dot segments, and stays
pub plain_copy : (path r : Text) → r ≡ resolved path → has_dot_segment r ≡ false
plain_copy path r e = ap has_dot_segment e ∙ no_dots_left path

pub same_copy : (path r : Text) → r ≡ resolved path → resolved r ≡ r
same_copy path r e = ap resolved e ∙ resolved_twice path ∙ sym e
