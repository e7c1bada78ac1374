-- A resolved path has no dot segments, and stays as it is when it is resolved again.
use Rattle.std.proofs.Common.{◌≡◌, ℕ, zero, suc, Bool, true, false, ◌||◌, ◌&&◌, nat_eq, ◌==◌, List, [], ◌∷◌, ◌++◌, take, drop, if◌then◌else◌, fold, refl, sym, ap, ◌∙◌, subst, codes, append_assoc, append-nil, arith}
use Rattle.std.proofs.lemmas.Bool.Decides.{nat_tests}
use Rattle.std.proofs.Math.Bool.{cond}
use Rattle.std.specs.List.{list_any, join_with_byte, onto_first}
use Rattle.tow_model.specs.Texts.{Text, begins_with, cut_at, but_last}
use Rattle.tow_model.specs.Paths.{slash, is_dot, is_dots, with_segment, left_behind, resolved_segments, resolved_relative, resolved, ResolvedTwice}

abbrev has_slash : Text → Bool
has_slash s = list_any (λ b. b == slash) s

pub neither : (a b : Bool) → (a || b) ≡ false → (a ≡ false) × (b ≡ false)
neither false b is = (refl, is)
neither true b is = absurd cc

abbrev pub Each : (Text → Type 0) → List Text → Type 0
Each P [] = Unit {0}
Each P (s ∷ ss) = P s × Each P ss

abbrev Smooth : Text → Type 0
Smooth s = has_slash s ≡ false

abbrev pub Plain : Text → Type 0
Plain s = (is_dot s || is_dots s) ≡ false

pub each_append : (P : Text → Type 0) (a b : List Text) → Each P a → Each P b → Each P (a ++ b)
each_append P [] b p q = q
each_append P (s ∷ a) b p q = (p.0, each_append P a b p.1 q)

pub each_take : (P : Text → Type 0) (n : ℕ) (a : List Text) → Each P a → Each P (take n a)
each_take P zero [] p = tt
each_take P zero (s ∷ a) p = tt
each_take P (suc n) [] p = tt
each_take P (suc n) (s ∷ a) p = (p.0, each_take P n a p.1)

-- CUT AND JOIN

-- a byte stands before the pieces of a cut text, and ends the first piece or belongs to it
abbrev pub add_byte : Bool → ℕ → List Text → List Text
add_byte x b pieces = cond x ([] ∷ pieces) (onto_first b pieces)

piece_smooth : (x : Bool) (b : ℕ) (pieces : List Text) → (b == slash) ≡ x → Each Smooth pieces → Each Smooth (add_byte x b pieces)
piece_smooth true b pieces is p = (refl, p)
piece_smooth false b [] is p = (rw is refl, tt)
piece_smooth false b (s ∷ pieces) is p = (rw (is, p.0) refl, p.1)

pub cut_smooth : (t : Text) → Each Smooth (cut_at slash t)
cut_smooth [] = (refl, tt)
cut_smooth (b ∷ t) = piece_smooth (b == slash) b (cut_at slash t) refl (cut_smooth t)

cut_one : (s : Text) → Smooth s → cut_at slash s ≡ s ∷ []
cut_one [] is = refl
cut_one (b ∷ s) is =
    let n = neither (b == slash) (has_slash s) is in
    ap (λ pieces. add_byte (b == slash) b pieces) (cut_one s n.1) ∙ ap (λ x. add_byte x b (s ∷ [])) n.0

cut_more : (s rest : Text) → Smooth s → cut_at slash (s ++ slash ∷ rest) ≡ s ∷ cut_at slash rest
cut_more [] rest is = refl
cut_more (b ∷ s) rest is =
    let n = neither (b == slash) (has_slash s) is in
    ap (λ pieces. add_byte (b == slash) b pieces) (cut_more s rest n.1) ∙ ap (λ x. add_byte x b (s ∷ cut_at slash rest)) n.0

cut_join : (s : Text) (ss : List Text) → Each Smooth (s ∷ ss) → cut_at slash (join_with_byte slash (s ∷ ss)) ≡ s ∷ ss
cut_join s [] is = cut_one s is.0
cut_join s (t ∷ ss) is = cut_more s (join_with_byte slash (t ∷ ss)) is.0 ∙ ap (λ k. s ∷ k) (cut_join t ss is.1)

-- THE SEGMENTS THAT STAY

pick : (a b : Bool) (P : List Text → Type 0) (x y z : List Text) → (a ≡ true → P x) → (b ≡ true → P y) → ((a || b) ≡ false → P z) →
    P (if a then x else (if b then y else z))
pick true b P x y z p q r = p refl
pick false true P x y z p q r = q refl
pick false false P x y z p q r = r refl

stays : (P : Text → Type 0) → ((s : Text) → Plain s → P s → P s) → (stay segments : List Text) → Each P stay → Each P segments → Each P (fold with_segment stay segments)
stays P keep stay [] p q = p
stays P keep stay (s ∷ segments) p q =
    stays P keep (with_segment stay s) segments
    (pick (is_dot s) (is_dots s) (Each P) stay (but_last stay) (stay ++ s ∷ []) (λ e. p) (λ e. each_take P _ stay p) (λ e. each_append P stay (s ∷ []) p (q.0, tt))) q.1

plain_stays : (stay segments : List Text) → Each Plain stay → Each Plain (fold with_segment stay segments)
plain_stays stay [] p = p
plain_stays stay (s ∷ segments) p =
    plain_stays (with_segment stay s) segments
    (pick (is_dot s) (is_dots s) (Each Plain) stay (but_last stay) (stay ++ s ∷ []) (λ e. p) (λ e. each_take Plain _ stay p) (λ e. each_append Plain stay (s ∷ []) p (e, tt)))

choice_holds : (b : Bool) (P : List Text → Type 0) (x y : List Text) → P x → P y → P (if b then x else y)
choice_holds true P x y p q = p
choice_holds false P x y p q = q

left_holds : (P : Text → Type 0) → P [] → (segments : List Text) → Each P (left_behind segments)
left_holds P empty [] = tt
left_holds P empty (s ∷ []) = choice_holds (is_dot s || is_dots s) (Each P) ([] ∷ []) [] (empty, tt) tt
left_holds P empty (s ∷ t ∷ segments) = left_holds P empty (t ∷ segments)

-- segments without dots stay
same_segment : (stay : List Text) (s : Text) → Plain s → with_segment stay s ≡ stay ++ s ∷ []
same_segment stay s is =
    let n = neither (is_dot s) (is_dots s) is in rw (n.0, n.1) refl

same_segments : (stay segments : List Text) → Each Plain segments → fold with_segment stay segments ≡ stay ++ segments
same_segments stay [] p = sym (append-nil stay)
same_segments stay (s ∷ segments) p =
    same_segments (with_segment stay s) segments p.1
    ∙ ap (λ k. k ++ segments) (same_segment stay s p.0) ∙ append_assoc stay (s ∷ []) segments

nothing_left : (segments : List Text) → Each Plain segments → left_behind segments ≡ []
nothing_left [] p = refl
nothing_left (s ∷ []) p = rw p.0 refl
nothing_left (s ∷ t ∷ segments) p = nothing_left (t ∷ segments) p.1

same_resolved : (segments : List Text) → Each Plain segments → resolved_segments segments ≡ segments
same_resolved segments p =
    ap (λ k. fold with_segment [] segments ++ k) (nothing_left segments p)
    ∙ append-nil (fold with_segment [] segments) ∙ same_segments [] segments p

-- some segment is left
abbrev Some_left : List Text → Type 0
Some_left [] = ⊥
Some_left (s ∷ ss) = Unit {0}

behind : (a b : List Text) → Some_left b → Some_left (a ++ b)
behind [] b p = p
behind (s ∷ a) b p = tt

before_it : (a b : List Text) → Some_left a → Some_left (a ++ b)
before_it [] b p = absurd p
before_it (s ∷ a) b p = tt

one_left : (a b : Bool) (stay : List Text) (s : Text) → Some_left ((if a then stay else (if b then but_last stay else stay ++ s ∷ [])) ++ (if a || b then [] ∷ [] else []))
one_left true b stay s = behind stay ([] ∷ []) tt
one_left false true stay s = behind (but_last stay) ([] ∷ []) tt
one_left false false stay s = before_it (stay ++ s ∷ []) [] (behind stay (s ∷ []) tt)

some_left : (stay : List Text) (s : Text) (segments : List Text) → Some_left (fold with_segment stay (s ∷ segments) ++ left_behind (s ∷ segments))
some_left stay s [] = one_left (is_dot s) (is_dots s) stay s
some_left stay s (t ∷ segments) = some_left (with_segment stay s) t segments

cut_some : (x : Bool) (b : ℕ) (pieces : List Text) → Some_left (add_byte x b pieces)
cut_some true b pieces = tt
cut_some false b [] = tt
cut_some false b (s ∷ pieces) = tt

resolved_some : (segments : List Text) → Some_left segments → Some_left (resolved_segments segments)
resolved_some [] p = absurd p
resolved_some (s ∷ segments) p = some_left [] s segments

cut_some_at : (t : Text) → Some_left (cut_at slash t)
cut_some_at [] = tt
cut_some_at (b ∷ t) = cut_some (b == slash) b (cut_at slash t)

segments_smooth : (segments : List Text) → Each Smooth segments → Each Smooth (resolved_segments segments)
segments_smooth segments p =
    each_append Smooth (fold with_segment [] segments) (left_behind segments) (stays Smooth (λ s a b. b) [] segments tt p) (left_holds Smooth refl segments)

segments_plain : (segments : List Text) → Each Plain (resolved_segments segments)
segments_plain segments =
    each_append Plain (fold with_segment [] segments) (left_behind segments) (plain_stays [] segments tt) (left_holds Plain refl segments)

cut_joined : (segments : List Text) → Some_left segments → Each Smooth segments → cut_at slash (join_with_byte slash segments) ≡ segments
cut_joined [] some p = absurd some
cut_joined (s ∷ segments) some p = cut_join s segments p

-- the segments of a resolved path are those that stay
pub segments_stay : (path : Text) → cut_at slash (resolved_relative path) ≡ resolved_segments (cut_at slash path)
segments_stay path =
    let cut = cut_at slash path in
    cut_joined (resolved_segments cut) (resolved_some cut (cut_some_at path)) (segments_smooth cut (cut_smooth path))

-- and none of them is `.` or `..`
pub no_dots : (path : Text) → Each Plain (cut_at slash (resolved_relative path))
no_dots path = subst (Each Plain) (sym (segments_stay path)) (segments_plain (cut_at slash path))

twice : (path : Text) → resolved_relative (resolved_relative path) ≡ resolved_relative path
twice path =
    ap (λ k. join_with_byte slash k)
    (same_resolved (cut_at slash (resolved_relative path)) (no_dots path) ∙ segments_stay path)

-- PATHS WITH A LEADING SLASH

same_number : (a b : ℕ) → (a == b) ≡ true → a ≡ b
same_number a b is = grind (arith, nat_tests)

join_byte : (x : Bool) (b : ℕ) (pieces : List Text) → (b == slash) ≡ x → Some_left pieces →
    join_with_byte slash (add_byte x b pieces) ≡ b ∷ join_with_byte slash pieces
join_byte x b [] is some = absurd some
join_byte true b (s ∷ pieces) is some = ap (λ k. k ∷ join_with_byte slash (s ∷ pieces)) (sym (same_number b slash is))
join_byte false b (s ∷ []) is some = refl
join_byte false b (s ∷ t ∷ pieces) is some = refl

join_cut : (t : Text) → join_with_byte slash (cut_at slash t) ≡ t
join_cut [] = refl
join_cut (b ∷ t) = join_byte (b == slash) b (cut_at slash t) refl (cut_some_at t) ∙ ap (λ k. b ∷ k) (join_cut t)

plain_same : (t : Text) → Each Plain (cut_at slash t) → resolved_relative t ≡ t
plain_same t p = ap (λ k. join_with_byte slash k) (same_resolved (cut_at slash t) p) ∙ join_cut t

behind_slash : (r : Text) → resolved (slash ∷ r) ≡ slash ∷ resolved_relative r
behind_slash r = refl

other_byte : (b : ℕ) → (b == slash) ≡ false → nat_eq slash b ≡ false
other_byte b is = grind (arith, nat_tests)

without_slash : (b : ℕ) (t : Text) → (b == slash) ≡ false → resolved (b ∷ t) ≡ resolved_relative (b ∷ t)
without_slash b t is =
    let e : begins_with (codes "/") (b ∷ t) ≡ false = ap (λ k. k && true) (other_byte b is) in rw e refl

at_byte : (y : Bool) (b : ℕ) (t : Text) → (b == slash) ≡ y → Each Plain (add_byte y b (cut_at slash t)) → resolved (b ∷ t) ≡ b ∷ t
at_byte true b t is p =
    let e = same_number b slash is in
    ap (λ k. resolved (k ∷ t)) e ∙ behind_slash t ∙ ap (λ k. slash ∷ k) (plain_same t p.1) ∙ ap (λ k. k ∷ t) (sym e)
at_byte false b t is p =
    without_slash b t is ∙ plain_same (b ∷ t) (subst (λ (y : Bool). Each Plain (add_byte y b (cut_at slash t))) (sym is) p)

pub plain_resolved : (t : Text) → Each Plain (cut_at slash t) → resolved t ≡ t
plain_resolved [] p = refl
plain_resolved (b ∷ t) p = at_byte (b == slash) b t refl p

again : (x : Bool) (path : Text) → begins_with (codes "/") path ≡ x → resolved (resolved path) ≡ resolved path
again true path is =
    let e : resolved path ≡ slash ∷ resolved_relative (drop 1 path) = rw is refl in
    ap resolved e ∙ ap (λ k. slash ∷ k) (twice (drop 1 path)) ∙ sym e
again false path is =
    let e : resolved path ≡ resolved_relative path = rw is refl in
    ap resolved e ∙ plain_resolved (resolved_relative path) (no_dots path) ∙ sym e

pub resolved_twice : ResolvedTwice
resolved_twice path = again (begins_with (codes "/") path) path refl
