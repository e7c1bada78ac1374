-- Codes, words and the numbers of roles.
use Rattle.std.proofs.Common.{◌≡◌, ◌≢◌, ℕ, ◌+◌, ◌-◌, ◌<◌, ◌≤◌, refl, sym, ap, eq-eqb, ne_eqb, arith}
use mathlib.Core.Logic.{dite}
use native.Mathlib.Decide.{ℕ_discrete}
use Rattle.tow_model.specs.declared.account.Role.{Role}
use Rattle.tow_model.specs.declared.account.Role.TheVariants as roles
use Rattle.tow_board.specs.declared.owner.To.{To}
use Rattle.tow_board.specs.declared.owner.To.TheVariants as waiting
use Rattle.tow_board.specs.declared.owner.Owner.{Owner}
use Rattle.tow_board.specs.declared.owner.Owner.TheVariants.{Free, Hand, Waiting}
use Rattle.tow_board.specs.Answers.{IfToLoop}
use Rattle.tow_board.specs.Owners.{code_of, to_at, word_of, owner_at, role_number}

pub two_or_more : (to : To) → 2 ≤ code_of to
two_or_more waiting.Pool = omega arith
two_or_more waiting.Main = omega arith
two_or_more (waiting.Loop i) = omega arith

pub at_loop : (i : ℕ) → to_at (4 + i) ≡ waiting.Loop i
at_loop i = rw (ne_eqb (4 + i) 2 (λ e. absurd (omega arith)), ne_eqb (4 + i) 3 (λ e. absurd (omega arith))) (let z : (4 + i) - 4 ≡ i = omega arith in ap (λ (n : ℕ). waiting.Loop n) z)

pub at_code : (to : To) → to_at (code_of to) ≡ to
at_code waiting.Pool = refl
at_code waiting.Main = refl
at_code (waiting.Loop i) = at_loop i

pub code_at : (n : ℕ) → 2 ≤ n → code_of (to_at n) ≡ n
code_at n le = dite (ℕ_discrete n 2) (λ e. rw (eq-eqb n 2 e) (sym e)) (λ p. dite (ℕ_discrete n 3)
    (λ e. rw (ne_eqb n 2 p, eq-eqb n 3 e) (sym e))
    (λ q. rw (ne_eqb n 2 p, ne_eqb n 3 q) (omega arith)))

pub at_word : (o : Owner) → owner_at (word_of o) ≡ o
at_word Free = refl
at_word Hand = refl
at_word (Waiting to) = let le = two_or_more to in rw (ne_eqb (code_of to) 0 (λ e. absurd (omega arith)), ne_eqb (code_of to) 1 (λ e. absurd (omega arith))) (ap (λ (t : To). Waiting t) (at_code to))

pub word_at : (n : ℕ) → word_of (owner_at n) ≡ n
word_at n = dite (ℕ_discrete n 0) (λ e. rw (eq-eqb n 0 e) (sym e)) (λ p. dite (ℕ_discrete n 1)
    (λ e. rw (ne_eqb n 0 p, eq-eqb n 1 e) (sym e))
    (λ q. rw (ne_eqb n 0 p, ne_eqb n 1 q) (code_at n (omega arith))))

pub role_real : (r : Role) → role_number r ≢ 0
role_real roles.Main e = absurd (cc)
role_real (roles.Loop i) e = absurd (omega arith)
role_real (roles.Worker i) e = absurd (omega arith)

pub one_role : (r q : Role) → role_number r ≡ role_number q → r ≡ q
one_role roles.Main roles.Main e = refl
one_role roles.Main (roles.Loop i) e = absurd (omega arith)
one_role roles.Main (roles.Worker i) e = absurd (omega arith)
one_role (roles.Loop i) roles.Main e = absurd (omega arith)
one_role (roles.Loop i) (roles.Loop j) e = let z : i ≡ j = omega arith in ap (λ (n : ℕ). roles.Loop n) z
one_role (roles.Loop i) (roles.Worker j) e = absurd (omega arith)
one_role (roles.Worker i) roles.Main e = absurd (omega arith)
one_role (roles.Worker i) (roles.Loop j) e = absurd (omega arith)
one_role (roles.Worker i) (roles.Worker j) e = let z : i ≡ j = omega arith in ap (λ (n : ℕ). roles.Worker n) z

pub two_up : (r : Role) → r ≢ roles.Main → 2 ≤ role_number r
two_up roles.Main n = absurd (n refl)
two_up (roles.Loop i) n = omega arith
two_up (roles.Worker i) n = omega arith

pub below_loops : (to : To) (n : ℕ) → IfToLoop to (λ i. i < n) → code_of to < 4 + n
below_loops waiting.Pool n below = omega arith
below_loops waiting.Main n below = omega arith
below_loops (waiting.Loop i) n below = let lt : i < n = below in omega arith
