-- Who has a slot, and the word that says so; the numbers of roles.
use Rattle.std.specs.Prelude.{ℕ, ◌+◌, ◌-◌, ◌*◌, ◌^◌, ◌==◌, cond}
use Rattle.tow_model.specs.declared.account.Role.{Role}
use Rattle.tow_model.specs.declared.account.Role.TheVariants as roles
use Rattle.tow_board.specs.declared.owner.To.{To}
use Rattle.tow_board.specs.declared.owner.To.TheVariants as waiting
use Rattle.tow_board.specs.declared.owner.Owner.{Owner}
use Rattle.tow_board.specs.declared.owner.Owner.TheVariants.{Free, Hand, Waiting}

abbrev pub code_of : To → ℕ
code_of waiting.Pool = 2
code_of waiting.Main = 3
code_of (waiting.Loop i) = 4 + i

-- for whom the value waits under a word of 2 or more
abbrev pub to_at : ℕ → To
to_at n = cond (n == 2) waiting.Pool (cond (n == 3) waiting.Main (waiting.Loop (n - 4)))

abbrev pub word_of : Owner → ℕ
word_of Free = 0
word_of Hand = 1
word_of (Waiting to) = code_of to

abbrev pub owner_at : ℕ → Owner
owner_at n = cond (n == 0) Free (cond (n == 1) Hand (Waiting (to_at n)))

-- no word is as large
abbrev pub code_end : ℕ
code_end = 4 + 2 ^ 32

-- what a role may claim
abbrev pub to_for : Role → To
to_for roles.Main = waiting.Main
to_for (roles.Loop i) = waiting.Loop i
to_for (roles.Worker i) = waiting.Pool

-- a number for each role; 0 stands for a seat that is spent
abbrev pub loop_number : ℕ → ℕ
loop_number i = 2 + 2 * i

abbrev pub worker_number : ℕ → ℕ
worker_number i = 3 + 2 * i

abbrev pub role_number : Role → ℕ
role_number roles.Main = 1
role_number (roles.Loop i) = loop_number i
role_number (roles.Worker i) = worker_number i
