-- From what `regex` says of a text to what its grammar reads.
use Rattle.std.proofs.Common.{◌≡◌, ◌≢◌, ◌⊎◌, inl, inr, ℕ, ◌≤◌, ◌<◌, List, Option, None, Some, IfSome, IsSomeAnd, arith}
use Rattle.std.specs.Str.{chars}
use Rattle.regex.specs.Patterns.{Refuses, Reads, Re}
use Rattle.regex_syntax.specs.Grammar.{read, Names}
use Rattle.regex_syntax.specs.Brackets.{Nested}
use Rattle.regex_syntax.specs.declared.error.ErrorKind.{ErrorKind}
use Rattle.regex_syntax.specs.declared.error.ErrorKind.TheVariants.{OutOfMemory, NestLimitExceeded}
use Rattle.tow_pattern.specs.Patterns.{over_bytes, IsGoodPattern}

-- what is read, and is not nested too deep, is not refused for its text
clash : {A : Type 0} (depth : A → ℕ) (found : Option A) (kind : ErrorKind) (limit : ℕ) (P Q R : A → Type 0) →
    (kind ≡ OutOfMemory) ⊎ ((found ≡ None) ⊎ ((kind ≡ NestLimitExceeded) × IfSome found (λ x. limit < depth x))) →
    kind ≢ OutOfMemory → IsSomeAnd found (λ x. (depth x ≤ limit) × P x × Q x × R x) → ⊥
clash depth None kind limit P Q R why known is = is
clash depth (Some x) kind limit P Q R (inl memory) known is = known memory
clash depth (Some x) kind limit P Q R (inr (inl none)) known is = cc
clash depth (Some x) kind limit P Q R (inr (inr deep)) known is = let far = deep.1 in let near = is.0 in omega (arith, far, near)

abbrev depth_of : Nested Re × Names → ℕ
depth_of found = found.0.depth

-- a text that is refused, and not for memory, is no pattern
pub refused_is_bad : (text : List ℕ) (kind : ErrorKind) → Refuses over_bytes text kind → kind ≢ OutOfMemory → IsGoodPattern text → ⊥
unfolding Refuses Reads
refused_is_bad text kind why known good = clash depth_of (read over_bytes (chars text)) kind _ _ _ _ why known good.1.2
