-- What is a token.
use Rattle.std.specs.Prelude.{◌≡◌, ℕ, ◌<◌, Bool, true, false, ◌&&◌, List, length, nat_le, ◌↔◌, IsTrue}
use Rattle.std.specs.List.{list_all, All}
use Rattle.std.proofs.lemmas.List.Sums.{AllPass-from_list_all, list_all-from_AllPass}
use Rattle.std.proofs.Common.{refl, sym, ◌∙◌, ap₂, arith, rules}
use Rattle.http_header.specs.Token.{IsToken, is_token_byte, token_test}
use Rattle.tow_language.specs.Fit.{is_method}

tokens_pass : (bytes : List ℕ) → All (λ b. IsTrue (is_token_byte b)) bytes → list_all token_test bytes ≡ true
unfolding is_token_byte
tokens_pass bytes all = list_all-from_AllPass token_test bytes all

pass_tokens : (bytes : List ℕ) → list_all token_test bytes ≡ true → All (λ b. IsTrue (is_token_byte b)) bytes
unfolding is_token_byte
pass_tokens bytes e = AllPass-from_list_all token_test bytes e

and_true : (a b : Bool) → (a && b) ≡ true → (a ≡ true) × (b ≡ true)
and_true true true e = (refl, refl)
and_true true false e = absurd cc
and_true false b e = absurd cc

-- a test of tokens is that of methods
pub method_is : (text : List ℕ) (t : Bool) → (IsTrue t ↔ IsToken text) → t ≡ is_method text
method_is text t e = by_tests t (is_method text) refl e
  where
    by_tests : (t u : Bool) → is_method text ≡ u → (IsTrue t ↔ IsToken text) → t ≡ u
    by_tests true u f e =
        let token = e.0 refl in let some : nat_le 1 (length text) ≡ true = let lt = token.0 in search rules in
        sym (ap₂ (λ a b. a && b) some (tokens_pass text token.1)) ∙ f
    by_tests false true f e =
        let parts = and_true (nat_le 1 (length text)) (list_all token_test text) f in
        let some : 0 < length text = let le = parts.0 in grind arith in
        e.1 (some, pass_tokens text parts.1)
    by_tests false false f e = refl
