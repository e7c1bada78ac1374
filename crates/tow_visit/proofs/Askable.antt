-- Whether a path is UTF-8, as code tells it.
use Rattle.std.proofs.Common.{◌≡◌, Bool, true, false, refl, sym, Result, Ok, Err}
use Rattle.std.proofs.lemmas.Str.{IsUtf8-from_is_utf8, is_utf8-from_IsUtf8}
use Rattle.std.specs.Result.{MatchResult, is_ok}
use Rattle.std.specs.Str.{is_utf8, IsUtf8}
use Rattle.tow_model.specs.Texts.{Text}

-- a text is read as UTF-8 exactly if it is that
pub text_is : {S E : Type 0} (P : S → Type 0) (Q : E → Type 0) (path : Text) (r : Result S E) → MatchResult r (λ s. P s × IsUtf8 path) (λ e. (IsUtf8 path → ⊥) × Q e) → is_ok r ≡ is_utf8 path
text_is P Q path (Ok s) h = sym (is_utf8-from_IsUtf8 path h.1)
text_is P Q path (Err e) h = by (is_utf8 path) refl
  where
    by : (t : Bool) → is_utf8 path ≡ t → false ≡ t
    by true is = absurd (h.0 (IsUtf8-from_is_utf8 path is))
    by false is = refl
