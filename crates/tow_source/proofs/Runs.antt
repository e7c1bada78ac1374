-- Steps over bytes: one run after another, and the last step of a run.
use Rattle.std.proofs.Common.{◌≡◌, ℕ, ◌<◌, true, false, true≢false, List, [], ◌∷◌, ◌++◌, length, refl, sym, ap, ◌∙◌, subst, arith, append_assoc}
use Rattle.tow_source.specs.declared.chunked.ChunkedSource.{ChunkedSource}
use Rattle.tow_source.specs.Places.{goes_on, given_at}
use Rattle.tow_source.specs.ChunkedReading.{step_of, Runs, given_by}

pub runs_append : (s m e : ChunkedSource) (a b : List ℕ) → Runs s a m → Runs m b e → Runs s (a ++ b) e
runs_append s m e [] b one two = subst (λ (x : ChunkedSource). Runs x b e) (sym one) two
runs_append s m e (x ∷ a) b one two = (one.0, runs_append (step_of s x) m e a b one.1 two)

pub runs_rest : (s m e : ChunkedSource) (a b : List ℕ) → Runs s a m → Runs s (a ++ b) e → Runs m b e
runs_rest s m e [] b one all = subst (λ (x : ChunkedSource). Runs x b e) one all
runs_rest s m e (x ∷ a) b one all = runs_rest (step_of s x) m e a b one.1 all.1

pub given_append : (s m : ChunkedSource) (a b : List ℕ) → Runs s a m → given_by s (a ++ b) ≡ given_by s a ++ given_by m b
given_append s m [] b one = ap (λ (x : ChunkedSource). given_by x b) one
given_append s m (x ∷ a) b one =
    ap (λ (l : List ℕ). given_at s.place x ++ l) (given_append (step_of s x) m a b one.1)
    ∙ sym (append_assoc (given_at s.place x) (given_by (step_of s x) a) (given_by m b))

-- where the content does not go on, nothing is taken
pub over_stays : (s e : ChunkedSource) (bytes : List ℕ) → goes_on s.place ≡ false → Runs s bytes e → (bytes ≡ []) × (s ≡ e)
over_stays s e [] over runs = (refl, runs)
over_stays s e (x ∷ bytes) over runs = absurd (true≢false (sym runs.0 ∙ over))

pub record LastStep (s : ChunkedSource) (bytes : List ℕ) (e : ChunkedSource) : Type 0 where
  pub before : List ℕ
  pub byte : ℕ
  pub place : ChunkedSource
  pub text : bytes ≡ before ++ byte ∷ []
  pub runs : Runs s before place
  pub going : goes_on place.place ≡ true
  pub step : step_of place byte ≡ e

pub last_step : (s e : ChunkedSource) (bytes : List ℕ) → Runs s bytes e → 0 < length bytes → LastStep s bytes e
last_step s e [] runs some = absurd (omega (arith, some))
last_step s e (x ∷ []) runs some = record { before = []; byte = x; place = s; text = refl; runs = refl; going = runs.0; step = runs.1 }
last_step s e (x ∷ y ∷ bytes) runs some =
    let l = last_step (step_of s x) e (y ∷ bytes) runs.1 (omega arith) in
    record {
      before = x ∷ l.before;
      byte = l.byte;
      place = l.place;
      text = ap (λ (t : List ℕ). x ∷ t) l.text;
      runs = (runs.0, l.runs);
      going = l.going;
      step = l.step;
    }
