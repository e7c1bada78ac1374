-- The listeners of an exchange run one after the other.
use Rattle.std.proofs.Common.{◌≡◌, ℕ, Bool, true, false, true≢false, List, [], ◌∷◌, ◌++◌, filter_map, Option, Some, None, IsTrue, refl, sym, ap, ◌∙◌, subst, append_assoc}
use Rattle.tow_model.specs.declared.record.Listener.{Listener}
use Rattle.tow_model.specs.declared.record.Listener.TheVariants.{Leave, Log}
use Rattle.tow_model.specs.declared.account.Line.{Line}
use Rattle.tow_model.specs.Texts.{Text}
use Rattle.tow_semantics.specs.Listeners.{at_number, formats_of, leaving, line_by}
use Rattle.tow_semantics.specs.Values.{line_of}
use Rattle.tow_exchange.specs.Exchanges.{ExchangeData}
use Rattle.tow_exchange.specs.Completions.{CompletedData}
use Rattle.tow_closing.specs.Closings.{ClosingData, Does, Tells, line_told}
use Rattle.tow_closing.specs.declared.work.Work.TheVariants as work
use Rattle.tow_progress.specs.Progress.{Progress, Origin}
use Rattle.tow_progress.specs.Accounts.{Tally, called, released, stored, lost}
use Rattle.tow_progress.specs.Inside.{KeepsInside}
use Rattle.tow_progress.proofs.AccountLemmas.{account_is_kept}
use Rattle.tow_progress.proofs.InsideLemmas.{inside_is_kept}
use Rattle.tow_course.specs.Course.{Course}
use Rattle.tow_states.specs.Known.{Setting, run_in, moment_of}
use Rattle.tow_states.specs.Closing.{ClosingIsKept, IsClosing, Onward, Runs, content_in, cut_off, line_at, line_owed}
use Rattle.tow_states.proofs.Leavings.{request_stays_inside}
use Rattle.tow_states.proofs.Knowing.{grows}

-- ---- lists

no_first : {X : Type 0} (x : X) (xs : List X) → [] ≡ x ∷ xs → ⊥
no_first x xs is = cc

first_same : {X : Type 0} (x y : X) (xs ys : List X) → x ∷ xs ≡ y ∷ ys → x ≡ y
first_same x y xs ys is = cc

rest_same : {X : Type 0} (x y : X) (xs ys : List X) → x ∷ xs ≡ y ∷ ys → xs ≡ ys
rest_same x y xs ys is = cc

-- ---- one listener

module _ (s : Setting) (c : Progress) (t : Tally) (e : ExchangeData) (n : Course) (d : ClosingData) where
  abbrev its_text : Listener → Option Text
  its_text = line_told (formats_of s.tree) e.request e.stand.state (moment_of s c)

  abbrev owes : Listener → Option Line
  owes = line_by s.tree c.number c.request e.request e.stand.state (moment_of s c)

  -- the limit was left that was owed
  runs_released : (limit : ℕ) → Runs s c t e n d (Some limit) → Runs s c (called (released limit c) t) e n d None
  runs_released limit r = record {
    calls = append_assoc t.made (released limit c ∷ []) (filter_map (leaving c.request) d.completed.left) ∙ r.calls;
    told = r.told;
    inside = (request_stays_inside c.request t.calls).releases d limit r.inside;
    texts = r.texts;
    none = r.none;
  }

  -- the next listener is to leave a limit
  runs_leaving : (new : ClosingData) (limit : ℕ) → Runs s c t e n d None → Does (work.Leave limit) d new → new.lost ≡ d.lost
      → Runs s c t e n new (Some limit)
  runs_leaving new limit r does lost_same =
      let left : d.completed.left ≡ Leave limit ∷ new.completed.left = ap (λ (x : CompletedData). x.left) does.0 in
      record {
        calls = ap (λ (l : List Listener). t.made ++ filter_map (leaving c.request) l) (sym left) ∙ r.calls;
        told = ap (λ (l : List Listener). t.owed ++ filter_map owes l) (sym left) ∙ r.told;
        inside = (request_stays_inside c.request t.calls).next_leaves d new limit does r.inside;
        texts = λ kept. does.1 ∙ r.texts (sym lost_same ∙ kept) ∙ ap (filter_map its_text) left;
        none = λ gone. does.1 ∙ r.none (sym lost_same ∙ gone);
      }

  -- what is left to tell once the next listener has told its line
  record HasTold (new : ClosingData) (number : ℕ) : Type 0 where
    left : d.completed.left ≡ Log number ∷ new.completed.left
    texts : new.lost ≡ false → new.lines ≡ filter_map its_text new.completed.left
    none : new.lost ≡ true → new.lines ≡ []

  -- where there is a line, none was lost, and it is the one that is told
  a_line_kept : (r : Runs s c t e n d None) (text : Text) (rest : List Text) → d.lines ≡ text ∷ rest → (b : Bool) → d.lost ≡ b → d.lost ≡ false
  a_line_kept r text rest is false kept = kept
  a_line_kept r text rest is true gone = absurd (no_first text rest (sym (r.none gone) ∙ is))

  module _ (new : ClosingData) (number : ℕ) (r : Runs s c t e n d None) (lost_same : new.lost ≡ d.lost)
      (left : d.completed.left ≡ Log number ∷ new.completed.left) where
    abbrev owed_text : Text
    owed_text = line_of (at_number number (formats_of s.tree)) e.request e.stand.state (moment_of s c)

    its_lines : d.lost ≡ false → d.lines ≡ owed_text ∷ filter_map its_text new.completed.left
    its_lines kept = r.texts kept ∙ ap (filter_map its_text) left

    text_is : (text : Text) → d.lines ≡ text ∷ new.lines → text ≡ owed_text
    text_is text first =
        let kept = a_line_kept r text new.lines first d.lost refl in
        first_same text owed_text new.lines (filter_map its_text new.completed.left) (sym first ∙ its_lines kept)

    has_told : (text : Option Text) → Tells text d new → HasTold new number
    has_told None tells = record {
      left = left;
      texts = λ kept. absurd (tells.0 (sym lost_same ∙ kept));
      none = λ gone. tells.1 ∙ r.none (sym lost_same ∙ gone);
    }
    has_told (Some text) first =
        let kept = a_line_kept r text new.lines first d.lost refl in
        record {
          left = left;
          texts = λ still. rest_same text owed_text new.lines (filter_map its_text new.completed.left) (sym first ∙ its_lines kept);
          none = λ gone. absurd (true≢false (sym gone ∙ lost_same ∙ kept));
        }

  -- the line that was owed was stored, or lost
  runs_told : (new : ClosingData) (number : ℕ) → Runs s c t e n d None → HasTold new number
      → Runs s c (lost (line_owed s c e number) t) e n new None
  runs_told new number r told_so = record {
    calls = ap (λ (l : List Listener). t.made ++ filter_map (leaving c.request) l) (sym told_so.left) ∙ r.calls;
    told = append_assoc t.owed (line_owed s c e number ∷ []) (filter_map owes new.completed.left)
        ∙ ap (λ (l : List Listener). t.owed ++ filter_map owes l) (sym told_so.left) ∙ r.told;
    inside = inside_is_kept.tells_one c.request new.completed.left t.calls number
        (subst (λ (l : List Listener). KeepsInside c.request l t.calls) told_so.left r.inside);
    texts = told_so.texts;
    none = told_so.none;
  }

-- ---- the steps

module _ (s : Setting) (o : Origin) (c : Progress) (t : Tally) (e : ExchangeData) (n : Course) (onward : Onward) where
  leave_step : (d new : ClosingData) (limit : ℕ) → IsClosing s o c t e n d None onward
      → Does (work.Leave limit) d new → new.lost ≡ d.lost → IsClosing s o c t e n new (Some limit) onward
  leave_step d new limit is does lost_same = record {
    stands = is.stands;
    may_end = is.may_end;
    runs = runs_leaving s c t e n d new limit is.runs does lost_same;
    leads = is.leads;
  }

  release_step : (d : ClosingData) (limit : ℕ) → IsClosing s o c t e n d (Some limit) onward
      → IsClosing s o c (called (released limit c) t) e n d None onward
  release_step d limit is = record {
    stands = record {
      origin = is.stands.origin;
      wire = is.stands.wire;
      account = (account_is_kept s.tree (run_in s) (grows s) c t is.stands.account).leaves limit;
      few = is.stands.few;
    };
    may_end = is.may_end;
    runs = runs_released s c t e n d limit is.runs;
    leads = is.leads;
  }

  store_step : (d new : ClosingData) (number : ℕ) (text : Text) → IsClosing s o c t e n d None onward
      → Does (work.Tell number (Some text)) d new → new.lost ≡ d.lost → IsTrue t.all
      → IsClosing s o c (stored (line_at c number text) t) e n new None onward
  store_step d new number text is does lost_same all =
      let left : d.completed.left ≡ Log number ∷ new.completed.left = ap (λ (x : CompletedData). x.left) does.0 in
      let told_so = has_told s c t e n d new number is.runs lost_same left (Some text) does.1 in
      let r = runs_told s c t e n d new number is.runs told_so in
      let same = text_is s c t e n d new number is.runs lost_same left text does.1 in
      record {
        stands = record {
          origin = is.stands.origin;
          wire = is.stands.wire;
          account = (account_is_kept s.tree (run_in s) (grows s) c t is.stands.account).stores (line_at c number text) all;
          few = is.stands.few;
        };
        may_end = is.may_end;
        runs = record {
          calls = r.calls;
          told = ap (λ (x : Text). (t.owed ++ line_at c number x ∷ []) ++ filter_map (owes s c t e n d) new.completed.left) same ∙ r.told;
          inside = r.inside;
          texts = r.texts;
          none = r.none;
        };
        leads = is.leads;
      }

  lose_step : (d new : ClosingData) (number : ℕ) (text : Option Text) → IsClosing s o c t e n d None onward
      → Does (work.Tell number text) d new → new.lost ≡ d.lost
      → IsClosing s o c (lost (line_owed s c e number) t) e n new None onward
  lose_step d new number text is does lost_same =
      let left : d.completed.left ≡ Log number ∷ new.completed.left = ap (λ (x : CompletedData). x.left) does.0 in
      record {
        stands = record {
          origin = is.stands.origin;
          wire = is.stands.wire;
          account = (account_is_kept s.tree (run_in s) (grows s) c t is.stands.account).loses (line_owed s c e number);
          few = is.stands.few;
        };
        may_end = is.may_end;
        runs = runs_told s c t e n d new number is.runs (has_told s c t e n d new number is.runs lost_same left text does.1);
        leads = is.leads;
      }

  break_step : (d : ClosingData) (owed : Option ℕ) → IsClosing s o c t e n d owed onward
      → IsClosing s o c t e n d owed (cut_off (content_in onward))
  break_step d owed is = record { stands = is.stands; may_end = is.may_end; runs = is.runs; leads = tt }

pub closing_is_kept : ClosingIsKept
closing_is_kept s o c t e n onward = record {
  next_leaves = leave_step s o c t e n onward;
  releases = release_step s o c t e n onward;
  stores = store_step s o c t e n onward;
  loses = lose_step s o c t e n onward;
  breaks = break_step s o c t e n onward;
}
