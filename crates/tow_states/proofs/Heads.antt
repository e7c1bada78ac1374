-- Between requests: how a connection begins, and the answer to a head that is refused.
use Rattle.std.proofs.Common.{◌≡◌, ℕ, List, [], ◌++◌, refl, sym, ap, ◌∙◌, subst, append_assoc, arith}
use Rattle.tow_message.specs.Stream.{refused, ReadsStream}
use Rattle.tow_wire.specs.Answers.{refusal_text}
use Rattle.tow_progress.specs.Progress.{Progress}
use Rattle.tow_progress.specs.Steps.{with_piece}
use Rattle.tow_progress.proofs.Fronts.{opening_is}
use Rattle.tow_progress.proofs.AccountLemmas.{account_opens}
use Rattle.tow_progress.proofs.InsideLemmas.{inside_is_kept}
use Rattle.tow_states.specs.Known.{run_in, moment_of}
use Rattle.tow_states.specs.Reading.{ReadingBegins, RefusingBegins, RefusalIsPut}
use Rattle.tow_states.proofs.Knowing.{steps_keep, stands_on}

pub reading_begins : ReadingBegins
reading_begins s k peer input all = record {
  stands = record {
    origin = refl;
    wire = opening_is (run_in s) k peer input;
    account = account_opens s.tree (run_in s) k peer input all;
    few = omega arith;
  };
  current = refl;
  put = refl;
  own = refl;
  calls = refl;
  lines = refl;
  inside = inside_is_kept.opens 1;
}

-- nothing of the open request was taken
pub unfinished_is : (c : Progress) → c.current ≡ [] → c.current ++ (c.piped_in ++ c.left) ≡ c.piped_in ++ c.left
unfinished_is c none = ap (λ (l : List ℕ). l ++ (c.piped_in ++ c.left)) none

pub refusing_begins : RefusingBegins
refusing_begins s o c t is status head = record {
  stands = is.stands;
  head = subst (λ (l : List ℕ). ReadsStream c.peer l (refused status)) (sym (unfinished_is c is.current)) head;
  put = ap (λ (l : List ℕ). l ++ refusal_text status (moment_of s c)) is.put;
  calls = is.calls;
  lines = is.lines;
  inside = is.inside;
}

pub refusal_is_put : RefusalIsPut
refusal_is_put s o c t status to_put is piece rest cut =
    let put : (c.put ++ piece) ++ rest ≡ refusal_text status (moment_of s c) =
    append_assoc c.put piece rest ∙ ap (λ (l : List ℕ). c.put ++ l) (sym cut) ∙ is.put in
    record {
      stands = stands_on s o c (with_piece piece c) t is.stands
          ((steps_keep s o c t is.stands).refuses status piece is.head (rest, sym put)) refl refl refl;
      head = is.head;
      put = put;
      calls = is.calls;
      lines = is.lines;
      inside = is.inside;
    }
