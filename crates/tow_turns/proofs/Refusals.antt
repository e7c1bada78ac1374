-- The answer to a head that is refused is put.
use Rattle.std.proofs.Common.{◌≡◌, ℕ, ◌+◌, ◌-◌, ◌<◌, min, List, [], ◌++◌, take, drop, length, Option, refl, sym, ap, subst, ◌∙◌, length-append, length-take, arith}
use Rattle.std.proofs.lemmas.List.{take-append-drop}
use Rattle.circular_buffer.specs.Buffer.{Buffer, buffer}
use Rattle.tow_model.specs.declared.account.Role.{Role}
use Rattle.tow_model.specs.declared.limits.TheConstants.{PIPE_LEN}
use Rattle.tow_model.specs.declared.statement.Statement.{Statement}
use Rattle.tow_semantics.specs.Files.{Files}
use Rattle.tow_progress.specs.Steps.{with_piece}
use Rattle.tow_states.specs.Known.{Setting}
use Rattle.tow_model.specs.declared.account.End.TheVariants.{Done}
use Rattle.tow_stages.specs.Stages.{Base, ended, refusing}
use Rattle.tow_stages.specs.Holding.{Holds}
use Rattle.tow_stages.proofs.Heads.{refusals_lead_on}
use Rattle.tow_turns.specs.Nexts.{StepFits}
use Rattle.tow_turns.specs.Puttings.{with_output}
use Rattle.tow_turns.specs.Steps.{Leads}
use Rattle.tow_turns.specs.declared.stage.Then.TheVariants.{On, Write}
use Rattle.tow_turns.proofs.Fits.{goes_on, waits_for, write_goes_not_on, write_reads_not}

pub refusal_put : (s : Setting) (b : Base) (left rest : List ℕ) (count : ℕ) (output : Buffer ℕ)
    → output ≡ buffer (b.port.output.items ++ take count left) b.port.output.capacity → rest ≡ drop count left
    → Leads s b (with_output output b) (refusing left) (refusing rest)
refusal_put s b left rest count output put same failed o c t h =
    let split : left ≡ take count left ++ rest = sym (take-append-drop count left) ∙ ap (λ (l : List ℕ). take count left ++ l) (sym same) in
    let after = (refusals_lead_on failed s o b left c t h).puts (take count left) rest split in
    record {
      progress = with_piece (take count left) c;
      tally = t;
      holds = subst (λ (out : Buffer ℕ). Holds failed s o (with_output out b) (refusing rest) (with_piece (take count left) c) t) (sym put) after;
      same_lines = refl;
    }

pub refusal_is_done : (s : Setting) (b : Base) (left : List ℕ) → left ≡ [] → b.port.output.items ≡ []
    → Leads s b b (refusing left) (ended Done)
refusal_is_done s b left none out failed o c t h =
    record { progress = c; tally = t; holds = (refusals_lead_on failed s o b left c t h).is_done none out; same_lines = refl }

-- ---- whatever the link tells

-- bytes are there to be written, if some were, or some were left to be put
pub some_to_write : (left items : List ℕ) (count capacity : ℕ) (output : Buffer ℕ) → output ≡ buffer (items ++ take count left) capacity
    → count ≡ min (length left) (capacity - length items) → capacity ≡ PIPE_LEN → 0 < length left + length items
    → 0 < length output.items
some_to_write left items count capacity output put most size some =
    let all : length output.items ≡ length items + length (take count left) =
    ap (λ (x : Buffer ℕ). length x.items) put ∙ length-append items (take count left) in
    let took : length (take count left) ≡ min count (length left) = length-take count left in
    omega (arith, all, took, most, size, some)

module _ (role : Role) (tree : List Statement) (told : Option Files) (n n' : ℕ) (b : Base) (left : List ℕ) where
  pub refusal_waits : (rest : List ℕ) (output : Buffer ℕ) → 0 < length output.items
      → StepFits role tree told n n' b (with_output output b) (refusing left) (refusing rest) Write
  refusal_waits rest output some =
      waits_for role tree told n n' b (with_output output b) (refusing left) (refusing rest) tt
      (record { link = refl; ended_so = refl; number = refl }) tt Write write_goes_not_on ((λ none. some), some, tt)
      (λ wrong. absurd (write_reads_not wrong)) refl

  pub refusal_ends : StepFits role tree told n n' b b (refusing left) (ended Done) On
  refusal_ends =
      goes_on role tree told n n' b b (refusing left) (ended Done) tt (record { link = refl; ended_so = refl; number = refl }) tt
      (omega arith) tt
