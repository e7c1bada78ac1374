-- The bytes that came are looked at.
use Rattle.std.proofs.Common.{◌≡◌, ◌≤◌, ◌+◌, ℕ, true, List, [], length, drop, Option, refl, ap, subst, ◌∙◌, arith}
use Rattle.std.proofs.Math.Seq.{take-append_seam}
use Rattle.std.specs.List.{refill}
use Rattle.std.specs.Prelude.{IfSome}
use Rattle.circular_buffer.specs.Buffer.{Buffer, buffer}
use Rattle.tow_model.specs.declared.limits.TheConstants.{MAX_HEAD_LEN, PIPE_LEN}
use Rattle.tow_heads.specs.NextRequests.{GoesOnWith}
use Rattle.tow_heads.specs.declared.requests.NextRequest.{NextRequest}
use Rattle.tow_progress.specs.Progress.{Progress}
use Rattle.tow_states.specs.Known.{Setting}
use Rattle.tow_leads.specs.Ports.{IsPortOf}
use Rattle.tow_stages.specs.Stages.{Base, Stage, reading}
use Rattle.tow_turns.specs.Steps.{Leads}
use Rattle.tow_opening.specs.Heads.{LeadsAt}

-- with another pipe of input
abbrev pub with_input : Buffer ℕ → Base → Base
with_input input b = record b { port = record b.port { input = input } }

-- a pipe holds no more than the longest head has
pub few_bytes : (bytes : List ℕ) (pipe : Buffer ℕ) (room : ℕ) → bytes ≡ pipe.items → room + length pipe.items ≡ pipe.capacity
    → pipe.capacity ≡ PIPE_LEN → length bytes ≤ MAX_HEAD_LEN
few_bytes bytes pipe room same whole large =
    let count : length bytes ≡ length pipe.items = ap length same in
    let most : PIPE_LEN ≡ MAX_HEAD_LEN = refl in
    omega (arith, count, whole, large, most)

-- a pipe whose bytes were looked at is as it was
pub viewed : (pipe : Buffer ℕ) (bytes : List ℕ) → bytes ≡ pipe.items
    → buffer (refill (length pipe.items) pipe.items bytes) pipe.capacity ≡ pipe
viewed pipe bytes same =
    ap (λ (l : List ℕ). buffer (refill (length pipe.items) pipe.items l) pipe.capacity) same
    ∙ ap (λ (l : List ℕ). buffer l pipe.capacity) (take-append_seam pipe.items (drop (length pipe.items) pipe.items))

-- what is told of the bytes that came, and of all that may follow them, is so of the input
pub input_goes_on : (b : Base) (c : Progress) (peer : ℕ) (bytes : List ℕ) (next : NextRequest)
    → IfSome b.port.link.peer (λ p. peer ≡ p) → bytes ≡ b.port.input.items
    → ((left : List ℕ) → (b.port.ended ≡ true → left ≡ []) → GoesOnWith peer bytes left next) → IsPortOf b.port c
    → GoesOnWith c.peer b.port.input.items c.left next
input_goes_on b c peer bytes next known same reads port =
    let is : peer ≡ c.peer = subst (λ (x : Option ℕ). IfSome x (λ p. peer ≡ p)) port.peer known in
    subst (λ (k : ℕ). GoesOnWith k b.port.input.items c.left next) is
    (subst (λ (l : List ℕ). GoesOnWith peer l c.left next) same (reads c.left port.over))

pub leads_for : (s : Setting) (b new : Base) (after : Stage) (peer : ℕ) (bytes : List ℕ) (next : NextRequest)
    → IfSome b.port.link.peer (λ p. peer ≡ p) → bytes ≡ b.port.input.items
    → ((left : List ℕ) → (b.port.ended ≡ true → left ≡ []) → GoesOnWith peer bytes left next) → LeadsAt next s b new after
    → Leads s b new reading after
leads_for s b new after peer bytes next known same reads leads failed o c t h =
    leads failed o c t h (input_goes_on b c peer bytes next known same reads h.is_at.port)
