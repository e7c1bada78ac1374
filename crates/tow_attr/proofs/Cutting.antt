-- Pieces that are written one after the other, up to a cut.
use Rattle.std.specs.Prelude.{◌≡◌, ℕ, ◌≤◌, List, ◌++◌, length, take}
use Rattle.std.proofs.Common.{sym, ◌∙◌, ap}
use Rattle.std.proofs.lemmas.List.{take-append-le}

-- nothing behind the cut is needed
pub cut_here : (most : ℕ) (out rest whole : List ℕ) → out ++ rest ≡ whole → most ≤ length out → take most out ≡ take most whole
cut_here most out rest whole so_far le = sym (take-append-le most out rest le) ∙ ap (take most) so_far
