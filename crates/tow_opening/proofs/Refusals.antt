-- A head is refused.
use Rattle.std.proofs.Common.{◌≡◌, ◌+◌, ◌-◌, ◌^◌, ℕ, min, List, sym, subst}
use Rattle.tow_heads.specs.declared.requests.NextRequest.TheVariants as next
use Rattle.tow_wire.specs.Answers.{refusal_text}
use Rattle.tow_states.specs.Known.{Setting}
use Rattle.tow_stages.specs.Stages.{Base, refusing}
use Rattle.tow_stages.specs.Holding.{Holds}
use Rattle.tow_stages.proofs.Heads.{readings_lead_on}
use Rattle.tow_turns.proofs.Cuts.{comes_to}
use Rattle.tow_opening.specs.Heads.{LeadsAt}
use Rattle.tow_opening.proofs.Moments.{counts_on, told_for_next}

pub refuses_at : (s : Setting) (b : Base) (status m number : ℕ) (text : List ℕ) → number ≡ min (b.begun + 1) (2 ^ 32 - 1)
    → m ≡ s.moments b.number number → text ≡ refusal_text status m → LeadsAt (next.Refuse status) s b b (refusing text)
refuses_at s b status m number text counted told is failed o c t h why =
    let begun = h.holds.0.begun in
    let on = counts_on number b.begun c.request counted begun h.holds.0.is.stands.few in
    let there = (readings_lead_on failed s o b c t h).refuses status why m (told_for_next s b c m number h.is_at.number begun on told) in
    comes_to failed s o b (refusing text) c t (subst (λ (l : List ℕ). Holds failed s o b (refusing l) c t) (sym is) there)
