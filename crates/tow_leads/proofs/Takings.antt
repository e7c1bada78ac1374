-- What a gathering or a drain takes of a content is taken of the request.
use Rattle.std.proofs.Common.{◌≡◌, ℕ, List, ◌++◌, sym, subst, ◌∙◌}
use Rattle.circular_buffer.specs.Buffer.{Buffer}
use Rattle.tow_model.specs.declared.request.Framing.{Framing}
use Rattle.tow_model.specs.declared.content.Content.TheVariants as contents
use Rattle.tow_source.specs.Readings.{Reading, DrainTells, Takes}
use Rattle.tow_source.specs.declared.body.Drained.{Drained}
use Rattle.tow_source.specs.declared.body.Drained.TheVariants as drains
use Rattle.tow_content.specs.Gatherings.{GatherTells}
use Rattle.tow_content.specs.declared.gathering.Gathered.{Gathered}
use Rattle.tow_content.specs.declared.gathering.Gathered.TheVariants.{Content, NotYet, NoMemory}
use Rattle.tow_progress.specs.Progress.{Progress}
use Rattle.tow_progress.specs.Steps.{taken}
use Rattle.tow_states.specs.Gathering.{IsGathering}
use Rattle.tow_states.specs.Sending.{IsSending}
use Rattle.tow_states.proofs.Answers.{answer_is_sent}
use Rattle.tow_states.proofs.Gathers.{content_is_taken}
use Rattle.tow_leads.specs.Taken.{DrainedIs, DrainsLeadOn, GatheredIs, GatheringsLeadOn}

-- what the answers say is what is to be shown of the content
gathered : (answer : Gathered) (piped : Buffer ℕ) (r : Reading) → GatherTells answer piped r
    → GatheredIs answer r.framing r.taken piped.items
gathered (Content (contents.Whole bytes)) piped r tells = tells
gathered (Content contents.TooLong) piped r tells = tells
gathered (Content contents.Bad) piped r tells = tells.0
gathered NotYet piped r tells = tells
gathered NoMemory piped r tells = tt

drained : (answer : Drained) (piped : Buffer ℕ) (r : Reading) → DrainTells answer piped r
    → DrainedIs answer r.framing r.taken r.given piped.items
drained drains.Whole piped r tells = tells
drained drains.Bad piped r tells = tells.0
drained drains.TooLong piped r tells = tells
drained drains.NotYet piped r tells = tells

-- the pipe had what was taken first
split_so : (took : List ℕ) (piped piped' : Buffer ℕ) (old new : Reading) (c : Progress) → Takes took piped piped' old new
    → piped.items ≡ c.piped_in → c.piped_in ≡ took ++ piped'.items
split_so took piped piped' old new c takes same = sym same ∙ takes.from_pipe

pub gatherings_lead_on : GatheringsLeadOn
gatherings_lead_on s o c t e n old new is framing answer piped piped' same g =
    let cut = split_so g.took piped piped' old new c g.takes same in
    let framed : new.framing ≡ e.request.framing = g.takes.framing ∙ framing in
    record {
      is = subst (λ (l : List ℕ). IsGathering s o (taken g.took piped'.items c) t e n l) (sym g.takes.taken)
          (content_is_taken s o c t e n old.taken is g.took piped'.items cut);
      framing = framed;
      tells = subst (λ (f : Framing). GatheredIs answer f new.taken piped'.items) framed (gathered answer piped' new g.tells);
    }

pub drains_lead_on : DrainsLeadOn
drains_lead_on s o c t e n to_put old new is none framing answer piped piped' same d =
    let cut = split_so d.took piped piped' old new c d.takes same in
    let framed : new.framing ≡ e.request.framing = d.takes.framing ∙ framing in
    record {
      is = subst (λ (l : List ℕ). IsSending s o (taken d.took piped'.items c) t e n l to_put) (sym d.takes.taken)
          ((answer_is_sent s o c t e n old.taken to_put is).drops none d.took piped'.items cut);
      framing = framed;
      tells = subst (λ (f : Framing). DrainedIs answer f new.taken new.given piped'.items) framed (drained answer piped' new d.tells);
    }
