-- Whatever is played, entries are only added.
use Rattle.std.proofs.Common.{◌≡◌, ℕ, zero, suc, Bool, true, false, List, [], ◌∷◌, ◌++◌, map, drop, if◌then◌else◌, Option, Some, None, refl, sym, ap, subst, ◌∙◌, append-nil, append_assoc}
use Rattle.tow_model.specs.declared.request.Request.{Request}
use Rattle.tow_model.specs.declared.record.Record.{Record}
use Rattle.tow_model.specs.declared.record.Listener.{Listener}
use Rattle.tow_model.specs.declared.record.Listener.TheVariants.{Log}
use Rattle.tow_model.specs.declared.account.Verdict.{Verdict}
use Rattle.tow_model.specs.declared.account.Verdict.TheVariants.{Admitted, Refused}
use Rattle.tow_model.specs.declared.content.Content.{Content}
use Rattle.tow_model.specs.declared.content.Content.TheVariants.{Whole, Bad, TooLong}
use Rattle.tow_model.specs.declared.action.Action.{Action}
use Rattle.tow_model.specs.Lists.{IsPrefix}
use Rattle.tow_semantics.specs.Predicates.{held, test_of}
use Rattle.tow_semantics.specs.Steps.{Step, Go, Stop, answered, on_verdict, on_content}
use Rattle.tow_semantics.specs.Effects.{Effect, Takes, Asks, ReadsContent, LooksUp, BeginsAgain, GoesToDefault, effect_of}
use Rattle.tow_semantics.specs.Pages.{Found, Serve, Redirect, Listing, Forbidden, NotModified, NotFound, BadMethod, found_page, on_found}
use Rattle.tow_semantics.specs.Plans.{Stand, Plan, Over, AwaitVerdict, AwaitContent, AwaitPage, Way, Exits, moved, marked, tested, take_step, act, default_way, over, without_context}
use Rattle.tow_semantics.specs.Walk.{Given, Notes, entered}
use Rattle.tow_semantics.specs.Runs.{Entry, Walked}
use Rattle.tow_semantics.specs.Outcome.{played}
use Rattle.tow_exchange.specs.Exchanges.{ExchangeData}
use Rattle.tow_exchange.specs.declared.phase.Phase.{Phase}
use Rattle.tow_exchange.specs.declared.phase.Phase.TheVariants as phase
use Rattle.tow_exchange.specs.declared.place.Place.{Place}
use Rattle.tow_exchange.specs.declared.place.Place.TheVariants.{InText, AtDefault}
use Rattle.tow_program.specs.declared.instruction.Instruction.{Instruction}
use Rattle.tow_program.specs.declared.instruction.Instruction.TheVariants.{Ask, Do, Skip}
use Rattle.tow_program.specs.Runs.{run, exits_in, way_in}
use Rattle.tow_advance.specs.Moves.{AddsLogs}
use Rattle.tow_advance.specs.Under.{way_at, given_at, plan_at, plan_in}
use Rattle.tow_advance.proofs.Adding.{EffectAdds, StepAdds, effect_adds, held_same}

-- FRONTS

pub whole_front : {X : Type 0} (xs : List X) → IsPrefix xs xs
whole_front xs = ([], sym (append-nil xs))

pub front_of_front : {X : Type 0} (xs ys zs : List X) → IsPrefix xs ys → IsPrefix ys zs → IsPrefix xs zs
front_of_front {X} xs ys zs first second = (
  first.0 ++ second.0,
  second.1 ∙ ap (λ (l : List X). l ++ second.0) first.1 ∙ append_assoc xs first.0 second.0,
)

longer : (xs : List Entry) (entry : Entry) → IsPrefix xs (xs ++ entry ∷ [])
longer xs entry = (entry ∷ [], refl)

-- ENTRIES

abbrev Enters : Given → Plan → Type 0
Enters g plan = (n : Notes) → IsPrefix n.entries (played g plan n).outcome.entries

enters_verdict : (g : Given) (limit : ℕ) (s : Stand) (go : Verdict → Plan) → ((v : Verdict) → Enters g (go v))
    → (n : Notes) (vs : List Verdict) → IsPrefix n.entries (played g (AwaitVerdict limit s go) (record n { left = vs })).outcome.entries
enters_verdict g limit s go enters n [] = whole_front n.entries
enters_verdict g limit s go enters n (v ∷ vs) =
    let after = entered limit v vs n in
    front_of_front n.entries after.entries (played g (go v) after).outcome.entries (longer n.entries _) (enters v after)

enters_content : (g : Given) (s : Stand) (go : Content → Plan) (content : Option Content)
    → ((c : Content) → Enters (record g { content = content }) (go c)) → Enters (record g { content = content }) (AwaitContent s go)
enters_content g s go None enters n = whole_front n.entries
enters_content g s go (Some c) enters n = enters c (record n { asked = true })

pub play_enters : (g : Given) (plan : Plan) → Enters g plan
play_enters g (Over s) n = whole_front n.entries
play_enters g (AwaitVerdict limit s go) n = enters_verdict g limit s go (λ v. play_enters g (go v)) n n.left
play_enters g (AwaitContent s go) n = enters_content g s go g.content (λ c. play_enters g (go c)) n
play_enters g (AwaitPage location listing s go) n =
    play_enters g (go (found_page g.files location listing g.request s.state)) (record n { looked = true })
