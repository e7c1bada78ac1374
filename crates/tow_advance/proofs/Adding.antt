-- A step adds no listeners but those of logs, chooses no answer unless that is decided, and names no file.
use Rattle.std.proofs.Common.{◌≡◌, ℕ, zero, suc, Bool, true, false, List, [], ◌∷◌, ◌++◌, map, if◌then◌else◌, Option, Some, None, option_map, refl, sym, ap, subst, ◌∙◌, append-nil, append_assoc}
use Rattle.std.proofs.lemmas.List.{map-append}
use Rattle.tow_model.specs.declared.request.Field.{Field}
use Rattle.tow_model.specs.declared.request.Request.{Request}
use Rattle.tow_model.specs.declared.record.Record.{Record}
use Rattle.tow_model.specs.declared.record.Choice.{Choice}
use Rattle.tow_model.specs.declared.record.Choice.TheVariants.{Undecided, Empty}
use Rattle.tow_model.specs.declared.record.Listener.{Listener}
use Rattle.tow_model.specs.declared.record.Listener.TheVariants.{Log}
use Rattle.tow_model.specs.declared.action.Action.{Action}
use Rattle.tow_model.specs.declared.action.Action.TheVariants.{Set, Clear, Rewrite, Redirect, ResponseCode, Header, AllowedMethods, RequestLimit, Resource, Blocking, AccessLog, Echo, Restart, Done}
use Rattle.tow_model.specs.declared.action.Target.{Target}
use Rattle.tow_model.specs.declared.action.Target.TheVariants.{RelativePath, Query, Status, ResponseField, Context}
use Rattle.tow_model.specs.Texts.{Text}
use Rattle.tow_semantics.specs.Predicates.{held, test_of}
use Rattle.tow_semantics.specs.Steps.{Step, Go, Stop}
use Rattle.tow_semantics.specs.Writing.{assigned, cleared, or_unchanged, read_status, with_fields}
use Rattle.tow_semantics.specs.Effects.{Effect, Takes, Asks, ReadsContent, LooksUp, BeginsAgain, GoesToDefault, effect_of, not_allowed, with_header}
use Rattle.tow_semantics.specs.Values.{value_of}
use Rattle.tow_exchange.specs.Exchanges.{ExchangeData, after, begun_again}
use Rattle.tow_exchange.specs.declared.phase.Phase.TheVariants.{Running, Stopped}
use Rattle.tow_program.specs.declared.instruction.Instruction.{Instruction}
use Rattle.tow_program.specs.declared.instruction.Instruction.TheVariants.{Ask, Do, Skip}
use Rattle.tow_advance.specs.Moves.{acted, taken, AddsLogs, IsNoFile, IsUnchosen, NamesNoFile}

-- LISTENERS

adds_none : (listeners : List Listener) → AddsLogs listeners listeners
adds_none listeners = ([], sym (append-nil listeners))

pub adds_further : (a b c : List Listener) → AddsLogs a b → AddsLogs b c → AddsLogs a c
adds_further a b c first second = (
  first.0 ++ second.0,
  second.1 ∙ ap (λ (l : List Listener). l ++ map Log second.0) first.1 ∙ append_assoc a (map Log first.0) (map Log second.0)
      ∙ ap (λ (l : List Listener). a ++ l) (sym (map-append Log first.0 second.0)),
)

-- RECORDS

-- the second record has the listeners and the choice of the first one
pub record Same (x y : Record) : Type 0 where
  pub listeners : y.listeners ≡ x.listeners
  pub choice : y.choice ≡ x.choice

unchanged : (x : Record) → Same x x
unchanged x = record { listeners = refl; choice = refl }

as_status : (o : Option ℕ) (x : Record) → Same x (or_unchanged (option_map (λ n. record x { status = n }) o) x)
as_status None x = unchanged x
as_status (Some n) x = record { listeners = refl; choice = refl }

as_fields : (allowed : Bool) (fields : List Field) (x : Record) →
    Same x (or_unchanged (if allowed then Some (record x { fields = fields }) else None) x)
as_fields true fields x = record { listeners = refl; choice = refl }
as_fields false fields x = unchanged x

header_same : (value : Text) (fields : List Field) (x : Record) → Same x (or_unchanged (with_fields value fields x) x)
header_same value fields x = as_fields _ fields x

write_same : (target : Target) (value : Text) (x : Record) → Same x (or_unchanged (assigned target value x) x)
write_same RelativePath value x = record { listeners = refl; choice = refl }
write_same Query value x = record { listeners = refl; choice = refl }
write_same Status value x = as_status (read_status value) x
write_same (ResponseField name) value x = header_same value _ x
write_same (Context name) value x = record { listeners = refl; choice = refl }

cleared_same : (target : Target) (x : Record) → Same x (cleared target x)
cleared_same RelativePath x = record { listeners = refl; choice = refl }
cleared_same Query x = record { listeners = refl; choice = refl }
cleared_same Status x = record { listeners = refl; choice = refl }
cleared_same (ResponseField name) x = record { listeners = refl; choice = refl }
cleared_same (Context name) x = record { listeners = refl; choice = refl }

pub held_same : (bindings : Option (List Field)) (x : Record) → Same x (held bindings x).state
held_same None x = unchanged x
held_same (Some bindings) x = record { listeners = refl; choice = refl }

-- an answer without content names no file
pub empty_is_none : IsNoFile Empty
empty_is_none path len is = cc

pub same_is_none : (old new : Choice) → new ≡ old → IsNoFile old → IsNoFile new
same_is_none old new same none path len is = none path len (sym same ∙ is)

-- EFFECTS

-- what a step does to the record
abbrev pub StepAdds : Record → Step → Type 0
StepAdds x (Go y) = AddsLogs x.listeners y.listeners × (y.choice ≡ x.choice)
StepAdds x (Stop y) = AddsLogs x.listeners y.listeners × IsNoFile y.choice

abbrev pub EffectAdds : Record → Effect → Type 0
EffectAdds x (Takes step) = StepAdds x step
EffectAdds x other = Unit {0}

going : (x y : Record) → Same x y → StepAdds x (Go y)
going x y same = (([], same.listeners ∙ sym (append-nil x.listeners)), same.choice)

allowing : (allowed : Bool) (methods : List Text) (x : Record) → StepAdds x (if allowed then Go x else Stop (not_allowed methods x))
allowing true methods x = going x x (unchanged x)
allowing false methods x = (adds_none x.listeners, empty_is_none)

pub effect_adds : (a : Action) (q : Request) (x : Record) (m : ℕ) → EffectAdds x (effect_of a q x m)
effect_adds (Set target value) q x m = going x _ (write_same target (value_of value q x m) x)
effect_adds (Clear target) q x m = going x _ (cleared_same target x)
effect_adds (Rewrite value) q x m = going x _ (write_same RelativePath (value_of value q x m) x)
effect_adds (Redirect value) q x m = (adds_none x.listeners, empty_is_none)
effect_adds (ResponseCode status) q x m = (adds_none x.listeners, empty_is_none)
effect_adds (Header name value replace) q x m =
    let text = value_of value q x m in going x _ (header_same text (with_header replace name text x.fields) x)
effect_adds (AllowedMethods methods) q x m = allowing _ methods x
effect_adds (RequestLimit number most) q x m = tt
effect_adds (Resource location listing) q x m = tt
effect_adds Blocking q x m = going x x (unchanged x)
effect_adds (AccessLog number format) q x m = ((number ∷ [], refl), refl)
effect_adds Echo q x m = tt
effect_adds Restart q x m = tt
effect_adds Done q x m = tt

-- STEPS

-- listeners of logs alone were added, no answer is chosen unless that is decided, and no file is named
pub record Keeps (old new : ExchangeData) : Type 0 where
  pub adds : AddsLogs old.stand.state.listeners new.stand.state.listeners
  pub unchosen : IsUnchosen old → IsUnchosen new
  pub unfiled : NamesNoFile old → NamesNoFile new

module _ (e : ExchangeData) (is : e.phase ≡ Running) where
  -- it runs, so that it has chosen none
  chosen_none : IsUnchosen e → e.stand.state.choice ≡ Undecided
  chosen_none unchosen = unchosen (λ stopped. cc)

  kept : (new : ExchangeData) → Same e.stand.state new.stand.state → Keeps e new
  kept new same = record {
    adds = (([], same.listeners ∙ sym (append-nil e.stand.state.listeners)));
    unchosen = λ unchosen live. same.choice ∙ chosen_none unchosen;
    unfiled = same_is_none e.stand.state.choice new.stand.state.choice same.choice;
  }

begun_keeps : (left : ℕ) (e : ExchangeData) → e.phase ≡ Running → Keeps e (begun_again left e)
begun_keeps zero e is =
    record {
      adds = adds_none e.stand.state.listeners;
      unchosen = λ unchosen live. absurd (live refl);
      unfiled = λ none. empty_is_none;
    }
begun_keeps (suc left) e is = kept e is _ (record { listeners = refl; choice = refl })

acted_keeps : (a : Action) (effect : Effect) (next : ℕ) (e : ExchangeData) → e.phase ≡ Running → EffectAdds e.stand.state effect →
    Keeps e (acted a effect next e)
acted_keeps a (Takes (Go x)) next e is adds =
    record {
      adds = adds.0;
      unchosen = λ unchosen live. adds.1 ∙ chosen_none e is unchosen;
      unfiled = same_is_none e.stand.state.choice x.choice adds.1;
    }
acted_keeps a (Takes (Stop x)) next e is adds =
    record { adds = adds.0; unchosen = λ unchosen live. absurd (live refl); unfiled = λ none. adds.1 }
acted_keeps a (Asks limit) next e is adds = kept e is _ (unchanged e.stand.state)
acted_keeps a ReadsContent next e is adds = kept e is _ (unchanged e.stand.state)
acted_keeps a (LooksUp location listing) next e is adds = kept e is _ (unchanged e.stand.state)
acted_keeps a BeginsAgain next e is adds =
    let begun = begun_keeps e.restarts_left (after a e) is in record { adds = begun.adds; unchosen = begun.unchosen; unfiled = begun.unfiled }
acted_keeps a GoesToDefault next e is adds = kept e is _ (unchanged e.stand.state)

pub taken_keeps : (program : List Instruction) (o : Option Instruction) (at : ℕ) (e : ExchangeData) → e.phase ≡ Running →
    Keeps e (taken program o at e)
taken_keeps program None at e is = kept e is _ (unchanged e.stand.state)
taken_keeps program (Some (Ask test holds fails)) at e is =
    kept e is _ (held_same (test_of test e.request e.stand.state e.moment) e.stand.state)
taken_keeps program (Some (Do a)) at e is =
    acted_keeps a (effect_of a e.request e.stand.state e.moment) (suc at) e is (effect_adds a e.request e.stand.state e.moment)
taken_keeps program (Some (Skip k)) at e is = kept e is _ (unchanged e.stand.state)
