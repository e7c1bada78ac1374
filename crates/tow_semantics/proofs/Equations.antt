-- Predicates and walks, construct by construct.
use Rattle.std.proofs.Common.{◌≡◌, ℕ, List, [], ◌∷◌, Some, None, sym, ap, ◌∙◌}
use Rattle.tow_model.specs.declared.request.Request.{Request}
use Rattle.tow_model.specs.declared.record.Record.{Record}
use Rattle.tow_model.specs.declared.predicate.Test.{Test}
use Rattle.tow_model.specs.declared.predicate.Predicate.{Predicate, fold-Predicate, fold-roll-Predicate}
use Rattle.tow_model.specs.declared.predicate.Predicate.TheVariants as p
use Rattle.tow_model.specs.declared.predicate.Predicate.TheOpen as pf
use Rattle.tow_model.specs.declared.action.Action.{Action}
use Rattle.tow_model.specs.declared.statement.Statement.{Statement, fold-Statement, fold-roll-Statement}
use Rattle.tow_model.specs.declared.statement.Statement.TheVariants as st
use Rattle.tow_model.specs.declared.statement.Statement.TheOpen as sf
use Rattle.tow_semantics.specs.Predicates.{Held, held, test_of, holds_by, holds_of}
use Rattle.tow_semantics.specs.Effects.{effect_of}
use Rattle.tow_semantics.specs.Plans.{Stand, marked}
use Rattle.tow_semantics.specs.Listeners.{actions_by}
use Rattle.tow_semantics.specs.Walk.{Given, Notes, Answer, act_answer, walk_by, walk_one, walk}

pub holds_is : (t : Test) (q : Request) (x : Record) (m : ℕ) → holds_of (p.Is t) q x m ≡ held (test_of t q x m) x
holds_is t q x m = ap (λ (h : Record → Held). h x) (ap (fold-Predicate (Record → Held) (holds_by q m)) (sym (p.rolls-Is t)) ∙ fold-roll-Predicate (Record → Held) (holds_by q m) (pf.Is t))

pub walk_act : (g : Given) (a : Action) (s : Stand) (n : Notes) → walk_one g (st.Act a) s n ≡ act_answer g (effect_of a g.request s.state g.moment) s (marked a s) n
walk_act g a s n =
    ap (λ (w : Stand → Notes → Answer). w s n) (ap (walk_one g) (sym (st.rolls-Act a)) ∙ fold-roll-Statement (Stand → Notes → Answer) (walk_by g) (sf.Act a))

pub walk_when : (g : Given) (t : Predicate) (a : Statement) (s : Stand) (n : Notes) →
    walk_one g (st.When t a None) s n ≡ walk_by g (sf.When t (walk_one g a) None) s n
walk_when g t a s n =
    ap (λ (w : Stand → Notes → Answer). w s n) (ap (walk_one g) (sym (st.rolls-When t a None)) ∙ fold-roll-Statement (Stand → Notes → Answer) (walk_by g) (sf.When t a None))

pub walk_when_else : (g : Given) (t : Predicate) (a b : Statement) (s : Stand) (n : Notes) →
    walk_one g (st.When t a (Some b)) s n ≡ walk_by g (sf.When t (walk_one g a) (Some (walk_one g b))) s n
walk_when_else g t a b s n =
    ap (λ (w : Stand → Notes → Answer). w s n) (ap (walk_one g) (sym (st.rolls-When t a (Some b))) ∙ fold-roll-Statement (Stand → Notes → Answer) (walk_by g) (sf.When t a (Some b)))

pub walk_block : (g : Given) (ts : List Statement) (s : Stand) (n : Notes) → walk_one g (st.Block ts) s n ≡ walk g ts s n
walk_block g ts s n =
    ap (λ (w : Stand → Notes → Answer). w s n) (ap (walk_one g) (sym (st.rolls-Block ts)) ∙ fold-roll-Statement (Stand → Notes → Answer) (walk_by g) (sf.Block ts))

pub actions_act : (a : Action) → fold-Statement (List Action) actions_by (st.Act a) ≡ a ∷ []
actions_act a = ap (fold-Statement (List Action) actions_by) (sym (st.rolls-Act a)) ∙ fold-roll-Statement (List Action) actions_by (sf.Act a)
