-- Statements, construct by construct.
use Rattle.std.proofs.Common.{◌≡◌, ◌≢◌, ℕ, Bool, true, false, if◌then◌else◌, List, [], ◌∷◌, Option, Some, None, refl, ap, ◌∙◌}
use Rattle.tow_model.specs.declared.record.Record.{Record}
use Rattle.tow_model.specs.declared.request.Request.{Request}
use Rattle.tow_model.specs.declared.action.Action.{Action}
use Rattle.tow_model.specs.declared.predicate.Predicate.{Predicate}
use Rattle.tow_model.specs.declared.statement.Statement.{Statement}
use Rattle.tow_model.specs.declared.statement.Statement.TheVariants as st
use Rattle.tow_semantics.specs.Plans.{Stand, after_step, tested}
use Rattle.tow_semantics.specs.Predicates.{Held, holds_of}
use Rattle.tow_semantics.specs.Sites.{given}
use Rattle.tow_semantics.specs.Walk.{Notes, Answer, and_then, walk_other, walk_one, walk}
use Rattle.tow_semantics.proofs.Equations.{walk_when, walk_when_else, walk_act, walk_block}
use Rattle.tow_site.specs.declared.walk.Walked.{Walked}
use Rattle.tow_site.specs.declared.walk.Walked.TheVariants.{Next, Stopped, ToDefault, Restarted}
use Rattle.tow_site.specs.Walking.{at, Acts, Walks, WalksAll}

module _ (q : Request) (m : ℕ) where
  -- the predicate holds of the record x or not, and leaves it as y
  abbrev pub Leaves : Predicate → Record → Bool → Record → Type 0
  Leaves t x b y = holds_of t q x m ≡ record { holds = b; state = y }

  pub walks_act : (a : Action) (x : Record) (end : Walked) (y : Record) → Acts q m a x end y → Walks q m (st.Act a) x end y
  walks_act a x end y h = record {
    is = λ files content b n.
        let r = h.is files content b n in (r.0, walk_act (given files q m content) a (at x b) n ∙ r.1);
  }

  pub walks_block : (ts : List Statement) (x : Record) (end : Walked) (y : Record) → WalksAll q m ts x end y → Walks q m (st.Block ts) x end y
  walks_block ts x end y h = record {
    is = λ files content b n.
        let r = h.is files content b n in (r.0, walk_block (given files q m content) ts (at x b) n ∙ r.1);
  }

  -- where a predicate's answer leads
  abbrev led : (Stand → Notes → Answer) → (Stand → Notes → Answer) → Stand → Notes → Held → Answer
  led first second s n h = (if h.holds then first else second) (tested h.state s) n

  pub walks_then : (t : Predicate) (a : Statement) (other : Option Statement) (x y : Record) (end : Walked) (z : Record) →
      Leaves t x true y → Walks q m a y end z → Walks q m (st.When t a other) x end z
  walks_then t a None x y end z h w = record {
    is = λ files content b n.
        let r = w.is files content (after_step b) n in
        (r.0, walk_when (given files q m content) t a (at x b) n ∙ ap (led (walk_one (given files q m content) a) (walk_other None) (at x b) n) h ∙ r.1);
  }
  walks_then t a (Some o) x y end z h w = record {
    is = λ files content b n.
        let r = w.is files content (after_step b) n in (
          r.0,
          walk_when_else (given files q m content) t a o (at x b) n
              ∙ ap (led (walk_one (given files q m content) a) (walk_one (given files q m content) o) (at x b) n) h ∙ r.1,
        );
  }

  pub walks_else : (t : Predicate) (a o : Statement) (x y : Record) (end : Walked) (z : Record) →
      Leaves t x false y → Walks q m o y end z → Walks q m (st.When t a (Some o)) x end z
  walks_else t a o x y end z h w = record {
    is = λ files content b n.
        let r = w.is files content (after_step b) n in (
          r.0,
          walk_when_else (given files q m content) t a o (at x b) n
              ∙ ap (led (walk_one (given files q m content) a) (walk_one (given files q m content) o) (at x b) n) h ∙ r.1,
        );
  }

  pub walks_on : (t : Predicate) (a : Statement) (x y : Record) → Leaves t x false y → Walks q m (st.When t a None) x Next y
  walks_on t a x y h = record {
    is = λ files content b n.
        (after_step b, walk_when (given files q m content) t a (at x b) n ∙ ap (led (walk_one (given files q m content) a) (walk_other None) (at x b) n) h);
  }

  pub walks_none : (x : Record) → WalksAll q m [] x Next x
  walks_none x = record { is = λ files content b n. (b, refl) }

  pub walks_next : (t : Statement) (ts : List Statement) (x y : Record) (end : Walked) (z : Record) →
      Walks q m t x Next y → WalksAll q m ts y end z → WalksAll q m (t ∷ ts) x end z
  walks_next t ts x y end z w v = record {
    is = λ files content b n.
        let r = w.is files content b n in
        let k = v.is files content r.0 n in
        (k.0, ap (λ (a : Answer). and_then a (walk (given files q m content) ts)) r.1 ∙ k.1);
  }

  pub walks_end : (t : Statement) (ts : List Statement) (x : Record) (end : Walked) (y : Record) →
      end ≢ Next → Walks q m t x end y → WalksAll q m (t ∷ ts) x end y
  walks_end t ts x Next y other w = absurd (other refl)
  walks_end t ts x Stopped y other w = record {
    is = λ files content b n.
        let r = w.is files content b n in (r.0, ap (λ (a : Answer). and_then a (walk (given files q m content) ts)) r.1);
  }
  walks_end t ts x ToDefault y other w = record {
    is = λ files content b n.
        let r = w.is files content b n in (r.0, ap (λ (a : Answer). and_then a (walk (given files q m content) ts)) r.1);
  }
  walks_end t ts x Restarted y other w = record {
    is = λ files content b n.
        let r = w.is files content b n in (r.0, ap (λ (a : Answer). and_then a (walk (given files q m content) ts)) r.1);
  }
