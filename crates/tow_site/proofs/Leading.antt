-- The walks over a text with their restarts.
use Rattle.std.proofs.Common.{◌≡◌, ℕ, zero, suc, List, [], refl, ap, ◌∙◌}
use Rattle.tow_model.specs.declared.record.Record.{Record}
use Rattle.tow_model.specs.declared.request.Request.{Request}
use Rattle.tow_model.specs.declared.statement.Statement.{Statement}
use Rattle.tow_semantics.specs.Steps.{answered}
use Rattle.tow_semantics.specs.Sites.{given}
use Rattle.tow_semantics.specs.Plans.{Stand, moved, without_context}
use Rattle.tow_semantics.specs.Walk.{Given, Notes, walk}
use Rattle.tow_semantics.specs.Runs as runs
use Rattle.tow_semantics.specs.Outcome.{decided, after_walk, walks}
use Rattle.tow_site.specs.declared.outcomes.Answerer.TheVariants.{Text, DefaultHandler}
use Rattle.tow_site.specs.declared.outcomes.Answerer.{Answerer}
use Rattle.tow_site.specs.declared.walk.Walked.TheVariants.{Next, Stopped, ToDefault, Restarted}
use Rattle.tow_site.specs.Walking.{at, WalksAll, Leads}

-- what a restart leads to
abbrev again_of : List Statement → ℕ → Given → Stand → Notes → runs.Walked
again_of tree zero g t k = decided (moved (answered 500 t.state) t) k
again_of tree (suc left) g t k = walks g tree left (without_context t) k

walks_is : (tree : List Statement) (left : ℕ) (g : Given) (s : Stand) (n : Notes) →
    walks g tree left s n ≡ after_walk g (again_of tree left g) (walk g tree s n)
walks_is tree zero g s n = refl
walks_is tree (suc left) g s n = refl

module _ (q : Request) (m : ℕ) where
  pub leads_next : (tree : List Statement) (left : ℕ) (x y : Record) → WalksAll q m tree x Next y → Leads q m tree left x DefaultHandler y
  leads_next tree left x y w = record {
    is = λ files content b n.
        let g = given files q m content in
        let r = w.is files content b n in (r.0, walks_is tree left g (at x b) n ∙ ap (after_walk g (again_of tree left g)) r.1);
  }

  pub leads_default : (tree : List Statement) (left : ℕ) (x y : Record) → WalksAll q m tree x ToDefault y → Leads q m tree left x DefaultHandler y
  leads_default tree left x y w = record {
    is = λ files content b n.
        let g = given files q m content in
        let r = w.is files content b n in (r.0, walks_is tree left g (at x b) n ∙ ap (after_walk g (again_of tree left g)) r.1);
  }

  pub leads_stopped : (tree : List Statement) (left : ℕ) (x y : Record) → WalksAll q m tree x Stopped y → Leads q m tree left x Text y
  leads_stopped tree left x y w = record {
    is = λ files content b n.
        let g = given files q m content in
        let r = w.is files content b n in (r.0, walks_is tree left g (at x b) n ∙ ap (after_walk g (again_of tree left g)) r.1);
  }

  pub leads_last : (tree : List Statement) (x y : Record) → WalksAll q m tree x Restarted y → Leads q m tree 0 x Text (answered 500 y)
  leads_last tree x y w = record {
    is = λ files content b n.
        let g = given files q m content in
        let r = w.is files content b n in (r.0, ap (after_walk g (again_of tree 0 g)) r.1);
  }

  pub leads_again : (tree : List Statement) (left : ℕ) (x y : Record) (who : Answerer) (z : Record) →
      WalksAll q m tree x Restarted y → Leads q m tree left (record y { context = [] }) who z → Leads q m tree (suc left) x who z
  leads_again tree left x y who z w l = record {
    is = λ files content b n.
        let g = given files q m content in
        let r = w.is files content b n in
        let k = l.is files content r.0 n in (k.0, ap (after_walk g (again_of tree (suc left) g)) r.1 ∙ k.1);
  }
