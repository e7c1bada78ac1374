-- What a text comes to, where it or the default handler answers.
use Rattle.std.proofs.Common.{ℕ, true, false, List, [], ap, ◌∙◌}
use Rattle.tow_model.specs.declared.record.Record.{Record}
use Rattle.tow_model.specs.declared.request.Request.{Request}
use Rattle.tow_model.specs.declared.statement.Statement.{Statement}
use Rattle.tow_semantics.specs.Outcome.{decided, has_worked, opening}
use Rattle.tow_semantics.specs.Steps.{start}
use Rattle.tow_semantics.specs.Plans.{Stand, Free}
use Rattle.tow_site.specs.declared.outcomes.Answerer.TheVariants.{Text, DefaultHandler}
use Rattle.tow_site.specs.Decided.{Decides}
use Rattle.tow_site.specs.Walking.{Leads, Defaults}

pub decides_text : (tree : List Statement) (q : Request) (m : ℕ) (y : Record) → Leads q m tree 16 (start q) Text y → Decides tree q m y
decides_text tree q m y l content verdicts =
    let r = l.is [] content Free (opening verdicts) in
    record { looked = false; worked = has_worked r.0; is = r.1 }

pub decides_default : (tree : List Statement) (q : Request) (m : ℕ) (y z : Record) →
    Leads q m tree 16 (start q) DefaultHandler y → Defaults q y z → Decides tree q m z
decides_default tree q m y z l d content verdicts =
    let r = l.is [] content Free (opening verdicts) in
    record {
      looked = true;
      worked = has_worked r.0;
      is = r.1 ∙ ap (λ (s : Stand). decided s (record (opening verdicts) { looked = true })) (d.is r.0);
    }
