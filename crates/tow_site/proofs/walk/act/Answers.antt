use Rattle.std.proofs.Common.{◌≡◌, sym, ap, ◌∙◌}
use Rattle.tow_model.specs.declared.record.Record.{Record}
use Rattle.tow_semantics.specs.Effects as effects
use Rattle.tow_semantics.specs.Plans.{marked}
use Rattle.tow_semantics.specs.Sites.{given}
use Rattle.tow_semantics.specs.Walk.{act_answer}
use Rattle.tow_semantics.specs.Walk as model
use Rattle.tow_site.specs.Walking.{at}
use Rattle.tow_site.proofs.walk.act.Goals as goal

pub returns-in-Go-clause-acts : goal.returns-in-Go-clause-acts
returns-in-Go-clause-acts c = record {
  is = λ files content b n.
      let s = marked c.args.action.now (at c.args.state.now b) in
      (s.mark, ap (λ (e : effects.Effect). act_answer (given files c.args.request.now c.args.moment content) e (at c.args.state.now b) s n) (sym c.in-Go.ensures.value));
}

pub returns-in-Stop-clause-acts : goal.returns-in-Stop-clause-acts
returns-in-Stop-clause-acts c = record {
  is = λ files content b n.
      let s = marked c.args.action.now (at c.args.state.now b) in
      (s.mark, ap (λ (e : effects.Effect). act_answer (given files c.args.request.now c.args.moment content) e (at c.args.state.now b) s n) (sym c.in-Stop.ensures.value));
}

pub returns-in-Restart-clause-acts : goal.returns-in-Restart-clause-acts
returns-in-Restart-clause-acts c =
    let same : c.effect.new.exchange ≡ c.args.state.now = c.in-Restart.ensures.unchanged (λ is. cc) (λ is. cc) in
    record {
      is = λ files content b n.
          let s = marked c.args.action.now (at c.args.state.now b) in (
            s.mark,
            ap (λ (e : effects.Effect). act_answer (given files c.args.request.now c.args.moment content) e (at c.args.state.now b) s n) (sym c.in-Restart.ensures.value)
                ∙ ap (λ (x : Record). model.Restarted (at x s.mark) n) (sym same),
          );
    }

pub returns-in-ToDefault-clause-acts : goal.returns-in-ToDefault-clause-acts
returns-in-ToDefault-clause-acts c =
    let same : c.effect.new.exchange ≡ c.args.state.now = c.in-ToDefault.ensures.unchanged (λ is. cc) (λ is. cc) in
    record {
      is = λ files content b n.
          let s = marked c.args.action.now (at c.args.state.now b) in (
            s.mark,
            ap (λ (e : effects.Effect). act_answer (given files c.args.request.now c.args.moment content) e (at c.args.state.now b) s n) (sym c.in-ToDefault.ensures.value)
                ∙ ap (λ (x : Record). model.ToDefault (at x s.mark) n) (sym same),
          );
    }
