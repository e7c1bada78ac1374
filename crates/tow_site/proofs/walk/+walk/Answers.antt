use Rattle.std.proofs.Common.{rules, ◌≡◌, ◌+◌, ◌∷◌, drop, drop-cons, add-one, refl, ◌∙◌}
use Rattle.std.proofs.lemmas.List.{drop_all}
use Rattle.std.proofs.lemmas.Result.{IfOk-weaker}
use Rattle.tow_model.specs.declared.statement.Statement.{the_lemmas}
use Rattle.tow_site.proofs.Building.{built_then, built_else, built_first, built_rest, block_is}
use Rattle.tow_pred.proofs.Trees.{among_asked, among_then, among_else, among_block, among_first, among_rest}
use Rattle.tow_site.proofs.Walking.{Leaves, walks_act, walks_block, walks_then, walks_else, walks_on, walks_none, walks_next, walks_end}
use Rattle.tow_site.proofs.walk.+walk.Goals as goal

pub walk_statement-holds-requires-clause-among : goal.walk_statement-holds-requires-clause-among
walk_statement-holds-requires-clause-among t c = among_asked _ _ _ _ (rw c.in-When.is at c.requires.among)

pub walk_statement-walk_statement-requires : goal.walk_statement-walk_statement-requires
walk_statement-walk_statement-requires t c = (
  search (rules, the_lemmas),
  (
    rw c.get.ensures (built_then _ _ _ (rw c.in-When.is at c.requires.built)),
    (rw (c.get.ensures, c.in_ok-holds-in-When.ensures.scratch) (among_then _ _ _ _ (rw c.in-When.is at c.requires.among)), c.requires.dated),
  ),
)

pub walk_statement-walk_statement-requires-in-Some : goal.walk_statement-walk_statement-requires-in-Some
walk_statement-walk_statement-requires-in-Some t c = (
  search (rules, the_lemmas),
  (
    rw c.get-in-Some.ensures (built_else _ _ _ (rw (c.in-When.is, c.in-Some.is) at c.requires.built)),
    (rw (c.get-in-Some.ensures, c.in_ok-holds-in-When.ensures.scratch) (among_else _ _ _ _ (rw (c.in-When.is, c.in-Some.is) at c.requires.among)), c.requires.dated),
  ),
)

pub walk_statement-walk_list-requires : goal.walk_statement-walk_list-requires
walk_statement-walk_list-requires t c = (
  search (rules, the_lemmas),
  (
    rw (c.as_slice-parts.ensures, ← block_is) (rw c.in-Block.is at c.requires.built),
    (rw c.as_slice-parts.ensures (among_block _ _ (rw c.in-Block.is at c.requires.among)), c.requires.dated),
  ),
)

pub walk_statement-returns-then-branch-clause-walks : goal.walk_statement-returns-then-branch-clause-walks
walk_statement-returns-then-branch-clause-walks t c =
    let h : Leaves c.args.request.now c.args.moment c.in-When.test c.args.state.now _ c.holds.new.state =
    rw c.if-branch.true at c.in_ok-holds-in-When.ensures.holds in
    rw c.in-When.is (IfOk-weaker c.walk_statement.result _ _ (λ end w. walks_then _ _ _ _ _ _ _ _ _ h w) (rw c.get.ensures at c.walk_statement.ensures.walks))

pub walk_statement-returns-in-Some-clause-walks : goal.walk_statement-returns-in-Some-clause-walks
walk_statement-returns-in-Some-clause-walks t c =
    let h : Leaves c.args.request.now c.args.moment c.in-When.test c.args.state.now _ c.holds.new.state =
    rw c.if-branch.false at c.in_ok-holds-in-When.ensures.holds in
    rw (c.in-When.is, c.in-Some.is)
    (IfOk-weaker c.walk_statement-in-Some.result _ _ (λ end w. walks_else _ _ _ _ _ _ _ _ _ h w) (rw c.get-in-Some.ensures at c.walk_statement-in-Some.ensures.walks))

pub walk_statement-returns-in_default-clause-walks : goal.walk_statement-returns-in_default-clause-walks
walk_statement-returns-in_default-clause-walks t c =
    rw (c.in-When.is, c.in_default.is)
    (walks_on _ _ _ _ _ _
    (rw c.if-branch.false at c.in_ok-holds-in-When.ensures.holds))

pub walk_statement-returns-in-Act-clause-walks : goal.walk_statement-returns-in-Act-clause-walks
walk_statement-returns-in-Act-clause-walks t c = rw c.in-Act.is (IfOk-weaker c.act.result _ _ (λ end h. walks_act _ _ _ _ _ _ h) c.act.ensures.acts)

pub walk_statement-returns-in-Block-clause-walks : goal.walk_statement-returns-in-Block-clause-walks
walk_statement-returns-in-Block-clause-walks t c =
    rw c.in-Block.is (IfOk-weaker c.walk_list.result _ _ (λ end w. walks_block _ _ _ _ _ _ w) (rw c.as_slice-parts.ensures at c.walk_list.ensures.walks))

pub walk_list-walk_statement-requires : goal.walk_list-walk_statement-requires
walk_list-walk_statement-requires t c =
    let h = c.loop-statement-test.true in
    let cons : drop c.loop-statement.statement-index c.args.statements.now ≡ c.statement-item.result ∷ drop (c.loop-statement.statement-index + 1) c.args.statements.now =
    rw (drop-cons c.args.statements.now c.loop-statement.statement-index c.statement-item.result h, ← c.statement-item.is, add-one) refl in (
      search (rules, the_lemmas),
      (
        built_first _ _ (rw cons at c.loop-statement.invariant.built),
        (rw c.loop-statement.invariant.scratch (among_first _ _ _ (rw cons at c.loop-statement.invariant.among)), c.requires.dated),
      ),
    )

pub walk_list-returns-in_default : goal.walk_list-returns-in_default
walk_list-returns-in_default t c =
    let h = c.loop-statement-test.true in
    record {
      walks = c.loop-statement.invariant.leads _ _
          (rw (drop-cons c.args.statements.now c.loop-statement.statement-index c.statement-item.result h, ← c.statement-item.is) (walks_end _ _ _ _ _ _ _ c.in_default.not-Next c.in_ok-end.ensures.walks));
      empty = c.in_ok-end.ensures.empty;
      scratch = c.in_ok-end.ensures.scratch ∙ c.loop-statement.invariant.scratch;
    }

pub walk_list-loop-statement-preserved : goal.walk_list-loop-statement-preserved
walk_list-loop-statement-preserved t c =
    let h = c.loop-statement-test.true in
    let cons : drop c.loop-statement.statement-index c.args.statements.now ≡ c.statement-item.result ∷ drop (c.loop-statement.statement-index + 1) c.args.statements.now =
    rw (drop-cons c.args.statements.now c.loop-statement.statement-index c.statement-item.result h, ← c.statement-item.is, add-one) refl in
    record {
      built = built_rest _ _ (rw cons at c.loop-statement.invariant.built);
      among = among_rest _ _ _ (rw cons at c.loop-statement.invariant.among);
      scratch = c.in_ok-end.ensures.scratch ∙ c.loop-statement.invariant.scratch;
      leads = λ end y w. c.loop-statement.invariant.leads end y (rw cons (walks_next _ _ _ _ _ _ _ _ (rw c.in-Next.is at c.in_ok-end.ensures.walks) w));
    }

pub walk_list-returns-clause-walks : goal.walk_list-returns-clause-walks
walk_list-returns-clause-walks t c =
    let h = c.loop-statement-test.false in
    c.loop-statement.invariant.leads _ _ (rw (drop_all c.loop-statement.statement-index c.args.statements.now h) (walks_none _ _ _))
