use Rattle.std.proofs.Common.{Some, None, sym, ◌∙◌}
use Rattle.std.proofs.lemmas.Bool.Decides.{Decides-eqb}
use Rattle.std.proofs.lemmas.Slice.Eq.{strip_prefix_is}
use Rattle.tow_path.proofs.Empty.{is_nothing, is_something}
use Rattle.tow_path.proofs.Prefixes.{is_whole, is_more, is_apart, lies_under}
use Rattle.tow_path.proofs.prefix.is_prefix.Goals as goal

pub returns-then-is_empty-clause-value : goal.returns-then-is_empty-clause-value
returns-then-is_empty-clause-value c =
    let begins = strip_prefix_is Decides-eqb c.args.path.now c.args.prefix.now (Some c.in-Some.rest) c.in-Some.ensures.cases in
    c.if-is_empty.true ∙ is_whole c.args.prefix.now c.args.path.now c.in-Some.rest.now begins (is_nothing c.in-Some.rest.now _ c.is_empty.ensures c.if-is_empty.true)

pub returns-then-is_empty-clause-whole : goal.returns-then-is_empty-clause-whole
returns-then-is_empty-clause-whole c = λ yes.
    let begins = strip_prefix_is Decides-eqb c.args.path.now c.args.prefix.now (Some c.in-Some.rest) c.in-Some.ensures.cases in
    lies_under c.args.prefix.now c.args.path.now
    (sym (is_whole c.args.prefix.now c.args.path.now c.in-Some.rest.now begins (is_nothing c.in-Some.rest.now _ c.is_empty.ensures c.if-is_empty.true)))

pub returns-else-is_empty-clause-value : goal.returns-else-is_empty-clause-value
returns-else-is_empty-clause-value c =
    let begins = strip_prefix_is Decides-eqb c.args.path.now c.args.prefix.now (Some c.in-Some.rest) c.in-Some.ensures.cases in
    is_more c.args.prefix.now c.args.path.now c.in-Some.rest.now c.starts_with.result begins (is_something c.in-Some.rest.now _ c.is_empty.ensures c.if-is_empty.false)
    c.starts_with.ensures.value

pub returns-else-is_empty-clause-whole : goal.returns-else-is_empty-clause-whole
returns-else-is_empty-clause-whole c = λ yes.
    let begins = strip_prefix_is Decides-eqb c.args.path.now c.args.prefix.now (Some c.in-Some.rest) c.in-Some.ensures.cases in
    lies_under c.args.prefix.now c.args.path.now
    (sym (is_more c.args.prefix.now c.args.path.now c.in-Some.rest.now c.starts_with.result begins (is_something c.in-Some.rest.now _ c.is_empty.ensures c.if-is_empty.false) c.starts_with.ensures.value)
    ∙ yes)

pub returns-in-None-clause-value : goal.returns-in-None-clause-value
returns-in-None-clause-value c =
    is_apart c.args.prefix.now c.args.path.now (strip_prefix_is Decides-eqb c.args.path.now c.args.prefix.now None c.in-None.ensures.cases)
