use Rattle.std.proofs.Common.{rules, sym, ◌∙◌, true≢false, inl, inr}
use Rattle.httparse.specs.Grammar.{HasNoRequest, NeverHasRequest}
use Rattle.tow_message.specs.Stream.{IsBlank}
use Rattle.tow_message.proofs.StreamLemmas.{blank_has_none}
use Rattle.tow_request.proofs.Fronts.{no_head, no_head_in_room, never_now, finds_none}
use Rattle.tow_request.proofs.look.next_head.Goals as goal

pub returns-then-ended-clause-found : goal.returns-then-ended-clause-found
returns-then-ended-clause-found c =
    let blank : IsBlank c.args.bytes.now = c.is_blank.ensures.0 c.if-is_blank.true in
    finds_none c.args.bytes.now c.args.peer _ (λ h rest has. blank_has_none _ h rest blank has)

pub returns-else-ended-clause-found : goal.returns-else-ended-clause-found
returns-else-ended-clause-found c =
    let blank : IsBlank c.args.bytes.now = c.is_blank.ensures.0 c.if-is_blank.true in
    finds_none c.args.bytes.now c.args.peer _ (λ h rest has. blank_has_none _ h rest blank has)

pub returns-else-ended-clause-tells : goal.returns-else-ended-clause-tells
returns-else-ended-clause-tells c =
    let blank : IsBlank c.args.bytes.now = c.is_blank.ensures.0 c.if-is_blank.true in
    (c.if-ended.false, blank.few, λ h rest has. blank_has_none _ h rest blank has, inl blank)

pub returns-in-Ok-Complete-clause-tells : goal.returns-in-Ok-Complete-clause-tells
returns-in-Ok-Complete-clause-tells c = c.look_at.ensures.tells c.args.ended

pub returns-in-Ok-Partial-clause-found : goal.returns-in-Ok-Partial-clause-found
returns-in-Ok-Partial-clause-found c =
    let none : HasNoRequest c.args.bytes.now = search rules in
    finds_none c.args.bytes.now c.args.peer _ (no_head _ none)

pub returns-in-Ok-Partial-clause-tells : goal.returns-in-Ok-Partial-clause-tells
returns-in-Ok-Partial-clause-tells c = c.look_on.ensures.tells c.args.peer

pub returns-in-TooManyHeaders-clause-found : goal.returns-in-TooManyHeaders-clause-found
returns-in-TooManyHeaders-clause-found c =
    finds_none c.args.bytes.now c.args.peer _ (no_head_in_room _ c.in-Err.ensures.no_room)

pub returns-in-TooManyHeaders-clause-tells : goal.returns-in-TooManyHeaders-clause-tells
returns-in-TooManyHeaders-clause-tells c = c.look_on-in-TooManyHeaders.ensures.tells c.args.peer

pub returns-in_default : goal.returns-in_default
returns-in_default c =
    let never : NeverHasRequest c.args.bytes.now = c.in-Err.ensures.invalid c.in_default.not-TooManyHeaders in
    let none = no_head c.args.bytes.now (never_now c.args.bytes.now never) in
    record {
      tells = inr (c.status.ensures, record { no_head = none; not_blank = λ blank. true≢false (sym (c.is_blank.ensures.1 blank) ∙ c.if-is_blank.false) }, inr (inr never));
      found = finds_none c.args.bytes.now c.args.peer _ none;
    }
