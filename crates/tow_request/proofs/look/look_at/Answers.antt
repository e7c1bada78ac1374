use Rattle.std.proofs.Common.{Some, inl, sym, ap, ◌∙◌}
use Rattle.tow_request.proofs.Fronts.{whole_head, tells_refused, finds_refused, finds_served}
use Rattle.tow_request.proofs.Refusing.{refused_at, right_length, same_place}
use Rattle.tow_request.proofs.look.look_at.Goals as goal

pub returns-in-Some-clause-tells : goal.returns-in-Some-clause-tells
returns-in-Some-clause-tells c = λ ended.
    let h = c.requires.is_head.0 in
    let at = c.requires.is_head.1 in
    let whole = whole_head _ _ _ h c.requires.bytes_fit c.requires.lines_fit c.requires.within at in
    inl (tells_refused _ _ h c.status.result whole (sym (ap (λ s. Some s) c.status.ensures ∙ refused_at _ _ _ h _ at c.in-Some.ensures)))

pub returns-in-Some-clause-found : goal.returns-in-Some-clause-found
returns-in-Some-clause-found c =
    let h = c.requires.is_head.0 in
    let at = c.requires.is_head.1 in
    let whole = whole_head _ _ _ h c.requires.bytes_fit c.requires.lines_fit c.requires.within at in
    finds_refused _ _ h c.status.result c.args.peer _ whole (sym (ap (λ s. Some s) c.status.ensures ∙ refused_at _ _ _ h _ at c.in-Some.ensures))

pub copied_request-requires-clause-right : goal.copied_request-requires-clause-right
copied_request-requires-clause-right c =
    let h = c.requires.is_head.0 in
    let at = c.requires.is_head.1 in
    right_length _ _ _ h at (sym (refused_at _ _ _ h _ at c.in_default.ensures))

pub returns-in-Ok-clause-tells : goal.returns-in-Ok-clause-tells
returns-in-Ok-clause-tells c = λ ended.
    let h = c.requires.is_head.0 in
    let at = c.requires.is_head.1 in
    let named = same_place h _ _ _ (c.of.ensures ∙ at.method) (c.of-2.ensures ∙ at.path) c.in-Parts.ensures.value in (
      c.requires.within.section.len_fits,
      record {
        head = h;
        whole = whole_head _ _ _ h c.requires.bytes_fit c.requires.lines_fit c.requires.within at;
        served = sym (refused_at _ _ _ h _ at c.in_default.ensures);
        request = c.in-Ok.ensures h at named;
      },
    )

pub returns-in-Ok-clause-found : goal.returns-in-Ok-clause-found
returns-in-Ok-clause-found c =
    let h = c.requires.is_head.0 in
    let at = c.requires.is_head.1 in
    let named = same_place h _ _ _ (c.of.ensures ∙ at.method) (c.of-2.ensures ∙ at.path) c.in-Parts.ensures.value in
    finds_served c.args.bytes.now c.args.head.len h c.args.peer c.in-Ok.request c.requires.within.section.len_fits
    (whole_head _ _ _ h c.requires.bytes_fit c.requires.lines_fit c.requires.within at) (c.in-Ok.ensures h at named)
