-- The action of a textual call is printed as a call that fits it again, and its printed form is UTF-8.
use Rattle.std.specs.Prelude.{◌≡◌, ℕ, ◌+◌, Bool, true, false, ◌&&◌, nat_le, List, [], ◌∷◌, map, decimal, if◌then◌else◌, Ok, IsUtf8}
use Rattle.std.proofs.Common.{refl, sym, ap, ap₂, ◌∙◌, subst}
use Rattle.tow_language.specs.declared.kind.Kind.TheVariants.{UnknownName, TooManyLimits}
use Rattle.tow_model.specs.declared.action.Target.{Target}
use Rattle.tow_model.specs.declared.action.Action.{Action}
use Rattle.tow_model.specs.declared.action.Action.TheVariants as actions
use Rattle.tow_language.specs.declared.table.Handler.{Handler}
use Rattle.tow_language.specs.declared.table.Handler.TheVariants as handlers
use Rattle.tow_language.specs.declared.table.Given.{Given}
use Rattle.tow_language.specs.declared.table.Given.TheVariants as givens
use Rattle.tow_language.specs.declared.table.Shape.TheVariants as shapes
use Rattle.tow_language.specs.Raw.{RawCall}
use Rattle.tow_language.specs.Table.{handler_named, handler_parameters}
use Rattle.tow_language.specs.Templates.{spelled_attribute, common}
use Rattle.tow_language.specs.Fit.{Counts, Fitted, ◌>>=◌, fault, wanted, givens_of, made_action, is_limit, fit_action}
use Rattle.tow_language.specs.Printed.{printed_text, printed_prefix, printed_template, printed_array, printed_target, printed_truth, written_template, printed_action}
use Rattle.tow_print.proofs.Predicates.{Same, bind_ok, ok_pair}
use Rattle.tow_print.proofs.Statements.{ActionReads, ActionsRead}
use Rattle.tow_print.proofs.Fits.{with_slash}
use Rattle.tow_print.proofs.Actions.{blocking_reads, echo_reads, rewrite_reads, redirect_reads, allowed_reads, response_reads, limit_reads, clear_reads, set_reads, resource_reads, header_reads, access_log_reads}
use Rattle.tow_print.proofs.Textual.{TextualCall}
use Rattle.tow_print.proofs.Utf8Forms.{utf8_printed, utf8_truth, utf8_action_call}
use Rattle.tow_print.proofs.Names.{IsWritable}
use Rattle.tow_print.proofs.Givens.{common_good}
use Rattle.tow_print.proofs.Filled.{AreOwn, AreGood, givens_good}
use Rattle.tow_print.proofs.TestCalls.{each_fine, array_utf8, no_default, this_default, one_given, two_given}

handlers_own : (name : Handler) → AreOwn (handler_parameters name) (handler_parameters name)
handlers_own handlers.Set = (refl, λ g e. no_default g e, (refl, λ g e. no_default g e, tt))
handlers_own handlers.Clear = (refl, λ g e. no_default g e, tt)
handlers_own handlers.Rewrite = (refl, λ g e. no_default g e, tt)
handlers_own handlers.Redirect = (refl, λ g e. no_default g e, tt)
handlers_own handlers.ResponseCode = (refl, λ g e. no_default g e, tt)
handlers_own handlers.Header =
    (refl, λ g e. no_default g e, (refl, λ g e. no_default g e, (refl, λ g e. this_default shapes.Truth (givens.Truth true) g (true, refl) e, tt)))
handlers_own handlers.AllowedMethods = (refl, λ g e. no_default g e, tt)
handlers_own handlers.RequestLimit = (refl, λ g e. no_default g e, tt)
handlers_own handlers.Resource = (refl, λ g e. no_default g e, (refl, λ g e. this_default shapes.Truth (givens.Truth false) g (false, refl) e, tt))
handlers_own handlers.Blocking = tt
handlers_own handlers.AccessLog = (refl, λ g e. this_default shapes.Format (givens.Template common) g common_good e, tt)
handlers_own handlers.Echo = tt

-- an action that stands before the counts of the pair, and behind the counts n
record ActionBack (n : Counts) (x : Action × Counts) : Type 1 where
  utf8 : IsUtf8 (printed_action x.0)
  reads : (m : Counts) → Same n m → ActionReads x.1 m x.0 (printed_action x.0)

-- what the givens make is this
made_back : (name : Handler) (gs hs : List Given) (n : Counts) (x y : Action × Counts) → gs ≡ hs → made_action name hs n ≡ y → made_action name gs n ≡ x → ActionBack n y → ActionBack n x
made_back name gs hs n x y is makes made back = subst (ActionBack n) (sym makes ∙ sym (ap (λ k. made_action name k n) is) ∙ made) back

target_utf8 : (x : Target) → IsWritable x → IsUtf8 (printed_target x)
target_utf8 x w = subst IsUtf8 (sym w.printed) (utf8_printed (spelled_attribute w.attribute) w.textual.1)

action_back : (name : Handler) (gs : List Given) (n : Counts) (x : Action × Counts) → AreGood (handler_parameters name) gs → (is_limit name && nat_le 16 n.limits) ≡ false → made_action name gs n ≡ x → ActionBack n x
action_back handlers.Set gs n x (g, hs, is, (y, e, w), (h, js, more, (t, f, (fine, again)), none)) few made =
    made_back handlers.Set gs (givens.Target y ∷ givens.Template t ∷ []) n x (actions.Set y t, n) (two_given is e more f none) refl made (record {
      utf8 = utf8_action_call handlers.Set (printed_target y ∷ printed_template t ∷ []) (target_utf8 y w, (utf8_printed (written_template t) fine.1, tt));
      reads = λ m same. set_reads n m y w.attribute t w.printed w.target w.textual.0 w.again fine.0 again same;
    })
action_back handlers.Clear gs n x (g, hs, is, (y, e, w), none) few made =
    made_back handlers.Clear gs (givens.Target y ∷ []) n x (actions.Clear y, n) (one_given is e none) refl made (record {
      utf8 = utf8_action_call handlers.Clear (printed_target y ∷ []) (target_utf8 y w, tt);
      reads = λ m same. clear_reads n m y w.attribute w.printed w.target w.textual.0 w.again same;
    })
action_back handlers.Rewrite gs n x (g, hs, is, (t, e, (fine, again)), none) few made =
    made_back handlers.Rewrite gs (givens.Template t ∷ []) n x (actions.Rewrite t, n) (one_given is e none) refl made (record {
      utf8 = utf8_action_call handlers.Rewrite (printed_template t ∷ []) (utf8_printed (written_template t) fine.1, tt);
      reads = λ m same. rewrite_reads n m t fine.0 again same;
    })
action_back handlers.Redirect gs n x (g, hs, is, (t, e, (fine, again)), none) few made =
    made_back handlers.Redirect gs (givens.Template t ∷ []) n x (actions.Redirect t, n) (one_given is e none) refl made (record {
      utf8 = utf8_action_call handlers.Redirect (printed_template t ∷ []) (utf8_printed (written_template t) fine.1, tt);
      reads = λ m same. redirect_reads n m t fine.0 again same;
    })
action_back handlers.ResponseCode gs n x (g, hs, is, (s, e, again, w), none) few made =
    made_back handlers.ResponseCode gs (givens.Number s ∷ []) n x (actions.ResponseCode s, n) (one_given is e none) refl made (record {
      utf8 = utf8_action_call handlers.ResponseCode (decimal s ∷ []) (w.utf8, tt);
      reads = λ m same. response_reads n m s w.word again same;
    })
action_back handlers.Header gs n x (g, hs, is, (name, e, o), (h, js, more, (t, f, (fine, again)), (k, ls, last, (b, i), none))) few made =
    made_back handlers.Header gs (givens.Text name ∷ givens.Template t ∷ givens.Truth b ∷ []) n x (actions.Header name t b, n)
    (is ∙ ap₂ (λ x xs. x ∷ xs) e (two_given more f last i none)) refl made (record {
      utf8 = utf8_action_call handlers.Header (printed_text name ∷ printed_template t ∷ printed_truth b ∷ []) (utf8_printed name o.textual.1, (utf8_printed (written_template t) fine.1, (utf8_truth b, tt)));
      reads = λ m same. header_reads n m name t b o.textual.0 o.field o.lower o.free fine.0 again same;
    })
action_back handlers.AllowedMethods gs n x (g, hs, is, (b, bs, e, are, tokens), none) few made =
    made_back handlers.AllowedMethods gs (givens.Texts (b ∷ bs) ∷ []) n x (actions.AllowedMethods (b ∷ bs), n) (one_given is e none) refl made (record {
      utf8 = utf8_action_call handlers.AllowedMethods (printed_array (map printed_text (b ∷ bs)) ∷ []) (array_utf8 (b ∷ bs) are, tt);
      reads = λ m same. allowed_reads n m b bs (each_fine (b ∷ bs) are) tokens same;
    })
action_back handlers.RequestLimit gs n x (g, hs, is, (most, e, again, w), none) few made =
    let i : Counts = record n { limits = n.limits + 1 } in
    made_back handlers.RequestLimit gs (givens.Number most ∷ []) n x (actions.RequestLimit n.limits most, i) (one_given is e none) refl made (record {
      utf8 = utf8_action_call handlers.RequestLimit (decimal most ∷ []) (w.utf8, tt);
      reads = λ m same. limit_reads n i m most w.word again few same (refl, refl, refl);
    })
action_back handlers.Resource gs n x (g, hs, is, (p, e, text, kept), (h, js, more, (b, f), none)) few made =
    made_back handlers.Resource gs (givens.Text p ∷ givens.Truth b ∷ []) n x (actions.Resource p b, n) (two_given is e more f none) refl made (record {
      utf8 = utf8_action_call handlers.Resource (printed_prefix p ∷ printed_truth b ∷ []) (utf8_printed (with_slash p) text.1, (utf8_truth b, tt));
      reads = λ m same. resource_reads n m p b text.0 kept same;
    })
action_back handlers.Blocking gs n x none few made =
    made_back handlers.Blocking gs [] n x (actions.Blocking, n) none refl made (record { utf8 = utf8_action_call handlers.Blocking [] tt; reads = λ m same. blocking_reads n m same })
action_back handlers.AccessLog gs n x (g, hs, is, (t, e, (fine, again)), none) few made =
    let i : Counts = record n { logs = n.logs + 1 } in
    made_back handlers.AccessLog gs (givens.Template t ∷ []) n x (actions.AccessLog n.logs t, i) (one_given is e none) refl made (record {
      utf8 = utf8_action_call handlers.AccessLog (printed_template t ∷ []) (utf8_printed (written_template t) fine.1, tt);
      reads = λ m same. access_log_reads n i m t fine.0 again same (refl, refl, refl);
    })
action_back handlers.Echo gs n x none few made =
    made_back handlers.Echo gs [] n x (actions.Echo, n) none refl made (record { utf8 = utf8_action_call handlers.Echo [] tt; reads = λ m same. echo_reads n m same })

-- the action is not one limit too many
within_limits : (t : Bool) (place : ℕ) (x y : Action × Counts) → ◌≡◌ {A = Fitted Action} (if t then fault TooManyLimits place else Ok x) (Ok y) → (t ≡ false) × (x ≡ y)
within_limits true place x y e = absurd (cc)
within_limits false place x y e = (refl, ok_pair x y e)

call_back : (c : RawCall) (n i : Counts) (a : Action) → TextualCall c → fit_action c n ≡ Ok (a, i) → ActionBack n (a, i)
call_back c n i a textual e =
    let p = bind_ok (wanted (handler_named c.name.bytes) UnknownName c.name.place)
    (λ (name : Handler). givens_of (handler_parameters name) c >>= λ gs. if is_limit name && nat_le 16 n.limits then fault TooManyLimits c.name.place else Ok (made_action name gs n)) (a, i) e in
    let b = bind_ok (givens_of (handler_parameters p.0) c) (λ gs. if is_limit p.0 && nat_le 16 n.limits then fault TooManyLimits c.name.place else Ok (made_action p.0 gs n)) (a, i) p.2 in
    let w = within_limits (is_limit p.0 && nat_le 16 n.limits) c.name.place (made_action p.0 b.0 n) (a, i) b.2 in
    action_back p.0 b.0 n (a, i) (givens_good (handler_parameters p.0) c b.0 (handlers_own p.0) textual b.1) w.0 w.1

pub actions_read : ActionsRead TextualCall
actions_read c n i m a textual e same = (call_back c n i a textual e).reads m same

pub action_utf8 : (c : RawCall) (n i : Counts) (a : Action) → TextualCall c → fit_action c n ≡ Ok (a, i) → IsUtf8 (printed_action a)
action_utf8 c n i a textual e = (call_back c n i a textual e).utf8
