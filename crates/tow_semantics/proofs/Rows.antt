-- Whole exchanges at the worked rows.
use Rattle.std.proofs.Common.{◌≡◌, ℕ, zero, suc, Bool, true, false, List, [], ◌∷◌, Some, None, refl, codes}
use lib.Utf8.{encode}
use Rattle.std.specs.Fmt.{digits}
use Rattle.std.specs.Str.{is_utf8, chars}
use Rattle.tow_model.specs.declared.request.Request.{Request}
use Rattle.tow_model.specs.declared.request.Version.TheVariants.{V11}
use Rattle.tow_model.specs.declared.request.Framing.TheVariants as framing
use Rattle.tow_model.specs.declared.record.Listener.TheVariants as listener
use Rattle.tow_model.specs.declared.predicate.Test.TheVariants as test
use Rattle.tow_model.specs.declared.predicate.Predicate.TheVariants as predicate
use Rattle.tow_model.specs.declared.predicate.Segment.TheVariants as segment
use Rattle.tow_model.specs.declared.attribute.Attribute.TheVariants as attribute
use Rattle.tow_model.specs.declared.attribute.Piece.TheVariants as piece
use Rattle.tow_model.specs.declared.action.Target.TheVariants as target
use Rattle.tow_model.specs.declared.account.What.TheVariants as what
use Rattle.tow_model.specs.declared.action.Action.TheVariants as action
use Rattle.tow_model.specs.declared.statement.Statement.{Statement}
use Rattle.tow_model.specs.declared.statement.Statement.TheVariants as statement
use Rattle.tow_model.specs.declared.content.Content.TheVariants as content
use Rattle.tow_model.specs.declared.account.Verdict.TheVariants as verdict
use Rattle.tow_model.specs.Texts.{Text}
use Rattle.tow_model.specs.Fields.{field}
use Rattle.tow_semantics.specs.Steps.{start, answered}
use Rattle.tow_semantics.specs.Plans.{Stand, moved, opening_stand}
use Rattle.tow_semantics.specs.Runs.{Walked, blocks}
use Rattle.tow_semantics.specs.Walk.{Given, Notes}
use Rattle.tow_semantics.specs.Outcome.{decided, outcome, walks, opening}
use Rattle.tow_semantics.specs.Listeners.{lines, calls}
use Rattle.tow_semantics.proofs.Equations.{holds_is, walk_act, walk_when, actions_act}

abbrev get : Text → Request
get path = record {
  method = codes "GET";
  target = path;
  version = V11;
  fields = [];
  url = path;
  path = path;
  query = None;
  framing = framing.Empty;
  expects = false;
  keep = true;
  peer = 2130706433;
}

-- a GET at moment 0 over the empty folder
abbrev given : Text → Given
given path = record { request = get path; moment = 0; files = []; content = Some (content.Whole []) }

-- where an exchange begins
abbrev at_start : Text → Stand
at_start path = opening_stand (get path)

-- nothing noted, but whether a page was looked for
abbrev noted : Bool → Notes
noted looked = record { left = []; entries = []; asked = false; looked = looked }

-- `path('/hi') -> response-code(204)`
hi : List Statement
hi = statement.When (predicate.Is (test.Path (codes "/hi" ∷ []))) (statement.Act (action.ResponseCode 204)) None ∷ []

row_hi : outcome hi (given (codes "/hi")) [] ≡ decided (moved (answered 204 (start (get (codes "/hi")))) (at_start (codes "/hi"))) (noted false)
unfolding hi
row_hi = rw (walk_when, holds_is, walk_act) refl

row_empty_site : outcome [] (given (codes "/")) [] ≡ decided (moved (answered 404 (start (get (codes "/")))) (at_start (codes "/"))) (noted true)
unfolding is_utf8 chars encode
row_empty_site = refl

-- `restart`, where so many restarts are left
restarts_end : (n : ℕ) → walks (given (codes "/")) (statement.Act action.Restart ∷ []) n (at_start (codes "/")) (opening []) ≡ decided (moved (answered 500 (start (get (codes "/")))) (at_start (codes "/"))) (noted false)
restarts_end zero = rw walk_act refl
restarts_end (suc n) = rw walk_act (restarts_end n)

row_restart : outcome (statement.Act action.Restart ∷ []) (given (codes "/")) [] ≡ decided (moved (answered 500 (start (get (codes "/")))) (at_start (codes "/"))) (noted false)
row_restart = restarts_end 16

-- `request-limit(1)`, `restart`
limited : List Statement
limited = statement.Act (action.RequestLimit 0 1) ∷ statement.Act action.Restart ∷ []

limited_end : Walked
limited_end =
    decided (moved (record (answered 503 (start (get (codes "/")))) { listeners = listener.Leave 0 ∷ [] }) (at_start (codes "/")))
    (record { left = []; entries = record { limit = 0; verdict = verdict.Admitted } ∷ record { limit = 0; verdict = verdict.Refused } ∷ []; asked = false; looked = false })

row_limit_restart : outcome limited (given (codes "/")) (verdict.Admitted ∷ verdict.Refused ∷ []) ≡ limited_end
unfolding limited limited_end
row_limit_restart = rw (walk_act, walk_act, walk_act) refl

row_limit_restart_calls : calls 1 limited_end.outcome ≡
    record { limit = 0; request = 1; what = what.Enter verdict.Admitted } ∷ record { limit = 0; request = 1; what = what.Enter verdict.Refused }
    ∷ record { limit = 0; request = 1; what = what.Leave } ∷ []
unfolding limited_end
row_limit_restart_calls = refl

-- `access-log('a %s'); access-log('b %s'); response-code(204)`
logged_twice : List Statement
logged_twice =
    statement.Act (action.AccessLog 0 (piece.Literal (codes "a ") ∷ piece.Value attribute.Status ∷ []))
    ∷ statement.Act (action.AccessLog 1 (piece.Literal (codes "b ") ∷ piece.Value attribute.Status ∷ []))
    ∷ statement.Act (action.ResponseCode 204) ∷ []

row_log_order : lines logged_twice 0 1 (get (codes "/")) 0 (outcome logged_twice (given (codes "/")) []).outcome.state ≡
    record { connection = 0; request = 1; number = 1; text = codes "b 204" }
    ∷ record { connection = 0; request = 1; number = 0; text = codes "a 204" } ∷ []
unfolding logged_twice digits
row_log_order = rw (walk_act, walk_act, walk_act, actions_act, actions_act) refl

-- `path-prefix('/foo') -> set(attribute='%{o,x-r}', value='${remaining}')`
remaining : List Statement
remaining =
    statement.When (predicate.Is (test.Prefix (codes "/foo" ∷ [])))
    (statement.Act (action.Set (target.ResponseField (codes "x-r")) (piece.Value (attribute.Context (codes "remaining")) ∷ []))) None ∷ []

row_remaining : (outcome remaining (given (codes "/foo/bar")) []).outcome.state.fields ≡ field (codes "x-r") (codes "/bar") ∷ []
unfolding remaining is_utf8 chars encode
row_remaining = rw (walk_when, holds_is, walk_act) refl

row_remaining_empty : (outcome remaining (given (codes "/foo")) []).outcome.state.fields ≡ field (codes "x-r") [] ∷ []
unfolding remaining is_utf8 chars encode
row_remaining_empty = rw (walk_when, holds_is, walk_act) refl

row_remaining_not : (outcome remaining (given (codes "/foobar")) []).outcome.state.fields ≡ []
unfolding remaining is_utf8 chars encode
row_remaining_not = rw (walk_when, holds_is) refl

-- `path-template('/u/{id}') -> header(header=x-id, value='${id}')`, `response-code(200)`
templated : List Statement
templated =
    statement.When
    (predicate.Is (test.PathTemplate (segment.Fixed [] ∷ segment.Fixed (codes "u") ∷ segment.Bind (codes "id") ∷ []) (piece.Value attribute.RelativePath ∷ [])))
    (statement.Act (action.Header (codes "x-id") (piece.Value (attribute.Context (codes "id")) ∷ []) true)) None
    ∷ statement.Act (action.ResponseCode 200) ∷ []

row_template : (outcome templated (given (codes "/u/7")) []).outcome.state.fields ≡ field (codes "x-id") (codes "7") ∷ []
unfolding templated
row_template = rw (walk_when, holds_is, walk_act, walk_act) refl

row_template_not : (outcome templated (given (codes "/u/")) []).outcome.state.fields ≡ []
unfolding templated
row_template_not = rw (walk_when, holds_is, walk_act) refl

-- `blocking`, `request-limit(1)`
limited_work : List Statement
limited_work = statement.Act action.Blocking ∷ statement.Act (action.RequestLimit 0 1) ∷ []

-- an exchange that waits after its `blocking` has taken no step of a worker yet
row_wait_after_blocking : blocks (outcome limited_work (given (codes "/")) []).outcome ≡ false
unfolding limited_work
row_wait_after_blocking = rw (walk_act, walk_act) refl

row_refused_after_blocking : blocks (outcome limited_work (given (codes "/")) (verdict.Refused ∷ [])).outcome ≡ true
unfolding limited_work
row_refused_after_blocking = rw (walk_act, walk_act) refl
