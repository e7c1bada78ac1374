-- The printed form of a tree.
use Rattle.std.specs.Prelude.{ℕ, Bool, true, false, ◌&&◌, ◌==◌, not, nat_lt, List, [], ◌∷◌, ◌++◌, map, codes, flat_map, decimal, if◌then◌else◌, Option, None, Some, unwrap_or}
use Rattle.std.specs.List.{join_with_byte}
use Rattle.tow_model.specs.declared.attribute.Piece.{Piece}
use Rattle.tow_model.specs.declared.action.Target.{Target}
use Rattle.tow_model.specs.declared.action.Target.TheVariants.{RelativePath, Query, Status, ResponseField, Context}
use Rattle.tow_model.specs.declared.action.Action.{Action}
use Rattle.tow_model.specs.declared.action.Action.TheVariants as actions
use Rattle.tow_model.specs.declared.attribute.Attribute.TheVariants as attributes
use Rattle.tow_model.specs.declared.predicate.Segment.{Segment}
use Rattle.tow_model.specs.declared.predicate.Segment.TheVariants.{Fixed, Bind}
use Rattle.tow_model.specs.declared.predicate.Test.{Test}
use Rattle.tow_model.specs.declared.predicate.Test.TheVariants as tests
use Rattle.tow_model.specs.declared.predicate.Predicate.{Predicate, fold-Predicate}
use Rattle.tow_model.specs.declared.predicate.Predicate.TheOpen.{Predicate-F, Is, Not, And, Or}
use Rattle.tow_model.specs.declared.statement.Statement.{Statement, fold-Statement}
use Rattle.tow_model.specs.declared.statement.Statement.TheOpen.{Statement-F, When, Act, Block}
use Rattle.tow_language.specs.declared.table.TestName.{TestName}
use Rattle.tow_language.specs.declared.table.TestName.TheVariants as test_names
use Rattle.tow_language.specs.declared.table.Handler.{Handler}
use Rattle.tow_language.specs.declared.table.Handler.TheVariants as handlers
use Rattle.tow_language.specs.Tokens.{are_pieces, last_byte}
use Rattle.tow_language.specs.Templates.{spelled_template, spelled_attribute, spelled_long}
use Rattle.tow_language.specs.Table.{Parameter, test_name, test_parameters, handler_name, handler_parameters}

-- the texts in a row, with `between` between each two
abbrev pub joined_by : List ℕ → List (List ℕ) → List ℕ
joined_by between [] = []
joined_by between (x ∷ []) = x
joined_by between (x ∷ y ∷ xs) = x ++ (between ++ joined_by between (y ∷ xs))

-- whether the bytes are one Word
abbrev pub is_word : List ℕ → Bool
is_word [] = false
is_word (b ∷ bs) = are_pieces false (b ∷ bs) []

-- a Word where the bytes are one, else in quotes
abbrev pub printed_text : List ℕ → List ℕ
printed_text bytes =
    if is_word bytes then bytes else codes "'" ++ (flat_map (λ b. if b == 39 then codes "\\'" else b ∷ []) bytes ++ codes "'")

-- a prefix or location gets a `/` behind it where it is empty or ends with a backslash
abbrev pub printed_prefix : List ℕ → List ℕ
printed_prefix bytes = printed_text (if last_byte 92 bytes == 92 then bytes ++ codes "/" else bytes)

-- no Word, and a quote behind it would be taken for one that is escaped
abbrev pub is_unquotable : List ℕ → Bool
is_unquotable bytes = not (is_word bytes) && last_byte 0 bytes == 92

-- Each attribute by its own short form. Where the closing quote would be lost, the last attribute that has a long form is spelled by that:
-- its `}` closes the `%{` or `${` before it that no short form closes, so that the spelling is a Word.
abbrev pub written_template : List Piece → List ℕ
written_template t =
    if is_unquotable (spelled_template t) then unwrap_or (spelled_long t) (spelled_template t) else spelled_template t

abbrev pub printed_template : List Piece → List ℕ
printed_template t = printed_text (written_template t)

abbrev pub printed_array : List (List ℕ) → List ℕ
printed_array texts = codes "{" ++ (joined_by (codes ", ") texts ++ codes "}")

abbrev pub spelled_segment : Segment → List ℕ
spelled_segment (Fixed bytes) = bytes
spelled_segment (Bind name) = codes "{" ++ (name ++ codes "}")

abbrev pub printed_match : List Segment → List ℕ
printed_match parts = printed_text (join_with_byte 47 (map spelled_segment parts))

abbrev pub printed_target : Target → List ℕ
printed_target RelativePath = printed_text (spelled_attribute attributes.RelativePath)
printed_target Query = printed_text (spelled_attribute attributes.Query)
printed_target Status = printed_text (spelled_attribute attributes.Status)
printed_target (ResponseField name) = printed_text (spelled_attribute (attributes.ResponseField name))
printed_target (Context name) = printed_text (spelled_attribute (attributes.Context name))

abbrev pub printed_truth : Bool → List ℕ
printed_truth true = codes "true"
printed_truth false = codes "false"

-- a call, with a value for each of its parameters
abbrev pub printed_pairs : List Parameter → List (List ℕ) → List (List ℕ)
printed_pairs [] values = []
printed_pairs (q ∷ qs) [] = []
printed_pairs (q ∷ qs) (v ∷ vs) = (q.name ++ (codes "=" ++ v)) ∷ printed_pairs qs vs

abbrev pub printed_call : List ℕ → List Parameter → List (List ℕ) → List ℕ
printed_call name [] values = name
printed_call name (q ∷ qs) values = name ++ (codes "(" ++ (joined_by (codes ", ") (printed_pairs (q ∷ qs) values) ++ codes ")"))

abbrev pub printed_test : Test → List ℕ
printed_test t = printed_as t
  where
    call_of : TestName → List (List ℕ) → List ℕ
    call_of name values = printed_call (test_name name) (test_parameters name) values

    printed_as : Test → List ℕ
    printed_as tests.True = call_of test_names.True []
    printed_as tests.False = call_of test_names.False []
    printed_as (tests.Path paths) = call_of test_names.Path (printed_array (map printed_text paths) ∷ [])
    printed_as (tests.Prefix paths) = call_of test_names.PathPrefix (printed_array (map printed_prefix paths) ∷ [])
    printed_as (tests.Suffix paths) = call_of test_names.PathSuffix (printed_array (map printed_text paths) ∷ [])
    printed_as (tests.PathTemplate parts value) = call_of test_names.PathTemplate (printed_match parts ∷ printed_template value ∷ [])
    printed_as (tests.Regex number pattern value) = call_of test_names.Regex (printed_text pattern ∷ printed_template value ∷ [])
    printed_as (tests.Method methods) = call_of test_names.Method (printed_array (map printed_text methods) ∷ [])
    printed_as (tests.Equals values) = call_of test_names.Equals (printed_array (map printed_template values) ∷ [])
    printed_as (tests.Contains value texts) = call_of test_names.Contains (printed_template value ∷ printed_array (map printed_text texts) ∷ [])
    printed_as (tests.Exists value) = call_of test_names.Exists (printed_template value ∷ [])

abbrev pub printed_action : Action → List ℕ
printed_action a = printed_as a
  where
    call_of : Handler → List (List ℕ) → List ℕ
    call_of name values = printed_call (handler_name name) (handler_parameters name) values

    printed_as : Action → List ℕ
    printed_as (actions.Set target value) = call_of handlers.Set (printed_target target ∷ printed_template value ∷ [])
    printed_as (actions.Clear target) = call_of handlers.Clear (printed_target target ∷ [])
    printed_as (actions.Rewrite value) = call_of handlers.Rewrite (printed_template value ∷ [])
    printed_as (actions.Redirect value) = call_of handlers.Redirect (printed_template value ∷ [])
    printed_as (actions.ResponseCode status) = call_of handlers.ResponseCode (decimal status ∷ [])
    printed_as (actions.Header name value replace) = call_of handlers.Header (printed_text name ∷ printed_template value ∷ printed_truth replace ∷ [])
    printed_as (actions.AllowedMethods methods) = call_of handlers.AllowedMethods (printed_array (map printed_text methods) ∷ [])
    printed_as (actions.RequestLimit number most) = call_of handlers.RequestLimit (decimal most ∷ [])
    printed_as (actions.Resource location listing) = call_of handlers.Resource (printed_prefix location ∷ printed_truth listing ∷ [])
    printed_as actions.Blocking = call_of handlers.Blocking []
    printed_as (actions.AccessLog number format) = call_of handlers.AccessLog (printed_template format ∷ [])
    printed_as actions.Echo = call_of handlers.Echo []
    printed_as actions.Restart = codes "restart"
    printed_as actions.Done = codes "done"

abbrev pub in_parentheses : Bool → List ℕ → List ℕ
in_parentheses true text = codes "(" ++ (text ++ codes ")")
in_parentheses false text = text

-- a predicate at a place that binds at most so tightly: 0 takes `or` and `and`, 1 takes `and`, 2 takes neither
abbrev pub predicate_by : Predicate-F (ℕ → List ℕ) → ℕ → List ℕ
predicate_by (Is t) place = printed_test t
predicate_by (Not p) place = codes "not " ++ p 2
predicate_by (And a b) place = in_parentheses (nat_lt 1 place) (a 1 ++ (codes " and " ++ b 2))
predicate_by (Or a b) place = in_parentheses (nat_lt 0 place) (a 0 ++ (codes " or " ++ b 1))

abbrev pub printed_predicate : Predicate → List ℕ
printed_predicate p = fold-Predicate (ℕ → List ℕ) predicate_by p 0

abbrev pub printed_else : Option (List ℕ) → List ℕ
printed_else None = []
printed_else (Some s) = codes " else " ++ s

abbrev pub printed_block : List (List ℕ) → List ℕ
printed_block [] = codes "{ }"
printed_block (s ∷ ss) = codes "{ " ++ (joined_by (codes "; ") (s ∷ ss) ++ codes " }")

abbrev pub statement_by : Statement-F (List ℕ) → List ℕ
statement_by (When p t other) = printed_predicate p ++ (codes " -> " ++ (t ++ printed_else other))
statement_by (Act a) = printed_action a
statement_by (Block ss) = printed_block ss

abbrev pub printed_statement : Statement → List ℕ
printed_statement = fold-Statement (List ℕ) statement_by

-- each outermost statement and a line end
abbrev pub print_of : List Statement → List ℕ
print_of tree = flat_map (λ s. printed_statement s ++ 10 ∷ []) tree
