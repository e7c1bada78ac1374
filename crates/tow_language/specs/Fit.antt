-- What a derivation stands for by the tables, and the first call that does not fit them.
use Rattle.std.specs.Prelude.{◌≡◌, ℕ, ◌+◌, Bool, true, false, not, ◌&&◌, nat_le, List, [], ◌∷◌, ◌++◌, length, map, codes, bytes_eq, find, if◌then◌else◌, Option, None, Some, Result, Ok, Err, option_map, is_some}
use Rattle.std.specs.List.{list_all}
use Rattle.std.specs.Map.{lookup}
use Rattle.std.specs.Option.{ok_or, option_or}
use Rattle.http_header.specs.FieldName.{is_field_name}
use Rattle.http_header.specs.Token.{lowercase, token_test}
use Rattle.tow_language.specs.declared.kind.Kind.{Kind}
use Rattle.tow_language.specs.declared.kind.Kind.TheVariants.{UnknownName, BadParameter, BadAttribute, BadTarget, TooManyLimits}
use Rattle.tow_model.specs.declared.attribute.Piece.{Piece}
use Rattle.tow_model.specs.declared.attribute.Piece.TheVariants.{Value}
use Rattle.tow_model.specs.declared.action.Target.{Target}
use Rattle.tow_model.specs.declared.action.Action.{Action}
use Rattle.tow_model.specs.declared.action.Action.TheVariants as actions
use Rattle.tow_model.specs.declared.predicate.Test.{Test}
use Rattle.tow_model.specs.declared.predicate.Test.TheVariants as tests
use Rattle.tow_model.specs.declared.predicate.Predicate.{Predicate}
use Rattle.tow_model.specs.declared.predicate.Predicate.TheVariants.{Is, Not, And, Or}
use Rattle.tow_model.specs.declared.statement.Statement.{Statement}
use Rattle.tow_model.specs.declared.statement.Statement.TheVariants.{When, Act, Block}
use Rattle.tow_language.specs.declared.table.TestName.{TestName}
use Rattle.tow_language.specs.declared.table.TestName.TheVariants as test_names
use Rattle.tow_language.specs.declared.table.Handler.{Handler}
use Rattle.tow_language.specs.declared.table.Handler.TheVariants as handlers
use Rattle.tow_language.specs.declared.table.Shape.{Shape}
use Rattle.tow_language.specs.declared.table.Shape.TheVariants as shapes
use Rattle.tow_language.specs.declared.table.Given.{Given}
use Rattle.tow_language.specs.declared.table.Given.TheVariants as givens
use Rattle.tow_language.specs.Raw.{Written, RawValue, one, array, RawParameters, unnamed, named, RawCall, RawPredicate, alone, or_more, RawConjunction, single, and_more, RawFactor, test, negated, grouped, RawTarget, handler, restart, done, block, RawStatement, act, when, when_else, RawList, none, more}
use Rattle.tow_language.specs.Templates.{template_of, common, combined}
use Rattle.tow_model.specs.Paths.{rooted}
use Rattle.tow_language.specs.Shapes.{prefix_of, number_of, status_of, truth_of, segments_of, all_some, target_of, is_kept_field}
use Rattle.tow_language.specs.Table.{Parameter, test_named, test_parameters, handler_named, handler_parameters, takes_array}

-- a fault, and its place in the text
pub record TextFault : Type 0 where
  pub kind : Kind
  pub place : ℕ

abbrev pub fault : {A : Type 0} → Kind → ℕ → Result A TextFault
fault kind place = Err (record { kind = kind; place = place })

-- the value, or a fault where there is none
abbrev pub wanted : {A : Type 0} → Option A → Kind → ℕ → Result A TextFault
wanted o kind place = ok_or o (record { kind = kind; place = place })

-- the second where the first gives a value; else the first's fault
infixl 10 ◌>>=◌
abbrev pub ◌>>=◌ : {A B : Type 0} → Result A TextFault → (A → Result B TextFault) → Result B TextFault
(Ok x) >>= f = f x
(Err e) >>= f = Err e

-- the place of a value
abbrev pub place_of : RawValue → ℕ
place_of (one w) = w.place
place_of (array place ws) = place

-- one text
abbrev pub single_text : RawValue → Result (List ℕ) TextFault
single_text (one w) = Ok w.bytes
single_text (array place ws) = fault BadParameter place

-- the texts of an array that is not empty; one text is an array of one
abbrev pub some_texts : RawValue → Result (List (List ℕ)) TextFault
some_texts (one w) = Ok (w.bytes ∷ [])
some_texts (array place []) = fault BadParameter place
some_texts (array place (w ∷ ws)) = Ok (map (λ (x : Written). x.bytes) (w ∷ ws))

abbrev pub template_at : ℕ → List ℕ → Result (List Piece) TextFault
template_at place text = template_in (template_of text)
  where
    template_in : Result (List Piece) ℕ → Result (List Piece) TextFault
    template_in (Ok t) = Ok t
    template_in (Err e) = fault BadAttribute place

abbrev pub templates_at : ℕ → List (List ℕ) → Result (List (List Piece)) TextFault
templates_at place [] = Ok []
templates_at place (text ∷ texts) = do
  t ← template_at place text
  ts ← templates_at place texts
  Ok (t ∷ ts)

-- one attribute that may be written
abbrev pub writable_at : ℕ → List Piece → Result Target TextFault
writable_at place (Value a ∷ []) = wanted (target_of a) BadTarget place
writable_at place other = fault BadParameter place

-- the name of a field that may be written
abbrev pub field_at : ℕ → List ℕ → Result (List ℕ) TextFault
field_at place text =
    if not (is_field_name text) then fault BadAttribute place else
    (if is_kept_field (lowercase text) then fault BadTarget place else Ok (lowercase text))

abbrev pub format_at : ℕ → List ℕ → Result (List Piece) TextFault
format_at place text =
    if bytes_eq text (codes "common") then Ok common else (if bytes_eq text (codes "combined") then Ok combined else template_at place text)

abbrev pub is_method : List ℕ → Bool
is_method text = nat_le 1 (length text) && list_all token_test text

-- what a value of this shape stands for: its shape, then its attributes, then its target
abbrev pub given_of : Shape → RawValue → Result Given TextFault
given_of shapes.Pattern v = do
  text ← single_text v
  Ok (givens.Pattern text (place_of v))
given_of shapes.Texts v = do
  texts ← some_texts v
  Ok (givens.Texts texts)
given_of shapes.Paths v = do
  texts ← some_texts v
  Ok (givens.Texts (map rooted texts))
given_of shapes.Prefixes v = do
  texts ← some_texts v
  Ok (givens.Texts (map prefix_of texts))
given_of shapes.Location v = do
  text ← single_text v
  Ok (givens.Text (prefix_of text))
given_of shapes.Match v = do
  text ← single_text v
  parts ← wanted (segments_of text) BadParameter (place_of v)
  Ok (givens.Segments parts)
given_of shapes.Tokens v = do
  texts ← some_texts v
  if list_all is_method texts then Ok (givens.Texts texts) else fault BadParameter (place_of v)
given_of shapes.OneTemplate v = do
  text ← single_text v
  t ← template_at (place_of v) text
  Ok (givens.Template t)
given_of shapes.Templates v = do
  texts ← some_texts v
  ts ← templates_at (place_of v) texts
  Ok (givens.Templates ts)
given_of shapes.Format v = do
  text ← single_text v
  t ← format_at (place_of v) text
  Ok (givens.Template t)
given_of shapes.Writable v = do
  text ← single_text v
  t ← template_at (place_of v) text
  x ← writable_at (place_of v) t
  Ok (givens.Target x)
given_of shapes.FieldName v = do
  text ← single_text v
  name ← field_at (place_of v) text
  Ok (givens.Text name)
given_of (shapes.Number low high) v = do
  text ← single_text v
  n ← wanted (number_of low high text) BadParameter (place_of v)
  Ok (givens.Number n)
given_of shapes.Status v = do
  text ← single_text v
  n ← wanted (status_of text) BadParameter (place_of v)
  Ok (givens.Number n)
given_of shapes.Truth v = do
  text ← single_text v
  b ← wanted (truth_of text) BadParameter (place_of v)
  Ok (givens.Truth b)

abbrev pub text_of : RawValue → Option Written
text_of (one w) = Some w
text_of (array place ws) = None

-- several values as one array, where the first stands
abbrev pub gathered : ℕ → List RawValue → Result RawValue TextFault
gathered place vs = wanted (option_map (array place) (all_some (map text_of vs))) BadParameter place

-- the parameters with their names; without names they are the first of the table
abbrev pub paired : List Parameter → RawParameters → Result (List (Written × RawValue)) TextFault
paired qs (named ps) = Ok ps
paired qs (unnamed []) = Ok []
paired [] (unnamed (v ∷ vs)) = fault BadParameter (place_of v)
paired (q ∷ qs) (unnamed (v ∷ [])) = Ok ((record { bytes = q.name; place = place_of v }, v) ∷ [])
paired (q ∷ qs) (unnamed (v ∷ w ∷ vs)) =
    if takes_array q.shape then (gathered (place_of v) (v ∷ w ∷ vs) >>= λ a. Ok ((record { bytes = q.name; place = place_of v }, a) ∷ []))
    else fault BadParameter (place_of w)

-- what was found so far, by its names
abbrev pub Found : Type 0
Found = List (List ℕ × Given)

-- the parameter of this name, unless it was found before
abbrev pub unused : List Parameter → Found → List ℕ → Option Parameter
unused qs found name = if is_some (lookup (bytes_eq name) found) then None else find (λ (q : Parameter). bytes_eq q.name name) qs

-- each written parameter in order, behind those that were found
abbrev pub found_of : List Parameter → Found → List (Written × RawValue) → Result Found TextFault
found_of qs found [] = Ok found
found_of qs found (p ∷ ps) = do
  q ← wanted (unused qs found p.0.bytes) BadParameter p.0.place
  g ← given_of q.shape p.1
  found_of qs (found ++ (q.name, g) ∷ []) ps

-- the parameters in the table's order, with the defaults of those that are not written
abbrev pub filled : List Parameter → Found → ℕ → Result (List Given) TextFault
filled [] found place = Ok []
filled (q ∷ qs) found place = do
  g ← wanted (option_or (lookup (bytes_eq q.name) found) q.default) BadParameter place
  gs ← filled qs found place
  Ok (g ∷ gs)

-- what a call's parameters stand for
abbrev pub givens_of : List Parameter → RawCall → Result (List Given) TextFault
givens_of qs c = do
  ps ← paired qs c.parameters
  found ← found_of qs [] ps
  filled qs found c.name.place

-- how many limits and logs there are so far, and the places of the patterns
pub record Counts : Type 0 where
  pub limits : ℕ
  pub logs : ℕ
  pub patterns : List ℕ

-- the test of this name with what its parameters stand for
abbrev pub made_test : TestName → List Given → Counts → Test × Counts
made_test test_names.True [] n = (tests.True, n)
made_test test_names.False [] n = (tests.False, n)
made_test test_names.Path (givens.Texts paths ∷ []) n = (tests.Path paths, n)
made_test test_names.PathPrefix (givens.Texts paths ∷ []) n = (tests.Prefix paths, n)
made_test test_names.PathSuffix (givens.Texts paths ∷ []) n = (tests.Suffix paths, n)
made_test test_names.PathTemplate (givens.Segments parts ∷ givens.Template value ∷ []) n = (tests.PathTemplate parts value, n)
made_test test_names.Regex (givens.Pattern pattern place ∷ givens.Template value ∷ []) n =
    (tests.Regex (length n.patterns) pattern value, record n { patterns = n.patterns ++ place ∷ [] })
made_test test_names.Method (givens.Texts methods ∷ []) n = (tests.Method methods, n)
made_test test_names.Equals (givens.Templates values ∷ []) n = (tests.Equals values, n)
made_test test_names.Contains (givens.Template value ∷ givens.Texts texts ∷ []) n = (tests.Contains value texts, n)
made_test test_names.Exists (givens.Template value ∷ []) n = (tests.Exists value, n)
-- by the table no call comes here
made_test name other n = (tests.False, n)

abbrev pub made_action : Handler → List Given → Counts → Action × Counts
made_action handlers.Set (givens.Target target ∷ givens.Template value ∷ []) n = (actions.Set target value, n)
made_action handlers.Clear (givens.Target target ∷ []) n = (actions.Clear target, n)
made_action handlers.Rewrite (givens.Template value ∷ []) n = (actions.Rewrite value, n)
made_action handlers.Redirect (givens.Template value ∷ []) n = (actions.Redirect value, n)
made_action handlers.ResponseCode (givens.Number status ∷ []) n = (actions.ResponseCode status, n)
made_action handlers.Header (givens.Text name ∷ givens.Template value ∷ givens.Truth replace ∷ []) n = (actions.Header name value replace, n)
made_action handlers.AllowedMethods (givens.Texts methods ∷ []) n = (actions.AllowedMethods methods, n)
made_action handlers.RequestLimit (givens.Number most ∷ []) n = (actions.RequestLimit n.limits most, record n { limits = n.limits + 1 })
made_action handlers.Resource (givens.Text location ∷ givens.Truth listing ∷ []) n = (actions.Resource location listing, n)
made_action handlers.Blocking [] n = (actions.Blocking, n)
made_action handlers.AccessLog (givens.Template format ∷ []) n = (actions.AccessLog n.logs format, record n { logs = n.logs + 1 })
made_action handlers.Echo [] n = (actions.Echo, n)
-- by the table no call comes here
made_action name other n = (actions.Done, n)

abbrev pub is_limit : Handler → Bool
is_limit handlers.RequestLimit = true
is_limit other = false

abbrev pub Fitted : Type 0 → Type 0
Fitted A = Result (A × Counts) TextFault

abbrev pub fit_test : RawCall → Counts → Fitted Test
fit_test c n = do
  name ← wanted (test_named c.name.bytes) UnknownName c.name.place
  gs ← givens_of (test_parameters name) c
  Ok (made_test name gs n)

abbrev pub fit_action : RawCall → Counts → Fitted Action
fit_action c n = do
  name ← wanted (handler_named c.name.bytes) UnknownName c.name.place
  gs ← givens_of (handler_parameters name) c
  if is_limit name && nat_le 16 n.limits then fault TooManyLimits c.name.place else Ok (made_action name gs n)

abbrev mutual
  -- the predicate, joined to the left with what stands before it
  pub fit_predicate : RawPredicate → Counts → Fitted Predicate
  fit_predicate (alone c) n = fit_conjunction c n
  fit_predicate (or_more c p) n = do
    x ← fit_conjunction c n
    fit_or p x.0 x.1

  pub fit_or : RawPredicate → Predicate → Counts → Fitted Predicate
  fit_or (alone c) left n = do
    x ← fit_conjunction c n
    Ok (Or left x.0, x.1)
  fit_or (or_more c p) left n = do
    x ← fit_conjunction c n
    fit_or p (Or left x.0) x.1

  pub fit_conjunction : RawConjunction → Counts → Fitted Predicate
  fit_conjunction (single f) n = fit_factor f n
  fit_conjunction (and_more f c) n = do
    x ← fit_factor f n
    fit_and c x.0 x.1

  pub fit_and : RawConjunction → Predicate → Counts → Fitted Predicate
  fit_and (single f) left n = do
    x ← fit_factor f n
    Ok (And left x.0, x.1)
  fit_and (and_more f c) left n = do
    x ← fit_factor f n
    fit_and c (And left x.0) x.1

  pub fit_factor : RawFactor → Counts → Fitted Predicate
  fit_factor (test c) n = do
    x ← fit_test c n
    Ok (Is x.0, x.1)
  fit_factor (negated f) n = do
    x ← fit_factor f n
    Ok (Not x.0, x.1)
  fit_factor (grouped p) n = fit_predicate p n

abbrev mutual
  pub fit_target : RawTarget → Counts → Fitted Statement
  fit_target (handler c) n = do
    x ← fit_action c n
    Ok (Act x.0, x.1)
  fit_target restart n = Ok (Act actions.Restart, n)
  fit_target done n = Ok (Act actions.Done, n)
  fit_target (block raw) n = do
    x ← fit_list raw n
    Ok (Block x.0, x.1)

  pub fit_statement : RawStatement → Counts → Fitted Statement
  fit_statement (act t) n = fit_target t n
  fit_statement (when p t) n = do
    x ← fit_predicate p n
    y ← fit_target t x.1
    Ok (When x.0 y.0 None, y.1)
  fit_statement (when_else p t s) n = do
    x ← fit_predicate p n
    y ← fit_target t x.1
    z ← fit_statement s y.1
    Ok (When x.0 y.0 (Some z.0), z.1)

  pub fit_list : RawList → Counts → Fitted (List Statement)
  fit_list none n = Ok ([], n)
  fit_list (more s raw) n = do
    x ← fit_statement s n
    y ← fit_list raw x.1
    Ok (x.0 ∷ y.0, y.1)

abbrev pub no_counts : Counts
no_counts = record { limits = 0; logs = 0; patterns = [] }

-- the statements that a derivation stands for, or its first fault
abbrev pub fit : RawList → Fitted (List Statement)
fit raw = fit_list raw no_counts

-- the statements of a derivation
abbrev pub Fits : RawList → List Statement → Type 0
Fits raw tree = (n : Counts) × (fit raw ≡ Ok (tree, n))
