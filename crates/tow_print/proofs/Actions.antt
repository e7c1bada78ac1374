-- The actions that are printed as calls that fit them again.
use Rattle.std.specs.Prelude.{◌≡◌, ℕ, ◌+◌, Bool, true, false, not, ◌&&◌, nat_le, List, [], ◌∷◌, ◌++◌, map, length, codes, decimal, if◌then◌else◌, Some, None, Ok}
use Rattle.std.specs.List.{list_all}
use Rattle.std.proofs.Common.{refl, sym, ap, ◌∙◌, subst}
use Rattle.http_header.specs.FieldName.{is_field_name}
use Rattle.http_header.specs.Token.{lowercase}
use Rattle.tow_language.specs.declared.kind.Kind.TheVariants.{UnknownName, BadParameter, BadAttribute, BadTarget, TooManyLimits}
use Rattle.tow_model.specs.declared.attribute.Attribute.{Attribute}
use Rattle.tow_model.specs.declared.attribute.Piece.{Piece}
use Rattle.tow_model.specs.declared.attribute.Piece.TheVariants.{Value}
use Rattle.tow_model.specs.declared.action.Target.{Target}
use Rattle.tow_model.specs.declared.action.Action.{Action}
use Rattle.tow_model.specs.declared.action.Action.TheVariants as actions
use Rattle.tow_language.specs.declared.table.Handler.{Handler}
use Rattle.tow_language.specs.declared.table.Handler.TheVariants as handlers
use Rattle.tow_language.specs.declared.table.Given.{Given}
use Rattle.tow_language.specs.declared.table.Given.TheVariants as givens
use Rattle.tow_language.specs.declared.table.Shape.TheVariants as shapes
use Rattle.tow_language.specs.Raw.{Written, RawValue, one, named, unnamed, RawCall}
use Rattle.tow_language.specs.Grammar.{is_reserved}
use Rattle.tow_language.specs.Table.{Parameter, handler_name, handler_named, handler_parameters}
use Rattle.tow_language.specs.Templates.{template_of, spelled_attribute, common}
use Rattle.tow_language.specs.Shapes.{status_of, number_of, prefix_of, target_of, is_kept_field}
use Rattle.tow_language.specs.Fit.{Counts, Fitted, ◌>>=◌, fault, wanted, given_of, unused, filled, givens_of, made_action, is_limit, is_method, fit_action, template_at, writable_at, field_at, format_at}
use Rattle.tow_language.specs.Printed.{is_word, printed_text, written_template, printed_template, printed_prefix, printed_array, printed_target, printed_truth, printed_action}
use Rattle.tow_print.proofs.Predicates.{Same, bind_is}
use Rattle.tow_print.proofs.Texts.{IsFine, written}
use Rattle.tow_print.proofs.Statements.{ActionReads}
use Rattle.tow_print.proofs.Values.{AreFine, ValueReads, IsOne, IsArray, IsPair, ArePairs, AreThreePairs, text_reads, word_reads, array_reads, one_pair, two_pairs, three_pairs, bare_reads, call_reads}
use Rattle.tow_print.proofs.Fits.{givens_one, givens_two, givens_three, template_is, template_given, with_slash}

-- the action, unless it is one limit too many
abbrev limited : Handler → List Given → Counts → ℕ → Fitted Action
limited name gs m place = if is_limit name && nat_le 16 m.limits then fault TooManyLimits place else Ok (made_action name gs m)

bare_action : (name : Handler) (a : Action) (n m : Counts) → is_word (handler_name name) ≡ true → is_reserved (handler_name name) ≡ false →
    ((place : ℕ) → fit_action (record { name = written (handler_name name) place; parameters = unnamed [] }) m ≡ Ok (a, m)) → Same n m → ActionReads n m a (handler_name name)
bare_action name a n m is free fits same at gap after white end =
    let b = bare_reads (handler_name name) is free at gap after white end in
    record { raw = record { name = written (handler_name name) b.place; parameters = unnamed [] }; counts = m; shown = b.shown; fits = fits b.place; same = same; within = tt }

pub blocking_reads : (n m : Counts) → Same n m → ActionReads n m actions.Blocking (printed_action actions.Blocking)
blocking_reads n m same = bare_action handlers.Blocking actions.Blocking n m refl refl (λ place. refl) same

pub echo_reads : (n m : Counts) → Same n m → ActionReads n m actions.Echo (printed_action actions.Echo)
echo_reads n m same = bare_action handlers.Echo actions.Echo n m refl refl (λ place. refl) same

-- a call with this name and what its parameters stand for
call_fits : (name : Handler) (qs : List Parameter) (gs : List Given) (a : Action) (m k : Counts) (place : ℕ) (call : RawCall) → call.name ≡ written (handler_name name) place →
    handler_named (handler_name name) ≡ Some name → handler_parameters name ≡ qs → givens_of qs call ≡ Ok gs → limited name gs m place ≡ Ok (a, k) → fit_action call m ≡ Ok (a, k)
call_fits name qs gs a m k place call is called takes given made =
    subst (λ (w : Written). (wanted (handler_named w.bytes) UnknownName w.place >>= λ h. givens_of (handler_parameters h) call >>= λ xs. limited h xs m w.place) ≡ Ok (a, k)) (sym is)
    (bind_is (wanted (handler_named (handler_name name)) UnknownName place) (λ h. givens_of (handler_parameters h) call >>= λ xs. limited h xs m place) name (Ok (a, k))
    (ap (λ o. wanted o UnknownName place) called)
    (bind_is (givens_of (handler_parameters name) call) (λ xs. limited name xs m place) gs (Ok (a, k)) (ap (λ xs. givens_of xs call) takes ∙ given) made))

-- an action of one parameter
record OneAction (name : Handler) (q : Parameter) (P : RawValue → Type 0) (a : Action) (n m : Counts) : Type 0 where
  is : is_word (handler_name name) ≡ true
  free : is_reserved (handler_name name) ≡ false
  word : is_word q.name ≡ true
  called : handler_named (handler_name name) ≡ Some name
  takes : handler_parameters name ≡ q ∷ []
  unused_first : unused (q ∷ []) [] q.name ≡ Some q
  fills : (g : Given) (place : ℕ) → filled (q ∷ []) ((q.name, g) ∷ []) place ≡ Ok (g ∷ [])
  stands : (v : RawValue) → P v → (g : Given) × (k : Counts) × (given_of q.shape v ≡ Ok g) × ((place : ℕ) → limited name (g ∷ []) m place ≡ Ok (a, k)) × Same n k

one_action : (name : Handler) (q : Parameter) (P : RawValue → Type 0) (printed : List ℕ) (a : Action) (n m : Counts) → OneAction name q P a n m → ValueReads P printed →
    ActionReads n m a (handler_name name ++ (codes "(" ++ ((q.name ++ (codes "=" ++ printed)) ++ codes ")")))
one_action name q P printed a n m o reads at gap after white end =
    let b = call_reads (IsPair q.name P) (handler_name name) (q.name ++ (codes "=" ++ printed)) o.is o.free (one_pair P q.name printed o.word reads) at gap after white end in
    let call : RawCall = record { name = written (handler_name name) b.place; parameters = named b.pairs } in
    let s = o.stands b.holds.1 b.holds.3 in
    let given : givens_of (q ∷ []) call ≡ Ok (s.0 ∷ []) =
    subst (λ (ps : List (Written × RawValue)). givens_of (q ∷ []) (record { name = written (handler_name name) b.place; parameters = named ps }) ≡ Ok (s.0 ∷ [])) (sym b.holds.2)
    (givens_one q (written (handler_name name) b.place) b.holds.0 b.holds.1 s.0 o.unused_first (o.fills s.0 b.place) s.2) in
    record {
      raw = call;
      counts = s.1;
      shown = b.shown;
      fits = call_fits name (q ∷ []) (s.0 ∷ []) a m s.1 b.place call refl o.called o.takes given (s.3 b.place);
      same = s.4;
      within = tt;
    }

pub rewrite_reads : (n m : Counts) (t : List Piece) → IsFine (written_template t) → template_of (written_template t) ≡ Ok t → Same n m → ActionReads n m (actions.Rewrite t) (printed_action (actions.Rewrite t))
rewrite_reads n m t fine again same =
    one_action handlers.Rewrite (record { name = codes "value"; shape = shapes.OneTemplate; default = None }) (IsOne (written_template t)) (printed_template t) (actions.Rewrite t) n m
    (record {
      is = refl;
      free = refl;
      word = refl;
      called = refl;
      takes = refl;
      unused_first = refl;
      fills = λ g place. refl;
      stands = λ v x. (givens.Template t, m, template_given t v again x, λ place. refl, same);
    }) (text_reads (written_template t) fine)

pub redirect_reads : (n m : Counts) (t : List Piece) → IsFine (written_template t) → template_of (written_template t) ≡ Ok t → Same n m → ActionReads n m (actions.Redirect t) (printed_action (actions.Redirect t))
redirect_reads n m t fine again same =
    one_action handlers.Redirect (record { name = codes "value"; shape = shapes.OneTemplate; default = None }) (IsOne (written_template t)) (printed_template t) (actions.Redirect t) n m
    (record {
      is = refl;
      free = refl;
      word = refl;
      called = refl;
      takes = refl;
      unused_first = refl;
      fills = λ g place. refl;
      stands = λ v x. (givens.Template t, m, template_given t v again x, λ place. refl, same);
    }) (text_reads (written_template t) fine)

tokens_given : (b : List ℕ) (bs : List (List ℕ)) (v : RawValue) → list_all is_method (b ∷ bs) ≡ true → IsArray (b ∷ bs) v → given_of shapes.Tokens v ≡ Ok (givens.Texts (b ∷ bs))
tokens_given b bs v tokens (place, [], e, are) = absurd (cc)
tokens_given b bs v tokens (place, w ∷ ws, e, are) =
    subst (λ k. given_of shapes.Tokens k ≡ Ok (givens.Texts (b ∷ bs))) (sym e)
    (ap (λ (xs : List (List ℕ)). if list_all is_method xs then Ok (givens.Texts xs) else fault BadParameter place) are
    ∙ ap (λ c. if c then Ok (givens.Texts (b ∷ bs)) else fault BadParameter place) tokens)

pub allowed_reads : (n m : Counts) (b : List ℕ) (bs : List (List ℕ)) → AreFine (b ∷ bs) → list_all is_method (b ∷ bs) ≡ true → Same n m →
    ActionReads n m (actions.AllowedMethods (b ∷ bs)) (printed_action (actions.AllowedMethods (b ∷ bs)))
allowed_reads n m b bs fine tokens same =
    one_action handlers.AllowedMethods (record { name = codes "methods"; shape = shapes.Tokens; default = None }) (IsArray (b ∷ bs)) (printed_array (map printed_text (b ∷ bs))) (actions.AllowedMethods (b ∷ bs)) n m
    (record {
      is = refl;
      free = refl;
      word = refl;
      called = refl;
      takes = refl;
      unused_first = refl;
      fills = λ g place. refl;
      stands = λ v x. (givens.Texts (b ∷ bs), m, tokens_given b bs v tokens x, λ place. refl, same);
    }) (array_reads b bs fine)

pub target_given : (x : Target) (a : Attribute) (v : RawValue) → target_of a ≡ Some x → template_of (spelled_attribute a) ≡ Ok (Value a ∷ []) → IsOne (spelled_attribute a) v →
    given_of shapes.Writable v ≡ Ok (givens.Target x)
target_given x a v target again (place, e) =
    subst (λ k. given_of shapes.Writable k ≡ Ok (givens.Target x)) (sym e)
    (bind_is (template_at place (spelled_attribute a)) (λ t. writable_at place t >>= λ y. Ok (givens.Target y)) (Value a ∷ []) (Ok (givens.Target x)) (template_is place (spelled_attribute a) (Value a ∷ []) again)
    (bind_is (wanted (target_of a) BadTarget place) (λ y. Ok (givens.Target y)) x (Ok (givens.Target x)) (ap (λ o. wanted o BadTarget place) target) refl))

-- a number that is read from its decimal
pub response_reads : (n m : Counts) (s : ℕ) → is_word (decimal s) ≡ true → status_of (decimal s) ≡ Some s → Same n m → ActionReads n m (actions.ResponseCode s) (printed_action (actions.ResponseCode s))
response_reads n m s word again same =
    one_action handlers.ResponseCode (record { name = codes "value"; shape = shapes.Status; default = None }) (IsOne (decimal s)) (decimal s) (actions.ResponseCode s) n m
    (record {
      is = refl;
      free = refl;
      word = refl;
      called = refl;
      takes = refl;
      unused_first = refl;
      fills = λ g place. refl;
      stands = λ v x. (givens.Number s, m, status_given v x, λ place. refl, same);
    }) (word_reads (decimal s) word)
  where
    status_given : (v : RawValue) → IsOne (decimal s) v → given_of shapes.Status v ≡ Ok (givens.Number s)
    status_given v (place, e) =
        subst (λ k. given_of shapes.Status k ≡ Ok (givens.Number s)) (sym e)
        (bind_is (wanted (status_of (decimal s)) BadParameter place) (λ k. Ok (givens.Number k)) s (Ok (givens.Number s)) (ap (λ o. wanted o BadParameter place) again) refl)

-- the limit gets the number that it had; n are the counts before it
pub limit_reads : (n i m : Counts) (most : ℕ) → is_word (decimal most) ≡ true → number_of 1 65535 (decimal most) ≡ Some most → nat_le 16 n.limits ≡ false → Same n m →
    (i.limits ≡ n.limits + 1) × (i.logs ≡ n.logs) × (length i.patterns ≡ length n.patterns) → ActionReads i m (actions.RequestLimit n.limits most) (printed_action (actions.RequestLimit n.limits most))
limit_reads n i m most word again few same more =
    one_action handlers.RequestLimit (record { name = codes "requests"; shape = shapes.Number 1 65535; default = None }) (IsOne (decimal most)) (decimal most) (actions.RequestLimit n.limits most) i m
    (record {
      is = refl;
      free = refl;
      word = refl;
      called = refl;
      takes = refl;
      unused_first = refl;
      fills = λ g place. refl;
      stands = λ v x. (
        givens.Number most,
        record m { limits = m.limits + 1 },
        number_given v x,
        made,
        record { limits = more.0 ∙ ap (λ c. c + 1) same.limits; logs = more.1 ∙ same.logs; patterns = more.2 ∙ same.patterns },
      );
    }) (word_reads (decimal most) word)
  where
    number_given : (v : RawValue) → IsOne (decimal most) v → given_of (shapes.Number 1 65535) v ≡ Ok (givens.Number most)
    number_given v (place, e) =
        subst (λ k. given_of (shapes.Number 1 65535) k ≡ Ok (givens.Number most)) (sym e)
        (bind_is (wanted (number_of 1 65535 (decimal most)) BadParameter place) (λ k. Ok (givens.Number k)) most (Ok (givens.Number most)) (ap (λ o. wanted o BadParameter place) again) refl)

    made : (place : ℕ) → limited handlers.RequestLimit (givens.Number most ∷ []) m place ≡ Ok (actions.RequestLimit n.limits most, record m { limits = m.limits + 1 })
    made place =
        ap (λ (c : Bool). if c then fault TooManyLimits place else Ok (made_action handlers.RequestLimit (givens.Number most ∷ []) m)) (ap (nat_le 16) (sym same.limits) ∙ few)
        ∙ ap (λ (c : ℕ). Ok (actions.RequestLimit c most, record m { limits = m.limits + 1 })) (sym same.limits)

-- an attribute that may be written
pub clear_reads : (n m : Counts) (x : Target) (a : Attribute) → printed_target x ≡ printed_text (spelled_attribute a) → target_of a ≡ Some x → IsFine (spelled_attribute a) →
    template_of (spelled_attribute a) ≡ Ok (Value a ∷ []) → Same n m → ActionReads n m (actions.Clear x) (printed_action (actions.Clear x))
clear_reads n m x a printed target fine again same =
    one_action handlers.Clear (record { name = codes "attribute"; shape = shapes.Writable; default = None }) (IsOne (spelled_attribute a)) (printed_target x) (actions.Clear x) n m
    (record {
      is = refl;
      free = refl;
      word = refl;
      called = refl;
      takes = refl;
      unused_first = refl;
      fills = λ g place. refl;
      stands = λ v y. (givens.Target x, m, target_given x a v target again y, λ place. refl, same);
    }) (subst (λ k. ValueReads (IsOne (spelled_attribute a)) k) (sym printed) (text_reads (spelled_attribute a) fine))

-- an action of two parameters
record TwoAction (name : Handler) (q r : Parameter) (P Q : RawValue → Type 0) (a : Action) (n m : Counts) : Type 0 where
  is : is_word (handler_name name) ≡ true
  free : is_reserved (handler_name name) ≡ false
  word : is_word q.name ≡ true
  next : is_word r.name ≡ true
  called : handler_named (handler_name name) ≡ Some name
  takes : handler_parameters name ≡ q ∷ r ∷ []
  unused_first : unused (q ∷ r ∷ []) [] q.name ≡ Some q
  unused_next : (g : Given) → unused (q ∷ r ∷ []) ((q.name, g) ∷ []) r.name ≡ Some r
  fills : (g h : Given) (place : ℕ) → filled (q ∷ r ∷ []) ((q.name, g) ∷ (r.name, h) ∷ []) place ≡ Ok (g ∷ h ∷ [])
  stands : (u v : RawValue) → P u → Q v →
      (g h : Given) × (given_of q.shape u ≡ Ok g) × (given_of r.shape v ≡ Ok h) × ((place : ℕ) → limited name (g ∷ h ∷ []) m place ≡ Ok (a, m))

two_action : (name : Handler) (q r : Parameter) (P Q : RawValue → Type 0) (printed shown_so : List ℕ) (a : Action) (n m : Counts) → TwoAction name q r P Q a n m →
    ValueReads P printed → ValueReads Q shown_so → Same n m →
    ActionReads n m a (handler_name name ++ (codes "(" ++ (((q.name ++ (codes "=" ++ printed)) ++ (codes ", " ++ (r.name ++ (codes "=" ++ shown_so)))) ++ codes ")")))
two_action name q r P Q printed shown_so a n m o reads reads_so same at gap after white end =
    let qs = q ∷ r ∷ [] in
    let b = call_reads (ArePairs q.name P r.name Q) (handler_name name) ((q.name ++ (codes "=" ++ printed)) ++ (codes ", " ++ (r.name ++ (codes "=" ++ shown_so)))) o.is o.free
    (two_pairs P Q q.name r.name printed shown_so o.word o.next reads reads_so) at gap after white end in
    let call : RawCall = record { name = written (handler_name name) b.place; parameters = named b.pairs } in
    let s = o.stands b.holds.2 b.holds.3 b.holds.5 b.holds.6 in
    let given : givens_of qs call ≡ Ok (s.0 ∷ s.1 ∷ []) =
    subst (λ (ps : List (Written × RawValue)). givens_of qs (record { name = written (handler_name name) b.place; parameters = named ps }) ≡ Ok (s.0 ∷ s.1 ∷ [])) (sym b.holds.4)
    (givens_two q r (written (handler_name name) b.place) b.holds.0 b.holds.1 b.holds.2 b.holds.3 s.0 s.1 o.unused_first (o.unused_next s.0) (o.fills s.0 s.1 b.place) s.2 s.3) in
    record {
      raw = call;
      counts = m;
      shown = b.shown;
      fits = call_fits name qs (s.0 ∷ s.1 ∷ []) a m m b.place call refl o.called o.takes given (s.4 b.place);
      same = same;
      within = tt;
    }

-- a target and a template
pub set_reads : (n m : Counts) (x : Target) (a : Attribute) (t : List Piece) → printed_target x ≡ printed_text (spelled_attribute a) → target_of a ≡ Some x → IsFine (spelled_attribute a) →
    template_of (spelled_attribute a) ≡ Ok (Value a ∷ []) → IsFine (written_template t) → template_of (written_template t) ≡ Ok t → Same n m →
    ActionReads n m (actions.Set x t) (printed_action (actions.Set x t))
set_reads n m x a t printed target fine again good kept same =
    two_action handlers.Set (record { name = codes "attribute"; shape = shapes.Writable; default = None }) (record { name = codes "value"; shape = shapes.OneTemplate; default = None })
    (IsOne (spelled_attribute a)) (IsOne (written_template t)) (printed_target x) (printed_template t) (actions.Set x t) n m
    (record {
      is = refl;
      free = refl;
      word = refl;
      next = refl;
      called = refl;
      takes = refl;
      unused_first = refl;
      unused_next = λ g. refl;
      fills = λ g h place. refl;
      stands = λ u v y z. (givens.Target x, givens.Template t, target_given x a u target again y, template_given t v kept z, λ place. refl);
    }) (subst (λ k. ValueReads (IsOne (spelled_attribute a)) k) (sym printed) (text_reads (spelled_attribute a) fine)) (text_reads (written_template t) good) same

truth_reads : (b : Bool) → ValueReads (IsOne (printed_truth b)) (printed_truth b)
truth_reads true = word_reads (codes "true") refl
truth_reads false = word_reads (codes "false") refl

truth_given : (b : Bool) (v : RawValue) → IsOne (printed_truth b) v → given_of shapes.Truth v ≡ Ok (givens.Truth b)
truth_given b v (place, e) = subst (λ k. given_of shapes.Truth k ≡ Ok (givens.Truth b)) (sym e) (by_truth b)
  where
    by_truth : (b : Bool) → given_of shapes.Truth (one (written (printed_truth b) place)) ≡ Ok (givens.Truth b)
    by_truth true = refl
    by_truth false = refl

-- a location as prefixes are printed
pub resource_reads : (n m : Counts) (p : List ℕ) (listing : Bool) → IsFine (with_slash p) → prefix_of (with_slash p) ≡ p → Same n m →
    ActionReads n m (actions.Resource p listing) (printed_action (actions.Resource p listing))
resource_reads n m p listing fine kept same =
    two_action handlers.Resource (record { name = codes "location"; shape = shapes.Location; default = None })
    (record { name = codes "allow-listing"; shape = shapes.Truth; default = Some (givens.Truth false) })
    (IsOne (with_slash p)) (IsOne (printed_truth listing)) (printed_prefix p) (printed_truth listing) (actions.Resource p listing) n m
    (record {
      is = refl;
      free = refl;
      word = refl;
      next = refl;
      called = refl;
      takes = refl;
      unused_first = refl;
      unused_next = λ g. refl;
      fills = λ g h place. refl;
      stands = λ u v x y. (givens.Text p, givens.Truth listing, location_given u x, truth_given listing v y, λ place. refl);
    }) (text_reads (with_slash p) fine) (truth_reads listing) same
  where
    location_given : (v : RawValue) → IsOne (with_slash p) v → given_of shapes.Location v ≡ Ok (givens.Text p)
    location_given v (place, e) = subst (λ k. given_of shapes.Location k ≡ Ok (givens.Text p)) (sym e) (ap (λ k. Ok (givens.Text k)) kept)

-- an action of three parameters
record ThreeAction (name : Handler) (q r s : Parameter) (P Q R : RawValue → Type 0) (a : Action) (n m : Counts) : Type 0 where
  is : is_word (handler_name name) ≡ true
  free : is_reserved (handler_name name) ≡ false
  word : is_word q.name ≡ true
  next : is_word r.name ≡ true
  last : is_word s.name ≡ true
  called : handler_named (handler_name name) ≡ Some name
  takes : handler_parameters name ≡ q ∷ r ∷ s ∷ []
  unused_first : unused (q ∷ r ∷ s ∷ []) [] q.name ≡ Some q
  unused_next : (g : Given) → unused (q ∷ r ∷ s ∷ []) ((q.name, g) ∷ []) r.name ≡ Some r
  unused_last : (g h : Given) → unused (q ∷ r ∷ s ∷ []) ((q.name, g) ∷ (r.name, h) ∷ []) s.name ≡ Some s
  fills : (g h k : Given) (place : ℕ) → filled (q ∷ r ∷ s ∷ []) ((q.name, g) ∷ (r.name, h) ∷ (s.name, k) ∷ []) place ≡ Ok (g ∷ h ∷ k ∷ [])
  stands : (u v x : RawValue) → P u → Q v → R x →
      (g h k : Given) × (given_of q.shape u ≡ Ok g) × (given_of r.shape v ≡ Ok h) × (given_of s.shape x ≡ Ok k) × ((place : ℕ) → limited name (g ∷ h ∷ k ∷ []) m place ≡ Ok (a, m))

three_action : (name : Handler) (q r s : Parameter) (P Q R : RawValue → Type 0) (printed shown_so ends_so : List ℕ) (a : Action) (n m : Counts) → ThreeAction name q r s P Q R a n m →
    ValueReads P printed → ValueReads Q shown_so → ValueReads R ends_so → Same n m →
    ActionReads n m a (handler_name name ++ (codes "(" ++ (((q.name ++ (codes "=" ++ printed)) ++ (codes ", " ++ ((r.name ++ (codes "=" ++ shown_so)) ++ (codes ", " ++ (s.name ++ (codes "=" ++ ends_so)))))) ++ codes ")")))
three_action name q r s P Q R printed shown_so ends_so a n m o reads reads_so reads_end same at gap after white end =
    let qs = q ∷ r ∷ s ∷ [] in
    let b = call_reads (AreThreePairs q.name P r.name Q s.name R) (handler_name name)
    ((q.name ++ (codes "=" ++ printed)) ++ (codes ", " ++ ((r.name ++ (codes "=" ++ shown_so)) ++ (codes ", " ++ (s.name ++ (codes "=" ++ ends_so)))))) o.is o.free
    (three_pairs P Q R q.name r.name s.name printed shown_so ends_so o.word o.next o.last reads reads_so reads_end) at gap after white end in
    let call : RawCall = record { name = written (handler_name name) b.place; parameters = named b.pairs } in
    let i = b.holds.0 in let j = b.holds.1 in let l = b.holds.2 in let u = b.holds.3 in let v = b.holds.4 in let x = b.holds.5 in
    let z = o.stands u v x b.holds.7 b.holds.8 b.holds.9 in
    let gs = z.0 ∷ z.1 ∷ z.2 ∷ [] in
    let given : givens_of qs call ≡ Ok gs =
    subst (λ (ps : List (Written × RawValue)). givens_of qs (record { name = written (handler_name name) b.place; parameters = named ps }) ≡ Ok gs) (sym b.holds.6)
    (givens_three q r s (written (handler_name name) b.place) i j l u v x z.0 z.1 z.2 o.unused_first (o.unused_next z.0) (o.unused_last z.0 z.1) (o.fills z.0 z.1 z.2 b.place) z.3 z.4 z.5) in
    record {
      raw = call;
      counts = m;
      shown = b.shown;
      fits = call_fits name qs gs a m m b.place call refl o.called o.takes given (z.6 b.place);
      same = same;
      within = tt;
    }

-- the name of a field that may be written, in lower case
pub header_reads : (n m : Counts) (name : List ℕ) (t : List Piece) (replace : Bool) → IsFine name → is_field_name name ≡ true → lowercase name ≡ name → is_kept_field name ≡ false →
    IsFine (written_template t) → template_of (written_template t) ≡ Ok t → Same n m → ActionReads n m (actions.Header name t replace) (printed_action (actions.Header name t replace))
header_reads n m name t replace good is lower free fine again same =
    three_action handlers.Header (record { name = codes "header"; shape = shapes.FieldName; default = None }) (record { name = codes "value"; shape = shapes.OneTemplate; default = None })
    (record { name = codes "override"; shape = shapes.Truth; default = Some (givens.Truth true) })
    (IsOne name) (IsOne (written_template t)) (IsOne (printed_truth replace)) (printed_text name) (printed_template t) (printed_truth replace) (actions.Header name t replace) n m
    (record {
      is = refl;
      free = refl;
      word = refl;
      next = refl;
      last = refl;
      called = refl;
      takes = refl;
      unused_first = refl;
      unused_next = λ g. refl;
      unused_last = λ g h. refl;
      fills = λ g h k place. refl;
      stands = λ u v x y z w. (givens.Text name, givens.Template t, givens.Truth replace, name_given u y, template_given t v again z, truth_given replace x w, λ place. refl);
    }) (text_reads name good) (text_reads (written_template t) fine) (truth_reads replace) same
  where
    field_is : (place : ℕ) → field_at place name ≡ Ok name
    field_is place =
        ap (λ (c : Bool). if not c then fault BadAttribute place else (if is_kept_field (lowercase name) then fault BadTarget place else Ok (lowercase name))) is
        ∙ ap (λ (k : List ℕ). if is_kept_field k then fault BadTarget place else Ok k) lower
        ∙ ap (λ (c : Bool). if c then fault BadTarget place else Ok name) free

    name_given : (v : RawValue) → IsOne name v → given_of shapes.FieldName v ≡ Ok (givens.Text name)
    name_given v (place, e) =
        subst (λ k. given_of shapes.FieldName k ≡ Ok (givens.Text name)) (sym e)
        (bind_is (field_at place name) (λ k. Ok (givens.Text k)) name (Ok (givens.Text name)) (field_is place) refl)

-- the log gets the number that it had; n are the counts before it. The names `common` and `combined` stand for formats of their own
pub access_log_reads : (n i m : Counts) (t : List Piece) → IsFine (written_template t) → ((place : ℕ) → format_at place (written_template t) ≡ Ok t) → Same n m →
    (i.limits ≡ n.limits) × (i.logs ≡ n.logs + 1) × (length i.patterns ≡ length n.patterns) → ActionReads i m (actions.AccessLog n.logs t) (printed_action (actions.AccessLog n.logs t))
access_log_reads n i m t fine again same more =
    one_action handlers.AccessLog (record { name = codes "format"; shape = shapes.Format; default = Some (givens.Template common) }) (IsOne (written_template t)) (printed_template t)
    (actions.AccessLog n.logs t) i m
    (record {
      is = refl;
      free = refl;
      word = refl;
      called = refl;
      takes = refl;
      unused_first = refl;
      fills = λ g place. refl;
      stands = λ v x. (
        givens.Template t,
        record m { logs = m.logs + 1 },
        format_given v x,
        λ place. ap (λ (c : ℕ). Ok (actions.AccessLog c t, record m { logs = m.logs + 1 })) (sym same.logs),
        record { limits = more.0 ∙ same.limits; logs = more.1 ∙ ap (λ c. c + 1) same.logs; patterns = more.2 ∙ same.patterns },
      );
    }) (text_reads (written_template t) fine)
  where
    format_given : (v : RawValue) → IsOne (written_template t) v → given_of shapes.Format v ≡ Ok (givens.Template t)
    format_given v (place, e) =
        subst (λ k. given_of shapes.Format k ≡ Ok (givens.Template t)) (sym e)
        (bind_is (format_at place (written_template t)) (λ k. Ok (givens.Template k)) t (Ok (givens.Template t)) (again place) refl)
