-- The arguments of a command that was built, by the rules of its form.
use Rattle.std.proofs.Common.{◌≡◌, ◌∙◌, ◌&&◌, ◌<◌, ℕ, zero, suc, Bool, true, false, not, List, [], ◌∷◌, length, map, None, refl, sym, ap, subst, inl, inr, arith}
use Rattle.std.specs.Prelude.{codes, nat_lt}
use Rattle.std.specs.List.{All, list_all, slice_index_or}
use Rattle.std.specs.Str.{bytes_eq}
use Rattle.std.proofs.lemmas.Bool.{ltb-true}
use Rattle.std.proofs.lemmas.List.{get_or-map, length-map}
use Rattle.std.proofs.lemmas.Slice.Eq.{bytes_eq-Decides}
use Rattle.clap.specs.Facts.{args_of}
use Rattle.clap.specs.Built.{IsAuto, IsPlain}
use Rattle.clap.specs.Walk.{Rule, Text, rule_of}
use Rattle.clap.specs.Simple.{App, app_of, is_ready, is_ready_leaf}
use Rattle.clap.specs.declared.builder.arg.Arg.{Arg}
use Rattle.clap.specs.declared.builder.command.Command.{Command}
use Rattle.clap.specs.declared.builder.command.Command.TheViews.{out-Command}
use Rattle.clap.proofs.SimpleLemmas.{is_false, plain_fields, ready_simple, simple_groups}
use Rattle.clap.proofs.TakesLemmas.{each_rule, free_arg}
use Rattle.clap.proofs.WalkLemmas.{both}

-- no rule from this place on has the id, but the one at place k
unfoldable pub is_only : Text → ℕ → List Rule → Bool
is_only id k [] = true
is_only id zero (r ∷ rest) = list_all (λ (s : Rule). not (bytes_eq s.id id)) rest
is_only id (suc k) (r ∷ rest) = not (bytes_eq r.id id) && is_only id k rest

clash : (b : Bool) → not b ≡ true → b ≡ true → ⊥
clash true other is = let bad : false ≡ true = other in cc
clash false other is = let bad : false ≡ true = is in cc

none_of : (id : Text) (rules : List Rule) → list_all (λ (s : Rule). not (bytes_eq s.id id)) rules ≡ true
    → (j : ℕ) (r : Rule) → j < length rules → bytes_eq (slice_index_or rules j r).id id ≡ true → ⊥
none_of id [] all j r inside same = absurd (omega arith)
none_of id (s ∷ rest) all zero r inside same = clash _ (both _ _ all).0 same
none_of id (s ∷ rest) all (suc j) r inside same = none_of id rest (both _ _ all).1 j r (omega arith) same

pub only_place : (id : Text) (k : ℕ) (rules : List Rule) → is_only id k rules ≡ true
    → (j : ℕ) (r : Rule) → j < length rules → bytes_eq (slice_index_or rules j r).id id ≡ true → j ≡ k
unfolding is_only
only_place id k [] only j r inside same = absurd (omega arith)
only_place id zero (s ∷ rest) only zero r inside same = refl
only_place id zero (s ∷ rest) only (suc j) r inside same = absurd (none_of id rest only j r (omega arith) same)
only_place id (suc k) (s ∷ rest) only zero r inside same = absurd (clash _ (both _ _ only).0 same)
only_place id (suc k) (s ∷ rest) only (suc j) r inside same = ap suc (only_place id k rest (both _ _ only).1 j r (omega arith) same)

-- what the lemmas below want of a form; each form has it by computing
abbrev pub is_fine : App → Bool
is_fine app = app.top.is_plain && (list_all (λ (r : Rule). r.is_simple) app.top.rules && (list_all (λ (r : Rule). r.is_free) app.top.rules && not app.top.subcommand_negates_reqs))

-- and of a rule at place k
abbrev pub is_named : Rule → ℕ → List Rule → Bool
is_named r k rules = nat_lt 0 (length r.id) && (not (bytes_eq r.id (codes "help")) && (not (bytes_eq r.id (codes "version")) && is_only r.id k rules))

pub rules_are : (command : Command) (app : App) → app_of command ≡ app → map rule_of (args_of command) ≡ app.top.rules
rules_are command app form = ap (λ (a : App). a.top.rules) form

pub record IsFineCommand (command : Command) : Type 0 where
  pub plain : IsPlain command
  pub globals : (out-Command command).has_globals ≡ false
  pub negates : (out-Command command).subcommand_negates_reqs ≡ false
  pub delimiters : All (λ a. a.val_delim ≡ None) (args_of command)

pub fine_command : (command : Command) (app : App) → app_of command ≡ app → is_fine app ≡ true → is_ready app.top ≡ true → app.subs ≡ [] → IsFineCommand command
fine_command command app form fine ready leaf =
    let now : is_fine (app_of command) ≡ true = ap is_fine form ∙ fine in
    let p = both _ _ now in
    let q = both _ _ p.1 in
    let r = both _ _ q.1 in
    let fields = plain_fields command p.0 in
    let simple = ready_simple command (ap (λ (a : App). is_ready a.top) form ∙ ready) (ap (λ (a : App). list_all is_ready_leaf a.subs) form ∙ ap (list_all is_ready_leaf) leaf) in
    let frees = each_rule (λ (r : Rule). r.is_free) (args_of command) r.0 in
    let groups = simple_groups command q.0 in
    record {
      plain = (
        λ k d lt.
            let free = free_arg (slice_index_or (args_of command) k d) (simple.args k d lt) (frees k d lt) in
            (free.exclusive, free.conflicts, free.overrides, groups k d lt),
        fields.groups,
      );
      globals = fields.globals;
      negates = is_false _ r.1;
      delimiters = λ k d lt. (simple.args k d lt).delimiter;
    }

-- the argument at a place, and its rule
pub record HasArg (command : Command) (k : ℕ) (r : Rule) : Type 0 where
  pub arg : Arg
  pub inside : k < length (args_of command)
  pub is : rule_of (slice_index_or (args_of command) k arg) ≡ r

some_arg : (args : List Arg) (k : ℕ) → k < length args → Arg
some_arg [] k inside = absurd (omega arith)
some_arg (a ∷ rest) k inside = a

pub arg_at : (command : Command) (app : App) → app_of command ≡ app → (k : ℕ) (r : Rule) → k < length app.top.rules → slice_index_or app.top.rules k r ≡ r → HasArg command k r
arg_at command app form k r inside at =
    let args = args_of command in
    let same = rules_are command app form in
    let within : k < length args = omega (arith, length-map args rule_of, ap length same) in
    record {
      arg = some_arg args k within;
      inside = within;
      is = sym (get_or-map rule_of args k (some_arg args k within) r within) ∙ ap (λ (l : List Rule). slice_index_or l k r) same ∙ at;
    }

-- no other argument has its id
pub alone : (command : Command) (app : App) → app_of command ≡ app → (k : ℕ) (r : Rule) → is_named r k app.top.rules ≡ true
    → (j : ℕ) (e : Arg) → j < length (args_of command) → bytes_eq (slice_index_or (args_of command) j e).id.now r.id ≡ true → j ≡ k
alone command app form k r named j e inside same =
    let args = args_of command in
    let rules = rules_are command app form in
    let within : j < length app.top.rules = omega (arith, length-map args rule_of, ap length rules) in
    let rule : slice_index_or app.top.rules j r ≡ rule_of (slice_index_or args j e) =
    sym (ap (λ (l : List Rule). slice_index_or l j r) rules) ∙ get_or-map rule_of args j e r inside in
    let one = both (nat_lt 0 (length r.id)) _ named in
    let two = both (not (bytes_eq r.id (codes "help"))) _ one.1 in
    let three = both (not (bytes_eq r.id (codes "version"))) (is_only r.id k app.top.rules) two.1 in
    only_place r.id k app.top.rules three.1 j r within (ap (λ (s : Rule). bytes_eq s.id r.id) rule ∙ same)

-- and it is not one that `clap` adds
pub has_name : (r : Rule) (k : ℕ) (rules : List Rule) → is_named r k rules ≡ true → (id : Text) → id ≡ r.id → id ≡ [] → ⊥
has_name r k rules named id is empty =
    let none : r.id ≡ [] = sym is ∙ empty in
    let some : 0 < length r.id = ltb-true _ _ (both _ _ named).0 in
    let bad : 0 < 0 = subst (λ (l : Text). 0 < length l) none some in
    omega (arith, bad)

pub not_added : (r : Rule) (k : ℕ) (rules : List Rule) → is_named r k rules ≡ true → (a : Arg) → a.id.now ≡ r.id → IsAuto a → ⊥
not_added r k rules named a is (inl help) =
    clash _ (both _ _ (both _ _ named).1).0 ((bytes_eq-Decides r.id (codes "help")).1 (sym is ∙ help))
not_added r k rules named a is (inr version) =
    clash _ (both _ _ (both _ _ (both _ _ named).1).1).0 ((bytes_eq-Decides r.id (codes "version")).1 (sym is ∙ version))
