-- What a form's matches have for each of its arguments.
use Rattle.std.proofs.Common.{◌≡◌, ◌∙◌, ◌<◌, ◌≤◌, ℕ, true, List, [], ◌∷◌, length, Option, Some, None, is_some, refl, sym, ap, subst, inl, inr, arith}
use Rattle.std.specs.Prelude.{option_and_then, option_map, slice_get, unwrap_or}
use Rattle.std.specs.Borrow.{Bor}
use Rattle.std.specs.List.{All, slice_index_or}
use Rattle.std.specs.Str.{bytes_eq}
use Rattle.std.proofs.lemmas.List.Elements.{All-get_or}
use Rattle.std.proofs.lemmas.Slice.Eq.{bytes_eq-Decides}
use Rattle.clap.specs.Facts.{Entry, EntryPasses, PassesArg, args_of, groups_of, parser_of, parser_of_value, unwrap_or_range}
use Rattle.clap.specs.Built.{SameRules}
use Rattle.clap.specs.Matches.{first_value, found_of, matched_of}
use Rattle.clap.specs.Values.{Accepts, IsUnsignedIn}
use Rattle.clap.specs.Walk.{Rule, Text, rows_of}
use Rattle.clap.specs.Simple.{App, is_ready}
use Rattle.clap.specs.declared.builder.action.ArgAction.TheVariants.{Set}
use Rattle.clap.specs.declared.builder.range.ValueRange.{ValueRange}
use Rattle.clap.specs.declared.builder.value_parser.ValueParser.{ValueParser}
use Rattle.clap.specs.declared.builder.value_parser.ValueParser.TheVariants.{Unsigned}
use Rattle.clap.specs.declared.parser.matches.ArgMatches.{ArgMatches}
use Rattle.clap.specs.declared.parser.matches.MatchedArg.{MatchedArg}
use Rattle.clap.proofs.CallerLemmas.{entry_by_id, required_has_value, same_rules_by_id}
use Rattle.clap.proofs.WalkLemmas.{first_value-rows}
use Rattle.tow_words.specs.Given.{IsGiven, IsNumberIn, IsParsedBy}
use Rattle.tow_words.proofs.Places.{alone, arg_at, fine_command, has_name, is_fine, is_named, not_added}

-- what has to be there has a word
pub given : (app : App) (matches : ArgMatches) → IsParsedBy app matches → is_fine app ≡ true → is_ready app.top ≡ true → app.subs ≡ []
    → (k : ℕ) (r : Rule) → k < length app.top.rules → slice_index_or app.top.rules k r ≡ r → is_named r k app.top.rules ≡ true
    → r.required ≡ true → r.action ≡ Some Set → r.range ≡ None → IsGiven r.id (rows_of (found_of matches))
given app matches by fine ready leaf k r inside at named required set range =
    let command = by.command in
    let whole = fine_command command app by.form fine ready leaf in
    let place = arg_at command app by.form k r inside at in
    let a = slice_index_or (args_of command) k place.arg in
    let id : a.id.now ≡ r.id = ap (λ (s : Rule). s.id) place.is in
    let delimiter : a.val_delim ≡ None = whole.delimiters k place.arg place.inside in
    let least : 1 ≤ (unwrap_or_range a.num_vals).start_inclusive =
    subst (λ (n : Option ValueRange). 1 ≤ (unwrap_or_range n).start_inclusive) (sym (ap (λ (s : Rule). s.range) place.is ∙ range)) (omega arith) in
    let has : is_some (first_value (found_of matches) a.id.now) ≡ true =
    required_has_value command matches by.parsed whole.plain whole.globals whole.negates k place.arg place.inside
    (ap (λ (s : Rule). s.required) place.is ∙ required) (ap (λ (s : Rule). s.action) place.is ∙ set) delimiter least
    (λ j e low same. alone command app by.form k r named j e low (subst (λ (t : Text). bytes_eq (slice_index_or (args_of command) j e).id.now t ≡ true) id same))
    (has_name r k app.top.rules named a.id.now id) (not_added r k app.top.rules named a id) in
    subst (λ (o : Option Text). is_some o ≡ true) (ap (first_value (found_of matches)) id ∙ first_value-rows (found_of matches) r.id) has

first_passes : (P : Text → Type 0) (vs : List (Bor Text)) (word : Text) → All (λ v. P v.now) vs → option_map (λ s. s.now) (slice_get vs 0) ≡ Some word → P word
first_passes P [] word all first = cc
first_passes P (v ∷ vs) word all first =
    let same : v.now ≡ word = ap (λ (o : Option Text). unwrap_or o word) first in
    subst P same (All-get_or (λ w. P w.now) (v ∷ vs) 0 v (omega arith) all)

-- a word of an argument passed the parser of the form
pub number : (app : App) (matches : ArgMatches) → IsParsedBy app matches → is_fine app ≡ true → is_ready app.top ≡ true → app.subs ≡ []
    → (k : ℕ) (r : Rule) → k < length app.top.rules → slice_index_or app.top.rules k r ≡ r → is_named r k app.top.rules ≡ true
    → (least most : ℕ) → r.parser ≡ Some (Unsigned least most) → IsNumberIn least most r.id (rows_of (found_of matches))
number app matches by fine ready leaf k r inside at named least most parser word first =
    step (matched_of (found_of matches) r.id) refl
    (subst (λ (o : Option Text). o ≡ Some word) (sym (first_value-rows (found_of matches) r.id)) first)
  where
    by_entry : (x : MatchedArg) → option_map (λ s. s.now) (slice_get x.vals.items 0) ≡ Some word
        → ((e : Entry) × (e.1 ≡ x) × (bytes_eq e.0.now r.id ≡ true) × EntryPasses by.parsed.built e) → IsUnsignedIn least most word
    by_entry x value got =
        let command = by.command in
        let whole = fine_command command app by.form fine ready leaf in
        let place = arg_at command app by.form k r inside at in
        let a = slice_index_or (args_of command) k place.arg in
        let id : a.id.now ≡ r.id = ap (λ (s : Rule). s.id) place.is in
        let groups : groups_of by.parsed.built ≡ [] = (by.parsed.from.plain whole.plain).1 in
        let key : got.0.0.now ≡ r.id = (bytes_eq-Decides got.0.0.now r.id).0 got.2 in
        let pass = got.3 in
        let passes : All (λ v. PassesArg by.parsed.built got.0.0.now v.now) got.0.1.vals.items = elim pass.0 [
          | inl group ↦ elim (pass.3 group) [
            | inl empty ↦ absurd (has_name r k app.top.rules named got.0.0.now key empty)
            | inr some ↦
                let bad : 0 < 0 = subst (λ (l : List _). 0 < length l) groups some in
                absurd (omega (arith, bad))
          ]
          | inr all ↦ all
        ] in
        let one : PassesArg by.parsed.built got.0.0.now word =
        first_passes (PassesArg by.parsed.built got.0.0.now) got.0.1.vals.items word passes (ap (λ (y : MatchedArg). option_map (λ s. s.now) (slice_get y.vals.items 0)) got.1 ∙ value) in
        let rules : SameRules a one.1 =
        same_rules_by_id command matches by.parsed k place.arg place.inside
        (λ j e low same. alone command app by.form k r named j e low (subst (λ (t : Text). bytes_eq (slice_index_or (args_of command) j e).id.now t ≡ true) id same))
        (not_added r k app.top.rules named a id) one.0 one.1 one.2 one.3
        (subst (λ (t : Text). bytes_eq one.1.id.now t ≡ true) (key ∙ sym id) one.4.0) in
        let is : parser_of one.1 ≡ Unsigned least most = ap parser_of_value (rules.parser (Unsigned least most) (ap (λ (s : Rule). s.parser) place.is ∙ parser)) in
        subst (λ (q : ValueParser). Accepts one.1.ignore_case q word) is one.4.1

    step : (o : Option MatchedArg) → matched_of (found_of matches) r.id ≡ o → first_value (found_of matches) r.id ≡ Some word → IsUnsignedIn least most word
    step None is value = let bad : None ≡ Some word = subst (λ (o : Option MatchedArg). option_and_then (λ m. option_map (λ s. s.now) (slice_get m.vals.items 0)) o ≡ Some word) is value in cc
    step (Some x) is value =
        by_entry x (subst (λ (o : Option MatchedArg). option_and_then (λ m. option_map (λ s. s.now) (slice_get m.vals.items 0)) o ≡ Some word) is value)
        (entry_by_id (EntryPasses by.parsed.built) (found_of matches).entries.items r.id x (by.parsed.parsed (by.parsed.from.globals ∙ (fine_command by.command app by.form fine ready leaf).globals)).values is)
