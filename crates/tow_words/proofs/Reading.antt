-- What the code makes of a form's matches.
use Rattle.std.proofs.Common.{◌≡◌, ◌∙◌, ◌-◌, ◌≤◌, ℕ, Bool, true, false, List, [], ◌∷◌, drop, get_or, length, map, take, Option, Some, None, is_some, refl, sym, ap, subst, arith}
use Rattle.std.specs.Prelude.{IfSome, Ok, Err, Result, bytes_eq, codes, if◌then◌else◌, option_map, unwrap_or}
use Rattle.std.specs.Borrow.{Bor}
use Rattle.std.proofs.lemmas.Bool.{ne_eqb}
use Rattle.std.proofs.lemmas.List.{take_all}
use Rattle.clap.specs.Kinds.{IsAmong, Kinds}
use Rattle.clap.specs.Matches.{first_value, found_of}
use Rattle.clap.specs.Values.{IsUnsignedIn}
use Rattle.clap.specs.Walk.{Row, Text, first_of, is_empty, rows_of}
use Rattle.clap.specs.declared.error.kind.ErrorKind.{ErrorKind}
use Rattle.clap.specs.declared.parser.matches.ArgMatches.{ArgMatches}
use Rattle.clap.proofs.WalkLemmas.{first_value-rows}
use Rattle.clap.specs.Simple.{App, matches_of}
use Rattle.tow_words.specs.Given.{AreMatches, IsGiven, IsNumberIn, has_matches, number_given, number_of, number_or, text_given}
use Rattle.tow_words.specs.Forms as shape
use Rattle.tow_words.specs.Words.{CommandData, ask_by, check_by, command_by, command_of, drill_by, matched, serve_by}
use Rattle.tow_words.specs.declared.command.Why.{Why}
use Rattle.tow_words.specs.declared.command.Why.TheVariants.{BadWords, NoCommand}

-- an error of some kind is not that of no kinds
pub among_some : (kind : ErrorKind) (kinds : Kinds) → IsAmong kind kinds → is_empty kinds ≡ false
among_some kind [] among = absurd among
among_some kind (k ∷ rest) among = ne_eqb _ _ (λ e. omega (arith, e))

pub none_is_empty : (kinds : Kinds) → kinds ≡ [] → is_empty kinds ≡ true
none_is_empty kinds none = ap is_empty none

-- the word that `get_str` gives
pub word_is : (matches : ArgMatches) (id : Text) (word : Option (Bor Text)) → option_map (λ s. s.now) word ≡ first_value (found_of matches) id
    → option_map (λ s. s.now) word ≡ first_of id (rows_of (found_of matches))
word_is matches id word is = is ∙ first_value-rows (found_of matches) id

pub text_is : (matches : ArgMatches) (id : Text) (word : Bor Text) → option_map (λ (s : Bor Text). s.now) (Some word) ≡ first_value (found_of matches) id
    → word.now ≡ text_given id (rows_of (found_of matches))
text_is matches id word is = ap (λ (o : Option Text). unwrap_or o []) (word_is matches id (Some word) is)

pub not_missing : (matches : ArgMatches) (id : Text) (word : Option (Bor Text)) → word ≡ None → option_map (λ s. s.now) word ≡ first_value (found_of matches) id
    → IsGiven id (rows_of (found_of matches)) → ⊥
not_missing matches id word none is given =
    let bad : false ≡ true = ap is_some (sym (ap (option_map (λ s. s.now)) none)) ∙ ap is_some (word_is matches id word is) ∙ given in
    cc

-- a number of an argument, by its word
pub word_in : (least most : ℕ) (matches : ArgMatches) (id : Text) (word : Bor Text) → option_map (λ (s : Bor Text). s.now) (Some word) ≡ first_value (found_of matches) id
    → IsNumberIn least most id (rows_of (found_of matches)) → IsUnsignedIn least most word.now
word_in least most matches id word is within = within word.now (sym (word_is matches id (Some word) is))

pub some_number : (matches : ArgMatches) (id : Text) (word : Bor Text) (number : ℕ) → option_map (λ (s : Bor Text). s.now) (Some word) ≡ first_value (found_of matches) id
    → number ≡ number_of word.now → Some number ≡ number_given id (rows_of (found_of matches))
some_number matches id word number is value = ap (λ (n : ℕ). Some n) value ∙ ap (option_map number_of) (word_is matches id (Some word) is)

pub no_number : (matches : ArgMatches) (id : Text) → None ≡ first_value (found_of matches) id → None ≡ number_given id (rows_of (found_of matches))
no_number matches id is = ap (option_map number_of) (word_is matches id None is)

-- narrower bounds
pub wide : (least most wider : ℕ) (id : Text) (rows : List Row) → IsNumberIn least most id rows → most ≤ wider → IsNumberIn 0 wider id rows
wide least most wider id rows within le word first = let is = within word first in (is.0, is.1, omega arith, omega (arith, is.3, le))

-- what an option gives, or else this, is within its bounds
pub or_within : (least most otherwise : ℕ) (id : Text) (rows : List Row) → IsNumberIn least most id rows → least ≤ otherwise → otherwise ≤ most
    → (least ≤ number_or otherwise id rows) × (number_or otherwise id rows ≤ most)
or_within least most otherwise id rows within low high = by (first_of id rows) within
  where
    by : (o : Option Text) → ((word : Text) → o ≡ Some word → IsUnsignedIn least most word)
        → (least ≤ unwrap_or (option_map number_of o) otherwise) × (unwrap_or (option_map number_of o) otherwise ≤ most)
    by None within = (low, high)
    by (Some word) within = let is = within word refl in (is.2, is.3)

-- a number that was given is within its bounds
pub number_within : (least most : ℕ) (id : Text) (rows : List Row) (number : ℕ) → IsNumberIn least most id rows → Some number ≡ number_given id rows → number ≤ most
number_within least most id rows number within is = by (first_of id rows) within is
  where
    by : (o : Option Text) → ((word : Text) → o ≡ Some word → IsUnsignedIn least most word) → Some number ≡ option_map number_of o → number ≤ most
    by None within is = cc
    by (Some word) within is =
        let same : number ≡ number_of word = ap (λ (o : Option ℕ). unwrap_or o number) is in
        subst (λ (n : ℕ). n ≤ most) (sym same) (within word refl).3

pub number_missing : (id : Text) (rows : List Row) → None ≡ number_given id rows → IsGiven id rows → ⊥
number_missing id rows is = by (first_of id rows) is
  where
    by : (o : Option Text) → None ≡ option_map number_of o → is_some o ≡ true → ⊥
    by None is given = let bad : false ≡ true = given in cc
    by (Some word) is given = cc

-- words that have matches are the command by them
pub matched_ok : (app wanted : App) (by : List Row → CommandData) (words : List Text) (matches : ArgMatches) (seen : CommandData) → app ≡ wanted → AreMatches app words matches
    → seen ≡ by (rows_of (found_of matches)) → Ok seen ≡ matched wanted by words
matched_ok app wanted by words matches seen same are is =
    let whole : Ok seen ≡ matched app by words = ap (λ (d : CommandData). Ok d) (is ∙ ap by are.rows)
    ∙ sym (ap (λ (b : Bool). if b then Ok (by (matches_of app words)) else Err BadWords) are.taken) in
    subst (λ (a : App). Ok seen ≡ matched a by words) same whole

-- and others are bad
pub matched_bad : (app wanted : App) (by : List Row → CommandData) (words : List Text) → app ≡ wanted → has_matches app words ≡ false → Err BadWords ≡ matched wanted by words
matched_bad app wanted by words same none =
    let whole : Err BadWords ≡ matched app by words = sym (ap (λ (b : Bool). if b then Ok (by (matches_of app words)) else Err BadWords) none) in
    subst (λ (a : App). Err BadWords ≡ matched a by words) same whole

-- the command by its name
pub named_check : (name : Text) (rest : List Text) (seen : Option (Result CommandData Why)) → bytes_eq name (codes "check") ≡ true
    → IfSome seen (λ s. s ≡ matched shape.check check_by rest) → IfSome seen (λ s. s ≡ command_by name rest)
named_check name rest seen check is = rw check is

pub named_ask : (name : Text) (rest : List Text) (seen : Option (Result CommandData Why)) → bytes_eq name (codes "check") ≡ false → bytes_eq name (codes "ask") ≡ true
    → IfSome seen (λ s. s ≡ matched shape.ask ask_by rest) → IfSome seen (λ s. s ≡ command_by name rest)
named_ask name rest seen check ask is = rw (check, ask) is

pub named_drill : (name : Text) (rest : List Text) (seen : Option (Result CommandData Why)) → bytes_eq name (codes "check") ≡ false → bytes_eq name (codes "ask") ≡ false
    → bytes_eq name (codes "drill") ≡ true → IfSome seen (λ s. s ≡ matched shape.drill drill_by rest) → IfSome seen (λ s. s ≡ command_by name rest)
named_drill name rest seen check ask drill is = rw (check, ask, drill) is

pub named_serve : (name : Text) (rest : List Text) (seen : Option (Result CommandData Why)) → bytes_eq name (codes "check") ≡ false → bytes_eq name (codes "ask") ≡ false
    → bytes_eq name (codes "drill") ≡ false → bytes_eq name (codes "serve") ≡ true → IfSome seen (λ s. s ≡ matched shape.serve serve_by rest) → IfSome seen (λ s. s ≡ command_by name rest)
named_serve name rest seen check ask drill serve is = rw (check, ask, drill, serve) is

pub no_command : (name : Text) (rest : List Text) → bytes_eq name (codes "check") ≡ false → bytes_eq name (codes "ask") ≡ false → bytes_eq name (codes "drill") ≡ false
    → bytes_eq name (codes "serve") ≡ false → Err NoCommand ≡ command_by name rest
no_command name rest check ask drill serve = rw (check, ask, drill, serve) refl

matched_is : (app : App) (by : List Row → CommandData) (rest : List Text) → matched app by rest ≡ Err NoCommand → ⊥
matched_is app by rest is = go (has_matches app rest) is
  where
    go : (b : Bool) → (if b then Ok (by (matches_of app rest)) else Err BadWords) ≡ Err NoCommand → ⊥
    go true is = cc
    go false is = cc

-- a command's name is never unnamed
pub is_named : (name : Text) (rest : List Text) → command_by name rest ≡ Err NoCommand
    → (bytes_eq name (codes "check") ≡ false) × (bytes_eq name (codes "ask") ≡ false) × (bytes_eq name (codes "drill") ≡ false) × (bytes_eq name (codes "serve") ≡ false)
is_named name rest none = go (bytes_eq name (codes "check")) (bytes_eq name (codes "ask")) (bytes_eq name (codes "drill")) (bytes_eq name (codes "serve")) none
  where
    go : (check ask drill serve : Bool)
        → (if check then matched shape.check check_by rest
        else (if ask then matched shape.ask ask_by rest
        else (if drill then matched shape.drill drill_by rest
        else (if serve then matched shape.serve serve_by rest else Err NoCommand)))) ≡ Err NoCommand
        → (check ≡ false) × (ask ≡ false) × (drill ≡ false) × (serve ≡ false)
    go true ask drill serve none = absurd (matched_is shape.check check_by rest none)
    go false true drill serve none = absurd (matched_is shape.ask ask_by rest none)
    go false false true serve none = absurd (matched_is shape.drill drill_by rest none)
    go false false false true none = absurd (matched_is shape.serve serve_by rest none)
    go false false false false none = (refl, refl, refl, refl)

-- the words that a pattern of a name and the rest finds
pub command_is : {S : Type 0} (bytes : S → Text) (words : List S) (name : S) (text : Text) → 1 ≤ length words → name ≡ get_or words 0 name → text ≡ bytes name
    → command_of (map bytes words) ≡ command_by text (map bytes (take (length words - 1) (drop 1 words)))
command_is bytes [] name text some is same = absurd (omega arith)
command_is bytes (w ∷ rest) name text some is same =
    ap (λ (n : Text). command_by n (map bytes rest)) (sym (same ∙ ap bytes is))
    ∙ ap (λ (l : List _). command_by text (map bytes l)) (sym (take_all (length (w ∷ rest) - 1) rest (omega arith)))
