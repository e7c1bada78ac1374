-- The names of the welcome files, and what is left of them at each turn.
use Rattle.std.proofs.Common.{codes, ◌≡◌, ◌≢◌, ℕ, ◌+◌, Bool, true, false, [], ◌∷◌, ◌++◌, drop, refl, sym, ap, subst, ◌∙◌, arith, Option, option_map, IfSome}
use Rattle.std.proofs.Math.ListN.{drop_of_length-le}
use Rattle.std.specs.Option.{unwrap_or}
use Rattle.std.specs.Str.{is_utf8, chars}
use lib.Utf8.{encode}
use Rattle.tow_faults.specs.Faults.{KeepsOtherFaults, NumberedFaults}
use Rattle.tow_folder.specs.Folders.{look_for}
use Rattle.tow_folder.specs.declared.answers.Look.{Look}
use Rattle.tow_folder.specs.declared.answers.Look.TheVariants as look
use Rattle.tow_model.specs.declared.request.Request.{Request}
use Rattle.tow_model.specs.declared.record.Record.{Record}
use Rattle.tow_model.specs.declared.page.Page.{Page}
use Rattle.tow_model.specs.Texts.{Text}
use Rattle.tow_semantics.specs.Files as maps
use Rattle.tow_semantics.specs.Files.{Files}
use Rattle.tow_semantics.specs.Pages.{Found, page_for, served, welcome_file, welcome_names}
use Rattle.tow_page.specs.Answers.{IsPage, served_at}
use Rattle.tow_page.specs.Segments.{Plain}
use Rattle.tow_page.proofs.Looking.{no_file, of_both, welcome_hit, welcome_miss}

abbrev pub is_file : Look → Bool
is_file (look.File len second) = true
is_file look.Directory = false
is_file look.Absent = false
is_file look.Failed = false

never : (r : Look) → is_file r ≡ false → (len second : ℕ) → r ≡ look.File len second → ⊥
never r none len second e = let both : false ≡ true = sym none ∙ ap is_file e in cc

-- a name has no file: those after it are left
pub missed : (o here : Option Files) (directory path : Text) (i : ℕ) (name : Text) (r : Look) → here ≡ o → drop i welcome_names ≡ name ∷ drop (i + 1) welcome_names →
    path ≡ directory ++ name → is_file r ≡ false →
    IfSome o (λ files. welcome_file files directory welcome_names ≡ welcome_file files directory (drop i welcome_names)) →
    IfSome here (λ files. r ≡ look_for (maps.look files path)) →
    IfSome o (λ files. welcome_file files directory welcome_names ≡ welcome_file files directory (drop (i + 1) welcome_names))
missed o here directory path i name r told left_is at none before looked =
    of_both o before (subst (λ (t : Option Files). IfSome t (λ files. r ≡ look_for (maps.look files path))) told looked)
    (λ files b l. b ∙ ap (welcome_file files directory) left_is
    ∙ welcome_miss files directory name (drop (i + 1) welcome_names)
    (no_file files (directory ++ name) r (never r none) (l ∙ ap (λ p. look_for (maps.look files p)) at)))

-- a name has a file: it is the first one
pub met : (o here : Option Files) (q : Request) (x : Record) (directory path : Text) (i : ℕ) (name : Text) (len second : ℕ) (page : Page) → here ≡ o → drop i welcome_names ≡ name ∷ drop (i + 1) welcome_names →
    path ≡ directory ++ name → page ≡ page_for (served_at q x path len second) →
    IfSome o (λ files. welcome_file files directory welcome_names ≡ welcome_file files directory (drop i welcome_names)) →
    IfSome here (λ files. look.File len second ≡ look_for (maps.look files path)) →
    IfSome o (λ files. (other : Found) → IsPage (unwrap_or (option_map (served q x) (welcome_file files directory welcome_names)) other) page)
met o here q x directory path i name len second page told left_is at is before looked =
    of_both o before (subst (λ (t : Option Files). IfSome t (λ files. look.File len second ≡ look_for (maps.look files path))) told looked)
    (λ files b l other. subst (λ f. IsPage (unwrap_or (option_map (served q x) f) other) page) (sym (b ∙ ap (welcome_file files directory) left_is))
    (welcome_hit files q x directory name (drop (i + 1) welcome_names) len second page
    (l ∙ ap (λ p. look_for (maps.look files p)) at) (is ∙ ap (λ p. page_for (served_at q x p len second)) at) other))

-- what two looks leave of the faults of others
pub others_kept : (a b c : NumberedFaults) (k : ℕ) → KeepsOtherFaults a b k → KeepsOtherFaults b c k → KeepsOtherFaults a c k
others_kept a b c k first second = record {
  own = λ other differ. second.own other differ ∙ first.own other differ;
  shared = omega (arith, first.shared, second.shared);
}

-- THE FOUR NAMES

pub first_plain : Plain (codes "index.html")
unfolding is_utf8 chars encode
first_plain = record { filled = refl; utf8 = refl; no_zero = refl }

pub second_plain : Plain (codes "index.htm")
unfolding is_utf8 chars encode
second_plain = record { filled = refl; utf8 = refl; no_zero = refl }

pub third_plain : Plain (codes "default.html")
unfolding is_utf8 chars encode
third_plain = record { filled = refl; utf8 = refl; no_zero = refl }

pub fourth_plain : Plain (codes "default.htm")
unfolding is_utf8 chars encode
fourth_plain = record { filled = refl; utf8 = refl; no_zero = refl }

-- no name stands behind the fourth
pub none_left : (at : ℕ) → at ≢ 0 → at ≢ 1 → at ≢ 2 → at ≢ 3 → drop at welcome_names ≡ []
none_left at a b c d = drop_of_length-le welcome_names (omega (arith, a, b, c, d))
