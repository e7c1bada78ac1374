-- Maps of files, a file at a time.
use Rattle.std.proofs.Common.{◌≡◌, ℕ, ◌+◌, ◌<◌, Bool, true, false, ◌&&◌, List, [], ◌∷◌, length, get_or, slice_range, take, drop, suc, Option, None, option_map, not, ◌==◌, nat_lt, arith, codes, refl, sym, ap, ◌∙◌, if◌then◌else◌, add-one}
use Rattle.std.proofs.Common.{length-drop}
use Rattle.std.proofs.Math.Seq.{drop-cons, take-length}
use Rattle.std.proofs.lemmas.Bool.Decides.{nat_tests}
use Rattle.std.proofs.lemmas.List.{length-map}
use Rattle.std.proofs.lemmas.Slice.Eq.{bytes_eq-Decides}
use Rattle.std.specs.List.{list_all}
use Rattle.std.specs.Option.{unwrap_or}
use Rattle.std.specs.Str.{bytes_eq}
use Rattle.tow_model.specs.Texts.{Text}
use Rattle.tow_semantics.specs.Files as files
use Rattle.tow_semantics.specs.Files.{File, Files, is_name, are_apart, is_map, file_at}
use Rattle.tow_folder.specs.declared.memory_file.MemoryFile.{MemoryFile}
use Rattle.tow_folder.specs.declared.answers.Look.{Look}
use Rattle.tow_folder.specs.declared.answers.Look.TheVariants as look
use Rattle.tow_folder.specs.Folders.{look_for}
use Rattle.tow_folder.specs.Memory.{file_told, files_told}

-- what is said of the other files is said of the map's
pub all_told : (path : Text) (others : List MemoryFile) →
    list_all (λ (g : MemoryFile). are_apart path g.path) others ≡ list_all (λ (g : File). are_apart path g.path) (files_told others)
all_told path [] = refl
all_told path (f ∷ fs) = ap (λ (b : Bool). are_apart path f.path && b) (all_told path fs)

-- the item at a place, and those behind it
pub item_then : {X : Type 0} (xs : List X) (at : ℕ) (x : X) → at < length xs → x ≡ get_or xs at x → drop at xs ≡ x ∷ drop (at + 1) xs
item_then xs at x lt is = rw add-one (drop-cons xs at x lt ∙ ap (λ y. y ∷ drop (suc at) xs) (sym is))

left_of : (a b : Bool) → (a && b) ≡ true → a ≡ true
left_of true b is = refl
left_of false b is = is

right_of : (a b : Bool) → (a && b) ≡ true → b ≡ true
right_of true b is = is
right_of false b is = absurd (cc)

not_root : (path : Text) (same : Bool) → bytes_eq path (codes "/") ≡ same → is_name path ≡ true → same ≡ false
not_root path true root name = let e : path ≡ codes "/" = (bytes_eq-Decides path (codes "/")).0 root in absurd (no_name (ap is_name e) name)
  where
    no_name : is_name path ≡ false → is_name path ≡ true → ⊥
    no_name fails holds = cc
not_root path false root name = refl

-- no file of a map stands at the root
pub no_file_at_root : (files : Files) → is_map files ≡ true → file_at files (codes "/") ≡ None
no_file_at_root [] map = refl
no_file_at_root (f ∷ files) map =
    let first = left_of (is_name f.path && list_all (λ (g : File). are_apart f.path g.path) files) (is_map files) map in
    let rest = right_of (is_name f.path && list_all (λ (g : File). are_apart f.path g.path) files) (is_map files) map in
    let apart : bytes_eq f.path (codes "/") ≡ false =
    not_root f.path (bytes_eq f.path (codes "/")) refl (left_of (is_name f.path) (list_all (λ (g : File). are_apart f.path g.path) files) first) in
    rw apart (no_file_at_root files rest)

-- whether the file may stand beside those behind it
abbrev stands : MemoryFile → List MemoryFile → Bool
stands f rest = is_name f.path && list_all (λ (g : File). are_apart f.path g.path) (files_told rest)

-- all from a place on
range_end : {X : Type 0} (xs : List X) (at : ℕ) → slice_range xs at (length xs) ≡ drop at xs
range_end xs at = ap (λ n. take n (drop at xs)) (sym (length-drop at xs)) ∙ take-length (drop at xs)

-- the files from a place on are a map where the first of them may stand, and those behind it are one
pub map_step : (files : List MemoryFile) (at : ℕ) (f : MemoryFile) (b : Bool) → at < length files → f ≡ get_or files at f →
    b ≡ stands f (slice_range files (at + 1) (length files)) →
    is_map (files_told files) ≡ is_map (files_told (drop at files)) → is_map (files_told files) ≡ (b && is_map (files_told (drop (at + 1) files)))
map_step files at f b lt is may all =
    all ∙ ap (λ (fs : List MemoryFile). is_map (files_told fs)) (item_then files at f lt is)
    ∙ ap (λ (x : Bool). x && is_map (files_told (drop (at + 1) files))) (sym (may ∙ ap (stands f) (range_end files (at + 1))))

-- there is a file where a length is not 0
some_file : (n m : ℕ) (none : Bool) → m ≡ n → none ≡ (n == 0) → not none ≡ nat_lt 0 m
some_file n m true e is = grind (arith, nat_tests)
some_file n m false e is = grind (arith, nat_tests)

directory_shown : (b : Bool) → (if b then look.Directory else look.Absent) ≡ look_for (if b then files.ADirectory else files.Absent)
directory_shown true = refl
directory_shown false = refl

-- the root of a map is a directory if there is a file
pub root_look : (fs : List MemoryFile) (path : Text) (none : Bool) (r : Look) → is_map (files_told fs) ≡ true → path ≡ codes "/" → none ≡ (length fs == 0) →
    r ≡ (if not none then look.Directory else look.Absent) → r ≡ look_for (files.look (files_told fs) path)
root_look fs path none r map root e is =
    is ∙ ap (λ (b : Bool). if b then look.Directory else look.Absent) (some_file (length fs) (length (files_told fs)) none (length-map fs file_told) e)
    ∙ directory_shown (nat_lt 0 (length (files_told fs)))
    ∙ ap (λ (f : Option File). look_for (unwrap_or (option_map (λ f. files.AFile (length f.bytes) f.second) f)
    (if nat_lt 0 (length (files_told fs)) then files.ADirectory else files.Absent))) (sym (no_file_at_root (files_told fs) map))
    ∙ ap (λ (path : Text). look_for (files.look (files_told fs) path)) (sym root)
