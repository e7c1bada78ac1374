-- The children of a directory, put among names one after the other from the last file on.
use Rattle.std.proofs.Common.{◌≡◌, List, [], ◌∷◌, ◌++◌, length, drop, Option, None, Some, filter_map, option_map, option_copied, Bor, Bool, true, false, if◌then◌else◌, refl, sym, ap, ◌∙◌}
use Rattle.std.proofs.lemmas.List.{map-append}
use Rattle.std.specs.List.{cons_option, push}
use Rattle.std.specs.Option.{option_map_or}
use Rattle.tow_model.specs.Texts.{Text, begins_with}
use Rattle.tow_semantics.specs.Files.{File, Files, Name, child_of, with_name, names_in, in_order}
use Rattle.tow_folder.specs.declared.memory_file.MemoryFile.{MemoryFile}
use Rattle.tow_folder.specs.Memory.{file_told, files_told, behind, child_named}

abbrev pub with_child : Option Name → List Name → List Name
with_child child names = option_map_or (λ n. with_name n names) child names

-- the names with the children of these files
abbrev pub onto : Text → List Name → Files → List Name
onto directory names [] = names
onto directory names (f ∷ files) = with_child (child_of directory f) (onto directory names files)

pub onto_last : (directory : Text) (names : List Name) (files : Files) (f : File) →
    onto directory names (files ++ f ∷ []) ≡ onto directory (with_child (child_of directory f) names) files
onto_last directory names [] f = refl
onto_last directory names (g ∷ files) f = ap (with_child (child_of directory g)) (onto_last directory names files f)

pub onto_none : (directory : Text) (files : Files) → names_in files directory ≡ onto directory [] files
onto_none directory [] = refl
onto_none directory (f ∷ files) = by (child_of directory f) (onto_none directory files)
  where
    by : (child : Option Name) → names_in files directory ≡ onto directory [] files →
        in_order (cons_option child (filter_map (child_of directory) files)) ≡ with_child child (onto directory [] files)
    by None rest = rest
    by (Some n) rest = ap (with_name n) rest

-- a file's child is named first in what is behind the directory
child_is : (directory : Text) (f : File) → child_of directory f ≡ option_map child_named (behind directory f.path)
child_is directory f = by (begins_with directory f.path)
  where
    by : (b : Bool) → (if b then Some (child_named (drop (length directory) f.path)) else None)
        ≡ option_map child_named (if b then Some (drop (length directory) f.path) else None)
    by true = refl
    by false = refl

-- one file further to the front
pub onto_step : (directory : Text) (all names new : List Name) (left rest : List MemoryFile) (f : MemoryFile) (path : Text) (r : Option (Bor Text)) →
    left ≡ push rest f → path ≡ f.path → option_copied r ≡ behind directory path → new ≡ with_child (option_map child_named (option_copied r)) names →
    all ≡ onto directory names (files_told left) → all ≡ onto directory new (files_told rest)
onto_step directory all names new left rest f path r l p b n far =
    far ∙ ap (λ (fs : List MemoryFile). onto directory names (files_told fs)) l
    ∙ ap (onto directory names) (map-append file_told rest (f ∷ []))
    ∙ onto_last directory names (files_told rest) (file_told f)
    ∙ ap (λ (child : Option Name). onto directory (with_child child names) (files_told rest))
    (child_is directory (file_told f) ∙ ap (λ (x : Text). option_map child_named (behind directory x)) (sym p) ∙ ap (option_map child_named) (sym b))
    ∙ ap (λ (ns : List Name). onto directory ns (files_told rest)) (sym n)
