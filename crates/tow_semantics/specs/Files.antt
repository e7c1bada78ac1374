-- The folder as a map: a list of files with their paths, which begin with `/`.
use Rattle.std.specs.Prelude.{ℕ, Bool, true, not, ◌&&◌, List, [], ◌∷◌, ◌++◌, nat_lt, filter_map, find, length, drop, if◌then◌else◌, Option, Some, None, is_some, option_map, codes}
use Rattle.std.specs.List.{list_any, list_all}
use Rattle.std.specs.Option.{unwrap_or}
use Rattle.std.specs.Str.{bytes_eq}
use Rattle.tow_model.specs.Texts.{Text, is_empty, begins_with, cut_at, is_before, before, after}
use Rattle.tow_model.specs.Paths.{slash}

pub record File : Type 0 where
  pub path : Text
  -- when it was last changed, in seconds since 1970
  pub second : ℕ
  pub bytes : Text

abbrev pub Files : Type 0
Files = List File

-- a file's name begins with `/`, and no segment after that is empty
abbrev pub is_name : Text → Bool
is_name name = begins_with (codes "/") name && list_all (λ s. not (is_empty s)) (cut_at slash (drop 1 name))

-- two files have two names, and neither lies below the other
abbrev pub are_apart : Text → Text → Bool
are_apart a b = not (bytes_eq a b) && not (begins_with (a ++ codes "/") b) && not (begins_with (b ++ codes "/") a)

-- the list is the map of a folder
abbrev pub is_map : Files → Bool
is_map [] = true
is_map (f ∷ files) = is_name f.path && list_all (λ g. are_apart f.path g.path) files && is_map files

abbrev pub file_at : Files → Text → Option File
file_at files path = find (λ f. bytes_eq f.path path) files

-- some file lies below the directory, which is written with a `/` at its end
abbrev pub is_directory : Files → Text → Bool
is_directory files directory = list_any (λ f. begins_with directory f.path) files

-- what a look at one path of the folder answers
pub data Look : Type 0 where
  -- a file, with its length and its second
  AFile : ℕ → ℕ → Look
  ADirectory : Look
  Absent : Look

-- the root is a directory if the folder has a file
abbrev pub is_directory_at : Files → Text → Bool
is_directory_at files path =
    if bytes_eq path (codes "/") then nat_lt 0 (length files) else is_directory files (path ++ codes "/")

-- the path is written without a `/` at its end, but for the root
abbrev pub look : Files → Text → Look
look files path =
    unwrap_or (option_map (λ f. AFile (length f.bytes) f.second) (file_at files path))
    (if is_directory_at files path then ADirectory else Absent)

-- a direct child of a directory
pub record Name : Type 0 where
  pub text : Text
  pub directory : Bool

abbrev pub child_of : Text → File → Option Name
child_of directory f =
    let rest = drop (length directory) f.path in
    if begins_with directory f.path then Some (record { text = before slash rest; directory = is_some (after slash rest) }) else None

-- the names with one more in its place; each stands once
abbrev pub with_name : Name → List Name → List Name
with_name n [] = n ∷ []
with_name n (k ∷ ks) =
    if bytes_eq n.text k.text then k ∷ ks else (if is_before n.text k.text then n ∷ k ∷ ks else k ∷ with_name n ks)

abbrev pub in_order : List Name → List Name
in_order [] = []
in_order (n ∷ ns) = with_name n (in_order ns)

-- the direct children of a directory, each once, in byte order
abbrev pub names_in : Files → Text → List Name
names_in files directory = in_order (filter_map (child_of directory) files)
