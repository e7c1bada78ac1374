-- What holds of the definitions, in words of their subjects.
use Rattle.std.specs.Prelude.{◌≡◌, ℕ, ◌<◌, Bool, true, ◌&&◌, List, [], ◌∷◌, ◌++◌, filter_map, length, Some, codes}
use Rattle.std.specs.List.{list_any, list_all}
use Rattle.std.specs.Str.{bytes_eq}
use Rattle.httpdate.specs.declared.parts.Parts.{Parts}
use Rattle.tow_model.specs.declared.limits.TheConstants.{FIRST_UNDATED}
use Rattle.tow_model.specs.declared.request.Request.{Request}
use Rattle.tow_model.specs.declared.record.Record.{Record}
use Rattle.tow_model.specs.Lists.{IsPrefix}
use Rattle.tow_model.specs.Texts.{Text, is_before}
use Rattle.tow_model.specs.Dates.{IsAt, log_day, log_date_of}
use Rattle.tow_semantics.specs.Files.{File, Files, Name, file_at, child_of, names_in}
use Rattle.tow_semantics.specs.Pages.{Serve, is_servable, found_page}

-- each name comes before all that follow it in byte order, so that each stands once
abbrev pub are_in_order : List Name → Bool
are_in_order [] = true
are_in_order (n ∷ ns) = list_all (λ k. is_before n.text k.text) ns && are_in_order ns

-- some of the names has this text
abbrev pub is_named_among : Text → List Name → Bool
is_named_among text names = list_any (λ n. bytes_eq n.text text) names

-- The names of a directory are in order, and are those of its children.
pub record NamesAre (files : Files) (directory : Text) : Type 0 where
  pub in_order : are_in_order (names_in files directory) ≡ true
  pub children : (text : Text) → is_named_among text (names_in files directory) ≡ is_named_among text (filter_map (child_of directory) files)

abbrev pub ListingsAreNames : Type 0
ListingsAreNames = (files : Files) (directory : Text) → NamesAre files directory

-- A file that is served is one of the map. Its path begins with the location and the record's path, which can be looked up.
pub record IsServedFrom (files : Files) (full path : Text) (len second : ℕ) : Type 0 where
  pub file : File
  pub is : file_at files path ≡ Some file
  pub whole : len ≡ length file.bytes
  pub changed : second ≡ file.second
  pub servable : is_servable full ≡ true
  pub below : IsPrefix full path

abbrev pub ServesItsFiles : Type 0
ServesItsFiles =
    (files : Files) (location : Text) (listing : Bool) (q : Request) (x : Record) (path : Text) (len second : ℕ) →
    found_page files location listing q x ≡ Serve path len second → IsServedFrom files (location ++ x.path) path len second

-- A line of a log shows the calendar's numbers at its second.
abbrev pub LogDatesAre : Type 0
LogDatesAre =
    (second : ℕ) (p : Parts) → second < FIRST_UNDATED → IsAt second p → log_date_of second ≡ codes "[" ++ log_day p ++ codes "]"
