-- The length that a look answers is that of the file.
use Rattle.std.proofs.Common.{◌≡◌, ℕ, Bool, true, false, [], length, Option, None, Some, option_map, if◌then◌else◌}
use Rattle.std.specs.Option.{unwrap_or}
use Rattle.tow_model.specs.Texts.{Text}
use Rattle.tow_semantics.specs.Files as files
use Rattle.tow_semantics.specs.Files.{File, Files, file_at, is_directory_at}
use Rattle.tow_semantics.specs.Sites.{file_bytes}
use Rattle.tow_folder.specs.declared.answers.Look.TheVariants as look
use Rattle.tow_folder.specs.Folders.{look_for}

pub look_length : (fs : Files) (path : Text) (len second : ℕ) → look.File len second ≡ look_for (files.look fs path) → len ≡ length (file_bytes fs path)
look_length fs path len second is = by (file_at fs path) (is_directory_at fs path) is
  where
    by : (f : Option File) (b : Bool) →
        look.File len second ≡ look_for (unwrap_or (option_map (λ f. files.AFile (length f.bytes) f.second) f) (if b then files.ADirectory else files.Absent)) →
        len ≡ length (unwrap_or (option_map (λ f. f.bytes) f) [])
    by (Some f) b is = cc
    by None true is = absurd (cc)
    by None false is = absurd (cc)
