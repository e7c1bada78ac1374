-- The path that a test asks for can be asked for.
use Rattle.std.proofs.Common.{◌≡◌, codes, refl, true}
use Rattle.std.specs.Str.{is_utf8, chars}
use lib.Utf8.{encode}
use Rattle.tow_folder.specs.Folders.{is_askable}

pub file : is_askable (codes "/f") ≡ true
unfolding is_utf8 chars encode
file = refl
