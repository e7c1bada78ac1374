-- The paths that the tests ask for can be asked for.
use Rattle.std.proofs.Common.{◌≡◌, codes, refl, true}
use Rattle.std.specs.Str.{is_utf8, chars}
use lib.Utf8.{encode}
use Rattle.tow_folder.specs.Folders.{is_askable}

pub full_file : is_askable (codes "/a.txt") ≡ true
unfolding is_utf8 chars encode
full_file = refl

pub empty_file : is_askable (codes "/b") ≡ true
unfolding is_utf8 chars encode
empty_file = refl
