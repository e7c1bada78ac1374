-- The paths that the tests ask for can be asked for.
use Rattle.std.proofs.Common.{◌≡◌, codes, refl, true}
use Rattle.std.specs.Str.{is_utf8, chars}
use lib.Utf8.{encode}
use Rattle.tow_folder.specs.Folders.{is_askable}

pub root : is_askable (codes "/") ≡ true
unfolding is_utf8 chars encode
root = refl

pub file : is_askable (codes "/a.txt") ≡ true
unfolding is_utf8 chars encode
file = refl

pub nothing : is_askable (codes "/none") ≡ true
unfolding is_utf8 chars encode
nothing = refl

pub directory : is_askable (codes "/d") ≡ true
unfolding is_utf8 chars encode
directory = refl

pub percent : is_askable (codes "/d/e/%41") ≡ true
unfolding is_utf8 chars encode
percent = refl

pub inner : is_askable (codes "/inner") ≡ true
unfolding is_utf8 chars encode
inner = refl

pub back : is_askable (codes "/d/back/e") ≡ true
unfolding is_utf8 chars encode
back = refl

pub empty : is_askable (codes "/empty") ≡ true
unfolding is_utf8 chars encode
empty = refl

pub outer : is_askable (codes "/outer") ≡ true
unfolding is_utf8 chars encode
outer = refl

pub up : is_askable (codes "/up") ≡ true
unfolding is_utf8 chars encode
up = refl

pub beyond_up : is_askable (codes "/up/outside") ≡ true
unfolding is_utf8 chars encode
beyond_up = refl

pub beyond_root : is_askable (codes "/../outside") ≡ true
unfolding is_utf8 chars encode
beyond_root = refl

pub dots : is_askable (codes "/d/../a.txt") ≡ true
unfolding is_utf8 chars encode
dots = refl

pub in_circles : is_askable (codes "/loop") ≡ true
unfolding is_utf8 chars encode
in_circles = refl

pub nowhere : is_askable (codes "/nowhere") ≡ true
unfolding is_utf8 chars encode
nowhere = refl

pub below_a_file : is_askable (codes "/a.txt/b") ≡ true
unfolding is_utf8 chars encode
below_a_file = refl

pub spaced : is_askable (codes "/d/b c") ≡ true
unfolding is_utf8 chars encode
spaced = refl
