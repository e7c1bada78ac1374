use Rattle.std.proofs.Common.{◌&&◌, drop, codes}
use Rattle.std.specs.Str.{str_to_ascii_lowercase}
use Rattle.tow_model.specs.Texts.{begins_with}
use Rattle.tow_model.specs.Paths.{place_at, begins_authority, behind_authority}
use Rattle.tow_path.proofs.Absolute.{first_is, second_is}
use Rattle.tow_path.proofs.scheme.absolute_part.Goals as goal

pub returns-in-Some : goal.returns-in-Some
returns-in-Some c =
    let target = c.args.target.now in let lower = str_to_ascii_lowercase target in
    first_is place_at (begins_with (codes "http://") lower && begins_authority (drop 7 target)) (begins_with (codes "https://") lower && begins_authority (drop 8 target))
    (behind_authority (drop 7 target)) (behind_authority (drop 8 target)) c.in-Some.text.now c.in-Some.ensures

pub returns-in-None : goal.returns-in-None
returns-in-None c =
    let target = c.args.target.now in let lower = str_to_ascii_lowercase target in
    second_is place_at (begins_with (codes "http://") lower && begins_authority (drop 7 target)) (begins_with (codes "https://") lower && begins_authority (drop 8 target))
    (behind_authority (drop 7 target)) (behind_authority (drop 8 target)) c.behind_scheme-in-None.result c.in-None.ensures c.behind_scheme-in-None.ensures
