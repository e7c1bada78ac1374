use Rattle.std.proofs.Common.{◌≡◌, true}
use Rattle.std.specs.List.{list_all}
use Rattle.tow_model.specs.Texts.{is_visible}
use Rattle.tow_effect.proofs.Locations.{escaped_is, kept_whole}
use Rattle.tow_effect.proofs.location.location_of.Goals as goal

pub returns-then-is_all_visible : goal.returns-then-is_all_visible
returns-then-is_all_visible c =
    let visible : list_all is_visible c.args.text ≡ true = cc in kept_whole c.args.text visible

pub returns : goal.returns
returns c =
    rw (
      c.from_vec.ensures,
      c.into_bytes.ensures.value,
      c.in_ok-append_to.ensures.ok,
      c.in_ok-shown.ensures.bytes,
      c.percent_encode.ensures.text,
      c.as_slice-2.ensures,
    )
    (escaped_is c.args.text)
