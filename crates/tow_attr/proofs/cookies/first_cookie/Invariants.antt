use Rattle.std.proofs.Common.{◌≡◌, drop, find, flat_map}
use Rattle.tow_attr.specs.Finding.{cookie_pieces, is_cookie}
use Rattle.tow_attr.proofs.cookies.first_cookie.Given as goal

-- what is found is found in the fields that are left
abbrev pub invariant-loop-field : goal.invariant-loop-field
invariant-loop-field l = find (is_cookie l.name) (flat_map cookie_pieces l.fields) ≡ find (is_cookie l.name) (flat_map cookie_pieces (drop l.field-index l.fields))
