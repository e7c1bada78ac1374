-- The bytes that stand as they are in a part of an address.
use Rattle.std.specs.Prelude.{ℕ, Bool, ◌||◌, ◌==◌}
use Rattle.tow_model.specs.Texts.{is_unreserved, is_visible}
use Rattle.tow_model.specs.Paths.{slash}
use Rattle.tow_page.specs.declared.escapes.Part.{Part}
use Rattle.tow_page.specs.declared.escapes.Part.TheVariants as part

-- RFC 3986, sections 2.3, 3.3 and 3.4
abbrev pub keeps : Part → ℕ → Bool
keeps part.Name b = is_unreserved b
keeps part.Path b = is_unreserved b || b == slash
keeps part.Query b = is_visible b
