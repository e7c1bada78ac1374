-- The page of a method that is not served.
use Rattle.std.proofs.Common.{◌≡◌, codes, refl}
use Rattle.tow_model.specs.declared.page.Page.TheVariants as pages
use Rattle.tow_model.specs.declared.record.Record.{Record}
use Rattle.tow_model.specs.Fields.{set_to}
use Rattle.tow_semantics.specs.Steps.{Stop, answered}
use Rattle.tow_semantics.specs.Pages.{Found, Serve, Redirect, Listing, Forbidden, NotModified, NotFound, BadMethod, on_found, page_for}
use Rattle.tow_found.specs.Applied.{with_fields}

pub bad_method : (found : Found) (x : Record) → pages.BadMethod ≡ page_for found →
    on_found found x ≡ Stop (answered 405 (with_fields (set_to (codes "allow") (codes "GET, HEAD") x.fields) x))
bad_method (Serve path len second) x is = absurd cc
bad_method (Redirect location) x is = absurd cc
bad_method (Listing bytes) x is = absurd cc
bad_method Forbidden x is = absurd cc
bad_method (NotModified second) x is = absurd cc
bad_method NotFound x is = absurd cc
bad_method BadMethod x is = refl
