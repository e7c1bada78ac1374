-- What is known of a list of codings, when one more is read.
use Rattle.std.proofs.Common.{◌≡◌, ℕ, ◌+◌, Bool, true, false, ◌==◌, nat_lt, List, [], ◌∷◌, ◌++◌, length, Option, Some, None, codes, refl, sym, ap, ◌∙◌, subst, arith, append-nil, length-append}
use Rattle.std.proofs.lemmas.Bool.Decides.{nat_tests}
use Rattle.std.specs.List.{last_or}
use Rattle.std.specs.Option.{option_map_or}
use Rattle.std.specs.Str.{bytes_eq}
use Rattle.http_header.specs.Token.{lowercase}
use Rattle.tow_model.specs.Texts.{Text}
use Rattle.tow_request.specs.declared.codings.Codings.{Codings}
use Rattle.tow_request.specs.Refusals.{Sums}
use Rattle.tow_request.proofs.Listing.{element_of}

-- nothing more
pub sums_same : (before : List Text) (c : Codings) → Sums before c → Sums (before ++ []) c
sums_same before c sums = subst (λ (l : List Text). Sums l c) (sym (append-nil before)) sums

last_pushed : (o : Option Text) (before : List Text) (coding : Text) → last_or o (before ++ coding ∷ []) ≡ Some coding
last_pushed o [] coding = refl
last_pushed o (c ∷ before) coding = last_pushed (Some c) before coding

one_longer : (n m : ℕ) → m ≡ n + 1 → (true ≡ nat_lt 0 m) × (nat_lt 0 n ≡ nat_lt 1 m)
one_longer n m is = (grind (arith, nat_tests), grind (arith, nat_tests))

-- one more
sums_pushed : (before : List Text) (coding : Text) (c : Codings) → Sums before c
    → Sums (before ++ coding ∷ []) (record { has_one = true; has_two = c.has_one; ends_in_chunked = bytes_eq (codes "chunked") coding })
sums_pushed before coding c sums =
    let longer = one_longer (length before) (length (before ++ coding ∷ [])) (length-append before (coding ∷ [])) in
    record {
      one = longer.0;
      two = sums.one ∙ longer.1;
      last = ap (λ o. option_map_or (bytes_eq (codes "chunked")) o false) (sym (last_pushed None before coding));
    }

-- one more, where the element is not empty
pub sums_read : (before : List Text) (element : Text) (c : Codings) (ends : Bool) → Sums before c → (length element == 0) ≡ false
    → ends ≡ bytes_eq (codes "chunked") (lowercase element)
    → Sums (before ++ element_of element) (record { has_one = true; has_two = c.has_one; ends_in_chunked = ends })
sums_read before [] c ends sums filled is = absurd (cc)
sums_read before (b ∷ element) c ends sums filled is = rw is (sums_pushed before (lowercase (b ∷ element)) c sums)
