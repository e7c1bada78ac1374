-- What a maker with a list of patterns counts.
use Rattle.std.proofs.Common.{◌≡◌, ℕ, List, true, false, is_some, refl}
use Rattle.tow_link.specs.Entries.{entry_at}
use Rattle.tow_link.specs.Counts.{raised_at}
use Rattle.tow_link.specs.Making.{count_after, counts_after}
use Rattle.tow_link.specs.declared.maker.Made.{Made}
use Rattle.tow_link.proofs.Raising.{with_others}

-- a pattern of the list is counted once, whatever is made of it
pub counted_listed : (named : List (List ℕ × ℕ)) (others : ℕ) (pattern : List ℕ) (made : Made) → is_some (entry_at named pattern) ≡ true
    → with_others (raised_at named pattern) others ≡ counts_after made pattern (with_others named others)
counted_listed named others pattern made known = rw known refl

-- and another one as what is made of it says
pub counted_other : (named : List (List ℕ × ℕ)) (others : ℕ) (pattern : List ℕ) (made : Made) → is_some (entry_at named pattern) ≡ false
    → with_others named (count_after made others) ≡ counts_after made pattern (with_others named others)
counted_other named others pattern made unknown = rw unknown refl
