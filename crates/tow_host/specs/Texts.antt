-- The texts of a host, each under a name.
use Rattle.std.specs.Prelude.{◌≡◌, ℕ, List, Option, IfSome, IsSomeAnd}
use Rattle.tow_link.specs.Data.{SourceData, fresh_source}
use Rattle.tow_link.specs.Entries.{entry_at}

-- the bytes under a name
abbrev pub text_named : List (List ℕ × List ℕ) → List ℕ → Option (List ℕ)
text_named texts name = entry_at texts name

-- where the host tells its texts: there is one of this name, and the source has just its bytes before it
abbrev pub ShowsText : Option (List (List ℕ × List ℕ)) → List ℕ → SourceData → Type 0
ShowsText texts name source = IfSome texts (λ told. IsSomeAnd (text_named told name) (λ bytes. source ≡ fresh_source bytes))
