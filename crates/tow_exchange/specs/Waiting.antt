-- What an exchange waits for.
use Rattle.tow_exchange.specs.declared.phase.Phase.{Phase}
use Rattle.tow_exchange.specs.declared.phase.Phase.TheVariants.{AwaitsVerdict, AwaitsPage}

-- for the verdict of some limit
abbrev pub AwaitsSomeVerdict : Phase → Type 0
AwaitsSomeVerdict (AwaitsVerdict limit) = Unit {0}
AwaitsSomeVerdict other = ⊥

-- for some page
abbrev pub AwaitsSomePage : Phase → Type 0
AwaitsSomePage (AwaitsPage location listing) = Unit {0}
AwaitsSomePage other = ⊥
