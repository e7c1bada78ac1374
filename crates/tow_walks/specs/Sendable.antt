-- That the answer of an exchange can be sent.
use Rattle.std.specs.Prelude.{◌≡◌, ℕ, List, Option, IfSome}
use Rattle.tow_model.specs.declared.request.Request.{Request}
use Rattle.tow_model.specs.declared.content.Content.{Content}
use Rattle.tow_model.specs.declared.account.Verdict.{Verdict}
use Rattle.tow_model.specs.declared.statement.Statement.{Statement}
use Rattle.tow_semantics.specs.Files.{Files}
use Rattle.tow_exchange.specs.Exchanges.{ExchangeData, content_given, opened, verdict_given}
use Rattle.tow_exchange.specs.declared.phase.Phase.TheVariants.{AwaitsVerdict}
use Rattle.tow_advance.specs.Moves.{IsUnchosen}
use Rattle.tow_sending.specs.Pieces.{HasFile, IsAskable}
use Rattle.tow_walks.specs.Walks.{Walks}

-- The answer can be sent, whatever the folder is.
pub record IsSendable (told : Option Files) (e : ExchangeData) : Type 0 where
  -- no answer is chosen before it is decided
  pub unchosen : IsUnchosen e
  -- the path of a file is one that a folder can be asked for
  pub askable : IsAskable e.stand.state.choice
  -- where the folder tells its files, they have all of it
  pub there : IfSome told (λ files. HasFile files e.stand.state.choice)

-- ---- laws

abbrev pub OpenedIsSendable : Type 0
OpenedIsSendable = (told : Option Files) (k j : ℕ) (q : Request) (m : ℕ) → IsSendable told (opened k j q m)

abbrev pub WalksStaySendable : Type 0
WalksStaySendable =
    (tree : List Statement) (told : Option Files) (old new : ExchangeData)
    → Walks tree told old new → IsSendable told old → IsSendable told new

abbrev pub VerdictsStaySendable : Type 0
VerdictsStaySendable =
    (told : Option Files) (e : ExchangeData) (limit : ℕ) (verdict : Verdict)
    → e.phase ≡ AwaitsVerdict limit → IsSendable told e → IsSendable told (verdict_given limit verdict e)

abbrev pub ContentsStaySendable : Type 0
ContentsStaySendable =
    (told : Option Files) (e : ExchangeData) (content : Content)
    → IsSendable told e → IsSendable told (content_given content e)
