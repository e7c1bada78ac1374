-- What is done with words that are no command.
use Rattle.std.specs.Prelude.{◌≡◌, ◌⊎◌, ℕ, List, Result, Ok, Err, codes}
use Rattle.tow_host.specs.Held.{Held}
use Rattle.tow_words.specs.Words.{CommandData, command_of}
use Rattle.tow_words.specs.Words.CommandData.{check, ask, drill, serve}
use Rattle.tow_words.specs.declared.command.Why.{Why}
use Rattle.tow_words.specs.declared.command.Why.TheVariants.{NoCommand}
use Rattle.tow_server.specs.Texts.{Prints}
use Rattle.tow_server.specs.declared.status.Status.{Status}
use Rattle.tow_server.specs.declared.status.Status.TheVariants.{NoMemory, Words}

abbrev pub usage_line : List ℕ
usage_line = codes "usage: check TEXT | ask DIR TEXT [--moment N] | drill N | serve DIR TEXT ADDRESS [--loops N] [--workers N] [--slots N] [--connections N]\n"

-- for now: the words of `drill` and `serve` are read, and answered as if no command had their name
abbrev pub served : Result CommandData Why → Result CommandData Why
served (Ok (check text)) = Ok (check text)
served (Ok (ask dir text moment)) = Ok (ask dir text moment)
served (Ok (drill number)) = Err NoCommand
served (Ok (serve dir text address options)) = Err NoCommand
served (Err why) = Err why

-- the command that is run, or why none is
abbrev pub served_of : List (List ℕ) → Result CommandData Why
served_of words = served (command_of words)

-- the words were refused for this reason, and the usage line was printed; all else of the host is as it was
pub record Explained (why : Why) (status : Status) (old new : Held) : Type 0 where
  pub words : status ≡ Words why
  pub usage : Prints old.output new.output usage_line
  pub rest : new ≡ record old { output = new.output }

-- memory was short before anything was done
pub record DoesNothing (status : Status) (old new : Held) : Type 0 where
  pub memory : status ≡ NoMemory
  pub rest : new ≡ old

-- so, or the memory for reading the words was short
abbrev pub ExplainedUnlessShort : Why → Status → Held → Held → Type 0
ExplainedUnlessShort why status old new = Explained why status old new ⊎ DoesNothing status old new
