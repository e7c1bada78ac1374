-- Where the memory for reading the words was short, nothing was done.
use Rattle.std.proofs.Common.{◌≡◌, ◌⊎◌, inl, inr, ℕ, Bool, List, Option, refl}
use Rattle.tow_host.specs.Held.{Held}
use Rattle.tow_site.specs.Compiled.{SiteData}
use Rattle.tow_server.specs.Ask.{Asked, is_walked}
use Rattle.tow_server.specs.Check.{Checked, is_checked}
use Rattle.tow_server.specs.Texts.{LeavesStreams, UsesText}
use Rattle.tow_server.specs.declared.status.Status.TheVariants.{Done, Words, Text, HostFault, NoMemory, StreamFault}

leaves : (old : Held) → LeavesStreams old old
leaves old = record { input = refl; output = refl }

not_ended : ((NoMemory ≡ Done) ⊎ (NoMemory ≡ StreamFault)) ⊎ (NoMemory ≡ Text) → ⊥
not_ended (inl (inl wrong)) = cc
not_ended (inl (inr wrong)) = cc
not_ended (inr wrong) = cc

uses_nothing : (is_built : SiteData → Bool) (name : List ℕ) (old : Held) → UsesText is_built name NoMemory old old
uses_nothing is_built name old = record {
  text = λ ends. absurd (not_ended ends);
  refused = λ (wrong : NoMemory ≡ Text). cc;
  host = λ (wrong : NoMemory ≡ HostFault). cc;
  quiet = λ (wrong : NoMemory ≡ HostFault). cc;
  larges = λ (wrong : NoMemory ≡ Done). cc;
  complete = λ right fine. inr refl;
  wrong = λ wrong comes. inr refl;
  missing = λ missing. inr refl;
  words = λ why (wrong : NoMemory ≡ Words why). cc;
}

pub short_check : (name : List ℕ) (old : Held) → Checked name NoMemory old old
short_check name old = record {
  text = uses_nothing is_checked name old;
  done = λ (wrong : NoMemory ≡ Done). cc;
  part = λ (wrong : NoMemory ≡ StreamFault). cc;
  stream = λ (wrong : NoMemory ≡ StreamFault). cc;
  memory = λ is. leaves old;
  input = refl;
}

pub short_ask : (name : List ℕ) (moment : Option ℕ) (old : Held) → Asked name moment NoMemory old old
short_ask name moment old = record {
  text = uses_nothing is_walked name old;
  done = λ (wrong : NoMemory ≡ Done). cc;
  part = λ (wrong : NoMemory ≡ StreamFault). cc;
  stream = λ (wrong : NoMemory ≡ StreamFault). cc;
  memory = λ is. inl (leaves old);
}
