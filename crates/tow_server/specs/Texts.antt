-- What a command does with the text whose name it was given.
use Rattle.std.specs.Prelude.{◌≡◌, ◌≢◌, ℕ, ◌+◌, ◌<◌, ◌≤◌, ◌⊎◌, Bool, true, List, [], ◌++◌, length, Option, Some, None, IfSome, IsSomeAnd}
use Rattle.std.specs.Io.KnownBytes.{append_known}
use Rattle.tow_model.specs.declared.limits.TheConstants.{MAX_TEXT_LEN}
use Rattle.tow_link.specs.Data.{SourceData, SinkData, Rose}
use Rattle.tow_link.specs.Counts.{count_at}
use Rattle.tow_link.specs.Runs.{AppendsPart}
use Rattle.tow_host.specs.Held.{Held}
use Rattle.tow_host.specs.Texts.{text_named}
use Rattle.tow_site.specs.Compiled.{SiteData, IsSiteOf}
use Rattle.tow_words.specs.declared.command.Why.{Why}
use Rattle.tow_server.specs.Lines.{IsRefusal}
use Rattle.tow_server.specs.Returned.{untouched}
use Rattle.tow_server.specs.declared.status.Status.{Status}
use Rattle.tow_server.specs.declared.status.Status.TheVariants.{Done, Words, Text, HostFault, NoMemory, StreamFault}

-- where a host tells: its texts, by name
abbrev pub Texts : Type 0
Texts = Option (List (List ℕ × List ℕ))

-- where the host tells its texts, what the source has are the bytes under this name
abbrev pub IsNamed : Texts → List ℕ → SourceData → Type 0
IsNamed texts name source = IfSome texts (λ told. IsSomeAnd source.told (λ text. text_named told name ≡ Some (text.read ++ text.left)))

-- one more text source was handed back, that of this name
pub record ReturnsText (name : List ℕ) (old new : Held) : Type 0 where
  pub returned : Rose old.returned new.returned
  pub named : IsNamed old.texts name new.text

-- where the source tells: these bytes of it were read, which are all of it, or one more than a text may have, and never more
abbrev pub IsRead : SourceData → List ℕ → Type 0
IsRead source bytes =
    IfSome source.told (λ t. (t.read ≡ bytes) × ((t.left ≡ []) ⊎ (length bytes ≡ MAX_TEXT_LEN + 1)) × (length bytes ≤ MAX_TEXT_LEN + 1))

-- where the source tells: it was read to its end, and what was read is the text of a site that is built, of which the fact
-- holds
abbrev pub Compiles : (SiteData → Bool) → SourceData → (SiteData → Type 0) → Type 0
Compiles is_built source fact =
    IfSome source.told (λ t. (t.left ≡ []) × ((site : SiteData) × IsSiteOf t.read site × (is_built site ≡ true) × fact site))

-- the streams are as they were
pub record LeavesStreams (old new : Held) : Type 0 where
  pub input : new.input ≡ old.input
  pub output : new.output ≡ old.output

-- the whole line was appended, or a front of it and the sink failed
abbrev pub Prints : SinkData → SinkData → List ℕ → Type 0
Prints old new line = (new.written ≡ append_known old.written line) ⊎ (AppendsPart old.written new.written line × Rose old.faults new.faults)

-- the text was read and is refused, and the line that says why was printed
pub record Refuses (is_built : SiteData → Bool) (old new : Held) : Type 0 where
  pub bytes : List ℕ
  pub line : List ℕ
  pub read : IsRead new.text bytes
  pub refusal : IsRefusal is_built bytes old.larges new.larges line
  pub prints : Prints old.output new.output line
  pub input : new.input ≡ old.input

-- the source of the text of this name failed
pub record TextSourceFailed (name : List ℕ) (old new : Held) : Type 0 where
  pub returned : ReturnsText name old new
  pub failed : 0 < new.text.faults

-- the host could not give the text of this name
abbrev pub TextCallFailed : List ℕ → Held → Held → Type 0
TextCallFailed name old new = Rose (count_at old.text_faults name) (count_at new.text_faults name)

-- the host tells its texts, and the one under this name is that of a site that is built
abbrev pub IsRightText : (SiteData → Bool) → Texts → List ℕ → Type 0
IsRightText is_built None name = ⊥
IsRightText is_built (Some texts) name = IsSomeAnd (text_named texts name) (λ bytes. (site : SiteData) × IsSiteOf bytes site × (is_built site ≡ true))

-- the host tells its texts, and the one under this name is not that of a site that is built
abbrev pub IsWrongText : (SiteData → Bool) → Texts → List ℕ → Type 0
IsWrongText is_built None name = ⊥
IsWrongText is_built (Some texts) name = IsSomeAnd (text_named texts name) (λ bytes. (site : SiteData) → IsSiteOf bytes site → is_built site ≡ true → ⊥)

-- the host tells its texts, and none is under this name
abbrev pub IsMissingText : Texts → List ℕ → Type 0
IsMissingText None name = ⊥
IsMissingText (Some texts) name = text_named texts name ≡ None

-- the text could be had and read: neither its source failed nor the host's call with this name
pub record TextComes (name : List ℕ) (old new : Held) : Type 0 where
  pub source : ¬ (TextSourceFailed name old new)
  pub call : ¬ (TextCallFailed name old new)

-- nothing failed: not the text's source, not the host's call with this name, not the input, not the output, and the host
-- refused no pattern as too large
pub record NothingFailed (name : List ℕ) (old new : Held) : Type 0 where
  pub source : ¬ (TextSourceFailed name old new)
  pub call : ¬ (TextCallFailed name old new)
  pub input : ¬ (Rose old.input.faults new.input.faults)
  pub output : ¬ (Rose old.output.faults new.output.faults)
  pub patterns : (pattern : List ℕ) → ¬ (Rose (old.larges pattern) (new.larges pattern))

-- The host has its streams, and as many text sources were handed back as were handed out, if that was so before. No folder or
-- log was asked for, and no folder, log or account handed back.
pub record HandsBack (old new : Held) : Type 0 where
  pub home : new.is_home ≡ true
  pub back : old.handed ≡ old.returned → new.handed ≡ new.returned
  pub rest : untouched new ≡ untouched old

-- What each command promises of the text of this name, where it serves the sites that are built in this sense. Read it by
-- the status: what was read and printed, and what caused it.
pub record UsesText (is_built : SiteData → Bool) (name : List ℕ) (status : Status) (old new : Held) : Type 0 where
  -- with these the text's source was handed back
  pub text : ((status ≡ Done) ⊎ (status ≡ StreamFault)) ⊎ (status ≡ Text) → ReturnsText name old new
  -- with `Text` it was read, and refused for a cause that was printed
  pub refused : status ≡ Text → Refuses is_built old new
  -- with `HostFault` it could not be had or read, for a cause that was counted, and the streams are as they were
  pub host : status ≡ HostFault → TextSourceFailed name old new ⊎ TextCallFailed name old new
  pub quiet : status ≡ HostFault → LeavesStreams old new
  -- with `Done` no pattern was refused as too large
  pub larges : status ≡ Done → new.larges ≡ old.larges
  -- if the text is right and nothing failed, all was done, or memory was short
  pub complete : IsRightText is_built old.texts name → NothingFailed name old new → (status ≡ Done) ⊎ (status ≡ NoMemory)
  -- if the text could be had and read, and is not right, it is refused, or memory was short
  pub wrong : IsWrongText is_built old.texts name → TextComes name old new → (status ≡ Text) ⊎ (status ≡ NoMemory)
  -- if there is none of this name, it could not be had, or memory was short
  pub missing : IsMissingText old.texts name → (status ≡ HostFault) ⊎ (status ≡ NoMemory)
  pub words : (why : Why) → status ≢ Words why
