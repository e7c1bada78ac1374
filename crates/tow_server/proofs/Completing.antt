-- Where the text is right and nothing failed, only success and want of memory are left.
use Rattle.std.proofs.Common.{◌≡◌, ℕ, ◌≤◌, ◌⊎◌, inl, inr, Bool, true, false, List, [], ◌++◌, length, Option, Some, None, sym, ap, ◌∙◌, subst, arith, length-append}
use Rattle.std.proofs.lemmas.List.{append-nil}
use Rattle.std.proofs.lemmas.Option.{same_Some}
use Rattle.std.specs.Prelude.{IfSome, IsSomeAnd, ⊤}
use Rattle.tow_link.specs.Data.{Told, SourceData, Rose}
use Rattle.tow_host.specs.Held.{Held}
use Rattle.tow_host.specs.Texts.{text_named}
use Rattle.tow_site.specs.Compiled.{SiteData, IsSiteOf}
use Rattle.tow_site.proofs.Sites.{one_site, no_site_at_fault, no_site_at_pattern, is_short}
use Rattle.tow_server.specs.declared.status.Status.{Status}
use Rattle.tow_server.specs.declared.status.Status.TheVariants.{Done, Text, HostFault, NoMemory, StreamFault}
use Rattle.tow_server.specs.Lines.{IsRefusal}
use Rattle.tow_server.specs.Texts.{Texts, Compiles, IsMissingText, IsNamed, IsRead, IsRightText, IsWrongText, NothingFailed, Refuses, ReturnsText, TextCallFailed, TextComes, TextSourceFailed}

module _ (before now : List ℕ → ℕ) (none_rose : (pattern : List ℕ) → Rose (before pattern) (now pattern) → ⊥) where
  -- the text of a site that is built is not refused
  built_not_refused : (is_built : SiteData → Bool) (bytes line : List ℕ) (site : SiteData) → IsSiteOf bytes site → is_built site ≡ true → IsRefusal is_built bytes before now line → ⊥
  built_not_refused is_built bytes line site is built (inl (kind, place, inl fault, named)) = no_site_at_fault bytes kind place site fault is
  built_not_refused is_built bytes line site is built (inl (kind, place, inr fault, named)) = no_site_at_pattern bytes kind place site before now fault is none_rose
  built_not_refused is_built bytes line site is built (inr (other, is2, unbuilt, named)) =
      let same : is_built site ≡ is_built other = ap is_built (one_site bytes site other is is2) in
      let wrong : true ≡ false = sym built ∙ same ∙ unbuilt in cc

  -- nor is it where all of it was read, or 65,537 bytes
  read_not_refused : (is_built : SiteData → Bool) (told : Told) (whole bytes line : List ℕ) (site : SiteData) → IsSiteOf whole site → is_built site ≡ true → whole ≡ told.read ++ told.left
      → told.read ≡ bytes → (told.left ≡ []) ⊎ (length bytes ≡ 65537) → IsRefusal is_built bytes before now line → ⊥
  read_not_refused is_built told whole bytes line site is built same read (inl over) refusal =
      let all : whole ≡ bytes = same ∙ ap (λ (l : List ℕ). told.read ++ l) over ∙ append-nil told.read ∙ read in
      built_not_refused is_built bytes line site (subst (λ (l : List ℕ). IsSiteOf l site) all is) built refusal
  read_not_refused is_built told whole bytes line site is built same read (inr long) refusal =
      omega (arith, is_short whole site is, ap length same, length-append told.read told.left, ap length read, long)

  source_not_refused : (is_built : SiteData → Bool) (told : Option Told) (whole bytes line : List ℕ) (site : SiteData) → IsSiteOf whole site → is_built site ≡ true
      → IsSomeAnd told (λ t. Some whole ≡ Some (t.read ++ t.left)) → IfSome told (λ t. (t.read ≡ bytes) × ((t.left ≡ []) ⊎ (length bytes ≡ 65537)) × (length bytes ≤ 65537))
      → IsRefusal is_built bytes before now line → ⊥
  source_not_refused is_built None whole bytes line site is built named read refusal = absurd named
  source_not_refused is_built (Some told) whole bytes line site is built named read refusal =
      read_not_refused is_built told whole bytes line site is built (same_Some whole (told.read ++ told.left) named) read.0 read.1 refusal

  -- a right text that was read is not refused
  pub not_refused : (is_built : SiteData → Bool) (texts : Texts) (name : List ℕ) (source : SourceData) (bytes line : List ℕ) → IsRightText is_built texts name → IsNamed texts name source
      → IsRead source bytes → IsRefusal is_built bytes before now line → ⊥
  not_refused is_built None name source bytes line right named read refusal = absurd right
  not_refused is_built (Some texts) name source bytes line right named read refusal = by (text_named texts name) right named
    where
      by : (o : Option (List ℕ)) → IsSomeAnd o (λ whole. (site : SiteData) × IsSiteOf whole site × (is_built site ≡ true))
          → IsSomeAnd source.told (λ t. o ≡ Some (t.read ++ t.left)) → ⊥
      by None right named = absurd right
      by (Some whole) (site, is, built) named = source_not_refused is_built source.told whole bytes line site is built named read refusal

-- Where the text is right and nothing failed, neither a refusal nor a fault can be the end.
pub completes : (is_built : SiteData → Bool) (name : List ℕ) (status : Status) (old new : Held)
    → ((((status ≡ Done) ⊎ (status ≡ StreamFault)) ⊎ (status ≡ NoMemory)) ⊎ ((status ≡ HostFault) ⊎ (status ≡ Text)))
    → (status ≡ Text → ReturnsText name old new) → (status ≡ Text → Refuses is_built old new)
    → (status ≡ HostFault → TextSourceFailed name old new ⊎ TextCallFailed name old new)
    → (status ≡ StreamFault → Rose old.input.faults new.input.faults ⊎ Rose old.output.faults new.output.faults)
    → IsRightText is_built old.texts name → NothingFailed name old new → (status ≡ Done) ⊎ (status ≡ NoMemory)
completes is_built name status old new (inl (inl (inl done))) text refused host stream right fine = inl done
completes is_built name status old new (inl (inl (inr is))) text refused host stream right fine = absurd (rose (stream is))
  where
    rose : Rose old.input.faults new.input.faults ⊎ Rose old.output.faults new.output.faults → ⊥
    rose (inl input) = fine.input input
    rose (inr output) = fine.output output
completes is_built name status old new (inl (inr memory)) text refused host stream right fine = inr memory
completes is_built name status old new (inr (inl is)) text refused host stream right fine = absurd (failed (host is))
  where
    failed : TextSourceFailed name old new ⊎ TextCallFailed name old new → ⊥
    failed (inl source) = fine.source source
    failed (inr call) = fine.call call
completes is_built name status old new (inr (inr is)) text refused host stream right fine =
    let r = refused is in
    absurd (not_refused old.larges new.larges fine.patterns is_built old.texts name new.text r.bytes r.line right (text is).named r.read r.refusal)

-- Where there is no text of this name, its source cannot have come back.
pub misses : (name : List ℕ) (status : Status) (old new : Held)
    → ((((status ≡ Done) ⊎ (status ≡ StreamFault)) ⊎ (status ≡ NoMemory)) ⊎ ((status ≡ HostFault) ⊎ (status ≡ Text)))
    → (((status ≡ Done) ⊎ (status ≡ StreamFault)) ⊎ (status ≡ Text) → ReturnsText name old new) → IsMissingText old.texts name → (status ≡ HostFault) ⊎ (status ≡ NoMemory)
misses name status old new ends returns missing = by ends
  where
    none : (texts : Texts) → IsMissingText texts name → IsNamed texts name new.text → ⊥
    none None missing named = absurd missing
    none (Some texts) missing named = told new.text.told named
      where
        told : (told : Option Told) → IsSomeAnd told (λ t. text_named texts name ≡ Some (t.read ++ t.left)) → ⊥
        told None named = absurd named
        told (Some t) named = let wrong : None ≡ Some (t.read ++ t.left) = sym missing ∙ named in cc

    by : ((((status ≡ Done) ⊎ (status ≡ StreamFault)) ⊎ (status ≡ NoMemory)) ⊎ ((status ≡ HostFault) ⊎ (status ≡ Text))) → (status ≡ HostFault) ⊎ (status ≡ NoMemory)
    by (inl (inl (inl is))) = absurd (none old.texts missing (returns (inl (inl is))).named)
    by (inl (inl (inr is))) = absurd (none old.texts missing (returns (inl (inr is))).named)
    by (inl (inr is)) = inr is
    by (inr (inl is)) = inl is
    by (inr (inr is)) = absurd (none old.texts missing (returns (inr is)).named)

-- Where the text is wrong and could be had and read, nothing can have been served.
pub refuses_wrong : (is_built : SiteData → Bool) (name : List ℕ) (status : Status) (old new : Held)
    → ((((status ≡ Done) ⊎ (status ≡ StreamFault)) ⊎ (status ≡ NoMemory)) ⊎ ((status ≡ HostFault) ⊎ (status ≡ Text)))
    → (((status ≡ Done) ⊎ (status ≡ StreamFault)) ⊎ (status ≡ Text) → ReturnsText name old new) → ((status ≡ Done) ⊎ (status ≡ StreamFault) → Compiles is_built new.text (λ _. ⊤))
    → (status ≡ HostFault → TextSourceFailed name old new ⊎ TextCallFailed name old new) → IsWrongText is_built old.texts name → TextComes name old new → (status ≡ Text) ⊎ (status ≡ NoMemory)
refuses_wrong is_built name status old new ends returns right host wrong comes = by ends
  where
    none : (texts : Texts) → IsWrongText is_built texts name → IsNamed texts name new.text → Compiles is_built new.text (λ _. ⊤) → ⊥
    none None wrong named right = absurd wrong
    none (Some texts) wrong named right = at (text_named texts name) wrong new.text.told named right
      where
        at : (found : Option (List ℕ)) → IsSomeAnd found (λ bytes. (site : SiteData) → IsSiteOf bytes site → is_built site ≡ true → ⊥) → (told : Option Told)
            → IsSomeAnd told (λ t. found ≡ Some (t.read ++ t.left)) → IfSome told (λ t. (t.left ≡ []) × ((site : SiteData) × IsSiteOf t.read site × (is_built site ≡ true) × ⊤)) → ⊥
        at None wrong told named right = absurd wrong
        at (Some bytes) wrong None named right = absurd named
        at (Some bytes) wrong (Some t) named (left, (site, is, built, _)) =
            let all : bytes ≡ t.read = same_Some bytes (t.read ++ t.left) named ∙ ap (λ (l : List ℕ). t.read ++ l) left ∙ append-nil t.read in
            wrong site (subst (λ (l : List ℕ). IsSiteOf l site) (sym all) is) built

    failed : TextSourceFailed name old new ⊎ TextCallFailed name old new → ⊥
    failed (inl source) = comes.source source
    failed (inr call) = comes.call call

    by : ((((status ≡ Done) ⊎ (status ≡ StreamFault)) ⊎ (status ≡ NoMemory)) ⊎ ((status ≡ HostFault) ⊎ (status ≡ Text))) → (status ≡ Text) ⊎ (status ≡ NoMemory)
    by (inl (inl (inl is))) = absurd (none old.texts wrong (returns (inl (inl is))).named (right (inl is)))
    by (inl (inl (inr is))) = absurd (none old.texts wrong (returns (inl (inr is))).named (right (inr is)))
    by (inl (inr is)) = inr is
    by (inr (inl is)) = absurd (failed (host is))
    by (inr (inr is)) = inl is
