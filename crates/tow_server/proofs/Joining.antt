-- How the steps of a command join.
use Rattle.std.proofs.Common.{◌≡◌, ◌≢◌, ℕ, ◌+◌, ◌<◌, ◌≤◌, ◌⊎◌, inl, inr, Bool, true, false, List, [], length, Option, Some, None, refl, sym, ap, ◌∙◌, subst, arith}
use Rattle.std.specs.Prelude.{IfSome, ⊤}
use Rattle.std.specs.Io.KnownBytes.{append_known}
use Rattle.tow_model.specs.declared.limits.TheConstants.{MAX_TEXT_LEN}
use Rattle.tow_link.specs.Data.{Told, SourceData, SinkData, Rose, raised}
use Rattle.tow_link.specs.Runs.{AppendsPart}
use Rattle.tow_host.specs.Held.{Held, AsksText, Lends, with_text}
use Rattle.tow_host.specs.Moments.{clock_table}
use Rattle.tow_site.specs.Compiled.{SiteData, IsSiteOf, IsFaultOfText}
use Rattle.tow_language.specs.declared.kind.Kind.{Kind}
use Rattle.tow_site.specs.declared.fault.Fault.{Fault}
use Rattle.tow_site.specs.declared.fault.Fault.TheVariants as faults
use Rattle.tow_site.proofs.Sites.{is_short}
use Rattle.tow_conn.specs.Turns.{WritesWire, WritesPart}
use Rattle.tow_server.specs.Ask.{Asked, AsksPart, is_walked}
use Rattle.tow_server.specs.Check.{Checked, is_checked}
use Rattle.tow_server.specs.Lines.{fault_line, line_for, ok_line, unbuilt_line}
use Rattle.tow_server.specs.Returned.{untouched}
use Rattle.tow_server.specs.Steps.{AnswersInput, LacksSite, LacksText, LoadsText, OpensSite, RefusesFault, RefusesText, ReportsSite}
use Rattle.tow_server.specs.Texts.{Compiles, HandsBack, IsNamed, IsRead, Prints, Refuses, ReturnsText, TextCallFailed, UsesText}
use Rattle.tow_server.specs.declared.status.Status.{Status}
use Rattle.tow_server.specs.declared.status.Status.TheVariants.{Done, Words, Text, HostFault, NoMemory, StreamFault}
use Rattle.tow_server.proofs.Completing.{completes, misses, refuses_wrong}
use Rattle.tow_server.proofs.Naming.{names_fault}

-- WHICH STATUS IT IS

not_text : (status : Status) → (status ≡ HostFault) ⊎ (status ≡ NoMemory) → status ≢ Text
not_text status (inl is) text = let wrong : HostFault ≡ Text = sym is ∙ text in cc
not_text status (inr is) text = let wrong : NoMemory ≡ Text = sym is ∙ text in cc

not_host : (status : Status) → (status ≡ Text) ⊎ (status ≡ NoMemory) → status ≢ HostFault
not_host status (inl is) host = let wrong : Text ≡ HostFault = sym is ∙ host in cc
not_host status (inr is) host = let wrong : NoMemory ≡ HostFault = sym is ∙ host in cc

is_memory : (status : Status) → (status ≡ Text) ⊎ (status ≡ NoMemory) → status ≢ Text → status ≡ NoMemory
is_memory status (inl is) other = absurd (other is)
is_memory status (inr is) other = is

lacking_ends : (status : Status) → (status ≡ Text) ⊎ (status ≡ NoMemory) → ((status ≡ HostFault) ⊎ (status ≡ NoMemory)) ⊎ (status ≡ Text)
lacking_ends status (inl is) = inr is
lacking_ends status (inr is) = inl (inr is)

-- a command that served a site ends so
abbrev Served : Status → Type 0
Served status = ((status ≡ Done) ⊎ (status ≡ StreamFault)) ⊎ (status ≡ NoMemory)

served_not : (status other : Status) → Served status → Done ≢ other → StreamFault ≢ other → NoMemory ≢ other → status ≢ other
served_not status other (inl (inl is)) done stream memory same = done (sym is ∙ same)
served_not status other (inl (inr is)) done stream memory same = stream (sym is ∙ same)
served_not status other (inr is) done stream memory same = memory (sym is ∙ same)

lacking_not : (status other : Status) → ((status ≡ HostFault) ⊎ (status ≡ NoMemory)) ⊎ (status ≡ Text) → HostFault ≢ other → NoMemory ≢ other → Text ≢ other → status ≢ other
lacking_not status other (inl (inl is)) host memory text same = host (sym is ∙ same)
lacking_not status other (inl (inr is)) host memory text same = memory (sym is ∙ same)
lacking_not status other (inr is) host memory text same = text (sym is ∙ same)

-- WHAT WAS HANDED OUT COMES BACK

-- a text source was handed out and back, and shows this
record HandedOver (source : SourceData) (old new : Held) : Type 0 where
  text : new.text ≡ source
  handed : new.handed ≡ raised old.handed
  returned : new.returned ≡ raised old.returned
  home : new.is_home ≡ old.is_home
  rest : untouched new ≡ untouched old

over : (source : SourceData) (old mid new : Held) → AsksText true old mid → new.text ≡ source → new.handed ≡ mid.handed → new.returned ≡ raised mid.returned → new.is_home ≡ mid.is_home
    → untouched new ≡ untouched mid → HandedOver source old new
over source old mid new asks text handed returned home rest = record {
  text = text;
  handed = handed ∙ ap (λ (h : Held). h.handed) asks;
  returned = returned ∙ ap (λ (h : Held). raised h.returned) asks;
  home = home ∙ ap (λ (h : Held). h.is_home) asks;
  rest = rest ∙ ap untouched asks;
}

returns_text : (name : List ℕ) (source : SourceData) (old new : Held) → HandedOver source old new → IsNamed old.texts name source → ReturnsText name old new
returns_text name source old new handed named = record {
  returned = subst (λ (n : ℕ). raised old.returned ≤ n) (sym handed.returned) (omega arith);
  named = subst (IsNamed old.texts name) (sym handed.text) named;
}

hands_back : (source : SourceData) (old new : Held) → HandedOver source old new → old.is_home ≡ true → HandsBack old new
hands_back source old new handed home = record {
  home = handed.home ∙ home;
  back = λ same. handed.handed ∙ ap raised same ∙ sym handed.returned;
  rest = handed.rest;
}

-- only the output changed
pub explained_back : (old new : Held) → old.is_home ≡ true → new ≡ record old { output = new.output } → HandsBack old new
explained_back old new home rest = record {
  home = ap (λ (h : Held). h.is_home) rest ∙ home;
  back = λ same. ap (λ (h : Held). h.handed) rest ∙ same ∙ sym (ap (λ (h : Held). h.returned) rest);
  rest = ap untouched rest;
}

-- THE STREAMS

-- they were lent, and came back with more output
pub printed : (old lent new : Held) (input : SourceData) (output : SinkData) → old.is_home ≡ true → Lends old lent → input ≡ old.input
    → new ≡ record lent { is_home = true; input = input; output = output } → new ≡ record old { output = new.output }
printed old lent new input output home lends same back =
    let came : new ≡ record old { is_home = true; input = input; output = output } =
    back ∙ ap (λ (h : Held). record h { is_home = true; input = input; output = output }) lends in
    let written : new.output ≡ output = ap (λ (h : Held). h.output) back in
    came ∙ (λ i. record old { is_home = sym home i; input = same i; output = sym written i })

-- they were lent, and came back with a text source
pub answered : (source : SourceData) (old clocked lent new : Held) (input : SourceData) (output : SinkData) → old.is_home ≡ true → clocked ≡ old → Lends clocked lent
    → new ≡ record lent { text = source; returned = raised lent.returned; is_home = true; input = input; output = output }
    → new ≡ record (with_text source old) { input = new.input; output = new.output }
answered source old clocked lent new input output home same lends back =
    let came : new ≡ record (with_text source old) { is_home = true; input = input; output = output } =
    back ∙ ap (λ (h : Held). record h { text = source; returned = raised h.returned; is_home = true; input = input; output = output }) lends
    ∙ ap (λ (h : Held). record h { text = source; returned = raised h.returned; is_home = true; input = input; output = output }) same in
    let read : new.input ≡ input = ap (λ (h : Held). h.input) back in
    let written : new.output ≡ output = ap (λ (h : Held). h.output) back in
    came ∙ (λ i. record (with_text source old) { is_home = sym home i; input = sym read i; output = sym written i })

-- A LINE AFTER THE TEXT

silent : (source : SourceData) (old new : Held) → new ≡ with_text source old → new ≡ record (with_text source old) { output = new.output }
silent source old new returns = returns ∙ ap (λ (o : SinkData). record (with_text source old) { output = o }) (sym (ap (λ (h : Held). h.output) returns))

then_printed : (source : SourceData) (old mid new : Held) → mid ≡ with_text source old → new ≡ record mid { output = new.output } → new ≡ record (with_text source old) { output = new.output }
then_printed source old mid new returns rest = rest ∙ ap (λ (h : Held). record h { output = new.output }) returns

pub refuses_text : (line : List ℕ) (source : SourceData) (old mid new : Held) → mid ≡ with_text source old → Prints mid.output new.output line → new ≡ record mid { output = new.output }
    → RefusesText line source old new
refuses_text line source old mid new returns prints rest = record {
  prints = subst (λ (h : Held). Prints h.output new.output line) returns prints;
  rest = then_printed source old mid new returns rest;
}

pub refuses_nothing : (fault : Fault) (source : SourceData) (old new : Held) → new ≡ with_text source old → RefusesFault fault source NoMemory old new
refuses_nothing fault source old new returns = record {
  ends = inr refl;
  named = λ (is : NoMemory ≡ Text). cc;
  prints = λ (is : NoMemory ≡ Text). cc;
  memory = λ _. ap (λ (h : Held). h.output) returns;
  rest = silent source old new returns;
}

pub refuses_fault : (kind : Kind) (line column : ℕ) (printed : List ℕ) (source : SourceData) (old new : Held) → printed ≡ fault_line kind line column → RefusesText printed source old new
    → RefusesFault (faults.Text kind line column) source Text old new
refuses_fault kind line column printed source old new same refuses = record {
  ends = inl refl;
  named = λ _ (is : faults.Text kind line column ≡ faults.NoMemory). cc;
  prints = λ _. subst (λ (l : List ℕ). Prints old.output new.output l) same refuses.prints;
  memory = λ (is : Text ≡ NoMemory). cc;
  rest = refuses.rest;
}

pub reports_nothing : (statements : ℕ) (source : SourceData) (old new : Held) → new ≡ with_text source old → ReportsSite statements source NoMemory old new
reports_nothing statements source old new returns = record {
  ends = inr refl;
  done = λ (is : NoMemory ≡ Done). cc;
  part = λ (is : NoMemory ≡ StreamFault). cc;
  stream = λ (is : NoMemory ≡ StreamFault). cc;
  memory = λ _. ap (λ (h : Held). h.output) returns;
  rest = silent source old new returns;
}

pub reports_whole : (statements : ℕ) (line : List ℕ) (source : SourceData) (old mid new : Held) → mid ≡ with_text source old → line ≡ ok_line statements
    → new.output.written ≡ append_known mid.output.written line → new ≡ record mid { output = new.output } → ReportsSite statements source Done old new
reports_whole statements line source old mid new returns same whole rest = record {
  ends = inl (inl refl);
  done = λ _. subst (λ (l : List ℕ). new.output.written ≡ append_known old.output.written l) same (subst (λ (h : Held). new.output.written ≡ append_known h.output.written line) returns whole);
  part = λ (is : Done ≡ StreamFault). cc;
  stream = λ (is : Done ≡ StreamFault). cc;
  memory = λ (is : Done ≡ NoMemory). cc;
  rest = then_printed source old mid new returns rest;
}

pub reports_part : (statements : ℕ) (line : List ℕ) (source : SourceData) (old mid new : Held) → mid ≡ with_text source old → line ≡ ok_line statements
    → AppendsPart mid.output.written new.output.written line → Rose mid.output.faults new.output.faults → new ≡ record mid { output = new.output }
    → ReportsSite statements source StreamFault old new
reports_part statements line source old mid new returns same part rose rest = record {
  ends = inl (inr refl);
  done = λ (is : StreamFault ≡ Done). cc;
  part = λ _. subst (λ (l : List ℕ). AppendsPart old.output.written new.output.written l) same (subst (λ (h : Held). AppendsPart h.output.written new.output.written line) returns part);
  stream = λ _. subst (λ (h : Held). Rose h.output.faults new.output.faults) returns rose;
  memory = λ (is : StreamFault ≡ NoMemory). cc;
  rest = then_printed source old mid new returns rest;
}

-- THE TEXT

pub lacks_call : (name : List ℕ) (old new : Held) → AsksText false old new → TextCallFailed name old new → LacksText name HostFault old new
lacks_call name old new asks failed = record {
  ends = inl refl;
  host = λ _. inr failed;
  streams = record { input = ap (λ (h : Held). h.input) asks; output = ap (λ (h : Held). h.output) asks };
  home = ap (λ (h : Held). h.is_home) asks;
  back = λ same. ap (λ (h : Held). h.handed) asks ∙ same ∙ sym (ap (λ (h : Held). h.returned) asks);
  rest = ap untouched asks;
}

pub lacks_memory : (name : List ℕ) (old new : Held) → AsksText false old new → LacksText name NoMemory old new
lacks_memory name old new asks = record {
  ends = inr refl;
  host = λ (is : NoMemory ≡ HostFault). cc;
  streams = record { input = ap (λ (h : Held). h.input) asks; output = ap (λ (h : Held). h.output) asks };
  home = ap (λ (h : Held). h.is_home) asks;
  back = λ same. ap (λ (h : Held). h.handed) asks ∙ same ∙ sym (ap (λ (h : Held). h.returned) asks);
  rest = ap untouched asks;
}

pub lacks_rest : (name : List ℕ) (source : SourceData) (status : Status) (old mid new : Held) → (status ≡ HostFault) ⊎ (status ≡ NoMemory)
    → (status ≡ HostFault → 0 < source.faults) → IsNamed old.texts name source → AsksText true old mid → new ≡ with_text source mid → LacksText name status old new
lacks_rest name source status old mid new ends failed named asks returns =
    let handed : HandedOver source old new =
    over source old mid new asks (ap (λ (h : Held). h.text) returns) (ap (λ (h : Held). h.handed) returns) (ap (λ (h : Held). h.returned) returns) (ap (λ (h : Held). h.is_home) returns)
    (ap untouched returns) in
    record {
      ends = ends;
      host = λ is. inl (record {
        returned = returns_text name source old new handed named;
        failed = subst (λ (s : SourceData). 0 < s.faults) (sym handed.text) (failed is);
      });
      streams = record {
        input = ap (λ (h : Held). h.input) returns ∙ ap (λ (h : Held). h.input) asks;
        output = ap (λ (h : Held). h.output) returns ∙ ap (λ (h : Held). h.output) asks;
      };
      home = handed.home;
      back = λ same. handed.handed ∙ ap raised same ∙ sym handed.returned;
      rest = handed.rest;
    }

-- THE SITE

pub opens_site : (name : List ℕ) (site : SiteData) (source : SourceData) (bytes : List ℕ) (old mid new : Held) → LoadsText name source bytes old mid → IsSiteOf bytes site → new ≡ mid
    → OpensSite name site source old new
opens_site name site source bytes old mid new loads is made =
    record { bytes = bytes; named = loads.named; read = loads.read; is = is; rest = subst (AsksText true old) (sym made) loads.rest }

pub lacks_text : (name : List ℕ) (status : Status) (old new : Held) → old.is_home ≡ true → LacksText name status old new → LacksSite name status old new
lacks_text name status old new home lacks = record {
  ends = inl lacks.ends;
  host = lacks.host;
  text = λ is. absurd (not_text status lacks.ends is);
  refused = λ is_built is. absurd (not_text status lacks.ends is);
  streams = λ _. lacks.streams;
  input = lacks.streams.input;
  back = record { home = lacks.home ∙ home; back = lacks.back; rest = lacks.rest };
}

pub lacks_tree : (name : List ℕ) (source : SourceData) (bytes : List ℕ) (fault : Fault) (status : Status) (old mid made new : Held) → old.is_home ≡ true → LoadsText name source bytes old mid
    → IsFaultOfText bytes mid.larges made.larges fault → made ≡ record mid { larges = made.larges } → RefusesFault fault source status made new → LacksSite name status old new
lacks_tree name source bytes fault status old mid made new home loads is makes refuses =
    let handed : HandedOver source old new =
    over source old mid new loads.rest (ap (λ (h : Held). h.text) refuses.rest) (ap (λ (h : Held). h.handed) refuses.rest ∙ ap (λ (h : Held). h.handed) makes)
    (ap (λ (h : Held). h.returned) refuses.rest ∙ ap (λ (h : Held). raised h.returned) makes) (ap (λ (h : Held). h.is_home) refuses.rest ∙ ap (λ (h : Held). h.is_home) makes)
    (ap untouched refuses.rest ∙ ap untouched makes) in
    let before : mid.larges ≡ old.larges = ap (λ (h : Held). h.larges) loads.rest in
    let now : made.larges ≡ new.larges = sym (ap (λ (h : Held). h.larges) refuses.rest) in
    let counted : IsFaultOfText bytes old.larges new.larges fault =
    subst (λ (counts : List ℕ → ℕ). IsFaultOfText bytes counts new.larges fault) before (subst (λ (counts : List ℕ → ℕ). IsFaultOfText bytes mid.larges counts fault) now is) in
    let output : made.output ≡ old.output = ap (λ (h : Held). h.output) makes ∙ ap (λ (h : Held). h.output) loads.rest in
    let input : new.input ≡ old.input = ap (λ (h : Held). h.input) refuses.rest ∙ ap (λ (h : Held). h.input) makes ∙ ap (λ (h : Held). h.input) loads.rest in
    record {
      ends = lacking_ends status refuses.ends;
      host = λ host. absurd (not_host status refuses.ends host);
      text = λ _. returns_text name source old new handed loads.named;
      refused = λ is_built text. record {
        bytes = bytes;
        line = line_for fault;
        read = subst (λ (s : SourceData). IsRead s bytes) (sym handed.text) loads.read;
        refusal = inl (names_fault bytes old.larges new.larges fault counted (refuses.named text));
        prints = subst (λ (o : SinkData). Prints o new.output (line_for fault)) output (refuses.prints text);
        input = input;
      };
      streams = λ other. record { input = input; output = refuses.memory (is_memory status refuses.ends other) ∙ output };
      input = input;
      back = hands_back source old new handed home;
    }

-- EVERY COMMAND

-- a text was read whole, if it is that of a site
read_whole : (told : Option Told) (bytes : List ℕ) (site : SiteData) → IfSome told (λ t. (t.read ≡ bytes) × ((t.left ≡ []) ⊎ (length bytes ≡ MAX_TEXT_LEN + 1)) × (length bytes ≤ MAX_TEXT_LEN + 1))
    → IsSiteOf bytes site → IfSome told (λ t. (t.left ≡ []) × IsSiteOf t.read site)
read_whole None bytes site read is = tt
read_whole (Some t) bytes site (read, inl left, most) is = (left, subst (λ (b : List ℕ). IsSiteOf b site) (sym read) is)
read_whole (Some t) bytes site (read, inr long, most) is = absurd (omega (arith, is_short bytes site is, long))

compiles_told : (is_built : SiteData → Bool) (told : Option Told) (site : SiteData) (fact : SiteData → Type 0) → IfSome told (λ t. (t.left ≡ []) × IsSiteOf t.read site) → is_built site ≡ true → fact site
    → IfSome told (λ t. (t.left ≡ []) × ((site : SiteData) × IsSiteOf t.read site × (is_built site ≡ true) × fact site))
compiles_told is_built None site fact read built holds = tt
compiles_told is_built (Some t) site fact (left, is) built holds = (left, (site, is, built, holds))

compiles : (is_built : SiteData → Bool) (name : List ℕ) (site : SiteData) (source : SourceData) (fact : SiteData → Type 0) (old mid new : Held) → OpensSite name site source old mid → new.text ≡ source
    → is_built site ≡ true → fact site → Compiles is_built new.text fact
compiles is_built name site source fact old mid new opens text built holds =
    subst (λ (s : SourceData). Compiles is_built s fact) (sym text) (compiles_told is_built source.told site fact (read_whole source.told opens.bytes site opens.read opens.is) built holds)

uses_served : (is_built : SiteData → Bool) (name : List ℕ) (status : Status) (old new : Held) → Served status → ReturnsText name old new → Compiles is_built new.text (λ _. ⊤) → new.larges ≡ old.larges
    → (status ≡ StreamFault → Rose old.input.faults new.input.faults ⊎ Rose old.output.faults new.output.faults) → UsesText is_built name status old new
uses_served is_built name status old new ends returns right larges stream =
    let no_text : status ≢ Text = served_not status Text ends (λ is. cc) (λ is. cc) (λ is. cc) in
    let no_host : status ≢ HostFault = served_not status HostFault ends (λ is. cc) (λ is. cc) (λ is. cc) in
    record {
      text = λ _. returns;
      refused = λ is. absurd (no_text is);
      host = λ is. absurd (no_host is);
      quiet = λ is. absurd (no_host is);
      larges = λ _. larges;
      complete = completes is_built name status old new (inl ends) (λ _. returns) (λ is. absurd (no_text is)) (λ is. absurd (no_host is)) stream;
      wrong = refuses_wrong is_built name status old new (inl ends) (λ _. returns) (λ _. right) (λ is. absurd (no_host is));
      missing = misses name status old new (inl ends) (λ _. returns);
      words = λ why. served_not status (Words why) ends (λ is. cc) (λ is. cc) (λ is. cc);
    }

lacking_complete : (status : Status) → ((status ≡ HostFault) ⊎ (status ≡ NoMemory)) ⊎ (status ≡ Text) → (((status ≡ Done) ⊎ (status ≡ StreamFault)) ⊎ (status ≡ NoMemory)) ⊎ ((status ≡ HostFault) ⊎ (status ≡ Text))
lacking_complete status (inl (inl host)) = inr (inl host)
lacking_complete status (inl (inr memory)) = inl (inr memory)
lacking_complete status (inr text) = inr (inr text)

-- only a refusal is a status with which the text was handed back
lacking_returns : (name : List ℕ) (status : Status) (old new : Held) → LacksSite name status old new → ((status ≡ Done) ⊎ (status ≡ StreamFault)) ⊎ (status ≡ Text) → ReturnsText name old new
lacking_returns name status old new lacks (inl (inl is)) = absurd (lacking_not status Done lacks.ends (λ is. cc) (λ is. cc) (λ is. cc) is)
lacking_returns name status old new lacks (inl (inr is)) = absurd (lacking_not status StreamFault lacks.ends (λ is. cc) (λ is. cc) (λ is. cc) is)
lacking_returns name status old new lacks (inr is) = lacks.text is

neither : (status : Status) → status ≢ Done → status ≢ StreamFault → (status ≡ Done) ⊎ (status ≡ StreamFault) → ⊥
neither status no_done no_stream (inl is) = no_done is
neither status no_done no_stream (inr is) = no_stream is

uses_lacking : (is_built : SiteData → Bool) (name : List ℕ) (status : Status) (old new : Held) → LacksSite name status old new → UsesText is_built name status old new
uses_lacking is_built name status old new lacks =
    let no_stream : status ≢ StreamFault = lacking_not status StreamFault lacks.ends (λ is. cc) (λ is. cc) (λ is. cc) in
    let no_done : status ≢ Done = lacking_not status Done lacks.ends (λ is. cc) (λ is. cc) (λ is. cc) in
    let no_right : (status ≡ Done) ⊎ (status ≡ StreamFault) → Compiles is_built new.text (λ _. ⊤) = λ is. absurd (neither status no_done no_stream is) in
    record {
      text = lacking_returns name status old new lacks;
      refused = lacks.refused is_built;
      host = lacks.host;
      quiet = λ is. lacks.streams (λ text. let wrong : HostFault ≡ Text = sym is ∙ text in cc);
      larges = λ is. absurd (no_done is);
      complete = completes is_built name status old new (lacking_complete status lacks.ends) lacks.text (lacks.refused is_built) lacks.host (λ is. absurd (no_stream is));
      wrong = refuses_wrong is_built name status old new (lacking_complete status lacks.ends) (lacking_returns name status old new lacks) no_right lacks.host;
      missing = misses name status old new (lacking_complete status lacks.ends) (lacking_returns name status old new lacks);
      words = λ why. lacking_not status (Words why) lacks.ends (λ is. cc) (λ is. cc) (λ is. cc);
    }

-- CHECK

pub checks_served : (name : List ℕ) (site : SiteData) (source : SourceData) (status : Status) (old mid new : Held) → OpensSite name site source old mid → ReportsSite (length site.tree) source status mid new
    → Checked name status old new
checks_served name site source status old mid new opens reports =
    let line = ok_line (length site.tree) in
    let handed : HandedOver source old new =
    over source old mid new opens.rest (ap (λ (h : Held). h.text) reports.rest) (ap (λ (h : Held). h.handed) reports.rest) (ap (λ (h : Held). h.returned) reports.rest) (ap (λ (h : Held). h.is_home) reports.rest)
    (ap untouched reports.rest) in
    let input : new.input ≡ old.input = ap (λ (h : Held). h.input) reports.rest ∙ ap (λ (h : Held). h.input) opens.rest in
    let stream : status ≡ StreamFault → Rose old.output.faults new.output.faults =
    λ is. subst (λ (h : Held). Rose h.output.faults new.output.faults) opens.rest (reports.stream is) in
    record {
      text = uses_served is_checked name status old new reports.ends (returns_text name source old new handed opens.named)
          (compiles is_checked name site source (λ _. ⊤) old mid new opens handed.text refl tt) (ap (λ (h : Held). h.larges) reports.rest ∙ ap (λ (h : Held). h.larges) opens.rest) (λ is. inr (stream is));
      done = λ is. compiles is_checked name site source (λ (s : SiteData). new.output.written ≡ append_known old.output.written (ok_line (length s.tree))) old mid new opens handed.text refl
          (subst (λ (h : Held). new.output.written ≡ append_known h.output.written line) opens.rest (reports.done is));
      part = λ is. compiles is_checked name site source (λ (s : SiteData). AppendsPart old.output.written new.output.written (ok_line (length s.tree))) old mid new opens handed.text refl
          (subst (λ (h : Held). AppendsPart h.output.written new.output.written line) opens.rest (reports.part is));
      stream = stream;
      memory = λ is. record { input = input; output = reports.memory is ∙ ap (λ (h : Held). h.output) opens.rest };
      input = input;
    }

pub checks_back : (name : List ℕ) (site : SiteData) (source : SourceData) (status : Status) (old mid new : Held) → old.is_home ≡ true → OpensSite name site source old mid
    → ReportsSite (length site.tree) source status mid new → HandsBack old new
checks_back name site source status old mid new home opens reports =
    hands_back source old new
    (over source old mid new opens.rest (ap (λ (h : Held). h.text) reports.rest) (ap (λ (h : Held). h.handed) reports.rest) (ap (λ (h : Held). h.returned) reports.rest) (ap (λ (h : Held). h.is_home) reports.rest)
    (ap untouched reports.rest)) home

pub checks_nothing : (name : List ℕ) (status : Status) (old new : Held) → LacksSite name status old new → Checked name status old new
checks_nothing name status old new lacks =
    let no_stream : status ≢ StreamFault = lacking_not status StreamFault lacks.ends (λ is. cc) (λ is. cc) (λ is. cc) in
    record {
      text = uses_lacking is_checked name status old new lacks;
      done = λ is. absurd (lacking_not status Done lacks.ends (λ is. cc) (λ is. cc) (λ is. cc) is);
      part = λ is. absurd (no_stream is);
      stream = λ is. absurd (no_stream is);
      memory = λ is. lacks.streams (λ text. let wrong : NoMemory ≡ Text = sym is ∙ text in cc);
      input = lacks.input;
    }

-- ASK

pub asks_served : (name : List ℕ) (moment : Option ℕ) (site : SiteData) (source : SourceData) (status : Status) (old mid new : Held) → OpensSite name site source old mid → is_walked site ≡ true
    → AnswersInput site.tree (clock_table mid.moments moment) source status mid new → Asked name moment status old new
asks_served name moment site source status old mid new opens built answers =
    let table = clock_table old.moments moment in
    let handed : HandedOver source old new =
    over source old mid new opens.rest (ap (λ (h : Held). h.text) answers.rest) (ap (λ (h : Held). h.handed) answers.rest) (ap (λ (h : Held). h.returned) answers.rest) (ap (λ (h : Held). h.is_home) answers.rest)
    (ap untouched answers.rest) in
    let returns : ReturnsText name old new = returns_text name source old new handed opens.named in
    let stream : status ≡ StreamFault → Rose old.input.faults new.input.faults ⊎ Rose old.output.faults new.output.faults =
    λ is. subst (λ (h : Held). Rose h.input.faults new.input.faults ⊎ Rose h.output.faults new.output.faults) opens.rest (answers.stream is) in
    let part : AsksPart table old new =
    compiles is_walked name site source (λ (s : SiteData). WritesPart s.tree table old.input.told old.output.written new.output.written) old mid new opens handed.text built
    (subst (λ (h : Held). WritesPart site.tree (clock_table h.moments moment) h.input.told h.output.written new.output.written) opens.rest answers.part) in
    record {
      text = uses_served is_walked name status old new answers.ends returns (compiles is_walked name site source (λ _. ⊤) old mid new opens handed.text built tt) (ap (λ (h : Held). h.larges) answers.rest ∙ ap (λ (h : Held). h.larges) opens.rest) stream;
      done = λ is. compiles is_walked name site source (λ (s : SiteData). WritesWire s.tree table old.input.told old.output.written new.output.written) old mid new opens handed.text built
          (subst (λ (h : Held). WritesWire site.tree (clock_table h.moments moment) h.input.told h.output.written new.output.written) opens.rest (answers.done is));
      part = λ _. part;
      stream = stream;
      memory = λ _. inr (record { returned = returns; part = part });
    }

pub asks_back : (name : List ℕ) (moment : Option ℕ) (site : SiteData) (source : SourceData) (status : Status) (old mid new : Held) → old.is_home ≡ true → OpensSite name site source old mid
    → AnswersInput site.tree (clock_table mid.moments moment) source status mid new → HandsBack old new
asks_back name moment site source status old mid new home opens answers =
    hands_back source old new
    (over source old mid new opens.rest (ap (λ (h : Held). h.text) answers.rest) (ap (λ (h : Held). h.handed) answers.rest) (ap (λ (h : Held). h.returned) answers.rest) (ap (λ (h : Held). h.is_home) answers.rest)
    (ap untouched answers.rest)) home

pub asks_unbuilt : (name : List ℕ) (moment : Option ℕ) (site : SiteData) (source : SourceData) (old mid new : Held) → OpensSite name site source old mid → is_walked site ≡ false
    → RefusesText unbuilt_line source mid new → Asked name moment Text old new
asks_unbuilt name moment site source old mid new opens unbuilt refuses =
    let handed : HandedOver source old new =
    over source old mid new opens.rest (ap (λ (h : Held). h.text) refuses.rest) (ap (λ (h : Held). h.handed) refuses.rest) (ap (λ (h : Held). h.returned) refuses.rest) (ap (λ (h : Held). h.is_home) refuses.rest)
    (ap untouched refuses.rest) in
    let returns : ReturnsText name old new = returns_text name source old new handed opens.named in
    let refused : Refuses is_walked old new = record {
      bytes = opens.bytes;
      line = unbuilt_line;
      read = subst (λ (s : SourceData). IsRead s opens.bytes) (sym handed.text) opens.read;
      refusal = inr (site, opens.is, unbuilt, refl);
      prints = subst (λ (h : Held). Prints h.output new.output unbuilt_line) opens.rest refuses.prints;
      input = ap (λ (h : Held). h.input) refuses.rest ∙ ap (λ (h : Held). h.input) opens.rest;
    } in
    record {
      text = record {
        text = λ _. returns;
        refused = λ _. refused;
        host = λ (is : Text ≡ HostFault). cc;
        quiet = λ (is : Text ≡ HostFault). cc;
        larges = λ (is : Text ≡ Done). cc;
        complete = completes is_walked name Text old new (inr (inr refl)) (λ _. returns) (λ _. refused) (λ (is : Text ≡ HostFault). cc) (λ (is : Text ≡ StreamFault). cc);
        wrong = λ _ _. inl refl;
        missing = misses name Text old new (inr (inr refl)) (λ _. returns);
        words = λ why (is : Text ≡ Words why). cc;
      };
      done = λ (is : Text ≡ Done). cc;
      part = λ (is : Text ≡ StreamFault). cc;
      stream = λ (is : Text ≡ StreamFault). cc;
      memory = λ (is : Text ≡ NoMemory). cc;
    }

pub unbuilt_back : (name : List ℕ) (site : SiteData) (source : SourceData) (old mid new : Held) → old.is_home ≡ true → OpensSite name site source old mid → RefusesText unbuilt_line source mid new → HandsBack old new
unbuilt_back name site source old mid new home opens refuses =
    hands_back source old new
    (over source old mid new opens.rest (ap (λ (h : Held). h.text) refuses.rest) (ap (λ (h : Held). h.handed) refuses.rest) (ap (λ (h : Held). h.returned) refuses.rest) (ap (λ (h : Held). h.is_home) refuses.rest)
    (ap untouched refuses.rest)) home

pub asks_nothing : (name : List ℕ) (moment : Option ℕ) (status : Status) (old new : Held) → LacksSite name status old new → Asked name moment status old new
asks_nothing name moment status old new lacks =
    let no_stream : status ≢ StreamFault = lacking_not status StreamFault lacks.ends (λ is. cc) (λ is. cc) (λ is. cc) in
    record {
      text = uses_lacking is_walked name status old new lacks;
      done = λ is. absurd (lacking_not status Done lacks.ends (λ is. cc) (λ is. cc) (λ is. cc) is);
      part = λ is. absurd (no_stream is);
      stream = λ is. absurd (no_stream is);
      memory = λ is. inl (lacks.streams (λ text. let wrong : NoMemory ≡ Text = sym is ∙ text in cc));
    }
