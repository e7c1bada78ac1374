-- The listeners of an exchange run, and then the next request is read, or the connection ends.
use Rattle.std.proofs.Common.{◌≡◌, ◌⊎◌, inl, inr, ℕ, suc, Bool, true, false, not, List, [], ◌∷◌, ◌++◌, Option, Some, None, IsTrue, refl, sym, ap, subst, ◌∙◌}
use Rattle.tow_model.specs.declared.account.Call.{Call}
use Rattle.tow_model.specs.declared.account.End.{End}
use Rattle.tow_model.specs.declared.account.End.TheVariants.{Done, LinkFault, FolderFault, NoMemory}
use Rattle.tow_model.specs.Texts.{Text}
use Rattle.tow_exchange.specs.Completions.{CompletedData}
use Rattle.tow_closing.specs.Closings.{ClosingData, Does}
use Rattle.tow_closing.specs.declared.work.Work.TheVariants as work
use Rattle.tow_progress.specs.Progress.{Progress, Origin}
use Rattle.tow_progress.specs.Steps.{completed}
use Rattle.tow_progress.specs.Whole.{a_closing, a_request}
use Rattle.tow_progress.specs.Accounts.{Tally, called, lost, released, settled, stored}
use Rattle.tow_progress.specs.Cuts.{inside}
use Rattle.tow_states.specs.Known.{Setting}
use Rattle.tow_states.specs.Calling.{HasPlacesFor}
use Rattle.tow_states.specs.Closing.{CloseStepsKeep, IsClosing, Onward, content_in, cut_off, line_at, line_owed, to_end, to_last, to_next}
use Rattle.tow_states.specs.Ending.{ClosingEnds}
use Rattle.tow_states.proofs.Calls.{calls_have_places}
use Rattle.tow_states.proofs.Closes.{closing_is_kept}
use Rattle.tow_states.proofs.Ends.{closing_comes_to_end}
use Rattle.tow_leads.specs.Ports.{IsPortOf}
use Rattle.tow_stages.specs.Stages.{Base, closing, ended, reading}
use Rattle.tow_stages.specs.Holding.{ClosesOn, Follows, HasEnded, Holds, IsSilentBy, IsSilentOrEnds}
use Rattle.tow_stages.specs.Closing.{ClosingsLeadOn, LossLeadsOn, silenced, with_leaving}
use Rattle.tow_stages.proofs.Answers.{not_done}

true_so : (b silent : Bool) → b ≡ not silent → silent ≡ false → IsTrue b
true_so b silent is quiet = is ∙ ap not quiet

-- a pipe is as it was when calls or lines are noted, or the next request is open
port_on : (b : Base) (c d : Progress) → IsPortOf b.port c → d.peer ≡ c.peer → d.left ≡ c.left → d.piped_in ≡ c.piped_in
    → d.piped_out ≡ c.piped_out → d.written ≡ c.written → IsPortOf b.port d
port_on b c d port peer left piped_in piped_out written = record {
  peer = port.peer ∙ ap (λ (n : ℕ). Some n) (sym peer);
  told = port.told;
  tells = port.tells;
  left = port.left ∙ sym left;
  piped_in = port.piped_in ∙ sym piped_in;
  over = λ over. left ∙ port.over over;
  piped_out = port.piped_out ∙ sym piped_out;
  written = port.written ∙ ap (λ (l : List ℕ). Some l) (sym written);
}

-- ---- a listener runs

module _ (failed : Bool) (s : Setting) (o : Origin) (b : Base) (d : ClosingData) (end : Option End) (c : Progress) (t : Tally) where
  module _ (h : Holds failed s o b (closing d None end) c t) where
    abbrev on : ClosesOn s o b d None end c t
    on = h.holds.0

    abbrev hush : IsSilentOrEnds failed b end
    hush = h.holds.1

    abbrev steps : CloseStepsKeep s o c t on.exchange on.course on.onward
    steps = closing_is_kept s o c t on.exchange on.course on.onward

    leaves : (limit : ℕ) (new : ClosingData) → Does (work.Leave limit) d new → new.lost ≡ d.lost
        → Holds failed s o b (closing new (Some limit) end) c t
    leaves limit new does kept = record {
      is_at = h.is_at;
      holds = (
        record {
          exchange = on.exchange;
          course = on.course;
          onward = on.onward;
          is = steps.next_leaves d new limit on.is does kept;
          follows = on.follows;
          written = on.written;
          begun = on.begun;
          places = subst (λ (x : CompletedData). HasPlacesFor b.room t x.left) does.0 on.places;
        },
        hush,
      );
    }

    -- the leavings that are left have their places still
    places_behind : (number : ℕ) (text : Option Text) (new : ClosingData) → Does (work.Tell number text) d new
        → HasPlacesFor b.room t new.completed.left
    places_behind number text new does = subst (λ (x : CompletedData). HasPlacesFor b.room t x.left) does.0 on.places

    stores : (number : ℕ) (text : Text) (new : ClosingData) → Does (work.Tell number (Some text)) d new → new.lost ≡ d.lost
        → b.silent ≡ false → Holds failed s o b (closing new None end) c (stored (line_at c number text) t)
    stores number text new does kept quiet = record {
      is_at = record { number = h.is_at.number; port = h.is_at.port; calls = h.is_at.calls; all = h.is_at.all };
      holds = (
        record {
          exchange = on.exchange;
          course = on.course;
          onward = on.onward;
          is = steps.stores d new number text on.is does kept (true_so t.all b.silent h.is_at.all quiet);
          follows = on.follows;
          written = on.written;
          begun = on.begun;
          places = places_behind number (Some text) new does;
        },
        hush,
      );
    }

    -- the line at this number was lost
    abbrev without : ℕ → Tally
    without number = lost (line_owed s c on.exchange number) t

    loses : (number : ℕ) (text : Option Text) (new : ClosingData) → Does (work.Tell number text) d new → new.lost ≡ d.lost
        → IsClosing s o c (without number) on.exchange on.course new None on.onward
    loses number text new does kept = steps.loses d new number text on.is does kept

    fails : (number : ℕ) (text : Option Text) (new : ClosingData) → Does (work.Tell number text) d new → new.lost ≡ d.lost
        → failed ≡ true → LossLeadsOn failed s o (silenced b) new end c t
    fails number text new does kept has_failed = record {
      tally = without number;
      holds = record {
        is_at = record { number = h.is_at.number; port = h.is_at.port; calls = h.is_at.calls; all = refl };
        holds = (
          record {
            exchange = on.exchange;
            course = on.course;
            onward = on.onward;
            is = loses number text new does kept;
            follows = on.follows;
            written = on.written;
            begun = on.begun;
            places = places_behind number text new does;
          },
          λ silent. inl has_failed,
        );
      };
      lines = refl;
    }

    skips : (number : ℕ) (text : Option Text) (new : ClosingData) → Does (work.Tell number text) d new → new.lost ≡ d.lost
        → b.silent ≡ true → LossLeadsOn failed s o b new end c t
    skips number text new does kept silent = record {
      tally = without number;
      holds = record {
        is_at = record { number = h.is_at.number; port = h.is_at.port; calls = h.is_at.calls; all = sym (ap not silent) };
        holds = (
          record {
            exchange = on.exchange;
            course = on.course;
            onward = on.onward;
            is = loses number text new does kept;
            follows = on.follows;
            written = on.written;
            begun = on.begun;
            places = places_behind number text new does;
          },
          hush,
        );
      };
      lines = refl;
    }

    is_short : (number : ℕ) (text : Option Text) (new : ClosingData) → Does (work.Tell number text) d new → new.lost ≡ d.lost
        → LossLeadsOn failed s o (silenced b) new (Some NoMemory) c t
    is_short number text new does kept = record {
      tally = without number;
      holds = record {
        is_at = record { number = h.is_at.number; port = h.is_at.port; calls = h.is_at.calls; all = refl };
        holds = (
          record {
            exchange = on.exchange;
            course = on.course;
            onward = cut_off (content_in on.onward);
            is = (closing_is_kept s o c (without number) on.exchange on.course on.onward).breaks new None (loses number text new does kept);
            follows = (content_in on.onward, refl);
            written = λ done. not_done NoMemory (λ wrong. cc) _ done;
            begun = on.begun;
            places = places_behind number text new does;
          },
          λ silent. inr refl,
        );
      };
      lines = refl;
    }

    -- ---- none is left
    module _ (none : d.completed.left ≡ []) where
      abbrev last : ClosingEnds s o c t on.exchange on.course d
      last = closing_comes_to_end s o c t on.exchange on.course d none

      so_follows : (onward : Onward) → on.onward ≡ onward → IsClosing s o c t on.exchange on.course d None onward
      so_follows onward is = subst (λ (x : Onward). IsClosing s o c t on.exchange on.course d None x) is on.is

      ends_by : (how : End) → Follows (Some how) on.onward → (Some how ≡ Some Done → c.piped_out ≡ []) → HasEnded how s o b c t
      ends_by Done (inl is) written =
          record { thing = a_closing on.exchange.request; is = last.last_closes (so_follows to_end is); written = written refl; begun = on.begun }
      ends_by Done (inr (content, is)) written = record {
        thing = a_request on.exchange.request content;
        is = last.last_request content (so_follows (to_last content) is);
        written = written refl;
        begun = on.begun;
      }
      ends_by LinkFault (content, is) written =
          record { at = inside on.exchange.request content; is = last.cut content (so_follows (cut_off content) is); begun = on.begun }
      ends_by FolderFault (content, is) written =
          record { at = inside on.exchange.request content; is = last.cut content (so_follows (cut_off content) is); begun = on.begun }
      ends_by NoMemory (content, is) written =
          record { at = inside on.exchange.request content; is = last.cut content (so_follows (cut_off content) is); begun = on.begun }

      ends : (how : End) → end ≡ Some how → Holds failed s o b (ended how) c t
      ends how is = record {
        is_at = h.is_at;
        holds = (
          ends_by how (subst (λ (x : Option End). Follows x on.onward) is on.follows) (λ done. on.written (is ∙ done)),
          subst (λ (x : Option End). IsSilentOrEnds failed b x) is hush,
        );
      }

      goes_on : end ≡ None → Holds failed s o b reading (completed c) (settled t)
      goes_on is =
          let follows : Follows None on.onward = subst (λ (x : Option End). Follows x on.onward) is on.follows in
          let quiet : IsSilentOrEnds failed b None = subst (λ (x : Option End). IsSilentOrEnds failed b x) is hush in
          record {
            is_at = record {
              number = h.is_at.number;
              port = port_on b c (completed c) h.is_at.port refl refl refl refl refl;
              calls = h.is_at.calls;
              all = h.is_at.all;
            };
            holds = (
              record { is = last.next_request follows.0 (so_follows (to_next follows.0) follows.1); begun = ap suc on.begun },
              silent_by quiet,
            );
          }
        where
          silent_by : IsSilentOrEnds failed b None → IsSilentBy failed b
          silent_by quiet silent = from (quiet silent)
            where
              from : (failed ≡ true) ⊎ (◌≡◌ {A = Option End} None (Some NoMemory)) → failed ≡ true
              from (inl has_failed) = has_failed
              from (inr wrong) = absurd (cc)

  -- ---- a limit is left

  releases : (limit : ℕ) → Holds failed s o b (closing d (Some limit) end) c t
      → Holds failed s o (with_leaving limit c b) (closing d None end) c (called (released limit c) t)
  releases limit h =
      let is = h.holds.0 in
      record {
        is_at = record {
          number = h.is_at.number;
          port = h.is_at.port;
          calls = ap (λ (l : List Call). l ++ released limit c ∷ []) h.is_at.calls;
          all = h.is_at.all;
        };
        holds = (
          record {
            exchange = is.exchange;
            course = is.course;
            onward = is.onward;
            is = (closing_is_kept s o c t is.exchange is.course is.onward).releases d limit is.is;
            follows = is.follows;
            written = is.written;
            begun = is.begun;
            places = (calls_have_places s.tree b.room t).leaves limit d.completed.left (released limit c) is.places;
          },
          h.holds.1,
        );
      }

-- with another limit owed that is the same
owed_as : (failed : Bool) (s : Setting) (o : Origin) (b : Base) (d : ClosingData) (owed other : Option ℕ) (end : Option End) (c : Progress)
    (t : Tally) → owed ≡ other → Holds failed s o b (closing d owed end) c t → Holds failed s o b (closing d other end) c t
owed_as failed s o b d owed other end c t is h = subst (λ (x : Option ℕ). Holds failed s o b (closing d x end) c t) is h

pub closings_lead_on : ClosingsLeadOn
closings_lead_on failed s o b d owed end c t h =
    let free : owed ≡ None → Holds failed s o b (closing d None end) c t = λ is. owed_as failed s o b d owed None end c t is h in
    record {
      leaves = λ is. leaves failed s o b d end c t (free is);
      releases = λ limit is. releases failed s o b d end c t limit (owed_as failed s o b d owed (Some limit) end c t is h);
      stores = λ is. stores failed s o b d end c t (free is);
      fails = λ is. fails failed s o b d end c t (free is);
      skips = λ is. skips failed s o b d end c t (free is);
      is_short = λ is. is_short failed s o b d end c t (free is);
      goes_on = λ none is. goes_on failed s o b d end c t (free is) none;
      ends = λ none is. ends failed s o b d end c t (free is) none;
    }
