-- The beginning and the end of a connection, and what is true in between.
use Rattle.std.proofs.Common.{◌≡◌, ◌≢◌, ◌⊎◌, inl, inr, ℕ, Bool, true, false, not, Some, IsTrue, refl, sym, ap, ◌∙◌}
use Rattle.tow_model.specs.declared.account.End.{End}
use Rattle.tow_model.specs.declared.account.End.TheVariants.{Done, LinkFault, FolderFault, NoMemory}
use Rattle.tow_exchange.specs.Exchanges.{ExchangeData}
use Rattle.tow_content.specs.declared.gathering.Gathering.{Gathering}
use Rattle.tow_progress.specs.Progress.{Progress, Origin}
use Rattle.tow_progress.specs.Accounts.{IsSeenOf, Tally}
use Rattle.tow_progress.specs.Ended.{Seen, EndedUnder}
use Rattle.tow_progress.proofs.Fronts.{front_follows}
use Rattle.tow_course.specs.Course.{Course}
use Rattle.tow_states.specs.Known.{Setting, Stands, run_in}
use Rattle.tow_states.proofs.Ends.{cut_has_ended, last_is_done}
use Rattle.tow_states.proofs.Heads.{reading_begins}
use Rattle.tow_stages.specs.Stages.{Base, Stage, answering, closing, ended, gathering, reading, refusing, walking}
use Rattle.tow_stages.specs.Holding.{HasEnded, Holds, IsAt, IsCut, IsSilentOrEnds, TellsOrTakes}
use Rattle.tow_stages.proofs.Answers.{same_end, true_is_not_false}
use Rattle.tow_stages.specs.Ending.{ConnectionBegins, EndsAreEnds, FailuresLeadOn, IsSeenAt, StagesWriteFronts}

pub connection_begins : ConnectionBegins
connection_begins failed s k peer input p room port = record {
  is_at = record { number = refl; port = port; calls = refl; all = refl };
  holds = (record { is = reading_begins s k peer input true; begun = refl }, λ silent. absurd (cc));
}

-- ---- in each stage the connection is on its wire

asks_stand : (to_tell : Bool) (s : Setting) (o : Origin) (e : ExchangeData) (g : Gathering) (c : Progress) (t : Tally) (n : Course)
    → TellsOrTakes to_tell s o e g c t n → Stands s o c t
asks_stand true s o e g c t n is = is.is.stands
asks_stand false s o e g c t n is = is.is.stands

end_stands : (end : End) (s : Setting) (o : Origin) (b : Base) (c : Progress) (t : Tally) → HasEnded end s o b c t → Stands s o c t
end_stands Done s o b c t is = is.is.stands
end_stands LinkFault s o b c t is = is.is.stands
end_stands FolderFault s o b c t is = is.is.stands
end_stands NoMemory s o b c t is = is.is.stands

stands_in : (failed : Bool) (s : Setting) (o : Origin) (b : Base) (stage : Stage) (c : Progress) (t : Tally)
    → Holds failed s o b stage c t → Stands s o c t
stands_in failed s o b reading c t h = h.holds.0.is.stands
stands_in failed s o b (refusing left) c t h = h.holds.0.is.stands
stands_in failed s o b (walking e) c t h = h.holds.0.is.stands
stands_in failed s o b (gathering e g to_tell) c t h = asks_stand to_tell s o e g c t h.holds.0.course h.holds.0.is
stands_in failed s o b (answering d pieces closes drain) c t h = h.holds.0.is.stands
stands_in failed s o b (closing d owed end) c t h = h.holds.0.is.stands
stands_in failed s o b (ended end) c t h = end_stands end s o b c t h.holds.0

pub stages_write_fronts : StagesWriteFronts
stages_write_fronts failed s o b stage c t h = front_follows (run_in s) c (stands_in failed s o b stage c t h).wire

pub failures_lead_on : FailuresLeadOn
failures_lead_on failed s o b reading c t h = record { is_at = h.is_at; holds = (h.holds.0, λ silent. refl) }
failures_lead_on failed s o b (refusing left) c t h = record { is_at = h.is_at; holds = (h.holds.0, λ silent. refl) }
failures_lead_on failed s o b (walking e) c t h = record { is_at = h.is_at; holds = (h.holds.0, λ silent. refl) }
failures_lead_on failed s o b (gathering e g to_tell) c t h = record { is_at = h.is_at; holds = (h.holds.0, λ silent. refl) }
failures_lead_on failed s o b (answering d pieces closes drain) c t h = record { is_at = h.is_at; holds = (h.holds.0, λ silent. refl) }
failures_lead_on failed s o b (closing d owed end) c t h = record { is_at = h.is_at; holds = (h.holds.0, λ silent. inl refl) }
failures_lead_on failed s o b (ended end) c t h = record { is_at = h.is_at; holds = (h.holds.0, λ silent. inl refl) }

-- ---- it has ended

-- if the log has failed in nothing, and no line found no memory, no line was lost
none_lost : (failed : Bool) (b : Base) (end : End) (t : Tally) → t.all ≡ not b.silent → IsSilentOrEnds failed b (Some end)
    → end ≢ NoMemory → failed ≡ false → IsTrue t.all
none_lost failed b end t all hush other well = from b.silent refl
  where
    from : (silent : Bool) → b.silent ≡ silent → IsTrue t.all
    from false quiet = all ∙ ap not quiet
    from true silent = by (hush silent)
      where
        by : (failed ≡ true) ⊎ (Some end ≡ Some NoMemory) → IsTrue t.all
        by (inl has_failed) = absurd (true_is_not_false (sym has_failed ∙ well))
        by (inr short) = absurd (other (same_end end NoMemory short))

module _ (failed : Bool) (s : Setting) (o : Origin) (b : Base) (c : Progress) (t : Tally) (at : IsAt b c t) (seen : Seen) where
  is_seen : (end : End) → IsSeenAt failed b end c t seen → (exchanges : ℕ) → b.begun ≡ exchanges → IsSeenOf c t exchanges seen
  is_seen end is exchanges begun =
      record { calls = is.calls ∙ at.calls; count = is.exchanges ∙ begun; written = is.written; lines = is.lines }

  cut_ends : (end : End) → IsSeenAt failed b end c t seen → end ≢ Done → IsCut s o b c t → IsSilentOrEnds failed b (Some end)
      → EndedUnder s.tree s.files s.moments o.number o.peer o.input seen
  cut_ends end is other cut hush =
      cut_has_ended s o c t cut.at cut.is seen (λ done. other (sym is.end_is ∙ done)) (is_seen end is _ cut.begun)
      (λ more logged. none_lost failed b end t at.all hush (λ short. more (is.end_is ∙ short)) (is.logged logged))

  ends_so : (end : End) → IsSeenAt failed b end c t seen → HasEnded end s o b c t → IsSilentOrEnds failed b (Some end)
      → EndedUnder s.tree s.files s.moments o.number o.peer o.input seen
  ends_so Done is done hush =
      last_is_done s o c t done.thing done.is done.written seen is.end_is (is_seen Done is _ done.begun)
      (λ logged. none_lost failed b Done t at.all hush (λ wrong. cc) (is.logged logged))
  ends_so LinkFault is cut hush = cut_ends LinkFault is (λ wrong. cc) cut hush
  ends_so FolderFault is cut hush = cut_ends FolderFault is (λ wrong. cc) cut hush
  ends_so NoMemory is cut hush = cut_ends NoMemory is (λ wrong. cc) cut hush

pub ends_are_ends : EndsAreEnds
ends_are_ends failed s o b end c t h seen is = ends_so failed s o b c t h.is_at seen end is h.holds.0 h.holds.1
