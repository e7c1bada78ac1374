-- The listeners of an exchange run, and tell their lines.
use Rattle.std.proofs.Common.{◌≡◌, inl, inr, ℕ, Bool, true, false, List, [], ◌∷◌, ◌++◌, All, Option, Some, None, option_map, refl, sym, ap, subst, ap₂, ◌⊎◌, ◌∙◌, append-nil, append_assoc, arith}
use Rattle.std.proofs.lemmas.List.Elements.{All-append, All-cons, All-nil}
use Rattle.tow_model.specs.Texts.{Text}
use Rattle.tow_model.specs.declared.account.Line.{Line}
use Rattle.tow_model.specs.declared.account.End.{End}
use Rattle.tow_model.specs.declared.account.End.TheVariants.{NoMemory}
use Rattle.tow_closing.specs.Closings.{ClosingData, Does}
use Rattle.tow_closing.specs.declared.work.Work.TheVariants as work
use Rattle.tow_link.specs.Data.{Rose}
use Rattle.tow_faults.specs.Faults.{faults_for}
use Rattle.tow_host.specs.Logs.{LogData, PutAdds, line_told}
use Rattle.tow_host.specs.declared.log_sink.Put.TheVariants.{Stored, Failed}
use Rattle.tow_progress.specs.Progress.{Progress, Origin}
use Rattle.tow_progress.specs.Accounts.{Tally, settled, stored}
use Rattle.tow_progress.specs.Steps.{completed}
use Rattle.tow_states.specs.Known.{Setting}
use Rattle.tow_states.specs.Closing.{line_at}
use Rattle.tow_stages.specs.Stages.{Base, Stage, closing, ended, reading}
use Rattle.tow_stages.specs.Holding.{Holds}
use Rattle.tow_stages.specs.Closing.{silenced}
use Rattle.tow_stages.proofs.Closes.{closings_lead_on}
use Rattle.tow_stages.proofs.Ends.{failures_lead_on}
use Rattle.tow_turns.specs.Logging.{FailsFor, Gains, KeepsFaults, LeadsTelling, Tells}
use Rattle.tow_turns.specs.Steps.{Leads}

-- ---- a log that is as it was

gains_none : (log : Option LogData) → Gains [] log log
gains_none None = refl
gains_none (Some log) = none_added log.lines where
  none_added : (lines : Option (List Line)) → lines ≡ option_map (λ (old : List Line). old ++ []) lines
  none_added None = refl
  none_added (Some old) = ap (λ (l : List Line). Some l) (sym (append-nil old))

pub faults_kept : (k : ℕ) (log : Option LogData) → KeepsFaults k log log
faults_kept k None = tt
faults_kept k (Some log) = (omega arith, record { own = λ other is. refl; shared = omega arith })

-- the log is as it was
quiet : (failed : Bool) (s : Setting) (o : Origin) (log : Option LogData) (b : Base) (stage : Stage) (lines : List Line)
    (c : Progress) (t : Tally) → Holds failed s o b stage c t → t.lines ≡ lines → Tells failed s o log log b stage lines
quiet failed s o log b stage lines c t h same = record {
  progress = c;
  tally = t;
  fails = failed;
  failed_so = inl refl;
  holds = h;
  added = [];
  own = All-nil _;
  stored = same ∙ sym (append-nil lines);
  gains = gains_none log;
}

pub stays : (s : Setting) (log : Option LogData) (b : Base) (stage : Stage) → LeadsTelling log log s b b stage stage
stays s log b stage failed o c t h = quiet failed s o log b stage t.lines c t h refl

-- ---- what follows the listeners

pub leaves_limit : (s : Setting) (log : Option LogData) (b : Base) (d new : ClosingData) (end : Option End) (limit : ℕ)
    → Does (work.Leave limit) d new → new.lost ≡ d.lost
    → LeadsTelling log log s b b (closing d None end) (closing new (Some limit) end)
leaves_limit s log b d new end limit does same failed o c t h =
    quiet failed s o log b (closing new (Some limit) end) t.lines c t
    ((closings_lead_on failed s o b d None end c t h).leaves refl limit new does same) refl

pub goes_on : (s : Setting) (log : Option LogData) (b : Base) (d : ClosingData) → d.completed.left ≡ []
    → LeadsTelling log log s b b (closing d None None) reading
goes_on s log b d none failed o c t h =
    quiet failed s o log b reading t.lines (completed c) (settled t)
    ((closings_lead_on failed s o b d None None c t h).goes_on none refl refl) refl

pub has_ended : (s : Setting) (log : Option LogData) (b : Base) (d : ClosingData) (how : End) → d.completed.left ≡ []
    → LeadsTelling log log s b b (closing d None (Some how)) (ended how)
has_ended s log b d how none failed o c t h =
    quiet failed s o log b (ended how) t.lines c t
    ((closings_lead_on failed s o b d None (Some how) c t h).ends none refl how refl) refl

-- ---- a line

pub finds_no_memory : (s : Setting) (log : Option LogData) (b : Base) (d new : ClosingData) (end : Option End) (number : ℕ) (text : Option Text)
    → Does (work.Tell number text) d new → new.lost ≡ d.lost
    → LeadsTelling log log s b (silenced b) (closing d None end) (closing new None (Some NoMemory))
finds_no_memory s log b d new end number text does same failed o c t h =
    let l = (closings_lead_on failed s o b d None end c t h).is_short refl number text new does same in
    quiet failed s o log (silenced b) (closing new None (Some NoMemory)) t.lines c l.tally l.holds l.lines

pub is_skipped : (s : Setting) (log : Option LogData) (b : Base) (d new : ClosingData) (end : Option End) (number : ℕ) (text : Option Text)
    → Does (work.Tell number text) d new → new.lost ≡ d.lost → b.silent ≡ true
    → LeadsTelling log log s b b (closing d None end) (closing new None end)
is_skipped s log b d new end number text does same silent failed o c t h =
    let l = (closings_lead_on failed s o b d None end c t h).skips refl number text new does same silent in
    quiet failed s o log b (closing new None end) t.lines c l.tally l.holds l.lines

pub is_stored : (s : Setting) (log new_log : LogData) (b : Base) (d new : ClosingData) (end : Option End) (number : ℕ) (text : Text)
    → Does (work.Tell number (Some text)) d new → new.lost ≡ d.lost → b.silent ≡ false
    → PutAdds log new_log Stored (line_told b.number b.begun number text)
    → LeadsTelling (Some log) (Some new_log) s b b (closing d None end) (closing new None end)
is_stored s log new_log b d new end number text does same silent puts failed o c t h =
    let line : Line = line_told b.number b.begun number text in
    let is_line : line_at c number text ≡ line = ap (λ (k : ℕ). line_told k c.request number text) (sym h.is_at.number)
    ∙ ap (λ (j : ℕ). line_told b.number j number text) (sym h.holds.0.begun) in
    record {
      progress = c;
      tally = stored line t;
      fails = failed;
      failed_so = inl refl;
      holds = subst (λ (l : Line). Holds failed s o b (closing new None end) c (stored l t)) is_line
          ((closings_lead_on failed s o b d None end c t h).stores refl number text new does same silent);
      added = line ∷ [];
      own = All-cons (λ (l : Line). l.connection ≡ b.number) line [] refl (All-nil _);
      stored = refl;
      gains = ap (λ (l : LogData). l.lines) puts;
    }

pub is_refused : (s : Setting) (log new_log : LogData) (b : Base) (d new : ClosingData) (end : Option End) (number : ℕ) (text : Option Text)
    (line : Line) → Does (work.Tell number text) d new → new.lost ≡ d.lost → PutAdds log new_log Failed line
    → Rose (faults_for log.faults b.number) (faults_for new_log.faults b.number)
    → LeadsTelling (Some log) (Some new_log) s b (silenced b) (closing d None end) (closing new None end)
is_refused s log new_log b d new end number text line does same puts rose failed o c t h =
    let l = (closings_lead_on true s o b d None end c t (failures_lead_on failed s o b (closing d None end) c t h)).fails refl number text new does same refl in
    record {
      progress = c;
      tally = l.tally;
      fails = true;
      failed_so = inr rose;
      holds = l.holds;
      added = [];
      own = All-nil _;
      stored = l.lines ∙ sym (append-nil t.lines);
      gains = ap (λ (l : LogData). l.lines) puts ∙ gains_none (Some log);
    }

-- ---- one step, and then another

pub then_on : (s : Setting) (a b c : Base) (x y z : Stage) → Leads s a b x y → Leads s b c y z → Leads s a c x z
then_on s a b c x y z first second failed o p t h =
    let m = first failed o p t h in
    let n = second failed o m.progress m.tally m.holds in
    record { progress = n.progress; tally = n.tally; holds = n.holds; same_lines = n.same_lines ∙ m.same_lines }

-- a step that tells its log nothing
pub tells_nothing : (s : Setting) (log : Option LogData) (a b : Base) (x y : Stage) → Leads s a b x y → LeadsTelling log log s a b x y
tells_nothing s log a b x y leads failed o c t h =
    let m = leads failed o c t h in
    quiet failed s o log b y t.lines m.progress m.tally m.holds m.same_lines

gains_both : (one two : List Line) (a b c : Option LogData) → Gains one a b → Gains two b c → Gains (one ++ two) a c
gains_both one two None None None first second = ap₂ (λ (x y : List Line). x ++ y) first second
gains_both one two None None (Some c) first second = absurd second
gains_both one two None (Some b) c first second = absurd first
gains_both one two (Some a) None c first second = absurd first
gains_both one two (Some a) (Some b) None first second = absurd second
gains_both one two (Some a) (Some b) (Some c) first second =
    second ∙ ap (λ (l : Option (List Line)). option_map (λ (lines : List Line). lines ++ two) l) first ∙ both_added a.lines
  where
    both_added : (lines : Option (List Line))
        → option_map (λ (l : List Line). l ++ two) (option_map (λ (l : List Line). l ++ one) lines)
        ≡ option_map (λ (l : List Line). l ++ (one ++ two)) lines
    both_added None = refl
    both_added (Some l) = ap (λ (x : List Line). Some x) (append_assoc l one two)

module _ (k : ℕ) where
  fails_then_kept : (a b c : Option LogData) → FailsFor k a b → KeepsFaults k b c → FailsFor k a c
  fails_then_kept None b c fails kept = absurd fails
  fails_then_kept (Some a) None c fails kept = absurd fails
  fails_then_kept (Some a) (Some b) None fails kept = absurd kept
  fails_then_kept (Some a) (Some b) (Some c) fails kept = let later = kept.0 in omega (arith, fails, later)

  kept_then_fails : (a b c : Option LogData) → KeepsFaults k a b → FailsFor k b c → FailsFor k a c
  kept_then_fails None None c kept fails = absurd fails
  kept_then_fails None (Some b) c kept fails = absurd kept
  kept_then_fails (Some a) None c kept fails = absurd kept
  kept_then_fails (Some a) (Some b) None kept fails = absurd fails
  kept_then_fails (Some a) (Some b) (Some c) kept fails = let later = kept.0 in omega (arith, fails, later)

  pub faults_both : (a b c : Option LogData) → KeepsFaults k a b → KeepsFaults k b c → KeepsFaults k a c
  faults_both None None None first second = tt
  faults_both None None (Some c) first second = absurd second
  faults_both None (Some b) c first second = absurd first
  faults_both (Some a) None c first second = absurd first
  faults_both (Some a) (Some b) None first second = absurd second
  faults_both (Some a) (Some b) (Some c) first second =
      let l1 = first.0 in
      let l2 = second.0 in
      let s1 = first.1.shared in
      let s2 = second.1.shared in (
        omega (arith, l1, l2),
        record { own = λ other is. second.1.own other is ∙ first.1.own other is; shared = omega (arith, s1, s2) },
      )

  -- it has failed for the connection by either step
  fails_both : (failed middle fails : Bool) (a b c : Option LogData) → KeepsFaults k a b → KeepsFaults k b c
      → (middle ≡ failed) ⊎ FailsFor k a b → (fails ≡ middle) ⊎ FailsFor k b c → (fails ≡ failed) ⊎ FailsFor k a c
  fails_both failed middle fails a b c kept later (inl same) (inl still) = inl (still ∙ same)
  fails_both failed middle fails a b c kept later (inr fault) (inl still) = inr (fails_then_kept a b c fault later)
  fails_both failed middle fails a b c kept later first (inr fault) = inr (kept_then_fails a b c kept fault)

-- The log's counts did not fall in either step.
pub then_tells : (k : ℕ) (s : Setting) (one two three : Option LogData) (a b c : Base) (x y z : Stage) → b.number ≡ k → c.number ≡ k
    → KeepsFaults k one two → KeepsFaults k two three → LeadsTelling one two s a b x y → LeadsTelling two three s b c y z
    → LeadsTelling one three s a c x z
then_tells k s one two three a b c x y z at_b at_c kept later first second failed o p t h =
    let m = first failed o p t h in
    let n = second m.fails o m.progress m.tally m.holds in
    let same : b.number ≡ c.number = at_b ∙ sym at_c in
    record {
      progress = n.progress;
      tally = n.tally;
      fails = n.fails;
      failed_so = subst (λ (i : ℕ). (n.fails ≡ failed) ⊎ FailsFor i one three) (sym at_c)
          (fails_both k failed m.fails n.fails one two three kept later
          (subst (λ (i : ℕ). (m.fails ≡ failed) ⊎ FailsFor i one two) at_b m.failed_so)
          (subst (λ (i : ℕ). (n.fails ≡ m.fails) ⊎ FailsFor i two three) at_c n.failed_so));
      holds = n.holds;
      added = m.added ++ n.added;
      own = All-append (λ (line : Line). line.connection ≡ c.number) m.added n.added
          (subst (λ (i : ℕ). All (λ (line : Line). line.connection ≡ i) m.added) same m.own) n.own;
      stored = n.stored ∙ ap (λ (l : List Line). l ++ n.added) m.stored ∙ append_assoc t.lines m.added n.added;
      gains = gains_both m.added n.added one two three m.gains n.gains;
    }
