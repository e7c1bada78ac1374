-- A connection that was cut has ended as it has to.
use Rattle.std.proofs.Common.{◌≡◌, ◌⊎◌, inl, inr, ℕ, suc, pred, ◌+◌, ◌<◌, ◌≤◌, Bool, IsTrue, All, List, [], ◌∷◌, ◌++◌, Option, Some, None, is_none, if◌then◌else◌, length, take, drop, refl, sym, ap, ap₂, ◌∙◌, subst, append_assoc, take_at, take-append-drop, length-append, length-take-le, lt_of_not-le, arith}
use Rattle.std.proofs.lemmas.Bool.{and_parts}
use Rattle.std.proofs.lemmas.List.{append-nil}
use Rattle.std.proofs.lemmas.List.Concat.{flat_map-append}
use Rattle.std.proofs.lemmas.List.Elements.{All-pop}
use Rattle.tow_model.specs.declared.request.Request.{Request}
use Rattle.tow_model.specs.declared.record.Record.{Record}
use Rattle.tow_model.specs.declared.record.Listener.{Listener}
use Rattle.tow_model.specs.declared.content.Content.{Content}
use Rattle.tow_model.specs.declared.content.Content.TheVariants.{Whole}
use Rattle.tow_model.specs.declared.account.Call.{Call}
use Rattle.tow_model.specs.declared.account.Line.{Line}
use Rattle.tow_model.specs.declared.account.Verdict.{Verdict}
use Rattle.tow_model.specs.declared.statement.Statement.{Statement}
use Rattle.tow_model.specs.Lists.{IsPrefix}
use Rattle.tow_history.specs.Histories.{verdicts}
use Rattle.tow_message.specs.Contents.{Gives}
use Rattle.tow_message.specs.Stream.{Stream, refused, ReadsStream}
use Rattle.tow_message.proofs.StreamLemmas.{stream_is_one, gives_one}
use Rattle.tow_semantics.specs.Listeners.{calls}
use Rattle.tow_semantics.specs.Runs.{Ending, Wait, Entry, Run, is_decided}
use Rattle.tow_wire.specs.Answers.{continue_text, answer, answer_of}
use Rattle.tow_wire.specs.Wire.{Met, meet, invitation_to, answer_to, text_of, texts_of, goes_on, wire, met, met_from}
use Rattle.tow_progress.specs.Progress.{Progress, input_of, unfinished, verdicts_of}
use Rattle.tow_progress.specs.Runs.{Grows}
use Rattle.tow_progress.specs.OnWire.{IsOnWire}
use Rattle.tow_progress.specs.Steps.{IsKnown, Settles, open_exchange}
use Rattle.tow_progress.specs.Exchanges.{calls_of, lines_by, lines_of}
use Rattle.tow_progress.specs.Ended.{Seen, Keeps, HasCalls, IsReleased, IsDecidedAs, IsUnbegun, IsCutIn, IsCut}
use Rattle.tow_progress.specs.Accounts.{Tally, KeepsAccount, finished_of, IsSeenOf}
use Rattle.tow_progress.specs.Cuts.{between, inside, IsCutBetween, IsCutInside, begun_at, CutFollows}
use Rattle.tow_progress.proofs.Opens.{OpensAs, opens_as, invited_alike, known_is}
use Rattle.tow_progress.proofs.Fronts.{front_follows}
use Rattle.tow_progress.proofs.AccountLemmas.{finished_is, calls_append, lines_append, keeps_same}

-- ---- lists

-- what is not a front of a list is longer than its fronts
module _ (run : Run) (k : ℕ) where
  all_texts : (xs ys : List Met) → length (texts_of run k (xs ++ ys)) ≡ length (texts_of run k xs) + length (texts_of run k ys)
  all_texts xs ys = ap length (flat_map-append (text_of run k) xs ys) ∙ length-append (texts_of run k xs) (texts_of run k ys)

  longer_texts : (begun others before behind : List Met) → begun ++ others ≡ before ++ behind → length begun ≤ length before
      → length (texts_of run k begun) ≤ length (texts_of run k before)
  longer_texts begun others before behind same le =
      let n = length begun in
      let front : begun ≡ take n before =
      sym (take_at begun others n refl) ∙ ap (take n) same
      ∙ ap (λ (l : List Met). take n (l ++ behind)) (sym (take-append-drop n before))
      ∙ ap (take n) (append_assoc (take n before) (drop n before) behind)
      ∙ take_at (take n before) (drop n before ++ behind) n (length-take-le n before le) in
      let cut : before ≡ begun ++ drop n before = sym (take-append-drop n before) ∙ ap (λ (l : List Met). l ++ drop n before) (sym front) in
      let sum : length (texts_of run k before) ≡ length (texts_of run k begun) + length (texts_of run k (drop n before)) =
      ap (λ (l : List Met). length (texts_of run k l)) cut ∙ all_texts begun (drop n before) in
      omega (arith, sum)

  -- where no more was written than the texts of the first exchanges, a byte of one was written only if it is among these
  reached_by : (begun others : List Met) (written : List ℕ) → length written ≤ length (texts_of run k begun)
      → (before behind : List Met) (e : Met) → begun ++ others ≡ before ++ e ∷ behind
      → length (texts_of run k before) < length written → length before < length begun
  reached_by begun others written few before behind e same some =
      lt_of_not-le (λ le. let long = longer_texts begun others before (e ∷ behind) same le in absurd (omega (arith, few, some, long)))

  one_text : (xs : List Met) (e : Met) → length (texts_of run k (xs ++ e ∷ [])) ≡ length (texts_of run k xs) + length (text_of run k e)
  one_text xs e = all_texts xs (e ∷ []) ∙ ap (λ (l : List ℕ). length (texts_of run k xs) + length l) (append-nil (text_of run k e))

-- a list has no element, or a last one
abbrev HasLast : List Met → Type 0
HasLast es = (es ≡ []) ⊎ ((whole : List Met) × (e : Met) × (es ≡ whole ++ e ∷ []))

with_first : (x : Met) (es : List Met) → HasLast es → HasLast (x ∷ es)
with_first x es (inl none) = inr ([], x, ap (λ (l : List Met). x ∷ l) none)
with_first x es (inr (whole, e, is)) = inr (x ∷ whole, e, ap (λ (l : List Met). x ∷ l) is)

has_last : (es : List Met) → HasLast es
has_last [] = inl refl
has_last (x ∷ es) = with_first x es (has_last es)

front_of_none : (xs rest : List Line) → [] ≡ xs ++ rest → xs ≡ []
front_of_none [] rest is = refl
front_of_none (x ∷ xs) rest is = absurd (cc)

-- ---- an exchange, and the same with its content

-- what is known of it stays so
record Lifts (run : Run) (k : ℕ) (old new : Met) : Type 0 where
  asked : new.outcome.asked ≡ old.outcome.asked
  entries : new.outcome.entries ≡ old.outcome.entries
  listeners : new.outcome.state.listeners ≡ old.outcome.state.listeners
  settles : IsTrue (is_decided old.outcome) → Settles run k old new

lifts : (run : Run) → Grows run → (k j : ℕ) (q : Request) (behind : List ℕ) (c given : Option Content) (v : List Verdict)
    → IsKnown q.framing behind c → Gives q.framing behind given → Lifts run k (meet run k j q c v) (meet run k j q given v)
lifts run grows k j q behind None given v known gives =
    let comes = grows.contents q (run.moment k j) given v in record {
      asked = comes.asked;
      entries = comes.entries;
      listeners = comes.listeners;
      settles = known_is run grows k j q behind None given v known gives;
    }
lifts run grows k j q behind (Some x) given v known gives =
    subst (λ (g : Option Content). Lifts run k (meet run k j q (Some x) v) (meet run k j q g v))
    (gives_one q.framing behind (Some x) given known gives)
    (record { asked = refl; entries = refl; listeners = refl; settles = λ decided. record { decided = decided; outcome = refl; text = refl; on = refl } })

module _ (run : Run) (k j : ℕ) (q : Request) (c given : Option Content) (v : List Verdict)
    (lifts : Lifts run k (meet run k j q c v) (meet run k j q given v)) where
  abbrev old : Met
  old = meet run k j q c v

  abbrev new : Met
  new = meet run k j q given v

  same_invitation : invitation_to new ≡ invitation_to old
  same_invitation = ap (λ (b : Bool). if b then continue_text else []) (invited_alike q old.outcome new.outcome lifts.asked)

  decided_as : (x : Record) → IsDecidedAs old x → IsDecidedAs new x
  decided_as x is =
      let settles = lifts.settles is.0 in (settles.decided, is.1 ∙ ap (λ (o : Ending). o.state) (sym settles.outcome))

  has_calls : (listeners : List Listener) (made : List Call) → HasCalls old listeners made → HasCalls new listeners made
  has_calls listeners made is = record {
    added = subst (λ (l : List Listener). IsPrefix listeners l) (sym lifts.listeners) is.added;
    entries = is.entries;
    entered = subst (λ (l : List Entry). IsPrefix is.entries l) (sym lifts.entries) is.entered;
    are = is.are;
    released = is.released;
  }

  text_as_long : (w : Option Wait) → old.outcome.waits ≡ w → length (text_of run k old) ≤ length (text_of run k new)
  text_as_long None waits =
      let same : length (text_of run k new) ≡ length (text_of run k old) =
      ap length (lifts.settles (ap is_none waits)).text in omega (arith, same)
  text_as_long (Some w) waits =
      let only : text_of run k old ≡ invitation_to old ++ [] =
      ap (λ (b : Bool). invitation_to old ++ (if b then answer run.file q (answer_of q j (run.moment k j) c old.outcome) else [])) (ap is_none waits) in
      let short : length (text_of run k old) ≡ length (invitation_to old) = ap length (only ∙ append-nil (invitation_to old)) in
      let long : length (text_of run k new) ≡ length (invitation_to new) + length (answer_to run k new) =
      length-append (invitation_to new) (answer_to run k new) in
      let same : length (invitation_to new) ≡ length (invitation_to old) = ap length same_invitation in
      omega (arith, short, long, same)

-- ---- the exchanges from the open request on

-- the first of them is that of q with its content
record BeginsWith (run : Run) (k j : ℕ) (rest : Stream) (q : Request) (behind : List ℕ) (v : List Verdict) : Type 0 where
  given : Option Content
  gives : Gives q.framing behind given
  others : List Met
  are : met_from run k j rest v ≡ meet run k j q given v ∷ others

begins_with : (run : Run) (k j peer : ℕ) (rest : Stream) (q : Request) (behind : List ℕ) (v : List Verdict) → OpensAs peer rest q behind
    → BeginsWith run k j rest q behind v
begins_with run k j peer rest q behind v (inl (given, is, gives, not_whole)) = record {
  given = given;
  gives = gives;
  others = [];
  are = ap (λ (s : Stream). met_from run k j s v) is;
}
begins_with run k j peer rest q behind v (inr (bytes, tail, after, is, has, reads)) = record {
  given = Some (Whole bytes);
  gives = (after, has);
  others = _;
  are = ap (λ (s : Stream). met_from run k j s v) is;
}

-- ---- the end

written_few : (texts put written piped : List ℕ) → texts ++ put ≡ written ++ piped → length written ≤ length texts + length put
written_few texts put written piped out =
    let sums : length texts + length put ≡ length written + length piped =
    sym (length-append texts put) ∙ ap length out ∙ length-append written piped in
    omega (arith, sums)

front_few : (a b : List ℕ) → IsPrefix a b → length a ≤ length b
front_few a b (rest, is) =
    let sum : length b ≡ length a + length rest = ap length is ∙ length-append a rest in omega (arith, sum)

module _ (tree : List Statement) (run : Run) (grows : Grows run) (c : Progress) (t : Tally) (on : IsOnWire run c)
    (keeps : KeepsAccount tree run c t) (seen : Seen) (all : Bool) (kept : IsTrue all → IsTrue t.all)
    (whole : Stream) (reads : ReadsStream c.peer (input_of c) whole) where
  abbrev k : ℕ
  k = c.number

  abbrev heard_met : List Met
  heard_met = met run k whole (verdicts seen.account.calls)

  heard_same : seen.account.calls ≡ t.calls → verdicts seen.account.calls ≡ verdicts_of c
  heard_same same = ap verdicts same ∙ keeps.verdicts

  front_seen : seen.account.calls ≡ t.calls → seen.written ≡ c.written → IsPrefix seen.written (wire run k whole (verdicts seen.account.calls))
  front_seen same written =
      subst (λ (v : List Verdict). IsPrefix seen.written (wire run k whole v)) (sym (heard_same same))
      (subst (λ (l : List ℕ). IsPrefix l (wire run k whole (verdicts_of c))) (sym written) (front_follows run c on whole reads))

  -- the lines, if these are owed
  lines_seen : seen.lines ≡ t.lines → (owed : List Line) → lines_of tree run k (finished_of run c whole) ++ t.owed ≡ owed → Keeps all seen.lines owed
  lines_seen same owed are =
      let here = keeps_same t.all t.lines _ owed are (keeps.lines whole reads) in
      record {
        front = subst (λ (l : List Line). IsPrefix l owed) (sym same) here.front;
        whole = λ is. same ∙ here.whole (kept is);
      }

  -- the last exchange that was begun was finished
  last_whole : IsCutBetween c t → IsSeenOf c t (begun_at c between) seen → HasLast (finished_of run c whole)
      → All (λ e. IsTrue (goes_on e)) (finished_of run c whole)
      → IsUnbegun seen (finished_of run c whole) ⊎ IsCutIn tree run k seen all (finished_of run c whole)
  last_whole is looks (inl none) went =
      inl (record {
        none = none;
        calls = looks.calls ∙ keeps.calls whole reads ∙ ap₂ (λ (x y : List Call). x ++ y) (ap calls_of none) is.calls;
        lines = (
            let owed : lines_of tree run k (finished_of run c whole) ++ t.owed ≡ [] =
            ap₂ (λ (x y : List Line). x ++ y) (ap (lines_of tree run k) none) is.lines in
            let here = lines_seen looks.lines [] owed in front_of_none seen.lines here.front.0 here.front.1
            );
      })
  last_whole is looks (inr (before, e, are)) went =
      let released : IsReleased e = (All-pop IsReleased (finished_of run c whole) before (Some e) are (keeps.released whole reads)).1 in
      let goes : IsTrue (goes_on e) = (All-pop (λ g. IsTrue (goes_on g)) (finished_of run c whole) before (Some e) are went).1 in
      let decided : IsDecidedAs e e.outcome.state = ((and_parts (is_decided e.outcome) _ goes).0, refl) in
      inr (record {
        whole = before;
        e = e;
        are = are;
        state = e.outcome.state;
        ends = inl decided;
        decided = λ some. decided;
        made = calls e.number e.outcome;
        calls = looks.calls ∙ keeps.calls whole reads
            ∙ ap₂ (λ (x y : List Call). x ++ y) (ap calls_of are ∙ calls_append before (e ∷ []) ∙ ap (λ (l : List Call). calls_of before ++ l) (append-nil (calls e.number e.outcome))) is.calls
            ∙ append-nil (calls_of before ++ calls e.number e.outcome);
        its_calls = record {
          added = ([], sym (append-nil e.outcome.state.listeners));
          entries = e.outcome.entries;
          entered = ([], sym (append-nil e.outcome.entries));
          are = refl;
          released = released;
        };
        lines = lines_seen looks.lines (lines_of tree run k before ++ lines_by tree run k e e.outcome.state)
            (ap₂ (λ (x y : List Line). x ++ y)
            (ap (lines_of tree run k) are ∙ lines_append tree run k before (e ∷ []) ∙ ap (λ (l : List Line). lines_of tree run k before ++ l) (append-nil (lines_by tree run k e e.outcome.state))) is.lines
            ∙ append-nil (lines_of tree run k before ++ lines_by tree run k e e.outcome.state));
      })

  cut_between : IsCutBetween c t → IsSeenOf c t (begun_at c between) seen → IsCut tree run k whole seen all
  cut_between is looks =
      let found = on.within whole reads in
      let finished = finished_is run c whole found.0 found.1 in
      let others = met_from run k c.request found.0 c.own in
      let exchanges : heard_met ≡ finished_of run c whole ++ others =
      ap (met run k whole) (heard_same looks.calls) ∙ found.1.exchanges c.own ∙ ap (λ (l : List Met). l ++ others) (sym finished) in
      let counted : length (finished_of run c whole) ≡ pred c.request = ap length finished ∙ sym (ap pred found.1.count) in
      let texts : length c.texts ≡ length (texts_of run k (finished_of run c whole)) =
      ap length (found.1.texts ∙ ap (texts_of run k) (sym finished)) in
      let few = written_few c.texts c.put c.written c.piped_out on.out in
      let lengths : length seen.written ≡ length c.written = ap length looks.written in
      record {
        bytes = front_seen looks.calls looks.written;
        begun = finished_of run c whole;
        first = (others, exchanges);
        count = looks.count ∙ sym counted;
        reached = λ before behind e same some.
            elim is.put [
              | inl none ↦
                  let nothing_put : length c.put ≡ 0 = ap length none in
                  reached_by run k (finished_of run c whole) others seen.written (omega (arith, few, texts, lengths, nothing_put))
                  before behind e (sym exchanges ∙ same) some
              | inr (status, refused_now) ↦
                  let ended : others ≡ [] = ap (λ (s : Stream). met_from run k c.request s c.own) (stream_is_one c.peer (unfinished c) found.0 (refused status) found.1.reads refused_now) in
                  let long : length (finished_of run c whole) ≡ length before + suc (length behind) =
                  ap length (sym (append-nil (finished_of run c whole)) ∙ ap (λ (l : List Met). finished_of run c whole ++ l) (sym ended) ∙ sym exchanges ∙ same)
                  ∙ length-append before (e ∷ behind) in
                  omega (arith, long)
            ];
        last = last_whole is looks (has_last (finished_of run c whole)) (subst (All (λ e. IsTrue (goes_on e))) (sym finished) found.1.went_on);
      }

  cut_inside : (q : Request) (content : Option Content) → IsCutInside tree run c t q content → IsSeenOf c t (begun_at c (inside q content)) seen
      → IsCut tree run k whole seen all
  cut_inside q content is looks =
      let found = on.within whole reads in
      let done = finished_of run c whole in
      let finished = finished_is run c whole found.0 found.1 in
      let begins = begins_with run k c.request c.peer found.0 q is.opens.behind c.own
      (opens_as c.peer (unfinished c) is.opens.behind q found.0 is.opens.request found.1.reads) in
      let e = open_exchange run c q begins.given in
      let lifted = lifts run grows k c.request q is.opens.behind content begins.given c.own is.opens.known begins.gives in
      let exchanges : heard_met ≡ (done ++ e ∷ []) ++ begins.others =
      ap (met run k whole) (heard_same looks.calls) ∙ found.1.exchanges c.own
      ∙ ap₂ (λ (x y : List Met). x ++ y) (sym finished) begins.are ∙ sym (append_assoc done (e ∷ []) begins.others) in
      let counted : length (done ++ e ∷ []) ≡ c.request =
      length-append done (e ∷ []) ∙ ap (λ (l : List Met). length l + 1) finished
      ∙ (let more : length found.1.before + 1 ≡ suc (length found.1.before) = omega arith in more) ∙ sym found.1.count in
      let texts : length c.texts ≡ length (texts_of run k done) = ap length (found.1.texts ∙ ap (texts_of run k) (sym finished)) in
      let few = written_few c.texts c.put c.written c.piped_out on.out in
      let lengths : length seen.written ≡ length c.written = ap length looks.written in
      let put = front_few c.put _ is.put in
      let text = text_as_long run k c.request q content begins.given c.own lifted (open_exchange run c q content).outcome.waits refl in
      let sum = one_text run k done e in
      let invitation : length (invitation_to e) ≡ length (invitation_to (open_exchange run c q content)) =
      ap length (same_invitation run k c.request q content begins.given c.own lifted) in
      let as_decided = decided_as run k c.request q content begins.given c.own lifted is.state in
      record {
        bytes = front_seen looks.calls looks.written;
        begun = done ++ e ∷ [];
        first = (begins.others, exchanges);
        count = looks.count ∙ sym counted;
        reached = λ before behind other same some.
            reached_by run k (done ++ e ∷ []) begins.others seen.written (omega (arith, few, texts, lengths, put, text, sum))
            before behind other (sym exchanges ∙ same) some;
        last = inr (record {
          whole = done;
          e = e;
          are = refl;
          state = is.state;
          ends = elim is.ends [ inl decided ↦ inl (as_decided decided) | inr undecided ↦ inr undecided ];
          decided = λ some. as_decided (is.decided (omega (arith, few, texts, lengths, invitation, some)));
          made = t.made;
          calls = looks.calls ∙ keeps.calls whole reads;
          its_calls = has_calls run k c.request q content begins.given c.own lifted is.state.listeners t.made is.calls;
          lines = lines_seen looks.lines (lines_of tree run k done ++ lines_by tree run k e is.state)
              (ap (λ (l : List Line). lines_of tree run k done ++ l) is.lines);
        });
      }

pub cut_follows : CutFollows
cut_follows tree run grows c t on keeps between is seen looks all kept whole reads =
    cut_between tree run grows c t on keeps seen all kept whole reads is looks
cut_follows tree run grows c t on keeps (inside q content) is seen looks all kept whole reads =
    cut_inside tree run grows c t on keeps seen all kept whole reads q content is looks
