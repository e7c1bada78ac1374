-- Each step of a connection keeps its account, and one that has come to its end is done.
use Rattle.std.proofs.Common.{◌≡◌, ◌≢◌, inl, inr, ℕ, suc, pred, ◌+◌, Bool, false, true≢false, IsTrue, All, List, [], ◌∷◌, ◌++◌, Option, Some, None, if◌then◌else◌, length, take, refl, sym, ap, ap₂, ◌∙◌, subst, append_assoc, take_at, length-append, arith}
use Rattle.std.proofs.lemmas.Bool.{and_parts}
use Rattle.std.proofs.lemmas.List.{append-nil}
use Rattle.std.proofs.lemmas.List.Concat.{flat_map-append}
use Rattle.std.proofs.lemmas.List.Elements.{All-nil, All-append, All-push, All-weaker, All-from_recursion, filter_map-append}
use Rattle.tow_model.specs.declared.request.Request.{Request}
use Rattle.tow_model.specs.declared.content.Content.{Content}
use Rattle.tow_model.specs.declared.content.Content.TheVariants.{Whole}
use Rattle.tow_model.specs.declared.account.Call.{Call}
use Rattle.tow_model.specs.declared.account.Line.{Line}
use Rattle.tow_model.specs.declared.account.Verdict.{Verdict}
use Rattle.tow_model.specs.declared.statement.Statement.{Statement}
use Rattle.tow_model.specs.Lists.{IsPrefix}
use Rattle.tow_history.specs.Histories.{verdict_in, verdicts}
use Rattle.tow_message.specs.Stream.{Stream, nothing, refused, next, IsWhole, ReadsStream}
use Rattle.tow_message.proofs.StreamLemmas.{stream_is_one, gives_one}
use Rattle.tow_semantics.specs.Listeners.{calls}
use Rattle.tow_semantics.specs.Runs.{Ending, for_verdict, Run, is_decided}
use Rattle.tow_wire.specs.Answers.{closes}
use Rattle.tow_wire.specs.Wire.{Met, goes_on, wire, met, met_from}
use Rattle.tow_progress.specs.Progress.{Progress, Origin, input_of, unfinished, verdicts_of, origin_of}
use Rattle.tow_progress.specs.Runs.{Grows}
use Rattle.tow_progress.specs.OnWire.{Continues, IsOnWire}
use Rattle.tow_progress.specs.Steps.{heard, completed, open_exchange, IsComplete}
use Rattle.tow_progress.specs.Whole.{LastThing, an_end, a_refusal, a_closing, a_request, IsAtEnd, IsClosed, IsLastRequest}
use Rattle.tow_progress.specs.Exchanges.{calls_of, lines_by, lines_of}
use Rattle.tow_progress.specs.Ended.{Keeps, IsReleased}
use Rattle.tow_progress.specs.Accounts.{Tally, KeepsAccount, finished_of, called, entered, released, stored, lost, settled, IsAccounted, AccountIsKept, AccountOpens, LastIsAccounted, exchanges_at, DoneFollows}
use Rattle.tow_progress.proofs.Opens.{OpensAs, opens_as, not_waiting, answers_settle}
use Rattle.tow_progress.proofs.StepLemmas.{continues_on}
use Rattle.tow_progress.proofs.WholeLemmas.{whole_is_written}

-- the exchanges that are finished are those before the open request
pub finished_is : (run : Run) (c : Progress) (whole rest : Stream) → (found : Continues run c whole rest) → finished_of run c whole ≡ found.before
finished_is run c whole rest found =
    ap (λ (v : List Verdict). take (pred c.request) (met run c.number whole v)) (sym (append-nil c.spent))
    ∙ ap (take (pred c.request)) (found.exchanges [])
    ∙ ap (λ (n : ℕ). take (pred n) (found.before ++ met_from run c.number c.request rest [])) found.count
    ∙ take_at found.before (met_from run c.number c.request rest []) (length found.before) refl

pub calls_append : (xs ys : List Met) → calls_of (xs ++ ys) ≡ calls_of xs ++ calls_of ys
calls_append xs ys = flat_map-append (λ e. calls e.number e.outcome) xs ys

pub lines_append : (tree : List Statement) (run : Run) (k : ℕ) (xs ys : List Met) → lines_of tree run k (xs ++ ys) ≡ lines_of tree run k xs ++ lines_of tree run k ys
lines_append tree run k xs ys = flat_map-append (λ e. lines_by tree run k e e.outcome.state) xs ys

-- what is stored of what is owed, if that is written otherwise
pub keeps_same : (all : Bool) (kept owed other : List Line) → owed ≡ other → Keeps all kept owed → Keeps all kept other
keeps_same all kept owed other same keeps = subst (Keeps all kept) same keeps

-- ---- steps

module _ (tree : List Statement) (run : Run) (c : Progress) (t : Tally) (keeps : KeepsAccount tree run c t) where
  move_step : (d : Progress) → origin_of d ≡ origin_of c → d.request ≡ c.request → d.spent ≡ c.spent → d.own ≡ c.own → KeepsAccount tree run d t
  move_step d origin request spent own =
      let number : d.number ≡ c.number = ap (λ (o : Origin). o.number) origin in
      let peer : d.peer ≡ c.peer = ap (λ (o : Origin). o.peer) origin in
      let input : input_of d ≡ input_of c = ap (λ (o : Origin). o.input) origin in
      let reads_same : (whole : Stream) → ReadsStream d.peer (input_of d) whole → ReadsStream c.peer (input_of c) whole =
      λ whole reads. subst (λ (p : ℕ). ReadsStream p (input_of c) whole) peer (subst (λ (i : List ℕ). ReadsStream d.peer i whole) input reads) in
      let finished : (whole : Stream) → finished_of run d whole ≡ finished_of run c whole =
      λ whole.
      ap (λ (r : ℕ). take (pred r) (met run d.number whole d.spent)) request
      ∙ ap (λ (n : ℕ). take (pred c.request) (met run n whole d.spent)) number
      ∙ ap (λ (v : List Verdict). take (pred c.request) (met run c.number whole v)) spent in
      record {
        verdicts = keeps.verdicts ∙ sym (ap₂ (λ (x y : List Verdict). x ++ y) spent own);
        calls = λ whole reads. keeps.calls whole (reads_same whole reads) ∙ ap (λ (f : List Met). calls_of f ++ t.made) (sym (finished whole));
        lines = λ whole reads.
            keeps_same t.all t.lines _ _
            (ap (λ (n : ℕ). lines_of tree run n (finished_of run c whole) ++ t.owed) (sym number)
            ∙ ap (λ (f : List Met). lines_of tree run d.number f ++ t.owed) (sym (finished whole)))
            (keeps.lines whole (reads_same whole reads));
        released = λ whole reads. subst (All IsReleased) (sym (finished whole)) (keeps.released whole (reads_same whole reads));
      }

  enter_step : (limit : ℕ) (verdict : Verdict) → KeepsAccount tree run (heard verdict c) (called (entered limit c verdict) t)
  enter_step limit verdict =
      let call = entered limit c verdict in
      record {
        verdicts = filter_map-append (λ (x : Call). verdict_in x.what) t.calls (call ∷ [])
            ∙ ap (λ (v : List Verdict). v ++ verdict ∷ []) keeps.verdicts ∙ append_assoc c.spent c.own (verdict ∷ []);
        calls = λ whole reads.
            ap (λ (l : List Call). l ++ call ∷ []) (keeps.calls whole reads) ∙ append_assoc (calls_of (finished_of run c whole)) t.made (call ∷ []);
        lines = keeps.lines;
        released = keeps.released;
      }

  leave_step : (limit : ℕ) → KeepsAccount tree run c (called (released limit c) t)
  leave_step limit =
      let call = released limit c in
      record {
        verdicts = filter_map-append (λ (x : Call). verdict_in x.what) t.calls (call ∷ [])
            ∙ append-nil (verdicts t.calls) ∙ keeps.verdicts;
        calls = λ whole reads.
            ap (λ (l : List Call). l ++ call ∷ []) (keeps.calls whole reads) ∙ append_assoc (calls_of (finished_of run c whole)) t.made (call ∷ []);
        lines = keeps.lines;
        released = keeps.released;
      }

  store_step : (line : Line) → IsTrue t.all → KeepsAccount tree run c (stored line t)
  store_step line all =
      let more : (whole : Stream) → ReadsStream c.peer (input_of c) whole
      → t.lines ++ line ∷ [] ≡ lines_of tree run c.number (finished_of run c whole) ++ (t.owed ++ line ∷ []) =
      λ whole reads.
      ap (λ (l : List Line). l ++ line ∷ []) ((keeps.lines whole reads).whole all)
      ∙ append_assoc (lines_of tree run c.number (finished_of run c whole)) t.owed (line ∷ []) in
      record {
        verdicts = keeps.verdicts;
        calls = keeps.calls;
        lines = λ whole reads. record {
          front = ([], sym (more whole reads) ∙ sym (append-nil (t.lines ++ line ∷ [])));
          whole = λ still. more whole reads;
        };
        released = keeps.released;
      }

  lose_step : (line : Line) → KeepsAccount tree run c (lost line t)
  lose_step line = record {
    verdicts = keeps.verdicts;
    calls = keeps.calls;
    lines = λ whole reads.
        let kept = keeps.lines whole reads in
        record {
          front = (
            kept.front.0 ++ line ∷ [],
            sym (append_assoc (lines_of tree run c.number (finished_of run c whole)) t.owed (line ∷ []))
                ∙ ap (λ (l : List Line). l ++ line ∷ []) kept.front.1 ∙ append_assoc t.lines kept.front.0 (line ∷ []),
          );
          whole = λ all. absurd (true≢false (sym all));
        };
    released = keeps.released;
  }

  complete_step : Grows run → IsOnWire run c → (q : Request) (bytes : List ℕ) → IsComplete run c q bytes
      → IsAccounted tree run c (open_exchange run c q (Some (Whole bytes))) t
      → KeepsAccount tree run (completed c) (settled t)
  complete_step grows on q bytes is account =
      let e = open_exchange run c q (Some (Whole bytes)) in
      let same : (c.finished ++ c.current) ++ (c.piped_in ++ c.left) ≡ input_of c = append_assoc c.finished c.current (c.piped_in ++ c.left) in
      let reads_same : (whole : Stream) → ReadsStream c.peer (input_of (completed c)) whole → ReadsStream c.peer (input_of c) whole =
      λ whole reads. subst (λ (l : List ℕ). ReadsStream c.peer l whole) same reads in
      let finished : (whole : Stream) → ReadsStream c.peer (input_of c) whole → finished_of run (completed c) whole ≡ finished_of run c whole ++ e ∷ [] =
      λ whole reads.
      let found = on.within whole reads in
      let goes = continues_on run c grows q bytes is whole found.0 found.1 in
      finished_is run (completed c) whole goes.0 goes.1 ∙ goes.2
      ∙ ap (λ (f : List Met). f ++ e ∷ []) (sym (finished_is run c whole found.0 found.1)) in
      record {
        verdicts = keeps.verdicts ∙ sym (append-nil (c.spent ++ c.own));
        calls = λ whole reads.
            let r = reads_same whole reads in
            let f = finished_of run c whole in
            keeps.calls whole r
            ∙ ap (λ (l : List Call). calls_of f ++ l) (account.calls ∙ sym (append-nil (calls e.number e.outcome)))
            ∙ sym (calls_append f (e ∷ []))
            ∙ ap calls_of (sym (finished whole r))
            ∙ sym (append-nil (calls_of (finished_of run (completed c) whole)));
        lines = λ whole reads.
            let r = reads_same whole reads in
            let f = finished_of run c whole in
            keeps_same t.all t.lines _ _
            (ap (λ (l : List Line). lines_of tree run c.number f ++ l) (account.lines ∙ sym (append-nil (lines_by tree run c.number e e.outcome.state)))
            ∙ sym (lines_append tree run c.number f (e ∷ []))
            ∙ ap (lines_of tree run c.number) (sym (finished whole r))
            ∙ sym (append-nil (lines_of tree run c.number (finished_of run (completed c) whole))))
            (keeps.lines whole r);
        released = λ whole reads.
            let r = reads_same whole reads in
            subst (All IsReleased) (sym (finished whole r))
            (All-push IsReleased (finished_of run c whole) e (keeps.released whole r) account.released);
      }

pub account_is_kept : AccountIsKept
account_is_kept tree run grows c t keeps = record {
  moves = move_step tree run c t keeps;
  enters = enter_step tree run c t keeps;
  leaves = leave_step tree run c t keeps;
  stores = store_step tree run c t keeps;
  loses = lose_step tree run c t keeps;
  completes = complete_step tree run c t keeps grows;
}

pub account_opens : AccountOpens
account_opens tree run k peer input all = record {
  verdicts = refl;
  calls = λ whole reads. refl;
  lines = λ whole reads. record { front = ([], refl); whole = λ is. refl };
  released = λ whole reads. All-nil IsReleased;
}

-- ---- the end

abbrev Heard : Met → Type 0
Heard e = e.outcome.waits ≢ Some for_verdict

went_on_heard : (e : Met) → IsTrue (goes_on e) → Heard e
went_on_heard e goes =
    not_waiting e.outcome.waits for_verdict (and_parts (is_decided e.outcome) _ goes).0

-- the exchanges of the rest of the input, which are accounted for
record LastMet (tree : List Statement) (run : Run) (c : Progress) (t : Tally) (thing : LastThing) (rest : Stream) : Type 0 where
  others : List Met
  are : met_from run c.number c.request rest c.own ≡ others
  calls_are : calls_of others ≡ t.made
  lines_are : lines_of tree run c.number others ≡ t.owed
  count : exchanges_at c thing ≡ pred c.request + length others
  heard : All Heard others

module _ (tree : List Statement) (run : Run) (grows : Grows run) (c : Progress) (t : Tally) (n : ℕ) (begun : c.request ≡ suc n) where
  -- none
  no_more : (thing : LastThing) (rest : Stream) → met_from run c.number c.request rest c.own ≡ [] → t.made ≡ [] → t.owed ≡ []
      → exchanges_at c thing ≡ pred c.request → LastMet tree run c t thing rest
  no_more thing rest are made owed at = record {
    others = [];
    are = are;
    calls_are = sym made;
    lines_are = sym owed;
    count = (let none : pred c.request ≡ pred c.request + 0 = omega arith in at ∙ none);
    heard = All-nil Heard;
  }

  -- one, whose outcome is that of an exchange which is accounted for
  one_more : (thing : LastThing) (rest : Stream) (q : Request) (content given : Option Content)
      → met_from run c.number c.request rest c.own ≡ open_exchange run c q given ∷ []
      → (open_exchange run c q given).outcome ≡ (open_exchange run c q content).outcome
      → IsAccounted tree run c (open_exchange run c q content) t → Heard (open_exchange run c q content)
      → exchanges_at c thing ≡ c.request → LastMet tree run c t thing rest
  one_more thing rest q content given are same account heard at = record {
    others = open_exchange run c q given ∷ [];
    are = are;
    calls_are = append-nil (calls c.request (open_exchange run c q given).outcome) ∙ ap (calls c.request) same ∙ sym account.calls;
    lines_are = append-nil (lines_by tree run c.number (open_exchange run c q given) (open_exchange run c q given).outcome.state)
        ∙ ap (λ (o : Ending). lines_by tree run c.number (open_exchange run c q content) o.state) same ∙ sym account.lines;
    count = (
        let some : c.request ≡ pred c.request + 1 = subst (λ (r : ℕ). r ≡ pred r + 1) (sym begun) (omega arith) in at ∙ some
        );
    heard = All-from_recursion Heard (open_exchange run c q given ∷ []) (subst (λ (o : Ending). o.waits ≢ Some for_verdict) (sym same) heard, tt);
  }

  -- where an answer closes, no exchange follows it
  none_behind : (q : Request) (bytes : List ℕ) (tail : Stream) → goes_on (open_exchange run c q (Some (Whole bytes))) ≡ false
      → met_from run c.number c.request (next q bytes tail) c.own ≡ open_exchange run c q (Some (Whole bytes)) ∷ []
  none_behind q bytes tail closes =
      let e = open_exchange run c q (Some (Whole bytes)) in
      ap (λ (b : Bool). e ∷ (if b then met_from run c.number (suc c.request) tail (run.outcome q (run.moment c.number c.request) (Some (Whole bytes)) c.own).left else [])) closes

  by_closing : (q : Request) → IsClosed run c q → IsAccounted tree run c (open_exchange run c q None) t
      → (rest : Stream) (behind : List ℕ) → OpensAs c.peer rest q behind → LastMet tree run c t (a_closing q) rest
  by_closing q is account rest behind (inl (given, read, gives, not_whole)) =
      let settles = answers_settle run grows c.number c.request q given c.own is.decided in
      one_more (a_closing q) rest q None given (ap (λ (s : Stream). met_from run c.number c.request s c.own) read)
      settles.outcome account (not_waiting (open_exchange run c q None).outcome.waits for_verdict is.decided) refl
  by_closing q is account rest behind (inr (bytes, tail, after, read, has, reads)) =
      let settles = answers_settle run grows c.number c.request q (Some (Whole bytes)) c.own is.decided in
      one_more (a_closing q) rest q None (Some (Whole bytes))
      (ap (λ (s : Stream). met_from run c.number c.request s c.own) read ∙ none_behind q bytes tail (settles.on ∙ is.closes))
      settles.outcome account (not_waiting (open_exchange run c q None).outcome.waits for_verdict is.decided) refl

  by_request : (q : Request) (content : Option Content) → (is : IsLastRequest run c q content)
      → IsAccounted tree run c (open_exchange run c q content) t → Heard (open_exchange run c q content)
      → (rest : Stream) → OpensAs c.peer rest q is.behind → LastMet tree run c t (a_request q content) rest
  by_request q content is account heard rest (inl (given, read, gives, not_whole)) =
      one_more (a_request q content) rest q content given (ap (λ (s : Stream). met_from run c.number c.request s c.own) read)
      (ap (λ (g : Option Content). (open_exchange run c q g).outcome) (gives_one q.framing is.behind given content gives is.given))
      account heard refl
  by_request q content is account heard rest (inr (bytes, tail, after, read, has, reads)) =
      let same : ◌≡◌ {A = Option Content} (Some (Whole bytes)) content = gives_one q.framing is.behind (Some (Whole bytes)) content (after, has) is.given in
      let ends : goes_on (open_exchange run c q content) ≡ false =
      elim is.ends [ inl e ↦ e | inr not_whole ↦ absurd (not_whole (subst IsWhole same tt)) ] in
      one_more (a_request q content) rest q content (Some (Whole bytes))
      (ap (λ (s : Stream). met_from run c.number c.request s c.own) read
      ∙ none_behind q bytes tail (ap (λ (g : Option Content). goes_on (open_exchange run c q g)) same ∙ ends))
      (ap (λ (g : Option Content). (open_exchange run c q g).outcome) same)
      account heard refl

  last_met : (thing : LastThing) → IsAtEnd run c thing → LastIsAccounted tree run c t thing
      → (rest : Stream) → ReadsStream c.peer (unfinished c) rest → LastMet tree run c t thing rest
  last_met an_end is account rest reads =
      no_more an_end rest (ap (λ (s : Stream). met_from run c.number c.request s c.own) (stream_is_one c.peer (unfinished c) rest nothing reads is.0))
      account.0 account.1 refl
  last_met (a_refusal status) is account rest reads =
      no_more (a_refusal status) rest (ap (λ (s : Stream). met_from run c.number c.request s c.own) (stream_is_one c.peer (unfinished c) rest (refused status) reads is.0))
      account.0 account.1 refl
  last_met (a_closing q) is account rest reads =
      by_closing q is account rest is.opens.behind (opens_as c.peer (unfinished c) is.opens.behind q rest is.opens.request reads)
  last_met (a_request q content) is account rest reads =
      by_request q content is account.0 account.1 rest (opens_as c.peer (unfinished c) is.behind q rest is.request reads)

pub done_follows : DoneFollows
done_follows tree run grows c t on keeps thing is account empty seen looks logged_all whole reads =
    let found = on.within whole reads in
    let before = found.1.before in
    let last = last_met tree run grows c t (length before) found.1.count thing is account found.0 found.1.reads in
    let finished = finished_is run c whole found.0 found.1 in
    let heard_same : verdicts seen.account.calls ≡ verdicts_of c = ap verdicts looks.calls ∙ keeps.verdicts in
    let exchanges : met run c.number whole (verdicts seen.account.calls) ≡ before ++ last.others =
    ap (met run c.number whole) heard_same ∙ found.1.exchanges c.own ∙ ap (λ (l : List Met). before ++ l) last.are in
    let owed : lines_of tree run c.number (finished_of run c whole) ++ t.owed ≡ lines_of tree run c.number (met run c.number whole (verdicts seen.account.calls)) =
    ap₂ (λ (x y : List Line). x ++ y) (ap (lines_of tree run c.number) finished) (sym last.lines_are)
    ∙ sym (lines_append tree run c.number before last.others) ∙ ap (lines_of tree run c.number) (sym exchanges) in
    let kept = keeps_same t.all t.lines _ _ owed (keeps.lines whole reads) in
    let counted : pred c.request + length last.others ≡ length (before ++ last.others) =
    ap (λ (r : ℕ). pred r + length last.others) found.1.count ∙ sym (length-append before last.others) in
    record {
      bytes = looks.written ∙ whole_is_written run grows c on thing is empty whole reads ∙ ap (wire run c.number whole) (sym heard_same);
      calls = looks.calls ∙ keeps.calls whole reads
          ∙ ap₂ (λ (x y : List Call). x ++ y) (ap calls_of finished) (sym last.calls_are)
          ∙ sym (calls_append before last.others) ∙ ap calls_of (sym exchanges);
      count = looks.count ∙ last.count ∙ counted ∙ ap length (sym exchanges);
      heard = subst (All Heard) (sym exchanges) (All-append Heard before last.others
          (All-weaker (λ e. IsTrue (goes_on e)) Heard went_on_heard before found.1.went_on) last.heard);
      lines = record {
        front = subst (λ (l : List Line). IsPrefix l (lines_of tree run c.number (met run c.number whole (verdicts seen.account.calls)))) (sym looks.lines) kept.front;
        whole = λ logged. looks.lines ∙ kept.whole (logged_all logged);
      };
    }
