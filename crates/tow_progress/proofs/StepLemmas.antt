-- Each step of a connection keeps that it is on its wire.
use Rattle.std.proofs.Common.{◌≡◌, ℕ, suc, true, Bool, if◌then◌else◌, IsTrue, List, [], ◌∷◌, ◌++◌, Option, Some, None, refl, sym, ap, ap₂, ◌∙◌, subst, append_assoc, length, length-append, arith}
use Rattle.std.proofs.lemmas.List.{append-nil}
use Rattle.std.proofs.lemmas.List.Elements.{All-push}
use Rattle.tow_model.specs.declared.request.Request.{Request}
use Rattle.tow_model.specs.declared.content.Content.{Content}
use Rattle.tow_model.specs.declared.content.Content.TheVariants.{Whole}
use Rattle.tow_model.specs.declared.account.Verdict.{Verdict}
use Rattle.tow_model.specs.Lists.{IsPrefix}
use Rattle.tow_message.specs.Stream.{Stream, refused, ReadsStream}
use Rattle.tow_message.proofs.StreamLemmas.{stream_is_one}
use Rattle.tow_semantics.specs.Runs.{Ending, Walked, for_verdict, Run, is_decided, GoesOn}
use Rattle.tow_wire.specs.Answers.{continue_text, is_invited, refusal_text}
use Rattle.tow_wire.specs.Wire.{Met, text_of, texts_of, goes_on, wire, wire_from, met, met_from}
use Rattle.tow_progress.specs.Progress.{Progress, unfinished, input_of, origin_of}
use Rattle.tow_progress.specs.Runs.{Grows}
use Rattle.tow_progress.specs.OnWire.{Continues, PutsFront, IsOnWire}
use Rattle.tow_progress.specs.Steps.{read_in, taken, written_out, heard, with_piece, completed, IsOpen, IsComplete, open_exchange, Stays, WireIsKept}
use Rattle.tow_progress.proofs.Opens.{front_of_front, front_to, with_outcome, not_waiting, next_of, text_is_front, invitation_is_front}

-- the same input, from the same number and client
same_origin : (old new : Progress) → new.number ≡ old.number → new.peer ≡ old.peer → input_of new ≡ input_of old
    → origin_of new ≡ origin_of old
same_origin old new numbers peers inputs =
    ap (λ (k : ℕ). record { number = k; peer = new.peer; input = input_of new }) numbers
    ∙ ap (λ (p : ℕ). record { number = old.number; peer = p; input = input_of new }) peers
    ∙ ap (λ (i : List ℕ). record { number = old.number; peer = old.peer; input = i }) inputs

-- ---- steps that leave the exchange

module _ (run : Run) (c : Progress) (on : IsOnWire run c) where
  read_step : (bytes left : List ℕ) → c.left ≡ bytes ++ left → Stays run c (read_in bytes left c)
  read_step bytes left is =
      let same : c.current ++ ((c.piped_in ++ bytes) ++ left) ≡ unfinished c =
      ap (λ (l : List ℕ). c.current ++ l) (append_assoc c.piped_in bytes left ∙ ap (λ (l : List ℕ). c.piped_in ++ l) (sym is)) in
      record {
        origin = same_origin c (read_in bytes left c) refl refl (ap (λ (l : List ℕ). c.finished ++ l) same);
        on_wire = record {
          out = on.out;
          within = λ whole reads.
              let found = on.within whole (subst (λ (l : List ℕ). ReadsStream c.peer (c.finished ++ l) whole) same reads) in
              (found.0, record { reads = subst (λ (l : List ℕ). ReadsStream c.peer l found.0) (sym same) found.1.reads; before = found.1.before; went_on = found.1.went_on; texts = found.1.texts; count = found.1.count; exchanges = found.1.exchanges; joined = found.1.joined }, found.2);
        };
      }

  take_step : (bytes piped : List ℕ) → c.piped_in ≡ bytes ++ piped → Stays run c (taken bytes piped c)
  take_step bytes piped is =
      let same : (c.current ++ bytes) ++ (piped ++ c.left) ≡ unfinished c =
      append_assoc c.current bytes (piped ++ c.left)
      ∙ ap (λ (l : List ℕ). c.current ++ l) (sym (append_assoc bytes piped c.left) ∙ ap (λ (l : List ℕ). l ++ c.left) (sym is)) in
      record {
        origin = same_origin c (taken bytes piped c) refl refl (ap (λ (l : List ℕ). c.finished ++ l) same);
        on_wire = record {
          out = on.out;
          within = λ whole reads.
              let found = on.within whole (subst (λ (l : List ℕ). ReadsStream c.peer (c.finished ++ l) whole) same reads) in
              (found.0, record { reads = subst (λ (l : List ℕ). ReadsStream c.peer l found.0) (sym same) found.1.reads; before = found.1.before; went_on = found.1.went_on; texts = found.1.texts; count = found.1.count; exchanges = found.1.exchanges; joined = found.1.joined }, found.2);
        };
      }

  write_step : (bytes piped : List ℕ) → c.piped_out ≡ bytes ++ piped → Stays run c (written_out bytes piped c)
  write_step bytes piped is = record {
    origin = refl;
    on_wire = record {
      out = on.out ∙ ap (λ (l : List ℕ). c.written ++ l) is ∙ sym (append_assoc c.written bytes piped);
      within = λ whole reads. let found = on.within whole reads in (found.0, record { reads = found.1.reads; before = found.1.before; went_on = found.1.went_on; texts = found.1.texts; count = found.1.count; exchanges = found.1.exchanges; joined = found.1.joined }, found.2);
    };
  }

  -- what was put is a front under all further verdicts, so under this one first
  hear_step : (verdict : Verdict) → Stays run c (heard verdict c)
  hear_step verdict = record {
    origin = refl;
    on_wire = record {
      out = on.out;
      within = λ whole reads.
          let found = on.within whole reads in (
            found.0,
            record { reads = found.1.reads; before = found.1.before; went_on = found.1.went_on; texts = found.1.texts; count = found.1.count; exchanges = found.1.exchanges; joined = found.1.joined },
            λ more. subst (λ (v : List Verdict). IsPrefix c.put (wire_from run c.number c.request found.0 v)) (sym (append_assoc c.own (verdict ∷ []) more)) (found.2 (verdict ∷ more)),
          );
    };
  }

  -- ---- pieces

  put_step : (piece : List ℕ)
      → ((rest : Stream) → ReadsStream c.peer (unfinished c) rest → PutsFront run (with_piece piece c) rest)
      → Stays run c (with_piece piece c)
  put_step piece front = record {
    origin = refl;
    on_wire = record {
      out = sym (append_assoc c.texts c.put piece) ∙ ap (λ (l : List ℕ). l ++ piece) on.out ∙ append_assoc c.written c.piped_out piece;
      within = λ whole reads.
          let found = on.within whole reads in
          (found.0, record { reads = found.1.reads; before = found.1.before; went_on = found.1.went_on; texts = found.1.texts; count = found.1.count; exchanges = found.1.exchanges; joined = found.1.joined }, front found.0 found.1.reads);
    };
  }

  invite_step : Grows run → (q : Request) (piece : List ℕ) → IsOpen c q None
      → IsTrue (is_invited q (open_exchange run c q None).outcome)
      → IsPrefix (c.put ++ piece) continue_text
      → Stays run c (with_piece piece c)
  invite_step grows q piece opens invited front =
      put_step piece (λ rest reads more. front_of_front (c.put ++ piece) continue_text _ front
      (invitation_is_front run grows c.number c.request c.peer (unfinished c) opens.behind q c.own opens.request invited rest reads more))

  answer_step : Grows run → (q : Request) (content : Option Content) (piece : List ℕ) → IsOpen c q content
      → IsTrue (is_decided (open_exchange run c q content).outcome)
      → IsPrefix (c.put ++ piece) (text_of run c.number (open_exchange run c q content))
      → Stays run c (with_piece piece c)
  answer_step grows q content piece opens decided front =
      put_step piece (λ rest reads more. front_of_front (c.put ++ piece) _ _ front
      (text_is_front run grows c.number c.request c.peer (unfinished c) opens.behind q content c.own opens.request opens.known decided rest reads more))

  refuse_step : (status : ℕ) (piece : List ℕ) → ReadsStream c.peer (unfinished c) (refused status)
      → IsPrefix (c.put ++ piece) (refusal_text status (run.moment c.number c.request))
      → Stays run c (with_piece piece c)
  refuse_step status piece is front =
      put_step piece (λ rest reads more. front_to _ _ _ front
      (ap (λ (s : Stream). wire_from run c.number c.request s (c.own ++ more)) (stream_is_one c.peer (unfinished c) rest (refused status) reads is)))

-- ---- the next request

-- an exchange that was decided is the same under more verdicts, which it leaves
module _ (j : ℕ) (q : Request) (c : Option Content) (o new : Walked) (more : List Verdict) (decided : IsTrue (is_decided o.outcome)) (used : o.left ≡ []) (grows : GoesOn o new more) where
  same_walk : new ≡ record o { left = o.left ++ more }
  same_walk = grows.settled (not_waiting o.outcome.waits for_verdict decided)

  same_outcome : new.outcome ≡ o.outcome
  same_outcome = ap (λ (n : Walked). n.outcome) same_walk

  left_more : new.left ≡ more
  left_more = ap (λ (n : Walked). n.left) same_walk ∙ ap (λ (v : List Verdict). v ++ more) used

  -- what it writes, and what follows it
  written_on : (run : Run) (k : ℕ) (tail : Stream) → goes_on (with_outcome j q c o.outcome) ≡ true
      → text_of run k (with_outcome j q c new.outcome) ++ (if goes_on (with_outcome j q c new.outcome) then wire_from run k (suc j) tail new.left else [])
      ≡ text_of run k (with_outcome j q c o.outcome) ++ wire_from run k (suc j) tail more
  written_on run k tail goes =
      ap (λ (n : Ending). text_of run k (with_outcome j q c n) ++ (if goes_on (with_outcome j q c n) then wire_from run k (suc j) tail new.left else [])) same_outcome
      ∙ ap (λ (b : Bool). text_of run k (with_outcome j q c o.outcome) ++ (if b then wire_from run k (suc j) tail new.left else [])) goes
      ∙ ap (λ (v : List Verdict). text_of run k (with_outcome j q c o.outcome) ++ wire_from run k (suc j) tail v) left_more

  -- the exchange, and those that follow it
  met_on : (run : Run) (k : ℕ) (tail : Stream) → goes_on (with_outcome j q c o.outcome) ≡ true
      → with_outcome j q c new.outcome ∷ (if goes_on (with_outcome j q c new.outcome) then met_from run k (suc j) tail new.left else [])
      ≡ with_outcome j q c o.outcome ∷ met_from run k (suc j) tail more
  met_on run k tail goes =
      ap (λ (n : Ending). with_outcome j q c n ∷ (if goes_on (with_outcome j q c n) then met_from run k (suc j) tail new.left else [])) same_outcome
      ∙ ap (λ (b : Bool). with_outcome j q c o.outcome ∷ (if b then met_from run k (suc j) tail new.left else [])) goes
      ∙ ap (λ (v : List Verdict). with_outcome j q c o.outcome ∷ met_from run k (suc j) tail v) left_more

texts-append : (run : Run) (k : ℕ) (es : List Met) (e : Met) → texts_of run k (es ++ e ∷ []) ≡ texts_of run k es ++ text_of run k e
texts-append run k [] e = append-nil (text_of run k e)
texts-append run k (x ∷ es) e =
    ap (λ (l : List ℕ). text_of run k x ++ l) (texts-append run k es e) ∙ sym (append_assoc (text_of run k x) (texts_of run k es) (text_of run k e))

one_longer : (es : List Met) (e : Met) → length (es ++ e ∷ []) ≡ suc (length es)
one_longer es e = omega (arith, length-append es (e ∷ []))

-- the exchanges of the rest go on behind the one that completed
pub continues_on : (run : Run) (c : Progress) → Grows run → (q : Request) (bytes : List ℕ) → IsComplete run c q bytes
    → (whole rest : Stream) → (found : Continues run c whole rest)
    → (tail : Stream) × (next : Continues run (completed c) whole tail)
    × (next.before ≡ found.before ++ open_exchange run c q (Some (Whole bytes)) ∷ [])
continues_on run c grows q bytes is whole rest found =
    let tail = next_of c.peer (unfinished c) is.behind bytes (c.piped_in ++ c.left) q rest is.request is.content found.reads in
    let content : Option Content = Some (Whole bytes) in
    let m = run.moment c.number c.request in
    let e = open_exchange run c q content in
    let o = run.outcome q m content c.own in (
      tail.0,
      record {
        reads = tail.2;
        before = found.before ++ e ∷ [];
        went_on = All-push (λ g. IsTrue (goes_on g)) found.before e found.went_on is.goes_on;
        texts = ap₂ (λ (x y : List ℕ). x ++ y) found.texts is.all_put ∙ sym (texts-append run c.number found.before e);
        count = ap suc (found.count ∙ sym (one_longer found.before e));
        exchanges = λ more.
            ap (met run c.number whole) (append_assoc c.spent c.own more)
            ∙ found.exchanges (c.own ++ more)
            ∙ ap (λ (s : Stream). found.before ++ met_from run c.number c.request s (c.own ++ more)) tail.1
            ∙ ap (λ (l : List Met). found.before ++ l)
            (met_on c.request q content o _ more is.decided is.used_up (grows.verdicts q m content c.own more) run c.number tail.0 is.goes_on)
            ∙ sym (append_assoc found.before (e ∷ []) (met_from run c.number (suc c.request) tail.0 more));
        joined = λ more.
            ap (wire run c.number whole) (append_assoc c.spent c.own more)
            ∙ found.joined (c.own ++ more)
            ∙ ap (λ (s : Stream). c.texts ++ wire_from run c.number c.request s (c.own ++ more)) tail.1
            ∙ ap (λ (l : List ℕ). c.texts ++ l)
            (written_on c.request q content o _ more is.decided is.used_up (grows.verdicts q m content c.own more) run c.number tail.0 is.goes_on)
            ∙ ap (λ (l : List ℕ). c.texts ++ (l ++ wire_from run c.number (suc c.request) tail.0 more)) (sym is.all_put)
            ∙ sym (append_assoc c.texts c.put (wire_from run c.number (suc c.request) tail.0 more));
      },
      refl,
    )

complete_step : (run : Run) (c : Progress) → IsOnWire run c → Grows run → (q : Request) (bytes : List ℕ) → IsComplete run c q bytes
    → Stays run c (completed c)
complete_step run c on grows q bytes is =
    let same : (c.finished ++ c.current) ++ (c.piped_in ++ c.left) ≡ input_of c = append_assoc c.finished c.current (c.piped_in ++ c.left) in
    record {
      origin = same_origin c (completed c) refl refl same;
      on_wire = record {
        out = append-nil (c.texts ++ c.put) ∙ on.out;
        within = λ whole reads.
            let found = on.within whole (subst (λ (l : List ℕ). ReadsStream c.peer l whole) same reads) in
            let goes = continues_on run c grows q bytes is whole found.0 found.1 in
            (goes.0, goes.1, λ more. (wire_from run c.number (suc c.request) goes.0 more, refl));
      };
    }

pub wire_is_kept : WireIsKept
wire_is_kept run grows c on = record {
  reads = read_step run c on;
  takes = take_step run c on;
  writes = write_step run c on;
  hears = hear_step run c on;
  puts = put_step run c on;
  invites = invite_step run c on grows;
  answers = answer_step run c on grows;
  refuses = refuse_step run c on;
  completes = complete_step run c on grows;
}
