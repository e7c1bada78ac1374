-- A connection on its wire that has put all, and has nothing left to write, has written all of it.
use Rattle.std.proofs.Common.{◌≡◌, inl, inr, ℕ, suc, Bool, false, List, [], ◌++◌, Option, Some, if◌then◌else◌, sym, ap, ◌∙◌, subst}
use Rattle.std.proofs.lemmas.List.{append-nil}
use Rattle.std.proofs.Math.Logic.{∥∥₁_elim}
use Rattle.std.proofs.Props.{props}
use Rattle.tow_model.specs.declared.request.Request.{Request}
use Rattle.tow_model.specs.declared.content.Content.{Content}
use Rattle.tow_model.specs.declared.content.Content.TheVariants.{Whole}
use Rattle.tow_model.specs.declared.account.Verdict.{Verdict}
use Rattle.tow_message.specs.Stream.{Stream, nothing, refused, next, IsWhole, ReadsStream}
use Rattle.tow_message.proofs.StreamLemmas.{stream_is_one, gives_one}
use Rattle.tow_semantics.specs.Runs.{Run}
use Rattle.tow_wire.specs.Wire.{meet, text_of, goes_on, wire, wire_from}
use Rattle.tow_progress.specs.Progress.{Progress, unfinished, verdicts_of}
use Rattle.tow_progress.specs.Runs.{Grows}
use Rattle.tow_progress.specs.Steps.{open_exchange}
use Rattle.tow_progress.specs.Whole.{LastThing, an_end, a_refusal, a_closing, a_request, IsAtEnd, IsClosed, IsLastRequest, WholeIsWritten, KeptWholeIsWritten}
use Rattle.tow_progress.proofs.Opens.{OpensAs, opens_as, answers_settle}

-- where an answer closes, nothing follows it
nothing_behind : (run : Run) (k j : ℕ) (q : Request) (bytes : List ℕ) (tail : Stream) (v : List Verdict)
    → goes_on (meet run k j q (Some (Whole bytes)) v) ≡ false
    → wire_from run k j (next q bytes tail) v ≡ text_of run k (meet run k j q (Some (Whole bytes)) v)
nothing_behind run k j q bytes tail v closes =
    let e = meet run k j q (Some (Whole bytes)) v in
    ap (λ (b : Bool). text_of run k e ++ (if b then wire_from run k (suc j) tail (run.outcome q (run.moment k j) (Some (Whole bytes)) v).left else [])) closes
    ∙ append-nil (text_of run k e)

module _ (run : Run) (grows : Grows run) (c : Progress) where
  -- what the rest of the input asks for is what was put
  abbrev AsksForPut : Stream → Type 0
  AsksForPut rest = wire_from run c.number c.request rest c.own ≡ c.put

  by_closing : (q : Request) → IsClosed run c q → (rest : Stream) → (behind : List ℕ) → OpensAs c.peer rest q behind → AsksForPut rest
  by_closing q is rest behind (inl (given, read, gives, not_whole)) =
      ap (λ (s : Stream). wire_from run c.number c.request s c.own) read
      ∙ (answers_settle run grows c.number c.request q given c.own is.decided).text ∙ sym is.all_put
  by_closing q is rest behind (inr (bytes, tail, after, read, has, reads)) =
      let settles = answers_settle run grows c.number c.request q (Some (Whole bytes)) c.own is.decided in
      ap (λ (s : Stream). wire_from run c.number c.request s c.own) read
      ∙ nothing_behind run c.number c.request q bytes tail c.own (settles.on ∙ is.closes)
      ∙ settles.text ∙ sym is.all_put

  by_request : (q : Request) (content : Option Content) → (is : IsLastRequest run c q content) → (rest : Stream)
      → OpensAs c.peer rest q is.behind → AsksForPut rest
  by_request q content is rest (inl (given, read, gives, not_whole)) =
      ap (λ (s : Stream). wire_from run c.number c.request s c.own) read
      ∙ ap (λ (g : Option Content). text_of run c.number (open_exchange run c q g)) (gives_one q.framing is.behind given content gives is.given)
      ∙ sym is.all_put
  by_request q content is rest (inr (bytes, tail, after, read, has, reads)) =
      let same : ◌≡◌ {A = Option Content} (Some (Whole bytes)) content = gives_one q.framing is.behind (Some (Whole bytes)) content (after, has) is.given in
      let ends : goes_on (open_exchange run c q content) ≡ false =
      elim is.ends [ inl e ↦ e | inr not_whole ↦ absurd (not_whole (subst IsWhole same tt)) ] in
      ap (λ (s : Stream). wire_from run c.number c.request s c.own) read
      ∙ nothing_behind run c.number c.request q bytes tail c.own (ap (λ (g : Option Content). goes_on (open_exchange run c q g)) same ∙ ends)
      ∙ ap (λ (g : Option Content). text_of run c.number (open_exchange run c q g)) same
      ∙ sym is.all_put

  pub asks_for_put : (thing : LastThing) → IsAtEnd run c thing → (rest : Stream) → ReadsStream c.peer (unfinished c) rest → AsksForPut rest
  asks_for_put an_end is rest reads =
      ap (λ (s : Stream). wire_from run c.number c.request s c.own) (stream_is_one c.peer (unfinished c) rest nothing reads is.0) ∙ sym is.1
  asks_for_put (a_refusal status) is rest reads =
      ap (λ (s : Stream). wire_from run c.number c.request s c.own) (stream_is_one c.peer (unfinished c) rest (refused status) reads is.0) ∙ sym is.1
  asks_for_put (a_closing q) is rest reads =
      by_closing q is rest is.opens.behind (opens_as c.peer (unfinished c) is.opens.behind q rest is.opens.request reads)
  asks_for_put (a_request q content) is rest reads =
      by_request q content is rest (opens_as c.peer (unfinished c) is.behind q rest is.request reads)

pub whole_is_written : WholeIsWritten
whole_is_written run grows c on thing is empty whole reads =
    let found = on.within whole reads in
    sym (append-nil c.written) ∙ ap (λ (l : List ℕ). c.written ++ l) (sym empty) ∙ sym on.out
    ∙ ap (λ (l : List ℕ). c.texts ++ l) (sym (asks_for_put run grows c thing is found.0 found.1.reads)) ∙ sym (found.1.joined c.own)

pub kept_whole_is_written : KeptWholeIsWritten
kept_whole_is_written run grows c fact thing is empty whole reads =
    let one : IsProp (c.written ≡ wire run c.number whole (verdicts_of c)) = hlevel props in
    ∥∥₁_elim fact one (λ on. whole_is_written run grows c on thing is empty whole reads)
