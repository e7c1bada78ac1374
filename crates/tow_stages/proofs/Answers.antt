-- An answer begins, is put piece by piece, and ends; and a content that nobody asked for is dropped behind it.
use Rattle.std.proofs.Common.{◌≡◌, ◌≢◌, ◌⊎◌, inl, inr, ℕ, Bool, true, false, not, ◌&&◌, ◌||◌, ◌==◌, is_none, List, [], reverse, Option, Some, None, refl, sym, ap, ap₂, subst, ◌∙◌, append-nil}
use Rattle.circular_buffer.specs.Buffer.{Buffer}
use Rattle.tow_model.specs.declared.content.Content.{Content}
use Rattle.tow_model.specs.declared.content.Content.TheVariants.{Whole, Bad, TooLong}
use Rattle.tow_model.specs.declared.limits.TheConstants.{MAX_REQUESTS}
use Rattle.tow_model.specs.declared.record.Listener.{Listener}
use Rattle.tow_model.specs.declared.account.End.{End}
use Rattle.tow_model.specs.declared.account.End.TheVariants.{Done, LinkFault, FolderFault, NoMemory}
use Rattle.tow_message.specs.Heads.{is_old}
use Rattle.tow_message.specs.Stream.{IsWhole}
use Rattle.tow_wire.specs.Answers.{is_refused, is_too_long, known_length}
use Rattle.tow_exchange.specs.Exchanges.{ExchangeData}
use Rattle.tow_exchange.specs.Completions.{without_listeners}
use Rattle.tow_advance.specs.Moves.{AddsLogs}
use Rattle.tow_answer.specs.Uses.{IsUsed}
use Rattle.tow_answer.specs.declared.content_use.ContentUse.{ContentUse}
use Rattle.tow_answer.specs.declared.content_use.ContentUse.TheVariants.{Unasked, Served, Refused}
use Rattle.tow_source.specs.Readings.{DrainsPipe, Reading, unread}
use Rattle.tow_source.specs.declared.body.Drained.{Drained}
use Rattle.tow_source.specs.declared.body.Drained.TheVariants as drains
use Rattle.tow_source.specs.declared.drain.Drain.{Drain}
use Rattle.tow_content.specs.declared.source.ContentSource.{ContentSource}
use Rattle.tow_content.specs.Sources.{ReadsContent}
use Rattle.tow_closing.specs.Closings.{ClosingData}
use Rattle.tow_sending.specs.Pieces.{Piece, Puts, left_after}
use Rattle.tow_sending.specs.declared.sent.Sent.{Sent}
use Rattle.tow_sending.proofs.Texts.{parts_stay}
use Rattle.tow_progress.specs.Progress.{Progress, Origin}
use Rattle.tow_progress.specs.Steps.{taken}
use Rattle.tow_progress.specs.Accounts.{Tally}
use Rattle.tow_course.specs.Course.{Agrees, Course}
use Rattle.tow_states.specs.Known.{Setting, Shows}
use Rattle.tow_states.specs.Sending.{IsSending, answer_text, ending_of}
use Rattle.tow_states.specs.Completing.{SendingCompletes, answer_closes}
use Rattle.tow_states.specs.Closing.{IsClosing, IsWorkOf, Onward as Follow, cut_off, to_end, to_last, to_next}
use Rattle.tow_states.specs.Calling.{HasPlacesFor}
use Rattle.tow_states.proofs.Breaks.{states_break}
use Rattle.tow_states.proofs.Calls.{calls_have_places}
use Rattle.tow_states.proofs.Completions.{exchange_completes}
use Rattle.tow_leads.specs.Replied.{IsReply}
use Rattle.tow_leads.specs.Sent.{SendLeadsOn}
use Rattle.tow_leads.specs.Taken.{DrainLeadsOn as TakeLeadsOn, DrainedIs}
use Rattle.tow_leads.proofs.Answers.{replies_lead_on}
use Rattle.tow_leads.proofs.PortSteps.{ports_lead_on}
use Rattle.tow_leads.proofs.Puttings.{sends_lead_on}
use Rattle.tow_leads.proofs.Takings.{drains_lead_on as takings_lead_on}
use Rattle.tow_stages.specs.Stages.{Base, answering, closing}
use Rattle.tow_stages.specs.Holding.{AnswersOn, DropsRest, Follows, Holds, IsAt, IsServed, IsSilentBy}
use Rattle.tow_stages.specs.Answering.{AnswerBegins, AnsweringsLeadOn, DropLeadsOn, IsDrainFor, PutLeadsOn}
use Rattle.tow_stages.proofs.Heads.{silent_still}

-- ---- an end that is not `Done` is a cut

pub follows_cut : (end : End) (content : Option Content) → end ≢ Done → Follows (Some end) (cut_off content)
follows_cut Done content other = absurd (other refl)
follows_cut LinkFault content other = (content, refl)
follows_cut FolderFault content other = (content, refl)
follows_cut NoMemory content other = (content, refl)

pub true_is_not_false : true ≡ false → ⊥
true_is_not_false is = cc

end_in : Option End → End
end_in None = NoMemory
end_in (Some end) = end

pub same_end : (end other : End) → Some end ≡ Some other → end ≡ other
unfolding end_in
same_end end other is = ap end_in is

pub not_done : (end : End) → end ≢ Done → (A : Type 0) → Some end ≡ Some Done → A
not_done end other A is = absurd (other (same_end end Done is))

-- ---- places for the leavings

pub adds_none : (listeners : List Listener) → AddsLogs listeners listeners
adds_none listeners = ([], sym (append-nil listeners))

pub places_left : (s : Setting) (b : Base) (e : ExchangeData) (c : Progress) (t : Tally) → IsServed s b e c t
    → HasPlacesFor b.room t (reverse e.stand.state.listeners)
places_left s b e c t served =
    (calls_have_places s.tree b.room t).completes e served.asks e.stand.state.listeners served.places (adds_none e.stand.state.listeners)

pub places_of : (s : Setting) (room : ℕ) (t : Tally) (e : ExchangeData) (d : ClosingData) → IsWorkOf s.tree e d
    → HasPlacesFor room t (reverse e.stand.state.listeners) → HasPlacesFor room t d.completed.left
places_of s room t e d work places = subst (λ (l : List Listener). HasPlacesFor room t l) (sym work.left) places

-- ---- an answer behind which a refused content stands closes

last_true : (a b c d e : Bool) → (a || b || c || d || e || true) ≡ true
last_true true b c d e = refl
last_true false true c d e = refl
last_true false false true d e = refl
last_true false false false true e = refl
last_true false false false false true = refl
last_true false false false false false = refl

closed_if : (a b c d e x y : Bool) → x ≡ true → y ≡ true → (a || b || c || d || e || (x && y)) ≡ true
closed_if a b c d e x y is also = ap₂ (λ (p q : Bool). a || b || c || d || e || (p && q)) is also ∙ last_true a b c d e

closes_refused : (c : Progress) (e : ExchangeData) (n : Course) → n.asked ≡ true → is_refused n.content ≡ true → answer_closes c e n ≡ true
closes_refused c e n asked refused =
    let q = e.request in
    let o = ending_of e n in
    closed_if (not q.keep) (c.request == MAX_REQUESTS) (is_too_long q.framing) (q.expects && not o.asked)
    (is_old q.version && is_none (known_length o.state.choice)) n.asked (is_refused n.content) asked refused

-- ---- it begins

-- the content of an exchange that has stopped was used so, of which so much was taken
abbrev pub UsedSo : ContentUse → Course → List ℕ → Type 0
UsedSo Unasked n took = (n.asked ≡ false) × (n.content ≡ None) × (took ≡ [])
UsedSo Served n took = (n.asked ≡ true) × ((bytes : List ℕ) × n.content ≡ Some (Whole bytes))
UsedSo Refused n took = (n.asked ≡ true) × (is_refused n.content ≡ true)

used_as : (content_use : ContentUse) (e : ExchangeData) (n : Course) (took : List ℕ) → UsedSo content_use n took
    → IsUsed content_use n.content (ending_of e n)
used_as Unasked e n took used = used.0
used_as Served e n took (asked, (bytes, is)) = (asked, ap is_refused is)
used_as Refused e n took used = used

drops_so : (content_use : ContentUse) (closes : Bool) (drain : Option (Drain ContentSource)) (c : Progress) (e : ExchangeData) (n : Course)
    (took : List ℕ) → IsDrainFor content_use e closes drain → UsedSo content_use n took → closes ≡ answer_closes c e n
    → DropsRest drain closes e n took
drops_so Unasked true drain c e n took is used closes_so =
    subst (λ (d : Option (Drain ContentSource)). DropsRest d true e n took) (sym is) (inl refl)
drops_so Unasked false None c e n took is used closes_so = absurd is
drops_so Unasked false (Some drain) c e n took is (asked, none, empty) closes_so =
    (refl, none, (unread e.request.framing, sym empty, refl, is))
drops_so Served closes drain c e n took is used closes_so =
    subst (λ (d : Option (Drain ContentSource)). DropsRest d closes e n took) (sym is) (inr used.1)
drops_so Refused closes drain c e n took is (asked, refused) closes_so =
    subst (λ (d : Option (Drain ContentSource)). DropsRest d closes e n took) (sym is) (inl (closes_so ∙ closes_refused c e n asked refused))

pub answer_begins : (failed : Bool) (s : Setting) (o : Origin) (b : Base) (e : ExchangeData) (n : Course) (took : List ℕ)
    (content_use : ContentUse) (c : Progress) (t : Tally) → IsAt b c t → IsSilentBy failed b → IsServed s b e c t
    → IsSending s o c t e n took (answer_text s c e n) → UsedSo content_use n took
    → AnswerBegins failed s o b e content_use c t
answer_begins failed s o b e n took content_use c t at quiet served is used = record {
  replies = λ d work pieces closes replies there drain is_drain.
      let reply : IsReply s c e n pieces closes =
      replies_lead_on s c t e n took is.exchange content_use (without_listeners e.stand.state) refl (used_as content_use e n took used)
      pieces closes replies in
      record {
        is_at = at;
        holds = (
          record {
            exchange = e;
            course = n;
            took = took;
            is = subst (λ (l : List ℕ). IsSending s o c t e n took l) (sym reply.text) is;
            work = work;
            there = there;
            closes_so = reply.last;
            drops = drops_so content_use closes drain c e n took is_drain used reply.last;
            begun = served.begun;
            places = places_left s b e c t served;
          },
          quiet,
        );
      };
  is_short = λ d work. record {
    is_at = at;
    holds = (
      record {
        exchange = e;
        course = n;
        onward = cut_off n.content;
        is = (states_break s o c t).sending e n took (answer_text s c e n) is d work;
        follows = (n.content, refl);
        written = λ done. not_done NoMemory (λ wrong. cc) _ done;
        begun = served.begun;
        places = places_of s b.room t e d work (places_left s b e c t served);
      },
      silent_still failed b (Some NoMemory) quiet,
    );
  };
}

-- ---- it is put

module _ (failed : Bool) (s : Setting) (o : Origin) (b : Base) (d : ClosingData) (closes : Bool) (c : Progress) (t : Tally) where
  module _ (pieces : List Piece) (drain : Option (Drain ContentSource)) (h : Holds failed s o b (answering d pieces closes drain) c t) where
    abbrev on : AnswersOn s o b d pieces closes drain c t
    on = h.holds.0

    abbrev quiet : IsSilentBy failed b
    quiet = h.holds.1

    puts : (tells : Sent) (pipe : Buffer ℕ) → Puts (Some s.files) tells pieces b.port.output pipe
        → PutLeadsOn failed s o b d (left_after tells pieces) closes drain pipe c t
    puts tells pipe put =
        let port = h.is_at.port in
        let sent : SendLeadsOn s o c t on.exchange on.course on.took (left_after tells pieces) pipe =
        sends_lead_on s o c t on.exchange on.course on.took pieces on.is tells b.port.output pipe port.piped_out put in
        record {
          piece = sent.piece;
          holds = record {
            is_at = record {
              number = h.is_at.number;
              port = record {
                peer = port.peer;
                told = port.told;
                tells = port.tells;
                left = port.left;
                piped_in = port.piped_in;
                over = port.over;
                piped_out = sent.piped;
                written = port.written;
              };
              calls = h.is_at.calls;
              all = h.is_at.all;
            };
            holds = (
              record {
                exchange = on.exchange;
                course = on.course;
                took = on.took;
                is = sent.is;
                work = on.work;
                there = parts_stay s.files tells pieces on.there;
                closes_so = on.closes_so;
                drops = on.drops;
                begun = on.begun;
                places = on.places;
              },
              quiet,
            );
          };
        }

    is_cut : (end : End) → end ≢ Done → Holds failed s o b (closing d None (Some end)) c t
    is_cut end other = record {
      is_at = h.is_at;
      holds = (
        record {
          exchange = on.exchange;
          course = on.course;
          onward = cut_off on.course.content;
          is = (states_break s o c t).sending on.exchange on.course on.took _ on.is d on.work;
          follows = follows_cut end on.course.content other;
          written = λ done. not_done end other _ done;
          begun = on.begun;
          places = places_of s b.room t on.exchange d on.work on.places;
        },
        silent_still failed b (Some end) quiet,
      );
    }

  -- ---- all of it was put

  -- what follows is this, if the exchange completes so
  completed_as : (at : IsAt b c t) (quiet : IsSilentBy failed b) (e : ExchangeData) (n : Course) (end : Option End) (onward : Follow)
      → IsClosing s o c t e n d None onward → Follows end onward → (end ≡ Some Done → c.piped_out ≡ []) → b.begun ≡ c.request
      → HasPlacesFor b.room t d.completed.left → Holds failed s o b (closing d None end) c t
  completed_as at quiet e n end onward is follows written begun places = record {
    is_at = at;
    holds = (
      record {
        exchange = e;
        course = n;
        onward = onward;
        is = is;
        follows = follows;
        written = written;
        begun = begun;
        places = places;
      },
      silent_still failed b end quiet,
    );
  }

  module _ (h : Holds failed s o b (answering d [] closes None) c t) where
    abbrev all : AnswersOn s o b d [] closes None c t
    all = h.holds.0

    abbrev steps : SendingCompletes s o c t all.exchange all.course all.took d
    steps = exchange_completes s o c t all.exchange all.course all.took all.is d all.work

    left_places : HasPlacesFor b.room t d.completed.left
    left_places = places_of s b.room t all.exchange d all.work all.places

    completes : closes ≡ false → Holds failed s o b (closing d None None) c t
    completes stays_open = from all.drops
      where
        from : (closes ≡ true) ⊎ ((bytes : List ℕ) × all.course.content ≡ Some (Whole bytes)) → Holds failed s o b (closing d None None) c t
        from (inl closed) = absurd (true_is_not_false (sym closed ∙ stays_open))
        from (inr (bytes, given)) =
            completed_as h.is_at h.holds.1 all.exchange all.course None (to_next bytes)
            (steps.goes_on (sym all.closes_so ∙ stays_open) bytes
            (subst (λ (content : Option Content). Shows all.exchange.request.framing all.took content) given all.is.exchange.content)
            (subst (λ (content : Option Content). Agrees content (Some (Whole bytes))) (sym given) refl))
            (bytes, refl) (λ wrong. absurd (cc)) all.begun left_places

    ends : closes ≡ true → b.port.output.items ≡ [] → Holds failed s o b (closing d None (Some Done)) c t
    ends closed out = from all.course.content refl
      where
        written : Some Done ≡ Some Done → c.piped_out ≡ []
        written done = sym h.is_at.port.piped_out ∙ out

        from : (content : Option Content) → all.course.content ≡ content → Holds failed s o b (closing d None (Some Done)) c t
        from None none =
            completed_as h.is_at h.holds.1 all.exchange all.course (Some Done) to_end (steps.closes_early (sym all.closes_so ∙ closed) none)
            (inl refl) written all.begun left_places
        from (Some content) given =
            completed_as h.is_at h.holds.1 all.exchange all.course (Some Done) (to_last (Some content))
            (steps.closes_late (sym all.closes_so ∙ closed) content given) (inr (Some content, refl)) written all.begun left_places

-- ---- the rest of a content is dropped

module _ (failed : Bool) (s : Setting) (o : Origin) (b : Base) (d : ClosingData) (closes : Bool) (c : Progress) (t : Tally)
    (old new : Drain ContentSource) (h : Holds failed s o b (answering d [] closes (Some old)) c t) (answer : Drained) (pipe : Buffer ℕ) where
  abbrev was : AnswersOn s o b d [] closes (Some old) c t
  was = h.holds.0

  -- the source had read this, and has read that
  module _ (stays_open : closes ≡ false) (none : was.course.content ≡ None) (before r : Reading) (same : before.taken ≡ was.took)
      (framing : before.framing ≡ was.exchange.request.framing) (reads : ReadsContent new.source r)
      (call : DrainsPipe answer b.port.input pipe before r) where
    abbrev after : Progress
    after = taken call.took pipe.items c

    abbrev fed : Base
    fed = record b { port = record b.port { input = pipe } }

    taken_so : IsSending s o c t was.exchange was.course before.taken []
    taken_so = subst (λ (l : List ℕ). IsSending s o c t was.exchange was.course l []) (sym same) was.is

    leads : TakeLeadsOn s o c t was.exchange was.course answer pipe r call.took []
    leads = takings_lead_on s o c t was.exchange was.course [] before r taken_so none framing answer b.port.input pipe
        h.is_at.port.piped_in call

    at_after : IsAt fed after t
    at_after = record {
      number = h.is_at.number;
      port = (ports_lead_on b.port c h.is_at.port).takes call.took pipe call.takes.from_pipe;
      calls = h.is_at.calls;
      all = h.is_at.all;
    }

    told : (a : Drained) → answer ≡ a → DrainedIs a was.exchange.request.framing r.taken r.given pipe.items
    told a is = subst (λ (x : Drained). DrainedIs x was.exchange.request.framing r.taken r.given pipe.items) is leads.tells

    abbrev then : SendingCompletes s o after t was.exchange was.course r.taken d
    then = exchange_completes s o after t was.exchange was.course r.taken leads.is d was.work

    closed_as : (end : Option End) (onward : Follow) → IsClosing s o after t was.exchange was.course d None onward → Follows end onward
        → (end ≡ Some Done → after.piped_out ≡ []) → Holds failed s o fed (closing d None end) after t
    closed_as end onward is follows written =
        completed_as failed s o fed d closes after t at_after h.holds.1 was.exchange was.course end onward is follows written was.begun
        (places_of s b.room t was.exchange d was.work was.places)

    refused : (content : Content) → Shows was.exchange.request.framing r.taken (Some content) → ¬ (IsWhole (Some content))
        → b.port.output.items ≡ [] → Holds failed s o fed (closing d None (Some Done)) after t
    refused content shows broken out =
        closed_as (Some Done) (to_last (Some content)) (then.drops_refused none content shows broken) (inr (Some content, refl))
        (λ done. sym h.is_at.port.piped_out ∙ out)

    drop_on : DropLeadsOn failed s o b d closes answer new pipe c t
    drop_on = record {
      took = call.took;
      goes_on = λ is. record {
        is_at = at_after;
        holds = (
          record {
            exchange = was.exchange;
            course = was.course;
            took = r.taken;
            is = leads.is;
            work = was.work;
            there = tt;
            closes_so = was.closes_so;
            drops = (stays_open, none, (r, refl, leads.framing, reads));
            begun = was.begun;
            places = was.places;
          },
          h.holds.1,
        );
      };
      is_short = λ is over out.
          let on = told drains.NotYet is in
          closed_as (Some Done) (to_last None)
          (then.drops_short none (record { piped = on.0; left = h.is_at.port.over over }) on.1) (inr (None, refl))
          (λ done. sym h.is_at.port.piped_out ∙ out);
      is_whole = λ is.
          closed_as None (to_next r.given)
          (then.goes_on (sym was.closes_so ∙ stays_open) r.given (told drains.Whole is)
          (subst (λ (content : Option Content). Agrees content (Some (Whole r.given))) (sym none) tt))
          (r.given, refl) (λ wrong. absurd (cc));
      is_refused = λ is out. by is out;
    }
      where
        by : (answer ≡ drains.Bad) ⊎ (answer ≡ drains.TooLong) → b.port.output.items ≡ []
            → Holds failed s o fed (closing d None (Some Done)) after t
        by (inl is) out = refused Bad (told drains.Bad is) (λ whole. whole) out
        by (inr is) out = refused TooLong (told drains.TooLong is) (λ whole. whole) out

-- with other pieces and another drain that are the same
as_is : (failed : Bool) (s : Setting) (o : Origin) (b : Base) (d : ClosingData) (pieces others : List Piece) (closes : Bool)
    (drain other : Option (Drain ContentSource)) (c : Progress) (t : Tally) → pieces ≡ others → drain ≡ other
    → Holds failed s o b (answering d pieces closes drain) c t → Holds failed s o b (answering d others closes other) c t
as_is failed s o b d pieces others closes drain other c t first second h =
    subst (λ (x : Option (Drain ContentSource)). Holds failed s o b (answering d others closes x) c t) second
    (subst (λ (ps : List Piece). Holds failed s o b (answering d ps closes drain) c t) first h)

pub answerings_lead_on : AnsweringsLeadOn
answerings_lead_on failed s o b d pieces closes drain c t h = record {
  puts = puts failed s o b d closes c t pieces drain h;
  completes = λ none no_drain stays_open.
      completes failed s o b d closes c t (as_is failed s o b d pieces [] closes drain None c t none no_drain h) stays_open;
  ends = λ none no_drain closed out.
      ends failed s o b d closes c t (as_is failed s o b d pieces [] closes drain None c t none no_drain h) closed out;
  drops = λ none old new is answer pipe onward.
      let there = as_is failed s o b d pieces [] closes drain (Some old) c t none is h in
      let (stays_open, no_content, (before, same, framing, reads)) = there.holds.0.drops in
      let (r, reads_on, call) = onward before reads in
      drop_on failed s o b d closes c t old new there answer pipe stays_open no_content before r same framing reads_on call;
  is_cut = is_cut failed s o b d closes c t pieces drain h;
}
