-- The answers of a source of chunked content.
use Rattle.std.proofs.Common.{◌≡◌, ◌≢◌, ℕ, ◌+◌, ◌-◌, ◌<◌, inl, inr, true, false, true≢false, List, [], ◌∷◌, ◌++◌, length, take, drop, get_or, if◌then◌else◌, refl, sym, ap, ap₂, ◌∙◌, subst, arith, append_assoc, append-nil, length-take-le}
use Rattle.std.proofs.lemmas.Bool.{cases_Bool, cases_lt, eq-eqb}
use Rattle.std.proofs.lemmas.List.{take-append-drop, drop_all, take_more}
use Rattle.circular_buffer.specs.Buffer.{Buffer, buffer}
use Rattle.tow_source.specs.declared.body.Body.{Body}
use Rattle.tow_source.specs.declared.body.Body.TheVariants.{Got, NotYet, End, Bad, TooLong}
use Rattle.tow_source.specs.declared.place.Place.{Place}
use Rattle.tow_source.specs.declared.place.Place.TheVariants as places
use Rattle.tow_source.specs.declared.chunked.ChunkedSource.{ChunkedSource}
use Rattle.tow_source.specs.Moves.{Moves}
use Rattle.tow_source.specs.Places.{goes_on, is_framing, given_at}
use Rattle.tow_source.specs.ChunkedReading.{at_start, step_of, Runs, given_by, ReadsChunked, Frames, FramesPipe}
use Rattle.tow_source.specs.Readings.{Reading, IsOver, Takes, Tells, Repeats, Reads, Onward}
use Rattle.tow_source.proofs.Ends.{short_is_not_over, one_end}
use Rattle.tow_source.proofs.FixedAnswers.{moved_count, moved_none}
use Rattle.tow_source.proofs.Runs.{runs_append, given_append, over_stays}
use Rattle.tow_source.proofs.WholeRuns.{at, runs_data, given_data}
use Rattle.tow_source.proofs.ChunkedEnds.{reading_is_short, reading_ended, reading_is_too_long, reading_is_bad, gives_front}

-- ---- one byte more of what is around the content

framing_goes_on : (place : Place) → is_framing place ≡ true → goes_on place ≡ true
framing_goes_on places.SizeStart e = refl
framing_goes_on (places.Digits len size) e = refl
framing_goes_on (places.Padding len size) e = refl
framing_goes_on (places.Extension len size) e = refl
framing_goes_on (places.SizeLf size) e = refl
framing_goes_on (places.Data left) e = refl
framing_goes_on places.DataLf e = refl
framing_goes_on (places.TrailerStart len) e = refl
framing_goes_on (places.TrailerText len) e = refl
framing_goes_on (places.TrailerLf len) e = refl
framing_goes_on places.LastLf e = refl
framing_goes_on places.Ended e = e
framing_goes_on places.Bad e = e
framing_goes_on places.TooLong e = e

framing_gives_none : (place : Place) (byte : ℕ) → is_framing place ≡ true → given_at place byte ≡ []
framing_gives_none places.SizeStart byte e = refl
framing_gives_none (places.Digits len size) byte e = refl
framing_gives_none (places.Padding len size) byte e = refl
framing_gives_none (places.Extension len size) byte e = refl
framing_gives_none (places.SizeLf size) byte e = refl
framing_gives_none (places.Data left) byte e = ap (λ t. if t then [] else byte ∷ []) e
framing_gives_none places.DataLf byte e = refl
framing_gives_none (places.TrailerStart len) byte e = refl
framing_gives_none (places.TrailerText len) byte e = refl
framing_gives_none (places.TrailerLf len) byte e = refl
framing_gives_none places.LastLf byte e = refl
framing_gives_none places.Ended byte e = refl
framing_gives_none places.Bad byte e = refl
framing_gives_none places.TooLong byte e = refl

pub one_more_runs : (s m n : ChunkedSource) (bytes : List ℕ) (count : ℕ) → count < length bytes → Runs s (take count bytes) m
    → is_framing m.place ≡ true → n ≡ step_of m (get_or bytes count 0) → Runs s (take (count + 1) bytes) n
one_more_runs s m n bytes count less runs around step =
    subst (λ (l : List ℕ). Runs s l n) (sym (take_more bytes count 0 less))
    (runs_append s m n (take count bytes) (get_or bytes count 0 ∷ []) runs (framing_goes_on m.place around, sym step))

pub one_more_gives : (s m : ChunkedSource) (bytes : List ℕ) (count : ℕ) → count < length bytes → Runs s (take count bytes) m
    → is_framing m.place ≡ true → given_by s (take count bytes) ≡ [] → given_by s (take (count + 1) bytes) ≡ []
one_more_gives s m bytes count less runs around none =
    ap (λ (l : List ℕ). given_by s l) (take_more bytes count 0 less)
    ∙ given_append s m (take count bytes) (get_or bytes count 0 ∷ []) runs
    ∙ ap₂ (λ (a b : List ℕ). a ++ (b ++ [])) none (framing_gives_none m.place (get_or bytes count 0) around)

-- ---- after what is around the content was taken

abbrev after : Reading → List ℕ → Reading
after r took = record { framing = r.framing; taken = r.taken ++ took; given = r.given }

reads_framing : (s s' : ChunkedSource) (r : Reading) (count : ℕ) (bytes : List ℕ) → ReadsChunked s r → Frames count bytes s s'
    → ReadsChunked s' (after r (take count bytes))
reads_framing s s' r count bytes is f = record {
  framing = is.framing;
  runs = runs_append at_start s s' r.taken (take count bytes) is.runs f.runs;
  given = sym (append-nil r.given)
      ∙ ap₂ (λ (a b : List ℕ). a ++ b) is.given (sym f.nothing)
      ∙ sym (given_append at_start s r.taken (take count bytes) is.runs);
}

takes_framing : (s s' : ChunkedSource) (r : Reading) (piped piped' : Buffer ℕ) → ReadsChunked s r → (f : FramesPipe piped piped' s s')
    → Takes (take f.count piped.items) piped piped' r (after r (take f.count piped.items))
takes_framing s s' r piped piped' is f = record {
  from_pipe = sym (take-append-drop f.count piped.items) ∙ ap (λ (p : Buffer ℕ). take f.count piped.items ++ p.items) (sym f.left);
  room = ap (λ (p : Buffer ℕ). p.capacity) f.left;
  taken = refl;
  framing = refl;
  front = gives_front s' (after r (take f.count piped.items)) (reads_framing s s' r f.count piped.items is f.frames);
}

-- where the content is over nothing was taken
nothing_taken : (s s' : ChunkedSource) (piped piped' : Buffer ℕ) → FramesPipe piped piped' s s' → goes_on s.place ≡ false → (s ≡ s') × (piped' ≡ piped)
nothing_taken s s' piped piped' f over =
    let stays = over_stays s s' (take f.count piped.items) over f.frames.runs in
    let len : f.count ≡ 0 = sym (length-take-le f.count piped.items f.frames.within) ∙ ap (λ (l : List ℕ). length l) stays.0 in
    (stays.1, f.left ∙ ap (λ (n : ℕ). buffer (drop n piped.items) piped.capacity) len)

-- an answer that says how the content ended comes again, and no other is followed by an end
repeats : (s : ChunkedSource) (r : Reading) (answer : Body) (piped piped' : Buffer ℕ) → ReadsChunked s r
    → (goes_on s.place ≡ false → IsOver r answer × (piped' ≡ piped)) → Repeats answer piped piped' r
repeats s r answer piped piped' is same = λ end o.
    elim (cases_Bool (goes_on s.place)) [
      | inl on ↦ absurd (short_is_not_over r end (reading_is_short s r is on) o)
      | inr over ↦ let it = same over in (one_end r answer end it.0 o, it.1)
    ]

says_over : (s s' : ChunkedSource) (answer : Body) (place : Place) (piped piped' : Buffer ℕ) (to : List ℕ) → FramesPipe piped piped' s s'
    → s'.place ≡ place
    → ((x : ChunkedSource) (r : Reading) → ReadsChunked x r → x.place ≡ place → IsOver r answer)
    → ((old new : Reading) → new.given ≡ old.given → IsOver new answer → Tells answer piped' to old new)
    → Onward (ReadsChunked s) (ReadsChunked s') (Reads answer piped piped' to)
says_over s s' answer place piped piped' to f at_place over tells = λ r is.
    let new = after r (take f.count piped.items) in
    let is' = reads_framing s s' r f.count piped.items is f.frames in (
      new,
      is',
      record {
        took = take f.count piped.items;
        takes = takes_framing s s' r piped piped' is f;
        tells = tells r new refl (over s' new is' at_place);
        repeats = repeats s r answer piped piped' is (λ was.
            let same = nothing_taken s s' piped piped' f was in
            (over s r is (ap (λ (x : ChunkedSource). x.place) same.0 ∙ at_place), same.1));
      },
    )

pub says_end : (s s' : ChunkedSource) (piped piped' : Buffer ℕ) (to : List ℕ) → FramesPipe piped piped' s s' → s'.place ≡ places.Ended
    → Onward (ReadsChunked s) (ReadsChunked s') (Reads End piped piped' to)
says_end s s' piped piped' to f at_place =
    says_over s s' End places.Ended piped piped' to f at_place reading_ended (λ old new g o. (g, o))

pub says_bad : (s s' : ChunkedSource) (piped piped' : Buffer ℕ) (to : List ℕ) → FramesPipe piped piped' s s' → s'.place ≡ places.Bad
    → Onward (ReadsChunked s) (ReadsChunked s') (Reads Bad piped piped' to)
says_bad s s' piped piped' to f at_place =
    says_over s s' Bad places.Bad piped piped' to f at_place reading_is_bad (λ old new g o. (g, o))

pub says_too_long : (s s' : ChunkedSource) (piped piped' : Buffer ℕ) (to : List ℕ) → FramesPipe piped piped' s s' → s'.place ≡ places.TooLong
    → Onward (ReadsChunked s) (ReadsChunked s') (Reads TooLong piped piped' to)
says_too_long s s' piped piped' to f at_place =
    says_over s s' TooLong places.TooLong piped piped' to f at_place reading_is_too_long (λ old new g o. (g, o))

-- ---- the content goes on

-- where the place is around the content, the pipe is empty
all_taken : (s s' : ChunkedSource) (piped piped' : Buffer ℕ) → FramesPipe piped piped' s s' → is_framing s'.place ≡ true → piped'.items ≡ []
all_taken s s' piped piped' f around =
    elim (cases_lt f.count (length piped.items)) [
      | inl less ↦ absurd (true≢false (sym around ∙ f.frames.stops less))
      | inr all ↦ ap (λ (p : Buffer ℕ). p.items) f.left ∙ drop_all f.count piped.items all
    ]

pub says_not_yet : (s s' : ChunkedSource) (piped piped' : Buffer ℕ) (to : List ℕ) → FramesPipe piped piped' s s' → goes_on s'.place ≡ true
    → piped'.items ≡ [] → Onward (ReadsChunked s) (ReadsChunked s') (Reads NotYet piped piped' to)
says_not_yet s s' piped piped' to f on none = λ r is.
    let new = after r (take f.count piped.items) in
    let is' = reads_framing s s' r f.count piped.items is f.frames in (
      new,
      is',
      record {
        took = take f.count piped.items;
        takes = takes_framing s s' r piped piped' is f;
        tells = (refl, none, reading_is_short s' new is' on);
        repeats = repeats s r NotYet piped piped' is (λ was.
            let same = nothing_taken s s' piped piped' f was in
            absurd (true≢false (sym on ∙ ap (λ (x : ChunkedSource). goes_on x.place) (sym same.0) ∙ was)));
      },
    )

pub waits_for_framing : (s s' : ChunkedSource) (piped piped' : Buffer ℕ) (to : List ℕ) → FramesPipe piped piped' s s' → is_framing s'.place ≡ true
    → Onward (ReadsChunked s) (ReadsChunked s') (Reads NotYet piped piped' to)
waits_for_framing s s' piped piped' to f around =
    says_not_yet s s' piped piped' to f (framing_goes_on s'.place around) (all_taken s s' piped piped' f around)

pub waits_for_data : (s s' : ChunkedSource) (left count : ℕ) (piped piped' piped'' : Buffer ℕ) (to to' : List ℕ) → FramesPipe piped piped' s s'
    → s'.place ≡ places.Data left → Moves count left piped' piped'' to to' → count ≡ 0 → 0 < length to
    → Onward (ReadsChunked s) (ReadsChunked s') (Reads NotYet piped piped'' to')
waits_for_data s s' left count piped piped' piped'' to to' f in_data m none room =
    let m' : Moves 0 left piped' piped'' to to' = subst (λ (n : ℕ). Moves n left piped' piped'' to to') none m in
    let empty : piped'.items ≡ [] =
    elim (cases_lt 0 left) [
      | inl some ↦ (moved_none left piped' piped'' to to' m' some room).0
      | inr zero ↦
          let at_end : left ≡ 0 = omega (arith, zero) in
          all_taken s s' piped piped' f (ap is_framing in_data ∙ eq-eqb left 0 at_end)
    ] in
    subst (λ (p : Buffer ℕ). Onward (ReadsChunked s) (ReadsChunked s') (Reads NotYet piped p to')) (sym m'.left)
    (says_not_yet s s' piped piped' to' f (ap goes_on in_data) empty)

-- ---- bytes are given

abbrev given_too : Reading → List ℕ → List ℕ → Reading
given_too r took bytes = record { framing = r.framing; taken = r.taken ++ took; given = r.given ++ bytes }

joined : (a b all one two : List ℕ) → all ≡ a ++ one → one ≡ b ++ two → all ≡ (a ++ b) ++ two
joined a b all one two e f = e ∙ ap (λ (l : List ℕ). a ++ l) f ∙ sym (append_assoc a b two)

pub says_got : (s s' : ChunkedSource) (left count : ℕ) (piped piped' piped'' : Buffer ℕ) (to to' : List ℕ) → FramesPipe piped piped' s s'
    → s'.place ≡ places.Data left → Moves count left piped' piped'' to to' → count ≢ 0
    → Onward (ReadsChunked s) (ReadsChunked (at s'.room (places.Data (left - count)))) (Reads (Got count) piped piped'' to')
says_got s s' left count piped piped' piped'' to to' f in_data m some = λ r is.
    let counts = moved_count count left piped' piped'' to to' m in
    let around = take f.count piped.items in
    let bytes = take count piped'.items in
    let n : length bytes ≡ count = length-take-le count piped'.items counts.1 in
    let mid = after r around in
    let is' = reads_framing s s' r f.count piped.items is f.frames in
    let same : s' ≡ at s'.room (places.Data left) = ap (λ (p : Place). at s'.room p) in_data in
    let moved : Runs (at s'.room (places.Data left)) bytes (at s'.room (places.Data (left - count))) =
    subst (λ (k : ℕ). Runs (at s'.room (places.Data left)) bytes (at s'.room (places.Data (left - k)))) n
    (runs_data s'.room left bytes (omega (arith, n, counts.0))) in
    let runs : Runs s' bytes (at s'.room (places.Data (left - count))) =
    subst (λ (x : ChunkedSource). Runs x bytes (at s'.room (places.Data (left - count)))) (sym same) moved in
    let gives : given_by s' bytes ≡ bytes = ap (λ (x : ChunkedSource). given_by x bytes) same ∙ given_data s'.room left bytes (omega (arith, n, counts.0)) in
    let new = given_too r (around ++ bytes) (take count to') in
    let taken : mid.taken ++ bytes ≡ new.taken = append_assoc r.taken around bytes in
    let is'' : ReadsChunked (at s'.room (places.Data (left - count))) new = record {
      framing = is.framing;
      runs = subst (λ (t : List ℕ). Runs at_start t (at s'.room (places.Data (left - count)))) taken
          (runs_append at_start s' (at s'.room (places.Data (left - count))) mid.taken bytes is'.runs runs);
      given = ap₂ (λ (a b : List ℕ). a ++ b) is'.given (m.moved ∙ sym gives)
          ∙ sym (given_append at_start s' mid.taken bytes is'.runs)
          ∙ ap (λ (t : List ℕ). given_by at_start t) taken;
    } in (
      new,
      is'',
      record {
        took = around ++ bytes;
        takes = record {
          from_pipe = joined around bytes piped.items piped'.items piped''.items
              (sym (take-append-drop f.count piped.items) ∙ ap (λ (p : Buffer ℕ). around ++ p.items) (sym f.left))
              (sym (take-append-drop count piped'.items) ∙ ap (λ (p : Buffer ℕ). bytes ++ p.items) (sym m.left));
          room = ap (λ (p : Buffer ℕ). p.capacity) m.left ∙ ap (λ (p : Buffer ℕ). p.capacity) f.left;
          taken = refl;
          framing = refl;
          front = gives_front (at s'.room (places.Data (left - count))) new is'';
        };
        tells = refl;
        repeats = repeats s r (Got count) piped piped'' is (λ was.
            let stays = nothing_taken s s' piped piped' f was in
            absurd (true≢false (sym (ap goes_on in_data) ∙ ap (λ (x : ChunkedSource). goes_on x.place) (sym stays.0) ∙ was)));
      },
    )

-- the places that have an answer of their own
pub framing_else : (place : Place) → ((left : ℕ) → place ≢ places.Data left) → place ≢ places.Ended → place ≢ places.Bad → place ≢ places.TooLong
    → is_framing place ≡ true
framing_else places.SizeStart d e b t = refl
framing_else (places.Digits len size) d e b t = refl
framing_else (places.Padding len size) d e b t = refl
framing_else (places.Extension len size) d e b t = refl
framing_else (places.SizeLf size) d e b t = refl
framing_else (places.Data left) d e b t = absurd (d left refl)
framing_else places.DataLf d e b t = refl
framing_else (places.TrailerStart len) d e b t = refl
framing_else (places.TrailerText len) d e b t = refl
framing_else (places.TrailerLf len) d e b t = refl
framing_else places.LastLf d e b t = refl
framing_else places.Ended d e b t = absurd (e refl)
framing_else places.Bad d e b t = absurd (b refl)
framing_else places.TooLong d e b t = absurd (t refl)
