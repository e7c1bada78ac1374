-- What the place after a text says of it: it goes on, is a content, or turns bad.
use Rattle.std.proofs.Common.{◌≡◌, ℕ, ◌+◌, ◌-◌, ◌<◌, inl, inr, true, false, true≢false, List, [], ◌∷◌, ◌++◌, length, drop, replicate, refl, sym, ap, ◌∙◌, subst, arith, append_assoc, append-nil, length-append}
use Rattle.std.proofs.lemmas.Bool.{cases_lt, cases_eq}
use Rattle.std.proofs.lemmas.List.{length-replicate}
use Rattle.std.proofs.lemmas.List.Elements.{All-nil}
use Rattle.tow_model.specs.declared.content.Content.TheVariants as Contents
use Rattle.tow_model.specs.declared.request.Framing.{Framing}
use Rattle.tow_model.specs.declared.request.Framing.TheVariants.{Chunked}
use Rattle.tow_model.specs.Lists.{IsPrefix}
use Rattle.tow_message.specs.Contents.{IsChunk, IsContent, HasContent, IsShort, IsBad}
use Rattle.tow_source.specs.declared.body.Body.TheVariants.{End, Bad, TooLong}
use Rattle.tow_source.specs.declared.place.Place.{Place}
use Rattle.tow_source.specs.declared.place.Place.TheVariants as places
use Rattle.tow_source.specs.declared.chunked.ChunkedSource.{ChunkedSource}
use Rattle.tow_source.specs.Places.{goes_on, given_at}
use Rattle.tow_source.specs.ChunkedReading.{at_start, step_of, Runs, given_by, ReadsChunked}
use Rattle.tow_source.specs.Readings.{Reading, GivesFront, TurnsBad, IsOver}
use Rattle.tow_source.proofs.Ends.{one_content}
use Rattle.tow_source.proofs.FixedAnswers.{front_of}
use Rattle.tow_source.proofs.Runs.{runs_append, runs_rest, given_append, over_stays, last_step}
use Rattle.tow_source.proofs.Standing.{Stands}
use Rattle.tow_source.proofs.LaterSteps.{stands_on}
use Rattle.tow_source.proofs.WholeRuns.{at, first_then, runs_data, to_data, to_trailer, to_too_long, IsEnd, content_runs}

-- ---- each place can be gone on from to an end

record Ending (s : ChunkedSource) : Type 0 where
  more : List ℕ
  end : ChunkedSource
  runs : Runs s more end
  over : IsEnd end.place

before : (s : ChunkedSource) (b room : ℕ) (next : Place) → goes_on s.place ≡ true → (step_of s b).place ≡ next → (step_of s b).room ≡ room
    → Ending (at room next) → Ending s
before s b room next on place same e = record {
  more = b ∷ e.more;
  end = e.end;
  runs = (on, first_then s room next e.end b e.more place same e.runs);
  over = e.over;
}

from_last_lf : (room : ℕ) → Ending (at room places.LastLf)
from_last_lf room = record { more = 10 ∷ []; end = at room places.Ended; runs = (refl, refl); over = inl refl }

from_trailer_start : (room len : ℕ) → Ending (at room (places.TrailerStart len))
from_trailer_start room len = before (at room (places.TrailerStart len)) 13 room places.LastLf refl refl refl (from_last_lf room)

from_trailer_lf : (room len : ℕ) → Ending (at room (places.TrailerLf len))
from_trailer_lf room len = before (at room (places.TrailerLf len)) 10 room (places.TrailerStart len) refl refl refl (from_trailer_start room len)

from_trailer_text : (room len : ℕ) → Ending (at room (places.TrailerText len))
from_trailer_text room len = before (at room (places.TrailerText len)) 13 room (places.TrailerLf len) refl refl refl (from_trailer_lf room len)

from_size_start : (room : ℕ) → Ending (at room places.SizeStart)
from_size_start room =
    before (at room places.SizeStart) 48 room (places.Digits 1 0) refl refl refl
    (before (at room (places.Digits 1 0)) 13 room (places.SizeLf 0) refl refl refl
    (before (at room (places.SizeLf 0)) 10 (room - 0) (places.TrailerStart 0) refl (to_trailer room 0 refl) refl
    (from_trailer_start (room - 0) 0)))

from_data_lf : (room : ℕ) → Ending (at room places.DataLf)
from_data_lf room = before (at room places.DataLf) 10 room places.SizeStart refl refl refl (from_size_start room)

from_data : (room left : ℕ) → Ending (at room (places.Data left))
from_data room left =
    let bytes = replicate left 0 in
    let n : length bytes ≡ left = length-replicate left 0 in
    let none : left - length bytes ≡ 0 = omega (arith, n) in
    let runs : Runs (at room (places.Data left)) bytes (at room (places.Data 0)) =
    subst (λ (k : ℕ). Runs (at room (places.Data left)) bytes (at room (places.Data k))) none (runs_data room left bytes (omega (arith, n))) in
    let rest = before (at room (places.Data 0)) 13 room places.DataLf refl refl refl (from_data_lf room) in
    record {
      more = bytes ++ rest.more;
      end = rest.end;
      runs = runs_append (at room (places.Data left)) (at room (places.Data 0)) rest.end bytes rest.more runs rest.runs;
      over = rest.over;
    }

from_size_lf : (room size : ℕ) → Ending (at room (places.SizeLf size))
from_size_lf room size =
    elim (cases_lt room size) [
      | inl over ↦ before (at room (places.SizeLf size)) 10 (room - size) places.TooLong refl (to_too_long room size over) refl
          (record { more = []; end = at (room - size) places.TooLong; runs = refl; over = inr refl })
      | inr fits ↦ elim (cases_eq size 0) [
        | inl none ↦ before (at room (places.SizeLf size)) 10 (room - size) (places.TrailerStart 0) refl (to_trailer room size none) refl
            (from_trailer_start (room - size) 0)
        | inr some ↦ before (at room (places.SizeLf size)) 10 (room - size) (places.Data size) refl (to_data room size fits (omega (arith, some))) refl
            (from_data (room - size) size)
      ]
    ]

from_padding : (room len size : ℕ) → Ending (at room (places.Padding len size))
from_padding room len size = before (at room (places.Padding len size)) 13 room (places.SizeLf size) refl refl refl (from_size_lf room size)

can_end : (room : ℕ) (place : Place) → goes_on place ≡ true → Ending (at room place)
can_end room places.SizeStart on = from_size_start room
can_end room (places.Digits len size) on = before (at room (places.Digits len size)) 13 room (places.SizeLf size) refl refl refl (from_size_lf room size)
can_end room (places.Padding len size) on = from_padding room len size
can_end room (places.Extension len size) on = before (at room (places.Extension len size)) 13 room (places.SizeLf size) refl refl refl (from_size_lf room size)
can_end room (places.SizeLf size) on = from_size_lf room size
can_end room (places.Data left) on = from_data room left
can_end room places.DataLf on = from_data_lf room
can_end room (places.TrailerStart len) on = from_trailer_start room len
can_end room (places.TrailerText len) on = from_trailer_text room len
can_end room (places.TrailerLf len) on = from_trailer_lf room len
can_end room places.LastLf on = from_last_lf room
can_end room places.Ended on = absurd (cc)
can_end room places.Bad on = absurd (cc)
can_end room places.TooLong on = absurd (cc)

-- ---- what was taken stands at its place

stands_by : (s e : ChunkedSource) (bytes taken given : List ℕ) → Stands s.room s.place taken given → Runs s bytes e
    → Stands e.room e.place (taken ++ bytes) (given ++ given_by s bytes)
stands_by s e [] taken given is runs =
    subst (λ (x : ChunkedSource). Stands x.room x.place (taken ++ []) (given ++ [])) runs
    (subst (λ (t : List ℕ). Stands s.room s.place t (given ++ [])) (sym (append-nil taken))
    (subst (λ (g : List ℕ). Stands s.room s.place taken g) (sym (append-nil given)) is))
stands_by s e (b ∷ bytes) taken given is runs =
    let rest = stands_by (step_of s b) e bytes (taken ++ b ∷ []) (given ++ given_at s.place b)
    (stands_on s.room s.place b taken given runs.0 is) runs.1 in
    subst (λ (t : List ℕ). Stands e.room e.place t (given ++ given_by s (b ∷ bytes))) (append_assoc taken (b ∷ []) bytes)
    (subst (λ (g : List ℕ). Stands e.room e.place ((taken ++ b ∷ []) ++ bytes) g)
    (append_assoc given (given_at s.place b) (given_by (step_of s b) bytes)) rest)

stands_at_start : Stands at_start.room at_start.place [] []
stands_at_start = record {
  chunks = [];
  are = record { each = All-nil IsChunk; fit = omega arith };
  total = omega arith;
  printed = refl;
  gives = refl;
}

stands : (e : ChunkedSource) (text : List ℕ) → Runs at_start text e → Stands e.room e.place text (given_by at_start text)
stands e text runs = stands_by at_start e text [] [] stands_at_start runs

-- at an end it is a content
content_at_end : (e : ChunkedSource) (text : List ℕ) → Runs at_start text e → e.place ≡ places.Ended → IsContent Chunked text (Contents.Whole (given_by at_start text))
content_at_end e text runs is = subst (λ (p : Place). Stands e.room p text (given_by at_start text)) is (stands e text runs)

content_too_long : (e : ChunkedSource) (text : List ℕ) → Runs at_start text e → e.place ≡ places.TooLong → IsContent Chunked text Contents.TooLong
content_too_long e text runs is = subst (λ (p : Place). Stands e.room p text (given_by at_start text)) is (stands e text runs)

-- ---- where it goes on it is short

end_is_over : (place : Place) → IsEnd place → goes_on place ≡ false
end_is_over place (inl e) = ap goes_on e
end_is_over place (inr e) = ap goes_on e

some_more : (s e : ChunkedSource) (more : List ℕ) → goes_on s.place ≡ true → IsEnd e.place → Runs s more e → 0 < length more
some_more s e [] on over runs = absurd (true≢false (sym on ∙ ap (λ (x : ChunkedSource). goes_on x.place) runs ∙ end_is_over e.place over))
some_more s e (b ∷ more) on over runs = omega arith

pub short : (s : ChunkedSource) (text : List ℕ) → Runs at_start text s → goes_on s.place ≡ true → IsShort Chunked text
short s text runs on =
    let e = can_end s.room s.place on in
    let whole = runs_append at_start s e.end text e.more runs e.runs in
    let some = some_more s e.end e.more on e.over e.runs in
    elim e.over [
      | inl ended ↦ record { more = e.more; given = Contents.Whole (given_by at_start (text ++ e.more)); is_content = content_at_end e.end (text ++ e.more) whole ended; some = some }
      | inr over ↦ record { more = e.more; given = Contents.TooLong; is_content = content_too_long e.end (text ++ e.more) whole over; some = some }
    ]

-- ---- a bad place is behind no content

bad_is_no_end : (place : Place) → place ≡ places.Bad → IsEnd place → ⊥
bad_is_no_end place bad (inl e) = cc
bad_is_no_end place bad (inr e) = cc

no_content : (s e : ChunkedSource) (taken more text rest : List ℕ) → Runs at_start taken s → s.place ≡ places.Bad → Runs at_start text e → IsEnd e.place
    → taken ++ more ≡ text ++ rest → ⊥
no_content s e taken more text rest runs bad ends over joined =
    elim (cases_lt (length text) (length taken)) [
      | inl less ↦
          let split = front_of text taken rest more (omega (arith, less)) (sym joined) in
          let on = subst (λ (t : List ℕ). Runs at_start t s) split runs in
          let stays = over_stays e s _ (end_is_over e.place over) (runs_rest at_start e s text _ ends on) in
          bad_is_no_end e.place (ap (λ (x : ChunkedSource). x.place) stays.1 ∙ bad) over
      | inr fits ↦
          let split = front_of taken text more rest fits joined in
          let on = subst (λ (t : List ℕ). Runs at_start t e) split ends in
          let stays = over_stays s e _ (ap goes_on bad) (runs_rest at_start s e taken _ runs on) in
          bad_is_no_end e.place (sym (ap (λ (x : ChunkedSource). x.place) stays.1) ∙ bad) over
    ]

is_bad : (s : ChunkedSource) (taken : List ℕ) → Runs at_start taken s → s.place ≡ places.Bad → IsBad Chunked taken
is_bad s taken runs bad = λ more rest given has.
    let end = content_runs has.text given has.is_content in
    no_content s end.end taken more has.text rest runs bad end.runs end.over has.joined

turns_bad : (s : ChunkedSource) (taken : List ℕ) → Runs at_start taken s → s.place ≡ places.Bad → TurnsBad Chunked taken
turns_bad s [] runs bad = absurd (let e : places.SizeStart ≡ places.Bad = ap (λ (x : ChunkedSource). x.place) runs ∙ bad in cc)
turns_bad s (b ∷ bytes) runs bad =
    let l = last_step at_start s (b ∷ bytes) runs (omega arith) in
    (is_bad s (b ∷ bytes) runs bad, (l.before, l.byte, l.text, short l.place l.before l.runs l.going))

-- ---- the readings of a source

pub reading_is_short : (s : ChunkedSource) (r : Reading) → ReadsChunked s r → goes_on s.place ≡ true → IsShort r.framing r.taken
reading_is_short s r is on = subst (λ (f : Framing). IsShort f r.taken) (sym is.framing) (short s r.taken is.runs on)

pub reading_ended : (s : ChunkedSource) (r : Reading) → ReadsChunked s r → s.place ≡ places.Ended → IsOver r End
reading_ended s r is at_end =
    subst (λ (f : Framing). IsContent f r.taken (Contents.Whole r.given)) (sym is.framing)
    (subst (λ (g : List ℕ). IsContent Chunked r.taken (Contents.Whole g)) (sym is.given) (content_at_end s r.taken is.runs at_end))

pub reading_is_too_long : (s : ChunkedSource) (r : Reading) → ReadsChunked s r → s.place ≡ places.TooLong → IsOver r TooLong
reading_is_too_long s r is over =
    subst (λ (f : Framing). IsContent f r.taken Contents.TooLong) (sym is.framing) (content_too_long s r.taken is.runs over)

pub reading_is_bad : (s : ChunkedSource) (r : Reading) → ReadsChunked s r → s.place ≡ places.Bad → IsOver r Bad
reading_is_bad s r is bad = subst (λ (f : Framing). TurnsBad f r.taken) (sym is.framing) (turns_bad s r.taken is.runs bad)

whole_not_too_long : (bytes : List ℕ) → Contents.Whole bytes ≡ Contents.TooLong → ⊥
whole_not_too_long bytes e = cc

same_bytes : (a b : List ℕ) → Contents.Whole a ≡ Contents.Whole b → a ≡ b
same_bytes a b e = cc

-- what was given is a front of the content of each text that goes on so
front_given : (s e : ChunkedSource) (taken text rest more bytes : List ℕ) → Runs at_start taken s → Runs at_start text e → IsEnd e.place
    → IsContent Chunked text (Contents.Whole bytes) → taken ++ more ≡ text ++ rest → IsPrefix (given_by at_start taken) bytes
front_given s e taken text rest more bytes runs ends over is joined =
    elim (cases_lt (length text) (length taken)) [
      | inl less ↦
          let split = front_of text taken rest more (omega (arith, less)) (sym joined) in
          let on = subst (λ (t : List ℕ). Runs at_start t s) split runs in
          let stays = over_stays e s _ (end_is_over e.place over) (runs_rest at_start e s text _ ends on) in
          let none : length (drop (length text) taken) ≡ 0 = ap (λ (l : List ℕ). length l) stays.0 in
          let same : length taken ≡ length text + length (drop (length text) taken) = ap (λ (l : List ℕ). length l) split ∙ length-append text _ in
          absurd (omega (arith, less, none, same))
      | inr fits ↦
          let split = front_of taken text more rest fits joined in
          let after = drop (length taken) text in
          elim over [
            | inl ended ↦ (
              given_by s after,
              same_bytes bytes (given_by at_start text) (one_content Chunked text _ _ is (content_at_end e text ends ended))
                  ∙ ap (λ (t : List ℕ). given_by at_start t) split
                  ∙ given_append at_start s taken after runs,
            )
            | inr long ↦ absurd (whole_not_too_long bytes (one_content Chunked text _ _ is (content_too_long e text ends long)))
          ]
    ]

pub gives_front : (s : ChunkedSource) (r : Reading) → ReadsChunked s r → GivesFront r
gives_front s r is = λ more rest bytes has.
    let has' : HasContent Chunked (r.taken ++ more) (Contents.Whole bytes) rest =
    subst (λ (f : Framing). HasContent f (r.taken ++ more) (Contents.Whole bytes) rest) is.framing has in
    let end = content_runs has'.text (Contents.Whole bytes) has'.is_content in
    subst (λ (g : List ℕ). IsPrefix g bytes) (sym is.given)
    (front_given s end.end r.taken has'.text rest more bytes is.runs end.runs end.over has'.is_content has'.joined)
