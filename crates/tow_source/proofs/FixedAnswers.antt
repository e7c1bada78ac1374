-- The four answers of a source of a content of known length.
use Rattle.std.proofs.Common.{◌≡◌, ◌≢◌, ℕ, ◌+◌, ◌-◌, ◌<◌, ◌≤◌, List, [], ◌++◌, length, take, drop, replicate, refl, sym, ap, ap₂, ◌∙◌, subst, arith, append-nil, length-append, take_at, length-take-le}
use Rattle.std.proofs.lemmas.List.{take-append-drop, take-append-le, length-drop, length-replicate, nil_from_length}
use Rattle.circular_buffer.specs.Buffer.{Buffer}
use Rattle.tow_model.specs.declared.limits.TheConstants.{MAX_CONTENT_LEN}
use Rattle.tow_model.specs.declared.request.Framing.{Framing}
use Rattle.tow_model.specs.declared.request.Framing.TheVariants.{Fixed}
use Rattle.tow_model.specs.declared.content.Content.TheVariants as Contents
use Rattle.tow_message.specs.Contents.{IsContent, HasContent, IsShort}
use Rattle.tow_source.specs.declared.body.Body.TheVariants.{Got, NotYet, End, TooLong}
use Rattle.tow_source.specs.declared.fixed.FixedSource.{FixedSource}
use Rattle.tow_source.specs.Moves.{Moves}
use Rattle.tow_source.specs.FixedReading.{ReadsFixed}
use Rattle.tow_source.specs.Readings.{Reading, GivesFront, IsOver, Takes, Reads, Onward, KeepsPace}
use Rattle.tow_source.proofs.Ends.{short_is_not_over, one_end}

-- ---- lists

-- a text that two texts begin with, the shorter one of which it is
pub front_of : (a b s t : List ℕ) → length a ≤ length b → a ++ s ≡ b ++ t → b ≡ a ++ drop (length a) b
front_of a b s t short e =
    sym (take-append-drop (length a) b)
    ∙ ap (λ (l : List ℕ). l ++ drop (length a) b)
    (sym (take-append-le (length a) b t short) ∙ sym (ap (take (length a)) e) ∙ take_at a s (length a) refl)

-- ---- the source

fixed_front : (s : FixedSource) (r : Reading) → ReadsFixed s r → GivesFront r
fixed_front s r is = λ more rest bytes has.
    let has' : HasContent (Fixed s.len) (r.taken ++ more) (Contents.Whole bytes) rest =
    subst (λ (f : Framing). HasContent f (r.taken ++ more) (Contents.Whole bytes) rest) is.framing has in
    let short : length r.taken ≤ length has'.text = omega (arith, is.count, has'.is_content.1) in (
      drop (length r.taken) has'.text,
      has'.is_content.2 ∙ front_of r.taken has'.text more rest short has'.joined
          ∙ ap (λ (l : List ℕ). l ++ drop (length r.taken) has'.text) (sym is.given),
    )

fixed_short : (s : FixedSource) (r : Reading) → ReadsFixed s r → s.len ≤ MAX_CONTENT_LEN → 0 < s.left
    → IsShort r.framing r.taken
fixed_short s r is fits more =
    let rest = replicate s.left 0 in
    let n : length rest ≡ s.left = length-replicate s.left 0 in
    let whole : length (r.taken ++ rest) ≡ s.len = omega (arith, length-append r.taken rest, n, is.count) in
    let is_content : IsContent (Fixed s.len) (r.taken ++ rest) (Contents.Whole (r.taken ++ rest)) = (fits, whole, refl) in
    record {
      more = rest;
      given = Contents.Whole (r.taken ++ rest);
      is_content = subst (λ (f : Framing). IsContent f (r.taken ++ rest) (Contents.Whole (r.taken ++ rest))) (sym is.framing) is_content;
      some = omega (arith, n, more);
    }

-- nothing is taken
stays : (s : FixedSource) (piped : Buffer ℕ) (r : Reading) → ReadsFixed s r → Takes [] piped piped r r
stays s piped r is = record {
  from_pipe = refl;
  room = refl;
  taken = sym (append-nil r.taken);
  framing = refl;
  front = fixed_front s r is;
}

too_long : (s : FixedSource) (r : Reading) → ReadsFixed s r → MAX_CONTENT_LEN < s.len → IsOver r TooLong
too_long s r is over =
    subst (λ (f : Framing). IsContent f r.taken Contents.TooLong) (sym is.framing) (over, is.capped over)

ended : (s : FixedSource) (r : Reading) → ReadsFixed s r → s.len ≤ MAX_CONTENT_LEN → s.left ≡ 0 → IsOver r End
ended s r is fits all =
    subst (λ (f : Framing). IsContent f r.taken (Contents.Whole r.given)) (sym is.framing) (fits, omega (arith, is.count, all), is.given)

pub says_too_long : (s : FixedSource) (piped : Buffer ℕ) (to : List ℕ) → MAX_CONTENT_LEN < s.len
    → Onward (ReadsFixed s) (ReadsFixed s) (Reads TooLong piped piped to)
says_too_long s piped to over = λ r is. (
  r,
  is,
  record {
    took = [];
    takes = stays s piped r is;
    tells = (refl, too_long s r is over);
    repeats = λ end o. (one_end r TooLong end (too_long s r is over) o, refl);
  },
)

pub says_end : (s : FixedSource) (piped : Buffer ℕ) (to : List ℕ) → s.len ≤ MAX_CONTENT_LEN → s.left ≡ 0
    → Onward (ReadsFixed s) (ReadsFixed s) (Reads End piped piped to)
says_end s piped to fits all = λ r is. (
  r,
  is,
  record {
    took = [];
    takes = stays s piped r is;
    tells = (refl, ended s r is fits all);
    repeats = λ end o. (one_end r End end (ended s r is fits all) o, refl);
  },
)

-- what was moved is so much of what there is
pub moved_count : (count most : ℕ) (piped piped' : Buffer ℕ) (to to' : List ℕ) → Moves count most piped piped' to to'
    → (count ≤ most) × (count ≤ length piped.items) × (count ≤ length to)
moved_count count most piped piped' to to' m = (omega (arith, m.all), omega (arith, m.all), omega (arith, m.all))

pub moved_none : (most : ℕ) (piped piped' : Buffer ℕ) (to to' : List ℕ) → Moves 0 most piped piped' to to' → 0 < most
    → 0 < length to → (piped.items ≡ []) × (piped' ≡ piped)
moved_none most piped piped' to to' m some room =
    let none : length piped.items ≡ 0 = omega (arith, m.all, some, room) in
    (nil_from_length piped.items none, m.left)

pub says_not_yet : (s : FixedSource) (count : ℕ) (piped piped' : Buffer ℕ) (to to' : List ℕ) → s.len ≤ MAX_CONTENT_LEN
    → s.left ≢ 0 → Moves count s.left piped piped' to to' → count ≡ 0 → 0 < length to
    → Onward (ReadsFixed s) (ReadsFixed s) (Reads NotYet piped piped' to')
says_not_yet s count piped piped' to to' fits other m none room = λ r is.
    let less : 0 < s.left = omega (arith, other) in
    let m' : Moves 0 s.left piped piped' to to' = subst (λ (n : ℕ). Moves n s.left piped piped' to to') none m in
    let nothing = moved_none s.left piped piped' to to' m' (omega (arith, less)) room in
    let short = fixed_short s r is fits less in (
      r,
      is,
      record {
        took = [];
        takes = subst (λ (p : Buffer ℕ). Takes [] piped p r r) (sym nothing.1) (stays s piped r is);
        tells = (refl, ap (λ (p : Buffer ℕ). p.items) nothing.1 ∙ nothing.0, short);
        repeats = λ end o. absurd (short_is_not_over r end short o);
      },
    )

pub says_got : (s s' : FixedSource) (count : ℕ) (piped piped' : Buffer ℕ) (to to' : List ℕ) → s.len ≤ MAX_CONTENT_LEN
    → s.left ≢ 0 → Moves count s.left piped piped' to to' → count ≢ 0
    → s'.len ≡ s.len → s'.left + count ≡ s.left
    → Onward (ReadsFixed s) (ReadsFixed s') (Reads (Got count) piped piped' to')
says_got s s' count piped piped' to to' fits other m some same more = λ r is.
    let less : 0 < s.left = omega (arith, other) in
    let short = fixed_short s r is fits less in
    let counts = moved_count count s.left piped piped' to to' m in
    let took = take count piped.items in
    let n : length took ≡ count = length-take-le count piped.items counts.1 in
    let new : Reading = record { framing = r.framing; taken = r.taken ++ took; given = r.given ++ take count to' } in
    let is' : ReadsFixed s' new = record {
      framing = is.framing ∙ ap Fixed (sym same);
      given = ap₂ (λ (a b : List ℕ). a ++ b) is.given m.moved;
      count = omega (arith, length-append r.taken took, n, is.count, more, same);
      capped = λ over. absurd (omega (arith, over, same, fits));
    } in (
      new,
      is',
      record {
        took = took;
        takes = record {
          from_pipe = sym (take-append-drop count piped.items) ∙ ap (λ (p : Buffer ℕ). took ++ p.items) (sym m.left);
          room = ap (λ (p : Buffer ℕ). p.capacity) m.left;
          taken = refl;
          framing = refl;
          front = fixed_front s' new is';
        };
        tells = refl;
        repeats = λ end o. absurd (short_is_not_over r end short o);
      },
    )

pub keeps_pace : (count most : ℕ) (piped piped' : Buffer ℕ) (to to' : List ℕ) → Moves count most piped piped' to to' → count ≢ 0
    → KeepsPace (Got count) piped piped' to'
keeps_pace count most piped piped' to to' m some =
    let counts = moved_count count most piped piped' to to' m in
    let n : length piped'.items ≡ length piped.items - count = ap (λ (p : Buffer ℕ). length p.items) m.left ∙ length-drop count piped.items in
    (omega (arith, some), omega (arith, counts.2, m.same_length), omega (arith, n, counts.1))
