-- A reading has one end at most, and none while its content goes on.
use Rattle.std.proofs.Common.{◌≡◌, ℕ, ◌<◌, List, [], ◌++◌, length, refl, sym, ap, arith, append-nil}
use Rattle.tow_model.specs.declared.request.Framing.{Framing}
use Rattle.tow_model.specs.declared.content.Content.{Content}
use Rattle.tow_model.specs.declared.content.Content.TheVariants as Contents
use Rattle.tow_message.specs.Contents.{IsContent, HasContent, IsShort, IsBad}
use Rattle.tow_message.proofs.ContentLemmas.{content_is_one}
use Rattle.tow_source.specs.declared.body.Body.{Body}
use Rattle.tow_source.specs.declared.body.Body.TheVariants.{Got, NotYet, End, Bad, TooLong}
use Rattle.tow_source.specs.Readings.{Reading, IsOver}

nothing_is_short : (more : List ℕ) → [] ≡ more → 0 < length more → ⊥
nothing_is_short more e some = omega (arith, ap (λ (l : List ℕ). length l) e, some)

pub short_is_no_content : (f : Framing) (text : List ℕ) (c : Content) → IsShort f text → IsContent f text c → ⊥
short_is_no_content f text c short is =
    let one : HasContent f (text ++ short.more) short.given [] = record { text = text ++ short.more; is_content = short.is_content; joined = sym (append-nil (text ++ short.more)) } in
    let two : HasContent f (text ++ short.more) c short.more = record { text = text; is_content = is; joined = refl } in
    nothing_is_short short.more (content_is_one f (text ++ short.more) short.given c [] short.more one two).1 short.some

pub content_is_not_bad : (f : Framing) (text : List ℕ) (c : Content) → IsContent f text c → IsBad f text → ⊥
content_is_not_bad f text c is bad = bad [] [] c (record { text = text; is_content = is; joined = refl })

pub short_is_not_bad : (f : Framing) (text : List ℕ) → IsShort f text → IsBad f text → ⊥
short_is_not_bad f text short bad =
    bad short.more [] short.given (record { text = text ++ short.more; is_content = short.is_content; joined = sym (append-nil (text ++ short.more)) })

pub one_content : (f : Framing) (text : List ℕ) (c d : Content) → IsContent f text c → IsContent f text d → c ≡ d
one_content f text c d is other =
    let one : HasContent f (text ++ []) c [] = record { text = text; is_content = is; joined = refl } in
    let two : HasContent f (text ++ []) d [] = record { text = text; is_content = other; joined = refl } in
    (content_is_one f (text ++ []) c d [] [] one two).0

not_both : (bytes : List ℕ) → Contents.Whole bytes ≡ Contents.TooLong → ⊥
not_both bytes e = cc

pub short_is_not_over : (r : Reading) (end : Body) → IsShort r.framing r.taken → IsOver r end → ⊥
short_is_not_over r End short over = short_is_no_content r.framing r.taken _ short over
short_is_not_over r Bad short over = short_is_not_bad r.framing r.taken short over.0
short_is_not_over r TooLong short over = short_is_no_content r.framing r.taken _ short over
short_is_not_over r NotYet short over = over
short_is_not_over r (Got n) short over = over

pub one_end : (r : Reading) (end other : Body) → IsOver r end → IsOver r other → end ≡ other
one_end r End End a b = refl
one_end r End Bad a b = absurd (content_is_not_bad r.framing r.taken _ a b.0)
one_end r End TooLong a b = absurd (not_both r.given (one_content r.framing r.taken _ _ a b))
one_end r End NotYet a b = absurd b
one_end r End (Got n) a b = absurd b
one_end r Bad End a b = absurd (content_is_not_bad r.framing r.taken _ b a.0)
one_end r Bad Bad a b = refl
one_end r Bad TooLong a b = absurd (content_is_not_bad r.framing r.taken _ b a.0)
one_end r Bad NotYet a b = absurd b
one_end r Bad (Got n) a b = absurd b
one_end r TooLong End a b = absurd (not_both r.given (one_content r.framing r.taken _ _ b a))
one_end r TooLong Bad a b = absurd (content_is_not_bad r.framing r.taken _ a b.0)
one_end r TooLong TooLong a b = refl
one_end r TooLong NotYet a b = absurd b
one_end r TooLong (Got n) a b = absurd b
one_end r NotYet other a b = absurd a
one_end r (Got n) other a b = absurd a
