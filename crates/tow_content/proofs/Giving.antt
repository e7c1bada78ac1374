-- The answer of the source of no content.
use Rattle.std.proofs.Common.{◌≡◌, ℕ, List, [], ◌++◌, refl, sym, ap, subst, append-nil}
use Rattle.circular_buffer.specs.Buffer.{Buffer}
use Rattle.tow_model.specs.declared.request.Framing.{Framing}
use Rattle.tow_model.specs.declared.content.Content.TheVariants as Contents
use Rattle.tow_message.specs.Contents.{IsContent, HasContent}
use Rattle.tow_source.specs.declared.body.Body.{Body}
use Rattle.tow_source.specs.declared.body.Body.TheVariants.{Got, NotYet, End, Bad, TooLong}
use Rattle.tow_source.specs.Readings.{Reading, GivesFront, IsOver, Reads, Onward}
use Rattle.tow_content.specs.Sources.{ReadsNothing}

nothing_front : (r : Reading) → ReadsNothing r → GivesFront r
nothing_front r is = λ more rest bytes has. (bytes, ap (λ (l : List ℕ). l ++ bytes) (sym is.given))

nothing_ended : (r : Reading) → ReadsNothing r → IsOver r End
nothing_ended r is =
    subst (λ (f : Framing). IsContent f r.taken (Contents.Whole r.given)) (sym is.framing) (is.taken, is.given)

-- a request without content begins with its content
nothing_there : (r : Reading) → ReadsNothing r → HasContent r.framing (r.taken ++ []) (Contents.Whole []) []
nothing_there r is = record {
  text = [];
  is_content = subst (λ (f : Framing). IsContent f [] (Contents.Whole [])) (sym is.framing) (refl, refl);
  joined = ap (λ (l : List ℕ). l ++ []) is.taken;
}

only_end : (r : Reading) → ReadsNothing r → (end : Body) → IsOver r end → End ≡ end
only_end r is End o = refl
only_end r is Bad o = absurd (o.0 [] [] (Contents.Whole []) (nothing_there r is))
only_end r is TooLong o = absurd (subst (λ (f : Framing). IsContent f r.taken Contents.TooLong) is.framing o)
only_end r is NotYet o = absurd o
only_end r is (Got n) o = absurd o

pub says_end : (piped : Buffer ℕ) (to : List ℕ) → Onward ReadsNothing ReadsNothing (Reads End piped piped to)
says_end piped to = λ r is. (
  r,
  is,
  record {
    took = [];
    takes = record {
      from_pipe = refl;
      room = refl;
      taken = sym (append-nil r.taken);
      framing = refl;
      front = nothing_front r is;
    };
    tells = (refl, nothing_ended r is);
    repeats = λ end o. (only_end r is end o, refl);
  },
)
