-- What a drain has dropped so far, call by call.
use Rattle.std.proofs.Common.{◌≡◌, ℕ, List, [], ◌++◌, refl, sym, ap, ◌∙◌, subst, append_assoc, append-nil}
use Rattle.circular_buffer.specs.Buffer.{Buffer}
use Rattle.tow_source.specs.declared.body.Body.{Body}
use Rattle.tow_source.specs.declared.body.Body.TheVariants.{Got}
use Rattle.tow_source.specs.declared.body.Drained.{Drained}
use Rattle.tow_source.specs.declared.body.Drained.TheVariants as Drains
use Rattle.tow_source.specs.Readings.{Reading, IsOver, Reads, Onward, DrainsPipe, answer_of, DrainTells}

-- bytes were taken, and where the reading was over nothing has changed
pub record Dropped (piped piped' : Buffer ℕ) (old new : Reading) : Type 0 where
  pub took : List ℕ
  pub from_pipe : piped.items ≡ took ++ piped'.items
  pub room : piped'.capacity ≡ piped.capacity
  pub taken : new.taken ≡ old.taken ++ took
  pub framing : new.framing ≡ old.framing
  pub again : (end : Body) → IsOver old end → IsOver new end × (piped' ≡ piped)

pub nothing_dropped : (piped : Buffer ℕ) (P : Reading → Type 0) → Onward P P (Dropped piped piped)
nothing_dropped piped P = λ r is. (
  r,
  is,
  record {
    took = [];
    from_pipe = refl;
    room = refl;
    taken = sym (append-nil r.taken);
    framing = refl;
    again = λ end o. (o, refl);
  },
)

joined : (a b c x y : List ℕ) → a ≡ x ++ b → b ≡ y ++ c → a ≡ (x ++ y) ++ c
joined a b c x y e f = e ∙ ap (λ (l : List ℕ). x ++ l) f ∙ sym (append_assoc x y c)

grown : (a b c x y : List ℕ) → b ≡ a ++ x → c ≡ b ++ y → c ≡ a ++ (x ++ y)
grown a b c x y e f = f ∙ ap (λ (l : List ℕ). l ++ y) e ∙ append_assoc a x y

pub more_dropped : (n : ℕ) (piped piped' piped'' : Buffer ℕ) (to : List ℕ) (P Q R : Reading → Type 0)
    → Onward P Q (Dropped piped piped') → Onward Q R (Reads (Got n) piped' piped'' to) → Onward P R (Dropped piped piped'')
more_dropped n piped piped' piped'' to P Q R before step = λ r is.
    let one = before r is in
    let two = step one.0 one.1 in
    let d = one.2 in
    let s = two.2 in (
      two.0,
      two.1,
      record {
        took = d.took ++ s.took;
        from_pipe = joined piped.items piped'.items piped''.items d.took s.took d.from_pipe s.takes.from_pipe;
        room = s.takes.room ∙ d.room;
        taken = grown r.taken one.0.taken two.0.taken d.took s.took d.taken s.takes.taken;
        framing = s.takes.framing ∙ d.framing;
        again = λ end o.
            let now = (d.again end o).0 in
            absurd (subst (λ (e : Body). IsOver one.0 e) (sym (s.repeats end now).0) now);
      },
    )

drain_tells : (answer : Drained) (took : List ℕ) (piped' : Buffer ℕ) (to : List ℕ) (old new : Reading) (piped : Buffer ℕ)
    → Reads (answer_of answer) piped piped' to old new → DrainTells answer piped' new
drain_tells Drains.Whole took piped' to old new piped s = s.tells.1
drain_tells Drains.NotYet took piped' to old new piped s = (s.tells.1, s.tells.2)
drain_tells Drains.Bad took piped' to old new piped s = s.tells.1
drain_tells Drains.TooLong took piped' to old new piped s = s.tells.1

pub drained : (answer : Drained) (piped piped' piped'' : Buffer ℕ) (to : List ℕ) (P Q R : Reading → Type 0)
    → Onward P Q (Dropped piped piped') → Onward Q R (Reads (answer_of answer) piped' piped'' to)
    → Onward P R (DrainsPipe answer piped piped'')
drained answer piped piped' piped'' to P Q R before step = λ r is.
    let one = before r is in
    let two = step one.0 one.1 in
    let d = one.2 in
    let s = two.2 in (
      two.0,
      two.1,
      record {
        took = d.took ++ s.took;
        takes = record {
          from_pipe = joined piped.items piped'.items piped''.items d.took s.took d.from_pipe s.takes.from_pipe;
          room = s.takes.room ∙ d.room;
          taken = grown r.taken one.0.taken two.0.taken d.took s.took d.taken s.takes.taken;
          framing = s.takes.framing ∙ d.framing;
          front = s.takes.front;
        };
        tells = drain_tells answer s.took piped'' to one.0 two.0 piped' s;
        repeats = λ end o.
            let was = d.again end o in
            let now = s.repeats end was.0 in
            (now.0, now.1 ∙ was.1);
      },
    )
