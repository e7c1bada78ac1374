-- What a gathering has collected so far, call by call of its source.
use Rattle.std.proofs.Common.{◌≡◌, ℕ, List, [], ◌++◌, take, refl, sym, ap, ap₂, ◌∙◌, subst, append_assoc, append-nil}
use Rattle.circular_buffer.specs.Buffer.{Buffer}
use Rattle.tow_model.specs.declared.content.Content.TheVariants as Contents
use Rattle.tow_message.specs.Contents.{IsContent}
use Rattle.tow_source.specs.declared.body.Body.{Body}
use Rattle.tow_source.specs.declared.body.Body.TheVariants as Bodies
use Rattle.tow_source.specs.Readings.{Reading, Takes, Tells, Reads, Onward}
use Rattle.tow_content.specs.declared.source.ContentSource.{ContentSource}
use Rattle.tow_content.specs.declared.gathering.Gathered.{Gathered}
use Rattle.tow_content.specs.declared.gathering.Gathered.TheVariants.{Content, NotYet, NoMemory}
use Rattle.tow_content.specs.declared.gathering.Gathering.{Gathering}
use Rattle.tow_content.specs.Sources.{ReadsContent}
use Rattle.tow_content.specs.Gatherings.{Gathers, GathersPipe, GatherTells, StandsFor}

-- bytes were taken from the front of the pipe
pub record Took (piped piped' : Buffer ℕ) (old new : Reading) : Type 0 where
  pub took : List ℕ
  pub from_pipe : piped.items ≡ took ++ piped'.items
  pub room : piped'.capacity ≡ piped.capacity
  pub taken : new.taken ≡ old.taken ++ took
  pub framing : new.framing ≡ old.framing

pub nothing_took : (piped : Buffer ℕ) (P : Reading → Type 0) → Onward P P (Took piped piped)
nothing_took piped P = λ r is. (
  r,
  is,
  record {
    took = [];
    from_pipe = refl;
    room = refl;
    taken = sym (append-nil r.taken);
    framing = refl;
  },
)

-- what one call took before and one took then
joined : (a b c x y : List ℕ) → a ≡ x ++ b → b ≡ y ++ c → a ≡ (x ++ y) ++ c
joined a b c x y e f = e ∙ ap (λ (l : List ℕ). x ++ l) f ∙ sym (append_assoc x y c)

grown : (a b c x y : List ℕ) → b ≡ a ++ x → c ≡ b ++ y → c ≡ a ++ (x ++ y)
grown a b c x y e f = f ∙ ap (λ (l : List ℕ). l ++ y) e ∙ append_assoc a x y

pub took_more : (n : ℕ) (piped piped' piped'' : Buffer ℕ) (to : List ℕ) (P : Reading → Type 0) (g g' : Gathering)
    → Onward P (Gathers g) (Took piped piped')
    → Onward (ReadsContent g.source) (ReadsContent g'.source) (Reads (Bodies.Got n) piped' piped'' to)
    → g'.bytes.items ≡ g.bytes.items ++ take n to
    → Onward P (Gathers g') (Took piped piped'')
took_more n piped piped' piped'' to P g g' before step added = λ r is.
    let one = before r is in
    let two = step one.0 one.1.reads in
    let d = one.2 in
    let s = two.2 in (
      two.0,
      record { reads = two.1; bytes = added ∙ ap (λ (l : List ℕ). l ++ take n to) one.1.bytes ∙ sym s.tells },
      record {
        took = d.took ++ s.took;
        from_pipe = joined piped.items piped'.items piped''.items d.took s.took d.from_pipe s.takes.from_pipe;
        room = s.takes.room ∙ d.room;
        taken = grown r.taken one.0.taken two.0.taken d.took s.took d.taken s.takes.taken;
        framing = s.takes.framing ∙ d.framing;
      },
    )

-- the source's last answer gives that of the gathering
gathered : (answer : Gathered) (body : Body) (piped piped' piped'' : Buffer ℕ) (to : List ℕ) (P : Reading → Type 0)
    (g after : Gathering) (source : ContentSource)
    → Onward P (Gathers g) (Took piped piped')
    → Onward (ReadsContent g.source) (ReadsContent source) (Reads body piped' piped'' to)
    → ((old new : Reading) → Gathers g old → ReadsContent source new → Tells body piped'' to old new
    → StandsFor answer after new × GatherTells answer piped'' new)
    → Onward P (StandsFor answer after) (GathersPipe answer piped piped'')
gathered answer body piped piped' piped'' to P g after source before step says = λ r is.
    let one = before r is in
    let two = step one.0 one.1.reads in
    let d = one.2 in
    let s = two.2 in
    let said = says one.0 two.0 one.1 two.1 s.tells in (
      two.0,
      said.0,
      record {
        took = d.took ++ s.took;
        takes = record {
          from_pipe = joined piped.items piped'.items piped''.items d.took s.took d.from_pipe s.takes.from_pipe;
          room = s.takes.room ∙ d.room;
          taken = grown r.taken one.0.taken two.0.taken d.took s.took d.taken s.takes.taken;
          framing = s.takes.framing ∙ d.framing;
          front = s.takes.front;
        };
        tells = said.1;
      },
    )

pub says_whole : (piped piped' piped'' : Buffer ℕ) (to bytes : List ℕ) (P : Reading → Type 0) (g after : Gathering)
    (source : ContentSource)
    → Onward P (Gathers g) (Took piped piped')
    → Onward (ReadsContent g.source) (ReadsContent source) (Reads Bodies.End piped' piped'' to)
    → bytes ≡ g.bytes.items
    → Onward P (StandsFor (Content (Contents.Whole bytes)) after) (GathersPipe (Content (Contents.Whole bytes)) piped piped'')
says_whole piped piped' piped'' to bytes P g after source before step all =
    gathered (Content (Contents.Whole bytes)) Bodies.End piped piped' piped'' to P g after source before step
    (λ old new is is' tells.
    let same : new.given ≡ bytes = tells.0 ∙ sym is.bytes ∙ sym all in (
      tt,
      subst (λ (l : List ℕ). IsContent new.framing new.taken (Contents.Whole l)) same tells.1,
    ))

pub says_bad : (piped piped' piped'' : Buffer ℕ) (to : List ℕ) (P : Reading → Type 0) (g after : Gathering)
    (source : ContentSource)
    → Onward P (Gathers g) (Took piped piped')
    → Onward (ReadsContent g.source) (ReadsContent source) (Reads Bodies.Bad piped' piped'' to)
    → Onward P (StandsFor (Content Contents.Bad) after) (GathersPipe (Content Contents.Bad) piped piped'')
says_bad piped piped' piped'' to P g after source before step =
    gathered (Content Contents.Bad) Bodies.Bad piped piped' piped'' to P g after source before step
    (λ old new is is' tells. (tt, tells.1))

pub says_too_long : (piped piped' piped'' : Buffer ℕ) (to : List ℕ) (P : Reading → Type 0) (g after : Gathering)
    (source : ContentSource)
    → Onward P (Gathers g) (Took piped piped')
    → Onward (ReadsContent g.source) (ReadsContent source) (Reads Bodies.TooLong piped' piped'' to)
    → Onward P (StandsFor (Content Contents.TooLong) after) (GathersPipe (Content Contents.TooLong) piped piped'')
says_too_long piped piped' piped'' to P g after source before step =
    gathered (Content Contents.TooLong) Bodies.TooLong piped piped' piped'' to P g after source before step
    (λ old new is is' tells. (tt, tells.1))

pub says_no_memory : (n : ℕ) (piped piped' piped'' : Buffer ℕ) (to : List ℕ) (P : Reading → Type 0) (g after : Gathering)
    (source : ContentSource)
    → Onward P (Gathers g) (Took piped piped')
    → Onward (ReadsContent g.source) (ReadsContent source) (Reads (Bodies.Got n) piped' piped'' to)
    → Onward P (StandsFor NoMemory after) (GathersPipe NoMemory piped piped'')
says_no_memory n piped piped' piped'' to P g after source before step =
    gathered NoMemory (Bodies.Got n) piped piped' piped'' to P g after source before step
    (λ old new is is' tells. (tt, tt))

pub says_not_yet : (piped piped' piped'' : Buffer ℕ) (to : List ℕ) (P : Reading → Type 0) (g after : Gathering)
    → Onward P (Gathers g) (Took piped piped')
    → Onward (ReadsContent g.source) (ReadsContent after.source) (Reads Bodies.NotYet piped' piped'' to)
    → after.bytes.items ≡ g.bytes.items
    → Onward P (StandsFor NotYet after) (GathersPipe NotYet piped piped'')
says_not_yet piped piped' piped'' to P g after before step same =
    gathered NotYet Bodies.NotYet piped piped' piped'' to P g after after.source before step
    (λ old new is is' tells. (
      record { reads = is'; bytes = same ∙ is.bytes ∙ sym tells.0 },
      (tells.1, tells.2),
    ))
