-- Rounds of a turn, one after another.
use Rattle.std.proofs.Common.{◌≡◌, ◌⊎◌, inl, inr, ◌<◌, ◌≤◌, ◌+◌, ◌-◌, ◌*◌, ℕ, zero, suc, Bool, List, if◌then◌else◌, Option, Some, refl, sym, subst, ◌∙◌, arith}
use Rattle.std.specs.Prelude.{IfSome}
use Rattle.std.specs.Global.{Vec}
use Rattle.tow_model.specs.declared.account.Role.{Role}
use Rattle.tow_model.specs.declared.account.End.{End}
use Rattle.tow_model.specs.declared.account.End.TheVariants.{Done, FolderFault, LinkFault, NoMemory}
use Rattle.tow_model.specs.declared.statement.Statement.{Statement}
use Rattle.tow_semantics.specs.Files.{Files}
use Rattle.tow_peer.specs.Links.{LinkData, NeverFall}
use Rattle.tow_stages.specs.Stages.{Base, Stage}
use Rattle.tow_turns.specs.Nexts.{KeepsLink, end_in}
use Rattle.tow_turns.specs.Safe.{IsSafe}
use Rattle.tow_turns.specs.declared.turn.Turn.{Turn}
use Rattle.tow_turns.specs.declared.turn.Turn.TheVariants.{AskLimit, Ended, Idle, Release, Spent, ToLoop, ToPool}
use Rattle.tow_by_turns.specs.Needs.{Goes}
use Rattle.tow_by_turns.specs.Turns.{EndsSo, IsAnswer, IsAnswerIf, IsTurnEnd, KeepsHops, RoundFits, TurnFits, live_rank, turn_left}
use Rattle.tow_by_turns.specs.declared.linking.TheConstants.{TURN_LEN}
use Rattle.tow_by_turns.specs.declared.need.Need.{Need}
use Rattle.tow_by_turns.proofs.Further.{never_further, turn_ends, turn_ends_further}
use Rattle.tow_by_turns.proofs.Links.{never_falls}
use Rattle.tow_by_turns.proofs.Stages.{over_is_none, rank_is_small}

-- So far rounds have led.
pub record Round (tree : List Statement) (told : Option Files) (n n' : ℕ) (old new : Base) (before after : Stage) : Type 0 where
  pub safe : IsSafe tree told new after
  pub number : new.number ≡ old.number
  pub later : NeverFall old.port.link new.port.link
  pub ends_so : EndsSo old.port.link new.port.link n n' before after

pub round_none : (tree : List Statement) (told : Option Files) (n : ℕ) (b : Base) (stage : Stage) → IsSafe tree told b stage
    → Round tree told n n b b stage stage
round_none tree told n b stage safe = record { safe = safe; number = refl; later = never_falls b.port.link; ends_so = λ end is. inl is }

pub round_on : (role : Role) (tree : List Statement) (told : Option Files) (n m n' : ℕ) (a b c : Base) (x y z : Stage) (moved moved' : ℕ)
    (answer : Option Turn) → n ≤ m → m ≤ n' → Round tree told n m a b x y → RoundFits role tree told m n' b c y z moved moved' answer
    → Round tree told n n' a c x z
round_on role tree told n m n' a b c x y z moved moved' answer one two sofar fits = record {
  safe = fits.safe;
  number = fits.number ∙ sofar.number;
  later = never_further a.port.link b.port.link c.port.link sofar.later fits.later;
  ends_so = turn_ends_further a.port.link b.port.link c.port.link n m n' x y z sofar.later fits.later one two sofar.ends_so fits.ends_so;
}

-- a round under the same text and files, by the same number
pub reround : (role : Role) (tree tree' : List Statement) (told told' : Option Files) (faults faults' : ℕ → ℕ) (k k' : ℕ) (b c : Base)
    (y z : Stage) (moved moved' : ℕ) (answer : Option Turn) → tree ≡ tree' → told ≡ told' → k ≡ k'
    → RoundFits role tree told (faults k) (faults' k) b c y z moved moved' answer
    → RoundFits role tree' told' (faults k') (faults' k') b c y z moved moved' answer
reround role tree tree' told told' faults faults' k k' b c y z moved moved' answer same_tree same_told same_k fits =
    subst (λ (n : ℕ). RoundFits role tree' told' (faults n) (faults' n) b c y z moved moved' answer) same_k
    (subst (λ (d : Option Files). RoundFits role tree' d (faults k) (faults' k) b c y z moved moved' answer) same_told
    (subst (λ (t : List Statement). RoundFits role t told (faults k) (faults' k) b c y z moved moved' answer) same_tree fits))

-- what is answered in a later round
answer_further : (role : Role) (a b : LinkData) (c : Base) (stage : Stage) (turn : Turn) → NeverFall a b → IsAnswer role b c stage turn
    → IsAnswer role a c stage turn
answer_further role a b c stage Idle later (loop, inl (rose, some, live)) =
    let w = later.write_stalls in
    (loop, inl (omega (arith, w, rose), some, live))
answer_further role a b c stage Idle later (loop, inr (rose, out, reads)) =
    let r = later.read_stalls in
    (loop, inr (omega (arith, r, rose), out, reads))
answer_further role a b c stage (AskLimit limit) later is = is
answer_further role a b c stage (Release limit) later is = is
answer_further role a b c stage ToPool later is = is
answer_further role a b c stage ToLoop later is = is
answer_further role a b c stage Spent later is = is
answer_further role a b c stage (Ended end) later is = is

pub turn_after : (role : Role) (tree : List Statement) (told : Option Files) (n m n' : ℕ) (a b c : Base) (x y z : Stage) (moved moved' : ℕ)
    (answer : Option Turn) (turn : Turn) → answer ≡ Some turn → n ≤ m → m ≤ n' → Round tree told n m a b x y
    → RoundFits role tree told m n' b c y z moved moved' answer → TurnFits role tree told n n' a c x z turn
turn_after role tree told n m n' a b c x y z moved moved' answer turn is one two sofar fits =
    let r = round_on role tree told n m n' a b c x y z moved moved' answer one two sofar fits in
    record {
      safe = r.safe;
      answers = answer_further role a.port.link b.port.link c z turn sofar.later
          (subst (λ (o : Option Turn). IsAnswerIf role b.port.link c z o) is fits.answers);
      number = r.number;
      later = r.later;
      ends_so = r.ends_so;
    }

-- ---- steps, and then a call of the link

-- what is left of a turn does not grow by steps
steps_left : (moved : ℕ) (a b : Base) (x y : Stage) → KeepsLink a b → (live_rank x ≡ 0 → live_rank y ≡ 0)
    → turn_left TURN_LEN moved b y ≤ turn_left TURN_LEN moved a x
steps_left moved a b x y keeps over =
    subst (λ (e : Bool). 4 * (TURN_LEN - moved) + (if e then 0 else 2) + live_rank y ≤ turn_left TURN_LEN moved a x) (sym keeps.ended_so)
    (ranks (live_rank x) (live_rank y) (rank_is_small x) (rank_is_small y) over)
  where
    ranks : (r r' : ℕ) → r ≤ 1 → r' ≤ 1 → (r ≡ 0 → r' ≡ 0)
        → 4 * (TURN_LEN - moved) + (if a.port.ended then 0 else 2) + r' ≤ 4 * (TURN_LEN - moved) + (if a.port.ended then 0 else 2) + r
    ranks zero r' small small' if_none = let none = if_none refl in omega (arith, none)
    ranks (suc r) r' small small' if_none = omega (arith, small')

-- with no folder no fault of it comes
zero_end : (l l' : LinkData) (n : ℕ) (end : End) → IsTurnEnd l l' 0 0 end → IsTurnEnd l l' n n end
zero_end l l' n Done is = tt
zero_end l l' n LinkFault is = is
zero_end l l' n FolderFault is = absurd (none is) where
  none : 0 < 0 → ⊥
  none rose = omega (arith, rose)
zero_end l l' n NoMemory is = tt

pub steps_then : (role : Role) (spent : Bool) (tree : List Statement) (told : Option Files) (n n' : ℕ) (a b c : Base) (x y z : Stage)
    (need : Need) (moved moved' : ℕ) (answer : Option Turn) → n ≤ n' → Goes role spent tree told n n' a b x y need
    → RoundFits role tree told 0 0 b c y z moved moved' answer → RoundFits role tree told n n' a c x z moved moved' answer
steps_then role spent tree told n n' a b c x y z need moved moved' answer rises goes fits = record {
  safe = fits.safe;
  answers = subst (λ (l : LinkData). IsAnswerIf role l c z answer) goes.keeps.link fits.answers;
  nearer = λ none. let left = steps_left moved a b x y goes.keeps (over_is_none x y goes.stays_over) in
      let near = fits.nearer none in omega (arith, left, near);
  number = fits.number ∙ goes.keeps.number;
  later = subst (λ (l : LinkData). NeverFall l c.port.link) goes.keeps.link fits.later;
  ends_so = turn_ends_further a.port.link b.port.link c.port.link n n' n' x y z same fits.later rises (omega arith)
      (turn_ends a.port.link b.port.link n n' x y goes.ends_so) (λ end is. by_zero end (fits.ends_so end is));
} where
  same : NeverFall a.port.link b.port.link
  same = subst (λ (l : LinkData). NeverFall a.port.link l) (sym goes.keeps.link) (never_falls a.port.link)

  by_zero : (end : End) → (end_in y ≡ Some end) ⊎ IsTurnEnd b.port.link c.port.link 0 0 end
      → (end_in y ≡ Some end) ⊎ IsTurnEnd b.port.link c.port.link n' n' end
  by_zero end (inl kept) = inl kept
  by_zero end (inr own) = inr (zero_end b.port.link c.port.link n' end own)

-- ---- who held it

pub hops_kept : (hops : Vec Role) (answer : Option Turn) → (answer ≡ Some ToPool → ⊥) → KeepsHops hops hops answer
hops_kept hops answer other = record { items = refl; places = omega arith; pooled = λ is. absurd (other is) }

pub hops_on : (a b c : Vec Role) (first second : Option Turn) → KeepsHops a b first → KeepsHops b c second → KeepsHops a c second
hops_on a b c first second one two =
    let p1 = one.places in
    let p2 = two.places in
    record { items = two.items ∙ one.items; places = omega (arith, p1, p2); pooled = two.pooled }

-- a call of the link answers `Idle`, if anything
pub idle_pools_not : (answer : Option Turn) → IfSome answer (λ (turn : Turn). turn ≡ Idle) → answer ≡ Some ToPool → ⊥
idle_pools_not answer idle is = let wrong : ToPool ≡ Idle = subst (λ (o : Option Turn). IfSome o (λ (turn : Turn). turn ≡ Idle)) is idle in cc
