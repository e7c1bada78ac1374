-- A connection that has noted a call, or has more places for calls, is where it was.
use Rattle.std.proofs.Common.{◌≡◌, ◌≤◌, ℕ, Bool, List, sym, subst, arith}
use Rattle.tow_model.specs.declared.account.Call.{Call}
use Rattle.tow_model.specs.declared.account.End.{End}
use Rattle.tow_model.specs.declared.account.End.TheVariants.{Done, FolderFault, LinkFault, NoMemory}
use Rattle.tow_model.specs.declared.statement.Statement.{Statement}
use Rattle.tow_exchange.specs.Exchanges.{ExchangeData}
use Rattle.tow_progress.specs.Progress.{Progress, Origin}
use Rattle.tow_progress.specs.Accounts.{Tally}
use Rattle.tow_leads.specs.Ports.{PortData}
use Rattle.tow_states.specs.Known.{Setting}
use Rattle.tow_states.specs.Calling.{HasPlaces}
use Rattle.tow_stages.specs.Stages.{Base, Stage, answering, closing, ended, gathering, reading, refusing, walking}
use Rattle.tow_stages.specs.Holding.{HasEnded, Holds, HoldsAt, IsServed}

-- with so many places
abbrev pub roomy : ℕ → Base → Base
roomy room b = record b { room = room }

more_places : (tree : List Statement) (room room' : ℕ) (t : Tally) (e : ExchangeData) (asks : ℕ) → room ≤ room' → HasPlaces tree room t e asks
    → HasPlaces tree room' t e asks
more_places tree room room' t e asks more has = record { asks_few = has.asks_few; places = omega (arith, more, has.places) }

served_still : (s : Setting) (b : Base) (room : ℕ) (e : ExchangeData) (c : Progress) (t : Tally) → b.room ≤ room → IsServed s b e c t
    → IsServed s (roomy room b) e c t
served_still s b room e c t more is = record {
  sendable = is.sendable;
  begun = is.begun;
  asks = is.asks;
  places = more_places s.tree b.room room t e is.asks more is.places;
}

done_still : (end : End) (s : Setting) (o : Origin) (b : Base) (room : ℕ) (c : Progress) (t : Tally) → HasEnded end s o b c t
    → HasEnded end s o (roomy room b) c t
done_still Done s o b room c t is = record { thing = is.thing; is = is.is; written = is.written; begun = is.begun }
done_still LinkFault s o b room c t is = record { at = is.at; is = is.is; begun = is.begun }
done_still FolderFault s o b room c t is = record { at = is.at; is = is.is; begun = is.begun }
done_still NoMemory s o b room c t is = record { at = is.at; is = is.is; begun = is.begun }

holds_still : (failed : Bool) (s : Setting) (o : Origin) (b : Base) (room : ℕ) (stage : Stage) (c : Progress) (t : Tally) → b.room ≤ room
    → HoldsAt failed s o b stage c t → HoldsAt failed s o (roomy room b) stage c t
holds_still failed s o b room reading c t more (is, quiet) = (record { is = is.is; begun = is.begun }, quiet)
holds_still failed s o b room (refusing left) c t more (is, quiet) =
    (record { status = is.status; is = is.is; begun = is.begun }, quiet)
holds_still failed s o b room (walking e) c t more (is, quiet) =
    (record { course = is.course; is = is.is; served = served_still s b room e c t more is.served }, quiet)
holds_still failed s o b room (gathering e g to_tell) c t more (is, quiet) =
    (record { course = is.course; is = is.is; served = served_still s b room e c t more is.served }, quiet)
holds_still failed s o b room (answering d pieces closes drain) c t more (is, quiet) = (
  record {
    exchange = is.exchange;
    course = is.course;
    took = is.took;
    is = is.is;
    work = is.work;
    there = is.there;
    closes_so = is.closes_so;
    drops = is.drops;
    begun = is.begun;
    places = omega (arith, more, is.places);
  },
  quiet,
)
holds_still failed s o b room (closing d owed end) c t more (is, quiet) = (
  record {
    exchange = is.exchange;
    course = is.course;
    onward = is.onward;
    is = is.is;
    follows = is.follows;
    written = is.written;
    begun = is.begun;
    places = omega (arith, more, is.places);
  },
  quiet,
)
holds_still failed s o b room (ended end) c t more (is, quiet) = (done_still end s o b room c t is, quiet)

-- more places hurt nothing
pub roomier : (failed : Bool) (s : Setting) (o : Origin) (b : Base) (room : ℕ) (stage : Stage) (c : Progress) (t : Tally) → b.room ≤ room
    → Holds failed s o b stage c t → Holds failed s o (roomy room b) stage c t
roomier failed s o b room stage c t more h = record {
  is_at = record { number = h.is_at.number; port = h.is_at.port; calls = h.is_at.calls; all = h.is_at.all };
  holds = holds_still failed s o b room stage c t more h.holds;
}

-- a base with the same fields, and more places
pub rebased : (failed : Bool) (s : Setting) (o : Origin) (b b' : Base) (stage : Stage) (c : Progress) (t : Tally) → b'.number ≡ b.number
    → b'.begun ≡ b.begun → b'.port ≡ b.port → b'.calls ≡ b.calls → b'.silent ≡ b.silent → b.room ≤ b'.room → Holds failed s o b stage c t
    → Holds failed s o b' stage c t
rebased failed s o b b' stage c t number begun port calls silent more h =
    subst (λ (n : ℕ). Holds failed s o (record b' { number = n }) stage c t) (sym number)
    (subst (λ (n : ℕ). Holds failed s o (record b' { number = b.number; begun = n }) stage c t) (sym begun)
    (subst (λ (p : PortData). Holds failed s o (record b' { number = b.number; begun = b.begun; port = p }) stage c t) (sym port)
    (subst (λ (l : List Call). Holds failed s o (record b' { number = b.number; begun = b.begun; port = b.port; calls = l }) stage c t) (sym calls)
    (subst (λ (x : Bool). Holds failed s o (record b' { number = b.number; begun = b.begun; port = b.port; calls = b.calls; silent = x }) stage c t) (sym silent)
    (roomier failed s o b b'.room stage c t more h)))))
