-- What holds of a stage goes on to hold over another port.
use Rattle.std.proofs.Common.{◌≡◌, ◌<◌, ◌≤◌, ℕ, true, false, List, [], ◌∷◌, length, Option, Some, None, refl, ap, ◌∙◌, arith}
use Rattle.circular_buffer.specs.Buffer.{Buffer}
use Rattle.tow_model.specs.declared.account.End.{End}
use Rattle.tow_model.specs.declared.statement.Statement.{Statement}
use Rattle.tow_semantics.specs.Files.{Files}
use Rattle.tow_exchange.specs.Exchanges.{ExchangeData}
use Rattle.tow_leads.specs.Ports.{PortData}
use Rattle.tow_stages.specs.Stages.{Base, Stage, answering, closing, ended, gathering, reading, refusing, walking}
use Rattle.tow_stages.specs.Moving.{IsTaking, IsWriting, over}
use Rattle.tow_turns.specs.Cuts.{IsLive, MayBeCut}
use Rattle.tow_turns.specs.Nexts.{CanRead, IsForWorker, IsOver, ReadsLink, end_in}
use Rattle.tow_turns.specs.Safe.{IsOpen, IsSafe}
use Rattle.tow_by_turns.specs.Turns.{live_rank}

-- ---- what kind of stage it is

pub reads_taking : (b : Base) (stage : Stage) → ReadsLink b stage → IsTaking stage
reads_taking b reading is = tt
reads_taking b (refusing left) is = is
reads_taking b (walking e) is = is
reads_taking b (gathering e g to_tell) is = tt
reads_taking b (answering d pieces closes drain) is = tt
reads_taking b (closing d owed end) is = is
reads_taking b (ended end) is = is

pub reads_live : (b : Base) (stage : Stage) → ReadsLink b stage → IsLive stage
reads_live b reading is = tt
reads_live b (refusing left) is = tt
reads_live b (walking e) is = tt
reads_live b (gathering e g to_tell) is = tt
reads_live b (answering d pieces closes drain) is = tt
reads_live b (closing d owed end) is = is
reads_live b (ended end) is = is

pub live_writing : (stage : Stage) → IsLive stage → IsWriting stage
live_writing reading is = tt
live_writing (refusing left) is = tt
live_writing (walking e) is = tt
live_writing (gathering e g to_tell) is = tt
live_writing (answering d pieces closes drain) is = tt
live_writing (closing d owed end) is = is
live_writing (ended end) is = is

pub worker_live : (stage : Stage) → IsForWorker stage → IsLive stage
worker_live reading is = tt
worker_live (refusing left) is = tt
worker_live (walking e) is = tt
worker_live (gathering e g to_tell) is = tt
worker_live (answering d pieces closes drain) is = tt
worker_live (closing d owed end) is = is
worker_live (ended end) is = is

pub live_is_one : (stage : Stage) → IsLive stage → live_rank stage ≡ 1
live_is_one reading is = refl
live_is_one (refusing left) is = refl
live_is_one (walking e) is = refl
live_is_one (gathering e g to_tell) is = refl
live_is_one (answering d pieces closes drain) is = refl
live_is_one (closing d owed end) is = absurd is
live_is_one (ended end) is = absurd is

pub end_is_none : (stage : Stage) (end : End) → end_in stage ≡ Some end → live_rank stage ≡ 0
end_is_none reading end is = cc
end_is_none (refusing left) end is = cc
end_is_none (walking e) end is = cc
end_is_none (gathering e g to_tell) end is = cc
end_is_none (answering d pieces closes drain) end is = cc
end_is_none (closing d owed None) end is = cc
end_is_none (closing d owed (Some how)) end is = refl
end_is_none (ended how) end is = refl

-- ---- that it stays safe

open_over : (tree : List Statement) (told : Option Files) (b : Base) (p : PortData) (e : ExchangeData) → IsOpen tree told b e
    → IsOpen tree told (over p b) e
open_over tree told b p e is = record {
  connection = is.connection;
  dated = is.dated;
  sendable = is.sendable;
  asks = is.asks;
  places = is.places;
}

-- the pipe of output is as it was
pub safe_over : (tree : List Statement) (told : Option Files) (b : Base) (p : PortData) (stage : Stage) → p.output ≡ b.port.output
    → IsSafe tree told b stage → IsSafe tree told (over p b) stage
safe_over tree told b p reading same is = ap (λ (x : Buffer ℕ). x.items) same ∙ is
safe_over tree told b p (refusing left) same is = tt
safe_over tree told b p (walking e) same (is, out) = (open_over tree told b p e is, ap (λ (x : Buffer ℕ). x.items) same ∙ out)
safe_over tree told b p (gathering e g to_tell) same is = record {
  open_so = open_over tree told b p e is.open_so;
  waits = is.waits;
  reading_so = is.reading_so;
  gathers = is.gathers;
}
safe_over tree told b p (answering d pieces closes drain) same is =
    record { parts = is.parts; fit = is.fit; drops = is.drops; places = is.places }
safe_over tree told b p (closing d owed None) same (places, out) = (places, ap (λ (x : Buffer ℕ). x.items) same ∙ out)
safe_over tree told b p (closing d owed (Some end)) same is = is
safe_over tree told b p (ended end) same is = tt

some_left : (l : List ℕ) → 0 < length l → l ≡ [] → ⊥
some_left [] some is = absurd (lit_none some) where
  lit_none : 0 < 0 → ⊥
  lit_none some = omega (arith, some)
some_left (x ∷ l) some is = cc

-- bytes are written that stand in the pipe of output
pub safe_written : (tree : List Statement) (told : Option Files) (b : Base) (p : PortData) (stage : Stage)
    → 0 < length b.port.output.items → IsLive stage → IsSafe tree told b stage → IsSafe tree told (over p b) stage
safe_written tree told b p reading some live is = absurd (some_left b.port.output.items some is)
safe_written tree told b p (refusing left) some live is = tt
safe_written tree told b p (walking e) some live (is, out) = absurd (some_left b.port.output.items some out)
safe_written tree told b p (gathering e g to_tell) some live is = record {
  open_so = open_over tree told b p e is.open_so;
  waits = is.waits;
  reading_so = is.reading_so;
  gathers = is.gathers;
}
safe_written tree told b p (answering d pieces closes drain) some live is =
    record { parts = is.parts; fit = is.fit; drops = is.drops; places = is.places }
safe_written tree told b p (closing d owed end) some live is = absurd live
safe_written tree told b p (ended end) some live is = absurd live

-- ---- that it may be cut

pub pooled_may_be_cut : (tree : List Statement) (told : Option Files) (b : Base) (stage : Stage) → IsSafe tree told b stage → IsForWorker stage
    → MayBeCut stage
pooled_may_be_cut tree told b reading safe is = tt
pooled_may_be_cut tree told b (refusing left) safe is = tt
pooled_may_be_cut tree told b (walking e) safe is = (safe.0.dated, is)
pooled_may_be_cut tree told b (gathering e g to_tell) safe is = safe.open_so.dated
pooled_may_be_cut tree told b (answering d pieces closes drain) safe is = tt
pooled_may_be_cut tree told b (closing d owed end) safe is = tt
pooled_may_be_cut tree told b (ended end) safe is = tt

pub reading_may_be_cut : (tree : List Statement) (told : Option Files) (b : Base) (stage : Stage) → IsSafe tree told b stage → ReadsLink b stage
    → MayBeCut stage
reading_may_be_cut tree told b reading safe is = tt
reading_may_be_cut tree told b (refusing left) safe is = tt
reading_may_be_cut tree told b (walking e) safe is = absurd is
reading_may_be_cut tree told b (gathering e g to_tell) safe is = safe.open_so.dated
reading_may_be_cut tree told b (answering d pieces closes drain) safe is = tt
reading_may_be_cut tree told b (closing d owed end) safe is = tt
reading_may_be_cut tree told b (ended end) safe is = tt

pub writing_may_be_cut : (tree : List Statement) (told : Option Files) (b : Base) (stage : Stage) → IsSafe tree told b stage
    → 0 < length b.port.output.items → MayBeCut stage
writing_may_be_cut tree told b reading safe some = tt
writing_may_be_cut tree told b (refusing left) safe some = tt
writing_may_be_cut tree told b (walking e) safe some = absurd (some_left b.port.output.items some safe.1)
writing_may_be_cut tree told b (gathering e g to_tell) safe some = safe.open_so.dated
writing_may_be_cut tree told b (answering d pieces closes drain) safe some = tt
writing_may_be_cut tree told b (closing d owed end) safe some = tt
writing_may_be_cut tree told b (ended end) safe some = tt

-- ---- a link that is to be read

pub reads_room : (b : Base) (stage : Stage) → ReadsLink b stage → CanRead b
reads_room b reading is = is
reads_room b (refusing left) is = absurd is
reads_room b (walking e) is = absurd is
reads_room b (gathering e g true) is = absurd is
reads_room b (gathering e g false) is = is
reads_room b (answering d [] closes (Some drain)) is = is
reads_room b (answering d [] closes None) is = absurd is
reads_room b (answering d (piece ∷ rest) closes drain) is = absurd is
reads_room b (closing d owed end) is = absurd is
reads_room b (ended end) is = absurd is

-- it is still to be read over a port that has the same to read
pub reads_over : (b : Base) (p : PortData) (stage : Stage) → CanRead (over p b) → ReadsLink b stage → ReadsLink (over p b) stage
reads_over b p reading can is = can
reads_over b p (refusing left) can is = is
reads_over b p (walking e) can is = is
reads_over b p (gathering e g true) can is = is
reads_over b p (gathering e g false) can is = can
reads_over b p (answering d [] closes (Some drain)) can is = can
reads_over b p (answering d [] closes None) can is = is
reads_over b p (answering d (piece ∷ rest) closes drain) can is = is
reads_over b p (closing d owed end) can is = is
reads_over b p (ended end) can is = is

-- ---- a connection that is to end

over_rank : (stage : Stage) → IsOver stage → live_rank stage ≡ 0
over_rank reading over_so = absurd over_so
over_rank (refusing left) over_so = absurd over_so
over_rank (walking e) over_so = absurd over_so
over_rank (gathering e g to_tell) over_so = absurd over_so
over_rank (answering d pieces closes drain) over_so = absurd over_so
over_rank (closing d owed None) over_so = absurd over_so
over_rank (closing d owed (Some end)) over_so = refl
over_rank (ended end) over_so = refl

rank_over : (stage : Stage) → live_rank stage ≡ 0 → IsOver stage
rank_over reading is = cc
rank_over (refusing left) is = cc
rank_over (walking e) is = cc
rank_over (gathering e g to_tell) is = cc
rank_over (answering d pieces closes drain) is = cc
rank_over (closing d owed None) is = cc
rank_over (closing d owed (Some end)) is = tt
rank_over (ended end) is = tt

pub over_is_none : (x y : Stage) → (IsOver x → IsOver y) → live_rank x ≡ 0 → live_rank y ≡ 0
over_is_none x y over_so is = over_rank y (over_so (rank_over x is))

pub rank_is_small : (stage : Stage) → live_rank stage ≤ 1
rank_is_small reading = omega arith
rank_is_small (refusing left) = omega arith
rank_is_small (walking e) = omega arith
rank_is_small (gathering e g to_tell) = omega arith
rank_is_small (answering d pieces closes drain) = omega arith
rank_is_small (closing d owed None) = omega arith
rank_is_small (closing d owed (Some end)) = omega arith
rank_is_small (ended end) = omega arith
