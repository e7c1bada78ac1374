-- How a connection begins, and what its end tells.
use Rattle.std.specs.Prelude.{◌≡◌, ◌≤◌, ℕ, Bool, true, false, List, [], Some}
use Rattle.std.specs.Vec.{vec_capacity}
use Rattle.tow_model.specs.declared.account.Account.{Account}
use Rattle.tow_model.specs.declared.account.End.{End}
use Rattle.tow_link.specs.Data.{Told}
use Rattle.tow_peer.specs.Links.{LinkData}
use Rattle.tow_progress.specs.Progress.{Progress}
use Rattle.tow_progress.specs.Accounts.{Tally}
use Rattle.tow_progress.specs.Ended.{Seen}
use Rattle.tow_stages.specs.Stages.{Stage, ended}
use Rattle.tow_turns.specs.declared.stage.Stage.TheVariants as stage
use Rattle.tow_by_turns.specs.declared.conn.Conn.{Conn}

-- A link that tells its peer and its input, and to which nothing was written.
pub record IsUnused (link : LinkData) (peer : ℕ) (input : List ℕ) : Type 0 where
  pub peer_is : link.peer ≡ Some peer
  pub told : Told
  pub tells : link.input ≡ Some told
  pub left : told.left ≡ input
  pub written : link.written ≡ Some []

-- A new connection of this number over the link: its first head is read, and there are places for two hops.
pub record IsNew {L : Type 0} (k : ℕ) (link : L) (c : Conn L) : Type 0 where
  pub number : c.base.number ≡ k
  pub begun : c.base.begun ≡ 0
  pub link_is : c.base.port.link ≡ link
  pub piped_in : c.base.port.input.items ≡ []
  pub open_so : c.base.port.ended ≡ false
  pub piped_out : c.base.port.output.items ≡ []
  pub calls : c.base.calls.items ≡ []
  pub puts_lines : c.base.silent ≡ false
  pub stage_is : c.stage ≡ stage.Reading
  pub hops : c.hops.items ≡ []
  pub places : 2 ≤ vec_capacity c.hops

-- What its end tells.
pub record IsAccountOf {L : Type 0} (c : Conn L) (end : End) (account : Account) : Type 0 where
  pub end_is : account.end ≡ end
  pub exchanges : account.exchanges ≡ c.base.begun
  pub calls : account.calls ≡ c.base.calls.items
  pub hops : account.hops ≡ c.hops.items

-- it has ended
abbrev pub HasEnded : Stage → Type 0
HasEnded (ended end) = Unit {0}
HasEnded other = ⊥

-- This is seen of a connection that came so far and has this account: what its link took, the lines that it put, and whether its
-- log has failed for it.
pub record IsSeenAfter (failed : Bool) (c : Progress) (t : Tally) (account : Account) (seen : Seen) : Type 0 where
  pub account_is : seen.account ≡ account
  pub written : seen.written ≡ c.written
  pub lines : seen.lines ≡ t.lines
  pub logged : seen.logged ≡ true → failed ≡ false
