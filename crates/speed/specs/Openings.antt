-- What the timed loop of openings does: a packet offered to every class of a link, then a round opened so many times over.
use Rattle.std.specs.Prelude.{ℕ, zero, suc, true, cond, not, ◌&&◌, List}
use Rattle.state.specs.declared.Link.{Link}
use Rattle.state.specs.declared.Packet.{Packet}
use Rattle.state.specs.declared.Totals.{Totals}
use Rattle.state.specs.Account.{balance_of}
use Rattle.rules.specs.After.{opened_link}
use Rattle.calls.specs.Arrival.{arrival_of}
use Rattle.run.specs.declared.Step.{Step}

-- the packet that is offered
abbrev pub one_packet : Packet
one_packet = record { length = 1; tag = 0 }

-- the link when it has been offered to the classes 1 to n; a class that is no leaf refuses it
unfoldable pub offered_to : ℕ → Link → Link
offered_to zero l = l
offered_to (suc n) l = (arrival_of true (offered_to n l) (suc n) one_packet).link

-- the link when a round has been opened on it n times over
unfoldable pub opened_times : ℕ → Link → Link
opened_times zero l = l
opened_times (suc n) l = opened_link (opened_times n l)

-- the root's balance when a packet has been offered to every class and then n rounds have been opened
unfoldable pub root_left : Link → ℕ → ℕ
root_left l n = balance_of (opened_times n (offered_to 63 l)).round.accounts 0

-- the same on the fresh link of a plan; 0 where the plan is refused, or is one of rule 2
abbrev pub left_after : Step → ℕ → ℕ
left_after s n = cond (s.more && not s.link.tree.follows) (root_left s.link n) 0

-- what an opening does not see of its link
pub record Rest : Type 0 where
  pub active : ℕ
  pub place : ℕ
  pub start : List ℕ
  pub lengths : List ℕ
  pub tags : List ℕ
  pub marks : List ℕ
  pub totals : Totals
