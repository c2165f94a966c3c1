-- What the panel is told of a link (R280 to R282): the totals of every class number at once, or those of one. Demand 1.
use Rattle.checks.specs.declared.Refusal.TheVariants.{NotSound}
use Rattle.std.specs.Prelude.{Bool, true, false, ◌≡◌, ℕ, length, Ok, Err}
use Rattle.checks.specs.Check.{Exactly, refusal_at}
use Rattle.state.specs.declared.Link.{Link}
use Rattle.state.specs.Queue.{bytes_in}
use Rattle.state.specs.State.{meaning, waiting_below, totals_of, no_totals}
use Rattle.sound.specs.Sound.{SoundLink}
use Rattle.calls.specs.declared.PanelTotals.{PanelTotals}
use Rattle.calls.specs.declared.ClassTotals.{ClassTotals}

-- of a sound link, what waits at the leaves at or below each class number, and the running total; of any other, 11 at 0, and all numbers 0
-- (R280, R281, R308)
abbrev pub panel_gives : Bool → Link → PanelTotals
panel_gives true l = record { verdict = Ok tt; totals = totals_of l.tree (meaning l).queues l.totals.charged }
panel_gives false l = record { verdict = Err (refusal_at NotSound 0); totals = no_totals }

pub record TellsTotals (l : Link) (r : PanelTotals) : Type 0 where
  pub sound : Bool
  pub exactly : Exactly sound (SoundLink l)
  pub answer : r ≡ panel_gives sound l

-- the same of one class number, any number: at or below one that is no class there is no leaf, so it has 0 and 0 (R281, R282)
abbrev pub class_gives : Bool → Link → ℕ → ClassTotals
class_gives true l i = record {
  verdict = Ok tt;
  packets = waiting_below length l.tree (meaning l).queues i;
  bytes = record { 0 = waiting_below bytes_in l.tree (meaning l).queues i };
}
class_gives false l i = record { verdict = Err (refusal_at NotSound 0); packets = 0; bytes = record { 0 = 0 } }

pub record TellsClass (l : Link) (i : ℕ) (r : ClassTotals) : Type 0 where
  pub sound : Bool
  pub exactly : Exactly sound (SoundLink l)
  pub answer : r ≡ class_gives sound l i
