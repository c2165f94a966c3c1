-- `leaf::next_leaf` meets its contract.
use mathlib.Core.Path.{sym, ◌∙◌}
use Prim.Native.Nat.{◌<◌}
use native.Mathlib.Omega.{arith}
use Rattle.state.specs.State.{meaning}
use Rattle.rules.specs.Sending.{ready}
use Rattle.rules.proofs.Searching.{first_hit, first_end, first_pass}
use Rattle.steps.proofs.Seeks.{seek_starts, seek_skips, seek_ready}
use Rattle.steps.proofs.leaf.next_leaf.Goals as goal

pub loop-leaves-init : goal.loop-leaves-init
loop-leaves-init c = (c.requires.0, λ l s. seek_starts l _ _ _ _ _ s)

pub returns-then-i-eq-CLASSES : goal.returns-then-i-eq-CLASSES
returns-then-i-eq-CLASSES c =
    λ l s. sym (c.loop-leaves.invariant.1 l s ∙ seek_skips l _ _ _ _ _ s c.loop-leaves.at c.next-i.result c.next-i.ensures
    ∙ first_end (ready (meaning l)) c.next-i.result (omega arith))

pub slot-requires : goal.slot-requires
slot-requires c =
    (omega arith, omega (arith, c.from-s.ensures, c.requires.1 c.next-i.result (omega arith)))

pub returns-then-covers : goal.returns-then-covers
returns-then-covers c =
    let i = c.next-i.result in
    let u : i < 64 = omega arith in
    λ l s.
    sym (c.loop-leaves.invariant.1 l s ∙ seek_skips l _ _ _ _ _ s c.loop-leaves.at i c.next-i.ensures
    ∙ first_hit (ready (meaning l)) i u
    (seek_ready l _ _ _ _ _ s c.loop-leaves.at i _ c.next-i.ensures u (rw (c.slot.ensures.0, c.from-s.ensures) at c.cost-cost.ensures)
    ∙ sym c.covers.ensures ∙ c.if-covers.true))

pub loop-leaves-preserved : goal.loop-leaves-preserved
loop-leaves-preserved c =
    let i = c.next-i.result in
    let u : i < 64 = omega arith in (
      omega arith,
      λ l s.
          c.loop-leaves.invariant.1 l s ∙ seek_skips l _ _ _ _ _ s c.loop-leaves.at i c.next-i.ensures
          ∙ first_pass (ready (meaning l)) i u
          (seek_ready l _ _ _ _ _ s c.loop-leaves.at i _ c.next-i.ensures u (rw (c.slot.ensures.0, c.from-s.ensures) at c.cost-cost.ensures)
          ∙ sym c.covers.ensures ∙ c.if-covers.false),
    )
