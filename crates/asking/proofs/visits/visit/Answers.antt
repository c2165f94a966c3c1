-- `visits.visit` meets its contract.
use mathlib.Core.Path.{refl}
use Prim.Native.Nat.{◌<◌}
use native.Mathlib.Omega.{arith}
use Rattle.asking.proofs.Reaches.{reached_none, reached_asker, reached_hit, reached_pass}
use Rattle.asking.proofs.visits.visit.Goals as goal
use Rattle.asking.proofs.visits.visit.Goals.{Else-i-eq64}

-- the leaf that was found is a class number
in_range : (b : Else-i-eq64) → b.next-i.result < 64
in_range b = omega (arith, b.next-i.ensures.high, b.if-i-eq64.false)

pub loop-leaves-init : goal.loop-leaves-init
loop-leaves-init c = (c.requires.1, c.requires.2, λ x l y s w. record { y = x; lent = l; lying = y; sound = s; wide = w; same = refl })

pub next-i-requires : goal.next-i-requires
next-i-requires c = c.loop-leaves.invariant.1

pub returns-then-i-eq64 : goal.returns-then-i-eq64
returns-then-i-eq64 c =
    λ x l y s w. reached_none x _ _ _ _ _ _ _ _ _ _ _ (c.loop-leaves.invariant.2 x l y s w) c.next-i.result c.next-i.ensures c.if-i-eq64.true

pub ask-asked-requires : goal.ask-asked-requires
ask-asked-requires c =
    let p = c.requires.0 in
    let o = c.loop-leaves.invariant.2 p.0 p.1 p.2 p.3 p.4 in
    (o.y, o.lent, reached_asker p.0 _ _ _ _ _ _ _ _ _ _ _ o c.next-i.result c.next-i.ensures (in_range (goal.at.ask-asked-requires c).Else-i-eq64))

pub first_cost-cost-requires : goal.first_cost-cost-requires
first_cost-cost-requires c =
    (in_range (goal.at.first_cost-cost-requires c).Else-i-eq64, c.requires.3 c.next-i.result (in_range (goal.at.first_cost-cost-requires c).Else-i-eq64))

pub offset_bounds-balance-i : goal.offset_bounds-balance-i
offset_bounds-balance-i c = omega (arith, in_range (goal.at.offset_bounds-balance-i c).Else-i-eq64)

pub bounds-balance-i : goal.bounds-balance-i
bounds-balance-i c = in_range (goal.at.bounds-balance-i c).Else-i-eq64

pub returns-then-cost-balance : goal.returns-then-cost-balance
returns-then-cost-balance c =
    λ x l y s w.
    let o = c.loop-leaves.invariant.2 x l y s w in
    reached_hit x _ _ _ _ _ _ _ _ _ _ _ o c.next-i.result c.next-i.ensures (in_range (goal.at.returns-then-cost-balance c).Else-i-eq64) c.ask-asked.result _ _ _
    (c.ask-asked.ensures o.y o.lent (reached_asker x _ _ _ _ _ _ _ _ _ _ _ o c.next-i.result c.next-i.ensures (in_range (goal.at.returns-then-cost-balance c).Else-i-eq64)))
    c.first_cost-cost.result c.first_cost-cost.ensures c.if-cost-balance.true

pub overflow_add-at : goal.overflow_add-at
overflow_add-at c = omega (arith, in_range (goal.at.overflow_add-at c).Else-i-eq64)

pub loop-leaves-smaller : goal.loop-leaves-smaller
loop-leaves-smaller c =
    omega (arith, in_range (goal.at.loop-leaves-smaller c).Else-i-eq64, c.next-i.ensures.low)

pub loop-leaves-preserved : goal.loop-leaves-preserved
loop-leaves-preserved c = (
  omega (arith, c.next-i.ensures.low, c.loop-leaves.invariant.0),
  omega (arith, in_range (goal.at.loop-leaves-preserved c).Else-i-eq64),
  λ x l y s w.
      let o = c.loop-leaves.invariant.2 x l y s w in
      reached_pass x _ _ _ _ _ _ _ _ _ _ _ o c.next-i.result c.next-i.ensures (in_range (goal.at.loop-leaves-preserved c).Else-i-eq64) c.ask-asked.result _ _ _
      (c.ask-asked.ensures o.y o.lent (reached_asker x _ _ _ _ _ _ _ _ _ _ _ o c.next-i.result c.next-i.ensures (in_range (goal.at.loop-leaves-preserved c).Else-i-eq64)))
      c.first_cost-cost.result c.first_cost-cost.ensures c.if-cost-balance.false c.loop-leaves.invariant.0,
)
