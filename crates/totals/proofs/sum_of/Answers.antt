-- `totals::sum_of` meets its contract: class by class, the lowest first.
use mathlib.Core.Bool.{true, false}
use mathlib.Core.Path.{◌≡◌, sym, ap, ◌∙◌}
use Prim.Native.Nat.{ℕ, ◌≤◌, ◌<◌}
use native.Mathlib.Decide.{ℕ_discrete}
use native.Mathlib.Omega.{arith}
use Rattle.checks.proofs.Laws.{not_true_and_false}
use Rattle.sets.specs.Set.{has}
use Rattle.totals.proofs.Passing.{adding_starts, adding_fits, adding_on, adding_ends, without_less}
use Rattle.totals.proofs.sum_of.Goals as goal
use Rattle.totals.proofs.sum_of.Goals.{In-loop-i}

-- the class at hand is in the set, and is not the root
here : (g : In-loop-i) → has g.loop-i.rest g.loop-i.i ≡ true
here g = g.loop-i.invariant.2.found g.loop-i-test.true

least : (g : In-loop-i) → 1 ≤ g.loop-i.i
least g = go (ℕ_discrete g.loop-i.i 0)
  where
    go : Dec (g.loop-i.i ≡ 0) → 1 ≤ g.loop-i.i
    go (yes z) =
        let is = g.loop-i.invariant.0.within g.loop-i.i (here g) in
        absurd (not_true_and_false (sym (ap (has g.args.set) z) ∙ is) g.requires.0)
    go (no z) = omega (arith, z)

pub loop-i-init : goal.loop-i-init
loop-i-init c = let a = c.args in (
  adding_starts a.set a.packets.now,
  adding_starts a.set
      a.bytes.now,
  c.next-i.ensures,
)

pub offset_bounds-packets-i : goal.offset_bounds-packets-i
offset_bounds-packets-i c = omega (arith, c.loop-i-test.true)

pub bounds-packets-i : goal.bounds-packets-i
bounds-packets-i c = omega (arith, c.loop-i-test.true)

pub overflow_add-many : goal.overflow_add-many
overflow_add-many c =
    let fits =
    adding_fits c.args.set c.args.packets.now c.loop-i.rest c.loop-i.many c.loop-i.invariant.0 c.loop-i.i (least (goal.at.overflow_add-many c).In-loop-i)
    c.loop-i-test.true (here (goal.at.overflow_add-many c).In-loop-i) c.requires.1
    in
    omega (arith, fits)

pub offset_bounds-bytes-i : goal.offset_bounds-bytes-i
offset_bounds-bytes-i c = omega (arith, c.loop-i-test.true)

pub bounds-bytes-i : goal.bounds-bytes-i
bounds-bytes-i c = omega (arith, c.loop-i-test.true)

pub overflow_add-cost : goal.overflow_add-cost
overflow_add-cost c =
    let fits =
    adding_fits c.args.set c.args.bytes.now c.loop-i.rest c.loop-i.cost c.loop-i.invariant.1 c.loop-i.i (least (goal.at.overflow_add-cost c).In-loop-i)
    c.loop-i-test.true (here (goal.at.overflow_add-cost c).In-loop-i) c.requires.2
    in
    omega (arith, fits)

pub without-rest-requires : goal.without-rest-requires
without-rest-requires c = omega (arith, c.loop-i-test.true)

pub loop-i-smaller : goal.loop-i-smaller
loop-i-smaller c =
    rw c.without-rest.ensures (without_less c.loop-i.rest c.loop-i.i (here (goal.at.loop-i-smaller c).In-loop-i))

pub loop-i-preserved : goal.loop-i-preserved
loop-i-preserved c =
    let on = c.loop-i in
    let u = c.loop-i-test.true in (
      rw c.without-rest.ensures
          (adding_on c.args.set c.args.packets.now on.rest on.many on.invariant.0 on.i (least (goal.at.loop-i-preserved c).In-loop-i) u (here (goal.at.loop-i-preserved c).In-loop-i)),
      rw c.without-rest.ensures
          (adding_on c.args.set c.args.bytes.now on.rest on.cost on.invariant.1 on.i (least (goal.at.loop-i-preserved c).In-loop-i) u (here (goal.at.loop-i-preserved c).In-loop-i)),
      c.next-i-in-loop-i.ensures,
    )

pub returns : goal.returns
returns c =
    let on = c.loop-i in
    let none : (i : ℕ) → i < 64 → has on.rest i ≡ false = λ i u. on.invariant.2.between i (omega arith) (omega
    (arith, u, c.loop-i-test.false)) in (
      adding_ends c.args.set c.args.packets.now on.rest on.many on.invariant.0 none,
      adding_ends c.args.set c.args.bytes.now on.rest on.cost on.invariant.1 none,
    )
