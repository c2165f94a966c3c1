-- `allot::share_out` meets its contract: the root, then class by class upward.
use mathlib.Core.Path.{◌≡◌, subst}
use Prim.Native.Nat.{ℕ, ◌+◌, ◌-◌, ◌<◌}
use native.Mathlib.Omega.{arith}
use Rattle.tree.specs.Class.{parent_of, weight_of}
use Rattle.tree.proofs.Rules.{few_classes, parent_below}
use Rattle.allot.specs.Request.{entry}
use Rattle.allot.specs.Steps.{Settled}
use Rattle.allot.proofs.Fair.{share_fits}
use Rattle.allot.proofs.Settling.{gets_within, settled_root, settled_more}
use Rattle.allot.proofs.share_out.Goals as goal
use Rattle.allot.proofs.share_out.Goals.{In-loop-i}

pub loop-i-init : goal.loop-i-init
loop-i-init c =
    let a = c.args in (
      few_classes a.tree c.requires.0.rules,
      omega arith,
      omega arith,
      settled_root a.tree a.requests a.has c.settled-shares.result c.settled-shares.ensures,
    )

-- the parent of the class at hand has a lower number
low : (c : In-loop-i) → parent_of c.args.tree c.loop-i.i < c.loop-i.i
low c =
    parent_below c.args.tree c.loop-i.i c.requires.0.rules c.loop-i.invariant.1 (omega arith)

pub bounds-shares-p : goal.bounds-shares-p
bounds-shares-p c = omega (arith, low (goal.at.bounds-shares-p c).In-loop-i, c.from-p.ensures)

pub bounds-requests-p : goal.bounds-requests-p
bounds-requests-p c = omega (arith, low (goal.at.bounds-requests-p c).In-loop-i, c.from-p.ensures)

pub bounds-shares-p-in-loop-i : goal.bounds-shares-p-in-loop-i
bounds-shares-p-in-loop-i c = omega (arith, low (goal.at.bounds-shares-p-in-loop-i c).In-loop-i, c.from-p.ensures)

pub child_gets-gets-requires : goal.child_gets-gets-requires
child_gets-gets-requires c =
    let p = parent_of c.args.tree c.loop-i.i in
    let f = (c.loop-i.invariant.3.splits p (omega (arith, low (goal.at.child_gets-gets-requires c).In-loop-i))).small in
    rw c.from-p.ensures
    (share_fits c.args.tree c.args.requests c.requires.0 (entry c.loop-i.shares.fair p) c.loop-i.i c.loop-i.invariant.1 c.loop-i-test.true
    (omega arith))

pub settled-shares-requires-in-loop-i : goal.settled-shares-requires-in-loop-i
settled-shares-requires-in-loop-i c =
    let t = c.args.tree in
    let p = parent_of t c.loop-i.i in
    let s = c.loop-i.shares in
    let asks = entry c.args.requests in
    let most = gets_within (entry s.gets p) (asks p) (asks c.loop-i.i) (weight_of t c.loop-i.i) (entry s.fair p) in
    let gets = rw c.from-p.ensures at (c.child_gets-gets.ensures) in
    let small = c.requires.0.small c.loop-i.i in (
      c.requires.0,
      omega (arith, c.loop-i-test.true, c.loop-i.invariant.0),
      c.loop-i-test.true,
      omega (arith, gets, most, small),
    )

pub loop-i-preserved : goal.loop-i-preserved
loop-i-preserved c =
    let gets = rw c.from-p.ensures at (c.child_gets-gets.ensures) in
    let e : c.loop-i.i + 1 - 1 ≡ c.loop-i.i = omega arith in (
      c.loop-i.invariant.0,
      omega arith,
      omega (arith, c.loop-i-test.true),
      rw e (settled_more c.args.tree c.args.requests c.args.has c.child_gets-gets.result c.loop-i.i c.loop-i.shares
          c.settled-shares-in-loop-i.result c.requires.0.rules c.loop-i.invariant.1 (omega (arith, c.loop-i-test.true, c.loop-i.invariant.0))
          c.loop-i.invariant.3 c.settled-shares-in-loop-i.ensures gets),
    )

pub returns-2 : goal.returns-2
returns-2 c =
    let gets = rw c.from-p.ensures at (c.child_gets-gets.ensures) in
    let last : c.loop-i.i ≡ c.args.tree.count = omega arith in
    subst (λ (n : ℕ). Settled c.args.tree (entry c.args.requests) c.args.has n c.settled-shares-in-loop-i.result) last
    (settled_more c.args.tree c.args.requests c.args.has c.child_gets-gets.result c.loop-i.i c.loop-i.shares
    c.settled-shares-in-loop-i.result c.requires.0.rules c.loop-i.invariant.1 (omega (arith, c.loop-i-test.true, c.loop-i.invariant.0))
    c.loop-i.invariant.3 c.settled-shares-in-loop-i.ensures gets)
