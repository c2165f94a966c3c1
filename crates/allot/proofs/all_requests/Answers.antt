-- `allot::all_requests` meets its contract: from the highest class down, each class adds itself to its parent.
use mathlib.Core.Bool.{Bool, true, false, cond}
use mathlib.Core.Path.{◌≡◌, refl, sym, ap, ◌∙◌}
use Prim.Native.Nat.{ℕ, ◌<◌}
use native.Mathlib.Omega.{arith}
use lib.Seq.{get_or-set_other}
use Rattle.sets.specs.Set.{has}
use Rattle.tree.specs.Class.{parent_of, is_leaf}
use Rattle.tree.proofs.Rules.{parent_below}
use Rattle.allot.specs.Request.{entry, request_of}
use Rattle.allot.proofs.Requests.{none_added, own_is, rest_small, request_small, added_more, all_added}
use Rattle.allot.proofs.all_requests.Goals as goal
use Rattle.allot.proofs.all_requests.Goals.{In-loop-i, then-has, else-has}

pub loop-i-init : goal.loop-i-init
loop-i-init c = none_added c.args.tree c.args.table c.requires _ refl

-- the parent of the class at hand has a lower number, and its own request is known
low : (c : In-loop-i) → parent_of c.args.tree c.loop-i.i < c.loop-i.i
low c = parent_below c.args.tree c.loop-i.i c.requires.rules c.loop-i-test.true (omega arith)

own : (c : In-loop-i) (leaf : Bool) → leaf ≡ has c.args.tree.leaves c.loop-i.i
    → (n : ℕ) → n ≡ cond leaf (entry c.args.table c.loop-i.i) (entry c.loop-i.requests c.loop-i.i) → n ≡ request_of c.args.tree c.args.table c.loop-i.i
unfolding is_leaf
own c leaf e n is =
    let a = c.args in
    is
    ∙ ap (λ (b : Bool). cond b (entry a.table c.loop-i.i) (entry c.loop-i.requests c.loop-i.i)) e
    ∙ own_is a.tree a.table c.requires c.loop-i.i c.loop-i.requests c.loop-i-test.true c.loop-i.invariant

pub bounds-requests-p : goal.bounds-requests-p
bounds-requests-p c = omega (arith, low (goal.at.bounds-requests-p c).In-loop-i, c.from-p.ensures)

pub overflow_add-requests : goal.overflow_add-requests
overflow_add-requests c =
    let a = c.args in
    let here = (goal.at.overflow_add-requests c).In-loop-i in
    let p = parent_of a.tree c.loop-i.i in
    let kept = get_or-set_other c.loop-i.requests c.loop-i.i p c.if-has.own 0 (λ z. omega (arith, low here)) in
    let rest =
    rest_small a.tree a.table c.requires c.loop-i.i c.loop-i.requests (omega arith) c.loop-i.invariant p (omega (arith, low here))
    in
    let asks : c.if-has.own ≡ request_of a.tree a.table c.loop-i.i =
    elim c.if-has.branch [
      | then-has w ↦ own here true (sym w.if-has.true ∙ c.has.ensures) _ w.own-is
      | else-has w ↦ own here false (sym w.if-has.false ∙ c.has.ensures) _ w.own-is
    ]
    in
    rw c.from-p.ensures (omega (arith, kept, rest, asks, request_small a.tree a.table c.requires c.loop-i.i c.loop-i.invariant.within))

pub bounds-requests-p-in-loop-i : goal.bounds-requests-p-in-loop-i
bounds-requests-p-in-loop-i c =
    omega (arith, low (goal.at.bounds-requests-p-in-loop-i c).In-loop-i, c.from-p.ensures)

pub loop-i-preserved : goal.loop-i-preserved
loop-i-preserved c =
    let a = c.args in
    let here = (goal.at.loop-i-preserved c).In-loop-i in
    rw c.from-p.ensures
    (added_more a.tree a.table c.requires c.loop-i.i c.loop-i.requests (omega arith) c.loop-i.invariant c.if-has.own
    (elim c.if-has.branch [
      | then-has w ↦ own here true (sym w.if-has.true ∙ c.has.ensures) _ w.own-is
      | else-has w ↦ own here false (sym w.if-has.false ∙ c.has.ensures) _ w.own-is
    ]))

pub returns : goal.returns
returns c =
    let e : c.loop-i.i ≡ 0 = omega arith in
    all_added c.args.tree c.args.table c.requires c.loop-i.requests (rw e at c.loop-i.invariant)
