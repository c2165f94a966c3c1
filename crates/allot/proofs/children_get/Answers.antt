-- `allot::children_get` meets its contract.
use mathlib.Core.Path.{◌≡◌, refl, sym, ap, ◌∙◌}
use Prim.Native.Nat.{ℕ, ◌+◌, ◌-◌, ◌≤◌}
use native.Mathlib.Omega.{arith}
use borrow.Author.Tests.{eq-eqb}
use Rattle.tree.specs.declared.Tree.{Tree}
use Rattle.tree.specs.Class.{parent_of, is_child, of_child, children_sum}
use Rattle.tree.specs.Sum.{sum_to}
use Rattle.tree.proofs.Classes.{child_other}
use Rattle.tree.proofs.Rules.{few_classes}
use Rattle.tree.proofs.Sums.{sum_none, sum_step, sum_bound}
use Rattle.allot.specs.Request.{entry}
use Rattle.allot.specs.Share.{share_at}
use Rattle.allot.proofs.Fair.{share_small, share_fits}
use Rattle.allot.proofs.children_get.Goals as goal
use Rattle.allot.proofs.children_get.Goals.{then-from-p, else-from-p}

-- a child adds its share
child : (t : Tree) (share : ℕ → ℕ) (p i : ℕ) → parent_of t i ≡ p → of_child t share p i ≡ share i
unfolding of_child is_child
child t share p i e = rw (eq-eqb _ _ e) refl

pub loop-i-init : goal.loop-i-init
loop-i-init c = (few_classes c.args.tree c.requires.0.rules, omega arith, omega arith, sym (sum_none _))

pub share-sum-requires : goal.share-sum-requires
share-sum-requires c =
    share_fits c.args.tree c.args.requests c.requires.0 c.args.f c.loop-i.i c.loop-i.invariant.1 c.loop-i-test.true c.requires.1

pub overflow_add-sum : goal.overflow_add-sum
overflow_add-sum c =
    let a = c.args in
    let small = share_small a.tree a.requests c.requires.0 a.p a.f in
    omega (
      arith,
      sum_bound (of_child a.tree (share_at a.tree (entry a.requests) a.f) a.p) 63_000_000_000 (c.loop-i.i - 1) (λ k l u. small k),
      small c.loop-i.i,
      c.share-sum.ensures,
      child a.tree (share_at a.tree (entry a.requests) a.f) a.p c.loop-i.i (sym c.from.ensures ∙ c.if-from-p.true),
    )

-- a turn adds what the class at hand gets of class p
turn : (t : Tree) (share : ℕ → ℕ) (p i was now : ℕ) → 1 ≤ i → was ≡ sum_to (of_child t share p) (i - 1)
    → now ≡ was + of_child t share p i → now ≡ sum_to (of_child t share p) i
turn t share p i was now low before added =
    let f = of_child t share p in
    let e : i + 1 - 1 ≡ i = omega arith in
    let step : sum_to f i ≡ sum_to f (i - 1) + f i = rw e at (sum_step f i low) in
    omega (arith, step)

pub loop-i-preserved : goal.loop-i-preserved
loop-i-preserved c =
    let a = c.args in
    let i = c.loop-i.i in
    let shares = share_at a.tree (entry a.requests) a.f in
    let past : i + 1 - 1 ≡ i = omega arith in (
      c.loop-i.invariant.0,
      omega arith,
      omega arith,
      rw past (turn a.tree shares a.p i _ _ c.loop-i.invariant.1 c.loop-i.invariant.3
          (elim c.if-from-p.branch [
            | then-from-p w ↦ omega (arith, w.sum-is, w.share-sum.ensures, child a.tree shares a.p i (sym c.from.ensures ∙ w.if-from-p.true))
            | else-from-p w ↦ omega (arith, w.sum-is, child_other a.tree shares i a.p (λ e. w.if-from-p.false (c.from.ensures ∙ e)))
          ])),
    )

pub returns : goal.returns
unfolding children_sum
returns c =
    let e : c.loop-i.i - 1 ≡ c.args.tree.count = omega arith in
    rw e at c.loop-i.invariant.3

pub returns-after-from-p : goal.returns-after-from-p
unfolding children_sum
returns-after-from-p c =
    let a = c.args in
    let i = c.loop-i.i in
    let shares = share_at a.tree (entry a.requests) a.f in
    let last : i ≡ a.tree.count = omega arith in
    turn a.tree shares a.p i _ _ c.loop-i.invariant.1 c.loop-i.invariant.3
    (elim c.if-from-p.branch [
      | then-from-p w ↦ omega (arith, w.sum-is, w.share-sum.ensures, child a.tree shares a.p i (sym c.from.ensures ∙ w.if-from-p.true))
      | else-from-p w ↦ omega (arith, w.sum-is, child_other a.tree shares i a.p (λ e. w.if-from-p.false (c.from.ensures ∙ e)))
    ])
    ∙ ap (sum_to (of_child a.tree shares a.p)) last
