-- `written::plan_length` meets its contract.
use mathlib.Core.Bool.{Bool, true, false, cond}
use mathlib.Core.Path.{◌≡◌, sym, ap, ◌∙◌}
use Prim.Native.Nat.{ℕ, ◌+◌, ◌-◌, ◌≤◌}
use native.Mathlib.Omega.{arith}
use Rattle.sets.specs.Set.{has}
use Rattle.written.proofs.Lengths.{length_to, length_none, length_to_lem, length_most, length_next, plan_length}
use Rattle.written.proofs.plan_length.Goals as goal
use Rattle.written.proofs.plan_length.Goals.{then-tree, else-tree, then-has, else-has, else-loop-i-test, then-loop-i-test+else-i-i-end}

-- a class more
next : (leaves i n : ℕ) → 1 ≤ i → n ≡ cond (has leaves i) 8 6 → length_to leaves i ≡ length_to leaves (i - 1) + n
next leaves i n low e =
    let at : i ≡ i - 1 + 1 = omega arith in
    ap (length_to leaves) at
    ∙ length_next leaves (i - 1)
    ∙ ap (λ (k : ℕ). length_to leaves (i - 1) + cond (has leaves k) 8 6) (sym at)
    ∙ ap (λ (m : ℕ). length_to leaves (i - 1) + m) (sym e)

-- the number of bytes that a test chose
chosen : (b t : Bool) (m k n : ℕ) → b ≡ t → n ≡ cond b m k → n ≡ cond t m k
chosen b t m k n e is = is ∙ ap (λ (x : Bool). cond x m k) e

pub loop-i-init : goal.loop-i-init
loop-i-init c = (omega arith, omega arith, omega (arith, length_none c.args.tree.leaves))

pub overflow_add-n : goal.overflow_add-n
overflow_add-n c =
    let t = c.args.tree in
    let most = length_most t.leaves (c.loop-i.i - 1) in
    let rule : c.if-tree.n ≤ 2 = elim c.if-tree.branch [ then-tree w ↦ omega (arith, w.n-is) | else-tree w ↦ omega (arith, w.n-is) ] in
    let class : c.if-has.n ≤ 8 = elim c.if-has.branch [ then-has w ↦ omega (arith, w.n-is) | else-has w ↦ omega (arith, w.n-is) ] in
    omega (arith, c.loop-i.invariant.0, c.loop-i.invariant.1, c.loop-i.invariant.2, most, c.requires, rule, class)

pub loop-i-preserved : goal.loop-i-preserved
loop-i-preserved c =
    let leaves = c.args.tree.leaves in
    let i = c.loop-i.i in
    let e : i + 1 - 1 ≡ i = omega arith in
    let size : c.if-has.n ≡ cond (has leaves i) 8 6 =
    elim c.if-has.branch [
      | then-has w ↦ chosen true _ 8 6 _ (sym w.if-has.true ∙ c.has.ensures) w.n-is
      | else-has w ↦ chosen false _ 8 6 _ (sym w.if-has.false ∙ c.has.ensures) w.n-is
    ]
    in
    (omega arith, omega arith, omega (arith, ap (length_to leaves) e, next leaves i c.if-has.n c.loop-i.invariant.0 size, c.loop-i.invariant.2))

pub overflow_add-result : goal.overflow_add-result
overflow_add-result c =
    let t = c.args.tree in
    let most = length_most t.leaves (c.loop-i.i - 1) in
    let rule : c.if-tree.n ≤ 2 = elim c.if-tree.branch [ then-tree w ↦ omega (arith, w.n-is) | else-tree w ↦ omega (arith, w.n-is) ] in
    let last : c.loop-i-test.n ≤ c.loop-i.n + 8 =
    elim c.loop-i-test.branch [
      | else-loop-i-test w ↦ omega (arith, w.n-is)
      | then-loop-i-test+else-i-i-end w ↦
          let class : w.if-has.n ≤ 8 = elim w.if-has.branch [ then-has v ↦ omega (arith, v.n-is) | else-has v ↦ omega (arith, v.n-is) ] in
          omega (arith, w.n-is, class)
    ]
    in
    omega (arith, c.loop-i.invariant.0, c.loop-i.invariant.1, c.loop-i.invariant.2, most, c.requires, rule, last)

pub returns : goal.returns
returns c =
    let t = c.args.tree in
    let i = c.loop-i.i in
    let rule : c.if-tree.n ≡ cond t.follows 2 0 =
    elim c.if-tree.branch [
      | then-tree w ↦ chosen true _ 2 0 _ (sym w.if-tree.true) w.n-is
      | else-tree w ↦ chosen false _ 2 0 _ (sym w.if-tree.false) w.n-is
    ]
    in
    let all : c.loop-i-test.n ≡ c.if-tree.n + length_to t.leaves t.count =
    elim c.loop-i-test.branch [
      | else-loop-i-test w ↦
          let last : i - 1 ≡ t.count = omega arith in
          omega (arith, w.n-is, c.loop-i.invariant.2, ap (length_to t.leaves) last)
      | then-loop-i-test+else-i-i-end w ↦
          let size : w.if-has.n ≡ cond (has t.leaves i) 8 6 =
          elim w.if-has.branch [
            | then-has v ↦ chosen true _ 8 6 _ (sym v.if-has.true ∙ w.has.ensures) v.n-is
            | else-has v ↦ chosen false _ 8 6 _ (sym v.if-has.false ∙ w.has.ensures) v.n-is
          ]
          in
          let last : i ≡ t.count = omega arith in
          omega (arith, w.n-is, c.loop-i.invariant.2, next t.leaves i w.if-has.n c.loop-i.invariant.0 size, ap (length_to t.leaves) last)
    ]
    in
    omega (arith, all, length_to_lem t t.count, plan_length t, rule)
