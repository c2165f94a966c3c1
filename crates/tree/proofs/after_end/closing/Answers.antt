-- `after_end::closing` meets its contract: number 9, then class by class upward numbers 8 and 7.
use mathlib.Core.Path.{◌≡◌, refl, sym, ap, ◌∙◌}
use Prim.Native.Nat.{ℕ, ◌+◌, ◌≤◌, ◌<◌}
use native.Mathlib.Omega.{arith}
use borrow.Author.Tests.{eq-eqb, ne_eqb}
use Rattle.std.specs.Prelude.{Ok, Err}
use Rattle.std.proofs.lemmas.Result.{err_from_is_err_and}
use Rattle.checks.specs.Check.{first_broken}
use Rattle.checks.proofs.Laws.{classes_passed, classes_refused, upward_more}
use Rattle.tree.specs.Class.{is_leaf}
use Rattle.tree.specs.Rules.{closing_of, no_class}
use Rattle.tree.proofs.Classes.{class_in_lem}
use Rattle.tree.proofs.after_end.closing.Goals as goal
use Rattle.tree.proofs.after_end.closing.Goals.{After-closing_fault, In-loop-i, In_ok-closing_fault}

pub returns-then-last-eq0 : goal.returns-then-last-eq0
unfolding first_broken no_class
returns-then-last-eq0 c = rw (eq-eqb _ _ c.if-last-eq0.true)

pub children_weights-sums-requires : goal.children_weights-sums-requires
children_weights-sums-requires c = c.requires

pub parents-parents-requires : goal.parents-parents-requires
parents-parents-requires c = c.requires.few

pub loop-i-init : goal.loop-i-init
loop-i-init c = (omega arith, omega arith, λ k l u. absurd (omega arith))

-- the class at hand is a class number
here : (c : In-loop-i) → c.loop-i.i < 64
here c = omega (arith, c.requires.few, c.loop-i-test.true)

pub offset_bounds-tree-i : goal.offset_bounds-tree-i
offset_bounds-tree-i c = omega (arith, here c)

pub bounds-tree-i : goal.bounds-tree-i
bounds-tree-i c = omega (arith, here c)

pub offset_bounds-sums-i : goal.offset_bounds-sums-i
offset_bounds-sums-i c = omega (arith, here c.before)

pub bounds-sums-i : goal.bounds-sums-i
bounds-sums-i c = omega (arith, here c.before)

pub has-leaf-requires : goal.has-leaf-requires
has-leaf-requires c = here c.before.before

pub has-child-requires : goal.has-child-requires
has-child-requires c = here c.before.before.before

-- what the call says of the class at hand
said : (c : After-closing_fault)
    → c.closing_fault.result
    ≡ first_broken (closing_of c.args.tree
    c.loop-i.i)
unfolding is_leaf
said c =
    let i = c.loop-i.i in
    let u = here c.before.before.before.before.before in
    c.closing_fault.ensures _
    (class_in_lem _ i c.loop-i.invariant.0 c.loop-i-test.true)
    (sym c.has-leaf.ensures)
    (sym (c.has-child.ensures ∙ c.parents-parents.ensures i u))
    refl
    (sym (c.children_weights-sums.ensures i (omega (arith, u))))

pub returns-in_err-closing_fault : goal.returns-in_err-closing_fault
unfolding first_broken no_class
returns-in_err-closing_fault c =
    let t = c.args.tree in
    let (y, e, q) = err_from_is_err_and _ c.from_residual.ensures.1 in
    let told = e ∙ ap Err q in
    rw (ne_eqb _ _ c.if-last-eq0.false)
    (told ∙ sym (classes_refused (closing_of t) t.count c.loop-i.i c.loop-i.invariant.0 c.loop-i-test.true c.loop-i.invariant.2
    (sym (said c.before.before.before) ∙ c.in_err-closing_fault.was)))

-- no class up to this one is refused
passed : (c : In_ok-closing_fault) → (k : ℕ) → 1 ≤ k → k < c.loop-i.i + 1 → first_broken (closing_of c.args.tree k) ≡ Ok tt
passed c =
    upward_more (λ (k : ℕ). first_broken (closing_of c.args.tree k) ≡ Ok tt) c.loop-i.i c.loop-i.invariant.2
    (sym (said c.before.before) ∙ c.in_ok-closing_fault.was)

pub loop-i-preserved : goal.loop-i-preserved
loop-i-preserved c = (omega arith, omega (arith, c.loop-i-test.true), passed (goal.at.loop-i-preserved c).In_ok-closing_fault)

pub returns-else-last-eq0 : goal.returns-else-last-eq0
unfolding first_broken no_class
returns-else-last-eq0 c =
    let t = c.args.tree in
    rw (ne_eqb _ _ c.if-last-eq0.false) (sym (classes_passed (closing_of t) t.count (λ k l u. c.loop-i.invariant.2 k l (omega arith))))

-- after the last class's turn
pub returns-in_ok-closing_fault : goal.returns-in_ok-closing_fault
unfolding first_broken no_class
returns-in_ok-closing_fault c =
    let t = c.args.tree in
    let all = passed (goal.at.returns-in_ok-closing_fault c).In_ok-closing_fault in
    rw (ne_eqb _ _ c.if-last-eq0.false) (sym (classes_passed (closing_of t) t.count (λ k l u. all k l (omega arith))))
