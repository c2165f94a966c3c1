-- `inactive::turn_off` meets its contract.
use mathlib.Core.Bool.{true}
use mathlib.Core.Path.{◌≡◌, refl, sym, ap, subst, ◌∙◌}
use native.Mathlib.Omega.{arith}
use Prim.Native.Nat.{ℕ, ◌<◌}
use Rattle.tree.specs.declared.Tree.{Tree}
use Rattle.tree.specs.Class.{parent_of, is_class}
use Rattle.shape.specs.Shape.{tree_in}
use Rattle.tree.proofs.Rules.{parent_lower}
use Rattle.rules.specs.Sending.{Books}
use Rattle.rules.specs.Steps.{Fit}
use Rattle.rules.proofs.Fitting.{fit_given}
use Rattle.steps.specs.Fields.{books_of}
use Rattle.steps.proofs.Climbs.{class_low, climb_stays, climb_root, climb_class, climb_up}
use Rattle.steps.proofs.inactive.turn_off.Goals as goal
use Rattle.steps.proofs.inactive.turn_off.Goals.{At-loop-leaf}

-- the tree, and that the class at hand is one of it, a class number, and its parent another
abbrev treeAt : At-loop-leaf → Tree
treeAt h = tree_in h.args.shape.now

class : (h : At-loop-leaf) → is_class (treeAt h) h.loop-leaf.i ≡ true
class h = (h.loop-leaf.invariant.1 h.requires.2).0

low : (h : At-loop-leaf) → h.loop-leaf.i < 64
low h = class_low (treeAt h) h.loop-leaf.i h.requires.0 (class h)

up : (h : At-loop-leaf) → parent_of (treeAt h) h.loop-leaf.i < h.loop-leaf.i
up h = parent_lower (treeAt h) h.loop-leaf.i h.requires.0 (class h)

pub loop-leaf-init : goal.loop-leaf-init
loop-leaf-init c = (c.requires.3, λ is. (is, refl))

pub parent-p-requires : goal.parent-p-requires
parent-p-requires c = low c

pub give_up-active-requires : goal.give_up-active-requires
give_up-active-requires c =
    (c.loop-leaf.invariant.0, low (goal.at.give_up-active-requires c).At-loop-leaf, omega (arith, up (goal.at.give_up-active-requires c).At-loop-leaf, low (goal.at.give_up-active-requires c).At-loop-leaf, c.parent-p.ensures))

pub has_active_child-requires : goal.has_active_child-requires
has_active_child-requires c =
    omega (arith, up (goal.at.has_active_child-requires c).At-loop-leaf, low (goal.at.has_active_child-requires c).At-loop-leaf, c.parent-p.ensures)

pub returns-then-has_active_child : goal.returns-then-has_active_child
returns-then-has_active_child c =
    let pre = c.requires in
    let e = sym c.parent-p.ensures in
    climb_stays (treeAt (goal.at.returns-then-has_active_child c).At-loop-leaf) c.loop-leaf.i c.parent-p.result (books_of c.loop-leaf.active c.loop-leaf.balance c.loop-leaf.residual) _ e
    (c.give_up-active.ensures (treeAt (goal.at.returns-then-has_active_child c).At-loop-leaf) e)
    (sym c.if-has_active_child.true ∙ c.has_active_child.ensures (treeAt (goal.at.returns-then-has_active_child c).At-loop-leaf) pre.0 pre.1)
    ∙ (c.loop-leaf.invariant.1 pre.2).1

pub returns-then-p-eq0 : goal.returns-then-p-eq0
returns-then-p-eq0 c =
    let pre = c.requires in
    let e = sym c.parent-p.ensures in
    ap (λ (a : ℕ). books_of a c.give_up-active.new.balance c.give_up-active.new.residual) c.without.ensures
    ∙ climb_root (treeAt (goal.at.returns-then-p-eq0 c).At-loop-leaf) c.loop-leaf.i c.parent-p.result (books_of c.loop-leaf.active c.loop-leaf.balance c.loop-leaf.residual) _ e
    (c.give_up-active.ensures (treeAt (goal.at.returns-then-p-eq0 c).At-loop-leaf) e)
    (sym c.if-has_active_child.false ∙ c.has_active_child.ensures (treeAt (goal.at.returns-then-p-eq0 c).At-loop-leaf) pre.0 pre.1) c.if-p-eq0.true
    ∙ (c.loop-leaf.invariant.1 pre.2).1

pub loop-leaf-smaller : goal.loop-leaf-smaller
loop-leaf-smaller c =
    omega (arith, up (goal.at.loop-leaf-smaller c).At-loop-leaf, c.parent-p.ensures)

pub loop-leaf-preserved : goal.loop-leaf-preserved
loop-leaf-preserved c =
    let t = treeAt (goal.at.loop-leaf-preserved c).At-loop-leaf in
    let pre = c.requires in
    let b = books_of c.loop-leaf.active c.loop-leaf.balance c.loop-leaf.residual in
    let e = sym c.parent-p.ensures in
    let same = c.give_up-active.ensures t e in (
      subst (λ (x : Books). Fit x.accounts) (sym same) (fit_given t c.loop-leaf.i b pre.0 (class (goal.at.loop-leaf-preserved c).At-loop-leaf) c.loop-leaf.invariant.0),
      λ is. (
        climb_class t c.loop-leaf.i c.parent-p.result b _ e same pre.0 (class (goal.at.loop-leaf-preserved c).At-loop-leaf) c.if-p-eq0.false,
        climb_up t c.loop-leaf.i c.parent-p.result b _ e same pre.0 (class (goal.at.loop-leaf-preserved c).At-loop-leaf)
            (sym c.if-has_active_child.false ∙ c.has_active_child.ensures t pre.0 pre.1) c.if-p-eq0.false
            ∙ (c.loop-leaf.invariant.1 is).1,
      ),
    )
