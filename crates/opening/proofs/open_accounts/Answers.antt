-- `opening::open_accounts` meets its contract.
use Prim.Native.Nat.{ℕ, ◌+◌, ◌*◌, ◌≤◌, ◌<◌}
use mathlib.Core.Path.{◌≡◌, sym, ap, ap₂, ◌∙◌}
use native.Mathlib.Omega.{arith}
use lib.ListN.{get_or}
use Rattle.sets.specs.Set.{has}
use Rattle.tree.specs.declared.Tree.{Tree}
use Rattle.tree.specs.Class.{parent_of, weight_of}
use Rattle.rules.specs.Opening.{kind_is}
use Rattle.shape.specs.Shape.{tree_in}
use Rattle.tree.proofs.Rules.{few_classes}
use Rattle.rules.proofs.Shares.{parent_most}
use Rattle.state.specs.Account.{zip_accounts}
use Rattle.tree.specs.Size.{most_size}
use Rattle.opening.specs.Opens.{OpenedUpTo}
use Rattle.opening.proofs.Openings.{opening_wide, opening_unset, opening_funds, opening_due, leaf_shares_none}
use Rattle.opening.proofs.Openings.{opening_on, opening_starts, opening_ends}
use Rattle.opening.proofs.open_accounts.Goals as goal
use Rattle.opening.proofs.open_accounts.Goals.{At-loop-i, In-loop-i, Start}

abbrev treeAt : Start → Tree
treeAt st = tree_in st.args.shape.now

-- the opening has come to the loop's class
reached : (c : At-loop-i)
    → OpenedUpTo (kind_is c.args.surplus) (treeAt (goal.at.At-loop-i c).Start) c.args.active
    (zip_accounts c.args.balance.now c.args.residual.now) c.loop-i.i c.loop-i.quotas c.loop-i.balance
    c.loop-i.residual
reached c =
    c.loop-i.invariant.2 _ c.requires.0
    (opening_starts c.args.surplus _ _ _ c.requires.0 _ _ c.args.sums.now c.requires.1 c.account_of.ensures
    c.open_root-root.ensures c.keep.ensures)

-- the loop's class is a class number, and so is its parent
low : (g : In-loop-i) → g.loop-i.i < 64
low g =
    omega (
      arith,
      few_classes (treeAt (goal.at.In-loop-i g).Start) g.requires.0.rules,
      g.loop-i-test.true,
      g.count-i-end.ensures,
    )

up : (g : In-loop-i) → parent_of (treeAt (goal.at.In-loop-i g).Start) g.loop-i.i < 64
up g =
    omega (arith, parent_most (treeAt (goal.at.In-loop-i g).Start) g.loop-i.i g.requires.0.rules (low g), low g)

-- what it is due is within the ceiling
light : (g : In-loop-i) → weight_of (treeAt (goal.at.In-loop-i g).Start) g.loop-i.i
    * get_or g.loop-i.quotas (parent_of (treeAt (goal.at.In-loop-i g).Start) g.loop-i.i) 0 ≤ 64 * most_size * 1_000_000
light g =
    opening_due _ _ _ _ g.requires.0 g.loop-i.i g.loop-i.invariant.0 (low g) _ _ (reached (goal.at.In-loop-i g).At-loop-i)

-- as the class's weight and its parent's quota were read
due_is : (g : In-loop-i) (w p : ℕ) → w ≡ weight_of (treeAt (goal.at.In-loop-i g).Start) g.loop-i.i
    → p ≡ parent_of (treeAt (goal.at.In-loop-i g).Start) g.loop-i.i
    → w * get_or g.loop-i.quotas p 0 ≡ weight_of (treeAt (goal.at.In-loop-i g).Start) g.loop-i.i
    * get_or g.loop-i.quotas (parent_of (treeAt (goal.at.In-loop-i g).Start) g.loop-i.i) 0
due_is g w p e f = ap₂ (λ (x y : ℕ). x * get_or g.loop-i.quotas y 0) e f

pub account_of-requires : goal.account_of-requires
account_of-requires c = (omega arith, c.requires.0.many)

pub open_root-root-requires : goal.open_root-root-requires
open_root-root-requires c = rw c.account_of.ensures (c.requires.0.small 0 (omega arith))

pub loop-i-init : goal.loop-i-init
loop-i-init c = (omega arith, omega arith, λ accounts can o. o)

pub parent-p-requires : goal.parent-p-requires
parent-p-requires c = omega (arith, low c)

pub weight-w-requires : goal.weight-w-requires
weight-w-requires c = (
  c.requires.0.rules,
  low (goal.at.weight-w-requires c).In-loop-i,
)

pub offset_bounds-quotas-p : goal.offset_bounds-quotas-p
offset_bounds-quotas-p c = omega (arith, up (goal.at.offset_bounds-quotas-p c).In-loop-i, c.parent-p.ensures)

pub bounds-quotas-p : goal.bounds-quotas-p
bounds-quotas-p c = omega (arith, up (goal.at.bounds-quotas-p c).In-loop-i, c.parent-p.ensures)

pub due-due-requires : goal.due-due-requires
due-due-requires c = omega (
  arith,
  light (goal.at.due-due-requires c).In-loop-i,
  due_is (goal.at.due-due-requires c).In-loop-i _ _ c.weight-w.ensures c.parent-p.ensures,
)

pub has-leaf-requires : goal.has-leaf-requires
has-leaf-requires c = omega (arith, low (goal.at.has-leaf-requires c).In-loop-i)

pub has-requires : goal.has-requires
has-requires c = omega (arith, low (goal.at.has-requires c).In-loop-i)

pub offset_bounds-sums-i : goal.offset_bounds-sums-i
offset_bounds-sums-i c = omega (arith, low (goal.at.offset_bounds-sums-i c).In-loop-i)

pub bounds-sums-i : goal.bounds-sums-i
bounds-sums-i c = omega (arith, low (goal.at.bounds-sums-i c).In-loop-i)

pub account_of-requires-in-loop-i : goal.account_of-requires-in-loop-i
account_of-requires-in-loop-i c =
    (low (goal.at.account_of-requires-in-loop-i c).In-loop-i, opening_wide _ _ _ _ c.requires.0 c.loop-i.i c.loop-i.invariant.0 (low (goal.at.account_of-requires-in-loop-i c).In-loop-i) _ _ (reached (goal.at.account_of-requires-in-loop-i c).At-loop-i))

pub open_class-one-requires : goal.open_class-one-requires
open_class-one-requires c =
    let can = c.requires.0 in (
      rw c.account_of-in-loop-i.ensures (opening_funds _ _ _ _ can c.loop-i.i c.loop-i.invariant.0 (low (goal.at.open_class-one-requires c).In-loop-i) _ _ (reached (goal.at.open_class-one-requires c).At-loop-i)),
      omega (arith, c.due-due.ensures, light (goal.at.open_class-one-requires c).In-loop-i, due_is (goal.at.open_class-one-requires c).In-loop-i _ _ c.weight-w.ensures c.parent-p.ensures),
    )

pub keep_quota-requires : goal.keep_quota-requires
keep_quota-requires c = (
  low (goal.at.keep_quota-requires c).In-loop-i,
  λ leaf. opening_unset _ _ _ _ c.requires.0 c.loop-i.i c.loop-i.invariant.0 (low (goal.at.keep_quota-requires c).In-loop-i) _ _ (reached (goal.at.keep_quota-requires c).At-loop-i)
      ∙ sym (leaf_shares_none c.has.result c.has-leaf.result (get_or c.args.sums.now c.loop-i.i 0) c.due-due.result.0
      c.account_of-in-loop-i.result c.open_class-one.result c.open_class-one.ensures leaf),
)

pub keep-requires-in-loop-i : goal.keep-requires-in-loop-i
keep-requires-in-loop-i c = omega (
  arith,
  low (goal.at.keep-requires-in-loop-i c).In-loop-i,
)

pub loop-i-preserved : goal.loop-i-preserved
loop-i-preserved c =
    let leaf = c.has-leaf.ensures ∙ ap (λ (s : ℕ). has s c.loop-i.i)
    c.leaves-leaves.ensures in
    let due = c.due-due.ensures ∙ due_is (goal.at.loop-i-preserved c).In-loop-i _ _ c.weight-w.ensures c.parent-p.ensures in (
      omega arith,
      omega (arith, low (goal.at.loop-i-preserved c).In-loop-i),
      λ accounts can begins.
          rw c.keep_quota.ensures
          (opening_on _ _ _ _ can c.loop-i.i c.loop-i.invariant.0 (low (goal.at.loop-i-preserved c).In-loop-i) _ _ (c.loop-i.invariant.2 accounts can begins) _ _
          c.args.sums.now c.requires.1
          c.has.ensures leaf due c.account_of-in-loop-i.ensures c.open_class-one.ensures c.keep-in-loop-i.ensures),
    )

pub returns : goal.returns
returns c =
    opening_ends _ _ _ _ c.requires.0 _ _ c.loop-i.i c.loop-i.invariant.0 c.loop-i.invariant.1
    (omega (
      arith,
      c.loop-i-test.false,
      c.count-i-end.ensures,
    )) (reached (goal.at.returns c).At-loop-i)

-- after the last class's turn
pub returns-2 : goal.returns-2
returns-2 c =
    let leaf = c.has-leaf.ensures ∙ ap (λ (s : ℕ). has s c.loop-i.i) c.leaves-leaves.ensures in
    let due = c.due-due.ensures ∙ due_is (goal.at.returns-2 c).In-loop-i _ _ c.weight-w.ensures c.parent-p.ensures in
    let low = low (goal.at.returns-2 c).In-loop-i in
    let opened =
    opening_on _ _ _ _ c.requires.0 c.loop-i.i c.loop-i.invariant.0 low _ _ (reached (goal.at.returns-2 c).At-loop-i) _ _
    c.args.sums.now c.requires.1 c.has.ensures leaf due c.account_of-in-loop-i.ensures c.open_class-one.ensures c.keep-in-loop-i.ensures
    in
    opening_ends _ _ _ _ c.requires.0 _ _ (c.loop-i.i + 1) (omega arith) (omega (arith, low)) (omega (arith, c.count-i-end.ensures)) opened
