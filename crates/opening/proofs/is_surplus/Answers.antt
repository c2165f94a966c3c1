-- `opening::is_surplus` meets its contract.
use mathlib.Core.Bool.{Bool, false, cond, ◌&&◌}
use mathlib.Core.Path.{◌≡◌, sym, ap, ◌∙◌}
use Prim.Native.Nat.{ℕ, ◌+◌, ◌-◌, ◌^◌, ◌≤◌, ◌<◌}
use native.Mathlib.Decide.{dec_lt}
use native.Mathlib.Omega.{arith}
use Rattle.sets.specs.Set.{has}
use Rattle.tree.specs.declared.Tree.{Tree}
use Rattle.shape.specs.Shape.{tree_in}
use Rattle.tree.proofs.Sums.{some_found, none_more, some_never}
use Rattle.tree.proofs.Classes.{class_in_lem}
use Rattle.tree.proofs.Rules.{few_classes}
use Rattle.rules.specs.Opening.{main, surplus, has_surplus, kind_of}
use Rattle.state.specs.Account.{zip_accounts}
use Rattle.opening.proofs.Openings.{surplus_by, not_inner}
use Rattle.opening.proofs.is_surplus.Goals as goal
use Rattle.opening.proofs.is_surplus.Goals.{After-both-inner, After-class_surplus, In-loop-i, Start}

abbrev treeAt : Start → Tree
treeAt st = tree_in st.args.shape.now

-- a class that is not among the active inner ones has none
passed_over_lem : (b : After-both-inner) → (k : ℕ) → k < 64 → has b.both-inner.result k ≡
    false
    → has_surplus (treeAt (goal.at.After-both-inner b).Start) b.args.active (zip_accounts b.args.balance.now b.args.residual.now) k ≡ false
passed_over_lem b k h none =
    not_inner (treeAt (goal.at.After-both-inner b).Start) b.args.active _ k h b.requires.0.rules.unset.word
    (ap (λ (s : ℕ). has b.args.active k && has (2 ^ 64 - 1 - s) k) (sym b.leaves-leaves.ensures) ∙ sym (b.both-inner.ensures.both k) ∙ none)

-- what holds before a number and from it on
near_or_far : (f : ℕ → Bool) (n : ℕ) → ((k : ℕ) → 1 ≤ k → k < n → f k ≡ false) → (k : ℕ) → 1 ≤ k → (n ≤ k → f k ≡ false) → f k ≡ false
near_or_far f n near k l far = go (dec_lt k n)
  where
    go : Dec (k < n) → f k ≡ false
    go (yes h) = near k l h
    go (no h) = far (omega (arith, h))

pub loop-i-init : goal.loop-i-init
loop-i-init c =
    let n = c.next-i.ensures in
    (n.low, n.high, λ k l h. passed_over_lem (goal.at.loop-i-init c).After-both-inner k (omega (arith, h, n.high)) (n.between k l h))

-- the loop's class, and whether it has a surplus
at_hand : (g : In-loop-i) → g.loop-i.i ≤ (treeAt (goal.at.In-loop-i g).Start).count
at_hand g = omega (arith, g.loop-i-test.true, g.count-last.ensures)

low : (g : In-loop-i) → g.loop-i.i < 64
low g = omega (arith, few_classes (treeAt (goal.at.In-loop-i g).Start) g.requires.0.rules, at_hand g)

abbrev surplus-at : In-loop-i → ℕ → Bool
surplus-at g =
    has_surplus (treeAt (goal.at.In-loop-i g).Start) g.args.active (zip_accounts g.args.balance.now g.args.residual.now)

said : (c : After-class_surplus) → surplus-at (goal.at.After-class_surplus c).In-loop-i c.loop-i.i ≡ c.class_surplus.result
said c =
    let a = c.args in
    let leaf = c.has-in-loop-i.ensures ∙ ap (λ (s : ℕ). has s c.loop-i.i) c.leaves-leaves.ensures in
    sym (surplus_by (treeAt (goal.at.After-class_surplus c).Start) a.active _ c.loop-i.i (low (goal.at.After-class_surplus c).In-loop-i) a.sums.now
    (class_in_lem (treeAt (goal.at.After-class_surplus c).Start) c.loop-i.i c.loop-i.invariant.0 (at_hand (goal.at.After-class_surplus c).In-loop-i))
    c.requires.1 leaf c.has.ensures c.account_of.ensures)
    ∙ sym c.class_surplus.ensures

pub has-requires : goal.has-requires
has-requires c = low c

pub has-requires-in-loop-i : goal.has-requires-in-loop-i
has-requires-in-loop-i c = low (goal.at.has-requires-in-loop-i c).In-loop-i

pub offset_bounds-sums-i : goal.offset_bounds-sums-i
offset_bounds-sums-i c = omega (arith, low (goal.at.offset_bounds-sums-i c).In-loop-i)

pub bounds-sums-i : goal.bounds-sums-i
bounds-sums-i c = low (goal.at.bounds-sums-i c).In-loop-i

pub account_of-requires : goal.account_of-requires
account_of-requires c = (
  low (goal.at.account_of-requires c).In-loop-i,
  c.requires.0.many,
)

pub class_surplus-requires : goal.class_surplus-requires
class_surplus-requires c = rw c.account_of.ensures (c.requires.0.small c.loop-i.i (low (goal.at.class_surplus-requires c).In-loop-i))

pub returns-then-class_surplus : goal.returns-then-class_surplus
unfolding kind_of
returns-then-class_surplus c =
    let count = (treeAt (goal.at.returns-then-class_surplus c).Start).count in
    let found = some_found (surplus-at (goal.at.returns-then-class_surplus c).In-loop-i) count c.loop-i.i c.loop-i.invariant.0 (at_hand (goal.at.returns-then-class_surplus c).In-loop-i) (said (goal.at.returns-then-class_surplus c).After-class_surplus ∙ c.if-class_surplus.true) in
    sym (ap (λ (b : Bool). cond b surplus main) found)

pub overflow_add-i : goal.overflow_add-i
overflow_add-i c = omega (arith, low (goal.at.overflow_add-i c).In-loop-i)

pub next-i-requires-in-loop-i : goal.next-i-requires-in-loop-i
next-i-requires-in-loop-i c = omega (arith, low (goal.at.next-i-requires-in-loop-i c).In-loop-i)

pub loop-i-smaller : goal.loop-i-smaller
loop-i-smaller c = omega (arith, low (goal.at.loop-i-smaller c).In-loop-i, c.next-i-in-loop-i.ensures.low)

pub loop-i-preserved : goal.loop-i-preserved
loop-i-preserved c =
    let n = c.next-i-in-loop-i.ensures in
    let so_far = none_more (surplus-at (goal.at.loop-i-preserved c).In-loop-i) c.loop-i.i c.loop-i.invariant.2 (said (goal.at.loop-i-preserved c).After-class_surplus ∙ c.if-class_surplus.false) in (
      omega (arith, n.low),
      n.high,
      λ k l u. near_or_far (surplus-at (goal.at.loop-i-preserved c).In-loop-i) (c.loop-i.i + 1) so_far k l
          (λ far. passed_over_lem (goal.at.loop-i-preserved c).After-both-inner k (omega (arith, u, n.high)) (n.between k far u)),
    )

pub returns : goal.returns
unfolding kind_of
returns c =
    let t = treeAt (goal.at.returns c).Start in
    let f = has_surplus t c.args.active (zip_accounts c.args.balance.now c.args.residual.now) in
    sym (ap (λ (b : Bool). cond b surplus main) (some_never f t.count (λ k l m. c.loop-i.invariant.2 k l (omega (
      arith,
      m,
      c.loop-i-test.false,
      c.count-last.ensures,
    )))))
