-- `opening::begin_round` meets its contract.
use mathlib.Core.Bool.{Bool}
use mathlib.Core.Path.{◌≡◌, sym, ap, ◌∙◌}
use Prim.Native.Nat.{ℕ, ◌≤◌}
use native.Mathlib.Omega.{arith}
use Rattle.tree.specs.declared.Tree.{Tree}
use Rattle.tree.specs.Rules.{PlanRules}
use Rattle.tree.specs.Size.{most_size, SizeRight}
use Rattle.tree.proofs.Rules.{size_ceiling}
use Rattle.shape.specs.Shape.{tree_in}
use Rattle.rules.specs.Opening.{Kind, main, surplus, kind_is, kind_of, size_in, resized}
use Rattle.rules.proofs.Sizes.{main_right}
use Rattle.state.specs.Account.{zip_accounts}
use borrow.Author.Rules.{rules}
use Rattle.opening.proofs.begin_round.Goals as goal
use Rattle.opening.proofs.begin_round.Goals.{After-resize}

-- the size in force fits
in_most : (k : Kind) (t : Tree) (active size : ℕ) → PlanRules t → SizeRight t size → size_in k t active size ≤ most_size
in_most main t active size rules right = omega (arith, (main_right t active).most, size_ceiling t rules)
in_most surplus t active size rules right = omega (arith, right.most, size_ceiling t rules)

pub is_surplus-surplus-requires : goal.is_surplus-surplus-requires
is_surplus-surplus-requires c = let pre = c.requires in (pre.0.before, pre.1)

pub size_after-after-requires : goal.size_after-after-requires
size_after-after-requires c = let pre = c.requires in (pre.0.before.rules, pre.0.right)

pub resize-requires : goal.resize-requires
resize-requires c =
    let a = c.args in
    let can = c.requires.0 in (
      can.before.many,
      can.before.small 0 (omega arith),
      omega (
        arith,
        c.size_after-after.ensures,
        in_most (kind_is c.is_surplus-surplus.result) (tree_in a.shape.now) a.active a.size.0
            can.before.rules can.right,
      ),
      λ r.
          omega (
            arith,
            c.size_after-after.ensures ∙ ap (λ (b : Bool). size_in (kind_is b) (tree_in a.shape.now) a.active a.size.0) r,
            can.covers (sym c.is_surplus-surplus.ensures ∙ ap kind_is r),
          ),
    )

-- the accounts that are shared out
shared : (c : After-resize)
    → zip_accounts c.resize.new.balance c.resize.new.residual
    ≡ resized (kind_of (tree_in c.args.shape.now)
    c.args.active
    (zip_accounts c.args.balance.now
    c.args.residual.now))
    c.args.size.0
    (size_in (kind_of (tree_in c.args.shape.now)
    c.args.active
    (zip_accounts c.args.balance.now
    c.args.residual.now))
    (tree_in c.args.shape.now) c.args.active
    c.args.size.0)
    (zip_accounts c.args.balance.now
    c.args.residual.now)
shared c =
    let a = c.args in
    let xs = zip_accounts a.balance.now a.residual.now in
    c.resize.ensures
    ∙ ap (λ (m : ℕ). resized (kind_is c.is_surplus-surplus.result) a.size.0 m xs) c.size_after-after.ensures
    ∙ ap (λ (k : Kind). resized k a.size.0 (size_in k (tree_in a.shape.now) a.active a.size.0) xs) c.is_surplus-surplus.ensures

pub returns : goal.returns
returns c =
    let a = c.args in
    record {
      kind_is_lem = c.is_surplus-surplus.ensures;
      size_is = c.size_after-after.ensures ∙ ap (λ (x : Kind). size_in x (tree_in a.shape.now) a.active a.size.0) c.is_surplus-surplus.ensures;
      accounts_are = shared c;
    }
