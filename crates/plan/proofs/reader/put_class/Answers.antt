-- `reader::put_class` meets its contract: number 3, then numbers 4, 5 and 6.
use mathlib.Core.Path.{refl, sym, ◌∙◌}
use Prim.Native.Nat.{◌+◌}
use native.Mathlib.Omega.{arith}
use borrow.Author.Tests.{lt-ltb, le-ltb}
use Rattle.checks.proofs.Laws.{decides, pass_over}
use Rattle.tree.specs.Rules.{too_many}
use Rattle.plan.proofs.reader.put_class.Goals as goal

pub returns-then-tree-ge-MOST : goal.returns-then-tree-ge-MOST
unfolding too_many
returns-then-tree-ge-MOST c = decides _ _ (lt-ltb 63 (c.args.tree.count + 1) (omega arith))

pub class_fault-v-requires : goal.class_fault-v-requires
class_fault-v-requires c = rw c.added-grown.ensures (omega arith)

pub returns-in-Ok : goal.returns-in-Ok
unfolding too_many
returns-in-Ok c =
    let e = rw c.added-grown.ensures at c.class_fault-v.ensures in (
      pass_over _ _ (le-ltb 63 (c.args.tree.count + 1) (omega arith)) ∙ sym e ∙ c.in-Ok.is,
      refl,
      c.added-grown.ensures,
    )

pub returns-in-Err : goal.returns-in-Err
unfolding too_many
returns-in-Err c =
    let e = rw c.added-grown.ensures at c.class_fault-v.ensures in
    pass_over _ _ (le-ltb 63 (c.args.tree.count + 1) (omega arith)) ∙ sym e ∙ c.in-Err.is
