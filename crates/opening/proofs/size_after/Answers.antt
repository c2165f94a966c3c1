-- `opening::size_after` meets its contract.
use mathlib.Core.Bool.{true, false}
use mathlib.Core.Path.{◌≡◌, refl, sym, ◌∙◌}
use Prim.Native.Nat.{ℕ}
use Rattle.tree.specs.declared.Tree.{Tree}
use Rattle.tree.specs.Size.{round_size}
use Rattle.shape.specs.Shape.{tree_in}
use Rattle.rules.specs.Sizes.{active_size, main_size}
use Rattle.opening.proofs.size_after.Goals as goal

main_active : (t : Tree) (active : ℕ) → t.follows ≡ true → active_size t active ≡ main_size t active
unfolding main_size
main_active t active e = rw e refl

main_whole : (t : Tree) (active : ℕ) → t.follows ≡ false → round_size t ≡ main_size t active
unfolding main_size
main_whole t active e = rw e refl

pub returns-then-surplus : goal.returns-then-surplus
returns-then-surplus c = rw c.if-surplus.true refl

pub active_size-requires : goal.active_size-requires
active_size-requires c = c.requires.0

pub returns-then-follows : goal.returns-then-follows
returns-then-follows c =
    let a = c.args in
    rw c.if-surplus.false
    (c.active_size.ensures ∙ main_active (tree_in a.shape.now) a.active (sym c.follows.ensures ∙ c.if-follows.true))

pub returns : goal.returns
returns c =
    let a = c.args in
    let off = sym c.follows.ensures ∙ c.if-follows.false in
    rw c.if-surplus.false (c.requires.1.whole off ∙ main_whole (tree_in a.shape.now) a.active off)
