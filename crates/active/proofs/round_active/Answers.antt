-- `active::round_active` meets its contract.
use mathlib.Core.Bool.{true, ◌&&◌}
use mathlib.Core.List.{List}
use mathlib.Core.Path.{◌≡◌, sym, ap, subst, ◌∙◌}
use Prim.Native.Nat.{ℕ, ◌<◌}
use native.Mathlib.Omega.{arith}
use lib.Dec.{leb}
use lib.ListN.{get_or}
use Rattle.sets.specs.Set.{has, Both}
use Rattle.tree.specs.declared.Tree.{Tree}
use Rattle.tree.specs.Class.{is_leaf}
use Rattle.tree.proofs.Classes.{both_true}
use Rattle.tree.proofs.Rules.{few_classes}
use Rattle.shape.specs.Shape.{tree_in}
use Rattle.rules.specs.Steps.{holds_some}
use Rattle.rules.proofs.Waiting.{upward_same}
use Rattle.active.proofs.Raised.{raised_is}
use Rattle.active.proofs.round_active.Goals as goal
use Rattle.active.proofs.round_active.Goals.{After-waiting_leaves-waiting, Start}

-- the tree
abbrev treeAt : Start → Tree
treeAt st = tree_in st.args.shape.now

-- who waits, by class number
waits_at : (c : After-waiting_leaves-waiting) (i : ℕ) → i < 64
    → has c.waiting_leaves-waiting.result i ≡ holds_some (treeAt (goal.at.After-waiting_leaves-waiting c).Start) c.args.held.now i
unfolding holds_some is_leaf
waits_at c i u =
    c.waiting_leaves-waiting.ensures i u
    ∙ ap (λ (s : ℕ). has s i && leb 1 (get_or c.args.held.now i 0)) c.leaves-leaves.ensures

-- and such a class is a leaf
holds_leaf : (t : Tree) (held : List ℕ) (i : ℕ) → holds_some t held i ≡ true → is_leaf t i ≡ true
unfolding holds_some
holds_leaf t held i e = (both_true (is_leaf t i) _ e).0

pub returns-then-waiting-both : goal.returns-then-waiting-both
returns-then-waiting-both c =
    let a = c.args in
    raised_is (treeAt (goal.at.returns-then-waiting-both c).Start) a.known a.held.now c.waiting_leaves-waiting.result c.both.result c.requires.0 c.requires.1 (waits_at (goal.at.returns-then-waiting-both c).After-waiting_leaves-waiting)
    (subst (λ (s : ℕ). Both a.known s c.both.result) c.leaves-leaves.ensures c.both.ensures) c.if-waiting-both.true

pub above-requires : goal.above-requires
above-requires c =
    (c.requires.0, λ i u on. holds_leaf (treeAt (goal.at.above-requires c).Start) c.args.held.now i (sym (waits_at (goal.at.above-requires c).After-waiting_leaves-waiting i u) ∙ on))

pub returns : goal.returns
returns c =
    let t = treeAt (goal.at.returns c).Start in
    c.above.ensures
    ∙ upward_same t (has c.waiting_leaves-waiting.result) (holds_some t c.args.held.now)
    (λ i l u. waits_at (goal.at.returns c).After-waiting_leaves-waiting i (omega (arith, few_classes t c.requires.0)))
