-- `size::walk` meets its contract: class by class downward, each is judged by what the classes after it have added, and adds itself.
use mathlib.Core.Path.{◌≡◌}
use Prim.Native.Nat.{ℕ, ◌-◌, ◌≤◌, ◌<◌}
use Rattle.tree.specs.Class.{weight_of, of_child}
use Rattle.tree.specs.Size.{longest_cost}
use Rattle.shape.specs.Steps.{ClassObeys, children_after}
use Rattle.tree.specs.Sum.{sum_to}
use Rattle.tree.proofs.Down.{Added}
use Rattle.shape.specs.Shape.{tree_in}
use Rattle.shape.proofs.Kin.{FamiliesAfter}
use Rattle.shape.proofs.size.walk.Given as goal

-- a bare number is its own value
abbrev pub number : ℕ → ℕ
number n = n

abbrev pub invariant-loop-i : goal.invariant-loop-i
invariant-loop-i l =
    let tree = tree_in l.shape in
    (l.i ≤ tree.count)
    × Added 0 number tree.count 64 (of_child tree (weight_of tree)) l.sums l.i
    × (l.weights ≡ sum_to (weight_of tree) tree.count - sum_to (weight_of tree) l.i)
    × (l.packets ≡ sum_to (longest_cost tree) tree.count - sum_to (longest_cost tree) l.i)
    × ((k : ℕ) → l.i < k → k ≤ tree.count → ClassObeys tree k (children_after tree k))
    × FamiliesAfter tree l.i l.children
