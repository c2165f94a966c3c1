-- `sound::classes_right` meets its contract.
use Rattle.std.proofs.Common.{◌≡◌, ℕ, ◌+◌, ◌-◌, ◌*◌, ◌<◌, ◌≤◌, List, get_or}
use Rattle.tree.specs.Class.{longest_of, of_child}
use Rattle.tree.specs.Size.{most_size}
use Rattle.tree.proofs.Down.{Added}
use Rattle.shape.specs.Shape.{tree_in}
use Rattle.state.specs.Account.{zip_accounts}
use Rattle.sound.specs.Sound.{total}
use Rattle.sound.specs.Steps.{view_of, link_in, ClassRight}
use Rattle.sound.proofs.Totals.{funds_below}
use Rattle.sound.proofs.classes_right.Given as goal

-- a bare number is its own value
abbrev pub number : ℕ → ℕ
number n = n

abbrev pub invariant-loop-i : goal.invariant-loop-i
invariant-loop-i l =
    (l.i ≤ 64)
    × (l.sum.0 + funds_below (zip_accounts l.balance l.residual) l.i ≡ total (zip_accounts l.balance l.residual))
    × (l.sum.0 ≤ (64 - l.i) * (2 * most_size))
    × (1 ≤ l.i → Added 0 number 63 64 (of_child (tree_in l.shape) (λ j. get_or l.packets j 0)) l.waiting (l.i - 1))
    × (1 ≤ l.i → Added 0 number 63 64 (of_child (tree_in l.shape) (λ j. get_or l.bytes j 0)) l.cost (l.i - 1))
    × ((tags marks : List ℕ) (charged k : ℕ) → l.i ≤ k → k < 64
    → ClassRight (view_of (link_in l.shape l.size l.active l.place l.balance l.residual l.start l.held l.lengths tags marks l.packets l.bytes charged) k) l.lengths
    (longest_of (tree_in l.shape) k))
