-- What the inner functions of the crate ask; no rule of its own.
use Rattle.std.specs.Prelude.{cond, ◌≡◌, ℕ, ◌+◌, ◌≤◌, ltb, length, set}
use Rattle.units.specs.declared.Weight.{Weight}
use Rattle.tree.specs.declared.Tree.{Tree}
use Rattle.tree.specs.Rules.{ClassesPass}
use Rattle.mended.specs.declared.Changes.{Changes}

-- a tree that the records gave: numbers 3 to 6 are broken nowhere
pub record ReadTree (t : Tree) : Type 0 where
  pub few : t.count ≤ 63
  pub each : ClassesPass t
  pub weights : length t.weight ≡ 64

-- the changes with one more, where the weight of the class is another
abbrev pub noted : Changes → ℕ → Weight → Weight → Changes
noted c i old new = cond (ltb old.0 new.0) (record {
  count = c.count + 1;
  at = set c.at c.count (record { class = i; old = old; new = new });
}) c
