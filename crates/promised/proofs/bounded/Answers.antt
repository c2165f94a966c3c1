-- `promised::bounded` meets its contract: a D that the leaf's places can hold, and the ranges of the plan rules.
use native.Mathlib.Omega.{arith}
use Rattle.units.proofs.Laws.{cost_ceiling}
use Rattle.tree.specs.Class.{longest_of}
use Rattle.tree.proofs.Rules.{weight_range, longest_range, size_ceiling}
use Rattle.rules.proofs.Taken.{leaf_class_lem}
use Rattle.promised.proofs.bounded.Goals as goal

pub bound_of-requires : goal.bound_of-requires
bound_of-requires c =
    let t = c.args.tree in
    let i = c.args.class in
    let rules = c.requires.0 in
    let leaf = c.requires.1 in
    let is = leaf_class_lem t i rules c.requires.4 leaf in
    let weight = weight_range t i (rules.each.weights i is) in
    let longest = (longest_range t i (rules.each.longests i is) leaf).1 in (
      omega (arith, c.requires.2, cost_ceiling (longest_of t i) longest),
      weight.0,
      weight.1,
      omega (arith, c.requires.3, size_ceiling t rules),
    )
