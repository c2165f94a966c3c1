-- The search for the next leaf, over what is lent of a link.
use mathlib.Core.List.{List}
use mathlib.Core.Path.{◌≡◌, ap, ◌∙◌}
use Prim.Native.Nat.{ℕ, ◌-◌, ◌<◌}
use lib.Dec.{leb}
use lib.ListN.{get_or}
use Rattle.sets.specs.Set.{Next}
use Rattle.units.specs.Cost.{cost_of}
use Rattle.state.specs.declared.Link.{Link}
use Rattle.state.specs.Queue.{slot}
use Rattle.state.specs.State.{meaning}
use Rattle.rules.specs.Sending.{ready, first_from, next_leaf}
use Rattle.rules.proofs.Searching.{leaf_skip, leaf_ready}
use Rattle.steps.specs.Fields.{Searched}

module _ (l : Link) (leaves place : ℕ) (balance start lengths : List ℕ) (s : Searched l leaves place balance start lengths) where
  -- it starts at the place
  pub seek_starts : next_leaf (meaning l) ≡ first_from (ready (meaning l)) (64 - place) place
  unfolding next_leaf
  seek_starts = ap (λ (p : ℕ). first_from (ready (meaning l)) (64 - p) p) s.at

  -- passes what is before the next leaf i
  pub seek_skips : (at i : ℕ) → Next leaves at i → first_from (ready (meaning l)) (64 - at) at ≡ first_from (ready (meaning l)) (64 - i) i
  seek_skips at i n = leaf_skip l leaves at i s.both n

  -- which sends where its balance covers the packet at its start
  pub seek_ready : (at i cost : ℕ) → Next leaves at i → i < 64 → cost ≡ cost_of (get_or lengths (slot i (get_or start i 0)) 0)
      → ready (meaning l) i ≡ leb cost (get_or balance i 0)
  seek_ready at i cost n u e = leaf_ready l leaves at i s.both n s.sound u ∙ rw (s.balances i u, s.lying, s.starts, e)
