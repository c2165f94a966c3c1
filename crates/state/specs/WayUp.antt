-- Totals counted anew where one packet comes or goes: on the way up from its leaf, and nowhere else (R277). Demand 2.
use Rattle.std.specs.Prelude.{ℕ, ◌+◌, ◌-◌, Bool, cond}
use Rattle.tree.specs.declared.Tree.{Tree}
use Rattle.tree.specs.Below.{changed_up}
use Rattle.state.specs.declared.Totals.{Totals}

-- a number more by another, or less
abbrev pub changed : Bool → ℕ → ℕ → ℕ
changed fewer by n = cond fewer (n - by) (n + by)

-- the totals with one packet of this charge more, or less, at class i and at every class above it (R277)
abbrev pub recounted : Bool → Tree → ℕ → ℕ → Totals → Totals
recounted fewer t i charge totals = record {
  packets = changed_up t (changed fewer 1) i totals.packets;
  bytes = changed_up t (changed fewer charge) i totals.bytes;
  charged = totals.charged;
}
