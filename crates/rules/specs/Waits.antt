-- A packet waits somewhere (R119): what an opening needs to find someone to share out to. Demands 2 and 3.
use Rattle.std.specs.Prelude.{true, ◌≡◌, ℕ, ◌≤◌, length}
use Rattle.tree.specs.Class.{is_class, is_leaf}
use Rattle.state.specs.State.{State, queue_at}

-- some leaf holds a packet
pub record Waits (s : State) : Type 0 where
  pub leaf : ℕ
  pub class : is_class s.tree leaf ≡ true
  pub is_leaf : is_leaf s.tree leaf ≡ true
  pub holds : 1 ≤ length (queue_at s leaf)
