-- The clauses on who has asked, class by class and as flags; no rule of its own.
use Rattle.std.specs.Prelude.{true, ◌&&◌, not, ◌≡◌, ℕ, ◌<◌}
use Rattle.sets.specs.Set.{has}
use Rattle.published.specs.Asking.{Published}
use Rattle.published.specs.Sound.{AskedParent, CanPay, AskedBehind}
use Rattle.asking.specs.declared.right.Flags.{Flags}

-- this is the set of the classes that are active and have no quota yet
pub record YetToAsk (active asked still : ℕ) : Type 0 where
  pub at : (i : ℕ) → i < 64 → has still i ≡ (has active i && not (has asked i))

pub record FlagsRight (v : Flags) : Type 0 where
  pub up_is : v.class ≡ true → v.on ≡ true → v.asked ≡ true → v.up ≡ true
  pub pays_is : v.asked ≡ true → v.pays ≡ true
  pub asked_is : v.leaf ≡ true → v.on ≡ true → v.behind ≡ true → v.asked ≡ true

-- the three clauses at class i, and at every class
pub record ClassAsked (x : Published) (i : ℕ) : Type 0 where
  pub parent : AskedParent x i
  pub pay : CanPay x i
  pub behind : AskedBehind x i

pub record AskedRight (x : Published) : Type 0 where
  pub at : (i : ℕ) → i < 64 → ClassAsked x i
