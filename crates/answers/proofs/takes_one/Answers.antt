-- `answers::takes_one` meets its contract: it compares the room left, the definition the room needed.
use mathlib.Core.Bool.{Bool, true, false}
use mathlib.Core.Path.{◌≡◌, refl, sym, ◌∙◌}
use Prim.Native.Nat.{ℕ, ◌+◌, ◌-◌, ◌≤◌}
use native.Mathlib.Omega.{arith}
use lib.Dec.{leb}
use borrow.Author.Tests.{le-leb, lt-leb, leb-true, leb-false}
use Rattle.answers.proofs.takes_one.Goals as goal

room_same : (need laid room : ℕ) → laid ≤ room → leb need (room - laid) ≡ leb (laid + need) room
room_same need laid room h = go (leb need (room - laid)) refl
  where
    go : (b : Bool) → leb need (room - laid) ≡ b → leb need (room - laid) ≡ leb (laid + need) room
    go true e = e ∙ sym (le-leb (laid + need) room (omega (arith, leb-true need (room - laid) e)))
    go false e = e ∙ sym (lt-leb (laid + need) room (omega (arith, leb-false need (room - laid) e)))

pub returns-then-more : goal.returns-then-more
returns-then-more c = let a = c.args in rw c.if-more.true (room_same a.need a.laid a.room c.requires)
