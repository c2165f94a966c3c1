-- A state as the record of the code has it: an account and a queue for every class number. No rule of its own.
use Rattle.std.specs.Prelude.{◌≡◌, length}
use Rattle.state.specs.State.{State}

pub record Wide (s : State) : Type 0 where
  pub accounts : length s.round.accounts ≡ 64
  pub queues : length s.queues ≡ 64
