-- Numbers of a packed command, big-endian, its parts, and where the next one begins; what lies past the end reads as 0. No rule of its own.
use Rattle.std.specs.Prelude.{cond, ◌||◌, List, [], ℕ, ◌+◌, ◌*◌, ◌-◌, ltb, length, take, drop}
use Rattle.plan.specs.Record.{number32}

-- the number of eight bytes at a place
abbrev pub number64 : List ℕ → ℕ → ℕ
number64 s k = number32 s k * 4_294_967_296 + number32 s (k + 4)

-- the bytes from one place to another; none where there are not so many
abbrev pub slice_of : List ℕ → ℕ → ℕ → List ℕ
slice_of s from to = cond (ltb (length s) to || ltb to from) [] (take (to - from) (drop from s))
