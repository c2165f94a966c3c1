-- Where weights and bytes meet, in four places and nowhere else (R9 to R13). Demand 2.
use Rattle.std.specs.Prelude.{Bool, ℕ, ◌+◌, ◌*◌, ◌/◌, leb}

-- weight times fair quota gives bytes (R10)
abbrev pub due_of : ℕ → ℕ → ℕ
due_of weight quota = weight * quota

-- balance over a weight sum, rounded down, gives a fair quota (R11)
abbrev pub quota_of : ℕ → ℕ → ℕ
quota_of balance sum = balance / sum

-- the surplus test reads a weight sum as bytes: what is held is at or above it (R12)
abbrev pub surplus_of : ℕ → ℕ → Bool
surplus_of funds sum = leb sum funds

-- the round size adds weights to bytes (R13)
abbrev pub size_of : ℕ → ℕ → ℕ
size_of weights packets = weights + packets
