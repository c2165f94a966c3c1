-- What a packet costs on the link, in bytes: its charge (R14 to R18). Demands 2 and 3.
use Rattle.std.specs.Prelude.{ℕ, ◌+◌, max}

-- the charge of a length, as IEEE 802.3 puts it on the wire: 4 bytes of frame check sequence, a frame of at least 64 bytes, and 20 bytes
-- of preamble, start delimiter and interframe gap (R14, R15)
unfoldable pub cost_of : ℕ → ℕ
cost_of length = max (length + 4) 64 + 20

-- what the longest packet costs, of 9,216 bytes (R18)
abbrev pub most_cost : ℕ
most_cost = 9_240
