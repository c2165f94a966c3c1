-- The running total of bytes charged on the link, and a waiting packet's mark (R308 to R311). Demands 2 and 3.
use Rattle.std.specs.Prelude.{ℕ, ◌+◌, ◌-◌, ◌%◌, ◌^◌}
use Rattle.state.specs.declared.Packet.{Packet}
use Rattle.state.specs.declared.Totals.{Totals}
use Rattle.state.specs.declared.Waiting.{Waiting}

-- a packet waits with a mark: the running total when it was accepted (R309)
abbrev pub marked_with : ℕ → Packet → Waiting
marked_with total p = record { length = p.length; tag = p.tag; mark = total }

-- and goes without it
abbrev pub unmarked : Waiting → Packet
unmarked p = record { length = p.length; tag = p.tag }

-- a number in 64 bits, that wraps (R308)
abbrev pub wrapped : ℕ → ℕ
wrapped n = n % 2 ^ 64

-- the total less the mark, modulo 2 to the power 64 (R311)
abbrev pub since : ℕ → ℕ → ℕ
since total mark = (total + (2 ^ 64 - mark % 2 ^ 64)) % 2 ^ 64

-- the totals with this running total, and with a charge that has joined it (R308, R310)
abbrev pub charged_to : Totals → ℕ → Totals
charged_to totals charged = record { packets = totals.packets; bytes = totals.bytes; charged = charged }

abbrev pub charged_more : Totals → ℕ → Totals
charged_more totals charge = charged_to totals (wrapped (totals.charged + charge))
