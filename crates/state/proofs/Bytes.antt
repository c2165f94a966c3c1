-- Laws of the bytes of a queue: its first packet's among them, the rest without it, and no more than its packets can cost. Demand 3.
use Rattle.std.proofs.Common.{◌≡◌, ℕ, suc, ◌+◌, ◌*◌, ◌<◌, ◌≤◌, List, [], ◌∷◌, ◌++◌, length, get_or, take, drop, refl, suc-mul, arith}
use Rattle.units.specs.Cost.{cost_of}
use Rattle.state.specs.declared.Waiting.{Waiting}
use Rattle.state.specs.Queue.{no_packet, bytes_in}

-- the first packet's are among them
pub bytes_first : (q : List Waiting) (k : ℕ) → k < length q → cost_of (get_or q 0 no_packet).length ≤ bytes_in (take (suc k) q)
unfolding bytes_in
bytes_first [] k h = absurd (omega arith)
bytes_first (p ∷ q) k h = omega arith

-- a packet more
pub bytes_more : (q : List Waiting) (p : Waiting) → bytes_in (q ++ (p ∷ [])) ≡ bytes_in q + cost_of p.length
unfolding bytes_in
bytes_more [] p = omega arith
bytes_more (x ∷ q) p = omega (arith, bytes_more q p)

-- all but the first
pub bytes_rest : (q : List Waiting) → 1 ≤ length q → bytes_in q ≡ cost_of (get_or q 0 no_packet).length + bytes_in (drop 1 q)
unfolding bytes_in
bytes_rest [] h = absurd (omega arith)
bytes_rest (p ∷ q) h = refl

-- without the first packet there is one packet less
pub bytes_without : (q : List Waiting) (k : ℕ) → suc k < length q
    → bytes_in (take (suc (suc k)) q) ≡ cost_of (get_or q 0 no_packet).length + bytes_in (take (suc k) (drop 1 q))
unfolding bytes_in
bytes_without [] k h = absurd (omega arith)
bytes_without (p ∷ q) k h = refl

-- a queue of packets that cost at most m each
pub bytes_most : (q : List Waiting) (m : ℕ) → ((j : ℕ) → j < length q → cost_of (get_or q j no_packet).length ≤ m) → bytes_in q ≤ length q * m
unfolding bytes_in
bytes_most [] m h = omega arith
bytes_most (p ∷ q) m h =
    let one = h 0 (omega arith) in
    let rest = bytes_most q m (λ j u. h (suc j) (omega arith)) in
    omega (arith, one, rest, suc-mul (length q) m)
