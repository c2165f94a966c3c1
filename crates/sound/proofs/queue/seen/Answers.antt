-- `queue::seen` meets its contract.
use Rattle.std.proofs.Common.{◌≡◌, ℕ, ◌+◌, ◌-◌, ◌%◌, ◌<◌, cond, eqb, refl, arith, rules, le-ltb, lt-ltb, eq-eqb, ne_eqb}
use native.Mathlib.Decide.{ℕ_discrete}
use Rattle.sound.specs.Steps.{seen_of}
use Rattle.sound.proofs.queue.seen.Goals as goal

pub returns-then-held-turn : goal.returns-then-held-turn
unfolding seen_of
returns-then-held-turn c = rw (le-ltb _ _ c.if-held-turn.true) refl

-- the length less 1, wrapped
less_one : (length r : ℕ) → length < 65_536 → r < 65_536 → (r + 1) % 65_536 ≡ length → r ≡ cond (eqb length 0) 65_535 (length - 1)
less_one length r u v e = go (ℕ_discrete length 0)
  where
    go : Dec (length ≡ 0) → r ≡ cond (eqb length 0) 65_535 (length - 1)
    go (yes z) = rw (eq-eqb length 0 z) (omega (arith, u, v, e, z))
    go (no z) = rw (ne_eqb length 0 z) (omega (arith, u, v, e, z))

pub returns : goal.returns
unfolding seen_of
returns c =
    let fits : c.wrapping_sub_u16.result < 65_536 = search rules in
    rw (lt-ltb _ _ c.if-held-turn.false)
    (less_one c.args.length c.wrapping_sub_u16.result (omega (arith, c.ranges.length.fits)) fits c.wrapping_sub_u16.ensures.value)
