-- A packet at its acceptance: it waits behind those that waited there, and the number that falls while it waits starts within the bound,
-- which fits 64 bits. Demand 3.
use mathlib.Core.Bool.{true}
use mathlib.Core.List.{[], ◌∷◌, ◌++◌}
use mathlib.Core.Path.{◌≡◌, ap, ◌∙◌}
use Prim.Native.Nat.{ℕ, suc, ◌+◌, ◌-◌, ◌*◌, ◌^◌, ◌≤◌, ◌<◌}
use native.Mathlib.Nat.{add-mul, mul_comm, mul-le-mul, mul-le-mul_left}
use native.Mathlib.Omega.{arith}
use lib.ListN.{length, get_or, length-set}
use lib.Seq.{take_all}
use Rattle.std.specs.Prelude.{Ok}
use Rattle.checks.specs.Check.{first_broken}
use Rattle.units.specs.Cost.{most_cost}
use Rattle.units.proofs.Laws.{cost_ceiling}
use Rattle.tree.specs.Class.{weight_of, is_leaf}
use Rattle.tree.proofs.Rules.{weight_range, longest_range, size_ceiling}
use Rattle.tree.specs.Size.{round_size, most_size}
use Rattle.state.specs.declared.Packet.{Packet}
use Rattle.state.specs.Account.{balance_of}
use Rattle.state.specs.Mark.{marked_with}
use Rattle.state.specs.Queue.{no_packet, bytes_in}
use Rattle.state.specs.State.{State, queue_at}
use Rattle.state.proofs.Bytes.{bytes_most}
use Rattle.sound.specs.Sound.{Sound}
use Rattle.rules.specs.Wide.{Wide}
use Rattle.rules.proofs.Taken.{leaf_class_lem}
use Rattle.calls.specs.Arrival.{arrival_checks, arrived}
use Rattle.calls.proofs.Arrivals.{taken, length_arrived, arrival_keeps}
use Rattle.wait.specs.Wait.{over_rounded_up, bound}
use Rattle.wait.proofs.Credit.{Holds, bytes_up_to, lacking, mains, falling, credit_most, holds_weight}
use Rattle.wait.proofs.RoundedUp.{up_grows, up_most}

-- a bound fits a 64-bit number: at most 32 packets of at most 9,240 charged bytes wait in a queue, and Q is at most 63,582,120
pub bound_fits : (d w q : ℕ) → d ≤ 32 * most_cost → w ≤ 1_000_000 → q ≤ most_size → bound d w q < 2 ^ 64
bound_fits d w q few light size =
    let over : over_rounded_up d w + 1 ≤ 32 * most_cost + 1_000_001 = omega (arith, up_most d w) in
    omega (arith, mul-le-mul over size)

-- that of any leaf of a sound state does
leaf_bound_small : (s : State) (i : ℕ) → Sound s → i < 64 → is_leaf s.tree i ≡ true
    → bound (bytes_in (queue_at s i)) (weight_of s.tree i) (round_size s.tree) < 2 ^ 64
leaf_bound_small s i sound u leaf =
    let rules = sound.fits.tree in
    let is = leaf_class_lem s.tree i rules u leaf in
    let longest = (longest_range s.tree i (rules.each.longests i is) leaf).1 in
    let each =
    bytes_most (queue_at s i) most_cost
    (λ j v. cost_ceiling (get_or (queue_at s i) j no_packet).length (omega (arith, longest, ((sound.holds i u).range leaf j v).high)))
    in
    bound_fits (bytes_in (queue_at s i)) (weight_of s.tree i) (round_size s.tree)
    (omega (arith, each, (sound.holds i u).few leaf))
    (weight_range s.tree i (rules.each.weights i is)).1
    (size_ceiling s.tree rules)

module _ (s : State) (i : ℕ) (p : Packet) (sound : Sound s) (wide : Wide s) (u : i < 64)
    (accepted : first_broken (arrival_checks true s i p) ≡ Ok tt) where
  inside : i < length s.queues
  inside = omega (arith, wide.queues)

  after : Sound (arrived s i p)
  after = arrival_keeps s i p u wide.queues sound (taken true s i p accepted)

  -- the packet waits behind those that waited there
  pub accepted_holds : Holds (arrived s i p) i (length (queue_at s i))
  accepted_holds = record {
    sound = after;
    wide = record {
      accounts = wide.accounts;
      queues = length-set s.queues i (queue_at s i ++ (marked_with s.totals.charged p ∷ []))
          ∙ wide.queues;
    };
    low = u;
    leaf = (taken true s i p accepted).leaf;
    behind = omega (arith, length_arrived s i p inside);
  }

  -- so the bytes up to it are all of its queue
  accepted_bytes : bytes_up_to (arrived s i p) i (length (queue_at s i)) ≡ bytes_in (queue_at (arrived s i p) i)
  unfolding bytes_up_to
  accepted_bytes =
      ap bytes_in (take_all (suc (length (queue_at s i))) (queue_at (arrived s i p) i) (omega (arith, length_arrived s i p inside)))

  -- and the number that falls starts within the bound
  pub starts_within : falling (arrived s i p) i (length (queue_at s i)) ≤ bound (bytes_in (queue_at (arrived s i p) i)) (weight_of s.tree i)
      (round_size s.tree)
  unfolding falling mains lacking
  starts_within =
      let d = bytes_in (queue_at (arrived s i p) i) in
      let w = weight_of s.tree i in
      let left = bytes_up_to (arrived s i p) i (length (queue_at s i)) - balance_of s.round.accounts i in
      let less = up_grows left d w (holds_weight (arrived s i p) i (length (queue_at s i)) accepted_holds) (omega (arith, accepted_bytes)) in
      omega (
        arith,
        credit_most (arrived s i p) after,
        mul-le-mul_left (round_size s.tree) less,
        mul_comm (round_size s.tree) (over_rounded_up d w),
        add-mul (over_rounded_up d w) 1 (round_size s.tree),
      )

  -- the bound is a number of the link: it fits 64 bits
  pub fits_64 : bound (bytes_in (queue_at (arrived s i p) i)) (weight_of s.tree i) (round_size s.tree) < 2 ^ 64
  fits_64 = leaf_bound_small (arrived s i p) i after u (taken true s i p accepted).leaf
