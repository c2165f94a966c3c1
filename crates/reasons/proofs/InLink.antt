-- The reasons in the numbers of a sound link: what it means is the state (R207 to R210).
use mathlib.Core.Bool.{true, false}
use mathlib.Core.Path.{◌≡◌, sym, ap, ◌∙◌}
use Prim.Native.Nat.{ℕ, ◌+◌, ◌≤◌, ◌<◌}
use native.Mathlib.Omega.{arith}
use lib.ListN.{get_or}
use Rattle.sets.specs.Set.{has}
use Rattle.units.specs.Cost.{cost_of}
use Rattle.tree.specs.Class.{is_leaf}
use Rattle.tree.proofs.Rules.{leaf_number}
use Rattle.state.specs.declared.Link.{Link}
use Rattle.state.specs.declared.Waiting.{Waiting}
use Rattle.state.specs.Account.{balance_of}
use Rattle.state.specs.Queue.{start_of, held_of, slot}
use Rattle.state.specs.State.{meaning}
use Rattle.state.proofs.Meaning.{meaning_held, meaning_first}
use Rattle.state.proofs.Queues.{packet_first}
use Rattle.sound.specs.Sound.{SoundLink}
use Rattle.rules.specs.Sending.{first_of}
use Rattle.reasons.specs.Reason.{HoldsNone, NotInRound, Lacks, StillDue}
use Rattle.reasons.proofs.OneReason.{lacks_some}

module _ (l : Link) (sound : SoundLink l) (i : ℕ) (leaf : is_leaf l.tree i ≡ true) where
  pub leaf_low : i < 64
  leaf_low = leaf_number l.tree i sound.state.fits.tree leaf

  pub start_low : start_of l i < 32
  start_low = omega (arith, (sound.starts i leaf_low).start)

  pub holds_none : held_of l i ≡ 0 → HoldsNone (meaning l) i
  holds_none e = record { none = meaning_held l i leaf_low ∙ e }

  pub not_in_round : 1 ≤ held_of l i → has l.round.active i ≡ false → NotInRound (meaning l) i
  not_in_round some e = record { some = omega (arith, meaning_held l i leaf_low); out = e }

  pub still_due : has l.round.active i ≡ true → l.round.place ≤ i → StillDue (meaning l) i
  still_due on ahead = record { in_round_lem = on; ahead = ahead }

  module _ (on : has l.round.active i ≡ true) (below : i < l.round.place) (at : ℕ) (here : at ≡ slot i (start_of l i)) where
    -- its first packet is at the start of its queue
    first_is : get_or l.lengths at 0 ≡ (first_of (meaning l) i).length
    first_is =
        let some : 1 ≤ held_of l i = omega (arith, meaning_held l i leaf_low, (sound.state.waiting i leaf_low).waits leaf on) in
        ap (λ (k : ℕ). get_or l.lengths k 0) here
        ∙ sym (ap (λ (p : Waiting). p.length) (meaning_first l i leaf_low some ∙ packet_first l i start_low))

    pub lacks_in : balance_of l.round.accounts i < cost_of (get_or l.lengths at 0)
    lacks_in = rw first_is (lacks_some (meaning l) sound.state i leaf on below)

    pub short_by : (n : ℕ) → balance_of l.round.accounts i + n ≡ cost_of (get_or l.lengths at 0) → Lacks (meaning l) i n
    short_by n e = record {
      in_round_lem = on;
      below = below;
      some = omega (arith, e, lacks_in);
      exact = e ∙ ap cost_of first_is;
    }
