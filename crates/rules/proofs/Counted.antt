-- What the totals tell (R279): a packet waits exactly when the root counts one, the root counts all that wait, and no total is large.
-- Demand 2.
use mathlib.Core.Bool.{Bool, true, false}
use mathlib.Core.Path.{◌≡◌, refl, sym, ◌∙◌}
use Prim.Native.Nat.{ℕ, ◌*◌, ◌≤◌, ◌<◌}
use native.Mathlib.Omega.{arith}
use lib.Dec.{leb}
use lib.ListN.{length, get_or}
use borrow.Author.Tests.{le-leb, lt-leb, leb-false}
use Rattle.checks.proofs.Laws.{not_true_and_false}
use Rattle.tree.specs.Class.{is_leaf}
use Rattle.tree.specs.Below.{leaves_sum}
use Rattle.tree.specs.Sum.{sum_to}
use Rattle.tree.proofs.Leaves.{leaf_known, leaf_least, leaf_sum, root_some, root_none, root_all, sum_most}
use Rattle.tree.proofs.Rules.{few_classes, leaf_number, longest_range}
use Rattle.tree.proofs.Sums.{some_found}
use Rattle.units.specs.Cost.{cost_of, most_cost}
use Rattle.units.proofs.Laws.{cost_ceiling}
use Rattle.state.specs.Queue.{no_packet, bytes_in}
use Rattle.state.specs.declared.Link.{Link}
use Rattle.state.specs.State.{State, meaning, queue_at}
use Rattle.state.proofs.Bytes.{bytes_rest, bytes_most}
use Rattle.sound.specs.Sound.{Sound, SoundLink}
use Rattle.rules.specs.Active.{waits, some_waits}
use Rattle.rules.proofs.Meanings.{waits_leaf}
use Rattle.rules.proofs.Taken.{leaf_class_lem}

-- a packet at a leaf waits
held_waits : (s : State) → Sound s → (j : ℕ) → is_leaf s.tree j ≡ true → leb 1 (length (queue_at s j)) ≡ true → some_waits s ≡ true
unfolding some_waits waits
held_waits s sound j leaf h =
    some_found (waits s) s.tree.count j (leaf_least s.tree sound.fits.tree j leaf)
    (leaf_known s.tree sound.fits.tree j leaf) (rw (leaf, h) refl)

-- a packet waits exactly when the root's total is at least 1: refusal 15 can be read from it
pub root_counts_some : (s : State) → Sound s → some_waits s ≡ leb 1 (get_or s.totals.packets 0 0)
root_counts_some s sound = go (some_waits s) refl
  where
    held : ℕ → ℕ
    held j = length (queue_at s j)

    root : get_or s.totals.packets 0 0 ≡ leaves_sum s.tree held 0
    root = (sound.totals 0 (omega arith)).packets

    none : some_waits s ≡ false → (j : ℕ) → is_leaf s.tree j ≡ true → held j ≡ 0
    none e j leaf = at (leb 1 (held j)) refl
      where
        at : (b : Bool) → leb 1 (held j) ≡ b → held j ≡ 0
        at true h = absurd (not_true_and_false (held_waits s sound j leaf h) e)
        at false h = omega (arith, leb-false 1 (held j) h)

    go : (b : Bool) → some_waits s ≡ b → some_waits s ≡ leb 1 (get_or s.totals.packets 0 0)
    go true e =
        let w = waits_leaf s e in
        e ∙ sym (le-leb 1 (get_or s.totals.packets 0 0) (omega (
          arith,
          root,
          w.holds,
          root_some s.tree sound.fits.tree held w.leaf w.is_leaf,
        )))
    go false e =
        e ∙ sym (lt-leb 1 (get_or s.totals.packets 0 0) (omega (arith, root, root_none s.tree sound.fits.tree held (none e))))

-- and the root counts all that wait
pub root_counts : (s : State) → Sound s → get_or s.totals.packets 0 0 ≡ sum_to (λ i. length (queue_at s i)) 63
root_counts s sound =
    (sound.totals 0 (omega arith)).packets
    ∙ root_all s.tree sound.fits.tree (λ i. length (queue_at s i)) (λ i u f. (sound.holds i u).other f)

-- no total is above what 63 full leaves hold
pub totals_ceiling : (s : State) (i : ℕ) → Sound s → i < 64
    → (get_or s.totals.packets i 0 ≤ 63 * 32) × (get_or s.totals.bytes i 0 ≤ 63 * (32 * most_cost))
totals_ceiling s i sound u =
    let t = s.tree in
    let rules = sound.fits.tree in
    let few = few_classes t rules in
    let right = sound.totals i u in (
      omega (
        arith,
        few,
        right.packets,
        sum_most t rules (λ j. length (queue_at s j)) 32 i (λ j f. (sound.holds j (leaf_number t j rules f)).few f),
      ),
      omega (arith, few, right.bytes, sum_most t rules (λ j. bytes_in (queue_at s j)) (32 * most_cost) i each),
    )
  where
    each : (j : ℕ) → is_leaf s.tree j ≡ true → bytes_in (queue_at s j) ≤ 32 * most_cost
    each j f =
        let rules = sound.fits.tree in
        let v = leaf_number s.tree j rules f in
        let is = leaf_class_lem s.tree j rules v f in
        let longest = (longest_range s.tree j (rules.each.longests j is) f).1 in
        let most =
        bytes_most (queue_at s j) most_cost
        (λ m w. cost_ceiling (get_or (queue_at s j) m no_packet).length (omega (arith, longest, ((sound.holds j v).range f m w).high)))
        in
        omega (arith, most, (sound.holds j v).few f)

-- a leaf counts its first packet
pub leaf_counts : (l : Link) (i : ℕ) → SoundLink l → is_leaf l.tree i ≡ true → 1 ≤ length (queue_at (meaning l) i)
    → (1 ≤ get_or l.totals.packets i 0) × (cost_of (get_or (queue_at (meaning l) i) 0 no_packet).length ≤ get_or l.totals.bytes i 0)
leaf_counts l i sound leaf some =
    let s = meaning l in
    let rules = sound.state.fits.tree in
    let right = sound.state.totals i (leaf_number l.tree i rules leaf) in (
      omega (arith, right.packets, leaf_sum l.tree rules (λ j. length (queue_at s j)) i leaf, some),
      omega (arith, right.bytes, leaf_sum l.tree rules (λ j. bytes_in (queue_at s j)) i leaf, bytes_rest (queue_at s i) some),
    )
