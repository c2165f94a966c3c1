-- The laws of the search for the next leaf: which numbers it passes and where it ends. Demand 2.
use mathlib.Core.Bool.{Bool, true, false, ◌&&◌}
use mathlib.Core.Path.{◌≡◌, sym, ap, ◌∙◌}
use Prim.Native.Nat.{ℕ, zero, suc, ◌+◌, ◌-◌, ◌%◌, ◌≤◌, ◌<◌}
use native.Mathlib.Omega.{arith}
use lib.Dec.{leb}
use lib.ListN.{get_or}
use Rattle.sets.specs.Set.{has, Both, Next}
use Rattle.units.specs.Cost.{cost_of}
use Rattle.tree.specs.Class.{is_leaf}
use Rattle.tree.proofs.Classes.{both_true}
use Rattle.state.specs.declared.Link.{Link}
use Rattle.state.specs.declared.Waiting.{Waiting}
use Rattle.state.specs.Account.{balance_of}
use Rattle.state.specs.Queue.{start_of, held_of, slot}
use Rattle.state.specs.State.{State, meaning}
use Rattle.state.proofs.Meaning.{meaning_held, meaning_first}
use Rattle.sound.specs.Sound.{SoundLink}
use Rattle.rules.specs.Sending.{first_of, ready, first_from}

-- one step
first_over : (f : ℕ → Bool) (n p : ℕ) → f p ≡ false → first_from f (suc n) p ≡ first_from f n (suc p)
unfolding first_from
first_over f n p e = rw (e, first_from)

first_here : (f : ℕ → Bool) (n p : ℕ) → f p ≡ true → first_from f (suc n) p ≡ p
unfolding first_from
first_here f n p e = rw (e, first_from)

-- the numbers from p to before p + m are passed
skip_by : (f : ℕ → Bool) (m p : ℕ) → p + m ≤ 64 → ((k : ℕ) → p ≤ k → k < p + m → f k ≡ false)
    → first_from f (64 - p) p ≡ first_from f (64 - (p + m)) (p + m)
skip_by f zero p h out =
    let e : p + zero ≡ p = omega arith in
    rw e
skip_by f (suc m) p h out =
    let e : 64 - p ≡ suc (64 - suc p) = omega arith in
    let e' : p + suc m ≡ suc p + m = omega arith in
    rw (e, e')
    (first_over f (64 - suc p) p (out p (omega arith) (omega arith))
    ∙ skip_by f m (suc p) (omega arith) (λ k l u. out k (omega arith) (omega arith)))

-- numbers for which f does not hold are passed
pub first_skip : (f : ℕ → Bool) (p r : ℕ) → p ≤ r → r ≤ 64 → ((k : ℕ) → p ≤ k → k < r → f k ≡ false)
    → first_from f (64 - p) p ≡ first_from f (64 - r) r
first_skip f p r h u out =
    let e : r ≡ p + (r - p) = omega arith in
    rw e (skip_by f (r - p) p (omega arith) (λ k l v. out k l (omega arith)))

-- the search ends at a number for which f holds, and at 64
pub first_hit : (f : ℕ → Bool) (p : ℕ) → p < 64 → f p ≡ true → first_from f (64 - p) p ≡ p
first_hit f p h e =
    let n : 64 - p ≡ suc (64 - suc p) = omega arith in
    rw n (first_here f (64 - suc p) p e)

pub first_end : (f : ℕ → Bool) (p : ℕ) → p ≡ 64 → first_from f (64 - p) p ≡ 64
unfolding first_from
first_end f p e = rw e

-- where f does not hold at p, the search goes on after it
pub first_pass : (f : ℕ → Bool) (p : ℕ) → p < 64 → f p ≡ false → first_from f (64 - p) p ≡ first_from f (64 - (p + 1)) (p + 1)
first_pass f p h e =
    let n : 64 - p ≡ suc (64 - suc p) = omega arith in
    let n' : p + 1 ≡ suc p = omega arith in
    rw (n, n') (first_over f (64 - suc p) p e)

-- a class that is no active leaf does not send
pub ready_unset : (s : State) (k : ℕ) → (has s.round.active k && is_leaf s.tree k) ≡ false → ready s k ≡ false
unfolding ready
ready_unset s k e = rw e

-- an active leaf sends where its balance covers its first packet
pub ready_is : (s : State) (k : ℕ) → (has s.round.active k && is_leaf s.tree k) ≡ true
    → ready s k ≡ leb (cost_of (first_of s k).length) (balance_of s.round.accounts k)
unfolding ready
ready_is s k e = rw e

-- in a sound link its first packet lies at its start
pub ready_at : (l : Link) (k : ℕ) → SoundLink l → k < 64 → (has l.round.active k && is_leaf l.tree k) ≡ true
    → ready (meaning l) k ≡ leb (cost_of (get_or l.lengths (slot k (start_of l k)) 0)) (balance_of l.round.accounts k)
ready_at l k s u e =
    let w = both_true (has l.round.active k) (is_leaf l.tree k) e in
    let held : 1 ≤ held_of l k = rw (meaning_held l k u) at ((s.state.waiting k u).waits w.1 w.0) in
    let start : (start_of l k + 0) % 32 ≡ start_of l k = omega (arith, (s.starts k u).start) in
    ready_is (meaning l) k e
    ∙ ap (λ (p : Waiting). leb (cost_of p.length) (balance_of l.round.accounts k)) (meaning_first l k u held)
    ∙ ap (λ (n : ℕ). leb (cost_of (get_or l.lengths (slot k n) 0)) (balance_of l.round.accounts k)) start

-- the next class i, from a place on, of the set of the active leaves
module _ (l : Link) (leaves p i : ℕ) (b : Both l.round.active l.tree.leaves leaves) (n : Next leaves p i) where
  -- the search passes what is before it
  pub leaf_skip : first_from (ready (meaning l)) (64 - p) p ≡ first_from (ready (meaning l)) (64 - i) i
  unfolding is_leaf
  leaf_skip =
      first_skip (ready (meaning l)) p i n.low n.high (λ k lo hi. ready_unset (meaning l) k (sym (b.both k) ∙ n.between k lo hi))

  -- and it sends where its balance covers the packet at its start
  pub leaf_ready : SoundLink l → i < 64
      → ready (meaning l) i ≡ leb (cost_of (get_or l.lengths (slot i (start_of l i)) 0)) (balance_of l.round.accounts i)
  unfolding is_leaf
  leaf_ready s u = ready_at l i s u (sym (b.both i) ∙ n.found u)
