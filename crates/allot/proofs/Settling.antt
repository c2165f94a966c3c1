-- Laws of sharing out class by class upward (R71 to R76): one class more is settled, and those before it stay as they are.
use mathlib.Core.Bool.{Bool, true, false, cond}
use mathlib.Core.List.{List}
use mathlib.Core.Path.{◌≡◌, ap, ◌∙◌}
use Prim.Native.Nat.{ℕ, ◌-◌, ◌*◌, ◌≤◌, ◌<◌, min}
use native.Mathlib.Decide.{dec_le, ℕ_discrete}
use native.Mathlib.Omega.{arith}
use lib.Dec.{leb}
use lib.ListN.{length, set, replicate, length-set, length-replicate, get_or-replicate, get_or-eq_default}
use lib.Seq.{get_or-set_same, get_or-set_other}
use Rattle.tree.specs.declared.Tree.{Tree}
use Rattle.tree.specs.Class.{parent_of, weight_of}
use Rattle.tree.specs.Rules.{PlanRules}
use Rattle.tree.proofs.Rules.{parent_below}
use Rattle.allot.specs.declared.Shares.{Shares}
use Rattle.allot.specs.Request.{entry}
use Rattle.allot.specs.Steps.{Splits, Settles, Settled, child_gets}

-- what a child gets is at most its request
pub gets_within : (has asked request weight f : ℕ) → child_gets has asked request weight f ≤ request
unfolding child_gets
gets_within has asked request weight f = go (leb asked has)
  where
    go : (b : Bool) → cond b request (min request (weight * f)) ≤ request
    go true = omega arith
    go false = omega arith

-- a table of zeros has 0 everywhere
pub none_at : (i : ℕ) → entry (replicate 64 0) i ≡ 0
none_at i = go (dec_le 64 i)
  where
    go : Dec (64 ≤ i) → entry (replicate 64 0) i ≡ 0
    go (yes h) =
        let past : length {A = ℕ} (replicate 64 0) ≤ i = omega (arith, length-replicate {A = ℕ} 64 0) in
        get_or-eq_default (replicate 64 0) 0 past
    go (no h) = get_or-replicate 64 i 0 0 (omega arith)

-- nothing is shared out yet
abbrev pub no_shares : Shares
no_shares = record { gets = replicate 64 0; fair = replicate 64 0; unallotted = replicate 64 0 }

module _ (t : Tree) (requests : List ℕ) where
  -- the root is settled first
  pub settled_root : (has : ℕ) (r : Shares) → Settles t requests no_shares 0 has r → Settled t (entry requests) has 0 r
  settled_root has r e = record {
    root = here;
    part = λ i l u. absurd (omega arith);
    splits = λ p u.
        let z : p ≡ 0 = omega arith in
        rw (z, here, fair, left) e.splits;
    past = λ i u. (
      ap (λ (xs : List ℕ). entry xs i) e.gets ∙ get_or-set_other (replicate 64 0) 0 i has 0 (λ z. omega arith) ∙ none_at i,
      ap (λ (xs : List ℕ). entry xs i) e.unallotted ∙ get_or-set_other (replicate 64 0) 0 i e.split.left 0 (λ z. omega arith)
          ∙ none_at i,
    );
    entries =
        (long r.gets has e.gets, long r.fair e.split.fair e.fair, long r.unallotted e.split.left e.unallotted);
  }
    where
      size : length {A = ℕ} (replicate 64 0) ≡ 64
      size = length-replicate {A = ℕ} 64 0

      first : (xs : List ℕ) (x : ℕ) → xs ≡ set (replicate 64 0) 0 x → entry xs 0 ≡ x
      first xs x q = ap (λ (ys : List ℕ). entry ys 0) q ∙ get_or-set_same (replicate 64 0) 0 x 0 (omega (arith, size))

      long : (xs : List ℕ) (x : ℕ) → xs ≡ set (replicate 64 0) 0 x → length xs ≡ 64
      long xs x q = ap length q ∙ length-set (replicate 64 0) 0 x ∙ size

      here : entry r.gets 0 ≡ has
      here = first r.gets has e.gets

      fair : entry r.fair 0 ≡ e.split.fair
      fair = first r.fair e.split.fair e.fair

      left : entry r.unallotted 0 ≡ e.split.left
      left = first r.unallotted e.split.left e.unallotted

  -- then one class more
  pub settled_more : (has gets i : ℕ) (s r : Shares) → PlanRules t → 1 ≤ i → i < 64 → Settled t (entry requests) has (i - 1) s
      → Settles t requests s i gets r
      → gets ≡ child_gets (entry s.gets (parent_of t i)) (entry requests (parent_of t i)) (entry requests i) (weight_of t i)
      (entry s.fair (parent_of t i))
      → Settled t (entry requests) has i r
  settled_more has gets i s r rules l u st e due = record {
    root = kept_gets 0 (λ z. omega arith) ∙ st.root;
    part = λ k a b. part k a b (ℕ_discrete k i);
    splits = λ p b. splits p b (ℕ_discrete p i);
    past =
        λ k b. (kept_gets k (λ z. omega arith) ∙ (st.past k (omega arith)).0, kept_left k (λ z. omega arith) ∙ (st.past k (omega arith)).1);
    entries = (
      ap length e.gets ∙ length-set s.gets i gets ∙ st.entries.0,
      ap length e.fair ∙ length-set s.fair i e.split.fair ∙ st.entries.1,
      ap length e.unallotted ∙ length-set s.unallotted i e.split.left ∙ st.entries.2,
    );
  }
    where
      kept : (xs ys : List ℕ) (x k : ℕ) → xs ≡ set ys i x → (k ≡ i → ⊥) → entry xs k ≡ entry ys k
      kept xs ys x k q ne = ap (λ (zs : List ℕ). entry zs k) q ∙ get_or-set_other ys i k x 0 ne

      put : (xs ys : List ℕ) (x : ℕ) → xs ≡ set ys i x → length ys ≡ 64 → entry xs i ≡ x
      put xs ys x q long = ap (λ (zs : List ℕ). entry zs i) q ∙ get_or-set_same ys i x 0 (omega arith)

      kept_gets : (k : ℕ) → (k ≡ i → ⊥) → entry r.gets k ≡ entry s.gets k
      kept_gets k ne = kept r.gets s.gets gets k e.gets ne

      kept_fair : (k : ℕ) → (k ≡ i → ⊥) → entry r.fair k ≡ entry s.fair k
      kept_fair k ne = kept r.fair s.fair e.split.fair k e.fair ne

      kept_left : (k : ℕ) → (k ≡ i → ⊥) → entry r.unallotted k ≡ entry s.unallotted k
      kept_left k ne = kept r.unallotted s.unallotted e.split.left k e.unallotted ne

      new_gets : entry r.gets i ≡ gets
      new_gets = put r.gets s.gets gets e.gets st.entries.0

      new_fair : entry r.fair i ≡ e.split.fair
      new_fair = put r.fair s.fair e.split.fair e.fair st.entries.1

      new_left : entry r.unallotted i ≡ e.split.left
      new_left = put r.unallotted s.unallotted e.split.left e.unallotted st.entries.2

      low : parent_of t i < i
      low = parent_below t i rules l u

      part : (k : ℕ) → 1 ≤ k → k ≤ i → Dec (k ≡ i)
          → entry r.gets k
          ≡ child_gets (entry r.gets (parent_of t k)) (entry requests (parent_of t k)) (entry requests k) (weight_of t k)
          (entry r.fair (parent_of t k))
      part k a b (yes q) =
          rw (q, new_gets, kept_gets (parent_of t i) (λ z. omega (arith, low)), kept_fair (parent_of t i) (λ z. omega (arith, low))) due
      part k a b (no ne) =
          let lower = parent_below t k rules a (omega arith) in
          rw (kept_gets k ne, kept_gets (parent_of t k) (λ z. omega arith), kept_fair (parent_of t k) (λ z. omega arith))
          (st.part k a (omega arith))

      splits : (p : ℕ) → p ≤ i → Dec (p ≡ i) → Splits t (entry requests) p (entry r.gets p) (entry r.fair p) (entry r.unallotted p)
      splits p b (yes q) = rw (q, new_gets, new_fair, new_left) e.splits
      splits p b (no ne) = rw (kept_gets p ne, kept_fair p ne, kept_left p ne) (st.splits p (omega arith))
