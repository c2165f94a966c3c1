-- The active set of a new round: the leaves that hold a packet, and every class above one. Demand 2.
use mathlib.Core.Bool.{Bool, true, false, ◌&&◌}
use mathlib.Core.Logic.{inl, inr}
use mathlib.Core.Path.{◌≡◌, refl, sym, ap, subst, ◌∙◌}
use Prim.Native.Nat.{ℕ, zero, suc, ◌^◌, ◌≤◌, ◌<◌}
use native.Mathlib.Decide.{dec_le, ℕ_discrete}
use native.Mathlib.Omega.{arith}
use lib.Dec.{leb}
use lib.ListN.{length}
use borrow.Author.Tests.{le-leb, leb-true}
use Rattle.checks.proofs.Laws.{not_true_and_false}
use Rattle.sets.specs.Set.{has}
use Rattle.tree.specs.declared.Tree.{Tree}
use Rattle.tree.specs.Class.{parent_of, is_class, is_leaf}
use Rattle.tree.specs.Rules.{PlanRules}
use Rattle.tree.proofs.Classes.{both_true, class_in_lem, class_range}
use Rattle.tree.specs.Below.{at_or_below, Below, child, under, Above}
use Rattle.tree.proofs.Sums.{some_found, some_which}
use Rattle.tree.proofs.Rules.{few_classes, parent_lower, parent_no_leaf, weight_range}
use Rattle.state.specs.State.{State, queue_at}
use Rattle.sound.specs.Sound.{Sound}
use Rattle.sound.proofs.Active.{ActiveChild, ByChild, ByLeaf, child_to_leaf}
use Rattle.rules.specs.Active.{waits, some_waits, some_below, upward, round_active, weight_sum}
use Rattle.rules.specs.Opening.{opened_with}
use Rattle.rules.proofs.Sums.{within_sum}
use Rattle.rules.proofs.Waiting.{set_has, set_past, set_fits, some_self, some_parent, SelfOrChild, some_split}

-- a leaf is a class
pub leaf_class_lem : (t : Tree) (i : ℕ) → PlanRules t → i < 64 → is_leaf t i ≡ true → is_class t i ≡ true
leaf_class_lem t i rules u leaf = go (is_class t i) refl
  where
    go : (b : Bool) → is_class t i ≡ b → is_class t i ≡ true
    go true e = e
    go false e = absurd (not_true_and_false leaf ((rules.unset.at i u).past e).leaf)

-- a leaf has no child
pub leaf_childless : (t : Tree) (i k : ℕ) → PlanRules t → is_leaf t i ≡ true → is_class t k ≡ true → parent_of t k ≡ i → ⊥
leaf_childless t i k rules leaf is e = not_true_and_false leaf (subst (λ (x : ℕ). is_leaf t x ≡ false) e (parent_no_leaf t k rules is))

-- so of those that w tells, and every class above one, it is one exactly where w tells it
pub upward_leaf : (t : Tree) (w : ℕ → Bool) (i : ℕ) → PlanRules t → is_class t i ≡ true → is_leaf t i ≡ true → has (upward t w) i ≡ w i
unfolding SelfOrChild upward
upward_leaf t w i rules is leaf =
    set_has (some_below t w) t.count i (class_range t i is).1 ∙ go (some_below t w i) (w i) refl refl
  where
    some : SelfOrChild t rules w i → w i ≡ true
    some (inl h) = h.1
    some (inr h) = absurd (leaf_childless t i h.0 rules leaf h.1 h.2)

    go : (a b : Bool) → some_below t w i ≡ a → w i ≡ b → a ≡ b
    go true b e f = sym (some (some_split t rules w i e)) ∙ f
    go false true e f = sym e ∙ some_self t rules w i is f
    go false false e f = refl

-- what is below a class is a class
pub below_class : (t : Tree) (a i : ℕ) → Below t a i → is_class t i ≡ true
below_class t a i (child j is e) = is
below_class t a i (under j is b) = is

-- where the parent of an active class is active, any active class makes the root active
climb_root : (t : Tree) (active : ℕ) → PlanRules t → ((i : ℕ) → is_class t i ≡ true → has active i ≡ true → has active (parent_of t i) ≡ true)
    → (n i : ℕ) → i ≤ n → i ≤ t.count → has active i ≡ true → has active 0 ≡ true
climb_root t active rules up zero i a u e =
    let z : i ≡ 0 = omega arith in
    rw z at e
climb_root t active rules up (suc n) i a u e = go (ℕ_discrete i 0) (λ k b v f. climb_root t active rules up n k b v f)
  where
    go : Dec (i ≡ 0) → ((k : ℕ) → k ≤ n → k ≤ t.count → has active k ≡ true → has active 0 ≡ true) → has active 0 ≡ true
    go (yes z) ih = rw z at e
    go (no z) ih =
        let is = class_in_lem t i (omega arith) u in
        let low = parent_lower t i rules is in
        ih (parent_of t i) (omega arith) (omega arith) (up i is e)

module _ (s : State) (rules : PlanRules s.tree) where
  -- a class is taken in where a leaf that holds a packet is at or below it
  taken_at : (i : ℕ) → i ≤ s.tree.count → has (round_active s) i ≡ some_below s.tree (waits s) i
  unfolding round_active upward
  taken_at i u = set_has (some_below s.tree (waits s)) s.tree.count i u

  -- no number past the last class is taken in, and the set fits
  pub taken_past : (i : ℕ) → s.tree.count < i → has (round_active s) i ≡ false
  unfolding round_active upward
  taken_past i u = set_past (some_below s.tree (waits s)) s.tree.count i u

  pub taken_fits : round_active s < 2 ^ 64
  unfolding round_active upward
  taken_fits = set_fits (some_below s.tree (waits s)) s.tree.count (omega (arith, few_classes s.tree rules))

  -- what waits is a leaf that holds a packet
  waits_leaf : (i : ℕ) → waits s i ≡ true → is_leaf s.tree i ≡ true
  unfolding waits
  waits_leaf i e = (both_true (is_leaf s.tree i) _ e).0

  waits_some : (i : ℕ) → waits s i ≡ true → leb 1 (length (queue_at s i)) ≡ true
  unfolding waits
  waits_some i e = (both_true (is_leaf s.tree i) _ e).1

  waits_is : (i : ℕ) → is_leaf s.tree i ≡ true → leb 1 (length (queue_at s i)) ≡ true → waits s i ≡ true
  unfolding waits
  waits_is i leaf e = rw (leaf, e)

  -- a leaf is taken in exactly where it holds a packet
  pub taken_leaf : (i : ℕ) → is_class s.tree i ≡ true → is_leaf s.tree i ≡ true → has (round_active s) i ≡ leb 1 (length (queue_at s i))
  unfolding round_active waits
  taken_leaf i is leaf = upward_leaf s.tree (waits s) i rules is leaf ∙ rw leaf refl

  -- so a leaf taken in holds one, and a leaf that holds one is taken in
  pub taken_waits : (i : ℕ) → is_class s.tree i ≡ true → is_leaf s.tree i ≡ true → has (round_active s) i ≡ true
      → 1 ≤ length (queue_at s i)
  taken_waits i is leaf e = leb-true 1 (length (queue_at s i)) (sym (taken_leaf i is leaf) ∙ e)

  pub waits_taken : (i : ℕ) → is_class s.tree i ≡ true → is_leaf s.tree i ≡ true → 1 ≤ length (queue_at s i)
      → has (round_active s) i ≡ true
  waits_taken i is leaf h = taken_leaf i is leaf ∙ le-leb 1 (length (queue_at s i)) h

  -- the parent of a class taken in is taken in
  pub taken_up : (i : ℕ) → is_class s.tree i ≡ true → has (round_active s) i ≡ true → has (round_active s) (parent_of s.tree i) ≡ true
  taken_up i is e =
      let r = class_range s.tree i is in
      let low = parent_lower s.tree i rules is in
      taken_at (parent_of s.tree i) (omega arith)
      ∙ some_parent s.tree rules (waits s) i is (sym (taken_at i r.1) ∙ e)

  -- a class above is taken in exactly where a child of it is
  pub taken_by_child : ByChild s.tree (round_active s)
  unfolding SelfOrChild
  taken_by_child = record {
    has_child_lem = λ i ab e. down i ab (some_split s.tree rules (waits s) i (sym (taken_at i ab.class) ∙ e));
    from_child = λ i ab c. ap (has (round_active s)) (sym c.parent) ∙ taken_up c.child' c.class c.is_active;
  }
    where
      down : (i : ℕ) → Above s.tree i → SelfOrChild s.tree rules (waits s) i → ActiveChild s.tree (round_active s) i
      down i ab (inl h) = absurd (not_true_and_false (waits_leaf i h.1) ab.inner)
      down i ab (inr h) = record {
        child' = h.0;
        class = h.1;
        parent = h.2;
        is_active = taken_at h.0 (class_range s.tree h.0 h.1).1 ∙ h.3;
      }

  -- and exactly where a leaf below it is
  pub taken_by_leaf : ByLeaf s.tree (round_active s)
  taken_by_leaf = child_to_leaf s.tree (round_active s) rules taken_by_child

  -- while a packet waits the root is taken in
  pub taken_root : (i : ℕ) → is_class s.tree i ≡ true → is_leaf s.tree i ≡ true → 1 ≤ length (queue_at s i)
      → has (round_active s) 0 ≡ true
  taken_root i is leaf h =
      climb_root s.tree (round_active s) rules taken_up i i (omega arith) (class_range s.tree i is).1 (waits_taken i is leaf h)

  -- and it is taken in only then
  pub root_waits : has (round_active s) 0 ≡ some_waits s
  unfolding some_below some_waits
  root_waits = go (has (round_active s) 0) (some_waits s) refl refl
    where
      some : has (round_active s) 0 ≡ true → some_waits s ≡ true
      some e =
          let w = some_which (λ j. waits s j && at_or_below s.tree 0 j) s.tree.count (sym (taken_at 0 (omega arith)) ∙ e) in
          some_found (waits s) s.tree.count w.0 w.1 w.2 (both_true (waits s w.0) (at_or_below s.tree 0 w.0) w.3).0

      taken : some_waits s ≡ true → has (round_active s) 0 ≡ true
      taken e =
          let w = some_which (waits s) s.tree.count e in
          taken_root w.0 (class_in_lem s.tree w.0 w.1 w.2) (waits_leaf w.0 w.3)
          (leb-true 1 (length (queue_at s w.0)) (waits_some w.0 w.3))

      go : (a b : Bool) → has (round_active s) 0 ≡ a → some_waits s ≡ b → a ≡ b
      go true b e f = sym (some e) ∙ f
      go false true e f = sym e ∙ taken f
      go false false e f = refl

  -- a class above that is taken in has active children to share out to
  pub sum_some : (i : ℕ) → Above s.tree i → has (round_active s) i ≡ true → 1 ≤ weight_sum s.tree (round_active s) i
  sum_some i ab e =
      let c = taken_by_child.has_child_lem i ab e in
      let within = within_sum s.tree (round_active s) c.child' c.class c.is_active in
      let same = ap (weight_sum s.tree (round_active s)) c.parent in
      omega (arith, within, same, (weight_range s.tree c.child' (rules.each.weights c.child' c.class)).0)

-- the active set only grows at an opening: an active leaf holds a packet
pub taken_grows : (s : State) → Sound s → (i : ℕ) → has s.round.active i ≡ true → has (round_active s) i ≡ true
taken_grows s sound i e = go (dec_le i s.tree.count) (is_leaf s.tree i) refl
  where
    rules : PlanRules s.tree
    rules = sound.fits.tree

    leaf_in : (k : ℕ) → is_class s.tree k ≡ true → is_leaf s.tree k ≡ true → has s.round.active k ≡ true
        → has (round_active s) k ≡ true
    leaf_in k is leaf on =
        waits_taken s rules k is leaf
        ((sound.waiting k (omega (arith, (class_range s.tree k is).1, few_classes s.tree rules))).waits leaf on)

    go : Dec (i ≤ s.tree.count) → (b : Bool) → is_leaf s.tree i ≡ b → has (round_active s) i ≡ true
    go (no u) b leaf = absurd (not_true_and_false e (sound.past.past i (omega arith)))
    go (yes u) true leaf =
        leaf_in i (leaf_class_lem s.tree i rules (omega (arith, few_classes s.tree rules)) leaf) leaf e
    go (yes u) false leaf =
        let ab : Above s.tree i = record { class = u; inner = leaf } in
        let l = (sound.above i (omega (arith, few_classes s.tree rules))).leaf_below_lem ab e in
        (taken_by_leaf s rules).from_leaf i ab (record {
          leaf = l.leaf;
          is_leaf = l.is_leaf;
          is_active = leaf_in l.leaf (below_class s.tree i l.leaf l.below) l.is_leaf l.is_active;
          below = l.below;
        })

-- so who is not active in it was not active before
pub taken_off : (s : State) → Sound s → (i : ℕ) → has (round_active s) i ≡ false → has s.round.active i ≡ false
taken_off s sound i off = go (has s.round.active i) refl
  where
    go : (b : Bool) → has s.round.active i ≡ b → b ≡ false
    go true on = absurd (not_true_and_false (taken_grows s sound i on) off)
    go false e = refl

-- two openings in one call see the same queues, so the same active set
pub taken_same : (size : ℕ) (s : State) → round_active (opened_with size s) ≡ round_active s
unfolding round_active upward some_below waits opened_with
taken_same size s = refl
