-- Paying for a packet and turning inactive go alike in a state and in the one that it stands for: they touch only classes that have asked.
use mathlib.Core.Bool.{Bool, true, false, cond, ◌&&◌}
use mathlib.Core.Path.{◌≡◌, refl, sym, ap, ap₂, ◌∙◌}
use Prim.Native.Nat.{ℕ, zero, suc, ◌*◌, ◌≤◌, ◌<◌}
use native.Mathlib.Nat.{zero-mul}
use native.Mathlib.Decide.{ℕ_discrete}
use native.Mathlib.Omega.{arith}
use lib.ListN.{length, set, length-set}
use lib.Seq.{get_or-set_same, get_or-set_other}
use Rattle.checks.proofs.Laws.{not_true_and_false}
use Rattle.sets.specs.Set.{has, without}
use Rattle.sets.proofs.Laws.{has_without_same, has_without_other}
use Rattle.tree.specs.declared.Tree.{Tree}
use Rattle.tree.specs.Class.{parent_of, weight_of, is_class, is_child, of_child, children_sum}
use Rattle.tree.specs.Rules.{PlanRules}
use Rattle.tree.specs.Sum.{some_to}
use Rattle.tree.proofs.Classes.{class_range}
use Rattle.tree.proofs.Rules.{few_classes, parent_lower}
use Rattle.tree.proofs.Sums.{some_found, sum_zero}
use Rattle.state.specs.declared.Account.{Account}
use Rattle.state.specs.Account.{no_account, account_of, balance_of, funds_of, handed_down, received}
use Rattle.rules.specs.Active.{active_child}
use Rattle.rules.specs.Sending.{Books, given_up, root_off, turns_off}
use Rattle.rules.proofs.GivenUp.{parent_class, step_stays, step_root, step_up, given_length}
use Rattle.published.specs.Asking.{Published}
use Rattle.published.specs.Settled.{unasked, owed_weight, owed_sum, share, settled_account}
use Rattle.published.specs.Sound.{SoundPublished}
use Rattle.published.proofs.OneTake.{hand_none, asked_not}
use Rattle.published.proofs.Asks.{active_up}

-- the books b' are the ones that the books b stand for, within the round of x: a class that has asked differs by what it still owes, and
-- one that has yet to ask is untouched
pub record Stand (x : Published) (b b' : Books) : Type 0 where
  pub active : b'.active ≡ b.active
  pub many : length b.accounts ≡ 64
  pub many' : length b'.accounts ≡ 64
  pub asked : (k : ℕ) → k < 64 → unasked x k ≡ false
      → account_of b'.accounts k ≡ handed_down (account_of b.accounts k) (owed_sum x k * share x k)
  pub still : (k : ℕ) → k < 64 → unasked x k ≡ true → account_of b.accounts k ≡ account_of x.state.round.accounts k
  pub still' : (k : ℕ) → k < 64 → unasked x k ≡ true → account_of b'.accounts k ≡ settled_account x k
  pub pays : (k : ℕ) → k < 64 → unasked x k ≡ false → owed_sum x k * share x k ≤ balance_of b.accounts k
  pub stays : (k : ℕ) → unasked x k ≡ true → has b.active k ≡ true
  pub shrinks : (k : ℕ) → has b.active k ≡ true → has x.state.round.active k ≡ true

-- ---- one class gives up

given_own : (t : Tree) (i : ℕ) (b : Books) → (i ≡ parent_of t i → ⊥) → i < length b.accounts
    → account_of (given_up t i b).accounts i ≡ no_account
unfolding given_up
given_own t i b np u =
    get_or-set_other (set b.accounts i no_account) (parent_of t i) i _ no_account np ∙ get_or-set_same b.accounts i no_account no_account u

given_up_lem : (t : Tree) (i : ℕ) (b : Books) → (i ≡ parent_of t i → ⊥) → parent_of t i < length b.accounts
    → account_of (given_up t i b).accounts (parent_of t i)
    ≡ received (account_of b.accounts (parent_of t i)) (funds_of (account_of b.accounts i))
unfolding given_up
given_up_lem t i b np u =
    get_or-set_same (set b.accounts i no_account) (parent_of t i) _ no_account (omega (arith, length-set b.accounts i no_account))
    ∙ ap (λ (a : Account). received a (funds_of (account_of b.accounts i)))
    (get_or-set_other b.accounts i (parent_of t i) no_account no_account (λ e. np (sym e)))

given_else : (t : Tree) (i : ℕ) (b : Books) (k : ℕ) → (k ≡ i → ⊥) → (k ≡ parent_of t i → ⊥)
    → account_of (given_up t i b).accounts k ≡ account_of b.accounts k
unfolding given_up
given_else t i b k ne np =
    get_or-set_other (set b.accounts i no_account) (parent_of t i) k _ no_account np
    ∙ get_or-set_other b.accounts i k no_account no_account ne

given_set : (t : Tree) (i : ℕ) (b : Books) → (given_up t i b).active ≡ without b.active i
unfolding given_up
given_set t i b = refl

given_active : (t : Tree) (i : ℕ) (b b' : Books) → b'.active ≡ b.active → (given_up t i b').active ≡ (given_up t i b).active
unfolding given_up
given_active t i b b' e = ap (λ (a : ℕ). without a i) e

-- class i, active and asked, has no child that has yet to ask
pub record Leaving (x : Published) (i : ℕ) : Type 0 where
  pub class : is_class x.state.tree i ≡ true
  pub on : has x.state.round.active i ≡ true
  pub asked : has x.asked i ≡ true
  pub free : owed_sum x i ≡ 0

module _ (x : Published) (sound : SoundPublished x) where
  rules : PlanRules x.state.tree
  rules = sound.state.fits.tree

  -- its parent has asked too
  parent_asked : (i : ℕ) → Leaving x i → has x.asked (parent_of x.state.tree i) ≡ true
  parent_asked i h =
      (sound.parents i (omega (arith, (class_range x.state.tree i h.class).1, few_classes x.state.tree rules))).up h.class
      h.on h.asked

  module _ (i : ℕ) (b b' : Books) (h : Leaving x i) (s : Stand x b b') where
    low : parent_of x.state.tree i < i
    low = parent_lower x.state.tree i rules h.class

    u : i < 64
    u = omega (arith, (class_range x.state.tree i h.class).1, few_classes x.state.tree rules)

    apart : i ≡ parent_of x.state.tree i → ⊥
    apart e = omega (arith, low)

    own_off : unasked x i ≡ false
    own_off = asked_not x i h.asked

    up_off : unasked x (parent_of x.state.tree i) ≡ false
    up_off = asked_not x (parent_of x.state.tree i) (parent_asked i h)

    none : owed_sum x i * share x i ≡ 0
    none = ap (λ (m : ℕ). m * share x i) h.free ∙ zero-mul (share x i)

    -- it gives up the same
    same_funds : account_of b'.accounts i ≡ account_of b.accounts i
    same_funds = s.asked i u own_off ∙ hand_none (account_of b.accounts i) (owed_sum x i * share x i) none

    given_asked : (k : ℕ) → k < 64 → unasked x k ≡ false → Dec (k ≡ i) → Dec (k ≡ parent_of x.state.tree i)
        → account_of (given_up x.state.tree i b').accounts k
        ≡ handed_down (account_of (given_up x.state.tree i b).accounts k) (owed_sum x k * share x k)
    given_asked k v e (yes z) d =
        rw z
        (given_own x.state.tree i b' apart (omega (arith, s.many', u))
        ∙ sym (ap (λ (a : Account). handed_down a (owed_sum x i * share x i))
        (given_own x.state.tree i b apart (omega (arith, s.many, u)))
        ∙ hand_none no_account (owed_sum x i * share x i) none))
    given_asked k v e (no ne) (yes z) =
        rw z
        (given_up_lem x.state.tree i b' apart (omega (arith, s.many', u, low))
        ∙ ap₂ (λ (a : Account) (f : ℕ). received a f) (s.asked (parent_of x.state.tree i) (omega (arith, low, u)) up_off)
        (ap funds_of same_funds)
        ∙ sym (ap (λ (a : Account). handed_down a (owed_sum x (parent_of x.state.tree i) * share x (parent_of x.state.tree i)))
        (given_up_lem x.state.tree i b apart (omega (arith, s.many, u, low)))))
    given_asked k v e (no ne) (no np) =
        given_else x.state.tree i b' k ne np
        ∙ s.asked k v e
        ∙ ap (λ (a : Account). handed_down a (owed_sum x k * share x k)) (sym (given_else x.state.tree i b k ne np))

    given_pays : (k : ℕ) → k < 64 → unasked x k ≡ false → Dec (k ≡ i) → Dec (k ≡ parent_of x.state.tree i)
        → owed_sum x k * share x k ≤ balance_of (given_up x.state.tree i b).accounts k
    given_pays k v e (yes z) d = rw z (omega (arith, none))
    given_pays k v e (no ne) (yes z) =
        rw z
        (omega (
          arith,
          s.pays (parent_of x.state.tree i) (omega (arith, low, u)) up_off,
          ap (λ (a : Account). a.balance.0) (given_up_lem x.state.tree i b apart (omega (arith, s.many, u, low))),
        ))
    given_pays k v e (no ne) (no np) =
        omega (arith, s.pays k v e, ap (λ (a : Account). a.balance.0) (given_else x.state.tree i b k ne np))

    -- one that has yet to ask is neither
    not_own : (k : ℕ) → unasked x k ≡ true → k ≡ i → ⊥
    not_own k e z = not_true_and_false (ap (unasked x) (sym z) ∙ e) own_off

    not_up : (k : ℕ) → unasked x k ≡ true → k ≡ parent_of x.state.tree i → ⊥
    not_up k e z = not_true_and_false (ap (unasked x) (sym z) ∙ e) up_off

    shrinks_off : (k : ℕ) → has (without b.active i) k ≡ true → has x.state.round.active k ≡ true
    shrinks_off k e = go (ℕ_discrete k i)
      where
        go : Dec (k ≡ i) → has x.state.round.active k ≡ true
        go (yes z) = absurd (not_true_and_false e (ap (has (without b.active i)) z ∙ has_without_same b.active i))
        go (no ne) = s.shrinks k (sym (has_without_other b.active i k ne) ∙ e)

    given_stand : Stand x (given_up x.state.tree i b) (given_up x.state.tree i b')
    given_stand = record {
      active = given_active x.state.tree i b b' s.active;
      many = given_length x.state.tree i b ∙ s.many;
      many' = given_length x.state.tree i b' ∙ s.many';
      asked = λ k v e. given_asked k v e (ℕ_discrete k i) (ℕ_discrete k (parent_of x.state.tree i));
      still = λ k v e. given_else x.state.tree i b k (not_own k e) (not_up k e) ∙ s.still k v e;
      still' = λ k v e. given_else x.state.tree i b' k (not_own k e) (not_up k e) ∙ s.still' k v e;
      pays = λ k v e. given_pays k v e (ℕ_discrete k i) (ℕ_discrete k (parent_of x.state.tree i));
      stays = λ k e. stays_off k e;
      shrinks = λ k e. shrinks_off k (off k e);
    }
      where
        off : (k : ℕ) → has (given_up x.state.tree i b).active k ≡ true → has (without b.active i) k ≡ true
        off k e = sym (ap (λ (a : ℕ). has a k) (given_set x.state.tree i b)) ∙ e

        stays_off : (k : ℕ) → unasked x k ≡ true → has (given_up x.state.tree i b).active k ≡ true
        stays_off k e =
            ap (λ (a : ℕ). has a k) (given_set x.state.tree i b) ∙ has_without_other b.active i k (not_own k e) ∙ s.stays k e

  -- a class without an active child has none that has yet to ask
  free_up : (p : ℕ) (b b' : Books) → Stand x b b' → some_to (active_child x.state.tree b.active p) x.state.tree.count ≡ false
      → owed_sum x p ≡ 0
  unfolding owed_sum owed_weight children_sum of_child active_child
  free_up p b b' s e =
      sum_zero (of_child x.state.tree (owed_weight x) p) x.state.tree.count
      (λ j l v. go j l v (is_child x.state.tree p j) refl (unasked x j) refl)
    where
      go : (j : ℕ) → 1 ≤ j → j ≤ x.state.tree.count → (c : Bool) → is_child x.state.tree p j ≡ c → (d : Bool) → unasked x j ≡ d
          → cond c (cond d (weight_of x.state.tree j) 0) 0 ≡ 0
      go j l v false is d w = refl
      go j l v true is false w = refl
      go j l v true is true w =
          absurd (not_true_and_false
          (some_found (λ k. is_child x.state.tree p k && has b.active k) x.state.tree.count j l v (rw (is, s.stays j w))) e)

  -- the root, which has asked, turns inactive and keeps its account
  root_stand : (b b' : Books) → has x.asked 0 ≡ true → Stand x b b' → Stand x (root_off b) (root_off b')
  root_stand b b' e s = record {
    active = ap (λ (a : ℕ). without a 0) s.active;
    many = s.many;
    many' = s.many';
    asked = s.asked;
    still = s.still;
    still' = s.still';
    pays = s.pays;
    stays = λ k w. has_without_other b.active 0 k (not_root k w) ∙ s.stays k w;
    shrinks = λ k w. shrink k w (ℕ_discrete k 0);
  }
    where
      not_root : (k : ℕ) → unasked x k ≡ true → k ≡ 0 → ⊥
      not_root k w z = not_true_and_false (ap (unasked x) (sym z) ∙ w) (asked_not x 0 e)

      shrink : (k : ℕ) → has (without b.active 0) k ≡ true → Dec (k ≡ 0) → has x.state.round.active k ≡ true
      shrink k w (yes z) = absurd (not_true_and_false w (ap (has (without b.active 0)) z ∙ has_without_same b.active 0))
      shrink k w (no ne) = s.shrinks k (sym (has_without_other b.active 0 k ne) ∙ w)

  -- each class above without an active child gives up after it
  pub turns_stand : (n i : ℕ) (b b' : Books) → Leaving x i → Stand x b b'
      → Stand x (turns_off n x.state.tree i b) (turns_off n x.state.tree i b')
  unfolding turns_off
  turns_stand zero i b b' h s = s
  turns_stand (suc n) i b b' h s =
      go (some_to (active_child x.state.tree (given_up x.state.tree i b).active (parent_of x.state.tree i))
      x.state.tree.count)
      refl (ℕ_discrete (parent_of x.state.tree i) 0)
      (λ h'. turns_stand n (parent_of x.state.tree i) (given_up x.state.tree i b) (given_up x.state.tree i b') h' g)
    where
      g : Stand x (given_up x.state.tree i b) (given_up x.state.tree i b')
      g = given_stand i b b' h s

      found : ℕ → Bool
      found a = some_to (active_child x.state.tree a (parent_of x.state.tree i)) x.state.tree.count

      go : (c : Bool) → found (given_up x.state.tree i b).active ≡ c → Dec (parent_of x.state.tree i ≡ 0)
          → (Leaving x (parent_of x.state.tree i)
          → Stand x (turns_off n x.state.tree (parent_of x.state.tree i) (given_up x.state.tree i b))
          (turns_off n x.state.tree (parent_of x.state.tree i) (given_up x.state.tree i b')))
          → Stand x (turns_off (suc n) x.state.tree i b) (turns_off (suc n) x.state.tree i b')
      go true e d ih =
          rw (step_stays n x.state.tree i b e, step_stays n x.state.tree i b' (ap found g.active ∙ e)) g
      go false e (yes z) ih =
          rw (step_root n x.state.tree i b e z, step_root n x.state.tree i b' (ap found g.active ∙ e) z)
          (root_stand (given_up x.state.tree i b) (given_up x.state.tree i b') (ap (has x.asked) (sym z) ∙ parent_asked i h) g)
      go false e (no ne) ih =
          rw (step_up n x.state.tree i b e ne, step_up n x.state.tree i b' (ap found g.active ∙ e) ne)
          (ih (record {
            class = parent_class x.state.tree i rules h.class ne;
            on = active_up x.state sound.state i h.class h.on;
            asked = parent_asked i h;
            free = free_up (parent_of x.state.tree i) (given_up x.state.tree i b) (given_up x.state.tree i b') g e;
          }))
