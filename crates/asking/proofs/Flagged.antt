-- The flags of a class say whether the clauses on who has asked hold at it.
use mathlib.Core.Bool.{Bool, true, false, cond, ◌&&◌, not}
use mathlib.Core.List.{List}
use mathlib.Core.Path.{◌≡◌, refl, sym, ap, ◌∙◌}
use Prim.Native.Nat.{ℕ, ◌*◌, ◌/◌, ◌≤◌, ◌<◌}
use native.Mathlib.Nat.{zero-mul, mul_comm, le-div_iff_mul-le}
use native.Mathlib.Decide.{dec_le}
use native.Mathlib.Omega.{arith}
use lib.Dec.{leb, ltb}
use borrow.Author.Tests.{leb-true, le-leb, lt-leb, ltb-true, lt-ltb}
use Rattle.checks.specs.Check.{Exactly}
use Rattle.sets.specs.Set.{has}
use lib.ListN.{get_or}
use Rattle.units.specs.declared.Weight.{Weight}
use Rattle.rules.proofs.Sums.{sums_at}
use Rattle.tree.specs.Class.{no_weight, parent_of, weight_of, is_class, is_leaf, is_child, of_child, children_sum}
use Rattle.tree.proofs.Sums.{sum_same}
use Rattle.state.specs.Account.{balance_of}
use Rattle.rules.specs.Active.{active_weight, weight_sum, weight_sums}
use Rattle.published.specs.Asking.{Published, quota_at}
use Rattle.published.specs.Settled.{unasked, owed_weight, owed_sum}
use Rattle.asking.specs.declared.right.Flags.{Flags}
use Rattle.asking.specs.Right.{YetToAsk, FlagsRight, ClassAsked}

-- what a class still owes is the weight sum of those that are active and have not asked
pub owed_sum_lem : (x : Published) (still p : ℕ) → x.state.tree.count ≤ 63 → YetToAsk x.state.round.active x.asked still
    → weight_sum x.state.tree still p ≡ owed_sum x p
unfolding weight_sum active_weight children_sum of_child owed_sum owed_weight unasked
owed_sum_lem x still p few b =
    sum_same _ _ x.state.tree.count
    (λ i l u.
    ap (λ (c : Bool). cond (is_child x.state.tree p i) (cond c (weight_of x.state.tree i) 0) 0)
    (b.at i (omega arith)))

-- these are the flags of class i
pub record FlagsOf (x : Published) (i : ℕ) (v : Flags) : Type 0 where
  pub class_is : v.class ≡ is_class x.state.tree i
  pub leaf_is : v.leaf ≡ is_leaf x.state.tree i
  pub on_is : v.on ≡ has x.state.round.active i
  pub asked_is : v.asked ≡ has x.asked i
  pub up_is : v.up ≡ has x.asked (parent_of x.state.tree i)
  pub behind_is : v.behind ≡ ltb i x.state.round.place
  pub pays_is : v.pays ≡ leb (owed_sum x i * quota_at x i) (balance_of x.state.round.accounts i)

pub flags_say : (x : Published) (i : ℕ) (v : Flags) (r : Bool) → FlagsOf x i v → Exactly r (FlagsRight v) → Exactly r (ClassAsked x i)
flags_say x i v r f e = record {
  sound = λ y.
      let h = e.sound y in
      record {
        parent = record { up = λ c o a. sym f.up_is ∙ h.up_is (f.class_is ∙ c) (f.on_is ∙ o) (f.asked_is ∙ a) };
        pay = record { pays = λ a. leb-true _ _ (sym f.pays_is ∙ h.pays_is (f.asked_is ∙ a)) };
        behind = record {
          asked = λ l o b. sym f.asked_is ∙ h.asked_is (f.leaf_is ∙ l) (f.on_is ∙ o)
              (f.behind_is ∙ lt-ltb i x.state.round.place b);
        };
      };
  complete = λ h.
      e.complete
      (record {
        up_is = λ c o a. f.up_is ∙ h.parent.up (sym f.class_is ∙ c) (sym f.on_is ∙ o) (sym f.asked_is ∙ a);
        pays_is = λ a. f.pays_is ∙ le-leb _ _ (h.pay.pays (sym f.asked_is ∙ a));
        asked_is = λ l o b.
            f.asked_is
            ∙ h.behind.asked (sym f.leaf_is ∙ l) (sym f.on_is ∙ o) (ltb-true i x.state.round.place (sym f.behind_is ∙ b));
      });
}

-- whether a class can pay, with a quotient
pub pays_none : (owed quota balance : ℕ) → owed ≡ 0 → leb (owed * quota) balance ≡ true
pays_none owed quota balance e = le-leb (owed * quota) balance (omega (arith, ap (λ (n : ℕ). n * quota) e, zero-mul quota))

pub pays_some : (owed quota balance : ℕ) → (owed ≡ 0 → ⊥) → leb quota (balance / owed) ≡ leb (owed * quota) balance
pays_some owed quota balance ne = go (dec_le quota (balance / owed))
  where
    some : 0 < owed
    some = omega (arith, ne)

    go : Dec (quota ≤ balance / owed) → leb quota (balance / owed) ≡ leb (owed * quota) balance
    go (yes h) =
        le-leb quota (balance / owed) h
        ∙ sym (le-leb (owed * quota) balance
        (omega (arith, (le-div_iff_mul-le {k = owed} {x = quota} {y = balance} some).0 h, mul_comm owed quota)))
    go (no h) =
        lt-leb quota (balance / owed) (omega arith)
        ∙ sym (lt-leb (owed * quota) balance (omega (arith, less)))
      where
        less : balance < owed * quota
        less = at (dec_le (owed * quota) balance)
          where
            at : Dec (owed * quota ≤ balance) → balance < owed * quota
            at (yes w) =
                absurd (h ((le-div_iff_mul-le {k = owed} {x = quota} {y = balance} some).1 (omega (arith, mul_comm owed quota))))
            at (no w) = omega arith

-- what is not so is false
pub not_so : (b : Bool) → (b ≡ true → ⊥) → not b ≡ true
not_so true h = absurd (h refl)
not_so false h = refl

-- the flags of a class of a record, from what was read
pub flags_of : (x : Published) (i still : ℕ) (owed : List Weight) (v : Flags) → x.state.tree.count ≤ 63 → i < 64
    → YetToAsk x.state.round.active x.asked still → owed ≡ weight_sums x.state.tree still
    → v.class ≡ (leb 1 i && leb i x.state.tree.count) → v.leaf ≡ has x.state.tree.leaves i
    → v.on ≡ has x.state.round.active i
    → v.asked ≡ has x.asked i → v.up ≡ has x.asked (parent_of x.state.tree i) → v.behind ≡ ltb i x.state.round.place
    → v.pays ≡ leb ((get_or owed i no_weight).0 * quota_at x i) (balance_of x.state.round.accounts i) → FlagsOf x i v
unfolding is_class is_leaf
flags_of x i still owed v few u b sums class leaf on asked up behind pays = record {
  class_is = class;
  leaf_is = leaf;
  on_is = on;
  asked_is = asked;
  up_is = up;
  behind_is = behind;
  pays_is =
      pays
      ∙ ap (λ (w : ℕ). leb (w * quota_at x i) (balance_of x.state.round.accounts i))
      (ap (λ (ws : List Weight). (get_or ws i no_weight).0) sums ∙ sums_at x.state.tree still i u ∙ owed_sum_lem x still i few b);
}
