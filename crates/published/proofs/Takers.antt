-- Who takes a quota: a class from its parent, and the root.
use mathlib.Core.Bool.{Bool, true, false, cond}
use mathlib.Core.List.{List}
use mathlib.Core.Path.{◌≡◌, refl, sym, ap, ◌∙◌}
use Prim.Native.Nat.{ℕ, ◌+◌, ◌*◌, ◌/◌, ◌≤◌, ◌<◌}
use native.Mathlib.Nat.{zero-mul, mul-le-mul_right}
use native.Mathlib.Decide.{ℕ_discrete}
use native.Mathlib.Omega.{arith}
use lib.ListN.{length, set, length-set}
use lib.Seq.{get_or-set_same, get_or-set_other}
use Rattle.checks.proofs.Laws.{not_true_and_false}
use Rattle.sets.specs.Set.{has, with}
use Rattle.sets.proofs.Laws.{has_with_same, has_with_other}
use Rattle.tree.specs.Class.{parent_of, weight_of, is_class, is_child, of_child, children_sum}
use Rattle.tree.specs.Rules.{PlanRules}
use Rattle.tree.proofs.Classes.{root_no_class, class_range, child_own, child_other}
use Rattle.tree.proofs.Rules.{few_classes, parent_lower}
use Rattle.tree.proofs.Sums.{sum_same, sum_change}
use Rattle.state.specs.declared.Account.{Account}
use Rattle.state.specs.Account.{no_account, account_of, balance_of, funds_of, took_quota, handed_down}
use Rattle.rules.specs.Active.{weight_sum}
use Rattle.rules.proofs.Stores.{total_set}
use Rattle.published.specs.Asking.{Published, quota_at, takes, hands, takes_from_parent}
use Rattle.published.specs.Settled.{unasked, owed_weight, owed_sum, share}
use Rattle.published.specs.Sound.{SoundPublished, WidePublished}
use Rattle.published.proofs.OneTake.{hand_none, asked_not, share_asked, child_weight, light_child, next, Takes}

-- what a class that has yet to ask weighs to its parent; one that has asked weighs nothing
pub owed_still : (x : Published) (k i : ℕ) → unasked x i ≡ true → of_child x.state.tree (owed_weight x) k i ≡ child_weight
    x.state.tree k i
unfolding owed_weight of_child
owed_still x k i e = rw e refl

pub owed_asked : (x : Published) (k i : ℕ) → unasked x i ≡ false → of_child x.state.tree (owed_weight x) k i ≡ 0
unfolding owed_weight of_child
owed_asked x k i e = rw e (go (is_child x.state.tree k i))
  where
    go : (b : Bool) → cond {A = ℕ} b 0 0 ≡ 0
    go true = refl
    go false = refl

-- who has asked alike has yet to ask alike
owed_like : (x : Published) (accounts : List Account) (asked : ℕ) (quotas : List ℕ) (k i : ℕ) → has asked i ≡ has x.asked i
    → of_child x.state.tree (owed_weight (next x accounts asked quotas)) k i ≡ of_child x.state.tree (owed_weight x) k i
unfolding owed_weight unasked of_child
owed_like x accounts asked quotas k i e = rw e

-- ---- a class from its parent

module _ (x : Published) (i : ℕ) (sound : SoundPublished x) (wide : WidePublished x) (is : is_class x.state.tree i ≡ true)
    (still : unasked x i ≡ true) (up : has x.asked (parent_of x.state.tree i) ≡ true) where
  rules : PlanRules x.state.tree
  rules = sound.state.fits.tree

  abbrev p : ℕ
  p = parent_of x.state.tree i

  abbrev due : ℕ
  due = weight_of x.state.tree i * quota_at x p

  abbrev less : List Account
  less = set x.state.round.accounts p (handed_down (account_of x.state.round.accounts p) due)

  abbrev accounts' : List Account
  accounts' = set less i (took_quota (account_of less i) due)

  abbrev quotas' : List ℕ
  quotas' =
      set x.quotas i ((took_quota (account_of less i) due).balance.0 / weight_sum x.state.tree x.state.round.active i)

  pub from_parent_is : takes_from_parent x i ≡ next x accounts' (with x.asked i) quotas'
  unfolding takes_from_parent takes hands
  from_parent_is = refl

  lower : p < i
  lower = parent_lower x.state.tree i rules is

  number : i < 64
  number = omega (arith, (class_range x.state.tree i is).1, few_classes x.state.tree rules)

  own_before : account_of less i ≡ account_of x.state.round.accounts i
  own_before = get_or-set_other x.state.round.accounts p i _ no_account (λ e. omega (arith, lower))

  less_long : length less ≡ 64
  less_long = length-set x.state.round.accounts p _ ∙ wide.state.accounts

  -- its parent owes it
  owed_less : (k : ℕ) → owed_sum x k ≡ owed_sum (next x accounts' (with x.asked i) quotas') k + child_weight x.state.tree k i
  unfolding owed_sum children_sum
  owed_less k =
      let x' = next x accounts' (with x.asked i) quotas' in
      let r = class_range x.state.tree i is in
      let change =
      sum_change (of_child x.state.tree (owed_weight x) k) (of_child x.state.tree (owed_weight x') k) x.state.tree.count i r.0
      r.1
      (λ j ne. sym (owed_like x accounts' (with x.asked i) quotas' k j (has_with_other x.asked i j ne)))
      in
      omega (arith, change, owed_still x k i still, owed_asked x' k i (asked_not x' i (has_with_same x.asked i)))

  pub pays : due ≤ balance_of x.state.round.accounts p
  pays =
      let own = child_own x.state.tree (weight_of x.state.tree) i in
      let within : weight_of x.state.tree i ≤ owed_sum x p = omega (arith, owed_less p, own) in
      omega (arith, mul-le-mul_right (quota_at x p) within, (sound.pay p (omega (arith, lower, number))).pays up)

  pub from_parent : Takes x accounts' (with x.asked i) quotas' i
  from_parent = record {
    rules = rules;
    number = number;
    still = still;
    parent = λ c. up;
    due = due;
    due_is = ap (λ (q : ℕ). weight_of x.state.tree i * q)
        (sym (share_asked x rules p (omega (arith, lower, number)) (asked_not x p up)));
    has_own = has_with_same x.asked i;
    has_other = has_with_other x.asked i;
    own = get_or-set_same less i _ no_account (omega (arith, less_long, number)) ∙ ap (λ (a : Account). took_quota a due) own_before;
    other = λ k ne. get_or-set_other less i k _ no_account ne ∙ other k (ℕ_discrete k p);
    quota_own =
        get_or-set_same x.quotas i _ 0 (omega (arith, wide.quotas, number))
        ∙ ap (λ (a : Account). (funds_of a + due) / weight_sum x.state.tree x.state.round.active i) own_before;
    quota_other = λ k ne. get_or-set_other x.quotas i k _ 0 ne;
    owed = λ k u. owed_less k;
    same_total =
        let one = total_set x.state.round.accounts p (handed_down (account_of x.state.round.accounts p) due) wide.state.accounts
        (omega (arith, lower, number)) in
        let two = total_set less i (took_quota (account_of less i) due) less_long number in
        let own = ap funds_of own_before in
        omega (arith, one, two, pays);
  }
    where
      other : (k : ℕ) → Dec (k ≡ p)
          → account_of less k ≡ handed_down (account_of x.state.round.accounts k) (child_weight x.state.tree k i * quota_at x k)
      other k (yes e) =
          rw e
          (get_or-set_same x.state.round.accounts p _ no_account (omega (arith, wide.state.accounts, lower, number))
          ∙ ap (λ (w : ℕ). handed_down (account_of x.state.round.accounts p) (w * quota_at x p))
          (sym (child_own x.state.tree (weight_of
          x.state.tree) i)))
      other k (no ne) =
          get_or-set_other x.state.round.accounts p k _ no_account ne
          ∙ sym (hand_none (account_of x.state.round.accounts k) (child_weight x.state.tree k i * quota_at x k)
          (ap (λ (w : ℕ). w * quota_at x k) (child_other x.state.tree (weight_of x.state.tree) i k (λ e. ne (sym e))) ∙ zero-mul
          (quota_at x k)))

  pub from_parent_wide : WidePublished (next x accounts' (with x.asked i) quotas')
  from_parent_wide = record {
    state = record { accounts = length-set less i _ ∙ less_long; queues = wide.state.queues };
    quotas = length-set x.quotas i _ ∙ wide.quotas;
  }

-- ---- the root

module _ (x : Published) (sound : SoundPublished x) (wide : WidePublished x) (still : unasked x 0 ≡ true) where
  rules₀ : PlanRules x.state.tree
  rules₀ = sound.state.fits.tree

  abbrev accounts₀ : List Account
  accounts₀ = set x.state.round.accounts 0 (took_quota (account_of x.state.round.accounts 0) 0)

  abbrev quotas₀ : List ℕ
  quotas₀ = set x.quotas 0 ((took_quota (account_of x.state.round.accounts 0) 0).balance.0 / weight_sum x.state.tree
      x.state.round.active 0)

  pub root_takes_is : takes x 0 0 ≡ next x accounts₀ (with x.asked 0) quotas₀
  unfolding takes
  root_takes_is = refl

  no_weight_lem : weight_of x.state.tree 0 ≡ 0
  no_weight_lem = ((rules₀.unset.at 0 (omega arith)).past (root_no_class x.state.tree)).weight

  no_child : (k : ℕ) → child_weight x.state.tree k 0 ≡ 0
  no_child k = light_child x.state.tree k 0 no_weight_lem

  pub root_takes : Takes x accounts₀ (with x.asked 0) quotas₀ 0
  unfolding owed_sum children_sum
  root_takes = record {
    rules = rules₀;
    number = omega arith;
    still = still;
    parent = λ c. absurd (not_true_and_false c (root_no_class x.state.tree));
    due = 0;
    due_is = sym (ap (λ (w : ℕ). w * share x (parent_of x.state.tree 0)) no_weight_lem ∙ zero-mul (share x (parent_of x.state.tree 0)));
    has_own = has_with_same x.asked 0;
    has_other = has_with_other x.asked 0;
    own = get_or-set_same x.state.round.accounts 0 _ no_account (omega (arith, wide.state.accounts));
    other = λ k ne.
        get_or-set_other x.state.round.accounts 0 k _ no_account ne
        ∙ sym (hand_none (account_of x.state.round.accounts k) (child_weight x.state.tree k 0 * quota_at x k)
        (ap (λ (w : ℕ). w * quota_at x k) (no_child k) ∙ zero-mul (quota_at x k)));
    quota_own = get_or-set_same x.quotas 0 _ 0 (omega (arith, wide.quotas));
    quota_other = λ k ne. get_or-set_other x.quotas 0 k _ 0 ne;
    owed = λ k u.
        let same =
        sum_same _ _ x.state.tree.count
        (λ j l v. sym (owed_like x accounts₀ (with x.asked 0) quotas₀ k j (has_with_other x.asked 0 j (λ z. omega arith))))
        in
        omega (arith, same, no_child k);
    same_total =
        let one = total_set x.state.round.accounts 0 (took_quota (account_of x.state.round.accounts 0) 0) wide.state.accounts
        (omega arith) in
        omega (arith, one);
  }

  pub root_takes_wide : WidePublished (next x accounts₀ (with x.asked 0) quotas₀)
  root_takes_wide = record {
    state = record { accounts = length-set x.state.round.accounts 0 _ ∙ wide.state.accounts; queues = wide.state.queues };
    quotas = length-set x.quotas 0 _ ∙ wide.quotas;
  }
