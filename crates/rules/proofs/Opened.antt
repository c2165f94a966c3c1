-- A state when a round has opened, with any size that it may open with: its accounts, that they add to that size, and that it is sound.
-- Demand 2.
use mathlib.Core.Bool.{Bool, true, false, cond}
use mathlib.Core.List.{List}
use mathlib.Core.Path.{◌≡◌, refl, sym, ap, ap₂, ◌∙◌}
use Prim.Native.Nat.{ℕ, ◌+◌, ◌-◌, ◌*◌, ◌/◌, ◌≤◌, ◌<◌}
use native.Mathlib.Nat.{mul-zero, zero-mul, mod_def, mod-lt}
use native.Mathlib.Omega.{arith}
use native.Mathlib.Decide.{ℕ_discrete}
use borrow.Author.Tests.{ne_eqb}
use Rattle.sets.specs.Set.{has}
use Rattle.tree.specs.declared.Tree.{Tree}
use Rattle.tree.specs.Class.{parent_of, weight_of, is_class, is_leaf}
use Rattle.tree.specs.Rules.{PlanRules}
use Rattle.tree.specs.Size.{most_size}
use Rattle.tree.specs.Sum.{sum_to, table}
use Rattle.tree.proofs.Classes.{root_no_class, class_range}
use Rattle.tree.proofs.Rules.{few_classes, size_ceiling}
use Rattle.state.specs.declared.Account.{Account}
use Rattle.state.specs.Account.{no_account, account_of, balance_of, residual_of, funds_of, took_quota, handed_down}
use Rattle.state.specs.State.{State}
use Rattle.tree.proofs.Tables.{table_at, table_length}
use Rattle.tree.specs.Below.{Above}
use Rattle.sound.specs.Sound.{Sound, HoldsRight, ActiveHolds, AboveActive, ZeroWhere, BehindPlace, total}
use Rattle.tree.proofs.Sums.{sum_same, sum_longer, sum_add}
use Rattle.sound.proofs.Totals.{total_part}
use Rattle.rules.specs.Active.{round_active, weight_sum}
use Rattle.rules.specs.Opening.{Kind, main, surplus, quota, due, hands_down, root_quota, opened_leaf, opened_inner, opened_account}
use Rattle.rules.specs.Opening.{opened_accounts, next_kind, next_size, resized_accounts, opened_with, opened, Resizes, Covers}
use Rattle.rules.specs.Steps.{CanOpen, CanResize}
use Rattle.rules.proofs.Shares.{quota_root, quota_step, quota_back, quota_inactive, down_within}
use Rattle.rules.proofs.Sums.{sum_without}
use Rattle.rules.specs.Wide.{Wide}
use Rattle.rules.specs.Sending.{next_leaf}
use Rattle.rules.proofs.Resized.{resized_surplus, resized_other, resized_length, root_most, resized_total, next_resizes, closing_covers}
use Rattle.rules.proofs.ByParent.{sum_by_parent}
use Rattle.rules.proofs.Taken.{leaf_class_lem, leaf_childless, taken_past, taken_fits, taken_waits, taken_up, taken_by_leaf, taken_off}
use Rattle.rules.proofs.Taken.{sum_some}

-- the root is no leaf
pub root_no_leaf : (t : Tree) → PlanRules t → is_leaf t 0 ≡ false
root_no_leaf t rules = ((rules.unset.at 0 (omega arith)).past (root_no_class t)).leaf

-- what is left of a balance when a quota of it went to each unit of a weight sum
left_over : (h w q : ℕ) → 1 ≤ w → q ≡ h / w → h - w * q < w
left_over h w q l e = rw (e, ← mod_def h w) (mod-lt h l)

-- ---- the account of each class after an opening

module _ (kind : Kind) (t : Tree) (active : ℕ) (accounts : List Account) where
  -- an inactive class's stays
  idle_account : (i : ℕ) → 1 ≤ i → has active i ≡ false → opened_account kind t active accounts i ≡ account_of accounts i
  unfolding opened_account
  idle_account i l off = rw (ne_eqb i 0 (λ z. omega arith), off)

  -- an active leaf gains its due
  leaf_account : (i : ℕ) → 1 ≤ i → has active i ≡ true → is_leaf t i ≡ true
      → opened_account kind t active accounts i
      ≡ took_quota (account_of accounts i) (weight_of t i * quota kind t active accounts (parent_of t i))
  unfolding opened_account opened_leaf due
  leaf_account i l on leaf = rw (ne_eqb i 0 (λ z. omega arith), on, leaf)

  -- an active inner class takes R and its due into B, which falls by what it hands down
  inner_account : (i : ℕ) → 1 ≤ i → has active i ≡ true → is_leaf t i ≡ false
      → opened_account kind t active accounts i
      ≡ handed_down (took_quota (account_of accounts i) (weight_of t i * quota kind t active accounts (parent_of t i)))
      (weight_sum t active i * quota kind t active accounts i)
  unfolding opened_account opened_inner due hands_down
  inner_account i l on inner = rw (ne_eqb i 0 (λ z. omega arith), on, inner)

-- the root's stays in a surplus round; in a main round R joins B, which falls by what it hands down
main_root : (t : Tree) (active : ℕ) (accounts : List Account)
    → opened_account main t active accounts 0
    ≡ handed_down (took_quota (account_of accounts 0) 0) (weight_sum t active 0 * root_quota main t active accounts)
unfolding opened_account
main_root t active accounts = refl

surplus_root : (t : Tree) (active : ℕ) (accounts : List Account) → opened_account surplus t active accounts 0 ≡ account_of accounts 0
unfolding opened_account
surplus_root t active accounts = refl

-- ---- all B and R through an opening

module _ (kind : Kind) (t : Tree) (active : ℕ) (accounts : List Account) (can : CanOpen t active accounts) where
  -- what class i is due where it is active, what it hands down, what it holds before and after
  gets : ℕ → ℕ
  gets i = cond (has active i) (weight_of t i * quota kind t active accounts (parent_of t i)) 0

  gives : ℕ → ℕ
  gives i = weight_sum t active i * quota kind t active accounts i

  before : ℕ → ℕ
  before i = funds_of (account_of accounts i)

  after : ℕ → ℕ
  after i = funds_of (opened_account kind t active accounts i)

  -- an inactive class and a leaf hand down nothing
  gives_idle : (i : ℕ) → 1 ≤ i → i < 64 → has active i ≡ false → gives i ≡ 0
  unfolding gives
  gives_idle i l u off = rw (quota_inactive kind t active accounts can i l u off) (mul-zero (weight_sum t active i))

  gives_leaf_lem : (i : ℕ) → is_leaf t i ≡ true → gives i ≡ 0
  unfolding gives
  gives_leaf_lem i leaf =
      rw (sum_without t active i (λ k is e on. leaf_childless t i k can.rules leaf is e)) (zero-mul (quota kind t active accounts i))

  -- an active class gets its due, an inactive one nothing
  gets_on : (i : ℕ) → has active i ≡ true → gets i ≡ weight_of t i * quota kind t active accounts (parent_of t i)
  unfolding gets
  gets_on i on = rw on

  gets_off : (i : ℕ) → has active i ≡ false → gets i ≡ 0
  unfolding gets
  gets_off i off = rw off

  -- a class other than the root changes by what it is due and what it hands down
  changes : (i : ℕ) → 1 ≤ i → i < 64 → after i + gives i ≡ before i + gets i
  unfolding before after gives
  changes i l u = go (has active i) (is_leaf t i) refl refl
    where
      go : (a b : Bool) → has active i ≡ a → is_leaf t i ≡ b → after i + gives i ≡ before i + gets i
      go false b off leaf = omega (arith, ap funds_of (idle_account kind t active accounts i l off), gives_idle i l u off, gets_off i off)
      go true true on leaf = omega (arith, ap funds_of (leaf_account kind t active accounts i l on leaf), gives_leaf_lem i leaf, gets_on i on)
      go true false on inner = omega (arith, ap funds_of (inner_account kind t active accounts i l on inner), down, gets_on i on)
        where
          down : gives i ≤ before i + weight_of t i * quota kind t active accounts (parent_of t i)
          down = down_within kind t active accounts can i l u

  -- the root by what it hands down
  root_changes : after 0 + gives 0 ≡ before 0
  unfolding before after gives
  root_changes = rw (quota_root kind t active accounts) (go kind)
    where
      go : (k : Kind) → funds_of (opened_account k t active accounts 0) + weight_sum t active 0 * root_quota k t active accounts
          ≡ funds_of (account_of accounts 0)
      go main =
          let down = quota_back (funds_of (account_of accounts 0)) (weight_sum t active 0) (weight_sum t active 0)
          (root_quota main t active accounts) refl refl in
          omega (arith, ap funds_of (main_root t active accounts), down)
      go surplus = omega (arith, ap funds_of (surplus_root t active accounts), mul-zero (weight_sum t active 0))

  -- so the classes together change by what they are due and what they hand down
  sums_change : sum_to after 63 + sum_to gives 63 ≡ sum_to before 63 + sum_to gets 63
  sums_change =
      sym (sum_add after gives 63)
      ∙ sum_same (λ i. after i + gives i) (λ i. before i + gets i) 63 (λ i l u. changes i l (omega arith))
      ∙ sum_add before gets 63

  -- what they are due is what they and the root hand down
  all_gets : sum_to gets t.count ≡ gives 0 + sum_to gives t.count
  unfolding gets gives
  all_gets = sum_by_parent t active (quota kind t active accounts) can.rules

  -- all B and R after and before
  total_after : total (opened_accounts kind t active accounts) ≡ after 0 + sum_to after 63
  unfolding total opened_accounts after
  total_after =
      ap₂ ◌+◌ (ap funds_of (at 0 (omega arith)))
      (sum_same (λ i. funds_of (account_of (opened_accounts kind t active accounts) i)) after 63 (λ i l u. ap funds_of (at i (omega arith))))
    where
      at : (i : ℕ) → i < 64 → account_of (table (opened_account kind t active accounts) 64) i ≡ opened_account kind t active accounts i
      at i u = table_at (opened_account kind t active accounts) no_account 64 i u

  total_before : total accounts ≡ before 0 + sum_to before 63
  unfolding total before
  total_before = refl

  -- and all B and R add to what they did
  total_kept : ((i : ℕ) → t.count < i → has active i ≡ false) → total (opened_accounts kind t active accounts) ≡ total accounts
  total_kept past =
      let few = few_classes t can.rules in
      let gets-all = sum_longer gets t.count 63 few (λ i l u. gets_off i (past i l)) in
      let gives_all = sum_longer gives t.count 63 few (λ i l u. gives_idle i (omega arith) (omega arith) (past i l)) in
      omega (arith, total_after, total_before, root_changes, sums_change, all_gets, gets-all, gives_all)

-- ---- the state

module _ (s : State) (size : ℕ) (sound : Sound s) (wide : Wide s) where
  -- a round can open on a sound state, once the root has taken the difference
  pub can_open : Resizes s size → CanOpen s.tree (round_active s) (resized_accounts size s)
  can_open fit = record {
    rules = sound.fits.tree;
    many = resized_length s size ∙ wide.accounts;
    small = λ i u. small i u (ℕ_discrete i 0);
    upward = taken_up s sound.fits.tree;
    past = taken_past s sound.fits.tree;
  }
    where
      small : (i : ℕ) → i < 64 → Dec (i ≡ 0) → funds_of (account_of (resized_accounts size s) i) ≤ most_size
      small i u (yes e) =
          rw e (omega (arith, root_most s size sound wide fit, fit.right.most, size_ceiling s.tree sound.fits.tree))
      small i u (no e) =
          omega (
            arith,
            ap funds_of (resized_other s size i (omega arith)),
            total_part s.round.accounts i u,
            sound.adds.adds,
            sound.fits.size.most,
            size_ceiling s.tree sound.fits.tree,
          )

  -- the account of each class is what the rules say
  pub opened_account_lem : (i : ℕ) → i < 64
      → account_of (opened_with size s).round.accounts i ≡ opened_account (next_kind s) s.tree (round_active s) (resized_accounts size s) i
  unfolding opened_with opened_accounts
  opened_account_lem i u = table_at (opened_account (next_kind s) s.tree (round_active s) (resized_accounts size s)) no_account 64 i u

  -- all B and R add to the size that the round opens with
  pub opened_total : Resizes s size → Covers s size → total (opened_with size s).round.accounts ≡ size
  unfolding opened_with
  opened_total fit covers =
      total_kept (next_kind s) s.tree (round_active s) (resized_accounts size s) (can_open fit) (taken_past s sound.fits.tree)
      ∙ resized_total s size sound wide fit covers

  -- every class number keeps an account and a queue
  pub opened_wide : Wide (opened_with size s)
  unfolding opened_with opened_accounts
  opened_wide = record {
    accounts = table_length (opened_account (next_kind s) s.tree (round_active s) (resized_accounts size s)) 64;
    queues = wide.queues;
  }

  -- an inactive class's account stays
  pub opened_idle : (i : ℕ) → 1 ≤ i → i < 64 → has (round_active s) i ≡ false
      → account_of (opened_with size s).round.accounts i ≡ account_of s.round.accounts i
  opened_idle i l u off =
      opened_account_lem i u
      ∙ idle_account (next_kind s) s.tree (round_active s) (resized_accounts size s) i l off
      ∙ resized_other s size i l

  -- in a surplus round the root's does too
  pub opened_root_stays : next_kind s ≡ surplus → account_of (opened_with size s).round.accounts 0 ≡ account_of s.round.accounts 0
  opened_root_stays e =
      opened_account_lem 0 (omega arith)
      ∙ ap (λ (k : Kind). opened_account k s.tree (round_active s) (resized_accounts size s) 0) e
      ∙ surplus_root s.tree (round_active s) (resized_accounts size s)
      ∙ ap (λ (xs : List Account). account_of xs 0) (resized_surplus s size e)

  -- in a main round it has no residual left, and less than the weight sum of its active children
  pub opened_root_main : next_kind s ≡ main → has (round_active s) 0 ≡ true
      → (residual_of (opened_with size s).round.accounts 0 ≡ 0)
      × (balance_of (opened_with size s).round.accounts 0 < weight_sum s.tree (round_active s) 0)
  opened_root_main e on =
      let is =
      opened_account_lem 0 (omega arith)
      ∙ ap (λ (k : Kind). opened_account k s.tree (round_active s) (resized_accounts size s) 0) e
      ∙ main_root s.tree (round_active s) (resized_accounts size s)
      in
      let above : Above s.tree 0 = record { class = omega arith; inner = root_no_leaf s.tree sound.fits.tree } in
      let left = left_over (funds_of (account_of (resized_accounts size s) 0)) (weight_sum s.tree (round_active s) 0) _
      (sum_some s sound.fits.tree 0 above on) refl in
      (ap (λ (a : Account). a.residual.0) is, omega (arith, ap (λ (a : Account). a.balance.0) is, left))

  -- an active inner class likewise, in both kinds of rounds
  pub opened_inner_lem : (i : ℕ) → 1 ≤ i → Above s.tree i → has (round_active s) i ≡ true
      → (residual_of (opened_with size s).round.accounts i ≡ 0)
      × (balance_of (opened_with size s).round.accounts i < weight_sum s.tree (round_active s) i)
  opened_inner_lem i l ab on =
      let u : i < 64 = omega (arith, ab.class, few_classes s.tree sound.fits.tree) in
      let is = opened_account_lem i u ∙ inner_account (next_kind s) s.tree (round_active s) (resized_accounts size s) i l on ab.inner in
      let step = quota_step (next_kind s) s.tree (round_active s) (resized_accounts size s) sound.fits.tree i l u in
      let left = left_over _ (weight_sum s.tree (round_active s) i) _ (sum_some s sound.fits.tree i ab on) step in
      (ap (λ (a : Account). a.residual.0) is, omega (arith, ap (λ (a : Account). a.balance.0) is, left))

  -- an active leaf gains its weight times its parent's quota, and has no residual
  pub opened_leaf_lem : (i : ℕ) → is_class s.tree i ≡ true → is_leaf s.tree i ≡ true → has (round_active s) i ≡ true
      → (residual_of (opened_with size s).round.accounts i ≡ 0)
      × (balance_of (opened_with size s).round.accounts i
      ≡ balance_of s.round.accounts i + weight_of s.tree i * quota (next_kind s) s.tree (round_active s) (resized_accounts size s)
      (parent_of s.tree i))
  opened_leaf_lem i is leaf on =
      let r = class_range s.tree i is in
      let u : i < 64 = omega (arith, few_classes s.tree sound.fits.tree) in
      let same = opened_account_lem i u ∙ leaf_account (next_kind s) s.tree (round_active s) (resized_accounts size s) i r.0 on leaf in
      let own = resized_other s size i r.0 in (
        ap (λ (a : Account). a.residual.0) same,
        omega (
          arith,
          ap (λ (a : Account). a.balance.0) same,
          ap (λ (a : Account). a.balance.0) own,
          ap (λ (a : Account). a.residual.0) own,
          (sound.zero i u).leaf leaf,
        ),
      )

  -- ---- an opening on a sound state gives a sound state

  -- the queues stay
  opened_holds : (i : ℕ) → i < 64 → HoldsRight (opened_with size s) i
  unfolding opened_with
  opened_holds i u = record { few = (sound.holds i u).few; range = (sound.holds i u).range; other = (sound.holds i u).other }

  -- active leaves hold a packet
  opened_waiting : (i : ℕ) → i < 64 → ActiveHolds (opened_with size s) i
  unfolding opened_with
  opened_waiting i u =
      record { waits = λ leaf on. taken_waits s sound.fits.tree i (leaf_class_lem s.tree i sound.fits.tree u leaf) leaf on }

  -- a class above is active exactly when an active leaf is below it
  opened_above : (i : ℕ) → i < 64 → AboveActive (opened_with size s) i
  unfolding opened_with
  opened_above i u =
      record { leaf_below_lem = (taken_by_leaf s sound.fits.tree).has_leaf i; active = (taken_by_leaf s sound.fits.tree).from_leaf i }

  -- so an inactive class has B = R = 0, and leaves have R = 0
  opened_zero : (i : ℕ) → i < 64 → ZeroWhere (opened_with size s) i
  unfolding opened_with
  opened_zero i u = record {
    balance = λ l off. ap (λ (a : Account). a.balance.0) (opened_idle i l u off) ∙ (sound.zero i u).balance l (taken_off s sound i off);
    residual = λ l off. ap (λ (a : Account). a.residual.0) (opened_idle i l u off)
        ∙ (sound.zero i u).residual l (taken_off s sound i off);
    leaf = λ leaf. go leaf (has (round_active s) i) refl;
  }
    where
      go : is_leaf s.tree i ≡ true → (b : Bool) → has (round_active s) i ≡ b → residual_of (opened_with size s).round.accounts i ≡ 0
      go leaf true on = (opened_leaf_lem i (leaf_class_lem s.tree i sound.fits.tree u leaf) leaf on).0
      go leaf false off =
          let is = leaf_class_lem s.tree i sound.fits.tree u leaf in
          ap (λ (a : Account). a.residual.0) (opened_idle i (class_range s.tree i is).0 u off) ∙ (sound.zero i u).leaf leaf

  -- no leaf is below the place
  opened_behind : (i : ℕ) → i < 64 → BehindPlace (opened_with size s) i
  unfolding opened_with
  opened_behind i u = record {
    lacks = λ leaf on below. absurd (omega (arith, (class_range s.tree i (leaf_class_lem s.tree i sound.fits.tree u leaf)).0));
  }

  -- every clause together
  pub opened_sound : Resizes s size → Covers s size → Sound (opened_with size s)
  unfolding opened_with
  opened_sound fit covers = record {
    fits = record { tree = sound.fits.tree; size = fit.right };
    holds = opened_holds;
    waiting = opened_waiting;
    past = record { word = taken_fits s sound.fits.tree; past = taken_past s sound.fits.tree };
    above = opened_above;
    zero = opened_zero;
    adds = record { adds = opened_total fit covers };
    place = record { low = omega arith; high = omega arith };
    behind = opened_behind;
    totals = λ i u. record { packets = (sound.totals i u).packets; bytes = (sound.totals i u).bytes };
  }

-- ---- with the size that the tree's rule gives

pub next_covered : (s : State) → Sound s → Wide s → Covers s (next_size s) → Sound (opened s)
next_covered s sound wide covers = opened_sound s (next_size s) sound wide (next_resizes s sound) covers

pub next_sound : (s : State) → Sound s → Wide s → next_leaf s ≡ 64 → Sound (opened s)
next_sound s sound wide closed = next_covered s sound wide (closing_covers s sound wide closed)

pub next_wide : (s : State) → Sound s → Wide s → Wide (opened s)
next_wide s sound wide = opened_wide s (next_size s) sound wide

-- what the code that opens a round asks
pub can_resize : (s : State) → Sound s → Wide s → Covers s (next_size s)
    → CanResize s.tree (round_active s) s.round.size.0 s.round.accounts
unfolding next_kind next_size resized_accounts
can_resize s sound wide covers =
    let fit = next_resizes s sound in
    record {
      before =
          record {
            rules = sound.fits.tree;
            many = wide.accounts;
            small =
                λ i u. omega (
                  arith,
                  total_part s.round.accounts i u,
                  sound.adds.adds,
                  sound.fits.size.most,
                  size_ceiling s.tree sound.fits.tree,
                );
            upward = taken_up s sound.fits.tree;
            past = taken_past s sound.fits.tree;
          };
      right = sound.fits.size;
      covers = λ e. rw e at (covers e);
      after = can_open s (next_size s) sound wide fit;
    }
