-- A round opens that shares out nothing yet: it stands for the round that the first engine opens.
use mathlib.Core.Bool.{Bool, true, false, cond, ◌&&◌, not}
use mathlib.Core.List.{List}
use mathlib.Core.Path.{◌≡◌, refl, sym, ap, ap₂, ◌∙◌}
use Prim.Native.Nat.{ℕ, zero, suc, ◌+◌, ◌*◌, ◌/◌, ◌≤◌, ◌<◌}
use native.Mathlib.Nat.{zero-mul, mul-zero}
use native.Mathlib.Decide.{dec_lt, ℕ_discrete}
use native.Mathlib.Omega.{arith}
use lib.ListN.{length-set}
use lib.Seq.{get_or-set_same}
use borrow.Author.Tests.{ne_eqb}
use Rattle.checks.proofs.Laws.{not_true_and_false}
use Rattle.sets.specs.Set.{has}
use Rattle.sets.proofs.Laws.{has_with_same, has_with_other, has_empty}
use Rattle.tree.specs.Class.{parent_of, weight_of, is_class, is_leaf, is_child, of_child, children_sum}
use Rattle.tree.specs.Rules.{PlanRules}
use Rattle.tree.proofs.Classes.{root_no_class, class_in_lem, class_range}
use Rattle.tree.proofs.Rules.{parent_lower}
use Rattle.tree.proofs.Sums.{sum_same}
use Rattle.state.specs.declared.Account.{Account}
use Rattle.state.specs.Account.{account_of, balance_of, funds_of, took_quota, handed_down}
use Rattle.tree.proofs.Tables.{table_same}
use Rattle.sound.specs.Sound.{Sound}
use Rattle.rules.specs.Active.{round_active, active_weight, weight_sum}
use Rattle.rules.specs.Opening.{Kind, main, surplus, root_quota, quota, due, hands_down, opened_leaf, opened_inner, opened_account}
use Rattle.rules.specs.Opening.{opened_accounts}
use Rattle.rules.specs.Opening.{next_kind, next_size, resized_accounts, opened_with, opened, Covers}
use Rattle.rules.proofs.Resized.{next_resizes, resized_other, resized_length, resized_total}
use Rattle.rules.proofs.Shares.{quota_root, quota_step}
use Rattle.rules.proofs.Sums.{sum_without}
use Rattle.rules.proofs.Taken.{leaf_class_lem, leaf_childless, taken_past, taken_fits, taken_waits, taken_up, taken_by_leaf, taken_off}
use Rattle.published.specs.Asking.{Published, quota_at, with_accounts}
use Rattle.published.specs.Visiting.{asked_first, opened_published}
use Rattle.published.specs.Settled.{unasked, owed_weight, owed_sum, share, asked_account, settled_account, settled}
use Rattle.published.specs.Sound.{SoundPublished, WidePublished}
use Rattle.published.proofs.OneTake.{hand_none, asked_not, share_asked, share_unasked}
use Rattle.published.proofs.Visits.{asked_own}

-- no class but the root has a quota when a round opens
none_first : (kind : Kind) (k : ℕ) → 1 ≤ k → has (asked_first kind) k ≡ false
none_first main k l = has_empty k
none_first surplus k l = has_with_other 0 0 k (λ z. omega arith) ∙ has_empty k

module _ (x : Published) (rules : PlanRules x.state.tree) (wide : WidePublished x) where
  -- the accounts that the round shares out
  abbrev shared : List Account
  shared = resized_accounts (next_size x.state) x.state

  -- every other active class has yet to ask
  still_open : (k : ℕ) → 1 ≤ k → unasked (opened_published x) k ≡ has (round_active x.state) k
  unfolding unasked opened_published
  still_open k l =
      ap (λ (b : Bool). has (round_active x.state) k && not b) (none_first (next_kind x.state) k l)
      ∙ go (has (round_active x.state) k)
    where
      go : (b : Bool) → (b && true) ≡ b
      go true = refl
      go false = refl

  -- so every parent owes all its active children
  owed_open : (p : ℕ) → owed_sum (opened_published x) p ≡ weight_sum x.state.tree (round_active x.state) p
  unfolding owed_sum owed_weight weight_sum active_weight children_sum of_child opened_published
  owed_open p =
      sum_same _ _ x.state.tree.count
      (λ k l u. ap (λ (b : Bool). cond (is_child x.state.tree p k) (cond b (weight_of x.state.tree k) 0) 0) (still_open k l))

  no_weight_lem : weight_of x.state.tree 0 ≡ 0
  no_weight_lem = ((rules.unset.at 0 (omega arith)).past (root_no_class x.state.tree)).weight

  -- in a surplus round the root has its quota from the start
  root_asked : next_kind x.state ≡ surplus → has (opened_published x).asked 0 ≡ true
  unfolding opened_published
  root_asked e = ap (λ (k : Kind). has (asked_first k) 0) e ∙ has_with_same 0 0

  module _ (root_on : has (round_active x.state) 0 ≡ true) where
    -- in a main round it has yet to ask
    root_still : next_kind x.state ≡ main → unasked (opened_published x) 0 ≡ true
    unfolding unasked opened_published
    root_still e =
        ap (λ (k : Kind). has (round_active x.state) 0 && not (has (asked_first k) 0)) e ∙ (rw (root_on, has_empty 0))

    -- the root's quota
    root_share_lem : (kind : Kind) → next_kind x.state ≡ kind
        → share (opened_published x) 0 ≡ root_quota kind x.state.tree (round_active x.state) shared
    unfolding opened_published
    root_share_lem main e =
        share_unasked (opened_published x) rules 0 (omega arith) (root_still e)
        ∙ ap (λ (d : ℕ). (funds_of (account_of shared 0) + d) / weight_sum x.state.tree (round_active x.state) 0)
        (ap (λ (w : ℕ). w * share (opened_published x) (parent_of x.state.tree 0)) no_weight_lem
        ∙ zero-mul (share (opened_published x) (parent_of x.state.tree 0)))
        ∙ ap (λ (f : ℕ). f / weight_sum x.state.tree (round_active x.state) 0) (omega arith)
    root_share_lem surplus e =
        share_asked (opened_published x) rules 0 (omega arith) (asked_not (opened_published x) 0 (root_asked e))
        ∙ get_or-set_same x.quotas 0 0 0 (omega (arith, wide.quotas))

    -- an active class
    active_class : (k : ℕ) → 1 ≤ k → has (round_active x.state) k ≡ true → is_class x.state.tree k ≡ true
    active_class k l on = go (dec_lt x.state.tree.count k)
      where
        go : Dec (x.state.tree.count < k) → is_class x.state.tree k ≡ true
        go (yes h) = absurd (not_true_and_false on (taken_past x.state rules k h))
        go (no h) = class_in_lem x.state.tree k l (omega arith)

    share_open_step : (k : ℕ) → k < 64 → unasked (opened_published x) k ≡ true
        → share (opened_published x) k
        ≡ (funds_of (account_of shared k)
        + weight_of x.state.tree k * share (opened_published x) (parent_of x.state.tree k))
        / weight_sum x.state.tree (round_active x.state) k
    unfolding opened_published
    share_open_step k u e = share_unasked (opened_published x) rules k u e

    -- every active class will work out the quota that the first engine works out
    share_open : (n k : ℕ) → k < n → k < 64 → (1 ≤ k → has (round_active x.state) k ≡ true)
        → share (opened_published x) k ≡ quota (next_kind x.state) x.state.tree (round_active x.state) shared k
    share_open zero k a u on = absurd (omega arith)
    share_open (suc n) k a u on = go (ℕ_discrete k 0) (λ j b v h. share_open n j b v h)
      where
        kind : Kind
        kind = next_kind x.state

        go : Dec (k ≡ 0)
            → ((j : ℕ) → j < n → j < 64 → (1 ≤ j → has (round_active x.state) j ≡ true)
            → share (opened_published x) j ≡ quota kind x.state.tree (round_active x.state) shared j)
            → share (opened_published x) k ≡ quota kind x.state.tree (round_active x.state) shared k
        go (yes e) ih =
            rw e
            (root_share_lem kind refl ∙ sym (quota_root kind x.state.tree (round_active x.state) shared))
        go (no ne) ih =
            let l : 1 ≤ k = omega arith in
            let is = active_class k l (on l) in
            let low = parent_lower x.state.tree k rules is in
            share_open_step k u (still_open k l ∙ on l)
            ∙ ap (λ (q : ℕ). (funds_of (account_of shared k) + weight_of x.state.tree k * q)
            / weight_sum x.state.tree (round_active x.state) k)
            (ih (parent_of x.state.tree k) (omega arith) (omega arith) (λ h. taken_up x.state rules k is (on l)))
            ∙ sym (quota_step kind x.state.tree (round_active x.state) shared rules k l u)

    -- what a class then hands down
    hands_open : (k : ℕ) → k < 64 → (1 ≤ k → has (round_active x.state) k ≡ true)
        → owed_sum (opened_published x) k * share (opened_published x) k
        ≡ weight_sum x.state.tree (round_active x.state) k
        * quota (next_kind x.state) x.state.tree (round_active x.state) shared k
    hands_open k u on = ap₂ ◌*◌ (owed_open k) (share_open 64 k u u on)

    -- and what it takes
    takes_open : (k : ℕ) → k < 64 → 1 ≤ k → has (round_active x.state) k ≡ true
        → asked_account (opened_published x) k
        ≡ took_quota (account_of shared k)
        (weight_of x.state.tree k
        * quota (next_kind x.state) x.state.tree (round_active x.state) shared (parent_of x.state.tree k))
    unfolding asked_account opened_published
    takes_open k u l on =
        let is = active_class k l on in
        let low = parent_lower x.state.tree k rules is in
        rw (still_open k l ∙ on)
        (ap (λ (q : ℕ). took_quota (account_of shared k) (weight_of x.state.tree k * q))
        (share_open 64 (parent_of x.state.tree k) (omega arith) (omega arith) (λ h. taken_up x.state rules k is on)))

    leaf_open : (k : ℕ) → k < 64 → 1 ≤ k → has (round_active x.state) k ≡ true → is_leaf x.state.tree k ≡ true
        → settled_account (opened_published x) k
        ≡ opened_account (next_kind x.state) x.state.tree (round_active x.state) shared k
    unfolding settled_account opened_account opened_leaf due
    leaf_open k u l on leaf =
        rw (ne_eqb k 0 (λ e. omega arith), on, leaf)
        (ap₂ handed_down (takes_open k u l on) (hands_open k u (λ h. on))
        ∙ hand_none _ _
        (ap (λ (w : ℕ). w * quota (next_kind x.state) x.state.tree (round_active x.state) shared k)
        (sum_without x.state.tree (round_active x.state) k (λ j is e a. leaf_childless x.state.tree k j rules leaf is e))
        ∙ zero-mul (quota (next_kind x.state) x.state.tree (round_active x.state) shared k)))

    inner_open : (k : ℕ) → k < 64 → 1 ≤ k → has (round_active x.state) k ≡ true → is_leaf x.state.tree k ≡ false
        → settled_account (opened_published x) k
        ≡ opened_account (next_kind x.state) x.state.tree (round_active x.state) shared k
    unfolding settled_account opened_account opened_inner due hands_down
    inner_open k u l on inner =
        rw (ne_eqb k 0 (λ e. omega arith), on, inner)
        (ap₂ handed_down (takes_open k u l on) (hands_open k u (λ h. on)))

    -- an inactive class owes nothing
    idle_open : (k : ℕ) → k < 64 → 1 ≤ k → has (round_active x.state) k ≡ false
        → settled_account (opened_published x) k
        ≡ opened_account (next_kind x.state) x.state.tree (round_active x.state) shared k
    unfolding settled_account opened_account asked_account opened_published
    idle_open k u l off =
        rw (ne_eqb k 0 (λ e. omega arith), off, still_open k l ∙ off)
        (hand_none _ _
        (ap (λ (w : ℕ). w * share (opened_published x) k)
        (owed_open k
        ∙ sum_without x.state.tree (round_active x.state) k
        (λ j is e a. not_true_and_false (ap (has (round_active x.state)) (sym e) ∙ taken_up x.state rules j is a) off))
        ∙ zero-mul (share (opened_published x) k)))

    -- the root
    root_took : next_kind x.state ≡ main → asked_account (opened_published x) 0 ≡ took_quota (account_of shared 0) 0
    unfolding asked_account opened_published
    root_took e =
        rw (root_still e)
        (ap (took_quota (account_of shared 0))
        (ap (λ (w : ℕ). w * share (opened_published x) (parent_of x.state.tree 0)) no_weight_lem
        ∙ zero-mul (share (opened_published x) (parent_of x.state.tree 0))))

    root_left_lem : next_kind x.state ≡ surplus → asked_account (opened_published x) 0 ≡ account_of shared 0
    unfolding opened_published
    root_left_lem e = asked_own (opened_published x) 0 (asked_not (opened_published x) 0 (root_asked e))

    root_open : (kind : Kind) → next_kind x.state ≡ kind
        → settled_account (opened_published x) 0
        ≡ opened_account (next_kind x.state) x.state.tree (round_active x.state) shared 0
    unfolding settled_account opened_account
    root_open main e =
        ap₂ handed_down (root_took e) (ap₂ ◌*◌ (owed_open 0) (root_share_lem main e))
        ∙ ap (λ (k : Kind). opened_account k x.state.tree (round_active x.state) shared 0) (sym e)
    root_open surplus e =
        ap₂ handed_down (root_left_lem e) (ap (λ (q : ℕ). owed_sum (opened_published x) 0 * q) (root_share_lem surplus e))
        ∙ hand_none (account_of shared 0) (owed_sum (opened_published x) 0 * 0) (mul-zero (owed_sum (opened_published x) 0))
        ∙ ap (λ (k : Kind). opened_account k x.state.tree (round_active x.state) shared 0) (sym e)

    -- and the account of every class is the one that the first engine gives it
    account_open : (k : ℕ) → k < 64
        → settled_account (opened_published x) k
        ≡ opened_account (next_kind x.state) x.state.tree (round_active x.state) shared k
    account_open k u = go (ℕ_discrete k 0) (has (round_active x.state) k) refl (is_leaf x.state.tree k) refl
      where
        go : Dec (k ≡ 0) → (a : Bool) → has (round_active x.state) k ≡ a → (b : Bool) → is_leaf x.state.tree k ≡ b
            → settled_account (opened_published x) k
            ≡ opened_account (next_kind x.state) x.state.tree (round_active x.state) shared k
        go (yes e) a on b leaf = rw e (root_open (next_kind x.state) refl)
        go (no ne) false off b leaf = idle_open k u (omega arith) off
        go (no ne) true on true leaf = leaf_open k u (omega arith) on leaf
        go (no ne) true on false inner = inner_open k u (omega arith) on inner

    -- it stands for the first engine's opening
    pub opens_settled : settled (opened_published x) ≡ opened x.state
    unfolding settled opened_published opened_with opened_accounts
    opens_settled =
        ap (with_accounts (opened_published x).state)
        (table_same (settled_account (opened_published x))
        (opened_account (next_kind x.state) x.state.tree (round_active x.state) shared) 64 account_open)

  -- ---- and it is sound

  pub opens_wide : WidePublished (opened_published x)
  unfolding opened_published
  opens_wide = record {
    state = record { accounts = resized_length x.state (next_size x.state) ∙ wide.state.accounts; queues = wide.state.queues };
    quotas = length-set x.quotas 0 0 ∙ wide.quotas;
  }

module _ (x : Published) (sound : SoundPublished x) (wide : WidePublished x) (covers : Covers x.state (next_size x.state)) where
  -- no account but the root's has changed
  others_same : (k : ℕ) → 1 ≤ k → account_of (resized_accounts (next_size x.state) x.state) k ≡ account_of x.state.round.accounts k
  others_same k l = resized_other x.state (next_size x.state) k l

  state_opens : Sound (opened_published x).state
  unfolding opened_published
  state_opens =
      let s = sound.state in
      let rules = s.fits.tree in
      record {
        fits = record { tree = s.fits.tree; size = (next_resizes x.state s).right };
        holds = λ k u. record { few = (s.holds k u).few; range = (s.holds k u).range; other = (s.holds k u).other };
        waiting =
            λ k u. record { waits = λ leaf on. taken_waits x.state rules k (leaf_class_lem x.state.tree k rules u leaf) leaf on };
        past = record { word = taken_fits x.state rules; past = taken_past x.state rules };
        above = λ k u. record {
          leaf_below_lem = (taken_by_leaf x.state rules).has_leaf k;
          active = (taken_by_leaf x.state rules).from_leaf k;
        };
        zero =
            λ k u. record {
              balance = λ l off. ap (λ (a : Account). a.balance.0) (others_same k l) ∙ (s.zero k u).balance l (taken_off
                  x.state s k off);
              residual = λ l off. ap (λ (a : Account). a.residual.0) (others_same k l)
                  ∙ (s.zero k u).residual l (taken_off x.state s k off);
              leaf = λ leaf.
                  ap (λ (a : Account). a.residual.0)
                  (others_same k (class_range x.state.tree k (leaf_class_lem x.state.tree k rules u leaf)).0)
                  ∙ (s.zero k u).leaf leaf;
            };
        adds = record { adds = resized_total x.state (next_size x.state) s wide.state (next_resizes x.state s) covers };
        place = record { low = omega arith; high = omega arith };
        behind =
            λ k u. record {
              lacks = λ leaf on below.
                  absurd (omega (arith, (class_range x.state.tree k (leaf_class_lem x.state.tree k rules u leaf)).0));
            };
        totals = λ k u. record { packets = (s.totals k u).packets; bytes = (s.totals k u).bytes };
      }

  -- who has a quota is the root of a surplus round, and it is 0
  pays_open : (k : ℕ) → k < 64 → has (opened_published x).asked k ≡ true
      → owed_sum (opened_published x) k * quota_at (opened_published x) k ≤ balance_of (opened_published x).state.round.accounts k
  unfolding opened_published
  pays_open zero u e =
      let none : quota_at (opened_published x) 0 ≡ 0 = get_or-set_same x.quotas 0 0 0 (omega (arith, wide.quotas)) in
      omega (arith, ap (λ (q : ℕ). owed_sum (opened_published x) 0 * q) none, mul-zero (owed_sum (opened_published x) 0))
  pays_open (suc k) u e = absurd (not_true_and_false e (none_first (next_kind x.state) (suc k) (omega arith)))

  pub opens_sound : SoundPublished (opened_published x)
  unfolding opened_published
  opens_sound = record {
    state = state_opens;
    parents =
        λ k u. record {
          up = λ is on e.
              absurd (not_true_and_false e (none_first (next_kind x.state) k (class_range x.state.tree k is).0));
        };
    pay = λ k u. record { pays = pays_open k u };
    behind =
        λ k u. record {
          asked = λ leaf on below.
              absurd (omega (arith, (class_range x.state.tree k (leaf_class_lem x.state.tree k sound.state.fits.tree u leaf)).0));
        };
  }
