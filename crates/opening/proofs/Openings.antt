-- An opening over lent accounts, class by class.
use mathlib.Core.Bool.{Bool, true, false, cond, not, ◌&&◌}
use mathlib.Core.List.{List, append-nil, ◌++◌}
use mathlib.Core.Path.{◌≡◌, refl, sym, ap, subst, ◌∙◌}
use Prim.Native.Nat.{ℕ, zero, suc, ◌+◌, ◌-◌, ◌*◌, ◌/◌, ◌^◌, ◌≤◌, ◌<◌}
use native.Mathlib.Nat.{div-zero}
use native.Mathlib.Omega.{arith}
use lib.Seq.{get_or_at, set-get_or}
use lib.ListN.{length, get_or, set, drop, replicate, length-append, length-drop, drop_of_length-le}
use borrow.Author.Tests.{ne_eqb}
use Rattle.checks.proofs.Laws.{not_true_and_false}
use Rattle.sets.specs.Set.{has}
use Rattle.sets.proofs.Laws.{has_not}
use Rattle.units.specs.Unit.{due_of, surplus_of}
use Rattle.tree.specs.declared.Tree.{Tree}
use Rattle.tree.specs.Class.{parent_of, weight_of, is_class, is_leaf, is_inner}
use Rattle.tree.proofs.Rules.{parent_no_leaf, parent_below}
use Rattle.tree.specs.Size.{most_size}
use Rattle.state.specs.declared.Account.{Account}
use Rattle.state.specs.Account.{no_account, account_of, funds_of, took_quota, handed_down}
use Rattle.tree.specs.Sum.{table}
use Rattle.tree.proofs.Tables.{table_none, table_length, table_at, table_fill, table_front, table_over, table_behind}
use Rattle.rules.specs.Active.{weight_sum}
use Rattle.rules.specs.Opening.{Kind, kind_is, surplus_at, has_surplus, root_opened, root_quota, quota, due, hands_down, opened_leaf, opened_inner}
use Rattle.rules.specs.Opening.{opened_account, opened_accounts}
use Rattle.rules.specs.Steps.{CanOpen}
use Rattle.active.specs.Known.{Summed}
use Rattle.rules.proofs.Sums.{sum_without}
use Rattle.rules.proofs.Shares.{quota_root, quota_step, quota_inactive, due_most}
use Rattle.opening.specs.declared.Shared.{Shared}
use Rattle.state.specs.Account.{zip_accounts}
use Rattle.opening.specs.Opens.{root_shared, class_shared, OpenedUpTo}

-- a weight sum among those that are lent
summed_at : (t : Tree) (active : ℕ) (sums : List ℕ) (i : ℕ) → Summed t active sums → i < 64 → get_or sums i 0 ≡ weight_sum t active i
summed_at t active sums i w u = ap (λ (xs : List ℕ). get_or xs i 0) w ∙ table_at (weight_sum t active) 0 64 i u

abbrev both : Account → ℕ → Shared
both a q = record { account = a; quota = q }

-- the root's step
root_shares : (surplus : Bool) (t : Tree) (active : ℕ) (accounts : List Account)
    → root_shared surplus (weight_sum t active 0) (account_of accounts 0)
    ≡ both (root_opened (kind_is surplus) t active (account_of accounts 0)) (root_quota (kind_is surplus) t active accounts)
root_shares true t active accounts = refl
root_shares false t active accounts =
    let a = account_of accounts 0 in
    let s = weight_sum t active 0 in
    let e : funds_of a + 0 ≡ funds_of a = omega arith in
    ap (λ (n : ℕ). both (handed_down (took_quota a 0) (due_of s (n / s))) (n / s)) e

module _ (kind : Kind) (t : Tree) (active : ℕ) (accounts : List Account) (can : CanOpen t active accounts) where
  -- a leaf shares out nothing
  leaf_none : (i : ℕ) → 1 ≤ i → i < 64 → is_leaf t i ≡ true → quota kind t active accounts i ≡ 0
  leaf_none i l u leaf =
      quota_step kind t active accounts can.rules i l u
      ∙ ap (λ (w : ℕ). (funds_of (account_of accounts i) + weight_of t i * quota kind t active accounts (parent_of t i)) / w)
      (sum_without t active i (λ k is e a. not_true_and_false (ap (is_leaf t) e ∙ leaf) (parent_no_leaf t k can.rules is)))
      ∙ div-zero _

  -- a class's step
  class_shares : (i : ℕ) → 1 ≤ i → i < 64
      → class_shared (has active i) (is_leaf t i) (weight_sum t active i) (due_of (weight_of t i) (quota kind t active accounts (parent_of t i)))
      (account_of accounts i)
      ≡ both (opened_account kind t active accounts i) (quota kind t active accounts i)
  unfolding opened_account opened_leaf opened_inner due hands_down
  class_shares i l u = rw (ne_eqb i 0 (λ z. omega arith)) (go (has active i) refl (is_leaf t i) refl)
    where
      go : (x : Bool) → has active i ≡ x → (y : Bool) → is_leaf t i ≡ y
          → class_shared x y (weight_sum t active i) (due_of (weight_of t i) (quota kind t active accounts (parent_of t i)))
          (account_of accounts i)
          ≡ both
          (cond x
          (cond y
          (took_quota (account_of accounts i) (due_of (weight_of t i) (quota kind t active accounts (parent_of t i))))
          (handed_down (took_quota (account_of accounts i) (due_of (weight_of t i) (quota kind t active accounts (parent_of t i))))
          (due_of (weight_sum t active i) (quota kind t active accounts i))))
          (account_of accounts i))
          (quota kind t active accounts i)
      go false off y e = ap (both (account_of accounts i)) (sym (quota_inactive kind t active accounts can i l u off))
      go true on true leaf =
          ap (both (took_quota (account_of accounts i) (due_of (weight_of t i) (quota kind t active accounts (parent_of t i)))))
          (sym (leaf_none i l u leaf))
      go true on false inner =
          ap (λ (q : ℕ). both (handed_down
          (took_quota (account_of accounts i) (due_of (weight_of t i) (quota kind t active accounts (parent_of t i))))
          (due_of (weight_sum t active i) q)) q)
          (sym (quota_step kind t active accounts can.rules i l u))

  module _ (i : ℕ) (l : 1 ≤ i) (u : i < 64) {q : List ℕ} (b r : List ℕ) (o : OpenedUpTo kind t active accounts i q b r) where
    -- there are as many accounts, the parent's quota is there, the account at hand has not opened yet
    pub opening_wide : length (zip_accounts b r) ≡ 64
    opening_wide =
        ap length o.opened ∙ length-append (table (opened_account kind t active accounts) i) (drop i accounts)
        ∙ omega (arith, table_length (opened_account kind t active accounts) i, length-drop i accounts, can.many)

    parents : get_or q (parent_of t i) 0 ≡ quota kind t active accounts (parent_of t i)
    parents =
        ap (λ (xs : List ℕ). get_or xs (parent_of t i) 0) o.shares
        ∙ table_front (quota kind t active accounts) 0 64 i (parent_of t i) (parent_below t i can.rules l u)

    -- its own is not yet shared out
    pub opening_unset : get_or q i 0 ≡ 0
    opening_unset = ap (λ (xs : List ℕ). get_or xs i 0) o.shares ∙ go (64 - i) (omega (arith, u))
      where
        f : ℕ → ℕ
        f = quota kind t active accounts

        go : (m : ℕ) → 1 ≤ m → get_or (table f i ++ replicate m 0) i 0 ≡ 0
        go zero some = absurd (omega (arith, some))
        go (suc n) some = get_or_at (table f i) 0 (replicate n 0) 0 i (table_length f i)

    at_hand : account_of (zip_accounts b r) i ≡ account_of accounts i
    at_hand =
        ap (λ (xs : List Account). account_of xs i) o.opened
        ∙ table_behind (opened_account kind t active accounts) no_account accounts i (omega (arith, can.many))

    pub opening_funds : funds_of (account_of (zip_accounts b r) i) ≤ most_size
    opening_funds = rw at_hand (can.small i u)

    pub opening_due : weight_of t i * get_or q (parent_of t i) 0 ≤ 64 * most_size * 1_000_000
    opening_due = rw parents (due_most kind t active accounts can i u)

    -- one class on
    pub opening_on : (b' r' : List ℕ) {s : Shared} {d : ℕ} {on leaf : Bool} {x : Account} (sums : List ℕ)
        → Summed t active sums → on ≡ has active i → leaf ≡ has t.leaves i → d ≡ due_of (weight_of t i) (get_or q (parent_of t i) 0)
        → x ≡ account_of (zip_accounts b r) i → s ≡ class_shared on leaf (get_or sums i 0) d x
        → zip_accounts b' r' ≡ set (zip_accounts b r) i s.account
        → OpenedUpTo kind t active accounts (i + 1) (set q i s.quota) b' r'
    unfolding is_leaf
    opening_on b' r' {s} {d} {on} {leaf} {x} sums w e f g h k y =
        let sum : get_or sums i 0 ≡ weight_sum t active i = summed_at t active sums i w u in
        let is : s ≡ both (opened_account kind t active accounts i) (quota kind t active accounts i) =
        k ∙ rw (e, f, g, h, sum, parents, at_hand) (class_shares i l u)
        in
        record {
          shares = rw (is, o.shares) (table_fill (quota kind t active accounts) 0 64 i u);
          opened =
              y ∙ rw (is, o.opened) (table_over (opened_account kind t active accounts) no_account accounts i (omega (arith, can.many)));
        }

-- the quota of a leaf that has opened
pub leaf_shares_none : (on leaf : Bool) (sum due : ℕ) (a : Account) (s : Shared) → s ≡ class_shared on leaf sum due a → leaf ≡ true
    → s.quota ≡ 0
leaf_shares_none on leaf sum due a s is e =
    ap (λ (x : Shared). x.quota) is ∙ ap (λ (b : Bool). (class_shared on b sum due a).quota) e ∙ go on
  where
    go : (b : Bool) → (class_shared b true sum due a).quota ≡ 0
    go true = refl
    go false = refl

-- it starts with the root
pub opening_starts : (surplus : Bool) (t : Tree) (active : ℕ) (accounts : List Account) → CanOpen t active accounts
    → (b r : List ℕ) {s : Shared} {x : Account} (sums : List ℕ)
    → Summed t active sums → x ≡ account_of accounts 0 → s ≡ root_shared surplus (get_or sums 0 0) x
    → zip_accounts b r ≡ set accounts 0 s.account
    → OpenedUpTo (kind_is surplus) t active accounts 1 (set (replicate 64 0) 0 s.quota) b r
unfolding opened_account
opening_starts surplus t active accounts can b r {s} {x} sums w h k y =
    let sum : get_or sums 0 0 ≡ weight_sum t active 0 = summed_at t active sums 0 w (omega arith) in
    let is : s ≡ both (root_opened (kind_is surplus) t active (account_of accounts 0)) (quota (kind_is surplus) t active accounts 0) =
    k ∙ rw (h, sum) (root_shares surplus t active accounts)
    ∙ ap (both (root_opened (kind_is surplus) t active (account_of accounts 0))) (sym (quota_root (kind_is surplus) t active accounts))
    in
    let q = quota (kind_is surplus) t active accounts in
    let f = opened_account (kind_is surplus) t active accounts in
    record {
      shares = rw is (rw (table_none q) at (table_fill q 0 64 0 (omega arith)));
      opened = y ∙ rw is (rw (table_none f) at (table_over f no_account accounts 0 (omega (arith, can.many))));
    }

-- past the last class nothing is active, and nothing changes
as_it_was : (kind : Kind) (t : Tree) (active : ℕ) (accounts : List Account) (i : ℕ) → 1 ≤ i → has active i ≡ false
    → opened_account kind t active accounts i ≡ account_of accounts i
unfolding opened_account
as_it_was kind t active accounts i l off = rw (ne_eqb i 0 (λ z. omega (arith, z, l)), off) refl

module _ (kind : Kind) (t : Tree) (active : ℕ) (accounts : List Account) (can : CanOpen t active accounts) {q : List ℕ} (b r : List ℕ)
  where
    opening_past : (i : ℕ) → 1 ≤ i → i < 64 → t.count < i → OpenedUpTo kind t active accounts i q b r
        → OpenedUpTo kind t active accounts (i + 1) q b r
    opening_past i l u past o =
        let off = can.past i past in
        let f = opened_account kind t active accounts in
        let g = quota kind t active accounts in
        let xs = table f i ++ drop i accounts in
        let many : i < length accounts = omega (arith, u, can.many) in
        record {
          shares =
              sym (set-get_or q i 0)
              ∙ ap (λ (x : ℕ). set q i x) (opening_unset kind t active accounts can i l u b r o
              ∙ sym (quota_inactive kind t active accounts can i l u off))
              ∙ ap (λ (ys : List ℕ). set ys i (g i)) o.shares ∙ table_fill g 0 64 i u;
          opened =
              o.opened ∙ sym (set-get_or xs i no_account)
              ∙ ap (λ (a : Account). set xs i a) (table_behind f no_account accounts i many ∙ sym (as_it_was kind t active accounts i l off))
              ∙ table_over f no_account accounts i many;
        }

    opening_rest : (n i : ℕ) → i + n ≡ 64 → 1 ≤ i → t.count < i → OpenedUpTo kind t active accounts i q b r
        → OpenedUpTo kind t active accounts 64 q b r
    opening_rest zero i e l past o = subst (λ (k : ℕ). OpenedUpTo kind t active accounts k q b r) (omega (arith, e)) o
    opening_rest (suc n) i e l past o =
        opening_rest n (i + 1) (omega (arith, e)) (omega arith) (omega (arith, past)) (opening_past i l (omega (arith, e)) past o)

    -- and so it ends with all
    pub opening_ends : (i : ℕ) → 1 ≤ i → i ≤ 64 → t.count < i → OpenedUpTo kind t active accounts i q b r
        → zip_accounts b r ≡ opened_accounts kind t active accounts
    unfolding opened_accounts
    opening_ends i l u past o =
        let end : length accounts ≤ 64 = omega (arith, can.many) in
        (opening_rest (64 - i) i (omega (arith, u)) l past o).opened
        ∙ rw (drop_of_length-le accounts end) (append-nil (table (opened_account kind t active accounts) 64))

-- the surplus of a class, when it is told whether it is a leaf and whether it is active
pub surplus_by : (t : Tree) (active : ℕ) (accounts : List Account) (i : ℕ) (u : i < 64) {leaf on : Bool} {a : Account} (sums : List ℕ)
    → is_class t i ≡ true
    → Summed t active sums → leaf ≡ has t.leaves i → on ≡ has active i → a ≡ account_of accounts i
    → (not leaf && on && surplus_of (funds_of a) (get_or sums i 0)) ≡ has_surplus t active accounts i
unfolding has_surplus surplus_at is_inner is_leaf
surplus_by t active accounts i u {leaf} {on} {a} sums is w l o e =
    let sum : get_or sums i 0 ≡ weight_sum t active i = summed_at t active sums i w u in
    rw (is, l, o, e, sum) refl

-- a class that is not both active and no leaf has no surplus
pub not_inner : (t : Tree) (active : ℕ) (accounts : List Account) (k : ℕ) → k < 64 → t.leaves < 2 ^ 64
    → (has active k && has (2 ^ 64 - 1 - t.leaves) k) ≡ false → has_surplus t active accounts k ≡ false
unfolding has_surplus surplus_at is_inner is_leaf
not_inner t active accounts k u fits e =
    go (is_class t k) (has active k) (has t.leaves k) (surplus_of (funds_of (account_of accounts k)) (weight_sum t active k))
    (ap (λ (b : Bool). has active k && b) (sym (has_not t.leaves k fits u)) ∙ e)
  where
    go : (is on leaf more : Bool) → (on && not leaf) ≡ false → ((is && not leaf) && on && more) ≡ false
    go false on leaf more z = refl
    go true on true more z = refl
    go true false false more z = refl
    go true true false more z = absurd (not_true_and_false refl z)
