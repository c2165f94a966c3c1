-- One class takes its quota: the state that the second engine's stands for stays, and so does soundness.
use mathlib.Core.Bool.{Bool, true, false, cond, ◌&&◌, not}
use mathlib.Core.List.{List}
use mathlib.Core.Path.{◌≡◌, refl, sym, ap, ap₂, ◌∙◌}
use Prim.Native.Nat.{ℕ, zero, suc, ◌+◌, ◌-◌, ◌*◌, ◌/◌, ◌≤◌, ◌<◌}
use native.Mathlib.Nat.{zero-mul, mul_comm, add-mul, div-mul-le_self, mul-le-mul_right}
use native.Mathlib.Decide.{ℕ_discrete}
use native.Mathlib.Omega.{arith}
use Rattle.checks.proofs.Laws.{not_true_and_false}
use Rattle.sets.specs.Set.{has}
use Rattle.tree.specs.declared.Tree.{Tree}
use Rattle.tree.specs.Class.{parent_of, weight_of, is_class, is_child, of_child, children_sum}
use Rattle.tree.specs.Rules.{PlanRules}
use Rattle.tree.proofs.Classes.{root_no_class, child_other}
use Rattle.tree.proofs.Rules.{parent_below}
use Rattle.tree.proofs.Sums.{sum_within}
use Rattle.state.specs.declared.Account.{Account}
use Rattle.state.specs.Account.{account, account_of, balance_of, residual_of, funds_of, took_quota, handed_down}
use Rattle.tree.proofs.Tables.{table_same}
use Rattle.sound.specs.Sound.{Sound, total}
use Rattle.rules.specs.Active.{active_weight, weight_sum}
use Rattle.published.specs.Asking.{Published, quota_at, with_accounts}
use Rattle.published.specs.Settled.{unasked, owed_weight, owed_sum, share, asked_account, settled_account, settled}
use Rattle.published.specs.Sound.{SoundPublished}
use Rattle.published.proofs.Shares.{works_out, share_step}

-- ---- handing down

pub hand_none : (a : Account) (n : ℕ) → n ≡ 0 → handed_down a n ≡ a
hand_none a n e =
    let less : a.balance.0 - n ≡ a.balance.0 = omega (arith, e) in
    λ k. account (less k) a.residual.0

pub hand_twice : (a : Account) (m n : ℕ) → handed_down (handed_down a m) n ≡ handed_down a (m + n)
hand_twice a m n =
    let both : a.balance.0 - m - n ≡ a.balance.0 - (m + n) = omega arith in
    λ k. account (both k) a.residual.0

-- ---- who has asked

-- a class that has its quota has not yet to ask
pub asked_not : (x : Published) (i : ℕ) → has x.asked i ≡ true → unasked x i ≡ false
unfolding unasked
asked_not x i e = rw e (go (has x.state.round.active i))
  where
    go : (b : Bool) → (b && false) ≡ false
    go true = refl
    go false = refl

pub unasked_parts : (x : Published) (i : ℕ) → unasked x i ≡ true → (has x.state.round.active i ≡ true) × (has x.asked i ≡ false)
unfolding unasked
unasked_parts x i e = go (has x.state.round.active i) (has x.asked i) e
  where
    go : (a b : Bool) → (a && not b) ≡ true → (a ≡ true) × (b ≡ false)
    go true true e = absurd (not_true_and_false {b = false} e refl)
    go true false e = (refl, refl)
    go false b e = absurd (not_true_and_false {b = false} e refl)

-- a class that has its quota shares out that one
pub share_asked : (x : Published) → PlanRules x.state.tree → (i : ℕ) → i < 64 → unasked x i ≡ false → share x i ≡ quota_at x i
share_asked x rules i u e = share_step x rules i u ∙ rw e

pub share_unasked : (x : Published) → (rules : PlanRules x.state.tree) → (i : ℕ) → i < 64 → unasked x i ≡ true
    → share x i ≡ works_out x i (share x (parent_of x.state.tree i))
share_unasked x rules i u e = share_step x rules i u ∙ rw e

-- what the children that have yet to ask weigh is within what the active children weigh
pub owed_within : (x : Published) (p : ℕ) → owed_sum x p ≤ weight_sum x.state.tree x.state.round.active p
unfolding owed_sum owed_weight unasked weight_sum active_weight children_sum of_child
owed_within x p =
    sum_within _ _ x.state.tree.count
    (λ i l u. go (is_child x.state.tree p i) (has x.state.round.active i) (not (has x.asked i)) (weight_of x.state.tree i))
  where
    go : (a b c : Bool) (w : ℕ) → cond a (cond (b && c) w 0) 0 ≤ cond a (cond b w 0) 0
    go true true true w = omega arith
    go true true false w = omega arith
    go true false c w = omega arith
    go false b c w = omega arith

-- what class i weighs to class p: its weight where p is its parent
abbrev pub child_weight : Tree → ℕ → ℕ → ℕ
child_weight t p i = of_child t (weight_of t) p i

-- a class without weight is due nothing
pub light_child : (t : Tree) (k i : ℕ) → weight_of t i ≡ 0 → child_weight t k i ≡ 0
unfolding of_child
light_child t k i none = go (is_child t k i)
  where
    go : (c : Bool) → cond c (weight_of t i) 0 ≡ 0
    go true = none
    go false = refl

-- ---- one take

-- the state with these accounts, who has asked and quotas
abbrev pub next : Published → List Account → ℕ → List ℕ → Published
next x accounts asked quotas = record { state = with_accounts x.state accounts; asked = asked; quotas = quotas }

-- class i, which has yet to ask, takes what it is due from its parent, which has its quota
pub record Takes (x : Published) (accounts : List Account) (asked : ℕ) (quotas : List ℕ) (i : ℕ) : Type 0 where
  pub rules : PlanRules x.state.tree
  pub number : i < 64
  pub still : unasked x i ≡ true
  pub parent : is_class x.state.tree i ≡ true → has x.asked (parent_of x.state.tree i) ≡ true
  pub due : ℕ
  pub due_is : due ≡ weight_of x.state.tree i * share x (parent_of x.state.tree i)
  pub has_own : has asked i ≡ true
  pub has_other : (k : ℕ) → (k ≡ i → ⊥) → has asked k ≡ has x.asked k
  pub own : account_of accounts i ≡ took_quota (account_of x.state.round.accounts i) due
  pub other : (k : ℕ) → (k ≡ i → ⊥)
      → account_of accounts k ≡ handed_down (account_of x.state.round.accounts k) (child_weight x.state.tree k i * quota_at x k)
  pub quota_own : quota_at (next x accounts asked quotas) i
      ≡ (funds_of (account_of x.state.round.accounts i) + due) / weight_sum x.state.tree x.state.round.active i
  pub quota_other : (k : ℕ) → (k ≡ i → ⊥) → quota_at (next x accounts asked quotas) k ≡ quota_at x k
  pub owed : (k : ℕ) → k < 64 → owed_sum x k ≡ owed_sum (next x accounts asked quotas) k + child_weight x.state.tree k i
  pub same_total : total accounts ≡ total x.state.round.accounts

module _ (x : Published) (accounts : List Account) (asked : ℕ) (quotas : List ℕ) (i : ℕ) (t : Takes x accounts asked quotas i) where
  now_asked : unasked (next x accounts asked quotas) i ≡ false
  now_asked = asked_not (next x accounts asked quotas) i t.has_own

  same_unasked : (k : ℕ) → (k ≡ i → ⊥) → unasked (next x accounts asked quotas) k ≡ unasked x k
  unfolding unasked
  same_unasked k ne = ap (λ (b : Bool). has x.state.round.active k && not b) (t.has_other k ne)

  -- only a parent that has its quota hands down
  pays_none : (k : ℕ) → unasked x k ≡ true → child_weight x.state.tree k i ≡ 0
  pays_none k e = go (is_class x.state.tree i) refl (ℕ_discrete (parent_of x.state.tree i) k)
    where
      go : (b : Bool) → is_class x.state.tree i ≡ b → Dec (parent_of x.state.tree i ≡ k) → child_weight x.state.tree k i ≡ 0
      go b is (no ne) = child_other x.state.tree (weight_of x.state.tree) i k ne
      go true is (yes p) =
          absurd (not_true_and_false (ap (has x.asked) (sym p) ∙ t.parent is) (unasked_parts x k e).1)
      go false is (yes p) = light_child x.state.tree k i ((t.rules.unset.at i t.number).past is).weight

  -- a class is no child of itself
  own_none : child_weight x.state.tree i i ≡ 0
  own_none = go (ℕ_discrete i 0)
    where
      go : Dec (i ≡ 0) → child_weight x.state.tree i i ≡ 0
      go (yes z) =
          light_child x.state.tree i i
          (ap (weight_of x.state.tree) z ∙ ((t.rules.unset.at 0 (omega arith)).past (root_no_class x.state.tree)).weight)
      go (no z) =
          let low = parent_below x.state.tree i t.rules (omega arith) t.number in
          child_other x.state.tree (weight_of x.state.tree) i i (λ e. omega arith)

  -- every class has or will work out the quota that it would have
  share_kept : (n k : ℕ) → k < n → k < 64 → share (next x accounts asked quotas) k ≡ share x k
  share_kept zero k a u = absurd (omega arith)
  share_kept (suc n) k a u = go (ℕ_discrete k i) (unasked x k) refl (λ j b v. share_kept n j b v)
    where
      x' : Published
      x' = next x accounts asked quotas

      tree : PlanRules x.state.tree
      tree = t.rules

      go : Dec (k ≡ i) → (b : Bool) → unasked x k ≡ b → ((j : ℕ) → j < n → j < 64 → share x' j ≡ share x j) → share x' k ≡ share x k
      go (yes e) b w ih =
          rw e
          (share_asked x' tree i t.number now_asked
          ∙ t.quota_own
          ∙ ap (λ (d : ℕ). (funds_of (account_of x.state.round.accounts i) + d) / weight_sum x.state.tree
          x.state.round.active i) t.due_is
          ∙ sym (share_unasked x tree i t.number t.still))
      go (no ne) false w ih =
          share_asked x' tree k u (same_unasked k ne ∙ w) ∙ t.quota_other k ne ∙ sym (share_asked x tree k u w)
      go (no ne) true w ih =
          share_unasked x' tree k u (same_unasked k ne ∙ w) ∙ at (ℕ_discrete k 0) ∙ sym (share_unasked x tree k u w)
        where
          funds : account_of accounts k ≡ account_of x.state.round.accounts k
          funds = t.other k ne ∙ hand_none _ _ (ap (λ (m : ℕ). m * quota_at x k) (pays_none k w) ∙ zero-mul (quota_at x k))

          at : Dec (k ≡ 0) → works_out x' k (share x' (parent_of x.state.tree k))
              ≡ works_out x k (share x (parent_of x.state.tree k))
          at (yes z) =
              let none : weight_of x.state.tree k ≡ 0
              = ap (weight_of x.state.tree) z ∙ ((tree.unset.at 0 (omega arith)).past (root_no_class x.state.tree)).weight in
              ap₂ (λ (f d : ℕ). (f + d) / weight_sum x.state.tree x.state.round.active k) (ap funds_of funds)
              (rw (none, zero-mul (share x' (parent_of x.state.tree k)), zero-mul (share x (parent_of x.state.tree k))))
          at (no z) =
              let low = parent_below x.state.tree k tree (omega arith) u in
              ap₂ (λ (f q : ℕ). (f + weight_of x.state.tree k * q) / weight_sum x.state.tree x.state.round.active k)
              (ap funds_of funds)
              (ih (parent_of x.state.tree k) (omega arith) (omega arith))

  -- so does every account when all have asked
  account_kept : (k : ℕ) → k < 64 → settled_account (next x accounts asked quotas) k ≡ settled_account x k
  unfolding settled_account asked_account
  account_kept k u = go (ℕ_discrete k i) (unasked x k) refl
    where
      x' : Published
      x' = next x accounts asked quotas

      gives : owed_sum x' k * share x' k ≡ owed_sum x' k * share x k
      gives = ap (λ (q : ℕ). owed_sum x' k * q) (share_kept 64 k u u)

      go : Dec (k ≡ i) → (b : Bool) → unasked x k ≡ b → settled_account x' k ≡ settled_account x k
      go (yes e) b w =
          let none = own_none in
          let owes : owed_sum x' k ≡ owed_sum x k = rw e (omega (arith, t.owed i t.number, none)) in
          let took : asked_account x' k ≡ asked_account x k =
          rw e (rw (now_asked, t.still) (t.own ∙ ap (took_quota (account_of x.state.round.accounts i)) t.due_is))
          in
          ap₂ handed_down took (gives ∙ ap (λ (m : ℕ). m * share x k) owes)
      go (no ne) false w =
          let owes : owed_sum x k ≡ owed_sum x' k + child_weight x.state.tree k i = t.owed k u in
          let q : share x k ≡ quota_at x k = share_asked x t.rules k u w in
          rw (same_unasked k ne ∙ w, w)
          (ap₂ handed_down (t.other k ne) gives
          ∙ hand_twice (account_of x.state.round.accounts k) (child_weight x.state.tree k i * quota_at x k) (owed_sum x' k * share x k)
          ∙ ap (handed_down (account_of x.state.round.accounts k)) (sums owes q))
        where
          sums : owed_sum x k ≡ owed_sum x' k + child_weight x.state.tree k i → share x k ≡ quota_at x k
              → child_weight x.state.tree k i * quota_at x k + owed_sum x' k * share x k ≡ owed_sum x k * share x k
          sums owes q =
              rw (q, owes)
              (omega (arith, add-mul (owed_sum x' k) (child_weight x.state.tree k i) (quota_at x k)))
      go (no ne) true w =
          let owes : owed_sum x' k ≡ owed_sum x k = omega (arith, t.owed k u, pays_none k w) in
          rw (same_unasked k ne ∙ w, w)
          (ap₂ handed_down (ap₂ took_quota funds (due (ℕ_discrete k 0))) (gives ∙ ap (λ (m : ℕ). m * share x k) owes))
        where
          funds : account_of accounts k ≡ account_of x.state.round.accounts k
          funds = t.other k ne ∙ hand_none _ _ (ap (λ (m : ℕ). m * quota_at x k) (pays_none k w) ∙ zero-mul (quota_at x k))

          due : Dec (k ≡ 0) → weight_of x.state.tree k * share x' (parent_of x.state.tree k)
              ≡ weight_of x.state.tree k * share x (parent_of x.state.tree k)
          due (yes z) =
              let none : weight_of x.state.tree k ≡ 0
              = ap (weight_of x.state.tree) z ∙ ((t.rules.unset.at 0 (omega arith)).past (root_no_class x.state.tree)).weight in
              rw (none, zero-mul (share x' (parent_of x.state.tree k)), zero-mul (share x (parent_of x.state.tree k)))
          due (no z) =
              let low = parent_below x.state.tree k t.rules (omega arith) u in
              ap (λ (q : ℕ). weight_of x.state.tree k * q)
              (share_kept 64 (parent_of x.state.tree k) (omega arith) (omega arith))

  -- the state that it stands for stays
  pub take_settled : settled (next x accounts asked quotas) ≡ settled x
  unfolding settled
  take_settled =
      ap (with_accounts x.state) (table_same (settled_account (next x accounts asked quotas)) (settled_account x) 64 account_kept)

  -- ---- and it stays sound

  pub keeps_asked : (k : ℕ) → has x.asked k ≡ true → has asked k ≡ true
  keeps_asked k e = go (ℕ_discrete k i)
    where
      go : Dec (k ≡ i) → has asked k ≡ true
      go (yes z) = ap (has asked) z ∙ t.has_own
      go (no ne) = t.has_other k ne ∙ e

  residual_kept : (k : ℕ) → residual_of x.state.round.accounts k ≡ 0 → residual_of accounts k ≡ 0
  residual_kept k e = go (ℕ_discrete k i)
    where
      go : Dec (k ≡ i) → residual_of accounts k ≡ 0
      go (yes z) = ap (residual_of accounts) z ∙ ap (λ (a : Account). a.residual.0) t.own
      go (no ne) = ap (λ (a : Account). a.residual.0) (t.other k ne) ∙ e

  -- no other class gains
  none_gains : (k : ℕ) → (k ≡ i → ⊥) → balance_of accounts k ≤ balance_of x.state.round.accounts k
  none_gains k ne = omega (arith, ap (λ (a : Account). a.balance.0) (t.other k ne))

  module _ (sound : SoundPublished x) where
    state_kept : Sound (with_accounts x.state accounts)
    state_kept =
        let s = sound.state in
        record {
          fits = record { tree = s.fits.tree; size = s.fits.size };
          holds = λ k u. record { few = (s.holds k u).few; range = (s.holds k u).range; other = (s.holds k u).other };
          waiting = λ k u. record { waits = (s.waiting k u).waits };
          past = record { word = s.past.word; past = s.past.past };
          above = λ k u. record { leaf_below_lem = (s.above k u).leaf_below_lem; active = (s.above k u).active };
          zero =
              λ k u. record {
                balance = λ l off.
                    omega (
                      arith,
                      (s.zero k u).balance l off,
                      none_gains k (λ e. not_true_and_false (ap (has x.state.round.active) e ∙ (unasked_parts x i t.still).0) off),
                    );
                residual = λ l off. residual_kept k ((s.zero k u).residual l off);
                leaf = λ leaf. residual_kept k ((s.zero k u).leaf leaf);
              };
          adds = record { adds = t.same_total ∙ s.adds.adds };
          place = record { low = s.place.low; high = s.place.high };
          totals = λ k u. record { packets = (s.totals k u).packets; bytes = (s.totals k u).bytes };
          behind =
              λ k u. record {
                lacks = λ leaf on below.
                    omega (
                      arith,
                      (s.behind k u).lacks leaf on below,
                      none_gains k
                          (λ e. not_true_and_false (ap (has x.asked) (sym e) ∙ (sound.behind k u).asked leaf on below)
                          (unasked_parts x i t.still).1),
                    );
              };
        }

    pays_kept : (k : ℕ) → k < 64 → has asked k ≡ true
        → owed_sum (next x accounts asked quotas) k * quota_at (next x accounts asked quotas) k ≤ balance_of accounts k
    pays_kept k u e = go (ℕ_discrete k i)
      where
        x' : Published
        x' = next x accounts asked quotas

        go : Dec (k ≡ i) → owed_sum x' k * quota_at x' k ≤ balance_of accounts k
        go (yes z) =
            let w = weight_sum x.state.tree x.state.round.active i in
            let h = funds_of (account_of x.state.round.accounts i) + t.due in
            let has : balance_of accounts i ≡ h = ap (λ (a : Account). a.balance.0) t.own in
            let within = mul-le-mul_right (h / w) (owed_within x' i) in
            rw (z, t.quota_own) (omega (arith, within, mul_comm w (h / w), div-mul-le_self h w, has))
        go (no ne) =
            let before = (sound.pay k u).pays (sym (t.has_other k ne) ∙ e) in
            let left = ap (λ (a : Account). a.balance.0) (t.other k ne) in
            let owes : owed_sum x k * quota_at x k ≡ (owed_sum x' k + child_weight x.state.tree k i) * quota_at x k =
            ap (λ (m : ℕ). m * quota_at x k) (t.owed k u)
            in
            let parts = add-mul (owed_sum x' k) (child_weight x.state.tree k i) (quota_at x k) in
            rw (t.quota_other k ne) (omega (arith, before, left, owes, parts))

    pub take_sound : SoundPublished (next x accounts asked quotas)
    take_sound = record {
      state = state_kept;
      parents = λ k u. record { up = λ is on e. up k u is on e (ℕ_discrete k i) };
      pay = λ k u. record { pays = pays_kept k u };
      behind = λ k u. record { asked = λ leaf on below. keeps_asked k ((sound.behind k u).asked leaf on below) };
    }
      where
        up : (k : ℕ) → k < 64 → is_class x.state.tree k ≡ true → has x.state.round.active k ≡ true → has asked k ≡ true
            → Dec (k ≡ i)
            → has asked (parent_of x.state.tree k) ≡ true
        up k u is on e (yes z) =
            keeps_asked (parent_of x.state.tree k)
            (ap (λ (j : ℕ). has x.asked (parent_of x.state.tree j)) z ∙ t.parent (ap (is_class x.state.tree) (sym z) ∙ is))
        up k u is on e (no ne) = keeps_asked _ ((sound.parents k u).up is on (sym (t.has_other k ne) ∙ e))
