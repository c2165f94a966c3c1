-- A leaf that has asked sends: what the state then stands for is what the first engine leaves.
use mathlib.Core.Bool.{Bool, true, false, cond, ◌&&◌, not}
use mathlib.Core.List.{List}
use mathlib.Core.Path.{◌≡◌, refl, sym, ap, ap₂, ◌∙◌}
use Prim.Native.Nat.{ℕ, zero, suc, ◌+◌, ◌-◌, ◌*◌, ◌/◌, ◌≤◌, ◌<◌}
use native.Mathlib.Nat.{zero-mul}
use native.Mathlib.Decide.{ℕ_discrete}
use native.Mathlib.Omega.{arith}
use lib.Dec.{eqb, leb}
use lib.ListN.{length}
use lib.Seq.{ext_get_or}
use borrow.Author.Tests.{eqb-true}
use Rattle.checks.proofs.Laws.{not_true_and_false}
use Rattle.sets.specs.Set.{has}
use Rattle.units.specs.Cost.{cost_of}
use Rattle.tree.specs.Class.{parent_of, weight_of, is_class, is_leaf, is_child, of_child, children_sum}
use Rattle.tree.specs.Rules.{PlanRules}
use Rattle.tree.proofs.Classes.{both_true, class_in_lem, class_range}
use Rattle.tree.proofs.Rules.{few_classes, parent_lower, parent_below}
use Rattle.tree.proofs.Sums.{sum_same}
use Rattle.state.specs.declared.Account.{Account}
use Rattle.state.specs.Account.{account, no_account, account_of, balance_of, funds_of, took_quota, handed_down, sent_from, gained}
use Rattle.tree.specs.Sum.{table}
use Rattle.state.specs.State.{queue_at, round_of, in_round}
use Rattle.tree.proofs.Tables.{table_at, table_length}
use Rattle.rules.specs.Active.{active_weight, weight_sum}
use Rattle.rules.specs.Sending.{Books, first_of, ready, active_leaf, turns_off, paid, books_after, sent_state}
use Rattle.rules.proofs.Shares.{parent_most}
use Rattle.rules.proofs.SentBooks.{paid_length, paid_leaf, paid_root, paid_other}
use Rattle.rules.proofs.Searching.{ready_unset, ready_is}
use Rattle.rules.proofs.Sender.{Sender}
use Rattle.rules.proofs.Sent.{sound_after, wide_after}
use Rattle.rules.proofs.Sums.{sum_without}
use Rattle.published.specs.Asking.{Published, quota_at}
use Rattle.published.specs.Visiting.{sent_published}
use Rattle.published.specs.Settled.{unasked, owed_weight, owed_sum, share, asked_account, settled_account, settled}
use Rattle.published.specs.Sound.{SoundPublished, WidePublished}
use Rattle.published.proofs.Shares.{works_out}
use Rattle.published.proofs.OneTake.{asked_not, unasked_parts, share_asked, share_unasked, owed_within}
use Rattle.published.proofs.Asks.{active_up, still_to_ask}
use Rattle.published.proofs.Visits.{settled_at, asked_own, settled_own, leaf_owes}
use Rattle.published.proofs.Settles.{stands_wide}
use Rattle.published.proofs.Stands.{Stand, turns_stand}

-- where an active class has asked, the root has
root_has_asked : (n : ℕ) (x : Published) (i : ℕ) → SoundPublished x → i < n → is_class x.state.tree i ≡ true
    → has x.state.round.active i ≡ true → has x.asked i ≡ true → has x.asked 0 ≡ true
root_has_asked zero x i sound a is on e = absurd (omega arith)
root_has_asked (suc n) x i sound a is on e =
    go (ℕ_discrete (parent_of x.state.tree i) 0)
    (λ is' low. root_has_asked n x (parent_of x.state.tree i) sound low is' (active_up x.state sound.state i is on) up)
  where
    r : (1 ≤ i) × (i ≤ x.state.tree.count)
    r = class_range x.state.tree i is

    up : has x.asked (parent_of x.state.tree i) ≡ true
    up = (sound.parents i (omega (arith, r.1, few_classes x.state.tree sound.state.fits.tree))).up is on e

    low : parent_of x.state.tree i < i
    low = parent_lower x.state.tree i sound.state.fits.tree is

    go : Dec (parent_of x.state.tree i ≡ 0)
        → (is_class x.state.tree (parent_of x.state.tree i) ≡ true → parent_of x.state.tree i < n → has x.asked 0 ≡ true)
        → has x.asked 0 ≡ true
    go (yes z) ih = ap (has x.asked) (sym z) ∙ up
    go (no ne) ih =
        ih (class_in_lem x.state.tree (parent_of x.state.tree i) (omega arith) (omega (arith, low, r.1))) (omega (arith, low, a))

-- a class that is not active owes nothing
idle_owes : (x : Published) → SoundPublished x → (k : ℕ) → has x.state.round.active k ≡ false → owed_sum x k ≡ 0
idle_owes x sound k off =
    omega (
      arith,
      owed_within x k,
      sum_without x.state.tree x.state.round.active k
          (λ j is e on. not_true_and_false (ap (has x.state.round.active) (sym e) ∙ active_up x.state sound.state j is on) off),
    )

-- who has not yet to ask can pay what it owes
owes_within : (x : Published) → SoundPublished x → (k : ℕ) → k < 64 → unasked x k ≡ false
    → owed_sum x k * share x k ≤ balance_of x.state.round.accounts k
owes_within x sound k u e = go (has x.asked k) refl (has x.state.round.active k) refl
  where
    q : share x k ≡ quota_at x k
    q = share_asked x sound.state.fits.tree k u e

    go : (a : Bool) → has x.asked k ≡ a → (b : Bool) → has x.state.round.active k ≡ b
        → owed_sum x k * share x k ≤ balance_of x.state.round.accounts k
    go true w b on = rw q ((sound.pay k u).pays w)
    go false w false off = omega (arith, ap (λ (m : ℕ). m * share x k) (idle_owes x sound k off), zero-mul (share x k))
    go false w true on = absurd (not_true_and_false (still_to_ask x k on w) e)

module _ (x : Published) (i : ℕ) (sound : SoundPublished x) (wide : WidePublished x) (is : Sender x.state i)
    (asked : has x.asked i ≡ true) where
  rules : PlanRules x.state.tree
  rules = sound.state.fits.tree

  -- the root has its quota
  root : has x.asked 0 ≡ true
  root = root_has_asked 64 x i sound is.high is.class is.active asked

  -- the books when the packet has been paid, here and in the state that x stands for
  abbrev b : Books
  b = record { active = x.state.round.active; accounts = paid x.state i }

  abbrev b' : Books
  b' = record { active = x.state.round.active; accounts = paid (settled x) i }

  settled_asked : (k : ℕ) → k < 64 → unasked x k ≡ false
      → account_of (settled x).round.accounts k ≡ handed_down (account_of x.state.round.accounts k) (owed_sum x k * share x k)
  unfolding settled_account
  settled_asked k u e = settled_at x k u ∙ ap (λ (a : Account). handed_down a (owed_sum x k * share x k)) (asked_own x k e)

  same_cost : cost_of (first_of (settled x) i).length ≡ cost_of (first_of x.state i).length
  unfolding settled
  same_cost = refl

  paid_asked : (k : ℕ) → k < 64 → unasked x k ≡ false → Dec (k ≡ i) → Dec (k ≡ 0)
      → account_of (paid (settled x) i) k ≡ handed_down (account_of (paid x.state i) k) (owed_sum x k * share x k)
  paid_asked k u e (yes z) d =
      rw z
      (paid_leaf (settled x) i (stands_wide x wide) is.low is.high
      ∙ ap₂ sent_from (settled_asked i is.high (rw z at e)) same_cost
      ∙ swap (account_of x.state.round.accounts i) (cost_of (first_of x.state i).length) (owed_sum x i * share x i)
      ∙ ap (λ (a : Account). handed_down a (owed_sum x i * share x i)) (sym (paid_leaf x.state i wide.state is.low is.high)))
    where
      swap : (a : Account) (c d : ℕ) → sent_from (handed_down a d) c ≡ handed_down (sent_from a c) d
      swap a c d =
          let h : a.balance.0 - d - c ≡ a.balance.0 - c - d = omega arith in
          λ j. account (h j) a.residual.0
  paid_asked k u e (no ne) (yes z) =
      rw z
      (paid_root (settled x) i (stands_wide x wide) is.low
      ∙ ap₂ gained (settled_asked 0 (omega arith) (rw z at e)) same_cost
      ∙ swap (account_of x.state.round.accounts 0) (cost_of (first_of x.state i).length) (owed_sum x 0 * share x 0)
      (owes_within x sound 0 (omega arith) (rw z at e))
      ∙ ap (λ (a : Account). handed_down a (owed_sum x 0 * share x 0)) (sym (paid_root x.state i wide.state is.low)))
    where
      swap : (a : Account) (c d : ℕ) → d ≤ a.balance.0 → gained (handed_down a d) c ≡ handed_down (gained a c) d
      swap a c d le =
          let h : a.balance.0 - d + c ≡ a.balance.0 + c - d = omega (arith, le) in
          λ j. account (h j) a.residual.0
  paid_asked k u e (no ne) (no nz) =
      paid_other (settled x) i k ne nz
      ∙ settled_asked k u e
      ∙ ap (λ (a : Account). handed_down a (owed_sum x k * share x k)) (sym (paid_other x.state i k ne nz))

  -- one that has yet to ask is neither the leaf nor the root
  not_leaf : (k : ℕ) → unasked x k ≡ true → k ≡ i → ⊥
  not_leaf k e z = not_true_and_false (ap (unasked x) (sym z) ∙ e) (asked_not x i asked)

  not_root : (k : ℕ) → unasked x k ≡ true → k ≡ 0 → ⊥
  not_root k e z = not_true_and_false (ap (unasked x) (sym z) ∙ e) (asked_not x 0 root)

  paid_pays : (k : ℕ) → k < 64 → unasked x k ≡ false → Dec (k ≡ i) → Dec (k ≡ 0)
      → owed_sum x k * share x k ≤ balance_of (paid x.state i) k
  paid_pays k u e (yes z) d =
      rw z (omega (arith, ap (λ (m : ℕ). m * share x i) (leaf_owes x i rules is.leaf), zero-mul (share x i)))
  paid_pays k u e (no ne) (yes z) =
      rw z
      (omega (
        arith,
        owes_within x sound 0 (omega arith) (rw z at e),
        ap (λ (a : Account). a.balance.0) (paid_root x.state i wide.state is.low),
      ))
  paid_pays k u e (no ne) (no nz) =
      omega (arith, owes_within x sound k u e, ap (λ (a : Account). a.balance.0) (paid_other x.state i k ne nz))

  paid_stand : Stand x b b'
  paid_stand = record {
    active = refl;
    many = paid_length x.state i ∙ wide.state.accounts;
    many' = paid_length (settled x) i ∙ (stands_wide x wide).accounts;
    asked = λ k u e. paid_asked k u e (ℕ_discrete k i) (ℕ_discrete k 0);
    still = λ k u e. paid_other x.state i k (not_leaf k e) (not_root k e);
    still' = λ k u e. paid_other (settled x) i k (not_leaf k e) (not_root k e) ∙ settled_at x k u;
    pays = λ k u e. paid_pays k u e (ℕ_discrete k i) (ℕ_discrete k 0);
    stays = λ k e. (unasked_parts x k e).0;
    shrinks = λ k e. e;
  }

  -- the books after the packet, here and there
  books_stand : Stand x (books_after x.state i) (books_after (settled x) i)
  unfolding books_after settled
  books_stand = go (leb (length (queue_at x.state i)) 1)
    where
      go : (c : Bool) → Stand x (cond c (turns_off 63 x.state.tree i b) b) (cond c (turns_off 63 x.state.tree i b') b')
      go true =
          turns_stand x sound 63 i b b'
          (record { class = is.class; on = is.active; asked = asked; free = leaf_owes x i rules is.leaf }) paid_stand
      go false = paid_stand

  -- ---- who has yet to ask, and what everyone shares out, stays

  same_unasked : (k : ℕ) → unasked (sent_published x i) k ≡ unasked x k
  unfolding unasked sent_published sent_state
  same_unasked k = go (has x.state.round.active k) refl (has x.asked k) refl
    where
      go : (a : Bool) → has x.state.round.active k ≡ a → (c : Bool) → has x.asked k ≡ c
          → (has (books_after x.state i).active k && not (has x.asked k))
          ≡ (has x.state.round.active k && not (has x.asked k))
      go a on true e = rw e (none (has (books_after x.state i).active k) (has x.state.round.active k))
        where
          none : (a d : Bool) → (a && false) ≡ (d && false)
          none true true = refl
          none true false = refl
          none false true = refl
          none false false = refl
      go true on false e = rw (on, books_stand.stays k (still_to_ask x k on e)) refl
      go false off false e = rw (off, gone (has (books_after x.state i).active k) refl) refl
        where
          gone : (d : Bool) → has (books_after x.state i).active k ≡ d → has (books_after x.state i).active k ≡ false
          gone true h = absurd (not_true_and_false (books_stand.shrinks k h) off)
          gone false h = h

  same_owed : (p : ℕ) → owed_sum (sent_published x i) p ≡ owed_sum x p
  unfolding owed_sum owed_weight children_sum of_child sent_published sent_state
  same_owed p =
      sum_same _ _ x.state.tree.count
      (λ k l u. ap (λ (c : Bool). cond (is_child x.state.tree p k) (cond c (weight_of x.state.tree k) 0) 0) (same_unasked k))

  -- the active children of a class that has yet to ask are those it had
  same_sum : (k : ℕ) → unasked x k ≡ true
      → weight_sum x.state.tree (books_after x.state i).active k ≡ weight_sum x.state.tree x.state.round.active k
  unfolding weight_sum active_weight children_sum of_child is_child
  same_sum k w =
      sum_same _ _ x.state.tree.count
      (λ j l u. go j (class_in_lem x.state.tree j l u) (eqb (parent_of x.state.tree j) k) refl (has x.state.round.active j) refl)
    where
      go : (j : ℕ) → is_class x.state.tree j ≡ true → (c : Bool) → eqb (parent_of x.state.tree j) k ≡ c
          → (d : Bool) → has x.state.round.active j ≡ d
          → cond c (cond (has (books_after x.state i).active j) (weight_of x.state.tree j) 0) 0
          ≡ cond c (cond (has x.state.round.active j) (weight_of x.state.tree j) 0) 0
      go j cl false e d on = refl
      go j cl true e true on = rw (on, books_stand.stays j (still_to_ask x j on (not_asked_lem (has x.asked j) refl))) refl
        where
          not_asked_lem : (a : Bool) → has x.asked j ≡ a → has x.asked j ≡ false
          not_asked_lem false h = h
          not_asked_lem true h =
              let up =
              (sound.parents j (omega (arith, (class_range x.state.tree j cl).1, few_classes x.state.tree rules))).up cl on h
              in
              absurd (not_true_and_false (ap (has x.asked) (sym (eqb-true (parent_of x.state.tree j) k e)) ∙ up)
              (unasked_parts x k w).1)
      go j cl true e false off = rw (off, gone (has (books_after x.state i).active j) refl) refl
        where
          gone : (d : Bool) → has (books_after x.state i).active j ≡ d → has (books_after x.state i).active j ≡ false
          gone true h = absurd (not_true_and_false (books_stand.shrinks j h) off)
          gone false h = h

  quota_kept : (k : ℕ) → quota_at (sent_published x i) k ≡ quota_at x k
  unfolding sent_published
  quota_kept k = refl

  -- what a class that has yet to ask will work out
  works_kept : (k q : ℕ) → k < 64 → unasked x k ≡ true → works_out (sent_published x i) k q ≡ works_out x k q
  unfolding sent_published sent_state
  works_kept k q u w =
      ap₂ (λ (f m : ℕ). (f + weight_of x.state.tree k * q) / m) (ap funds_of (books_stand.still k u w)) (same_sum k w)

  rules' : PlanRules (sent_published x i).state.tree
  unfolding sent_published sent_state
  rules' = rules

  parent_kept : (k : ℕ) → parent_of (sent_published x i).state.tree k ≡ parent_of x.state.tree k
  unfolding sent_published sent_state
  parent_kept k = refl

  weight_kept : (k : ℕ) → weight_of (sent_published x i).state.tree k ≡ weight_of x.state.tree k
  unfolding sent_published sent_state
  weight_kept k = refl

  share_kept : (n k : ℕ) → k < n → k < 64 → share (sent_published x i) k ≡ share x k
  share_kept zero k a u = absurd (omega arith)
  share_kept (suc n) k a u = go (unasked x k) refl (λ j c v. share_kept n j c v)
    where
      go : (c : Bool) → unasked x k ≡ c → ((j : ℕ) → j < n → j < 64 → share (sent_published x i) j ≡ share x j)
          → share (sent_published x i) k ≡ share x k
      go false w ih =
          share_asked (sent_published x i) rules' k u (same_unasked k ∙ w) ∙ quota_kept k ∙ sym (share_asked x rules k u w)
      go true w ih =
          share_unasked (sent_published x i) rules' k u (same_unasked k ∙ w)
          ∙ ap (λ (j : ℕ). works_out (sent_published x i) k (share (sent_published x i) j)) (parent_kept k)
          ∙ works_kept k (share (sent_published x i) (parent_of x.state.tree k)) u w
          ∙ ap (works_out x k) (ih (parent_of x.state.tree k) (omega (arith, low)) (omega (arith, low)))
          ∙ sym (share_unasked x rules k u w)
        where
          low : parent_of x.state.tree k < k
          low = parent_below x.state.tree k rules (omega (arith, not_root k w)) u

  after_is : (k : ℕ) → account_of (sent_published x i).state.round.accounts k ≡ account_of (books_after x.state i).accounts k
  unfolding sent_published sent_state
  after_is k = refl

  took : (k : ℕ) → k < 64 → unasked x k ≡ true → asked_account (sent_published x i) k ≡ asked_account x k
  unfolding asked_account
  took k u w =
      rw (same_unasked k ∙ w, w)
      (ap₂ took_quota (after_is k ∙ books_stand.still k u w)
      (ap₂ ◌*◌ (weight_kept k)
      (ap (share (sent_published x i)) (parent_kept k)
      ∙ share_kept 64 (parent_of x.state.tree k) (omega (arith, low)) (omega (arith, low)))))
    where
      low : parent_of x.state.tree k < 64
      low = omega (arith, parent_most x.state.tree k rules u)

  -- so the accounts are those that the first engine leaves
  account_kept : (k : ℕ) → k < 64 → settled_account (sent_published x i) k ≡ account_of (books_after (settled x) i).accounts k
  unfolding settled_account
  account_kept k u = go (unasked x k) refl
    where
      hands : owed_sum (sent_published x i) k * share (sent_published x i) k ≡ owed_sum x k * share x k
      hands = ap₂ ◌*◌ (same_owed k) (share_kept 64 k u u)

      go : (c : Bool) → unasked x k ≡ c
          → handed_down (asked_account (sent_published x i) k) (owed_sum (sent_published x i) k * share (sent_published x i) k)
          ≡ account_of (books_after (settled x) i).accounts k
      go false w =
          ap₂ handed_down (asked_own (sent_published x i) k (same_unasked k ∙ w) ∙ after_is k) hands ∙ sym (books_stand.asked k u w)
      go true w = ap₂ handed_down (took k u w) hands ∙ sym (books_stand.still' k u w)

  all_kept : table (settled_account (sent_published x i)) 64 ≡ (books_after (settled x) i).accounts
  all_kept =
      ext_get_or no_account (table (settled_account (sent_published x i)) 64) (books_after (settled x) i).accounts
      (table_length (settled_account (sent_published x i)) 64 ∙ sym books_stand.many')
      (λ k h.
      let u : k < 64 = omega (arith, table_length (settled_account (sent_published x i)) 64) in
      table_at (settled_account (sent_published x i)) no_account 64 k u ∙ account_kept k u)

  -- what it then stands for is what the first engine leaves
  pub sends_settled : settled (sent_published x i) ≡ sent_state (settled x) i
  unfolding settled sent_published sent_state
  sends_settled =
      ap₂ (λ (active : ℕ) (accounts : List Account). in_round (sent_state x.state i)
      (round_of x.state.round.size.0 active i accounts))
      (sym books_stand.active) all_kept

  -- ---- and it is sound

  pub sends_wide : WidePublished (sent_published x i)
  unfolding sent_published
  sends_wide = record { state = wide_after x.state i sound.state wide.state is; quotas = wide.quotas }

  pays_kept : (k : ℕ) → k < 64 → has x.asked k ≡ true
      → owed_sum (sent_published x i) k * quota_at x k ≤ balance_of (books_after x.state i).accounts k
  pays_kept k u e =
      let w = asked_not x k e in
      let q = share_asked x rules k u w in
      let pays = books_stand.pays k u w in
      rw (same_owed k, ← q) pays

  pub sends_sound : ((k : ℕ) → k < 64 → is_leaf x.state.tree k ≡ true → has x.state.round.active k ≡ true → k < i
      → has x.asked k ≡ true) → SoundPublished (sent_published x i)
  unfolding sent_published sent_state
  sends_sound before = record {
    state = sound_after x.state i sound.state wide.state is;
    parents = λ k u. record { up = λ cl on e. (sound.parents k u).up cl (books_stand.shrinks k on) e };
    pay = λ k u. record { pays = pays_kept k u };
    behind = λ k u. record { asked = λ leaf on below. before k u leaf (books_stand.shrinks k on) below };
  }

-- ---- the leaf that the visits found sends

-- a leaf that has asked is ready where it is in the state that x stands for, and so is what is no active leaf
ready_same : (x : Published) (k : ℕ) → PlanRules x.state.tree → k < 64 → (active_leaf x.state k ≡ true → has x.asked k ≡ true)
    → ready x.state k ≡ ready (settled x) k
unfolding active_leaf settled
ready_same x k rules u asked = go (has x.state.round.active k && is_leaf x.state.tree k) refl
  where
    go : (c : Bool) → (has x.state.round.active k && is_leaf x.state.tree k) ≡ c → ready x.state k ≡ ready (settled x) k
    go false e = ready_unset x.state k e ∙ sym (ready_unset (settled x) k e)
    go true e =
        let leaf = (both_true (has x.state.round.active k) (is_leaf x.state.tree k) e).1 in
        ready_is x.state k e
        ∙ ap (λ (a : Account). leb (cost_of (first_of x.state k).length) a.balance.0)
        (sym (settled_own x k u (asked_not x k (asked e)) (leaf_owes x k rules leaf)))
        ∙ sym (ready_is (settled x) k e)

module _ (x : Published) (i : ℕ) (sound : SoundPublished x) (is : Sender (settled x) i) (asked : has x.asked i ≡ true)
    (passed : (k : ℕ) → k < 64 → x.state.round.place ≤ k → k < i → active_leaf x.state k ≡ true → has x.asked k ≡ true) where
  pub sender_here : Sender x.state i
  unfolding settled
  sender_here =
      let rules = sound.state.fits.tree in
      record {
        is_ready = ready_same x i rules is.high (λ h. asked) ∙ is.is_ready;
        class = is.class;
        low = is.low;
        high = is.high;
        leaf = is.leaf;
        active = is.active;
        holds = is.holds;
        covers =
            omega (
              arith,
              is.covers,
              ap (λ (a : Account). a.balance.0) (settled_own x i is.high (asked_not x i asked) (leaf_owes x i rules is.leaf)),
            );
        onward = is.onward;
        passed = λ k l u.
            let v : k < 64 = omega (arith, is.high) in
            ready_same x k rules v (passed k v l u) ∙ is.passed k l u;
      }
