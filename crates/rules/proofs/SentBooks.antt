-- The accounts and the active set when a leaf has sent its first packet (R138 to R143). Demand 2.
use mathlib.Core.Bool.{Bool, true, false, cond}
use mathlib.Core.Path.{◌≡◌, refl, sym, ap, ◌∙◌}
use Prim.Native.Nat.{ℕ, ◌≤◌, ◌<◌}
use native.Mathlib.Decide.{ℕ_discrete}
use native.Mathlib.Omega.{arith}
use lib.Dec.{leb}
use lib.ListN.{length, set, length-set}
use lib.Seq.{get_or-set_same, get_or-set_other}
use borrow.Author.Tests.{leb-false}
use Rattle.checks.proofs.Laws.{not_true_and_false}
use Rattle.sets.specs.Set.{has}
use Rattle.units.specs.Cost.{cost_of}
use Rattle.tree.specs.declared.Tree.{Tree}
use Rattle.tree.specs.Class.{is_leaf}
use Rattle.tree.specs.Rules.{PlanRules}
use Rattle.tree.proofs.Classes.{root_no_class}
use Rattle.tree.proofs.Rules.{few_classes}
use Rattle.state.specs.declared.Account.{Account}
use Rattle.state.specs.Account.{no_account, account_of, balance_of, residual_of, funds_of, sent_from, gained}
use Rattle.state.specs.State.{State, queue_at}
use Rattle.sound.specs.Sound.{total, Sound}
use Rattle.sound.proofs.Active.{ByChild, leaf_to_child}
use Rattle.rules.specs.Sending.{Books}
use Rattle.rules.specs.Sending.{first_of, turns_off, paid, books_after}
use Rattle.rules.specs.Wide.{Wide}
use Rattle.rules.proofs.Stores.{total_set}
use Rattle.rules.proofs.GivenUp.{turns_total}
use Rattle.rules.proofs.TurnedOff.{BooksRight, TurnedOff, leaf_off}
use Rattle.rules.proofs.Sender.{Sender}

-- what the leaf loses the root gains: nothing is lost, and there are as many accounts
pub paid_length : (s : State) (i : ℕ) → length (paid s i) ≡ length s.round.accounts
unfolding paid
paid_length s i =
    let cost = cost_of (first_of s i).length in
    let less = set s.round.accounts i (sent_from (account_of s.round.accounts i) cost) in
    length-set less 0 (gained (account_of less 0) cost) ∙ length-set s.round.accounts i
    (sent_from (account_of s.round.accounts i) cost)

pub paid_total : (s : State) (i : ℕ) → Wide s → i < 64 → cost_of (first_of s i).length ≤ balance_of s.round.accounts i
    → total (paid s i) ≡ total s.round.accounts
unfolding paid
paid_total s i wide u covers =
    let cost = cost_of (first_of s i).length in
    let out = sent_from (account_of s.round.accounts i) cost in
    let less = set s.round.accounts i out in
    let one = total_set s.round.accounts i out wide.accounts u in
    let two = total_set less 0 (gained (account_of less 0) cost) (length-set s.round.accounts i out ∙ wide.accounts) (omega arith) in
    omega (arith, one, two, covers)

-- the leaf's account, the root's, and any other
pub paid_leaf : (s : State) (i : ℕ) → Wide s → 1 ≤ i → i < 64
    → account_of (paid s i) i ≡ sent_from (account_of s.round.accounts i) (cost_of (first_of s i).length)
unfolding paid
paid_leaf s i wide l u =
    let cost = cost_of (first_of s i).length in
    let out = sent_from (account_of s.round.accounts i) cost in
    let less = set s.round.accounts i out in
    get_or-set_other less 0 i (gained (account_of less 0) cost) no_account (λ z. omega arith)
    ∙ get_or-set_same s.round.accounts i out no_account (omega (arith, wide.accounts))

pub paid_root : (s : State) (i : ℕ) → Wide s → 1 ≤ i
    → account_of (paid s i) 0 ≡ gained (account_of s.round.accounts 0) (cost_of (first_of s i).length)
unfolding paid
paid_root s i wide l =
    let cost = cost_of (first_of s i).length in
    let out = sent_from (account_of s.round.accounts i) cost in
    let less = set s.round.accounts i out in
    get_or-set_same less 0 (gained (account_of less 0) cost) no_account (omega (arith, length-set s.round.accounts i out, wide.accounts))
    ∙ ap (λ (a : Account). gained a cost) (get_or-set_other s.round.accounts i 0 out no_account (λ z. omega arith))

pub paid_other : (s : State) (i k : ℕ) → (k ≡ i → ⊥) → (k ≡ 0 → ⊥) → account_of (paid s i) k ≡ account_of s.round.accounts k
unfolding paid
paid_other s i k ne nz =
    let cost = cost_of (first_of s i).length in
    let out = sent_from (account_of s.round.accounts i) cost in
    let less = set s.round.accounts i out in
    get_or-set_other less 0 k (gained (account_of less 0) cost) no_account nz ∙ get_or-set_other s.round.accounts i k out no_account ne

-- the total and the number of accounts after the send
pub books_total : (s : State) (i : ℕ) → PlanRules s.tree → Wide s → i < 64
    → cost_of (first_of s i).length ≤ balance_of s.round.accounts i
    → (total (books_after s i).accounts ≡ total s.round.accounts) × (length (books_after s i).accounts ≡ 64)
unfolding books_after
books_total s i rules wide u covers = go (leb (length (queue_at s i)) 1)
  where
    b : Books
    b = record { active = s.round.active; accounts = paid s i }

    many : length (paid s i) ≡ 64
    many = paid_length s i ∙ wide.accounts

    Kept : Books → Type 0
    Kept r = (total r.accounts ≡ total s.round.accounts) × (length r.accounts ≡ 64)

    go : (x : Bool) → Kept (cond x (turns_off 63 s.tree i b) b)
    go true =
        let w = turns_total 63 s.tree i b rules u many in
        (w.0 ∙ paid_total s i wide u covers, w.1)
    go false = (paid_total s i wide u covers, many)

-- in a sound state a class above is active exactly when a child of it is
pub sound_by_child : (s : State) → Sound s → ByChild s.tree s.round.active
sound_by_child s sound =
    leaf_to_child s.tree s.round.active sound.fits.tree
    (record {
      has_leaf = λ i ab. (sound.above i (omega (arith, ab.class, few_classes s.tree sound.fits.tree))).leaf_below_lem ab;
      from_leaf = λ i ab. (sound.above i (omega (arith, ab.class, few_classes s.tree sound.fits.tree))).active ab;
    })

-- the root is no leaf
root_no_leaf : (t : Tree) → PlanRules t → (k : ℕ) → is_leaf t k ≡ true → k ≡ 0 → ⊥
root_no_leaf t rules k f z = not_true_and_false f (ap (is_leaf t) z ∙ ((rules.unset.at 0 (omega arith)).past (root_no_class t)).leaf)

-- what the books are when the leaf has sent, and what stays of the leaves
pub record SentBooks (s : State) (i : ℕ) (r : Books) : Type 0 where
  pub right : BooksRight s.tree r
  pub by_child : ByChild s.tree r.active
  pub more : has r.active i ≡ true → 2 ≤ length (queue_at s i)
  pub leaves : (k : ℕ) → is_leaf s.tree k ≡ true → (k ≡ i → ⊥) → has r.active k ≡ has s.round.active k
  pub accounts : (k : ℕ) → is_leaf s.tree k ≡ true → (k ≡ i → ⊥) → account_of r.accounts k ≡ account_of s.round.accounts k

module _ (s : State) (i : ℕ) (sound : Sound s) (wide : Wide s) (is : Sender s i) where
  -- paying keeps what soundness says of the books
  paid_right : BooksRight s.tree (record { active = s.round.active; accounts = paid s i })
  paid_right = record {
    many = paid_length s i ∙ wide.accounts;
    word = sound.past.word;
    past = sound.past.past;
    empty =
        λ k l u a.
        let same = paid_other s i k (λ e. not_true_and_false is.active (ap (has s.round.active) (sym e) ∙ a)) (λ z. omega arith) in
        ap funds_of same ∙ omega (arith, (sound.zero k u).balance l a, (sound.zero k u).residual l a);
    leaf = λ k u f. leaf k u f (ℕ_discrete k i);
  }
    where
      leaf : (k : ℕ) → k < 64 → is_leaf s.tree k ≡ true → Dec (k ≡ i) → residual_of (paid s i) k ≡ 0
      leaf k u f (yes e) =
          ap (residual_of (paid s i)) e
          ∙ ap (λ (a : Account). a.residual.0) (paid_leaf s i wide is.low is.high)
          ∙ (sound.zero i is.high).leaf is.leaf
      leaf k u f (no ne) =
          ap (λ (a : Account). a.residual.0) (paid_other s i k ne (root_no_leaf s.tree sound.fits.tree k f))
          ∙ (sound.zero k u).leaf f

  paid_leaves : (k : ℕ) → is_leaf s.tree k ≡ true → (k ≡ i → ⊥) → account_of (paid s i) k ≡ account_of s.round.accounts k
  paid_leaves k f ne = paid_other s i k ne (root_no_leaf s.tree sound.fits.tree k f)

  -- and so does turning inactive where the packet was the leaf's last
  pub sent_books : SentBooks s i (books_after s i)
  unfolding books_after
  sent_books = go (leb (length (queue_at s i)) 1) refl
    where
      b : Books
      b = record { active = s.round.active; accounts = paid s i }

      by : ByChild s.tree s.round.active
      by = sound_by_child s sound

      o : TurnedOff s.tree i b (turns_off 63 s.tree i b)
      o = leaf_off s.tree i b sound.fits.tree by paid_right is.class is.leaf is.active

      go : (x : Bool) → leb (length (queue_at s i)) 1 ≡ x → SentBooks s i (cond x (turns_off 63 s.tree i b) b)
      go true e = record {
        right = o.right;
        by_child = o.by_child;
        more = λ a. absurd (not_true_and_false a o.off);
        leaves = o.leaves;
        accounts = λ k f ne. o.accounts k f ne ∙ paid_leaves k f ne;
      }
      go false e = record {
        right = paid_right;
        by_child = by;
        more = λ a. leb-false (length (queue_at s i)) 1 e;
        leaves = λ k f ne. refl;
        accounts = paid_leaves;
      }
