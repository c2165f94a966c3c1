-- Laws of a fresh link: it is sound; the link without classes is not; the contract determines the answer. Demand 1.
use mathlib.Core.Bool.{Bool}
use mathlib.Core.List.{[]}
use mathlib.Core.Path.{◌≡◌, refl, sym, ap, ◌∙◌}
use Prim.Native.Nat.{ℕ, ◌≤◌, ◌<◌}
use native.Mathlib.Decide.{dec_lt, ℕ_discrete}
use native.Mathlib.Omega.{arith}
use lib.ListN.{length, replicate, length-replicate, get_or-replicate, get_or-eq_default}
use lib.Seq.{get_or-set_same, get_or-set_other}
use Rattle.checks.specs.declared.Refusal.TheVariants.{NotSound}
use Rattle.checks.specs.Check.{refusal_at}
use Rattle.std.specs.Prelude.{Err}
use Rattle.checks.proofs.Laws.{not_true_and_false, exactly_unique}
use Rattle.sets.proofs.Laws.{has_empty}
use Rattle.tree.specs.declared.Tree.{Tree}
use Rattle.tree.specs.Rules.{no_class, PlanRules}
use Rattle.tree.specs.Size.{round_size}
use Rattle.tree.proofs.Sums.{sum_zero}
use Rattle.tree.proofs.Leaves.{leaves_none}
use Rattle.state.specs.declared.Account.{Account}
use Rattle.state.specs.declared.Packet.{Packet}
use Rattle.state.specs.Account.{account, no_account, account_of, funds_of}
use Rattle.tree.specs.Sum.{table}
use Rattle.state.specs.Queue.{queue_of, bytes_in}
use Rattle.state.specs.State.{meaning, queue_at, TotalsRight, fresh_link, no_link}
use Rattle.state.proofs.Meaning.{meaning_queue, meaning_held, fresh_queues}
use Rattle.state.proofs.Queues.{queue_length}
use Rattle.tree.proofs.Tables.{table_length}
use Rattle.sound.specs.Sound.{total, SoundLink}
use Rattle.calls.specs.declared.AfterFresh.{AfterFresh}
use Rattle.calls.specs.declared.AfterArrival.{AfterArrival}
use Rattle.calls.specs.Arrival.{arrival_answer, arrival_leaves, Arrives}
use Rattle.calls.specs.Fresh.{fresh_of, MakesFresh}
use Rattle.calls.proofs.Arrivals.{unsound_refused}

-- the accounts of a fresh link: the root's has Q, every other nothing
module _ (t : Tree) where
  root_account : account_of (fresh_link t).round.accounts 0 ≡ account (round_size t) 0
  root_account = get_or-set_same (replicate 64 no_account) 0 (account (round_size t) 0) no_account (omega (arith, length-replicate 64 no_account))

  other_account : (i : ℕ) → 1 ≤ i → i < 64 → account_of (fresh_link t).round.accounts i ≡ no_account
  other_account i l u =
      get_or-set_other (replicate 64 no_account) 0 i (account (round_size t) 0) no_account (λ e. omega arith)
      ∙ get_or-replicate 64 i no_account no_account u

  nothing_held : (i : ℕ) → i < 64 → length (queue_at (meaning (fresh_link t)) i) ≡ 0
  nothing_held i u = meaning_held (fresh_link t) i u ∙ sym (queue_length (fresh_link t) i) ∙ ap length (fresh_queues t i)

  -- nothing waits, and nothing is counted
  nothing_waits : (i : ℕ) → queue_at (meaning (fresh_link t)) i ≡ []
  nothing_waits i = go (dec_lt i 64)
    where
      go : Dec (i < 64) → queue_at (meaning (fresh_link t)) i ≡ []
      go (yes u) = meaning_queue (fresh_link t) i u ∙ fresh_queues t i
      go (no u) =
          get_or-eq_default (table (queue_of (fresh_link t)) 64) [] {n = i} (omega (arith, table_length (queue_of (fresh_link t)) 64))

  fresh_totals : (i : ℕ) → i < 64 → TotalsRight (meaning (fresh_link t)) i
  unfolding bytes_in
  fresh_totals i u = record {
    packets =
        get_or-replicate {A = ℕ} 64 i 0 0 u
        ∙ sym (leaves_none t (λ j. length (queue_at (meaning (fresh_link t)) j)) i (λ j. ap length (nothing_waits j)));
    bytes =
        get_or-replicate {A = ℕ} 64 i 0 0 u
        ∙ sym (leaves_none t (λ j. bytes_in (queue_at (meaning (fresh_link t)) j)) i (λ j. ap bytes_in (nothing_waits j)));
  }

  fresh_total : total (fresh_link t).round.accounts ≡ round_size t
  unfolding total
  fresh_total =
      omega (
        arith,
        ap funds_of root_account,
        sum_zero (λ i. funds_of (account_of (fresh_link t).round.accounts i)) 63 (λ i l u. ap funds_of (other_account i l (omega arith))),
      )

  no_residual : (i : ℕ) → i < 64 → Dec (i ≡ 0) → (account_of (fresh_link t).round.accounts i).residual.0 ≡ 0
  no_residual i u (yes e) = rw e (ap (λ (a : Account). a.residual.0) root_account)
  no_residual i u (no ne) = ap (λ (a : Account). a.residual.0) (other_account i (omega arith) u)

-- a fresh link of a tree that obeys the plan rules is sound (R117)
pub fresh_sound : (t : Tree) → PlanRules t → SoundLink (fresh_link t)
fresh_sound t rules = record {
  state =
      record {
        fits = record { tree = rules; size = record { most = omega arith; whole = λ e. refl } };
        holds = λ i u.
            let z = nothing_held t i u in
            record { few = λ f. omega (arith, z); range = λ f j h. absurd (omega (arith, z)); other = λ f. z };
        waiting = λ i u. record { waits = λ f a. absurd (not_true_and_false a (has_empty i)) };
        past = record { word = omega arith; past = λ i h. has_empty i };
        above = λ i u. record {
          leaf_below_lem = λ ab a. absurd (not_true_and_false a (has_empty i));
          active = λ ab r. absurd (not_true_and_false r.is_active (has_empty r.leaf));
        };
        zero = λ i u. record {
          balance = λ l a. ap (λ (x : Account). x.balance.0) (other_account t i l u);
          residual = λ l a. ap (λ (x : Account). x.residual.0) (other_account t i l u);
          leaf = λ f. no_residual t i u (ℕ_discrete i 0);
        };
        adds = record { adds = fresh_total t };
        place = record { low = omega arith; high = omega arith };
        behind = λ i u. record { lacks = λ f a b. absurd (not_true_and_false a (has_empty i)) };
        totals = fresh_totals t;
      };
  starts = λ i u. record { start = omega (arith, get_or-replicate {A = ℕ} 64 i 0 0 u) };
}

-- the link without classes is not sound (R118)
pub none_not_sound : SoundLink no_link → ⊥
unfolding no_class
none_not_sound s = not_true_and_false refl s.state.fits.tree.closing.classes

-- any two answers that the contract allows are equal
pub fresh_one_answer : (t : Tree) (a b : AfterFresh) → MakesFresh t a → MakesFresh t b → a ≡ b
fresh_one_answer t a b x y =
    x.answer ∙ ap (λ (o : Bool). fresh_of o t) (exactly_unique x.exactly y.exactly) ∙ sym y.answer

-- so every arrival on it gives 11 at 0
pub none_refuses : (i : ℕ) (p : Packet) (r : AfterArrival) → Arrives no_link i p r → r
    ≡ arrival_leaves (arrival_answer (Err (refusal_at NotSound 0)) 0) no_link
none_refuses i p r = unsound_refused no_link i p r none_not_sound
