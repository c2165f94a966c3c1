-- Laws of the totals: those of queues are right, and a change on the way up from a leaf is the change that its queue makes. Demand 2.
use Rattle.std.proofs.Common.{◌≡◌, ℕ, ◌+◌, ◌<◌, Bool, true, false, cond, List, [], length, get_or, set, sym, refl, ap, ◌∙◌, arith, get_or-set_other, get_or-set_same, ext_get_or}
use Rattle.tree.specs.declared.Tree.{Tree}
use Rattle.tree.specs.Class.{is_leaf}
use Rattle.tree.specs.Below.{at_or_below, leaves_sum, changed_up}
use Rattle.tree.specs.Rules.{PlanRules}
use Rattle.tree.specs.Sum.{table}
use Rattle.tree.proofs.Rules.{leaf_number}
use Rattle.tree.proofs.Changes.{sum_changes, changed_up_lem, changed_length}
use Rattle.tree.proofs.Tables.{table_length, table_at}
use Rattle.state.specs.declared.Waiting.{Waiting}
use Rattle.state.specs.Queue.{bytes_in}
use Rattle.state.specs.State.{State, waiting_below, counts_of, TotalsRight, with_queues}

-- the totals of queues are right
pub queues_totals : (s : State) (queues : List (List Waiting)) (i : ℕ) → i < 64 → TotalsRight (with_queues s queues) i
unfolding counts_of
queues_totals s queues i u = record {
  packets = table_at (waiting_below length s.tree queues) 0 64 i u;
  bytes = table_at (waiting_below bytes_in s.tree queues) 0 64 i u;
}

-- right totals, changed on the way up from leaf i as what its queue counts for changes, are those of the queues with that one changed
module _ (count : List Waiting → ℕ) (t : Tree) (queues : List (List Waiting)) (i : ℕ) (q : List Waiting)
    (rules : PlanRules t) (leaf : is_leaf t i ≡ true) (many : length queues ≡ 64) where
  had : ℕ → ℕ
  had j = count (get_or queues j [])

  has : ℕ → ℕ
  has j = count (get_or (set queues i q) j [])

  pub totals_change : (f : ℕ → ℕ) (xs : List ℕ) → length xs ≡ 64
      → ((k : ℕ) → k < 64 → get_or xs k 0 ≡ waiting_below count t queues k)
      → ((a b : ℕ) → b + count (get_or queues i []) ≡ a + count q → f a ≡ b)
      → changed_up t f i xs ≡ table (waiting_below count t (set queues i q)) 64
  unfolding had has
  totals_change f xs long right step =
      ext_get_or 0 (changed_up t f i xs) (table (waiting_below count t (set queues i q)) 64)
      (changed_length t f i xs ∙ long ∙ sym (table_length (waiting_below count t (set queues i q)) 64))
      (λ k v. at k (omega (arith, v, changed_length t f i xs, long)))
    where
      u : i < 64
      u = leaf_number t i rules leaf

      now : has i ≡ count q
      now = ap count (get_or-set_same queues i q [] (omega (arith, many, u)))

      moved : (k : ℕ) → leaves_sum t has k + cond (at_or_below t k i) (had i) 0 ≡ leaves_sum t had k + cond (at_or_below t k i) (has i) 0
      moved k = sum_changes t rules had has i k leaf (λ j ne. sym (ap count (get_or-set_other queues i j q [] ne)))

      go : (k : ℕ) → k < 64 → (b : Bool) → at_or_below t k i ≡ b → cond b (f (get_or xs k 0)) (get_or xs k 0) ≡ leaves_sum t has k
      go k v true e =
          let m = rw e at (moved k) in
          step (get_or xs k 0) (leaves_sum t has k) (omega (arith, m, right k v, now))
      go k v false e =
          let m = rw e at (moved k) in
          omega (arith, m, right k v)

      at : (k : ℕ) → k < 64 → get_or (changed_up t f i xs) k 0 ≡ get_or (table (waiting_below count t (set queues i q)) 64) k 0
      at k v =
          changed_up_lem t rules f i xs k u long ∙ go k v (at_or_below t k i) refl
          ∙ sym (table_at (waiting_below count t (set queues i q)) 0 64 k v)
