-- An arrival on the second engine's link: the answer of the first engine on the link that it stands for.
use mathlib.Core.Bool.{true, cond}
use mathlib.Core.Logic.{◌⊎◌, inl, inr}
use mathlib.Core.List.{List, map}
use mathlib.Core.Path.{◌≡◌, refl, sym, ap, ap₂, subst, ◌∙◌}
use Prim.Native.Nat.{ℕ, zero, suc}
use Rattle.checks.specs.declared.Refusal.{Refusal}
use Rattle.std.specs.Prelude.{Ok, Err}
use Rattle.checks.specs.Check.{first_broken, refusal_at}
use Rattle.checks.proofs.Laws.{refused_or_passed}
use Rattle.tree.specs.declared.Tree.{Tree}
use Rattle.tree.specs.Class.{parent_of, is_child, of_child, children_sum}
use Rattle.tree.proofs.Sums.{sum_same}
use Rattle.state.specs.declared.Account.{Account}
use Rattle.state.specs.declared.Link.{Link}
use Rattle.state.specs.declared.Packet.{Packet}
use Rattle.state.specs.Mark.{marked_with}
use Rattle.state.specs.Queue.{queue_of, put_last}
use Rattle.state.specs.State.{meaning, round_of, link_in_round}
use Rattle.tree.proofs.Tables.{table_same}
use Rattle.state.proofs.Queues.{shaped_put}
use Rattle.sound.specs.Sound.{SoundLink}
use Rattle.calls.specs.declared.AfterArrival.{AfterArrival}
use Rattle.calls.specs.Arrival.{no_leaf, bad_length, full, arrival_checks, arrival_answer, bytes_after}
use Rattle.calls.specs.Run.{Call, arrival, made, makes, turns_in}
use Rattle.calls.proofs.Arrivals.{arrival_refused, arrival_taken, arrival_sound}
use Rattle.published.specs.declared.Second.{Second}
use Rattle.published.specs.Asking.{Published}
use Rattle.published.proofs.Passages.{closed_of}
use Rattle.published.specs.Settled.{unasked, owed_weight, owed_sum, share_in, share, asked_account, settled_account, settled}
use Rattle.published.specs.Second.{means, stands_for, SoundSecond, ShapedSecond, with_link, gives}

-- ---- what a state stands for does not depend on its queues

module _ (x y : Published) (tree : y.state.tree ≡ x.state.tree) (active : y.state.round.active ≡ x.state.round.active)
    (accounts : y.state.round.accounts ≡ x.state.round.accounts) (asked : y.asked ≡ x.asked) (quotas : y.quotas ≡ x.quotas) where
  unasked_like : (i : ℕ) → unasked y i ≡ unasked x i
  unfolding unasked
  unasked_like i = rw (active, asked) refl

  share_like : (n i : ℕ) → share_in n y i ≡ share_in n x i
  unfolding share_in
  share_like zero i = rw quotas refl
  share_like (suc n) i = rw (share_like n (parent_of y.state.tree i), unasked_like i, tree, active, accounts, quotas) refl

  weight_like : (i : ℕ) → owed_weight y i ≡ owed_weight x i
  unfolding owed_weight
  weight_like i = rw (unasked_like i, tree) refl

  owed_like : (p : ℕ) → owed_sum y p ≡ owed_sum x p
  unfolding owed_sum children_sum of_child
  owed_like p =
      sum_same _ _ y.state.tree.count (λ i l u. ap (λ (w : ℕ). cond (is_child y.state.tree p i) w 0) (weight_like i))
      ∙ ap (λ (t : Tree). children_sum t (owed_weight x) p) tree

  account_like : (i : ℕ) → settled_account y i ≡ settled_account x i
  unfolding settled_account asked_account share
  account_like i =
      rw (share_like 64 (parent_of y.state.tree i), share_like 64 i, owed_like i, unasked_like i, tree, accounts) refl

  pub settled_like : (settled y).round.accounts ≡ (settled x).round.accounts
  unfolding settled
  settled_like = table_same (settled_account y) (settled_account x) 64 (λ i u. account_like i)

-- ---- the two see the same

-- the same checks
same_checks : (l : Second) (i : ℕ) (p : Packet) → arrival_checks true (meaning (stands_for l)) i p ≡ arrival_checks true (meaning
    l.link) i p
unfolding no_leaf bad_length full queue_of
same_checks l i p = refl

-- and the same bytes in the leaf's queue
same_bytes : (l : Second) (i : ℕ) (p : Packet) → bytes_after (meaning l.link) i p ≡ bytes_after (meaning (stands_for l)) i p
unfolding queue_of
same_bytes l i p = refl

-- what a call on the second engine's link has in common with the one on the link that it stands for
pub record Alike (l : Second) (call : Call) : Type 0 where
  pub made_is : made call (gives true l call).answer (stands_for (gives true l call).after) ≡ makes true (stands_for l) call
  pub closings : (gives true l call).closings ≡ map closed_of (turns_in (stands_for l) (makes true (stands_for l) call))
  pub sound : SoundSecond (gives true l call).after
  pub shape : ShapedSecond (gives true l call).after

module _ (l : Second) (i : ℕ) (p : Packet) (sound : SoundSecond l) (shape : ShapedSecond l) where
  own : SoundLink l.link
  own = record { state = sound.state.state; starts = sound.starts }

  -- a packet put last in both
  put_alike : stands_for (with_link l (put_last l.link i (marked_with l.link.totals.charged p))) ≡ put_last (stands_for l) i
      (marked_with l.link.totals.charged p)
  unfolding queue_of settled
  put_alike =
      ap (λ (a : List Account). link_in_round (put_last l.link i (marked_with l.link.totals.charged p))
      (round_of l.link.round.size.0 l.link.round.active l.link.round.place a))
      (settled_like (means l) (means (with_link l (put_last l.link i (marked_with l.link.totals.charged p)))) refl refl refl refl refl)

  put_sound : first_broken (arrival_checks true (meaning l.link) i p) ≡ Ok tt → SoundSecond
      (with_link l (put_last l.link i (marked_with l.link.totals.charged p)))
  unfolding owed_sum owed_weight unasked
  put_sound e =
      let after = arrival_sound l.link i p shape.link own e in
      let s = sound.state in
      record {
        state =
            record {
              state = after.state;
              parents = λ k u. record { up = (s.parents k u).up };
              pay = λ k u. record { pays = (s.pay k u).pays };
              behind = λ k u. record { asked = (s.behind k u).asked };
            };
        starts = after.starts;
      }

  pub one_arrival : Alike l (arrival i p)
  one_arrival = go (refused_or_passed (first_broken (arrival_checks true (meaning l.link) i p)))
    where
      go : (first_broken (arrival_checks true (meaning l.link) i p) ≡ Ok tt)
          ⊎ ((n : Refusal) × (q : ℕ) × (first_broken (arrival_checks true (meaning l.link) i p) ≡ Err (refusal_at n q)))
          → Alike l (arrival i p)
      go (inl e) =
          let here = arrival_taken true l.link i p e in
          let there = arrival_taken true (stands_for l) i p (ap first_broken (same_checks l i p) ∙ e) in
          record {
            made_is =
                ap (λ (r : AfterArrival). made (arrival i p) r.answer (stands_for (with_link l r.link))) here
                ∙ ap₂ (λ (bytes : ℕ) (link : Link). made (arrival i p) (arrival_answer (Ok tt) bytes) link) (same_bytes l i p) put_alike
                ∙ sym (ap (λ (r : AfterArrival). made (arrival i p) r.answer r.link) there);
            closings = refl;
            sound = subst (λ (r : AfterArrival). SoundSecond (with_link l r.link)) (sym here) (put_sound e);
            shape =
                subst (λ (r : AfterArrival). ShapedSecond (with_link l r.link)) (sym here)
                (record { link = shaped_put l.link i (marked_with l.link.totals.charged p) shape.link; quotas = shape.quotas });
          }
      go (inr r) =
          let here = arrival_refused true l.link i p r.2 in
          let there = arrival_refused true (stands_for l) i p (ap first_broken (same_checks l i p) ∙ r.2) in
          record {
            made_is =
                ap (λ (a : AfterArrival). made (arrival i p) a.answer (stands_for (with_link l a.link))) here
                ∙ sym (ap (λ (a : AfterArrival). made (arrival i p) a.answer a.link) there);
            closings = refl;
            sound = subst (λ (a : AfterArrival). SoundSecond (with_link l a.link)) (sym here) sound;
            shape = subst (λ (a : AfterArrival). ShapedSecond (with_link l a.link)) (sym here) shape;
          }
