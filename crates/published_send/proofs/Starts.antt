-- A send begins on the fields of a sound link: what is lent to its visits, and what they find.
use mathlib.Core.Bool.{true}
use mathlib.Core.List.{List, []}
use mathlib.Core.Path.{◌≡◌, refl, sym, ap, ap₂, subst, ◌∙◌}
use Prim.Native.Nat.{ℕ, ◌+◌, ◌%◌, ◌≤◌, ◌<◌}
use native.Mathlib.Omega.{arith}
use lib.ListN.{length, get_or}
use Rattle.sets.specs.Set.{Both}
use Rattle.units.specs.Cost.{cost_of}
use Rattle.units.specs.declared.Bytes.{Bytes}
use Rattle.tree.specs.declared.Tree.{Tree}
use Rattle.tree.specs.Rules.{PlanRules}
use Rattle.state.specs.declared.Waiting.{Waiting}
use Rattle.state.specs.Queue.{no_packet, slot}
use Rattle.state.specs.State.{State, meaning, queue_at}
use Rattle.state.proofs.Meaning.{meaning_held, meaning_first}
use Rattle.rules.specs.Active.{waits, some_below, upward, round_active}
use Rattle.rules.specs.Sending.{first_of}
use Rattle.rules.specs.Steps.{holds_some}
use Rattle.rules.specs.Waits.{Waits}
use Rattle.rules.proofs.Meanings.{waits_leaf}
use Rattle.rules.proofs.Waiting.{active_meaning}
use Rattle.rules.proofs.Rounds.{leaf_most}
use Rattle.shape.specs.Shape.{tree_in}
use Rattle.steps.specs.declared.Stand.{Stand}
use Rattle.steps.specs.Fields.{link_at}
use Rattle.published.specs.declared.Second.{Second}
use Rattle.published.specs.Asking.{with_accounts}
use Rattle.published.specs.Sound.{WidePublished}
use Rattle.published.specs.Visiting.{Visited, visits_from, visited}
use Rattle.published.specs.Settled.{settled}
use Rattle.published.specs.Second.{means}
use Rattle.published.specs.Steps.{OnTheWay}
use Rattle.published.proofs.Settles.{stands_sound}
use Rattle.published.proofs.OneSend.{wide_second}
use Rattle.published.proofs.Visits.{visited_well}
use Rattle.published.proofs.OnTheWay.{way_starts}
use Rattle.asking.specs.Lent.{Lent}
use Rattle.asking.specs.Coming.{Lying, Found}
use Rattle.published_send.specs.Under.{Under, Arrived}
use Rattle.published_send.specs.Whole.{second_of, Ready, HasClosed}

module _ (l : Second) (r : Ready l) where
  pub wide_of : WidePublished (means l)
  wide_of = wide_second l r.sound r.shape

  -- the first packet of a leaf that holds one lies at its start
  first_lies : (i : ℕ) → i < 64 → 1 ≤ length (queue_at (meaning l.link) i)
      → cost_of (first_of (meaning l.link) i).length ≡ cost_of (get_or l.link.lengths (slot i (get_or l.link.start i 0)) 0)
  first_lies i u holds =
      let at : (get_or l.link.start i 0 + 0) % 32 ≡ get_or l.link.start i 0 = omega (arith, (r.sound.starts i u).start) in
      ap (λ (p : Waiting). cost_of p.length) (meaning_first l.link i u (omega (arith, meaning_held l.link i u)))
      ∙ ap (λ (k : ℕ). cost_of (get_or l.link.lengths (slot i k) 0)) at

  pub low_of : (start : List ℕ) → l.link.start ≡ start → (i : ℕ) → i < 64 → get_or start i 0 < 32
  low_of start e i u = omega (arith, ap (λ (xs : List ℕ). get_or xs i 0) e, (r.sound.starts i u).start)

  -- the send is on its way
  waits_settled : Waits (settled (means l))
  unfolding settled
  waits_settled =
      let w = waits_leaf (meaning l.link) r.waits in
      record { leaf = w.leaf; class = w.class; is_leaf = w.is_leaf; holds = w.holds }

  way : OnTheWay (means l) (means l) 0
  way = way_starts (means l) r.sound.state wide_of waits_settled

  -- the visits keep the tree, the size and the queues
  kept : (visited (means l)).after.state ≡ with_accounts (meaning l.link) (visited (means l)).after.state.round.accounts
  kept = (visited_well (means l) r.sound.state wide_of).same

  leaf_high : (visited (means l)).leaf ≤ 64
  leaf_high =
      omega (
        arith,
        (visited_well (means l) r.sound.state wide_of).leaf_is,
        leaf_most (settled (means l)) (stands_sound (means l) r.sound.state wide_of),
      )

-- on the link with these fields
module _ (stand : Stand) (asked : ℕ) (shape balance residual quotas start held lengths tags marks packets bytes : List ℕ) where
  abbrev l : Second
  l = second_of (link_at true (tree_in shape) stand balance residual start held lengths tags marks packets bytes) asked quotas

  module _ (r : Ready l) where
    pub lent_start : Lent (means l) stand.active asked shape balance residual quotas
    lent_start = record { tree = refl; active_is = refl; accounts = refl; asked_is = refl; quotas_are = refl }

    pub lying_start : (leaves : ℕ) → Both stand.active (tree_in shape).leaves leaves → Lying (means l) leaves start lengths
    lying_start leaves b = record { both = b; first = λ i u leaf holds. first_lies l r i u holds }

    -- the visits of the round at hand
    module _ (leaf asked' : ℕ) (balance' residual' quotas' : List ℕ)
        (f : Found (means l) stand.place leaf stand.active asked' shape balance' residual' quotas') where
      same_visits : visited (means l) ≡ visits_from 64 (means l) stand.place
      unfolding visited
      same_visits = refl

      leaf_of : leaf ≡ (visited (means l)).leaf
      leaf_of = f.leaf_is ∙ sym (ap (λ (v : Visited). v.leaf) same_visits)

      lent_of : Lent (visited (means l)).after stand.active asked' shape balance' residual' quotas'
      lent_of =
          subst (λ (v : Visited). Lent v.after stand.active asked' shape balance' residual' quotas') (sym same_visits) f.lent

      -- a leaf is found at once
      pub found_now : leaf < 64
          → Arrived (means l)
          (record { leaf = leaf; rounds = 0; active = stand.active; asked = asked'; size = stand.size; known = stand.known })
          shape balance' residual' quotas'
      found_now h = record {
        x = means l;
        way = way l r;
        leaf_is = leaf_of;
        found = h;
        sized = ap (λ (z : State). z.round.size.0) (kept l r);
        lent = lent_of;
      }

      -- or the round at hand has closed
      pub none_now : 64 ≤ leaf → HasClosed l stand.size shape balance' residual' quotas' start held lengths
      none_now h = record {
        ready = r;
        closed = sym leaf_of ∙ omega (arith, h, leaf_of, leaf_high l r);
        tree_is = refl;
        size_is = refl;
        starts = refl;
        helds = refl;
        lying = refl;
        active = stand.active;
        asked = asked';
        lent = lent_of;
      }

-- the round at hand has closed, and these classes are active in the next
module _ (l : Second) (size : Bytes) (shape balance residual quotas start held lengths : List ℕ)
    (h : HasClosed l size shape balance residual quotas start held lengths) where
  pub rules_of : PlanRules (tree_in shape)
  rules_of = subst PlanRules h.tree_is h.ready.sound.state.state.fits.tree

  same_active : round_active (visited (means l)).after.state ≡ round_active (meaning l.link)
  unfolding round_active upward some_below waits
  same_active = ap round_active (kept l h.ready)

  same_queues : (visited (means l)).after.state.queues ≡ (meaning l.link).queues
  same_queues = ap (λ (z : State). z.queues) (kept l h.ready)

  pub under_start : (next : ℕ) → next ≡ upward (tree_in shape) (holds_some (tree_in shape) held)
      → Under (means l) size.0 next 0 shape balance residual quotas start lengths
  under_start next is = record {
    x = means l;
    way = way l h.ready;
    closed = h.closed;
    sized = ap (λ (z : State). z.round.size.0) (kept l h.ready) ∙ ap (λ (b : Bytes). b.0) h.size_is;
    taken =
        is
        ∙ ap₂ (λ (s : Tree) (xs : List ℕ). upward s (holds_some s xs)) (sym h.tree_is) (sym h.helds)
        ∙ active_meaning l.link h.ready.sound.state.state.fits.tree
        ∙ sym same_active;
    old = h.active;
    asked = h.asked;
    lent = h.lent;
    first = λ i u leaf holds.
        ap (λ (q : List (List Waiting)). cost_of (get_or (get_or q i []) 0 no_packet).length) same_queues
        ∙ first_lies l h.ready i u (subst (λ (q : List (List Waiting)). 1 ≤ length (get_or q i [])) same_queues holds)
        ∙ ap₂ (λ (xs ys : List ℕ). cost_of (get_or xs (slot i (get_or ys i 0)) 0)) h.lying h.starts;
  }
