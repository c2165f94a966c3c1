-- A round opens on a send under way: what is lent then, and what its visits find.
use mathlib.Core.List.{List, []}
use mathlib.Core.Path.{◌≡◌, refl, sym, ap, ap₂, subst, ◌∙◌}
use Prim.Native.Nat.{ℕ, ◌+◌, ◌≤◌, ◌<◌}
use native.Mathlib.Omega.{arith}
use lib.ListN.{length, get_or, set}
use Rattle.sets.specs.Set.{Both}
use Rattle.units.specs.Cost.{cost_of}
use Rattle.tree.specs.declared.Tree.{Tree}
use Rattle.tree.specs.Class.{is_leaf}
use Rattle.state.specs.declared.Account.{Account}
use Rattle.state.specs.declared.Waiting.{Waiting}
use Rattle.state.specs.Account.{zip_accounts}
use Rattle.state.specs.Queue.{no_packet}
use Rattle.state.specs.State.{State}
use Rattle.rules.specs.Active.{waits, some_below, upward, round_active}
use Rattle.rules.specs.Opening.{kind_of, size_in, next_kind, next_size, resized_accounts}
use Rattle.rules.specs.Sending.{next_leaf}
use Rattle.rules.specs.Steps.{CanResize}
use Rattle.rules.proofs.Opened.{can_resize}
use Rattle.rules.proofs.Resized.{closing_covers}
use Rattle.rules.proofs.Rounds.{leaf_most}
use Rattle.published.specs.Asking.{Published, with_accounts}
use Rattle.published.specs.Visiting.{Visited, visits_from, visited, asked_first, opened_published}
use Rattle.published.specs.Sound.{SoundPublished, WidePublished}
use Rattle.published.specs.Settled.{settled}
use Rattle.published.specs.Steps.{OnTheWay}
use Rattle.published.proofs.Closed.{closed_equal}
use Rattle.published.proofs.Settles.{stands_sound}
use Rattle.published.proofs.Visits.{visited_well}
use Rattle.published.proofs.OnTheWay.{way_leaf, way_on, way_left}
use Rattle.shape.specs.Shape.{tree_in}
use Rattle.asking.specs.Lent.{Lent}
use Rattle.asking.specs.Coming.{Lying, Found}
use Rattle.published_send.specs.declared.rounds.Opening.{Opening}
use Rattle.published_send.specs.Under.{shared_from, OpensUnshared, Under, Arrived}

module _ (x₀ : Published) (size active rounds : ℕ) (shape balance residual quotas start lengths : List ℕ)
    (u : Under x₀ size active rounds shape balance residual quotas start lengths) where
  -- the tree
  abbrev t : Tree
  t = tree_in shape

  -- the state that has closed
  shut : State
  shut = (visited u.x).after.state

  sound_shut : SoundPublished (visited u.x).after
  sound_shut = (visited_well u.x u.way.sound u.way.wide).sound

  wide_shut : WidePublished (visited u.x).after
  wide_shut = (visited_well u.x u.way.sound u.way.wide).wide

  -- it is the first engine's, whose round has closed
  none_left : next_leaf (visited u.x).after.state ≡ 64
  none_left =
      let none = sym (way_leaf x₀ u.x rounds u.way) ∙ u.closed in
      ap next_leaf (closed_equal u.x u.way.sound u.way.wide none) ∙ none

  pub can_of : CanResize t active size (zip_accounts balance residual)
  unfolding shut
  can_of =
      subst (λ (a : ℕ). CanResize t a size (zip_accounts balance residual)) (sym u.taken)
      (subst (λ (s : Tree). CanResize s (round_active shut) size (zip_accounts balance residual)) u.lent.tree
      (subst (λ (m : ℕ). CanResize shut.tree (round_active shut) m (zip_accounts balance residual)) u.sized
      (subst (CanResize shut.tree (round_active shut) shut.round.size.0) u.lent.accounts
      (can_resize shut sound_shut.state wide_shut.state (closing_covers shut sound_shut.state wide_shut.state none_left)))))

  -- one round more
  pub way_of : OnTheWay x₀ (opened_published (visited u.x).after) (rounds + 1)
  way_of = way_on x₀ u.x rounds u.way u.closed

  pub left_of_lem : rounds < 2
  left_of_lem = way_left x₀ u.x rounds u.way u.closed

  -- its leaves, and where their first packets lie
  pub lying_open : (leaves : ℕ) → Both active t.leaves leaves → Lying (opened_published (visited u.x).after) leaves start lengths
  unfolding opened_published
  lying_open leaves b = record {
    both = subst (λ (s : Tree). Both (round_active (visited u.x).after.state) s.leaves leaves) (sym u.lent.tree)
        (subst (λ (a : ℕ). Both a t.leaves leaves) u.taken b);
    first = λ i v leaf holds. u.first i v (sym (ap (λ (s : Tree). is_leaf s i) u.lent.tree) ∙ leaf) holds;
  }

  -- the visits of the round that opens are those from place 1
  same_visits : visited (opened_published (visited u.x).after) ≡ visits_from 64 (opened_published (visited u.x).after) 1
  unfolding visited opened_published
  same_visits = refl

  -- they keep the tree, the size and the queues, so who is active in the round after it too
  kept : (visited (opened_published (visited u.x).after)).after.state
      ≡ with_accounts (opened_published (visited u.x).after).state
      (visited (opened_published (visited u.x).after)).after.state.round.accounts
  kept = (visited_well (opened_published (visited u.x).after) way_of.sound way_of.wide).same

  same_queues : (visited (opened_published (visited u.x).after)).after.state.queues ≡ (visited u.x).after.state.queues
  unfolding opened_published
  same_queues = ap (λ (s : State). s.queues) kept

  same_active : round_active (visited (opened_published (visited u.x).after)).after.state ≡ round_active (visited u.x).after.state
  unfolding round_active upward some_below waits opened_published
  same_active = ap round_active kept

  leaf_high : (visited (opened_published (visited u.x).after)).leaf ≤ 64
  leaf_high =
      let x = opened_published (visited u.x).after in
      omega (
        arith,
        (visited_well x way_of.sound way_of.wide).leaf_is,
        leaf_most (settled x) (stands_sound x way_of.sound way_of.wide),
      )

  -- it has opened
  module _ (o : Opening) (balance' residual' quotas' : List ℕ)
      (is : OpensUnshared t active size (zip_accounts balance residual) quotas o (zip_accounts balance' residual') quotas') where
    pub lent_open : Lent (opened_published (visited u.x).after) active o.asked shape balance' residual' quotas'
    unfolding opened_published next_kind next_size resized_accounts
    lent_open =
        let s = (visited u.x).after.state in
        record {
          tree = u.lent.tree;
          active_is = sym u.taken;
          accounts =
              ap₂ (λ (r : Tree) (a : ℕ). shared_from r a s.round.size.0 s.round.accounts) u.lent.tree (sym u.taken)
              ∙ ap₂ (λ (m : ℕ) (xs : List Account). shared_from t active m xs) u.sized u.lent.accounts
              ∙ sym is.accounts_are;
          asked_is =
              ap₂ (λ (r : Tree) (a : ℕ). asked_first (kind_of r a s.round.accounts)) u.lent.tree (sym u.taken)
              ∙ ap (λ (xs : List Account). asked_first (kind_of t active xs)) u.lent.accounts
              ∙ sym is.asked_is;
          quotas_are = ap (λ (qs : List ℕ). set qs 0 0) u.lent.quotas_are ∙ sym is.quotas_are;
        }

    sized_open : (visited (opened_published (visited u.x).after)).after.state.round.size.0 ≡ o.size.0
    unfolding opened_published next_kind next_size
    sized_open =
        let s = (visited u.x).after.state in
        ap (λ (s : State). s.round.size.0) kept
        ∙ ap₂ (λ (r : Tree) (a : ℕ). size_in (kind_of r a s.round.accounts) r a s.round.size.0) u.lent.tree (sym u.taken)
        ∙ ap₂ (λ (m : ℕ) (xs : List Account). size_in (kind_of t active xs) t active m) u.sized u.lent.accounts
        ∙ sym is.size_is

    module _ (leaf asked : ℕ) (balance'' residual'' quotas'' : List ℕ)
        (f : Found (opened_published (visited u.x).after) 1 leaf active asked shape balance'' residual'' quotas'') where
      leaf_of : leaf ≡ (visited (opened_published (visited u.x).after)).leaf
      leaf_of = f.leaf_is ∙ sym (ap (λ (v : Visited). v.leaf) same_visits)

      lent_of : Lent (visited (opened_published (visited u.x).after)).after active asked shape balance'' residual'' quotas''
      lent_of =
          subst (λ (v : Visited). Lent v.after active asked shape balance'' residual'' quotas'') (sym same_visits)
          f.lent

      -- a leaf is found
      pub under_found : leaf < 64
          → Arrived x₀
          (record { leaf = leaf; rounds = rounds + 1; active = active; asked = asked; size = o.size; known = active })
          shape balance'' residual'' quotas''
      under_found h = record {
        x = opened_published (visited u.x).after;
        way = way_of;
        leaf_is = leaf_of;
        found = h;
        sized = sized_open;
        lent = lent_of;
      }

      -- or the round has closed again
      pub under_on : 64 ≤ leaf → Under x₀ o.size.0 active (rounds + 1) shape balance'' residual'' quotas'' start lengths
      under_on h = record {
        x = opened_published (visited u.x).after;
        way = way_of;
        closed = sym leaf_of ∙ omega (arith, h, leaf_of, leaf_high);
        sized = sized_open;
        taken = u.taken ∙ sym same_active;
        old = active;
        asked = asked;
        lent = lent_of;
        first = λ i v is holds.
            ap (λ (q : List (List Waiting)). cost_of (get_or (get_or q i []) 0 no_packet).length) same_queues
            ∙ u.first i v is (subst (λ (q : List (List Waiting)). 1 ≤ length (get_or q i [])) same_queues holds);
      }
