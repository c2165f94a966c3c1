-- A send of the second engine on its way, as a loop makes it: the rounds opened so far, and what they say of the whole.
use mathlib.Core.List.{[], ◌∷◌, ◌++◌}
use mathlib.Core.Path.{◌≡◌, refl, sym, ap, subst, ◌∙◌}
use Prim.Native.Nat.{ℕ, suc, ◌+◌, ◌-◌, ◌<◌}
use native.Mathlib.Omega.{arith}
use lib.ListN.{length-append}
use Rattle.state.specs.State.{State, in_round}
use Rattle.rules.specs.Opening.{next_size}
use Rattle.rules.specs.Sending.{ready, next_leaf}
use Rattle.rules.specs.Waits.{Waits}
use Rattle.rules.specs.Within.{Within}
use Rattle.rules.proofs.Rounds.{opened_waits}
use Rattle.rules.proofs.Searching.{first_skip, first_hit}
use Rattle.rules.proofs.Sender.{Sender}
use Rattle.rules.proofs.Within.{within_two, within_less, within_none}
use Rattle.published.specs.Asking.{Published}
use Rattle.published.specs.Visiting.{visited, opened_published, passes, passes_in, passage_of}
use Rattle.published.specs.Settled.{settled}
use Rattle.published.specs.Sound.{SoundPublished, WidePublished}
use Rattle.published.specs.Steps.{OnTheWay}
use Rattle.published.proofs.Visits.{visited_well}
use Rattle.published.proofs.Settles.{stands_sound, stands_wide}
use Rattle.published.proofs.Passages.{next_stands, next_sound, next_wide, sender, passes_now, passes_closed}

-- at first none has opened
pub way_starts : (x : Published) → SoundPublished x → WidePublished x → Waits (settled x) → OnTheWay x x 0
unfolding passage_of
way_starts x sound wide waits = record {
  sound = sound;
  wide = wide;
  waits = waits;
  few = omega arith;
  within = within_two (settled x) (stands_sound x sound wide) (stands_wide x wide) waits;
  same = refl;
  closings = [];
  counted = refl;
  passage = refl;
}

module _ (x₀ x : Published) (rounds : ℕ) (w : OnTheWay x₀ x rounds) where
  -- the leaf that the visits find is the one that sends next in the state that x stands for
  pub way_leaf : (visited x).leaf ≡ next_leaf (settled x)
  way_leaf = (visited_well x w.sound w.wide).leaf_is

  -- a round that has closed is not the second that was opened
  pub way_left : (visited x).leaf ≡ 64 → rounds < 2
  way_left closed = omega (arith, w.few, not_two)
    where
      not_two : rounds ≡ 2 → ⊥
      not_two e =
          omega (arith, within_none (settled x) (subst (λ (n : ℕ). Within (2 - n) (settled x)) e w.within), way_leaf, closed)

  -- an opening keeps the tree and the queues
  opened_same : (opened_published (visited x).after).state
      ≡ in_round x₀.state (opened_published (visited x).after).state.round
  unfolding opened_published
  opened_same =
      let v = visited_well x w.sound w.wide in
      let y = (opened_published (visited x).after).state in
      ap (λ (s : State). in_round s y.round) v.same
      ∙ ap (λ (s : State). in_round s y.round) w.same

  -- one round more
  pub way_on : (visited x).leaf ≡ 64 → OnTheWay x₀ (opened_published (visited x).after) (rounds + 1)
  way_on closed =
      let shut : next_leaf (settled x) ≡ 64 = sym way_leaf ∙ closed in
      let left = way_left closed in
      let stands = next_stands x w.sound w.wide shut w.waits in
      let fuel : 64 - rounds ≡ suc (64 - (rounds + 1)) = omega (arith, left) in
      let rest : 2 - rounds ≡ suc (2 - (rounds + 1)) = omega (arith, left) in
      record {
        sound = next_sound x w.sound w.wide shut w.waits;
        wide = next_wide x w.sound w.wide shut w.waits;
        waits = subst Waits (sym stands) (opened_waits (next_size (settled x)) (settled x) w.waits);
        few = omega (arith, left);
        within =
            subst (Within (2 - (rounds + 1))) (sym stands)
            (within_less (2 - (rounds + 1)) (settled x) (subst (λ (n : ℕ). Within n (settled x)) rest w.within) shut);
        same = opened_same;
        closings = w.closings ++ ((visited x).after.state ∷ []);
        counted = length-append w.closings ((visited x).after.state ∷ []) ∙ ap (λ (n : ℕ). n + 1) w.counted;
        passage =
            w.passage
            ∙ ap (λ (n : ℕ). passes_in n w.closings x) fuel
            ∙ passes_closed (64 - (rounds + 1)) w.closings x closed;
      }

  -- and the leaf that is found gives the whole
  pub way_ends : (visited x).leaf < 64 → passage_of x₀ ≡ passes w.closings (visited x)
  way_ends found = w.passage ∙ passes_now (64 - rounds) w.closings x found

  -- it sends next in the state that it asked in, as the first engine's own step for the packet that goes wants it
  pub way_sender : (visited x).leaf < 64 → Sender (visited x).after.state (visited x).leaf
  way_sender found = sender x w.sound w.wide (omega (arith, way_leaf, found))

  pub way_next : (visited x).leaf < 64 → next_leaf (visited x).after.state ≡ (visited x).leaf
  unfolding next_leaf
  way_next found =
      let s = way_sender found in
      first_skip (ready (visited x).after.state) (visited x).after.state.round.place (visited x).leaf s.onward (omega arith)
      s.passed
      ∙ first_hit (ready (visited x).after.state) (visited x).leaf found s.is_ready
