-- One leaf between two closings, holding a packet throughout: what it was charged and what it has left is what it had and what it gained,
-- its weight times its parent's quota in each round (R256). Demand 2.
use mathlib.Core.Bool.{true}
use mathlib.Core.List.{List, [], ◌∷◌, ◌++◌}
use mathlib.Core.Path.{◌≡◌, refl, sym, ap, ap₂, subst, ◌∙◌}
use Prim.Native.Nat.{ℕ, ◌+◌, ◌*◌, ◌≤◌, ◌<◌}
use native.Mathlib.Nat.{mul-zero, mul-add}
use native.Mathlib.Omega.{arith}
use lib.ListN.{length}
use Rattle.sets.specs.Set.{has}
use Rattle.units.specs.Cost.{cost_of}
use Rattle.tree.specs.declared.Tree.{Tree}
use Rattle.tree.specs.Class.{parent_of, weight_of, longest_of, is_leaf}
use Rattle.tree.proofs.Rules.{leaf_number}
use Rattle.state.specs.declared.Link.{Link}
use Rattle.state.specs.Account.{balance_of}
use Rattle.state.specs.State.{State, meaning, queue_at}
use Rattle.sound.specs.Sound.{SoundLink}
use Rattle.rules.specs.Opening.{next_size, opened}
use Rattle.rules.specs.Sending.{Turn, turn_of}
use Rattle.rules.proofs.Rounds.{opened_tree}
use Rattle.calls.specs.Run.{Made, link_left, Moment, closed, called, made_in, closed_in, Run, moments_of}
use Rattle.siblings.specs.Siblings.{Closings, Holding, charges_of, quotas_of}
use Rattle.siblings.proofs.OneLeaf.{closing_short, opening_takes, opening_gains}
use Rattle.siblings.proofs.Steps.{HoldsNext, Closes, Steps, steps_later, run_steps}

-- a round closes on a state with this tree, and another opens, while leaf k holds a packet
module _
    (t : Tree) (k : ℕ) (s : State) (turn : Turn) (later : List Moment)
    (tree : s.tree ≡ t) (leaf : is_leaf t k ≡ true) (c : Closes k s turn later) where
  leaf_here : is_leaf s.tree k ≡ true
  leaf_here = ap (λ (x : Tree). is_leaf x k) tree ∙ leaf

  turn_closes : balance_of turn.closed.round.accounts k ≡ balance_of s.round.accounts k
  unfolding turn_of
  turn_closes = ap (λ (x : Turn). balance_of x.closed.round.accounts k) c.is

  turn_short : balance_of turn.closed.round.accounts k < cost_of (longest_of t k)
  turn_short =
      let short = closing_short s k c.sound leaf_here c.ends in
      omega (arith, short, turn_closes, ap (λ (x : Tree). cost_of (longest_of x k)) tree)

  turn_takes : 1 ≤ length (queue_at s k) → has (opened s).round.active k ≡ true
  turn_takes held = opening_takes s k c.sound leaf_here held

  turn_gains : 1 ≤ length (queue_at s k)
      → balance_of (opened s).round.accounts k ≡ balance_of turn.closed.round.accounts k + weight_of t k * turn.quotas (parent_of t k)
  turn_gains held =
      opening_gains s k c.sound leaf_here c.wide held
      ∙ ap₂ (λ (x : Tree) (u : Turn). balance_of s.round.accounts k + weight_of x k * u.quotas (parent_of x k)) tree (sym c.is)
      ∙ ap (λ (b : ℕ). b + weight_of t k * turn.quotas (parent_of t k)) (sym turn_closes)

  -- a leaf that is in the round that closes does
  in_round_lem : has s.round.active k ≡ true → 1 ≤ length (queue_at s k)
  in_round_lem on = (c.sound.waiting k (leaf_number s.tree k c.sound.fits.tree leaf_here)).waits leaf_here on

-- from a moment in a round that leaf k is in, to a closing
from_within : (between : List Moment) (t : Tree) (k : ℕ) (s : State) (second : Turn) (after : List Moment) → s.tree ≡ t
    → is_leaf t k ≡ true
    → Steps k s (between ++ (closed second ∷ after)) → has s.round.active k ≡ true → Holding k between
    → balance_of second.closed.round.accounts k + charges_of k between
    ≡ balance_of s.round.accounts k + weight_of t k * quotas_of (parent_of t k) (closed_in between)
unfolding Steps Holding closed_in charges_of quotas_of
from_within [] t k s second after tree leaf steps on held =
    omega (arith, turn_closes t k s second after tree leaf steps.0, mul-zero (weight_of t k))
from_within (closed turn ∷ between) t k s second after tree leaf steps on held =
    let c = steps.0 in
    let waits = in_round_lem t k s turn _ tree leaf c on in
    let same = opened_tree (next_size s) s ∙ tree in
    let stays = turn_takes t k s turn _ tree leaf c waits in
    let later = from_within between t k (opened s) second after same leaf steps.1 stays held in
    omega (
      arith,
      later,
      turn_gains t k s turn _ tree leaf c waits,
      turn_closes t k s turn _ tree leaf c,
      mul-add (weight_of t k) (turn.quotas (parent_of t k)) (quotas_of (parent_of t k) (closed_in between)),
    )
from_within (called m ∷ between) t k s second after tree leaf steps on held =
    let c = steps.0 in
    let later =
    from_within between t k (meaning (link_left m)) second after (c.tree ∙ tree) leaf steps.1 (c.stays on held.0) held.1
    in
    omega (arith, later, c.pays on held.0)

-- where a call was made between, the leaf holds a packet after the first of them
holds_next : (between : List Moment) (k : ℕ) (later : List Moment) → 1 ≤ length (made_in between) → Holding k between
    → HoldsNext k (between ++ later)
unfolding HoldsNext Holding made_in
holds_next [] k later some held = absurd (omega arith)
holds_next (closed turn ∷ between) k later some held = holds_next between k later some held
holds_next (called m ∷ between) k later some held = held.0

-- and where none was made nothing was charged
pub none_charged : (moments : List Moment) (k : ℕ) → made_in moments ≡ [] → charges_of k moments ≡ 0
unfolding made_in charges_of
none_charged [] k e = refl
none_charged (closed turn ∷ moments) k e = none_charged moments k e
none_charged (called m ∷ moments) k e = absurd (omega (arith, ap length e))

-- ---- between two closings of a run

module _
    (l : Link) (run : List Made) (k : ℕ) (sound : SoundLink l) (is : Run l run) (leaf : is_leaf l.tree k ≡ true)
    (c : Closings (moments_of l run)) where
  -- the moments from the first closing on
  from : (s : State) × (s.tree ≡ l.tree) × Steps k s (closed c.first ∷ c.between ++ (closed c.second ∷ c.after))
  from = steps_later c.before k (meaning l) _ (subst (Steps k (meaning l)) c.order (run_steps run k l sound leaf is))

  -- and from the second
  upto : (s : State) × (s.tree ≡ from.0.tree) × Steps k s (closed c.second ∷ c.after)
  unfolding Steps
  upto = steps_later (closed c.first ∷ c.between) k from.0 _ from.2

  -- at a closing a leaf has less than its longest packet costs
  pub first_short : balance_of c.first.closed.round.accounts k < cost_of (longest_of l.tree k)
  unfolding Steps
  first_short = turn_short l.tree k from.0 c.first _ from.1 leaf from.2.0

  pub second_short : balance_of c.second.closed.round.accounts k < cost_of (longest_of l.tree k)
  unfolding Steps
  second_short = turn_short l.tree k upto.0 c.second _ (upto.1 ∙ from.1) leaf upto.2.0

  -- what it has at the second, and was charged between, is what it had at the first, and its weight times its parent's quota in each round
  -- that opened between
  pub leaf_law : 1 ≤ length (made_in c.between) → Holding k c.between
      → balance_of c.second.closed.round.accounts k + charges_of k c.between
      ≡ balance_of c.first.closed.round.accounts k + weight_of l.tree k * quotas_of (parent_of l.tree k)
      (c.first ∷ closed_in c.between)
  unfolding Steps quotas_of
  leaf_law some held =
      let t = l.tree in
      let here = from.2.0 in
      let waits = here.held (holds_next c.between k _ some held) in
      let on = turn_takes t k from.0 c.first _ from.1 leaf here waits in
      let same = opened_tree (next_size from.0) from.0 ∙ from.1 in
      let later = from_within c.between t k (opened from.0) c.second c.after same leaf from.2.1 on held in
      omega (
        arith,
        later,
        turn_gains t k from.0 c.first _ from.1 leaf here waits,
        mul-add (weight_of t k) (c.first.quotas (parent_of t k)) (quotas_of (parent_of t k) (closed_in c.between)),
      )
