-- A tree of two leaves obeys the plan rules; what two arrivals and two sends on its fresh link give, computed from the definitions.
-- Demand 2.
use mathlib.Core.Bool.{true, false}
use mathlib.Core.Path.{◌≡◌, refl}
use Prim.Native.Nat.{ℕ}
use native.Mathlib.Omega.{arith}
use lib.ListN.{length}
use Rattle.checks.specs.declared.Refusal.TheVariants.{NoLeaf}
use Rattle.std.specs.Prelude.{Ok, Err}
use Rattle.checks.specs.Check.{first_broken, class_by_class, refusal_at}
use Rattle.checks.proofs.Laws.{not_true_and_false}
use Rattle.sets.specs.Set.{has, with, without}
use Rattle.units.specs.Cost.{cost_of}
use Rattle.tree.specs.declared.Tree.{Tree}
use Rattle.tree.specs.declared.Class.{Class}
use Rattle.tree.specs.Class.{no_tree, added, is_class, is_leaf, is_inner, is_child, of_child, children_sum, children_weight, has_child}
use Rattle.tree.specs.Rules.{too_many, bad_parent, bad_weight, bad_longest, too_heavy, childless, no_class, closing_checks, ClassesPass, PlanRules}
use Rattle.tree.specs.Sum.{sum_to, some_to, table}
use Rattle.tree.specs.Size.{round_size, all_weights, all_longest, longest_cost}
use Rattle.rules.specs.Sizes.{main_size}
use Rattle.tree.proofs.Growth.{Grown, none_grown, added_grown, none_pass, classes_kept}
use Rattle.tree.proofs.AfterEnd.{closing_yes}
use Rattle.state.specs.declared.Link.{Link}
use Rattle.state.specs.declared.Packet.{Packet}
use Rattle.state.specs.Queue.{queue_of}
use Rattle.state.specs.State.{State, meaning, fresh_link}
use Rattle.tree.specs.Below.{climbs, at_or_below}
use Rattle.rules.specs.Active.{waits, some_waits, some_below, set_of, upward, round_active, active_child, active_weight, weight_sum}
use Rattle.rules.specs.Opening.{surplus_at, has_surplus, kind_of, quota_in, quota, due, hands_down, opened_leaf, opened_inner, opened_account}
use Rattle.rules.specs.Opening.{opened_accounts, next_kind, next_size, resized_accounts, opened_with}
use Rattle.rules.specs.Sending.{ready, first_from, next_leaf, given_up, turns_off, paid, books_after, sent_state, turn_of, sends, trace_of}
use Rattle.calls.specs.Arrival.{no_leaf, bad_length, full, arrival_checks, arrived}

-- ---- the tree

leaf : ℕ → ℕ → Class
leaf weight longest = record { parent = 0; weight = record { 0 = weight }; longest = longest; leaf = true }

one : Tree
one = added no_tree (leaf 1 10)

pub tree : Tree
tree = added one (leaf 1 10)

grown : Grown tree
unfolding leaf one tree
grown =
    added_grown one (leaf 1 10) (added_grown no_tree (leaf 1 10) (none_grown false) (omega arith) (λ f. absurd (not_true_and_false refl f)))
    (omega arith)
    (λ f. absurd (not_true_and_false refl f))

passes : ClassesPass tree
unfolding leaf one tree bad_parent bad_weight bad_longest is_leaf has with
passes = classes_kept one (leaf 1 10) (classes_kept no_tree (leaf 1 10) (none_pass false) refl refl refl) refl refl refl

closes : first_broken (closing_checks tree) ≡ Ok tt
unfolding leaf one tree first_broken class_by_class too_heavy childless no_class is_inner is_class is_leaf is_child of_child children_sum
    children_weight
    has_child sum_to some_to has with
closes = refl

few : too_many tree ≡ false
unfolding leaf one tree too_many
few = refl

pub rules : PlanRules tree
rules = record { few = few; each = passes; closing = closing_yes tree closes; unset = grown.unset }

-- ---- the calls

unfoldable pub fresh : Link
fresh = fresh_link tree

-- a packet of 2 bytes for class 1, and one of 10 bytes for class 2
pub first : Packet
first = record { length = 2; tag = 1 }

pub second : Packet
second = record { length = 10; tag = 4 }

-- the state with the first, with both, and the two sends then
unfoldable pub with_first : State
with_first = arrived (meaning fresh) 1 first

unfoldable pub with_both : State
with_both = arrived with_first 2 second

unfoldable pub sent_once : State
sent_once = (trace_of with_both).state

-- classes 1 and 2 are leaves and take theirs, 3 is no class
pub arrivals_pass : (first_broken (arrival_checks true (meaning fresh) 1 first) ≡ Ok tt)
    × (first_broken (arrival_checks true (meaning fresh) 3 first) ≡ Err (refusal_at NoLeaf 3))
    × (first_broken (arrival_checks true with_first 2 second) ≡ Ok tt)
unfolding leaf one tree fresh first second with_first first_broken no_leaf bad_length full is_leaf has with table queue_of
arrivals_pass = (refl, refl, refl)

-- a packet waits only once it has arrived
pub arrivals_wait : (some_waits (meaning fresh) ≡ false) × (some_waits with_first ≡ true) × (waits with_first 2 ≡ false)
    × (waits with_both 2 ≡ true)
unfolding leaf one tree fresh first second with_first with_both is_leaf has with table queue_of waits some_waits some_to
arrivals_wait = (refl, refl, refl, refl)

-- the send on state s sends the packet with this tag and opens so many rounds
pub record SendsAs (s : State) (mark many : ℕ) : Type 0 where
  pub waits : some_waits s ≡ true
  pub tag : (trace_of s).packet.tag ≡ mark
  pub rounds : length (trace_of s).turns ≡ many

-- the first packet goes in a new round, the second in the same round, and then none waits
pub two_sends : SendsAs with_both 1 1 × SendsAs sent_once 4 0 × (some_waits (trace_of sent_once).state ≡ false)
unfolding leaf one tree fresh first second with_first with_both sent_once round_size all_weights all_longest longest_cost sum_to some_to is_class
    is_leaf is_inner is_child has with without cost_of table queue_of climbs at_or_below waits some_waits some_below set_of upward round_active
    of_child children_sum
    active_child active_weight weight_sum surplus_at has_surplus kind_of quota_in quota due hands_down opened_leaf opened_inner opened_account
    opened_accounts next_kind next_size main_size resized_accounts opened_with ready first_from next_leaf given_up turns_off paid books_after sent_state
    turn_of sends trace_of
two_sends = (record { waits = refl; tag = refl; rounds = refl }, record { waits = refl; tag = refl; rounds = refl }, refl)
