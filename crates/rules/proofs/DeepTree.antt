-- Six sends on a tree three classes deep, computed from the definitions: a main round, a surplus round that sends nothing with the main
-- round after
-- it, one that sends, and classes that turn inactive up to the root. It refuses a slip in the rules where they are made. Demand 2.
use mathlib.Core.Bool.{Bool, true, false}
use mathlib.Core.List.{List, [], ◌∷◌, ◌++◌}
use mathlib.Core.Path.{◌≡◌, refl}
use Prim.Native.Nat.{ℕ, zero, suc}
use lib.ListN.{length}
use Rattle.sets.specs.Set.{has, with, without}
use Rattle.units.specs.Cost.{cost_of}
use Rattle.tree.specs.declared.Tree.{Tree}
use Rattle.tree.specs.declared.Class.{Class}
use Rattle.tree.specs.Class.{no_tree, ruled, added, is_class, is_leaf, is_inner, is_child, of_child, children_sum}
use Rattle.tree.specs.Sum.{sum_to, some_to, table}
use Rattle.tree.specs.Size.{round_size, all_weights, all_longest, longest_cost}
use Rattle.rules.specs.Sizes.{if_active, active_weights, active_longest, active_size, main_size}
use Rattle.state.specs.declared.Account.{Account}
use Rattle.state.specs.Account.{balance_of, residual_of}
use Rattle.state.specs.Queue.{queue_of}
use Rattle.state.specs.State.{State, meaning, fresh_link, queue_at, with_queue}
use Rattle.tree.specs.Below.{climbs, at_or_below}
use Rattle.rules.specs.Active.{waits, some_below, set_of, upward, round_active, active_child, active_weight, weight_sum}
use Rattle.rules.specs.Opening.{surplus_at, has_surplus, kind_of, quota_in, quota, due, hands_down, opened_leaf, opened_inner, opened_account}
use Rattle.rules.specs.Opening.{opened_accounts, next_kind, next_size, resized_accounts, opened_with, opened}
use Rattle.rules.specs.Sending.{ready, first_from, next_leaf, given_up, turns_off, paid, books_after, sent_state, Turn, turn_of, sends}
use Rattle.rules.specs.Sending.{trace_of}

class : ℕ → ℕ → ℕ → Bool → Class
class parent weight longest leaf = record { parent = parent; weight = record { 0 = weight }; longest = longest; leaf = leaf }

-- class 1 inner, weight 5; class 2 inner below it, weight 3; leaves 3 (weight 1, longest 100) and 4 (2, 90) below class 2, 5 (2, 80) below
-- class 1, 6 (4, 70) below the root
none : Bool → Tree
none rule = ruled no_tree rule

tree : Bool → Tree
tree rule =
    added
    (added (added (added (added (added (none rule) (class 0 5 0 false)) (class 1 3 0 false)) (class 2 1 100 true)) (class 2 2 90 true))
    (class 1 2 80 true))
    (class 0 4 70 true)

arrive : State → ℕ → ℕ → ℕ → State
arrive s i length tag = with_queue s i (queue_at s i ++ (record { length = length; tag = tag; mark = s.totals.charged } ∷ []))

-- six arrivals on a fresh link: class, length, tag
start : Bool → State
start rule = arrive (arrive (arrive (arrive (arrive (arrive (meaning (fresh_link (tree rule))) 3 88 1) 3 28 2) 4 48 3) 4 75 4) 5 61 5) 6 59 6

-- the state after n sends
after : Bool → ℕ → State
after rule zero = start rule
after rule (suc n) = (trace_of (after rule n)).state

-- the accounts of classes 0 to 6
balances : List Account → List ℕ
balances xs = table (balance_of xs) 7

residuals : List Account → List ℕ
residuals xs = table (residual_of xs) 7

-- of each round opened in a send: the size in force, the quotas of classes 0 to 2, the balances and the residuals after its opening
shown_in : List Turn → List (List ℕ)
shown_in [] = []
shown_in (x ∷ xs) = (x.size ∷ []) ∷ table x.quotas 3 ∷ balances x.after ∷ residuals x.after ∷ shown_in xs

-- of the send that follows n others: class, length, tag and rounds; the place, the active set and the size after it; balances; residuals;
-- and its
-- rounds
seen_of : Bool → ℕ → List (List ℕ)
seen_of rule n =
    let t = trace_of (after rule n) in
    (t.class ∷ t.packet.length ∷ t.packet.tag ∷ length t.turns ∷ [])
    ∷ (t.state.round.place ∷ t.state.round.active ∷ t.state.round.size.0 ∷ [])
    ∷ balances t.state.round.accounts
    ∷ residuals t.state.round.accounts
    ∷ shown_in t.turns

-- the place becomes 1 when a round opens
opens_at_1 : (opened (start false)).round.place ≡ 1
unfolding opened_with
opens_at_1 = refl

-- rule 1: the whole tree's size, 453, in every round
six_sends : table (seen_of false) 6
    ≡
    ((4 ∷ 48 ∷ 3 ∷ 1 ∷ [])
    ∷ (4 ∷ 127 ∷ 453 ∷ [])
    ∷ (87 ∷ 0 ∷ 0 ∷ 50 ∷ 16 ∷ 100 ∷ 200 ∷ [])
    ∷ (0 ∷ 0 ∷ 0 ∷ 0 ∷ 0 ∷ 0 ∷ 0 ∷ [])
    ∷ (453 ∷ [])
    ∷ (50 ∷ 50 ∷ 50 ∷ [])
    ∷ (3 ∷ 0 ∷ 0 ∷ 50 ∷ 100 ∷ 100 ∷ 200 ∷ [])
    ∷ (0 ∷ 0 ∷ 0 ∷ 0 ∷ 0 ∷ 0 ∷ 0 ∷ [])
    ∷ [])
    ∷ ((5 ∷ 61 ∷ 5 ∷ 0 ∷ [])
    ∷ (5 ∷ 95 ∷ 453 ∷ [])
    ∷ (172 ∷ 0 ∷ 0 ∷ 50 ∷ 16 ∷ 0 ∷ 200 ∷ [])
    ∷ (0 ∷ 15 ∷ 0 ∷ 0 ∷ 0 ∷ 0 ∷ 0 ∷ [])
    ∷ [])
    ∷ ((6 ∷ 59 ∷ 6 ∷ 0 ∷ [])
    ∷ (6 ∷ 31 ∷ 453 ∷ [])
    ∷ (256 ∷ 0 ∷ 0 ∷ 50 ∷ 16 ∷ 0 ∷ 0 ∷ [])
    ∷ (116 ∷ 15 ∷ 0 ∷ 0 ∷ 0 ∷ 0 ∷ 0 ∷ [])
    ∷ [])
    ∷ ((3 ∷ 88 ∷ 1 ∷ 2 ∷ [])
    ∷ (3 ∷ 31 ∷ 453 ∷ [])
    ∷ (114 ∷ 1 ∷ 0 ∷ 66 ∷ 272 ∷ 0 ∷ 0 ∷ [])
    ∷ (0 ∷ 0 ∷ 0 ∷ 0 ∷ 0 ∷ 0 ∷ 0 ∷ [])
    ∷ (453 ∷ [])
    ∷ (0 ∷ 5 ∷ 5 ∷ [])
    ∷ (256 ∷ 0 ∷ 0 ∷ 55 ∷ 26 ∷ 0 ∷ 0 ∷ [])
    ∷ (116 ∷ 0 ∷ 0 ∷ 0 ∷ 0 ∷ 0 ∷ 0 ∷ [])
    ∷ (453 ∷ [])
    ∷ (74 ∷ 123 ∷ 123 ∷ [])
    ∷ (2 ∷ 1 ∷ 0 ∷ 178 ∷ 272 ∷ 0 ∷ 0 ∷ [])
    ∷ (0 ∷ 0 ∷ 0 ∷ 0 ∷ 0 ∷ 0 ∷ 0 ∷ [])
    ∷ [])
    ∷ ((4 ∷ 75 ∷ 4 ∷ 0 ∷ [])
    ∷ (4 ∷ 15 ∷ 453 ∷ [])
    ∷ (213 ∷ 1 ∷ 0 ∷ 66 ∷ 0 ∷ 0 ∷ 0 ∷ [])
    ∷ (0 ∷ 0 ∷ 173 ∷ 0 ∷ 0 ∷ 0 ∷ 0 ∷ [])
    ∷ [])
    ∷ ((3 ∷ 28 ∷ 2 ∷ 1 ∷ [])
    ∷ (3 ∷ 0 ∷ 453 ∷ [])
    ∷ (297 ∷ 0 ∷ 0 ∷ 0 ∷ 0 ∷ 0 ∷ 0 ∷ [])
    ∷ (156 ∷ 0 ∷ 0 ∷ 0 ∷ 0 ∷ 0 ∷ 0 ∷ [])
    ∷ (453 ∷ [])
    ∷ (0 ∷ 0 ∷ 173 ∷ [])
    ∷ (213 ∷ 1 ∷ 0 ∷ 239 ∷ 0 ∷ 0 ∷ 0 ∷ [])
    ∷ (0 ∷ 0 ∷ 0 ∷ 0 ∷ 0 ∷ 0 ∷ 0 ∷ [])
    ∷ [])
    ∷ []
unfolding class none tree arrive start after seen_of shown_in balances residuals round_size all_weights all_longest longest_cost sum_to some_to
    is_class
    is_leaf is_inner is_child has with without cost_of table queue_of climbs at_or_below waits some_below set_of upward round_active active_child
    of_child children_sum
    active_weight weight_sum surplus_at has_surplus kind_of quota_in quota due hands_down opened_leaf opened_inner opened_account opened_accounts
    next_kind next_size main_size resized_accounts opened_with ready first_from next_leaf given_up turns_off paid books_after sent_state turn_of sends
    trace_of
six_sends = refl

-- rule 2: the first round has all classes; when leaves 5 and 6 have gone the main round after a surplus round has 249, and the last 133
six_sends_active : table (seen_of true) 6
    ≡
    ((4 ∷ 48 ∷ 3 ∷ 1 ∷ [])
    ∷ (4 ∷ 127 ∷ 453 ∷ [])
    ∷ (87 ∷ 0 ∷ 0 ∷ 50 ∷ 16 ∷ 100 ∷ 200 ∷ [])
    ∷ (0 ∷ 0 ∷ 0 ∷ 0 ∷ 0 ∷ 0 ∷ 0 ∷ [])
    ∷ (453 ∷ [])
    ∷ (50 ∷ 50 ∷ 50 ∷ [])
    ∷ (3 ∷ 0 ∷ 0 ∷ 50 ∷ 100 ∷ 100 ∷ 200 ∷ [])
    ∷ (0 ∷ 0 ∷ 0 ∷ 0 ∷ 0 ∷ 0 ∷ 0 ∷ [])
    ∷ [])
    ∷ ((5 ∷ 61 ∷ 5 ∷ 0 ∷ [])
    ∷ (5 ∷ 95 ∷ 453 ∷ [])
    ∷ (172 ∷ 0 ∷ 0 ∷ 50 ∷ 16 ∷ 0 ∷ 200 ∷ [])
    ∷ (0 ∷ 15 ∷ 0 ∷ 0 ∷ 0 ∷ 0 ∷ 0 ∷ [])
    ∷ [])
    ∷ ((6 ∷ 59 ∷ 6 ∷ 0 ∷ [])
    ∷ (6 ∷ 31 ∷ 453 ∷ [])
    ∷ (256 ∷ 0 ∷ 0 ∷ 50 ∷ 16 ∷ 0 ∷ 0 ∷ [])
    ∷ (116 ∷ 15 ∷ 0 ∷ 0 ∷ 0 ∷ 0 ∷ 0 ∷ [])
    ∷ [])
    ∷ ((4 ∷ 75 ∷ 4 ∷ 2 ∷ [])
    ∷ (4 ∷ 15 ∷ 249 ∷ [])
    ∷ (102 ∷ 0 ∷ 0 ∷ 110 ∷ 0 ∷ 0 ∷ 0 ∷ [])
    ∷ (0 ∷ 0 ∷ 37 ∷ 0 ∷ 0 ∷ 0 ∷ 0 ∷ [])
    ∷ (453 ∷ [])
    ∷ (0 ∷ 5 ∷ 5 ∷ [])
    ∷ (256 ∷ 0 ∷ 0 ∷ 55 ∷ 26 ∷ 0 ∷ 0 ∷ [])
    ∷ (116 ∷ 0 ∷ 0 ∷ 0 ∷ 0 ∷ 0 ∷ 0 ∷ [])
    ∷ (249 ∷ [])
    ∷ (33 ∷ 55 ∷ 55 ∷ [])
    ∷ (3 ∷ 0 ∷ 0 ∷ 110 ∷ 136 ∷ 0 ∷ 0 ∷ [])
    ∷ (0 ∷ 0 ∷ 0 ∷ 0 ∷ 0 ∷ 0 ∷ 0 ∷ [])
    ∷ [])
    ∷ ((3 ∷ 88 ∷ 1 ∷ 1 ∷ [])
    ∷ (3 ∷ 15 ∷ 249 ∷ [])
    ∷ (214 ∷ 0 ∷ 0 ∷ 35 ∷ 0 ∷ 0 ∷ 0 ∷ [])
    ∷ (0 ∷ 0 ∷ 0 ∷ 0 ∷ 0 ∷ 0 ∷ 0 ∷ [])
    ∷ (249 ∷ [])
    ∷ (0 ∷ 0 ∷ 37 ∷ [])
    ∷ (102 ∷ 0 ∷ 0 ∷ 147 ∷ 0 ∷ 0 ∷ 0 ∷ [])
    ∷ (0 ∷ 0 ∷ 0 ∷ 0 ∷ 0 ∷ 0 ∷ 0 ∷ [])
    ∷ [])
    ∷ ((3 ∷ 28 ∷ 2 ∷ 1 ∷ [])
    ∷ (3 ∷ 0 ∷ 133 ∷ [])
    ∷ (87 ∷ 0 ∷ 0 ∷ 0 ∷ 0 ∷ 0 ∷ 0 ∷ [])
    ∷ (46 ∷ 0 ∷ 0 ∷ 0 ∷ 0 ∷ 0 ∷ 0 ∷ [])
    ∷ (133 ∷ [])
    ∷ (19 ∷ 31 ∷ 93 ∷ [])
    ∷ (3 ∷ 2 ∷ 0 ∷ 128 ∷ 0 ∷ 0 ∷ 0 ∷ [])
    ∷ (0 ∷ 0 ∷ 0 ∷ 0 ∷ 0 ∷ 0 ∷ 0 ∷ [])
    ∷ [])
    ∷ []
unfolding class none tree arrive start after seen_of shown_in balances residuals round_size all_weights all_longest longest_cost sum_to some_to
    is_class
    is_leaf is_inner is_child has with without cost_of table queue_of climbs at_or_below waits some_below set_of upward round_active active_child
    of_child children_sum active_weight weight_sum surplus_at has_surplus kind_of quota_in quota due hands_down opened_leaf opened_inner
    opened_account opened_accounts
    next_kind next_size main_size if_active active_weights active_longest
    active_size resized_accounts opened_with ready first_from next_leaf given_up turns_off paid books_after sent_state turn_of sends trace_of
six_sends_active = refl
