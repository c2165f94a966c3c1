-- Sends of the second engine computed from the definitions: the listing on tree P, and the six sends of rules/proofs/DeepTree on a tree
-- three
-- classes deep, with the accounts inside each round. It refuses a slip in the rules of asking where they are made.
use mathlib.Core.Bool.{Bool, true, false}
use mathlib.Core.List.{List, [], ◌∷◌, ◌++◌}
use mathlib.Core.Path.{◌≡◌, refl}
use Prim.Native.Nat.{ℕ, zero, suc}
use lib.ListN.{length, replicate}
use Rattle.sets.specs.Set.{has, with, without}
use Rattle.units.specs.Cost.{cost_of}
use Rattle.tree.specs.declared.Tree.{Tree}
use Rattle.tree.specs.declared.Class.{Class}
use Rattle.tree.specs.Class.{no_tree, ruled, added, is_class, is_leaf, is_inner, is_child, of_child, children_sum}
use Rattle.tree.specs.Sum.{sum_to, some_to, table}
use Rattle.tree.specs.Size.{round_size, all_weights, all_longest, longest_cost}
use Rattle.tree.specs.Below.{climbs, at_or_below}
use Rattle.state.specs.Account.{balance_of, residual_of}
use Rattle.state.specs.Queue.{queue_of}
use Rattle.state.specs.State.{State, meaning, fresh_link, queue_at, with_queue}
use Rattle.rules.specs.Active.{waits, some_below, set_of, upward, round_active, active_child, active_weight, weight_sum}
use Rattle.rules.specs.Sizes.{if_active, active_weights, active_longest, active_size, main_size}
use Rattle.rules.specs.Opening.{Kind, main, surplus, surplus_at, has_surplus, kind_of, next_kind, next_size, resized_accounts}
use Rattle.rules.specs.Sending.{first_from, active_leaf, covers, given_up, turns_off, paid, books_after, sent_state}
use Rattle.published.specs.Asking.{Published, quota_at, takes, hands, takes_from_parent, asks, ask}
use Rattle.published.specs.Visiting.{visits_from, visited, sent_published, opened_published, passes_in, passage_of}

class : ℕ → ℕ → ℕ → Bool → Class
class parent weight longest leaf = record { parent = parent; weight = record { 0 = weight }; longest = longest; leaf = leaf }

-- class 1 inner, weight 5; class 2 inner below it, weight 3; leaves 3 (weight 1, longest 100) and 4 (2, 90) below class 2, 5 (2, 80) below
-- class 1, 6 (4, 70) below the root; with either size rule
deep : Bool → Tree
deep follows =
    added
    (added
    (added (added (added (added (ruled no_tree follows) (class 0 5 0 false)) (class 1 3 0 false)) (class 2 1 100 true)) (class 2 2 90 true))
    (class 1 2 80 true))
    (class 0 4 70 true)

-- tree P
p : Tree
p = added (added (added (added no_tree (class 0 3 0 false)) (class 1 1 10 true)) (class 1 2 10 true)) (class 0 4 10 true)

arrive : State → ℕ → ℕ → ℕ → State
arrive s i length tag = with_queue s i (queue_at s i ++ (record { length = length; tag = tag; mark = s.totals.charged } ∷ []))

-- a state in which no class has a quota
unasked_in : State → Published
unasked_in s = record { state = s; asked = 0; quotas = replicate 64 0 }

-- six arrivals on a fresh link: class, length, tag
deep_start : Bool → Published
deep_start follows =
    unasked_in
    (arrive (arrive (arrive (arrive (arrive (arrive (meaning (fresh_link (deep follows))) 3 88 1) 3 28 2) 4 48 3) 4 75 4) 5 61 5) 6 59 6)

-- the four of the listing
p_start : Published
p_start = unasked_in (arrive (arrive (arrive (arrive (meaning (fresh_link p)) 2 2 1) 3 10 2) 3 10 3) 4 10 4)

-- the state after n sends
after : Published → ℕ → Published
after x zero = x
after x (suc n) = (passage_of (after x n)).after

number : Kind → ℕ
number main = 0
number surplus = 1

-- of each round that closed in a send: the kind of the next one, 1 for a surplus round, the balances and the residuals when it closed, of
-- so many classes
shown_in : ℕ → List State → List (List ℕ)
shown_in many [] = []
shown_in many (s ∷ ss) =
    (number (next_kind s) ∷ [])
    ∷ table (balance_of s.round.accounts) many
    ∷ table (residual_of s.round.accounts) many
    ∷ shown_in many ss

-- of the send that follows n others: class, length, tag and rounds; the place, the active set, who has asked and the size in force after
-- it; balances; residuals; the quotas of the root and the inner classes; and its rounds
seen_of : ℕ → ℕ → Published → ℕ → List (List ℕ)
seen_of many inner x n =
    let p = passage_of (after x n) in
    (p.class ∷ p.packet.length ∷ p.packet.tag ∷ length p.closings ∷ [])
    ∷ (p.after.state.round.place ∷ p.after.state.round.active ∷ p.after.asked ∷ p.after.state.round.size.0 ∷ [])
    ∷ table (balance_of p.after.state.round.accounts) many
    ∷ table (residual_of p.after.state.round.accounts) many
    ∷ table (quota_at p.after) inner
    ∷ shown_in many p.closings

-- the listing on tree P: after the second send class 1 still holds what class 3 has yet to ask for (the first engine has 0 and 174)
p_sends : table (seen_of 5 2 p_start) 4
    ≡
    ((4 ∷ 10 ∷ 4 ∷ 1 ∷ [])
    ∷ (4 ∷ 15 ∷ 31 ∷ 262 ∷ [])
    ∷ (87 ∷ 0 ∷ 37 ∷ 74 ∷ 0 ∷ [])
    ∷ (64 ∷ 0 ∷ 0 ∷ 0 ∷ 0 ∷ [])
    ∷ (37 ∷ 37 ∷ [])
    ∷ (0 ∷ [])
    ∷ (262 ∷ 0 ∷ 0 ∷ 0 ∷ 0 ∷ [])
    ∷ (0 ∷ 0 ∷ 0 ∷ 0 ∷ 0 ∷ [])
    ∷ [])
    ∷ ((2 ∷ 2 ∷ 1 ∷ 1 ∷ [])
    ∷ (2 ∷ 11 ∷ 7 ∷ 262 ∷ [])
    ∷ (85 ∷ 100 ∷ 0 ∷ 74 ∷ 0 ∷ [])
    ∷ (0 ∷ 3 ∷ 0 ∷ 0 ∷ 0 ∷ [])
    ∷ (50 ∷ 50 ∷ [])
    ∷ (0 ∷ [])
    ∷ (87 ∷ 0 ∷ 37 ∷ 74 ∷ 0 ∷ [])
    ∷ (64 ∷ 0 ∷ 0 ∷ 0 ∷ 0 ∷ [])
    ∷ [])
    ∷ ((3 ∷ 10 ∷ 2 ∷ 0 ∷ [])
    ∷ (3 ∷ 11 ∷ 15 ∷ 262 ∷ [])
    ∷ (169 ∷ 0 ∷ 0 ∷ 90 ∷ 0 ∷ [])
    ∷ (0 ∷ 3 ∷ 0 ∷ 0 ∷ 0 ∷ [])
    ∷ (50 ∷ 50 ∷ [])
    ∷ [])
    ∷ ((3 ∷ 10 ∷ 3 ∷ 0 ∷ [])
    ∷ (3 ∷ 0 ∷ 15 ∷ 262 ∷ [])
    ∷ (253 ∷ 0 ∷ 0 ∷ 0 ∷ 0 ∷ [])
    ∷ (9 ∷ 0 ∷ 0 ∷ 0 ∷ 0 ∷ [])
    ∷ (50 ∷ 50 ∷ [])
    ∷ [])
    ∷ []
unfolding class deep p arrive unasked_in deep_start p_start after number shown_in seen_of round_size all_weights all_longest longest_cost sum_to
    some_to
    is_class is_leaf is_inner is_child has with without cost_of table queue_of climbs at_or_below waits some_below set_of upward round_active
    active_child of_child children_sum active_weight weight_sum surplus_at has_surplus kind_of next_kind if_active active_weights active_longest
    active_size next_size main_size resized_accounts first_from active_leaf covers given_up turns_off paid books_after
    sent_state takes hands takes_from_parent asks ask visits_from visited sent_published opened_published passes_in passage_of
p_sends = refl

-- rule 1: the whole tree's size, 453, in every round
six_sends : table (seen_of 7 3 (deep_start false)) 6
    ≡
    ((4 ∷ 48 ∷ 3 ∷ 1 ∷ [])
    ∷ (4 ∷ 127 ∷ 31 ∷ 453 ∷ [])
    ∷ (287 ∷ 100 ∷ 0 ∷ 50 ∷ 16 ∷ 0 ∷ 0 ∷ [])
    ∷ (0 ∷ 0 ∷ 0 ∷ 0 ∷ 0 ∷ 0 ∷ 0 ∷ [])
    ∷ (50 ∷ 50 ∷ 50 ∷ [])
    ∷ (0 ∷ [])
    ∷ (453 ∷ 0 ∷ 0 ∷ 0 ∷ 0 ∷ 0 ∷ 0 ∷ [])
    ∷ (0 ∷ 0 ∷ 0 ∷ 0 ∷ 0 ∷ 0 ∷ 0 ∷ [])
    ∷ [])
    ∷ ((5 ∷ 61 ∷ 5 ∷ 0 ∷ [])
    ∷ (5 ∷ 95 ∷ 63 ∷ 453 ∷ [])
    ∷ (372 ∷ 0 ∷ 0 ∷ 50 ∷ 16 ∷ 0 ∷ 0 ∷ [])
    ∷ (0 ∷ 15 ∷ 0 ∷ 0 ∷ 0 ∷ 0 ∷ 0 ∷ [])
    ∷ (50 ∷ 50 ∷ 50 ∷ [])
    ∷ [])
    ∷ ((6 ∷ 59 ∷ 6 ∷ 0 ∷ [])
    ∷ (6 ∷ 31 ∷ 127 ∷ 453 ∷ [])
    ∷ (256 ∷ 0 ∷ 0 ∷ 50 ∷ 16 ∷ 0 ∷ 0 ∷ [])
    ∷ (116 ∷ 15 ∷ 0 ∷ 0 ∷ 0 ∷ 0 ∷ 0 ∷ [])
    ∷ (50 ∷ 50 ∷ 50 ∷ [])
    ∷ [])
    ∷ ((3 ∷ 88 ∷ 1 ∷ 2 ∷ [])
    ∷ (3 ∷ 31 ∷ 15 ∷ 453 ∷ [])
    ∷ (114 ∷ 1 ∷ 246 ∷ 66 ∷ 26 ∷ 0 ∷ 0 ∷ [])
    ∷ (0 ∷ 0 ∷ 0 ∷ 0 ∷ 0 ∷ 0 ∷ 0 ∷ [])
    ∷ (74 ∷ 123 ∷ 123 ∷ [])
    ∷ (1 ∷ [])
    ∷ (256 ∷ 0 ∷ 0 ∷ 50 ∷ 16 ∷ 0 ∷ 0 ∷ [])
    ∷ (116 ∷ 15 ∷ 0 ∷ 0 ∷ 0 ∷ 0 ∷ 0 ∷ [])
    ∷ (0 ∷ [])
    ∷ (256 ∷ 0 ∷ 0 ∷ 55 ∷ 26 ∷ 0 ∷ 0 ∷ [])
    ∷ (116 ∷ 0 ∷ 0 ∷ 0 ∷ 0 ∷ 0 ∷ 0 ∷ [])
    ∷ [])
    ∷ ((4 ∷ 75 ∷ 4 ∷ 0 ∷ [])
    ∷ (4 ∷ 15 ∷ 31 ∷ 453 ∷ [])
    ∷ (213 ∷ 1 ∷ 0 ∷ 66 ∷ 0 ∷ 0 ∷ 0 ∷ [])
    ∷ (0 ∷ 0 ∷ 173 ∷ 0 ∷ 0 ∷ 0 ∷ 0 ∷ [])
    ∷ (74 ∷ 123 ∷ 123 ∷ [])
    ∷ [])
    ∷ ((3 ∷ 28 ∷ 2 ∷ 1 ∷ [])
    ∷ (3 ∷ 0 ∷ 15 ∷ 453 ∷ [])
    ∷ (297 ∷ 0 ∷ 0 ∷ 0 ∷ 0 ∷ 0 ∷ 0 ∷ [])
    ∷ (156 ∷ 0 ∷ 0 ∷ 0 ∷ 0 ∷ 0 ∷ 0 ∷ [])
    ∷ (0 ∷ 0 ∷ 173 ∷ [])
    ∷ (1 ∷ [])
    ∷ (213 ∷ 1 ∷ 0 ∷ 66 ∷ 0 ∷ 0 ∷ 0 ∷ [])
    ∷ (0 ∷ 0 ∷ 173 ∷ 0 ∷ 0 ∷ 0 ∷ 0 ∷ [])
    ∷ [])
    ∷ []
unfolding class deep p arrive unasked_in deep_start p_start after number shown_in seen_of round_size all_weights all_longest longest_cost sum_to
    some_to
    is_class is_leaf is_inner is_child has with without cost_of table queue_of climbs at_or_below waits some_below set_of upward round_active
    active_child of_child children_sum active_weight weight_sum surplus_at has_surplus kind_of next_kind if_active active_weights active_longest
    active_size next_size main_size resized_accounts first_from active_leaf covers given_up turns_off paid books_after
    sent_state takes hands takes_from_parent asks ask visits_from visited sent_published opened_published passes_in passage_of
six_sends = refl

-- rule 2: the main round after a surplus round has 249, and the last 133; the fourth send is another
six_sends_active : table (seen_of 7 3 (deep_start true)) 6
    ≡
    ((4 ∷ 48 ∷ 3 ∷ 1 ∷ [])
    ∷ (4 ∷ 127 ∷ 31 ∷ 453 ∷ [])
    ∷ (287 ∷ 100 ∷ 0 ∷ 50 ∷ 16 ∷ 0 ∷ 0 ∷ [])
    ∷ (0 ∷ 0 ∷ 0 ∷ 0 ∷ 0 ∷ 0 ∷ 0 ∷ [])
    ∷ (50 ∷ 50 ∷ 50 ∷ [])
    ∷ (0 ∷ [])
    ∷ (453 ∷ 0 ∷ 0 ∷ 0 ∷ 0 ∷ 0 ∷ 0 ∷ [])
    ∷ (0 ∷ 0 ∷ 0 ∷ 0 ∷ 0 ∷ 0 ∷ 0 ∷ [])
    ∷ [])
    ∷ ((5 ∷ 61 ∷ 5 ∷ 0 ∷ [])
    ∷ (5 ∷ 95 ∷ 63 ∷ 453 ∷ [])
    ∷ (372 ∷ 0 ∷ 0 ∷ 50 ∷ 16 ∷ 0 ∷ 0 ∷ [])
    ∷ (0 ∷ 15 ∷ 0 ∷ 0 ∷ 0 ∷ 0 ∷ 0 ∷ [])
    ∷ (50 ∷ 50 ∷ 50 ∷ [])
    ∷ [])
    ∷ ((6 ∷ 59 ∷ 6 ∷ 0 ∷ [])
    ∷ (6 ∷ 31 ∷ 127 ∷ 453 ∷ [])
    ∷ (256 ∷ 0 ∷ 0 ∷ 50 ∷ 16 ∷ 0 ∷ 0 ∷ [])
    ∷ (116 ∷ 15 ∷ 0 ∷ 0 ∷ 0 ∷ 0 ∷ 0 ∷ [])
    ∷ (50 ∷ 50 ∷ 50 ∷ [])
    ∷ [])
    ∷ ((4 ∷ 75 ∷ 4 ∷ 2 ∷ [])
    ∷ (4 ∷ 15 ∷ 31 ∷ 249 ∷ [])
    ∷ (102 ∷ 0 ∷ 0 ∷ 110 ∷ 0 ∷ 0 ∷ 0 ∷ [])
    ∷ (0 ∷ 0 ∷ 37 ∷ 0 ∷ 0 ∷ 0 ∷ 0 ∷ [])
    ∷ (33 ∷ 55 ∷ 55 ∷ [])
    ∷ (1 ∷ [])
    ∷ (256 ∷ 0 ∷ 0 ∷ 50 ∷ 16 ∷ 0 ∷ 0 ∷ [])
    ∷ (116 ∷ 15 ∷ 0 ∷ 0 ∷ 0 ∷ 0 ∷ 0 ∷ [])
    ∷ (0 ∷ [])
    ∷ (256 ∷ 0 ∷ 0 ∷ 55 ∷ 26 ∷ 0 ∷ 0 ∷ [])
    ∷ (116 ∷ 0 ∷ 0 ∷ 0 ∷ 0 ∷ 0 ∷ 0 ∷ [])
    ∷ [])
    ∷ ((3 ∷ 88 ∷ 1 ∷ 1 ∷ [])
    ∷ (3 ∷ 15 ∷ 15 ∷ 249 ∷ [])
    ∷ (214 ∷ 0 ∷ 0 ∷ 35 ∷ 0 ∷ 0 ∷ 0 ∷ [])
    ∷ (0 ∷ 0 ∷ 0 ∷ 0 ∷ 0 ∷ 0 ∷ 0 ∷ [])
    ∷ (0 ∷ 0 ∷ 37 ∷ [])
    ∷ (1 ∷ [])
    ∷ (102 ∷ 0 ∷ 0 ∷ 110 ∷ 0 ∷ 0 ∷ 0 ∷ [])
    ∷ (0 ∷ 0 ∷ 37 ∷ 0 ∷ 0 ∷ 0 ∷ 0 ∷ [])
    ∷ [])
    ∷ ((3 ∷ 28 ∷ 2 ∷ 1 ∷ [])
    ∷ (3 ∷ 0 ∷ 15 ∷ 133 ∷ [])
    ∷ (87 ∷ 0 ∷ 0 ∷ 0 ∷ 0 ∷ 0 ∷ 0 ∷ [])
    ∷ (46 ∷ 0 ∷ 0 ∷ 0 ∷ 0 ∷ 0 ∷ 0 ∷ [])
    ∷ (19 ∷ 31 ∷ 93 ∷ [])
    ∷ (0 ∷ [])
    ∷ (214 ∷ 0 ∷ 0 ∷ 35 ∷ 0 ∷ 0 ∷ 0 ∷ [])
    ∷ (0 ∷ 0 ∷ 0 ∷ 0 ∷ 0 ∷ 0 ∷ 0 ∷ [])
    ∷ [])
    ∷ []
unfolding class deep p arrive unasked_in deep_start p_start after number shown_in seen_of round_size all_weights all_longest longest_cost sum_to
    some_to
    is_class is_leaf is_inner is_child has with without cost_of table queue_of climbs at_or_below waits some_below set_of upward round_active
    active_child of_child children_sum active_weight weight_sum surplus_at has_surplus kind_of next_kind if_active active_weights active_longest
    active_size next_size main_size resized_accounts first_from active_leaf covers given_up turns_off paid books_after
    sent_state takes hands takes_from_parent asks ask visits_from visited sent_published opened_published passes_in passage_of
six_sends_active = refl
