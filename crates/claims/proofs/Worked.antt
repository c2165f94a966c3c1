-- Worked cases, computed: what some recordings of tree P are judged to be by the definitions. A checker with a fixed answer gives none of
-- them twice.
use mathlib.Core.List.{List, [], ◌∷◌, ◌++◌, map}
use mathlib.Core.Path.{◌≡◌, refl}
use Prim.Native.Nat.{ℕ}
use Rattle.checks.specs.declared.Refusal.TheVariants.{Cut, NoClass, UnknownKind, Unpaired}
use Rattle.checks.specs.Check.{first_broken, class_by_class, refusal_at}
use Rattle.sets.specs.Set.{has, with, without}
use Rattle.units.specs.Cost.{cost_of}
use Rattle.tree.specs.Class.{is_class, is_leaf, is_inner, is_child, of_child, children_sum, children_weight, has_child}
use Rattle.tree.specs.Sum.{sum_to, some_to, table}
use Rattle.tree.specs.Rules.{too_many, bad_parent, bad_weight, bad_longest, too_heavy, childless, no_class}
use Rattle.tree.specs.Size.{all_weights, longest_cost, all_longest, round_size}
use Rattle.rules.specs.Sizes.{if_active, active_weights, active_longest, active_size, main_size}
use Rattle.plan.specs.Kind.{record_kind}
use Rattle.plan.specs.Record.{kind_at, missing, unknown, cut, body_of, rule_of, late_rule, bad_rule, class_at}
use Rattle.plan.specs.Reader.{record_checks, rule_first, after, follows_of, tree_of, passes, in_row, passed_over, deciding_checks, plan_of}
use Rattle.plan.specs.Entry.{claim_in, claim_after, entry_of, entry_at}
use Rattle.state.specs.Queue.{queue_of}
use Rattle.tree.specs.Below.{climbs, at_or_below}
use Rattle.rules.specs.Active.{waits, some_waits, some_below, set_of, upward, round_active, active_child, active_weight, weight_sum}
use Rattle.rules.specs.Opening.{surplus_at, has_surplus, kind_of, quota_in, quota, due, hands_down, opened_leaf, opened_inner, opened_account}
use Rattle.rules.specs.Opening.{opened_accounts, next_kind, next_size, resized_accounts, opened_with}
use Rattle.rules.specs.Sending.{ready, first_from, next_leaf, given_up, turns_off, paid, books_after, sent_state, turn_of, sends, trace_of}
use Rattle.calls.specs.Arrival.{no_leaf, bad_length, full, arrival_of}
use Rattle.calls.specs.Send.{send_of}
use Rattle.claims.specs.declared.Judged.{Judged}
use Rattle.claims.specs.declared.Judged.TheVariants.{Good, FalseAt, Stop}
use Rattle.claims.specs.Recording.{onward, takes, part_of, judged_of}

-- tree P: 31 bytes
abbrev tree_p : List ℕ
tree_p =
    1 ∷ 0 ∷ 0 ∷ 0 ∷ 0 ∷ 3
    ∷ 2 ∷ 1 ∷ 0 ∷ 0 ∷ 0 ∷ 1 ∷ 0 ∷ 10
    ∷ 2 ∷ 1 ∷ 0 ∷ 0 ∷ 0 ∷ 2 ∷ 0 ∷ 10
    ∷ 2 ∷ 0 ∷ 0 ∷ 0 ∷ 0 ∷ 4 ∷ 0 ∷ 10
    ∷ 0 ∷ []

-- an arrival, a claim of a packet and one of nothing, of small numbers; a send
abbrev arrives : ℕ → ℕ → ℕ → List ℕ
arrives class n tag = 16 ∷ class ∷ 0 ∷ n ∷ 0 ∷ 0 ∷ 0 ∷ tag ∷ []

abbrev claims : ℕ → ℕ → ℕ → List ℕ
claims class n tag = 18 ∷ class ∷ 0 ∷ n ∷ 0 ∷ 0 ∷ 0 ∷ tag ∷ []

abbrev idle : List ℕ
idle = 19 ∷ []

abbrev sent : List ℕ
sent = 17 ∷ []

-- the arrivals of the listing, up to byte 63
abbrev loaded : List ℕ
loaded = tree_p ++ arrives 2 2 1 ++ arrives 3 10 2 ++ arrives 3 10 3 ++ arrives 4 10 4

-- and its sends: one up to byte 72, and four
abbrev first_send_of_p : List ℕ
first_send_of_p = sent ++ claims 4 10 4

abbrev other_sends : List ℕ
other_sends = sent ++ claims 2 2 1 ++ sent ++ claims 3 10 2 ++ sent ++ claims 3 10 3 ++ sent ++ idle

-- a recording and what it should be judged to be
record Case : Type 0 where
  bytes : List ℕ
  judged : Judged

abbrev is : List ℕ → Judged → Case
is bytes j = record { bytes = bytes; judged = j }

cases : List Case
cases =
    -- the listing, a plan alone, and an arrival that is refused
    is (loaded ++ first_send_of_p ++ other_sends) (Good 5)
    ∷ is tree_p (Good 0)
    ∷ is (tree_p ++ arrives 1 10 9 ++ arrives 4 11 9 ++ sent ++ idle) (Good 1)
    -- another class, length, tag; nothing for a packet, a packet for nothing; the second claim
    ∷ is (loaded ++ sent ++ claims 3 10 4) (FalseAt 64)
    ∷ is (loaded ++ sent ++ claims 4 9 4) (FalseAt 64)
    ∷ is (loaded ++ sent ++ claims 4 10 5) (FalseAt 64)
    ∷ is (loaded ++ sent ++ idle ++ other_sends) (FalseAt 64)
    ∷ is (tree_p ++ sent ++ claims 4 10 4) (FalseAt 32)
    ∷ is (loaded ++ first_send_of_p ++ sent ++ claims 3 10 2) (FalseAt 73)
    -- a send at the very end, before a send, before an unknown kind
    ∷ is (loaded ++ sent) (Stop (refusal_at Unpaired 63))
    ∷ is (loaded ++ sent ++ sent ++ idle) (Stop (refusal_at Unpaired 63))
    ∷ is (loaded ++ sent ++ (0 ∷ [])) (Stop (refusal_at Unpaired 63))
    -- a claim first, and after a claim; one that is cut, after a send and first
    ∷ is (tree_p ++ idle) (Stop (refusal_at Unpaired 31))
    ∷ is (loaded ++ first_send_of_p ++ idle) (Stop (refusal_at Unpaired 72))
    ∷ is (loaded ++ sent ++ (18 ∷ 4 ∷ 0 ∷ [])) (Stop (refusal_at Cut 64))
    ∷ is (tree_p ++ (18 ∷ 4 ∷ 0 ∷ [])) (Stop (refusal_at Cut 31))
    -- an unknown kind, a cut arrival, plans that are refused
    ∷ is (loaded ++ first_send_of_p ++ (2 ∷ [])) (Stop (refusal_at UnknownKind 72))
    ∷ is (tree_p ++ (16 ∷ 4 ∷ [])) (Stop (refusal_at Cut 31))
    ∷ is [] (Stop (refusal_at Cut 0))
    ∷ is (0 ∷ []) (Stop (refusal_at NoClass 0))
    ∷ []

computed : map (λ (c : Case). judged_of c.bytes) cases ≡ map (λ (c : Case). c.judged) cases
unfolding cases onward takes part_of judged_of claim_in claim_after entry_of entry_at
    first_broken class_by_class has with without cost_of
    is_class is_leaf is_inner is_child of_child children_sum children_weight has_child sum_to some_to all_weights longest_cost all_longest round_size
    too_many bad_parent bad_weight bad_longest too_heavy childless no_class
    record_kind kind_at missing unknown cut body_of rule_of late_rule bad_rule class_at record_checks rule_first after follows_of tree_of passes
    in_row passed_over deciding_checks plan_of
    table queue_of climbs at_or_below waits some_waits some_below set_of upward round_active active_child active_weight weight_sum
    surplus_at has_surplus kind_of quota_in quota due hands_down opened_leaf opened_inner opened_account opened_accounts next_kind next_size
    if_active active_weights active_longest active_size main_size resized_accounts opened_with
    ready first_from next_leaf given_up turns_off paid books_after sent_state turn_of sends trace_of
    no_leaf bad_length full arrival_of send_of
computed = refl
