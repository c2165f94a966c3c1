-- M1 to M12 and the listing: what the definitions give is what the table has. Demands 1 and 2.
use mathlib.Core.List.{map}
use mathlib.Core.Path.{◌≡◌, refl}
use Rattle.checks.specs.Check.{first_broken, class_by_class}
use Rattle.sets.specs.Set.{has, with, without}
use Rattle.units.specs.Cost.{cost_of}
use Rattle.tree.specs.Class.{is_class, is_leaf, is_inner, is_child, of_child, children_sum, children_weight, has_child}
use Rattle.tree.specs.Sum.{sum_to, some_to, table}
use Rattle.tree.specs.Rules.{too_many, bad_parent, bad_weight, bad_longest, too_heavy, childless, no_class}
use Rattle.tree.specs.Size.{all_weights, longest_cost, all_longest, round_size}
use Rattle.rules.specs.Sizes.{if_active, active_weights, active_longest, active_size, main_size}
use Rattle.plan.specs.Kind.{record_kind}
use Rattle.plan.specs.Record.{kind_at, missing, unknown, cut, body_of, rule_of, late_rule, bad_rule, class_at}
use Rattle.plan.specs.Reader.{record_checks, rule_first, after, follows_of, tree_of, passes, in_row, passed_over, deciding_checks, plan_of}
use Rattle.state.specs.Queue.{bytes_in, queue_of}
use Rattle.tree.specs.Below.{way_up, changed_up, climbs, at_or_below}
use Rattle.rules.specs.Active.{waits, some_waits, some_below, set_of, upward, round_active, active_child, active_weight, weight_sum}
use Rattle.rules.specs.Opening.{surplus_at, has_surplus, kind_of, quota_in, quota, due, hands_down, opened_leaf, opened_inner, opened_account}
use Rattle.rules.specs.Opening.{opened_accounts, next_kind, next_size, resized_accounts, opened_with}
use Rattle.rules.specs.Sending.{ready, first_from, next_leaf, given_up, turns_off, paid, books_after, sent_state, turn_of, sends, trace_of}
use Rattle.calls.specs.Arrival.{no_leaf, bad_length, full, arrival_of}
use Rattle.calls.specs.Send.{send_of}
use Rattle.calls.specs.Run.{run_of, made_in, closed_in}
use Rattle.marked.specs.Run.{read_of, accounts_of, opening_of, classes_in, calls_in, exchanges_of, AllRight}
use Rattle.marked.specs.Table.{marked_cases}
use Rattle.marked.proofs.Computed.{exchanges_on, found, expected, all_right}

-- by computing all the definitions named here
computed : map found marked_cases ≡ map expected marked_cases
unfolding marked_cases found expected read_of accounts_of opening_of classes_in calls_in exchanges_of exchanges_on
    first_broken class_by_class has with without cost_of
    is_class is_leaf is_inner is_child of_child children_sum children_weight has_child sum_to some_to all_weights longest_cost all_longest round_size
    too_many bad_parent bad_weight bad_longest too_heavy childless no_class
    record_kind kind_at missing unknown cut body_of rule_of late_rule bad_rule class_at record_checks rule_first after follows_of tree_of passes
    in_row passed_over deciding_checks plan_of
    table queue_of bytes_in way_up changed_up climbs at_or_below waits some_waits some_below set_of upward round_active
    active_child active_weight weight_sum
    surplus_at has_surplus kind_of quota_in quota due hands_down opened_leaf opened_inner opened_account opened_accounts next_kind next_size
    if_active active_weights active_longest active_size main_size resized_accounts opened_with
    ready first_from next_leaf given_up turns_off paid books_after sent_state turn_of sends trace_of
    no_leaf bad_length full arrival_of send_of run_of made_in closed_in
computed = refl

-- each is right of every run of the library
pub marked : AllRight marked_cases
marked = all_right marked_cases computed
