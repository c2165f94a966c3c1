-- The bound is met exactly under both size rules, and what it asks is needed: runs from fresh links, computed from the definitions (R257).
-- Demand 2.
use mathlib.Core.Bool.{Bool, true, false, ◌&&◌}
use mathlib.Core.List.{List, [], ◌∷◌, ◌++◌}
use mathlib.Core.Path.{◌≡◌, refl, sym, ap, ◌∙◌}
use Prim.Native.Nat.{ℕ, ◌<◌}
use native.Mathlib.Omega.{arith}
use lib.Dec.{leb}
use lib.ListN.{take, drop, take-append-drop}
use borrow.Author.Tests.{leb-true}
use Rattle.std.specs.Prelude.{Ok}
use Rattle.checks.specs.Check.{first_broken, class_by_class}
use Rattle.checks.proofs.Laws.{not_true_and_false}
use Rattle.sets.specs.Set.{has, with, without}
use Rattle.units.specs.Cost.{cost_of}
use Rattle.tree.specs.declared.Tree.{Tree}
use Rattle.tree.specs.declared.Class.{Class}
use Rattle.tree.specs.Class.{no_tree, ruled, added, is_class, is_leaf, is_inner, is_child, of_child, children_sum, children_weight, has_child}
use Rattle.tree.specs.Rules.{too_many, bad_parent, bad_weight, bad_longest, too_heavy, childless, no_class, closing_checks, ClassesPass, PlanRules}
use Rattle.tree.specs.Sum.{sum_to, some_to, table}
use Rattle.tree.specs.Size.{round_size, all_weights, all_longest, longest_cost}
use Rattle.tree.proofs.Growth.{Grown, none_grown, added_grown, none_pass, classes_kept}
use Rattle.tree.proofs.AfterEnd.{closing_yes}
use Rattle.tree.proofs.Classes.{both_true}
use Rattle.state.specs.Queue.{held_of, queue_of}
use Rattle.state.specs.State.{fresh_link}
use Rattle.state.proofs.Meaning.{shaped_fresh}
use Rattle.tree.specs.Below.{climbs, at_or_below}
use Rattle.rules.specs.Active.{waits, some_waits, some_below, set_of, upward, round_active, active_child, active_weight, weight_sum}
use Rattle.rules.specs.Opening.{surplus_at, has_surplus, kind_of, quota_in, quota, due, hands_down, opened_leaf, opened_inner, opened_account}
use Rattle.rules.specs.Opening.{opened_accounts, next_kind, next_size, resized_accounts, opened_with}
use Rattle.rules.specs.Sizes.{if_active, active_weights, active_longest, active_size, main_size}
use Rattle.rules.specs.Sending.{ready, first_from, next_leaf, given_up, turns_off, paid, books_after, sent_state, Turn, turn_of, sends, trace_of}
use Rattle.calls.specs.Arrival.{no_leaf, bad_length, full, arrival_of}
use Rattle.calls.specs.Send.{send_of}
use Rattle.calls.specs.Run.{Call, arrival, send, Made, link_left, Moment, closed, called, run_of, made_in, Run, moments_of}
use Rattle.calls.proofs.FreshLinks.{fresh_sound}
use Rattle.calls.proofs.Runs.{rules_run}
use Rattle.siblings.specs.Siblings.{Siblings, Closings, Holding, charges_of, most_apart, apart}

-- ---- the trees: leaves below the root, under rule 1 or rule 2

leaf : ℕ → ℕ → Class
leaf weight longest = record { parent = 0; weight = record { 0 = weight }; longest = longest; leaf = true }

one : Bool → Tree
one follows = added (ruled no_tree follows) (leaf 1 200)

-- class 1 of weight 1 and longest 200, class 2 of weight 2 and longest 300
pub two : Bool → Tree
two follows = added (one follows) (leaf 2 300)

-- beside them class 3
pub three : Bool → Tree
three follows = added (two follows) (leaf 1 2_000)

-- a tree with one leaf more
more_grown : (t : Tree) (w n : ℕ) → Grown t → t.count < 63 → Grown (added t (leaf w n))
unfolding leaf
more_grown t w n g few = added_grown t (leaf w n) g few (λ f. absurd (not_true_and_false refl f))

grown_two : (follows : Bool) → Grown (two follows)
unfolding two one leaf
grown_two follows =
    more_grown (one follows) 2 300 (more_grown (ruled no_tree follows) 1 200 (none_grown follows) (omega arith)) (omega arith)

grown_three : (follows : Bool) → Grown (three follows)
unfolding three two one leaf
grown_three follows = more_grown (two follows) 1 2_000 (grown_two follows) (omega arith)

passes_two : (follows : Bool) → ClassesPass (two follows)
unfolding leaf one two bad_parent bad_weight bad_longest is_leaf has with
passes_two follows =
    classes_kept (one follows) (leaf 2 300) (classes_kept (ruled no_tree follows) (leaf 1 200) (none_pass follows) refl refl refl) refl refl
    refl

passes_three : (follows : Bool) → ClassesPass (three follows)
unfolding leaf one two three bad_parent bad_weight bad_longest is_leaf has with
passes_three follows = classes_kept (two follows) (leaf 1 2_000) (passes_two follows) refl refl refl

ends : (follows : Bool) → (first_broken (closing_checks (two follows)) ≡ Ok tt) × (first_broken (closing_checks (three follows)) ≡ Ok tt)
    × (too_many (two follows) ≡ false) × (too_many (three follows) ≡ false)
unfolding leaf one two three too_many first_broken class_by_class too_heavy childless no_class is_inner is_class is_leaf is_child of_child children_sum
    children_weight has_child sum_to some_to has with
ends follows = (refl, refl, refl, refl)

rules_two : (follows : Bool) → PlanRules (two follows)
rules_two follows = record {
  few = (ends follows).2;
  each = passes_two follows;
  closing = closing_yes (two follows) (ends follows).0;
  unset = (grown_two follows).unset;
}

rules_three : (follows : Bool) → PlanRules (three follows)
rules_three follows = record {
  few = (ends follows).3;
  each = passes_three follows;
  closing = closing_yes (three follows) (ends follows).1;
  unset = (grown_three follows).unset;
}

are_siblings : (follows : Bool) → Siblings (two follows) 1 2 × Siblings (three follows) 1 2
unfolding leaf one two three is_leaf has with
are_siblings follows = (record { leaf = refl; other = refl; parent = refl }, record { leaf = refl; other = refl; parent = refl })

-- ---- the runs

abbrev pub to : ℕ → ℕ → Call
to class length = arrival class (record { length = length; tag = 0 })

-- the run by the rules with some calls, from a fresh link; it is a run of the library
unfoldable pub run : Tree → List Call → List Made
run t calls = made_in (run_of true (fresh_link t) calls)

run_is_one : (t : Tree) (calls : List Call) → PlanRules t → Run (fresh_link t) (run t calls)
unfolding run
run_is_one t calls rules = rules_run calls (fresh_link t) (shaped_fresh t) (fresh_sound t rules)

unfoldable moments : Tree → List Call → List Moment
moments t calls = moments_of (fresh_link t) (run t calls)

-- whether a round closed at the first of some moments
abbrev closes : List Moment → Bool
closes [] = false
closes (closed turn ∷ later) = true
closes (called m ∷ later) = false

closed_first : (xs : List Moment) → closes xs ≡ true → (turn : Turn) × (xs ≡ closed turn ∷ drop 1 xs)
closed_first [] e = absurd (not_true_and_false e refl)
closed_first (closed turn ∷ later) e = (turn, refl)
closed_first (called m ∷ later) e = absurd (not_true_and_false e refl)

-- so many moments on, a round closed
closing_at : (n : ℕ) (xs : List Moment) → closes (drop n xs) ≡ true → (turn : Turn) × (xs ≡ take n xs ++ (closed turn ∷ drop 1 (drop n xs)))
closing_at n xs e =
    let c = closed_first (drop n xs) e in
    (c.0, sym (take-append-drop n xs) ∙ ap (λ (later : List Moment). take n xs ++ later) c.1)

-- and again, so many moments after it
closings_at : (n m : ℕ) (xs : List Moment) → closes (drop n xs) ≡ true → closes (drop m (drop 1 (drop n xs))) ≡ true → Closings xs
closings_at n m xs e f =
    let later = drop 1 (drop n xs) in
    let c = closing_at n xs e in
    let d = closing_at m later f in
    record {
      before = take n xs;
      first = c.0;
      between = take m later;
      second = d.0;
      after = drop 1 (drop m later);
      order = c.1 ∙ ap (λ (ys : List Moment). take n xs ++ (closed c.0 ∷ ys)) d.1;
    }

-- whether class i holds a packet at each of some moments
unfoldable holds_all : ℕ → List Moment → Bool
holds_all i [] = true
holds_all i (closed turn ∷ moments) = holds_all i moments
holds_all i (called m ∷ moments) = leb 1 (held_of (link_left m) i) && holds_all i moments

holding : (i : ℕ) (moments : List Moment) → holds_all i moments ≡ true → Holding i moments
unfolding holds_all Holding
holding i [] e = tt
holding i (closed turn ∷ moments) e = holding i moments e
holding i (called m ∷ moments) e =
    let b = both_true (leb 1 (held_of (link_left m) i)) (holds_all i moments) e in
    (leb-true 1 (held_of (link_left m) i) b.0, holding i moments b.1)

-- all packets wait from the start: two rounds bring class 1 to a balance of 223 and class 2 to 0, two more class 1 to 0 and class 2 to 323
abbrev pub drifting : List Call
drifting =
    to 1 100 ∷ to 1 200 ∷ to 1 89 ∷ to 1 89 ∷ to 1 200 ∷ to 2 159 ∷ to 2 159 ∷ to 2 140 ∷ to 2 140 ∷ to 2 107 ∷ to 2 300 ∷ send ∷ send
    ∷ send ∷ send ∷ send ∷ send ∷ send ∷ send ∷ send ∷ send ∷ []

-- class 3 waits for more than it has; class 1 sends twice, then class 2 its only packet, and another comes before the round closes
abbrev pub emptied : List Call
emptied = to 3 2_000 ∷ to 1 200 ∷ to 1 200 ∷ to 1 200 ∷ to 2 60 ∷ send ∷ send ∷ send ∷ to 2 60 ∷ send ∷ []

-- two closings between which both leaves hold a packet and are exactly as far apart as they may be: class 1 was charged 450 and class 2
-- 131, and 450 × 2 less 131 × 1 is 769, which is 2 × 223 + 1 × 323
pub record Met (t : Tree) (i j : ℕ) (run : List Made) : Type 0 where
  pub siblings : Siblings t i j
  pub is : Run (fresh_link t) run
  pub closings : Closings (moments_of (fresh_link t) run)
  pub holding : Holding i closings.between
  pub other : Holding j closings.between
  pub charged : charges_of i closings.between ≡ 450
  pub charged_other : charges_of j closings.between ≡ 131
  pub met : apart t i j closings.between ≡ most_apart t i j

-- a closing and a later moment that is none: both hold a packet at every moment between and are further apart
pub record NoClosing (t : Tree) (i j : ℕ) (run : List Made) : Type 0 where
  pub siblings : Siblings t i j
  pub is : Run (fresh_link t) run
  pub before : List Moment
  pub first : Turn
  pub between : List Moment
  pub after : List Moment
  pub order : moments_of (fresh_link t) run ≡ before ++ (closed first ∷ between ++ after)
  pub holding : Holding i between
  pub other : Holding j between
  pub further : most_apart t i j < apart t i j between

-- two closings between which one leaf was empty: they are further apart
pub record OneEmpty (t : Tree) (i j : ℕ) (run : List Made) : Type 0 where
  pub siblings : Siblings t i j
  pub is : Run (fresh_link t) run
  pub closings : Closings (moments_of (fresh_link t) run)
  pub holding : Holding i closings.between
  pub further : most_apart t i j < apart t i j closings.between

-- ---- what has to be computed for each

module _
    (t : Tree) (calls : List Call) (n m : ℕ) (rules : PlanRules t) (are : Siblings t 1 2) (most : most_apart t 1 2 ≡ 769)
    (first : closes (drop n (moments t calls)) ≡ true) where
  -- the moments after the first closing
  later : List Moment
  later = drop 1 (drop n (moments t calls))

  met :
      closes (drop m later) ≡ true → holds_all 1 (take m later) ≡ true → holds_all 2 (take m later) ≡ true → charges_of 1 (take m later) ≡ 450
      → charges_of 2 (take m later) ≡ 131 → apart t 1 2 (take m later) ≡ 769 → Met t 1 2 (run t calls)
  unfolding moments later closings_at
  met second held other charged charged_other drift = record {
    siblings = are;
    is = run_is_one t calls rules;
    closings = closings_at n m (moments t calls) first second;
    holding = holding 1 (take m later) held;
    other = holding 2 (take m later) other;
    charged = charged;
    charged_other = charged_other;
    met = drift ∙ sym most;
  }

  no_closing : holds_all 1 (take m later) ≡ true → holds_all 2 (take m later) ≡ true → apart t 1 2 (take m later) ≡ 896
      → NoClosing t 1 2 (run t calls)
  unfolding moments later
  no_closing held other drift =
      let c = closing_at n (moments t calls) first in
      record {
        siblings = are;
        is = run_is_one t calls rules;
        before = take n (moments t calls);
        first = c.0;
        between = take m later;
        after = drop m later;
        order = c.1 ∙ ap (λ (xs : List Moment). take n (moments t calls) ++ (closed c.0 ∷ xs)) (sym (take-append-drop m later));
        holding = holding 1 (take m later) held;
        other = holding 2 (take m later) other;
        further = omega (arith, most, drift);
      }

  one_empty : closes (drop m later) ≡ true → holds_all 1 (take m later) ≡ true → apart t 1 2 (take m later) ≡ 812
      → OneEmpty t 1 2 (run t calls)
  unfolding moments later closings_at
  one_empty second held drift = record {
    siblings = are;
    is = run_is_one t calls rules;
    closings = closings_at n m (moments t calls) first second;
    holding = holding 1 (take m later) held;
    further = omega (arith, most, drift);
  }

-- The bound is met under rule 1 and under rule 2; under rule 2 with a third leaf too, which is silent, so that the size in force is not Q.
-- Two closings are needed, and so is that both hold a packet: else the two are 896 apart, which is 2 × 448, or 812, which is 2 × 448 less
-- 84, where the bound is 769, under both rules.
pub record Computed : Type 0 where
  pub met_1 : Met (two false) 1 2 (run (two false) drifting)
  pub met_2 : Met (two true) 1 2 (run (two true) drifting)
  pub met_active : Met (three true) 1 2 (run (three true) drifting)
  pub closing_1 : NoClosing (three false) 1 2 (run (three false) emptied)
  pub closing_2 : NoClosing (three true) 1 2 (run (three true) emptied)
  pub holding_1 : OneEmpty (three false) 1 2 (run (three false) emptied)
  pub holding_2 : OneEmpty (three true) 1 2 (run (three true) emptied)

-- by computing all the definitions named here
pub computed : Computed
unfolding leaf one two three run moments later holds_all round_size all_weights all_longest longest_cost sum_to some_to is_class
    is_leaf is_inner is_child has with without cost_of table queue_of climbs at_or_below waits some_waits some_below set_of upward round_active
    of_child children_sum active_child active_weight weight_sum surplus_at has_surplus kind_of quota_in quota due hands_down opened_leaf opened_inner
    opened_account opened_accounts next_kind next_size if_active active_weights active_longest active_size main_size resized_accounts opened_with
    ready first_from next_leaf given_up turns_off paid books_after sent_state turn_of sends trace_of first_broken no_leaf bad_length full arrival_of
    send_of run_of made_in moments_of charges_of
computed = record {
  met_1 = met (two false) drifting 18 5 (rules_two false) (are_siblings false).0 refl refl refl refl refl refl refl refl;
  met_2 = met (two true) drifting 18 5 (rules_two true) (are_siblings true).0 refl refl refl refl refl refl refl refl;
  met_active = met (three true) drifting 18 5 (rules_three true) (are_siblings true).1 refl refl refl refl refl refl refl refl;
  closing_1 = no_closing (three false) emptied 5 2 (rules_three false) (are_siblings false).1 refl refl refl refl refl;
  closing_2 = no_closing (three true) emptied 5 2 (rules_three true) (are_siblings true).1 refl refl refl refl refl;
  holding_1 = one_empty (three false) emptied 5 4 (rules_three false) (are_siblings false).1 refl refl refl refl refl;
  holding_2 = one_empty (three true) emptied 5 4 (rules_three true) (are_siblings true).1 refl refl refl refl refl;
}
