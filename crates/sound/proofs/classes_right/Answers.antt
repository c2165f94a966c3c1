-- `sound::classes_right` meets its contract.
use Rattle.std.proofs.Common.{◌≡◌, ℕ, zero, suc, ◌-◌, ◌*◌, ◌%◌, ◌<◌, ◌≤◌, Bool, not, eqb, List, [], get_or, sym, refl, ap, ◌∙◌, subst, arith, rules, eq-eqb, eqb-true}
use native.Mathlib.Decide.{dec_le}
use Rattle.checks.specs.Check.{Exactly}
use Rattle.checks.proofs.Laws.{exactly_no, not_true_and_false}
use Rattle.sets.specs.Set.{has}
use Rattle.tree.specs.declared.Tree.{Tree}
use Rattle.tree.specs.Class.{parent_of, longest_of, is_leaf, of_child}
use Rattle.tree.specs.Rules.{PlanRules}
use Rattle.tree.specs.Size.{most_size}
use Rattle.tree.proofs.Classes.{root_no_class}
use Rattle.tree.proofs.Down.{added_start, added_more}
use Rattle.tree.proofs.Rules.{parent_below}
use Rattle.shape.specs.Shape.{tree_in}
use Rattle.shape.proofs.Read.{longest_most}
use Rattle.state.specs.declared.Account.{Account}
use Rattle.state.specs.declared.Link.{Link}
use Rattle.state.specs.Account.{account_of, funds_of, zip_accounts}
use Rattle.state.specs.Queue.{start_of, held_of, slot}
use Rattle.sound.specs.declared.View.{View}
use Rattle.sound.specs.Sound.{total}
use Rattle.sound.specs.Steps.{parents_after, added_after, packets_of, bytes_of}
use Rattle.sound.specs.Steps.{view_of, link_in, ClassRight}
use Rattle.sound.proofs.Counts.{child_adds, child_adds_no, packets_fit, bytes_fit}
use Rattle.sound.proofs.Kin.{child_told}
use Rattle.sound.proofs.Totals.{below_none, below_step, total_below}
use Rattle.sound.proofs.classes_right.Invariants.{number}
use Rattle.sound.proofs.classes_right.Goals as goal
use Rattle.sound.proofs.classes_right.Goals.{After-class_right, After-parent-up, Else-not-class_right, In-loop-i}

-- the link that the arguments make up
abbrev made : (c : After-class_right) → List ℕ → List ℕ → ℕ → Link
made c tags marks charged =
    let a = c.args in
    link_in a.shape.now a.size a.active a.place a.balance.now a.residual.now a.start.now a.held.now
    a.lengths.now tags marks a.packets.now a.bytes.now charged

-- the class at hand
abbrev class_at : (c : After-class_right) → ℕ
class_at c = c.loop-i.i - 1

within : (c : In-loop-i) → c.loop-i.i - 1 < 64
within c = omega (arith, c.loop-i.invariant.0, c.loop-i-test.true)

-- the numbers that were read of it
abbrev view_at : (c : After-class_right) → View
view_at c =
    let a = c.args in
    let i = c.loop-i.i - 1 in
    record {
      class = i;
      place = a.place;
      size = a.size;
      leaf = c.has.result;
      active = c.has-in-loop-i.result;
      child = not (eqb c.both.result 0);
      start = get_or a.start.now i 0;
      held = get_or a.held.now i 0;
      first = get_or a.lengths.now c.slot.result 0;
      account = c.account_of-account.result;
      packets = get_or a.packets.now i 0;
      bytes = get_or a.bytes.now i 0;
      waiting = get_or c.loop-i.waiting i 0;
      cost = get_or c.loop-i.cost i 0;
    }

-- numbers that are a class's, one by one, are together
view_by_parts : (l : Link) (i place' waiting cost : ℕ) (leaf active child : Bool) (account : Account)
    → leaf ≡ is_leaf l.tree i → active ≡ has l.round.active i → child ≡ has (parents_after l.tree l.round.active i) i
    → place' ≡ slot i (start_of l i % 32) → account ≡ account_of l.round.accounts i
    → waiting ≡ added_after l.tree (packets_of l) i i → cost ≡ added_after l.tree (bytes_of l) i i
    → ◌≡◌ {A = View} (record {
      class = i;
      place = l.round.place;
      size = l.round.size;
      leaf = leaf;
      active = active;
      child = child;
      start = start_of l i;
      held = held_of l i;
      first = get_or l.lengths place' 0;
      account = account;
      packets = packets_of l i;
      bytes = bytes_of l i;
      waiting = waiting;
      cost = cost;
    }) (view_of l i)
unfolding view_of
view_by_parts l i place' waiting cost leaf active child account e a c p s w x = rw (e, a, c, p, s, w, x) refl

-- the numbers that were read are those of the class
view_is : (c : After-class_right) (tags marks : List ℕ) (charged : ℕ)
    → view_at c ≡ view_of (made c tags marks charged) (class_at c)
unfolding is_leaf
view_is c tags marks charged =
    let n = c.loop-i.i in
    let low : 1 ≤ n = omega (arith, c.loop-i-test.true) in
    let l = made c tags marks charged in
    let told =
    child_told l c.requires.0 c.args.children.now c.requires.1 (n - 1) (within (goal.at.After-class_right c).In-loop-i)
    (λ k a u. c.loop-i.invariant.5 tags marks charged k (omega (arith, a)) u) c.both.result c.both.ensures
    in
    let leaf = c.has.ensures ∙ ap (λ (s : ℕ). has s (n - 1)) c.leaves-leaves.ensures in
    let lies = c.slot.ensures.0 ∙ ap (λ (s : ℕ). slot (n - 1) (s % 32)) c.from.ensures in
    view_by_parts l (n - 1) c.slot.result _ _ _ _ _ _ leaf c.has-in-loop-i.ensures told lies
    c.account_of-account.ensures ((c.loop-i.invariant.3 low).at (n - 1) (within (goal.at.After-class_right c).In-loop-i))
    ((c.loop-i.invariant.4 low).at (n - 1) (within (goal.at.After-class_right c).In-loop-i))

-- what is told of a class is told of the numbers that were read of it
told_of : (r : Bool) (lengths : List ℕ) (v w : View) (a b : ℕ) → v ≡ w → a ≡ b → Exactly r (ClassRight v lengths a)
    → Exactly r (ClassRight w lengths b)
told_of r lengths v w a b e f told =
    subst (λ (x : View). Exactly r (ClassRight x lengths b)) e (subst (λ (x : ℕ). Exactly r (ClassRight v lengths x)) f told)

decided : (c : After-class_right) (tags marks : List ℕ) (charged : ℕ)
    → Exactly c.class_right.result
    (ClassRight (view_of (made c tags marks charged) (class_at c)) (made c tags marks charged).lengths
    (longest_of (made c tags marks charged).tree (class_at c)))
decided c tags marks charged =
    told_of c.class_right.result _ _ _ _ _ (view_is c tags marks charged) c.longest.ensures c.class_right.ensures

-- its account
funds_read : (c : After-class_right)
    → funds_of (view_at c).account ≡ funds_of (account_of (made c [] [] 0).round.accounts (class_at c))
unfolding view_of
funds_read c = ap (λ (v : View). funds_of v.account) (view_is c [] [] 0)

-- so no account holds more than there is
funds_fit : (c : Else-not-class_right)
    → funds_of (account_of (made (goal.at.Else-not-class_right c).After-class_right [] [] 0).round.accounts (class_at (goal.at.Else-not-class_right c).After-class_right)) ≤ 2 * most_size
unfolding view_of
funds_fit c =
    let right = ((decided (goal.at.Else-not-class_right c).After-class_right [] [] 0).sound c.if-not-class_right.false).view in
    omega (arith, right.balance, right.residual, c.requires.3)

-- the parent of any class number is one
parent_number : (t : Tree) (i : ℕ) → PlanRules t → i < 64 → parent_of t i < 64
parent_number t zero rules u = omega (arith, ((rules.unset.at 0 u).past (root_no_class t)).parent)
parent_number t (suc i) rules u = omega (arith, parent_below t (suc i) rules (omega arith) u)

-- what holds of every class from n on and of the one before it
down_more : (P : ℕ → Type 0) (n : ℕ) → 1 ≤ n → ((k : ℕ) → n ≤ k → k < 64 → P k) → P (n - 1) → (k : ℕ) → n - 1 ≤ k → k < 64 → P k
down_more P n l h p k m u = go (dec_le n k)
  where
    go : Dec (n ≤ k) → P k
    go (yes m') = h k m' u
    go (no m') = let e : n - 1 ≡ k = omega arith in subst P e p

-- the classes from the one at hand on are right
from_here : (c : Else-not-class_right) (tags marks : List ℕ) (charged k : ℕ) → class_at (goal.at.Else-not-class_right c).After-class_right ≤ k → k < 64
    → ClassRight (view_of (made (goal.at.Else-not-class_right c).After-class_right tags marks charged) k) (made (goal.at.Else-not-class_right c).After-class_right tags marks charged).lengths
    (longest_of (made (goal.at.Else-not-class_right c).After-class_right tags marks charged).tree k)
from_here c tags marks charged =
    down_more _ c.loop-i.i (omega (arith, c.loop-i-test.true)) (c.loop-i.invariant.5 tags marks charged)
    ((decided (goal.at.Else-not-class_right c).After-class_right tags marks charged).sound c.if-not-class_right.false)

-- its parent is a class number
parent_up : (c : After-parent-up) → c.parent-up.result < 64
parent_up c =
    omega (arith, c.parent-up.ensures, parent_number (tree_in c.args.shape.now) (c.loop-i.i - 1) c.requires.0 (within (goal.at.After-parent-up c).In-loop-i))

pub loop-i-init : goal.loop-i-init
loop-i-init c =
    let a = c.args in
    let t = tree_in a.shape.now in (
      omega arith,
      omega (arith, total_below (zip_accounts a.balance.now a.residual.now)),
      omega arith,
      λ l. added_start 0 number 63 64 (of_child t (λ j. get_or a.packets.now j 0)) refl,
      λ l. added_start 0 number 63 64 (of_child t (λ j. get_or a.bytes.now j 0)) refl,
      λ tags marks charged k l u. absurd (omega (arith, l, u)),
    )

pub account_of-account-requires : goal.account_of-account-requires
account_of-account-requires c = (within c, c.requires.2)

pub has-requires : goal.has-requires
has-requires c = within (goal.at.has-requires c).In-loop-i

pub has-requires-in-loop-i : goal.has-requires-in-loop-i
has-requires-in-loop-i c = within (goal.at.has-requires-in-loop-i c).In-loop-i

pub offset_bounds-children-i : goal.offset_bounds-children-i
offset_bounds-children-i c = omega (arith, within (goal.at.offset_bounds-children-i c).In-loop-i)

pub bounds-children-i : goal.bounds-children-i
bounds-children-i c = within (goal.at.bounds-children-i c).In-loop-i

pub bounds-start-i : goal.bounds-start-i
bounds-start-i c = within (goal.at.bounds-start-i c).In-loop-i

pub bounds-held-i : goal.bounds-held-i
bounds-held-i c = within (goal.at.bounds-held-i c).In-loop-i

pub bounds-start-i-in-loop-i : goal.bounds-start-i-in-loop-i
bounds-start-i-in-loop-i c = within (goal.at.bounds-start-i-in-loop-i c).In-loop-i

pub slot-requires : goal.slot-requires
slot-requires c = (within (goal.at.slot-requires c).In-loop-i, omega arith)

pub offset_bounds-lengths-slot : goal.offset_bounds-lengths-slot
offset_bounds-lengths-slot c = omega (arith, c.slot.ensures.1)

pub bounds-lengths-slot : goal.bounds-lengths-slot
bounds-lengths-slot c = c.slot.ensures.1

pub offset_bounds-packets-i : goal.offset_bounds-packets-i
offset_bounds-packets-i c = omega (arith, within (goal.at.offset_bounds-packets-i c).In-loop-i)

pub bounds-packets-i : goal.bounds-packets-i
bounds-packets-i c = within (goal.at.bounds-packets-i c).In-loop-i

pub offset_bounds-bytes-i : goal.offset_bounds-bytes-i
offset_bounds-bytes-i c = omega (arith, within (goal.at.offset_bounds-bytes-i c).In-loop-i)

pub bounds-bytes-i : goal.bounds-bytes-i
bounds-bytes-i c = within (goal.at.bounds-bytes-i c).In-loop-i

pub offset_bounds-waiting-i : goal.offset_bounds-waiting-i
offset_bounds-waiting-i c = omega (arith, within (goal.at.offset_bounds-waiting-i c).In-loop-i)

pub bounds-waiting-i : goal.bounds-waiting-i
bounds-waiting-i c = within (goal.at.bounds-waiting-i c).In-loop-i

pub offset_bounds-cost-i : goal.offset_bounds-cost-i
offset_bounds-cost-i c = omega (arith, within (goal.at.offset_bounds-cost-i c).In-loop-i)

pub bounds-cost-i : goal.bounds-cost-i
bounds-cost-i c = within (goal.at.bounds-cost-i c).In-loop-i

pub longest-requires : goal.longest-requires
longest-requires c =
    (c.requires.0, within (goal.at.longest-requires c).In-loop-i)

pub class_right-requires : goal.class_right-requires
class_right-requires c = (
  within (goal.at.class_right-requires c).In-loop-i,
  omega (arith, c.longest.ensures, longest_most (tree_in c.args.shape.now) c.requires.0 (c.loop-i.i - 1) (within (goal.at.class_right-requires c).In-loop-i)),
)

pub returns-then-not-class_right : goal.returns-then-not-class_right
returns-then-not-class_right c = λ tags marks charged.
    exactly_no (λ p.
    not_true_and_false ((decided (goal.at.returns-then-not-class_right c).After-class_right tags marks charged).complete (p.at (class_at (goal.at.returns-then-not-class_right c).After-class_right) (within (goal.at.returns-then-not-class_right c).In-loop-i))) c.if-not-class_right.true)

pub funds-requires : goal.funds-requires
funds-requires c = omega (arith, funds_read (goal.at.funds-requires c).After-class_right, funds_fit (goal.at.funds-requires c).Else-not-class_right)

pub plus-sum-requires : goal.plus-sum-requires
plus-sum-requires c =
    omega (arith, c.funds.ensures, funds_read (goal.at.plus-sum-requires c).After-class_right, funds_fit (goal.at.plus-sum-requires c).Else-not-class_right, c.loop-i.invariant.2)

pub parent-up-requires : goal.parent-up-requires
parent-up-requires c = within (goal.at.parent-up-requires c).In-loop-i

pub offset_bounds-waiting-up : goal.offset_bounds-waiting-up
offset_bounds-waiting-up c = omega (arith, parent_up c)

pub bounds-waiting-up : goal.bounds-waiting-up
bounds-waiting-up c = parent_up c

pub overflow_add-waiting : goal.overflow_add-waiting
overflow_add-waiting c =
    let up = c.parent-up.result in
    let low : 1 ≤ c.loop-i.i = omega (arith, c.loop-i-test.true) in
    let fit = packets_fit (made (goal.at.overflow_add-waiting c).After-class_right [] [] 0) c.requires.0 (c.loop-i.i - 1) (within (goal.at.overflow_add-waiting c).In-loop-i) (from_here (goal.at.overflow_add-waiting c).Else-not-class_right [] [] 0) up in
    omega (arith, fit, (c.loop-i.invariant.3 low).at up (parent_up (goal.at.overflow_add-waiting c).After-parent-up))

pub bounds-waiting-up-in-loop-i : goal.bounds-waiting-up-in-loop-i
bounds-waiting-up-in-loop-i c = parent_up (goal.at.bounds-waiting-up-in-loop-i c).After-parent-up

pub offset_bounds-cost-up : goal.offset_bounds-cost-up
offset_bounds-cost-up c = omega (arith, parent_up (goal.at.offset_bounds-cost-up c).After-parent-up)

pub bounds-cost-up : goal.bounds-cost-up
bounds-cost-up c = parent_up (goal.at.bounds-cost-up c).After-parent-up

pub overflow_add-cost : goal.overflow_add-cost
overflow_add-cost c =
    let up = c.parent-up.result in
    let low : 1 ≤ c.loop-i.i = omega (arith, c.loop-i-test.true) in
    let fit = bytes_fit (made (goal.at.overflow_add-cost c).After-class_right [] [] 0) c.requires.0 (c.loop-i.i - 1) (within (goal.at.overflow_add-cost c).In-loop-i) (from_here (goal.at.overflow_add-cost c).Else-not-class_right [] [] 0) up in
    omega (arith, fit, (c.loop-i.invariant.4 low).at up (parent_up (goal.at.overflow_add-cost c).After-parent-up))

pub bounds-cost-up-in-loop-i : goal.bounds-cost-up-in-loop-i
bounds-cost-up-in-loop-i c = parent_up (goal.at.bounds-cost-up-in-loop-i c).After-parent-up

pub loop-i-preserved : goal.loop-i-preserved
loop-i-preserved c =
    let a = c.args in
    let t = tree_in a.shape.now in
    let accounts = zip_accounts a.balance.now a.residual.now in
    let n = c.loop-i.i in
    let i = n - 1 in
    let up = c.parent-up.result in
    let low : 1 ≤ n = omega (arith, c.loop-i-test.true) in
    let few : i ≤ 63 = omega (arith, c.loop-i.invariant.0) in
    let e' : parent_of t i ≡ up = sym c.parent-up.ensures in
    let packets : ℕ → ℕ = λ j. get_or a.packets.now j 0 in
    let bytes : ℕ → ℕ = λ j. get_or a.bytes.now j 0 in (
      omega (arith, c.loop-i.invariant.0),
      omega (arith, c.plus-sum.ensures, c.funds.ensures, funds_read (goal.at.loop-i-preserved c).After-class_right, below_step accounts n low, c.loop-i.invariant.1),
      omega (arith, c.plus-sum.ensures, c.funds.ensures, funds_read (goal.at.loop-i-preserved c).After-class_right, funds_fit (goal.at.loop-i-preserved c).Else-not-class_right, c.loop-i.invariant.2),
      λ l. added_more 0 number 63 64 (of_child t packets) c.loop-i.waiting i up (packets i) _ (c.loop-i.invariant.3 low) l few (parent_up (goal.at.loop-i-preserved c).After-parent-up)
          (child_adds t packets i up e') (λ p ne. child_adds_no t packets i p (λ z. ne (sym e' ∙ z))) refl,
      λ l. added_more 0 number 63 64 (of_child t bytes) c.loop-i.cost i up (bytes i) _ (c.loop-i.invariant.4 low) l few (parent_up (goal.at.loop-i-preserved c).After-parent-up)
          (child_adds t bytes i up e') (λ p ne. child_adds_no t bytes i p (λ z. ne (sym e' ∙ z))) refl,
      λ tags marks charged. from_here (goal.at.loop-i-preserved c).Else-not-class_right tags marks charged,
    )

pub returns : goal.returns
returns c = λ tags marks charged.
    let a = c.args in
    let accounts = zip_accounts a.balance.now a.residual.now in
    let e : c.loop-i.i ≡ 0 = omega (arith, c.loop-i-test.false) in
    let all : c.loop-i.sum.0 ≡ total accounts = omega (arith, rw e at c.loop-i.invariant.1, below_none accounts) in
    record {
      sound = λ z. record { at = λ k u. c.loop-i.invariant.5 tags marks charged k (omega (arith, e)) u; adds = sym all ∙ eqb-true _ _ z };
      complete = λ p. eq-eqb _ _ (all ∙ p.adds);
    }
