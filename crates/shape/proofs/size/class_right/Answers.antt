-- `size::class_right` meets its contract.
use mathlib.Core.Bool.{Bool, true, false}
use mathlib.Core.Path.{◌≡◌, refl, sym, ap, ◌∙◌}
use Prim.Native.Nat.{ℕ}
use native.Mathlib.Omega.{arith}
use Rattle.std.specs.Prelude.{is_some, IfSome}
use Rattle.std.specs.Bool.{then_some}
use Rattle.sets.specs.Set.{has}
use Rattle.checks.specs.Check.{Exactly}
use Rattle.checks.proofs.Laws.{exactly_yes, exactly_no, not_true_and_false}
use Rattle.tree.specs.declared.Tree.{Tree}
use Rattle.tree.specs.Class.{is_leaf}
use Rattle.tree.specs.Size.{longest_cost}
use Rattle.shape.proofs.size.class_right.Goals as goal
use Rattle.shape.proofs.size.class_right.Goals.{After-has-leaf, then-bad_parent-via-then-bad_parent, then-bad_parent-via-else-bad_parent+then-bad_weight, then-bad_parent-via-else-bad_parent+else-bad_weight+then-bad_longest}

-- what was asked of the set of leaves
leaf_is : (c : After-has-leaf) (t : Tree) → t.leaves ≡ c.args.leaves → is_leaf t c.args.i ≡ c.has-leaf.result
unfolding is_leaf
leaf_is c t e = ap (λ (s : ℕ). has s c.args.i) e ∙ sym c.has-leaf.ensures

-- a number is given exactly where a claim holds
given : {P : Type 0} (b : Bool) (n m : ℕ) → Exactly b P → n ≡ m → Exactly (is_some (then_some b n)) P × IfSome (then_some b n) (λ k. k ≡ m)
given true n m e same = (record { sound = e.sound; complete = e.complete }, same)
given false n m e same = (record { sound = e.sound; complete = e.complete }, tt)

pub returns-then-bad_parent : goal.returns-then-bad_parent
returns-then-bad_parent c = λ t n.
    let leaf = leaf_is (goal.at.returns-then-bad_parent c).After-has-leaf t n.leaves_are in (
      exactly_no (λ p. elim c.then-bad_parent.branch [
        | then-bad_parent-via-then-bad_parent w ↦
            not_true_and_false (sym (c.bad_parent.ensures t n.leaves_are n.parent_is) ∙ w.if-bad_parent.true) p.parent
        | then-bad_parent-via-else-bad_parent+then-bad_weight w ↦
            not_true_and_false (sym (w.bad_weight.ensures t _ n.weight_is) ∙ w.if-bad_weight.true) p.weight
        | then-bad_parent-via-else-bad_parent+else-bad_weight+then-bad_longest w ↦
            not_true_and_false (sym (w.bad_longest.ensures.0 t _ leaf n.longest_is) ∙ w.if-bad_longest.true) p.longest
      ]),
      tt,
    )

-- a leaf's longest packet fits its number
pub overflow_cast-longest : goal.overflow_cast-longest
overflow_cast-longest c = omega (arith, c.bad_longest.ensures.1 c.if-bad_longest.false c.if-leaf.true)

pub returns-then-leaf : goal.returns-then-leaf
unfolding longest_cost
returns-then-leaf c = λ t n.
    let is : is_leaf t _ ≡ true = leaf_is (goal.at.returns-then-leaf c).After-has-leaf t n.leaves_are ∙ c.if-leaf.true in (
      exactly_yes (record {
        parent = sym (c.bad_parent.ensures t n.leaves_are n.parent_is) ∙ c.if-bad_parent.false;
        weight = sym (c.bad_weight.ensures t _ n.weight_is) ∙ c.if-bad_weight.false;
        longest = sym (c.bad_longest.ensures.0 t _ (is ∙ sym c.if-leaf.true) n.longest_is) ∙ c.if-bad_longest.false;
        inner = λ g. absurd (not_true_and_false is g);
      }),
      c.cost.ensures ∙ rw (is, n.longest_is) refl,
    )

pub returns : goal.returns
unfolding longest_cost
returns c = λ t n.
    let leaf = leaf_is (goal.at.returns c).After-has-leaf t n.leaves_are in
    let inner : is_leaf t _ ≡ false = leaf ∙ c.if-leaf.false in
    let said = c.inner_right.ensures in
    rw c.then_some.ensures
    (given c.inner_right.result 0 _ (record {
      sound = λ e. record {
        parent = sym (c.bad_parent.ensures t n.leaves_are n.parent_is) ∙ c.if-bad_parent.false;
        weight = sym (c.bad_weight.ensures t _ n.weight_is) ∙ c.if-bad_weight.false;
        longest = sym (c.bad_longest.ensures.0 t _ leaf n.longest_is) ∙ c.if-bad_longest.false;
        inner = λ f. rw (n.weight_is, n.longest_is) (said.sound e);
      };
      complete = λ q. said.complete (rw (n.weight_is, n.longest_is) at (q.inner inner));
    }) (rw inner refl))
