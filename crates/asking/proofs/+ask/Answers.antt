-- `ask` meets its contract: the class number falls at each call.
use mathlib.Core.Bool.{false}
use mathlib.Core.Path.{◌≡◌, sym, ap, subst, ◌∙◌}
use native.Mathlib.Omega.{arith}
use Prim.Native.Nat.{ℕ, ◌≤◌}
use Rattle.sets.specs.Set.{has}
use Rattle.tree.specs.Class.{parent_of}
use Rattle.shape.specs.Shape.{tree_in}
use Rattle.rules.specs.Active.{weight_sum}
use Rattle.rules.proofs.Fitting.{funds_small}
use Rattle.asking.specs.Lent.{Asker}
use Rattle.asking.proofs.Laws.{lent_at, number_of_lem, rules_in, childless_in, fit_of, lent_same, lower_of, asker_up, lent_root}
use Rattle.asking.proofs.Laws.{from_needs, lent_class}
use Rattle.asking.proofs.+ask.Goals as goal

pub has-requires : goal.has-requires
has-requires t c = number_of_lem _ _ _ _ _ _ _ c.requires.1 c.args.i c.args.leaf c.requires.2

pub returns-then-has : goal.returns-then-has
returns-then-has t c = λ x l a. lent_same x _ _ _ _ _ _ l c.args.i c.args.leaf a (sym c.has.ensures ∙ c.if-has.true)

pub own_sum-sum-requires : goal.own_sum-sum-requires
own_sum-sum-requires t c = (
  rules_in _ _ _ _ _ _ _ c.requires.1 c.args.i c.args.leaf c.requires.2,
  childless_in _ _ _ _ _ _ _ c.requires.1 c.args.i c.args.leaf c.requires.2,
)

pub take-requires : goal.take-requires
take-requires t c =
    let fit = fit_of _ _ _ _ _ _ _ c.requires.1 c.args.i c.args.leaf c.requires.2 in
    (omega arith, fit.many, omega (arith, funds_small _ 0 fit (omega arith)))

pub returns-then-i-eq0 : goal.returns-then-i-eq0
returns-then-i-eq0 t c =
    let z : c.args.i ≡ 0 = c.if-i-eq0.true in
    λ x l a.
    rw z
    (lent_root x _ _ _ _ _ _ l c.own_sum-sum.result.0 c.with.result _ _ _
    c.args.leaf (subst (λ (k : ℕ). Asker x k c.args.leaf) z a) (ap (has c.args.asked) (sym z) ∙ sym c.has.ensures
    ∙ c.if-has.false)
    (c.own_sum-sum.ensures ∙ ap (weight_sum (tree_in c.args.shape.now) c.args.active) z)
    c.take.ensures.0 c.take.ensures.1 c.with.ensures)

pub parent-p-requires : goal.parent-p-requires
parent-p-requires t c = number_of_lem _ _ _ _ _ _ _ c.requires.1 c.args.i c.args.leaf c.requires.2

pub ask-up-requires : goal.ask-up-requires
ask-up-requires t c =
    let low : 1 ≤ c.args.i = omega (arith, c.if-i-eq0.false) in
    let e : has c.args.asked c.args.i ≡ false = sym c.has.ensures ∙ c.if-has.false in
    let p : c.parent-p.result ≡ parent_of (tree_in c.args.shape.now) c.args.i = c.parent-p.ensures in
    let below = lower_of _ _ _ _ _ _ _ c.requires.1 c.args.i c.args.leaf c.requires.2 low e in (
      omega (arith, p, below, c.decreases),
      (
        c.requires.0,
        c.requires.1,
        subst (λ (k : ℕ). Asker c.requires.0 k false) (sym p) (asker_up _ _ _ _ _ _ _ c.requires.1 c.args.i
            c.args.leaf c.requires.2 low e),
      ),
    )

pub weight-requires : goal.weight-requires
weight-requires t c = (
  rules_in _ _ _ _ _ _ _ c.requires.1 c.args.i c.args.leaf c.requires.2,
  number_of_lem _ _ _ _ _ _ _ c.requires.1 c.args.i c.args.leaf c.requires.2,
)

pub take_from_parent-requires : goal.take_from_parent-requires
take_from_parent-requires t c =
    let low : 1 ≤ c.args.i = omega (arith, c.if-i-eq0.false) in
    let e : has c.args.asked c.args.i ≡ false = sym c.has.ensures ∙ c.if-has.false in
    let p : c.parent-p.result ≡ parent_of (tree_in c.args.shape.now) c.args.i = c.parent-p.ensures in
    let up = asker_up _ _ _ _ _ _ _ c.requires.1 c.args.i c.args.leaf c.requires.2 low e in
    let m = lent_at c.requires.0 c.parent-p.result _ p (c.ask-up.ensures c.requires.0
    c.requires.1 (subst (λ (k : ℕ). Asker c.requires.0 k false) (sym p) up)) in
    let f = from_needs _ _ _ _ _ _ _ c.requires.1 c.args.i c.args.leaf c.requires.2 low e c.ask-up.result _ _ _ m
    c.parent-p.result c.weight.result.0 p c.weight.ensures in
    (f.lower, f.number, f.many, f.wide, f.pays, f.fits)

pub with-requires-2 : goal.with-requires-2
with-requires-2 t c = number_of_lem _ _ _ _ _ _ _ c.requires.1 c.args.i c.args.leaf c.requires.2

pub returns : goal.returns
returns t c =
    let low : 1 ≤ c.args.i = omega (arith, c.if-i-eq0.false) in
    let e : has c.args.asked c.args.i ≡ false = sym c.has.ensures ∙ c.if-has.false in
    let p : c.parent-p.result ≡ parent_of (tree_in c.args.shape.now) c.args.i = c.parent-p.ensures in
    λ x l a.
    let up = asker_up x _ _ _ _ _ _ l c.args.i c.args.leaf a low e in
    let m = lent_at x c.parent-p.result _ p (c.ask-up.ensures x l (subst (λ
    (k : ℕ). Asker x k false) (sym p) up)) in
    lent_class x _ _ _ _ _ _ l c.args.i c.args.leaf a low e c.ask-up.result _ _ _ m c.parent-p.result
    c.weight.result.0 c.own_sum-sum.result.0 c.with-2.result _ _ _ p c.weight.ensures
    c.own_sum-sum.ensures c.take_from_parent.ensures c.with-2.ensures
