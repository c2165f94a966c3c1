-- `written::put_plan` meets its contract: the rule record, the class records, the end record.
use mathlib.Core.Path.{◌≡◌}
use Prim.Native.Nat.{◌+◌, ◌≤◌}
use native.Mathlib.Omega.{arith}
use lib.ListN.{length, length-append}
use Rattle.digits.proofs.Laying.{laid_byte, laid_then, laid_as}
use Rattle.written.specs.Bytes.{rule_bytes, classes_bytes, plan_bytes}
use Rattle.written.proofs.Lengths.{rule_length, plan_length, plan_as}
use Rattle.written.proofs.put_plan.Goals as goal
use Rattle.written.proofs.put_plan.Goals.{After-slice_known-3-1}

-- where the class records end, and that the buffer is longer
end_of : (c : After-slice_known-3-1)
    → c.put_classes-end.result + 1 ≡ length (plan_bytes
    c.args.tree)
end_of c =
    let t = c.args.tree in
    omega (arith, plan_length t, rule_length t.follows, c.put_rule-start.ensures.0, c.put_classes-end.ensures.0)

laid_within : (c : After-slice_known-3-1)
    → length (plan_bytes c.args.tree)
    ≤ length c.put_classes-end.new.out
laid_within c =
    omega (arith, c.requires.1, c.put_classes-end.auto.out, c.put_rule-start.auto.out)

pub put_rule-start-requires : goal.put_rule-start-requires
put_rule-start-requires c =
    omega (arith, plan_length c.args.tree, rule_length c.args.tree.follows, c.requires.1)

pub put_classes-end-requires : goal.put_classes-end-requires
put_classes-end-requires c =
    let t = c.args.tree in
    (c.requires.0, omega (arith, plan_length t, rule_length t.follows, c.requires.1, c.put_rule-start.ensures.0, c.put_rule-start.auto.out))

pub bounds-out-end : goal.bounds-out-end
bounds-out-end c = omega (arith, end_of c, laid_within c)

pub overflow_add-result : goal.overflow_add-result
overflow_add-result c = omega (arith, end_of c, c.well_formed.1.0)

pub returns : goal.returns
returns c =
    let t = c.args.tree in
    let both = laid_then _ _ _ _ _ _ _ _ (omega (arith, plan_length t, rule_length t.follows, c.requires.1)) c.put_rule-start.ensures
    c.put_classes-end.ensures in
    let end = laid_byte c.put_classes-end.result 0 c.put_classes-end.new.out (omega (arith, end_of c, laid_within c)) in
    laid_as _ _ _ _ _ _ _ _ _ (plan_as t) (omega (
      arith,
      length-append (rule_bytes t.follows) (classes_bytes t t.count),
      plan_length t,
      rule_length t.follows,
      c.requires.1,
    )) both end
