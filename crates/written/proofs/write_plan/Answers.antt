-- `written::write_plan` meets its contract.
use mathlib.Core.Path.{ap, ◌∙◌}
use Prim.Native.Nat.{ℕ, ◌≤◌}
use native.Mathlib.Omega.{arith}
use Rattle.checks.specs.declared.Refusal.TheVariants.{NoRoom}
use Rattle.checks.specs.Check.{refusal_at}
use Rattle.std.specs.Prelude.{Err}
use Rattle.written.specs.Writing.{nothing_written}
use Rattle.written.proofs.Lengths.{few_classes}
use Rattle.written.proofs.Shape.{arrays}
use Rattle.written.proofs.Laying.{writes_no_plan, writes_short, writes_all, counted}
use Rattle.written.proofs.write_plan.Goals as goal
use Rattle.written.proofs.write_plan.Goals.{Else-not-is_plan}

few : (c : Else-not-is_plan) → c.args.tree.count ≤ 63
few c =
    few_classes c.args.tree (c.is_plan.ensures.sound c.if-not-is_plan.false)

pub returns-then-not-is_plan : goal.returns-then-not-is_plan
returns-then-not-is_plan c =
    let w =
    writes_no_plan c.args.tree c.args.out.now c.is_plan.ensures (arrays c.args.tree _ c.well_formed.0)
    c.refuse.result c.if-not-is_plan.true c.refuse.ensures
    in record { writes = w; prefix_len = counted w }

pub plan_length-needed-requires : goal.plan_length-needed-requires
plan_length-needed-requires c = few c

pub returns-then-out-needed : goal.returns-then-out-needed
returns-then-out-needed c =
    let w =
    writes_short c.args.tree c.args.out.now c.is_plan.ensures (arrays c.args.tree _ c.well_formed.0)
    c.refuse-then-out-needed.result c.if-not-is_plan.false
    (omega (arith, c.if-out-needed.true, c.plan_length-needed.ensures)) (c.refuse-then-out-needed.ensures ∙ ap (λ (k : ℕ). nothing_written (Err (refusal_at NoRoom k)))
    c.plan_length-needed.ensures)
    in record { writes = w; prefix_len = counted w }

pub put_plan-used-requires : goal.put_plan-used-requires
put_plan-used-requires c =
    (few (goal.at.put_plan-used-requires c).Else-not-is_plan, omega (arith, c.if-out-needed.false, c.plan_length-needed.ensures))

pub returns : goal.returns
returns c =
    let w =
    writes_all c.args.tree c.args.out.now c.is_plan.ensures (arrays c.args.tree _ c.well_formed.0)
    c.put_plan-used.result _ c.if-not-is_plan.false
    (omega (arith, c.if-out-needed.false, c.plan_length-needed.ensures)) c.put_plan-used.ensures
    in record { writes = w; prefix_len = counted w }
