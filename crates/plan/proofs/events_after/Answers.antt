-- `plan::events_after` meets its contract.
use mathlib.Core.Path.{◌≡◌, sym, ap, ◌∙◌}
use Prim.Native.Nat.{◌-◌, ◌≤◌}
use native.Mathlib.Omega.{arith}
use lib.ListN.{length, take, drop, drop_of_length-le, length-drop}
use lib.Seq.{take_all, take-nil, drop-length}
use Rattle.plan.proofs.events_after.Goals as goal

pub returns-then-input-used : goal.returns-then-input-used
returns-then-input-used c =
    let s = c.args.input.now in
    let past : length s ≤ c.args.used = omega arith in
    let same : take (length s - length s) (drop (length s) s) ≡ drop c.args.used s =
    rw (drop-length s) (take-nil (length s - length s) ∙ sym (drop_of_length-le s past))
    in record { result_value = same; result_bound = omega (arith, ap length same, length-drop c.args.used s, c.ranges.used) }

pub returns : goal.returns
returns c =
    let s = c.args.input.now in
    let same = take_all (length s - c.args.used) (drop c.args.used s) (omega (arith, length-drop c.args.used s)) in record { result_value = same; result_bound = omega (arith, ap length same, length-drop c.args.used s, c.ranges.used) }
