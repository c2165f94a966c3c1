-- A call of the second engine is refused, if at all, with one of the 22 that docs/refusals.md tells of, on any record (R4). Demand 1.
use mathlib.Core.Bool.{Bool}
use mathlib.Core.Path.{◌≡◌, ap}
use native.Mathlib.Omega.{arith}
use Rattle.std.specs.Prelude.{Ok, Err}
use Rattle.checks.specs.Check.{first_broken, Verdict, Listed}
use Rattle.checks.proofs.Listed.{first_listed}
use Rattle.tree.specs.declared.Tree.{Tree}
use Rattle.state.specs.State.{meaning}
use Rattle.calls.specs.Run.{Call, arrival, send}
use Rattle.calls.specs.Send.{send_checks}
use Rattle.calls.proofs.Listed.{arrival_of_listed, fresh_of_listed}
use Rattle.published.specs.declared.Second.{Second}
use Rattle.published.specs.declared.SecondFresh.{SecondFresh}
use Rattle.published.specs.Second.{send_given}
use Rattle.published.specs.Contract.{MakesSecond, MadeSecond, made_second, made_by, call_made, MeetsSecond}

abbrev pub second_verdict : MadeSecond → Verdict
second_verdict (made_second (arrival class p) answer after) = answer.verdict
second_verdict (made_second send answer after) = answer.verdict

call_listed : (sound : Bool) (l : Second) (call : Call) → Listed (second_verdict (made_by sound l call))
call_listed sound l (arrival class p) = arrival_of_listed sound l.link class p
call_listed sound l send =
    go (first_broken (send_checks sound (meaning l.link)))
    (first_listed (send_checks sound (meaning l.link)) ((omega arith, omega arith), ((omega arith, omega arith), tt)))
  where
    go : (v : Verdict) → Listed v → Listed (send_given v l).answer.verdict
    go (Ok _) h = tt
    go (Err e) h = h

pub second_listed : {l : Second} {m : MadeSecond} → MeetsSecond l m → Listed (second_verdict m)
second_listed {l} {m} a =
    let same : second_verdict m ≡ second_verdict (made_by a.sound l (call_made m)) = ap second_verdict a.answer in
    rw same (call_listed a.sound l (call_made m))

pub second_fresh_listed : {t : Tree} {r : SecondFresh} → MakesSecond t r → Listed r.verdict
second_fresh_listed {t} {r} a = rw a.answer (fresh_of_listed a.obeys t)
