-- `checkrun::after_plan` meets its contract: the plan stands within its window.
use mathlib.Core.Path.{◌≡◌, ap}
use native.Mathlib.Omega.{arith}
use Rattle.std.proofs.lemmas.Option.{IfSome_then}
use Rattle.std.proofs.lemmas.Result.{IfOk-weaker}
use Rattle.checkrun.specs.declared.At.{At}
use Rattle.claims.specs.declared.Checked.{Checked}
use Rattle.claims.proofs.Whole.{begun_inside}
use Rattle.checkrun.proofs.after_plan.Goals as goal

pub returns : goal.returns
returns g c =
    let place = ap (λ (x : Checked). x.place) c.begin-check.ensures in
    let inside = begun_inside c.args.window.now in
    IfOk-weaker c.stands.result _ _
    (λ o s. IfSome_then o s (λ (r : At) (e : r.from ≡ c.begin-check.result.place). omega (arith, e, place, inside)))
    c.stands.ensures
