-- `checkrun::next_window` meets its contract: a part stays within its window.
use mathlib.Core.Path.{◌≡◌, ap, ◌∙◌}
use Prim.Native.Nat.{◌+◌, ◌-◌, ◌≤◌}
use native.Mathlib.Omega.{arith}
use lib.ListN.{length, length-drop}
use Rattle.std.proofs.lemmas.Option.{IfSome_then}
use Rattle.std.proofs.lemmas.Result.{IfOk-weaker}
use Rattle.checkrun.specs.declared.At.{At}
use Rattle.claims.proofs.InParts.{part_within}
use Rattle.checkrun.proofs.next_window.Goals as goal

pub overflow_sub-check : goal.overflow_sub-check
overflow_sub-check g c = (part_within _ _ _ _ _ _ c.part-check.ensures).0

pub overflow_add-at : goal.overflow_add-at
overflow_add-at g c =
    omega (arith, part_within _ _ _ _ _ _ c.part-check.ensures, c.events_after-rest.ensures.result_bound)

pub returns : goal.returns
returns g c =
    let a = c.args in
    let inside = part_within _ _ _ _ _ _ c.part-check.ensures in
    let rest : length c.events_after-rest.result.now ≡ length a.window.now - a.at.from =
    ap length c.events_after-rest.ensures.result_value ∙ length-drop a.at.from a.window.now in
    let read : a.at.from ≤ length a.window.now = c.requires in
    let on : a.at.from + (c.part-check.result.place - a.at.check.place) ≤ length a.window.now =
    omega (arith, inside, rest, read) in
    IfOk-weaker c.stands.result _ _
    (λ o s. IfSome_then o s
    (λ (r : At) (e : r.from ≡ a.at.from + (c.part-check.result.place - a.at.check.place)). omega (arith, e, on)))
    c.stands.ensures
