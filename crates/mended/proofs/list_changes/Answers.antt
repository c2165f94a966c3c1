-- `mend::list_changes` meets its contract: class by class upward, one entry where the weight is another.
use mathlib.Core.List.{List}
use mathlib.Core.Path.{◌≡◌, refl, sym, ap, ◌∙◌}
use Prim.Native.Nat.{ℕ, ◌+◌, ◌-◌, ◌≤◌}
use native.Mathlib.Omega.{arith}
use lib.ListN.{get_or}
use Rattle.units.specs.declared.Weight.{Weight}
use Rattle.tree.specs.Class.{no_weight}
use Rattle.mended.specs.declared.Changes.{Changes}
use Rattle.mended.specs.Answer.{changes_to, listed}
use Rattle.mended.proofs.Least.{mended_at}
use Rattle.mended.proofs.Listing.{changes_none, changes_few, list_step}
use Rattle.mended.proofs.list_changes.Goals as goal

pub loop-i-init : goal.loop-i-init
loop-i-init c = (omega arith, omega arith, c.no_changes-changes.ensures ∙ sym (ap listed (changes_none _)))

pub noted-changes-requires : goal.noted-changes-requires
noted-changes-requires c =
    omega (
      arith,
      ap (λ (x : Changes). x.count) c.loop-i.invariant.2,
      changes_few c.args.tree (c.loop-i.i - 1),
      c.loop-i-test.true,
      c.requires.0,
    )

pub loop-i-preserved : goal.loop-i-preserved
loop-i-preserved c =
    let i = c.loop-i.i in
    let u : i ≤ 63 = omega (arith, c.loop-i-test.true, c.requires.0) in
    let new = ap (λ (l : List Weight). (get_or l i no_weight).0) c.requires.1 ∙ mended_at c.args.tree i (omega arith) in (
      omega arith,
      omega (arith, c.loop-i-test.true),
      c.noted-changes.ensures ∙ list_step c.args.tree i c.loop-i.changes _ _ c.loop-i.invariant.0 u c.loop-i.invariant.2 refl new,
    )

pub returns-2 : goal.returns-2
returns-2 c =
    let i = c.loop-i.i in
    let u : i ≤ 63 = omega (arith, c.loop-i-test.true, c.requires.0) in
    let new = ap (λ (l : List Weight). (get_or l i no_weight).0) c.requires.1 ∙ mended_at c.args.tree i (omega arith) in
    let last : i + 1 - 1 ≡ c.args.tree.count = omega arith in
    c.noted-changes.ensures ∙ list_step c.args.tree i c.loop-i.changes _ _ c.loop-i.invariant.0 u c.loop-i.invariant.2 refl new
    ∙ ap (λ (n : ℕ). listed (changes_to c.args.tree n)) last
