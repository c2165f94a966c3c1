-- `claims::check` meets its contract.
use mathlib.Core.Bool.{true}
use mathlib.Core.List.{List}
use mathlib.Core.Path.{◌≡◌, sym, ap, subst, ◌∙◌}
use Prim.Native.Nat.{ℕ}
use native.Mathlib.Omega.{arith}
use lib.ListN.{drop}
use borrow.Author.Tests.{not-true, not-false}
use Rattle.sound.specs.Sound.{SoundLink}
use Rattle.claims.specs.declared.Checked.{Checked}
use Rattle.claims.specs.Recording.{way_from, part_of}
use Rattle.claims.specs.Parts.{check_begins}
use Rattle.claims.proofs.Whole.{begun_ended, begun_sound, judged_on}
use Rattle.claims.proofs.check.Goals as goal
use Rattle.claims.proofs.check.Goals.{Else-not-begun}

on : (e : Else-not-begun) → (check_begins e.args.input.now).more ≡ true
on e = sym (ap (λ (c : Checked). c.more) e.begin-begun.ensures) ∙ not-false _ e.if-not-begun.false

pub returns-then-not-begun : goal.returns-then-not-begun
returns-then-not-begun c =
    let s = c.args.input.now in
    ap (λ (x : Checked). x.judged) c.begin-begun.ensures
    ∙ begun_ended s (sym (ap (λ (x : Checked). x.more) c.begin-begun.ensures) ∙ not-true _ c.if-not-begun.true)

pub entries-checked-requires : goal.entries-checked-requires
entries-checked-requires c =
    let s = c.args.input.now in
    let z = c.events_after-rest.ensures.result_bound in
    (subst (λ (x : Checked). SoundLink x.link) (sym c.begin-begun.ensures) (begun_sound s (on (goal.at.entries-checked-requires c).Else-not-begun)), z, omega (arith, z))

pub returns : goal.returns
returns c =
    let s = c.args.input.now in
    ap (λ (x : Checked). x.judged) c.entries-checked.ensures.gives
    ∙ ap (λ (rest : List ℕ). (part_of true (way_from c.begin-begun.result.link c.begin-begun.result.place 0 rest)).at.judged)
    c.events_after-rest.ensures.result_value
    ∙ ap (λ (x : Checked). (part_of true (way_from x.link x.place 0 (drop x.place s))).at.judged) c.begin-begun.ensures
    ∙ sym (judged_on s (on (goal.at.returns c).Else-not-begun))
