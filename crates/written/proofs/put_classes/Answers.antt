-- `written::put_classes` meets its contract: one class after the other.
use mathlib.Core.Path.{◌≡◌, refl, ap, ◌∙◌}
use Prim.Native.Nat.{ℕ, ◌+◌, ◌-◌, ◌≤◌}
use native.Mathlib.Omega.{arith}
use lib.ListN.{length, length-append}
use Rattle.digits.proofs.Laying.{laid_same, laid_as}
use Rattle.tree.specs.declared.Tree.{Tree}
use Rattle.written.specs.Bytes.{class_bytes, classes_bytes}
use Rattle.written.proofs.Lengths.{classes_last, classes_none, classes_grow}
use Rattle.written.proofs.Laying.{laid_none}
use Rattle.written.proofs.put_classes.Goals as goal

last_length : (t : Tree) (i : ℕ) → 1 ≤ i → length (classes_bytes t i) ≡ length (classes_bytes t (i - 1)) + length (class_bytes t i)
last_length t i h = ap length (classes_last t i h) ∙ length-append (classes_bytes t (i - 1)) (class_bytes t i)

pub loop-i-init : goal.loop-i-init
loop-i-init c =
    let a = c.args in
    (omega arith, omega arith, laid_same _ _ _ _ _ _ (classes_none a.tree) (laid_none a.at a.out.now), refl)

pub put_class-next-requires : goal.put_class-next-requires
put_class-next-requires c =
    let i = c.loop-i.i in
    let inv = c.loop-i.invariant in
    let within = c.loop-i-test.true in (
      omega (arith, within, c.requires.0),
      omega (
        arith,
        last_length c.args.tree i inv.0,
        classes_grow c.args.tree i c.args.n within,
        c.requires.1,
        inv.2.0,
        inv.3,
      ),
    )

pub loop-i-preserved : goal.loop-i-preserved
loop-i-preserved c =
    let i = c.loop-i.i in
    let inv = c.loop-i.invariant in
    let t = c.args.tree in
    let e : i + 1 - 1 ≡ i = omega arith in
    let within = c.loop-i-test.true in
    let grow = classes_grow t i c.args.n within in (
      omega arith,
      omega (arith, within),
      laid_as _ _ _ _ _ _ _ _ _ (ap (classes_bytes t) e ∙ classes_last t i inv.0)
          (omega (arith, last_length t i inv.0, grow, c.requires.1))
          inv.2 c.put_class-next.ensures,
      c.put_class-next.auto.out ∙ inv.3,
    )

pub returns-2 : goal.returns-2
returns-2 c =
    let i = c.loop-i.i in
    let inv = c.loop-i.invariant in
    let t = c.args.tree in
    let last : c.args.n ≡ i = omega arith in
    let grow = classes_grow t i c.args.n c.loop-i-test.true in
    laid_as _ _ _ _ _ _ _ _ _ (ap (classes_bytes t) last ∙ classes_last t i inv.0)
    (omega (arith, last_length t i inv.0, grow, c.requires.1))
    inv.2 c.put_class-next.ensures
