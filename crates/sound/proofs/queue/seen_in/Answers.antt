-- `queue::seen_in` meets its contract.
use Rattle.std.proofs.Common.{◌≡◌, ◌<◌, sym, refl, ◌∙◌, arith}
use Rattle.tree.proofs.Sums.{sum_none}
use Rattle.sound.specs.Steps.{seen_at, four_over}
use Rattle.sound.proofs.Places.{most_none, most_more, over_more}
use Rattle.sound.proofs.queue.seen_in.Goals as goal
use Rattle.sound.proofs.queue.seen_in.Goals.{After-above_of-over}

pub loop-k-init : goal.loop-k-init
loop-k-init c = (omega arith, sym (most_none _), sym (sum_none _), omega arith, omega arith)

-- what is above 59 of four fits 16 bits
above_fits : (c : After-above_of-over) → c.above_of-over.result < 65_536
above_fits c = omega (arith, c.above_of-over.ensures)

pub overflow_add-low : goal.overflow_add-low
overflow_add-low c = omega (arith, c.loop-k.invariant.3)

pub overflow_add-high : goal.overflow_add-high
overflow_add-high c = omega (arith, above_fits c, c.loop-k.invariant.4)

pub loop-k-preserved : goal.loop-k-preserved
loop-k-preserved c =
    let x = seen_at c.args.lengths.now c.args.class c.args.start c.args.held in
    let k = c.loop-k.k in
    let a = c.seen_at-a.ensures in
    let b = c.seen_at-b.ensures in
    let c' = c.seen_at-c.ensures in
    let d' = c.seen_at-d.ensures in
    let over : c.above_of-over.result ≡ four_over x k = c.above_of-over.ensures ∙ rw (a, b, c', d') refl in (
      omega arith,
      c.max-most.ensures
          ∙ rw (c.max-in-loop-k-2.ensures, c.max-in-loop-k.ensures, c.max.ensures, a, b, c', d', c.loop-k.invariant.1)
          (sym (most_more x k)),
      omega (arith, c.loop-k.invariant.2, over, over_more x k),
      omega (arith, c.loop-k.invariant.3),
      omega (arith, above_fits c, c.loop-k.invariant.4),
    )

pub returns : goal.returns
returns c =
    let e : c.loop-k.k ≡ 8 = omega (arith, c.loop-k.invariant.0, c.loop-k-test.false) in
    (c.loop-k.invariant.1 ∙ rw e refl, c.loop-k.invariant.2 ∙ rw e refl)
