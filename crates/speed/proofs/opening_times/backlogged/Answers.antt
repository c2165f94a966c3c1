-- `speed::opening::backlogged` meets its contract.
use Rattle.std.proofs.Common.{◌≡◌, ℕ, ◌+◌, ◌-◌, sym, ap, subst, ◌∙◌, arith}
use Rattle.calls.specs.Arrival.{Arrives}
use Rattle.speed.specs.Openings.{one_packet, offered_to}
use Rattle.speed.proofs.Steps.{offered_none, offered_more}
use Rattle.speed.proofs.opening_times.backlogged.Goals as goal

pub loop-i-init : goal.loop-i-init
loop-i-init c = (c.requires, offered_none c.args.link)

pub loop-i-preserved : goal.loop-i-preserved
loop-i-preserved c =
    let s = c.loop-i.invariant in
    let at : c.loop-i.i ≡ c.loop-i.i - 1 + 1 = omega arith in
    let after : c.loop-i.i + 1 - 1 ≡ c.loop-i.i - 1 + 1 = omega arith in (
      c.arrive-answered.ensures.keeps s.0,
      offered_more c.args.link c.loop-i.link (c.loop-i.i - 1) c.arrive-answered.result s.0 s.1
          (subst (λ (k : ℕ). Arrives c.loop-i.link k one_packet c.arrive-answered.result) at c.arrive-answered.ensures)
          ∙ ap (λ (k : ℕ). offered_to k c.args.link) (sym after),
    )

pub returns : goal.returns
returns c =
    let e : c.loop-i.i - 1 ≡ 63 = omega (arith, c.loop-i-test.false) in
    (c.loop-i.invariant.1 ∙ ap (λ (n : ℕ). offered_to n c.args.link) e, c.loop-i.invariant.0)
