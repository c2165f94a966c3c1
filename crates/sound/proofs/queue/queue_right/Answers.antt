-- `queue::queue_right` meets its contract: place by place, and not in the order of the queue.
use Rattle.std.proofs.Common.{◌≡◌, ◌+◌, ◌-◌, ◌*◌, ◌≤◌, sym, ◌∙◌, arith, le-ltb, eq-eqb, eqb-true}
use Rattle.checks.proofs.Laws.{exactly_no}
use Rattle.tree.specs.Sum.{sum_to}
use Rattle.sound.specs.Steps.{lengths_cost}
use Rattle.sound.proofs.Counts.{cost_none}
use Rattle.sound.proofs.Places.{seen_place, most_each, each_most, fours_sum, places_cost, each_low, each_queue, queue_each}
use Rattle.sound.proofs.queue.queue_right.Goals as goal

pub returns-then-v-eq0 : goal.returns-then-v-eq0
returns-then-v-eq0 c =
    let z = c.if-v-eq0.true in
    let a = c.args in
    let none : lengths_cost a.lengths.now a.v.class a.v.start a.v.held ≡ 0 = rw z (cost_none _ _ _) in
    record {
      sound = λ e. record {
        low = λ j u. absurd (omega (arith, z));
        high = λ j u. absurd (omega (arith, z));
        bytes = eqb-true _ _ e ∙ sym none;
      };
      complete = λ p. eq-eqb _ _ (p.bytes ∙ none);
    }

pub returns-else-all-longest : goal.returns-else-all-longest
returns-else-all-longest c =
    let some : 1 ≤ c.args.v.held = omega (arith, c.if-v-eq0.false) in
    let sees = rw (c.from.ensures, c.from-2.ensures) at c.seen_in-all.ensures in
    rw (le-ltb _ _ c.if-all-longest.false) (exactly_no (λ p.
    let low : 1 ≤ c.args.longest = omega (arith, p.low 0 some, p.high 0 some) in
    omega (
      arith,
      c.if-all-longest.false,
      sees.0,
      each_most (seen_place c.args.v c.args.lengths.now) c.args.longest low
          (queue_each c.args.v c.args.lengths.now c.requires.1 c.requires.2 c.args.longest c.requires.3 low p),
    )))

pub returns-then-all-longest : goal.returns-then-all-longest
returns-then-all-longest c =
    let v = c.args.v in
    let lengths = c.args.lengths.now in
    let x = seen_place v lengths in
    let sees = rw (c.from.ensures, c.from-2.ensures) at c.seen_in-all.ensures in
    let each = most_each x c.args.longest (omega (arith, sees.0, c.if-all-longest.true)) in
    let sum : c.seen_in-all.result.high * 256 + c.seen_in-all.result.low ≡ sum_to (λ k. x (k - 1) - 59) 32 =
    sees.1 ∙ fours_sum x c.args.longest c.requires.3 each
    in
    let whole = c.seen_in-all.result.high * 256 + c.seen_in-all.result.low + 84 * v.held in
    rw (c.from-then-all-longest.ensures, c.from-then-all-longest-2.ensures, c.from-then-all-longest-3.ensures)
    (record {
      sound =
          λ e.
          each_queue v lengths c.requires.1 c.requires.2 c.args.longest c.requires.3 each
          (omega (arith, eqb-true v.bytes whole e, sum));
      complete = λ p. eq-eqb v.bytes whole (omega (
        arith,
        p.bytes,
        sum,
        places_cost v lengths c.requires.1 c.requires.2
            (each_low v lengths c.requires.1 c.requires.2 c.args.longest c.requires.3 each),
      ));
    })
