-- `sound::size_right` meets its contract.
use Rattle.std.proofs.Common.{arith, eq-eqb, eqb-true, le-leb, leb-true}
use Rattle.checks.proofs.Laws.{not_true_and_false}
use Rattle.sound.proofs.size_right.Goals as goal

pub returns-then-follows : goal.returns-then-follows
returns-then-follows c = record {
  sound = λ e. record { most = leb-true _ _ e; same = λ f. absurd (not_true_and_false c.if-follows.true f) };
  complete = λ p. le-leb _ _ p.most;
}

pub returns-else-follows : goal.returns-else-follows
returns-else-follows c = record {
  sound = λ e.
      let a = c.args in
      let same = eqb-true a.size.0 a.whole.0 e in
      record { most = omega (arith, same); same = λ f. same };
  complete = λ p. eq-eqb _ _ (p.same c.if-follows.false);
}
