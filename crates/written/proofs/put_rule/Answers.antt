-- `written::put_rule` meets its contract.
use Rattle.written.proofs.Laying.{laid_none}
use Rattle.written.proofs.put_rule.Goals as goal

pub returns-then-not-follows : goal.returns-then-not-follows
returns-then-not-follows c = rw c.if-not-follows.true (laid_none 0 _)
