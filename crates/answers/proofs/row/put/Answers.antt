-- `row::put` meets its contract.
use Rattle.digits.proofs.Laying.{laid_byte}
use Rattle.answers.proofs.row.put.Goals as goal

pub returns : goal.returns
returns c = let a = c.args in laid_byte a.at a.n a.out.now c.requires
