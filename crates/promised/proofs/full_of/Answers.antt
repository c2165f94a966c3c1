-- `promised::full_of` meets its contract.
use Rattle.units.specs.Cost.{cost_of}
use borrow.Author.Rules.{rules}
use Rattle.promised.proofs.full_of.Goals as goal

pub overflow_mul-result : goal.overflow_mul-result
unfolding cost_of
overflow_mul-result c = search rules
