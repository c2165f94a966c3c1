-- `lent_arrays::known` meets its contract.
use Rattle.answers.proofs.Lent.{lent_shaped}
use Rattle.answers.proofs.lent_arrays.known.Goals as goal

pub returns : goal.returns
returns c = λ t s. lent_shaped _ _ t s c.told-balance c.told-residual c.told-start c.told-held c.told-lengths c.told-tags c.told-marks c.told-packets c.told-bytes
