-- `asked::heed` meets its contract.
use mathlib.Core.Path.{sym, ◌∙◌}
use native.Mathlib.Omega.{arith}
use Rattle.words.proofs.Taken.{pair_written}
use Rattle.asked.proofs.heed.Goals as goal

pub requested-requires : goal.requested-requires
requested-requires c =
    let some = c.in-Some in
    omega (arith, (pair_written c.args.word.now some.class some.request (sym c.read_pair.ensures ∙ some.is)).few)
