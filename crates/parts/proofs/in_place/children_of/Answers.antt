-- `in_place::children_of` meets its contract.
use Rattle.checks.proofs.Laws.{not_true_and_false}
use Rattle.parts.proofs.in_place.children_of.Goals as goal

pub returns-then-not-sound : goal.returns-then-not-sound
returns-then-not-sound c = λ on. absurd (not_true_and_false on c.if-not-sound.true)

pub families-requires : goal.families-requires
families-requires c = c.requires c.if-not-sound.false

pub returns : goal.returns
returns c = λ on. c.families.ensures
