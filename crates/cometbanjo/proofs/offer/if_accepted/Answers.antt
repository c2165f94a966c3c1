-- `offer::if_accepted` meets its contract: the answer of the arrival, and the promise for the bytes that it answers.
use Rattle.cometbanjo.proofs.Calling.{offers_by, offers_none, accepted_rules, accepted_wait}
use Rattle.cometbanjo.proofs.offer.if_accepted.Goals as goal

pub tree_of-tree-requires : goal.tree_of-tree-requires
tree_of-tree-requires c = accepted_rules c.arrive-answer.ensures c.in-Ok.is

pub returns-in-Ok : goal.returns-in-Ok
returns-in-Ok c =
    let arrives = c.arrive-answer.ensures in
    offers_by arrives _ (accepted_wait arrives c.tree_of-tree.ensures c.in-Ok.is c.longest_wait-promise.result
    c.longest_wait-promise.ensures)

pub returns : goal.returns
returns c = offers_none c.arrive-answer.ensures c.in_default.is
