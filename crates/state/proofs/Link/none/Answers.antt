-- `Link::none` meets its contract: every account is `no_account`, and the tree `no_tree`. Demand 2.
use Rattle.state.proofs.Link.none.Goals as goal

pub returns : goal.returns
returns c = rw (c.none-none.ensures, c.none.ensures, c.none-2.ensures)
