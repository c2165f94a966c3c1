-- `Link::fresh` meets its contract: the accounts are those of `no_account`, but the root's. Demand 2.
use Rattle.std.proofs.Common.{◌≡◌, ℕ, ap}
use Rattle.tree.specs.Size.{round_size}
use Rattle.state.proofs.Link.fresh.Goals as goal

pub returns : goal.returns
returns c =
    let q : c.round_size-size.result
    ≡ record { 0 = round_size c.args.tree } = ap (λ (n : ℕ). record { 0 = n }) c.round_size-size.ensures in
    rw (c.none-none.ensures, c.none.ensures, q)
