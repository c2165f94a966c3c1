-- `speed::opening::root_left` meets its contract.
use Rattle.std.proofs.Common.{ap, ◌∙◌}
use Rattle.tree.specs.declared.Tree.{Tree}
use Rattle.state.specs.declared.Link.{Link}
use Rattle.state.specs.Account.{balance_of}
use Rattle.speed.specs.Openings.{opened_times, root_left}
use Rattle.speed.proofs.Steps.{offered_tree}
use Rattle.speed.proofs.opening_times.root_left.Goals as goal

pub backlogged-requires : goal.backlogged-requires
backlogged-requires c = c.requires.0

pub open_times-after-requires : goal.open_times-after-requires
open_times-after-requires c =
    let l = c.args.link in (
      c.backlogged.ensures.1,
      ap (λ (x : Link). x.tree.follows) c.backlogged.ensures.0 ∙ ap (λ (t : Tree). t.follows) (offered_tree 63 l) ∙
          c.requires.1,
    )

pub returns : goal.returns
unfolding root_left
returns c =
    ap (λ (l : Link). balance_of l.round.accounts 0) (c.open_times-after.ensures
    ∙ ap (opened_times c.args.times) c.backlogged.ensures.0)
