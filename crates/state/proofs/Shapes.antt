-- The lists of a link that the code holds have the lengths of its arrays. Demands 1 and 2.
use Rattle.std.proofs.Common.{◌≡◌, List, length}
use mir.Val.{Val}
use denote.Laws.{Is}
use denote.Struct.Laws as LL
use Rattle.state.specs.declared.Link.{Link}
use Rattle.state.specs.declared.Round.{Round}
use Rattle.state.specs.Queue.{Shaped}
use Rattle.state.specs.contracts.Totals as N
use Rattle.state.proofs.Totals.TheLaws as N'
use Rattle.state.specs.contracts.Round as R
use Rattle.state.proofs.Round.TheLaws as R'
use Rattle.state.specs.contracts.Link as L
use Rattle.state.proofs.Link.TheLaws as L'

pub accounts_shaped : (r : Round) (values : List Val) → Is R.the_row r values → length r.accounts ≡ 64
accounts_shaped r values is =
    (LL.owed R.the_type R'.the_laws r values is).1.1.1.0.1.0.1

-- what is known of a record's machine values says so: `c.good.0` of a link by value, what a `&mut Link` holds
pub shaped : (l : Link) (values : List Val) → Is L.the_row l values → Shaped l
shaped l values is =
    let o = (LL.owed L.the_type L'.the_laws l values is).1 in
    let n = LL.owed N.the_type N'.the_laws l.totals _ o.1.1.1.1.1.0 in
    record {
      accounts = accounts_shaped l.round _ o.1.1.1.1.1.1.0;
      start = o.1.1.1.0.1.0.1;
      held = o.1.1.1.1.0.1.0.1;
      lengths = o.0.1.0.1;
      tags = o.1.0.1.0.1;
      marks = o.1.1.0.1.0.1;
      packets = n.0.1.0.1;
      bytes = n.1.0.1.0.1;
    }
