-- The lists of a link of the second engine that the code holds have the lengths of its arrays.
use mathlib.Core.List.{List}
use mir.Val.{Val}
use denote.Laws.{Is}
use denote.Struct.Laws as LL
use Rattle.state.proofs.Shapes.{shaped}
use Rattle.published.specs.declared.Second.{Second}
use Rattle.published.specs.Second.{ShapedSecond}
use Rattle.published.specs.contracts.Second as S
use Rattle.published.proofs.Second.TheLaws as S'

-- what is known of a record's machine values says so
pub shaped_second : (l : Second) (values : List Val) → Is S.the_row l values → ShapedSecond l
shaped_second l values is =
    let o = LL.owed S.the_type S'.the_laws l values is in
    record { link = shaped l.link _ o.0; quotas = o.1.1.0.1.0.1 }
