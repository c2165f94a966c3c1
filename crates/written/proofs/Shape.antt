-- The lists of a tree that the code holds have the lengths of its arrays. Demand 1.
use mathlib.Core.List.{List}
use mir.Val.{Val}
use denote.Laws.{Is}
use denote.Struct.Laws as LL
use Rattle.tree.specs.declared.Tree.{Tree}
use Rattle.tree.specs.contracts.Tree as T
use Rattle.tree.proofs.Tree.TheLaws as T'
use Rattle.written.specs.Writing.{Arrays}

-- what is known of a tree's machine values says so
pub arrays : (t : Tree) (values : List Val) → Is T.the_row t values → Arrays t
arrays t values is =
    let o = LL.owed T.the_type T'.the_laws t values is in
    record {
      parents = o.1.1.0.1.0.1;
      weights = o.1.1.1.0.1.0.1;
      longests = o.1.1.1.1.0.1.0.1;
    }
