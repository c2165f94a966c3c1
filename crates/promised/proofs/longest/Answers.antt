-- `promised::longest` meets its contract.
use mathlib.Core.Path.{◌≡◌, sym}
use native.Mathlib.Omega.{arith}
use lib.ListN.{length, get_or-eq_default}
use borrow.Author.Rules.{rules}
use Rattle.promised.proofs.longest.Goals as goal

pub returns-then-class-ge-CLASSES : goal.returns-then-class-ge-CLASSES
returns-then-class-ge-CLASSES c =
    let a = c.args in
    let n : length a.tree.longest ≡ 64 = search rules in
    sym (get_or-eq_default a.tree.longest 0 {n = a.class} (omega (arith, n, c.if-class-ge-CLASSES.true)))
