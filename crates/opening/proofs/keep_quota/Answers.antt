-- `opening::keep_quota` meets its contract.
use mathlib.Core.Path.{sym, ap, ◌∙◌}
use Prim.Native.Nat.{ℕ}
use lib.ListN.{set}
use lib.Seq.{set-get_or}
use Rattle.opening.proofs.keep_quota.Goals as goal

pub returns-else-not-leaf : goal.returns-else-not-leaf
returns-else-not-leaf c =
    let a = c.args in
    let same = c.requires.1 c.if-not-leaf.false in
    sym (ap (λ (q : ℕ). set a.quotas.now a.i q) (sym same) ∙ set-get_or a.quotas.now a.i 0)
