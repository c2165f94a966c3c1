-- What a page keeps of a tree is that tree: the arrays of a plan that was read are what the writer is handed. Demand 1.
use mathlib.Core.Bool.{Bool, true, false}
use mathlib.Core.List.{List}
use mathlib.Core.Path.{◌≡◌, refl, sym, ap, ◌∙◌}
use Prim.Native.Nat.{ℕ, ◌<◌}
use lib.Dec.{eqb}
use lib.ListN.{length, get_or}
use lib.Seq.{ext_get_or}
use Rattle.units.specs.declared.Weight.{Weight}
use Rattle.tree.specs.declared.Tree.{Tree}
use Rattle.tree.specs.Class.{no_weight}
use Rattle.tree.specs.Sum.{table}
use Rattle.tree.proofs.Tables.{table_length, table_at}
use Rattle.page_calls.specs.Kept.{rule_of, numbers_of, weights_of, tree_of}

-- weights, as numbers, and back
weights_again : (ws : List Weight) → length ws ≡ 64 → table (λ p. record { 0 = get_or (table (λ i. (get_or ws i no_weight).0) 64) p 0 }) 64 ≡ ws
weights_again ws e =
    let ns = table (λ i. (get_or ws i no_weight).0) 64 in
    ext_get_or no_weight (table (λ p. the_weight (get_or ns p 0)) 64) ws (table_length (λ p. the_weight (get_or ns p 0)) 64 ∙ sym e)
    (λ k m.
    let u : k < 64 = rw table_length at m in
    table_at (λ p. the_weight (get_or ns p 0)) no_weight 64 k u ∙ ap the_weight (table_at (λ i. (get_or ws i no_weight).0) 0 64 k u))
  where
    the_weight : ℕ → Weight
    the_weight n = record { 0 = n }

-- the rule, as a number, and back
rule_again : (follows : Bool) → eqb (rule_of follows) 2 ≡ follows
rule_again true = refl
rule_again false = refl

-- a tree whose weights are 64, kept and read again
pub kept_again : (t : Tree) → length t.weight ≡ 64 → tree_of (numbers_of t) t.parent (weights_of t) t.longest ≡ t
kept_again t e = rw (weights_again t.weight e, rule_again t.follows) refl
