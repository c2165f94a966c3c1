-- What the number arrays of a page mean: a verdict, a tree, a list of changes. Demand 1.
use Rattle.std.specs.Prelude.{Bool, cond, List, [], ◌∷◌, ℕ, eqb, get_or}
use Rattle.checks.specs.Check.{number_of, place_of, Verdict}
use Rattle.tree.specs.declared.Tree.{Tree}
use Rattle.tree.specs.Class.{weight_of}
use Rattle.tree.specs.Sum.{table}
use Rattle.mended.specs.declared.Change.{Change}
use Rattle.mended.specs.Answer.{no_change}

-- a verdict: its number and its place, and the bytes used or written
abbrev pub said_of : Verdict → ℕ → List ℕ
said_of verdict used = number_of verdict ∷ place_of verdict ∷ used ∷ []

-- rule 2 or rule 1
abbrev pub rule_of : Bool → ℕ
rule_of follows = cond follows 2 1

-- the three numbers of a tree: how many classes, its set of leaves, its rule
abbrev pub numbers_of : Tree → List ℕ
numbers_of t = t.count ∷ t.leaves ∷ rule_of t.follows ∷ []

-- its weights by class number
abbrev pub weights_of : Tree → List ℕ
weights_of t = table (weight_of t) 64

-- the tree that such numbers make up
abbrev pub tree_of : List ℕ → List ℕ → List ℕ → List ℕ → Tree
tree_of numbers parent weight longest = record {
  count = get_or numbers 0 0;
  leaves = get_or numbers 1 0;
  parent = parent;
  weight = table (λ p. record { 0 = get_or weight p 0 }) 64;
  longest = longest;
  follows = eqb (get_or numbers 2 0) 2;
}

-- the changes of a mending as three tables: class, old weight, new weight
abbrev pub class_at : List Change → ℕ → ℕ
class_at changes k = (get_or changes k no_change).class

abbrev pub old_at : List Change → ℕ → ℕ
old_at changes k = (get_or changes k no_change).old.0

abbrev pub new_at : List Change → ℕ → ℕ
new_at changes k = (get_or changes k no_change).new.0
