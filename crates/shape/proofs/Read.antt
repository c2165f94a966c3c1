-- A tree read from its numbers, and its numbers laid. Demand 2.
use mathlib.Core.Bool.{Bool, true, false}
use mathlib.Core.List.{List}
use mathlib.Core.Path.{◌≡◌, refl, sym, ap, ◌∙◌}
use Prim.Native.Nat.{ℕ, ◌+◌, ◌^◌, ◌≤◌, ◌<◌}
use native.Mathlib.Decide.{dec_lt}
use native.Mathlib.Omega.{arith}
use lib.Dec.{eqb}
use lib.ListN.{length, length-set, length-replicate, get_or, set, replicate}
use lib.Seq.{ext_get_or, get_or-set_same, get_or-set_other}
use mir.Val.{Val}
use denote.Laws.{Is}
use denote.Struct.Laws as LL
use Rattle.sets.specs.Set.{has}
use Rattle.units.specs.declared.Weight.{Weight}
use Rattle.tree.specs.declared.Tree.{Tree}
use Rattle.tree.specs.Class.{no_weight, parent_of, weight_of, longest_of, is_class, is_leaf}
use Rattle.tree.specs.Rules.{PlanRules}
use Rattle.tree.specs.Sum.{table}
use Rattle.tree.proofs.Rules.{parent_lower, rules_light, longest_range}
use Rattle.tree.proofs.Tables.{table_length, table_at, table_same}
use Rattle.tree.specs.contracts.Tree as T
use Rattle.tree.proofs.Tree.TheLaws as T'
use Rattle.shape.specs.Shape.{tree_in, rule_number}

-- a list is the table of its elements
pub list_table : {A : Type 0} (d : A) (xs : List A) (n : ℕ) → length xs ≡ n → table (λ i. get_or xs i d) n ≡ xs
list_table d xs n many =
    ext_get_or d _ xs (table_length (λ i. get_or xs i d) n ∙ sym many)
    (λ i u. table_at (λ k. get_or xs k d) d n i (omega (arith, u, table_length (λ k. get_or xs k d) n)))

-- a tree has as many weights as class numbers
pub tree_weights : (t : Tree) (values : List Val) → Is T.the_row t values → length t.weight ≡ 64
tree_weights t values is = (LL.owed T.the_type T'.the_laws t values is).1.1.1.0.1.0.1

-- what is read of the numbers is the tree's
module _ (s : List ℕ) where
  pub count_in_lem : (tree_in s).count ≡ get_or s 192 0
  unfolding tree_in
  count_in_lem = refl

  pub leaves_in : (tree_in s).leaves ≡ get_or s 193 0
  unfolding tree_in
  leaves_in = refl

  pub leaf_in : (i : ℕ) → is_leaf (tree_in s) i ≡ has (get_or s 193 0) i
  unfolding tree_in is_leaf
  leaf_in i = refl

  pub follows_in : (tree_in s).follows ≡ eqb (get_or s 194 0) 1
  unfolding tree_in
  follows_in = refl

  pub parent_in : (i : ℕ) → i < 64 → parent_of (tree_in s) i ≡ get_or s i 0
  unfolding tree_in
  parent_in i u = table_at (λ k. get_or s k 0) 0 64 i u

  pub weight_in_lem : (i : ℕ) → i < 64 → weight_of (tree_in s) i ≡ get_or s (64 + i) 0
  unfolding tree_in
  weight_in_lem i u = ap (λ (w : Weight). w.0) (table_at (λ k. record { 0 = get_or s (64 + k) 0 }) no_weight 64 i u)

  pub longest_in : (i : ℕ) → i < 64 → longest_of (tree_in s) i ≡ get_or s (128 + i) 0
  unfolding tree_in
  longest_in i u = table_at (λ k. get_or s (128 + k) 0) 0 64 i u

-- under the plan rules every parent, every weight and every longest packet fits its number
module _ (t : Tree) (rules : PlanRules t) (i : ℕ) (u : i < 64) where
  pub parent_fits : parent_of t i < 2 ^ 8
  parent_fits = go (is_class t i) refl
    where
      go : (b : Bool) → is_class t i ≡ b → parent_of t i < 2 ^ 8
      go true is = omega (arith, u, parent_lower t i rules is)
      go false is = omega (arith, ((rules.unset.at i u).past is).parent)

  pub weight_fits : weight_of t i < 2 ^ 32
  weight_fits = go (is_class t i) refl
    where
      go : (b : Bool) → is_class t i ≡ b → weight_of t i < 2 ^ 32
      go true is = omega (arith, (rules_light t rules).light i is)
      go false is = omega (arith, ((rules.unset.at i u).past is).weight)

  pub longest_most : longest_of t i ≤ 9_216
  longest_most = go (is_class t i) refl (is_leaf t i) refl
    where
      go : (b : Bool) → is_class t i ≡ b → (c : Bool) → is_leaf t i ≡ c → longest_of t i ≤ 9_216
      go is e false leaf = omega (arith, (rules.unset.at i u).longest leaf)
      go true is true leaf = omega (arith, longest_range t i (rules.each.longests i is) leaf)
      go false is true leaf = omega (arith, (rules.unset.at i u).longest ((rules.unset.at i u).past is).leaf)

  pub longest_fits : longest_of t i < 2 ^ 16
  longest_fits = omega (arith, longest_most)

-- ---- laid class by class

-- the numbers of the first classes lie where they are read
pub record Laid (t : Tree) (n : ℕ) (out : List ℕ) : Type 0 where
  pub long : length out ≡ 195
  pub parents : (k : ℕ) → k < n → get_or out k 0 ≡ parent_of t k
  pub weights : (k : ℕ) → k < n → get_or out (64 + k) 0 ≡ weight_of t k
  pub longests : (k : ℕ) → k < n → get_or out (128 + k) 0 ≡ longest_of t k

pub laid_none : (t : Tree) → Laid t 0 (replicate 195 0)
laid_none t = record {
  long = length-replicate {A = ℕ} 195 0;
  parents = λ k v. absurd (omega (arith, v));
  weights = λ k v. absurd (omega (arith, v));
  longests = λ k v. absurd (omega (arith, v));
}

module _ (t : Tree) (i : ℕ) (u : i < 64) (out : List ℕ) (is : Laid t i out) where
  pub laid_on_lem : (x y z : ℕ) → x ≡ parent_of t i → y ≡ weight_of t i → z ≡ longest_of t i
      → Laid t (i + 1) (set (set (set out i x) (64 + i) y) (128 + i) z)
  laid_on_lem x y z p w g = record {
    long = length-set (set (set out i x) (64 + i) y) (128 + i) z ∙ length-set (set out i x) (64 + i) y ∙ length-set out i x ∙ is.long;
    parents = λ k v. far k (λ e. omega (arith, e, u, v)) (λ e. omega (arith, e, u, v)) ∙ first k v;
    weights = λ k v. get_or-set_other (set (set out i x) (64 + i) y) (128 + i) (64 + k) z 0 (λ e. omega (arith, e, u, v)) ∙ second k v;
    longests = λ k v. third k v;
  }
    where
      far : (j : ℕ) → (j ≡ 128 + i → ⊥) → (j ≡ 64 + i → ⊥)
          → get_or (set (set (set out i x) (64 + i) y) (128 + i) z) j 0 ≡ get_or (set out i x) j 0
      far j n m =
          get_or-set_other (set (set out i x) (64 + i) y) (128 + i) j z 0 n ∙ get_or-set_other (set out i x) (64 + i) j y 0 m

      first : (k : ℕ) → k < i + 1 → get_or (set out i x) k 0 ≡ parent_of t k
      first k v = go (dec_lt k i)
        where
          go : Dec (k < i) → get_or (set out i x) k 0 ≡ parent_of t k
          go (yes l) = get_or-set_other out i k x 0 (λ e. omega (arith, e, l)) ∙ is.parents k l
          go (no l) =
              let e : k ≡ i = omega (arith, v) in
              rw e (get_or-set_same out i x 0 (omega (arith, is.long, u)) ∙ p)

      second : (k : ℕ) → k < i + 1 → get_or (set (set out i x) (64 + i) y) (64 + k) 0 ≡ weight_of t k
      second k v = go (dec_lt k i)
        where
          go : Dec (k < i) → get_or (set (set out i x) (64 + i) y) (64 + k) 0 ≡ weight_of t k
          go (yes l) =
              get_or-set_other (set out i x) (64 + i) (64 + k) y 0 (λ e. omega (arith, e, l))
              ∙ get_or-set_other out i (64 + k) x 0 (λ e. omega (arith, e, u)) ∙ is.weights k l
          go (no l) =
              let e : k ≡ i = omega (arith, v) in
              rw e (get_or-set_same (set out i x) (64 + i) y 0 (omega (arith, is.long, length-set out i x, u)) ∙ w)

      third : (k : ℕ) → k < i + 1 → get_or (set (set (set out i x) (64 + i) y) (128 + i) z) (128 + k) 0 ≡ longest_of t k
      third k v = go (dec_lt k i)
        where
          go : Dec (k < i) → get_or (set (set (set out i x) (64 + i) y) (128 + i) z) (128 + k) 0 ≡ longest_of t k
          go (yes l) =
              get_or-set_other (set (set out i x) (64 + i) y) (128 + i) (128 + k) z 0 (λ e. omega (arith, e, l))
              ∙ get_or-set_other (set out i x) (64 + i) (128 + k) y 0 (λ e. omega (arith, e, u))
              ∙ get_or-set_other out i (128 + k) x 0 (λ e. omega (arith, e, u)) ∙ is.longests k l
          go (no l) =
              let e : k ≡ i = omega (arith, v) in
              rw e
              (get_or-set_same (set (set out i x) (64 + i) y) (128 + i) z 0
              (omega (arith, is.long, length-set out i x, length-set (set out i x) (64 + i) y, u)) ∙ g)

rule_back : (b : Bool) → eqb (rule_number b) 1 ≡ b
rule_back true = refl
rule_back false = refl

-- with the last three numbers they are the whole tree
pub laid_whole : (t : Tree) (out : List ℕ) (n : ℕ) → n ≡ 64 → Laid t n out → length t.parent ≡ 64 → length t.weight ≡ 64
    → length t.longest ≡ 64 → (r : ℕ) → r ≡ rule_number t.follows
    → tree_in (set (set (set out 192 t.count) 193 t.leaves) 194 r) ≡ t
unfolding tree_in
laid_whole t out n all is ps ws gs r rule = λ j. record {
  count = count j;
  leaves = leaves j;
  parent = parents j;
  weight = weights j;
  longest = longests j;
  follows = follows j;
}
  where
    before : (k : ℕ) → k < 192
        → get_or (set (set (set out 192 t.count) 193 t.leaves) 194 r) k 0 ≡ get_or out k 0
    before k u =
        get_or-set_other (set (set out 192 t.count) 193 t.leaves) 194 k r 0 (λ e. omega (arith, e, u)) ∙ get_or-set_other (set out 192 t.count) 193 k t.leaves 0 (λ e. omega (arith, e, u))
        ∙ get_or-set_other out 192 k t.count 0 (λ e. omega (arith, e, u))

    count : get_or (set (set (set out 192 t.count) 193 t.leaves) 194 r) 192 0 ≡ t.count
    count =
        get_or-set_other (set (set out 192 t.count) 193 t.leaves) 194 192 r 0 (λ e. omega (arith, e)) ∙ get_or-set_other (set out 192 t.count) 193 192 t.leaves 0 (λ e. omega (arith, e))
        ∙ get_or-set_same out 192 t.count 0 (omega (arith, is.long))

    leaves : get_or (set (set (set out 192 t.count) 193 t.leaves) 194 r) 193 0 ≡ t.leaves
    leaves =
        get_or-set_other (set (set out 192 t.count) 193 t.leaves) 194 193 r 0 (λ e. omega (arith, e))
        ∙ get_or-set_same (set out 192 t.count) 193 t.leaves 0 (omega (arith, is.long, length-set out 192 t.count))

    follows : eqb (get_or (set (set (set out 192 t.count) 193 t.leaves) 194 r) 194 0) 1 ≡ t.follows
    follows =
        ap (λ (x : ℕ). eqb x 1)
        (get_or-set_same (set (set out 192 t.count) 193 t.leaves) 194 r 0
        (omega (arith, is.long, length-set out 192 t.count, length-set (set out 192 t.count) 193 t.leaves)) ∙ rule)
        ∙ rule_back t.follows

    parents : table (λ k. get_or (set (set (set out 192 t.count) 193 t.leaves) 194 r) k 0) 64 ≡ t.parent
    parents =
        table_same _ (λ k. get_or t.parent k 0) 64 (λ k u. before k (omega (arith, u)) ∙ is.parents k (omega (arith, u, all)))
        ∙ list_table 0 t.parent 64 ps

    weights : table (λ k. record { 0 = get_or (set (set (set out 192 t.count) 193 t.leaves) 194 r) (64 + k) 0 }) 64 ≡ t.weight
    weights =
        table_same _ (λ k. get_or t.weight k no_weight) 64
        (λ k u. ap (λ (x : ℕ). record { 0 = x }) (before (64 + k) (omega (arith, u)) ∙ is.weights k (omega (arith, u, all))))
        ∙ list_table no_weight t.weight 64 ws

    longests : table (λ k. get_or (set (set (set out 192 t.count) 193 t.leaves) 194 r) (128 + k) 0) 64 ≡ t.longest
    longests =
        table_same _ (λ k. get_or t.longest k 0) 64
        (λ k u. before (128 + k) (omega (arith, u)) ∙ is.longests k (omega (arith, u, all)))
        ∙ list_table 0 t.longest 64 gs

-- ---- and read back

-- three tables of its numbers and the last three are the tree
pub tree_back : (s : List ℕ) (parent : List ℕ) (weight : List Weight) (longest : List ℕ) → parent ≡ table (λ i. get_or s i 0) 64
    → weight ≡ table (λ i. record { 0 = get_or s (64 + i) 0 }) 64 → longest ≡ table (λ i. get_or s (128 + i) 0) 64
    → record {
      count = get_or s 192 0;
      leaves = get_or s 193 0;
      parent = parent;
      weight = weight;
      longest = longest;
      follows = eqb (get_or s 194 0) 1;
    } ≡ tree_in s
unfolding tree_in
tree_back s parent weight longest p w g = λ j. record {
  count = get_or s 192 0;
  leaves = get_or s 193 0;
  parent = p j;
  weight = w j;
  longest = g j;
  follows = eqb (get_or s 194 0) 1;
}
