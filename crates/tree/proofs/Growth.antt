-- A tree grown class by class: what a new class sets, what it leaves as it was, and that it breaks no rule of the others. Demand 1.
use mathlib.Core.Bool.{Bool, true, false, cond}
use mathlib.Core.Path.{◌≡◌, refl, sym, ap, ◌∙◌}
use Prim.Native.Nat.{ℕ, ◌+◌, ◌^◌, ◌≤◌, ◌<◌}
use native.Mathlib.Decide.{dec_le, ℕ_discrete}
use native.Mathlib.Omega.{arith}
use lib.Dec.{leb}
use lib.ListN.{length, length-set, length-replicate, get_or-replicate}
use lib.Seq.{get_or-set_same, get_or-set_other}
use borrow.Author.Tests.{leb-false}
use Rattle.checks.proofs.Laws.{not_true_and_false}
use Rattle.sets.specs.Set.{has, with}
use Rattle.sets.proofs.Laws.{has_with_same, has_with_other, has_empty, with_fits}
use Rattle.units.specs.declared.Weight.{Weight}
use Rattle.tree.specs.declared.Tree.{Tree}
use Rattle.tree.specs.declared.Class.{Class}
use Rattle.tree.specs.Class.{no_tree, no_weight, ruled, added, parent_of, weight_of, longest_of, is_class, is_leaf}
use Rattle.tree.specs.Rules.{bad_parent, bad_weight, bad_longest, ClassesPass, UnsetIsZero, AllUnsetZero}
use Rattle.tree.proofs.Classes.{neither_true, class_in_lem, class_range, class_past}

-- what the other classes have stays
module _ (t : Tree) (c : Class) (i : ℕ) (other : i ≡ t.count + 1 → ⊥) where
  pub parent_stays : parent_of (added t c) i ≡ parent_of t i
  parent_stays = get_or-set_other t.parent (t.count + 1) i c.parent 0 other

  pub weight_stays : weight_of (added t c) i ≡ weight_of t i
  weight_stays = ap (λ (w : Weight). w.0) (get_or-set_other t.weight (t.count + 1) i c.weight no_weight other)

  pub longest_stays : longest_of (added t c) i ≡ longest_of t i
  longest_stays = get_or-set_other t.longest (t.count + 1) i c.longest 0 other

  pub leaf_stays : is_leaf (added t c) i ≡ is_leaf t i
  unfolding is_leaf
  leaf_stays = go c.leaf
    where
      go : (b : Bool) → has (cond b (with t.leaves (t.count + 1)) t.leaves) i ≡ has t.leaves i
      go true = has_with_other t.leaves (t.count + 1) i other
      go false = refl

-- a tree whose arrays have 64 places, where what no class record sets is 0
pub record Grown (t : Tree) : Type 0 where
  pub parents : length t.parent ≡ 64
  pub weights : length t.weight ≡ 64
  pub longests : length t.longest ≡ 64
  pub unset : AllUnsetZero t

-- a class record sets a longest packet only for a leaf
abbrev pub Proper : Class → Type 0
Proper c = c.leaf ≡ false → c.longest ≡ 0

-- the new class has what its record says
module _ (t : Tree) (c : Class) (g : Grown t) (room : t.count < 63) where
  pub parent_new : parent_of (added t c) (t.count + 1) ≡ c.parent
  parent_new = get_or-set_same t.parent (t.count + 1) c.parent 0 (omega (arith, g.parents))

  pub weight_new : weight_of (added t c) (t.count + 1) ≡ c.weight.0
  weight_new = ap (λ (w : Weight). w.0) (get_or-set_same t.weight (t.count + 1) c.weight no_weight (omega (arith, g.weights)))

  pub longest_new : longest_of (added t c) (t.count + 1) ≡ c.longest
  longest_new = get_or-set_same t.longest (t.count + 1) c.longest 0 (omega (arith, g.longests))

  pub leaf_new : is_leaf (added t c) (t.count + 1) ≡ c.leaf
  unfolding is_leaf
  leaf_new = go c.leaf
    where
      go : (b : Bool) → has (cond b (with t.leaves (t.count + 1)) t.leaves) (t.count + 1) ≡ b
      go true = has_with_same t.leaves (t.count + 1)
      go false = ((g.unset.at (t.count + 1) (omega arith)).past (class_past t (t.count + 1) (omega arith))).leaf

-- which numbers are classes
pub class_grows : (t : Tree) (c : Class) (i : ℕ) → is_class (added t c) i ≡ false → is_class t i ≡ false
class_grows t c i e = go (is_class t i) refl
  where
    go : (b : Bool) → is_class t i ≡ b → is_class t i ≡ false
    go true h =
        let r = class_range t i h in
        absurd (not_true_and_false (class_in_lem (added t c) i r.0 (omega (arith, r.1))) e)
    go false h = h

-- the tree without classes has nothing set, under either rule
pub none_grown : (follows : Bool) → Grown (ruled no_tree follows)
unfolding is_leaf
none_grown follows = record {
  parents = length-replicate {A = ℕ} 64 0;
  weights = length-replicate 64 no_weight;
  longests = length-replicate {A = ℕ} 64 0;
  unset =
      record {
        at = λ i u. record {
          past = λ e. record {
            parent = get_or-replicate 64 i 0 0 u;
            weight = ap (λ (w : Weight). w.0) (get_or-replicate 64 i no_weight no_weight u);
            leaf = has_empty i;
          };
          longest = λ e. get_or-replicate 64 i 0 0 u;
        };
        word = omega arith;
      };
}

pub added_grown : (t : Tree) (c : Class) → Grown t → t.count < 63 → Proper c → Grown (added t c)
added_grown t c g room proper = record {
  parents = length-set t.parent _ _ ∙ g.parents;
  weights = length-set t.weight _ _ ∙ g.weights;
  longests = length-set t.longest _ _ ∙ g.longests;
  unset = record { at = λ i u. at i u (ℕ_discrete i (t.count + 1)); word = word c.leaf };
}
  where
    word : (b : Bool) → cond b (with t.leaves (t.count + 1)) t.leaves < 2 ^ 64
    word true = with_fits t.leaves (t.count + 1) g.unset.word (omega arith)
    word false = g.unset.word

    at : (i : ℕ) → i < 64 → Dec (i ≡ t.count + 1) → UnsetIsZero (added t c) i
    at i u (yes e) = record {
      past = λ p. absurd (not_true_and_false (class_in_lem (added t c) i (omega arith) (omega arith)) p);
      longest = λ l.
          rw e (longest_new t c g room ∙ proper (sym (leaf_new t c g room) ∙ ap (λ (k : ℕ). is_leaf (added t c) k) (sym e) ∙ l));
    }
    at i u (no n) = record {
      past = λ p.
          let h = (g.unset.at i u).past (class_grows t c i p) in
          record {
            parent = parent_stays t c i n ∙ h.parent;
            weight = weight_stays t c i n ∙ h.weight;
            leaf = leaf_stays t c i n ∙ h.leaf;
          };
      longest = λ l. longest_stays t c i n ∙ (g.unset.at i u).longest (sym (leaf_stays t c i n) ∙ l);
    }

-- a class that breaks no number breaks none in the grown tree
module _ (t : Tree) (c : Class) (i : ℕ) (old : i ≤ t.count) where
  pub parent_kept : bad_parent t i ≡ false → bad_parent (added t c) i ≡ false
  unfolding bad_parent
  parent_kept e =
      let h = neither_true (leb i (parent_of t i)) (is_leaf t (parent_of t i)) e in
      let low = leb-false i (parent_of t i) h.0 in
      rw (parent_stays t c i (λ z. omega arith), h.0, leaf_stays t c (parent_of t i) (λ z. omega arith)) h.1

  pub weight_kept : bad_weight t i ≡ false → bad_weight (added t c) i ≡ false
  unfolding bad_weight
  weight_kept e = rw (weight_stays t c i (λ z. omega arith)) e

  pub longest_kept : bad_longest t i ≡ false → bad_longest (added t c) i ≡ false
  unfolding bad_longest
  longest_kept e = rw (leaf_stays t c i (λ z. omega arith), longest_stays t c i (λ z. omega arith)) e

-- so, with a new class that breaks none, no class breaks numbers 4, 5 and 6
pub classes_kept : (t : Tree) (c : Class) → ClassesPass t
    → bad_parent (added t c) (t.count + 1) ≡ false → bad_weight (added t c) (t.count + 1) ≡ false
    → bad_longest (added t c) (t.count + 1) ≡ false
    → ClassesPass (added t c)
classes_kept t c p a b d = record {
  parents = λ i is. each (λ (k : ℕ). bad_parent (added t c) k ≡ false) i is (λ l u. parent_kept t c i u (p.parents i (class_in_lem t i l u))) a;
  weights = λ i is. each (λ (k : ℕ). bad_weight (added t c) k ≡ false) i is (λ l u. weight_kept t c i u (p.weights i (class_in_lem t i l u))) b;
  longests = λ i is. each (λ (k : ℕ). bad_longest (added t c) k ≡ false) i is
      (λ l u. longest_kept t c i u (p.longests i (class_in_lem t i l u))) d;
}
  where
    each : (P : ℕ → Type 0) (i : ℕ) → is_class (added t c) i ≡ true → (1 ≤ i → i ≤ t.count → P i) → P (t.count + 1) → P i
    each P i is below new = go (dec_le i t.count)
      where
        go : Dec (i ≤ t.count) → P i
        go (yes u) = below (class_range (added t c) i is).0 u
        go (no n) =
            let e : i ≡ t.count + 1 = omega (arith, (class_range (added t c) i is).1) in
            rw e new

pub none_pass : (follows : Bool) → ClassesPass (ruled no_tree follows)
none_pass follows = record {
  parents = λ i is. absurd (none i is);
  weights = λ i is. absurd (none i is);
  longests = λ i is. absurd (none i is);
}
  where
    none : (i : ℕ) → is_class (ruled no_tree follows) i ≡ true → ⊥
    none i is = let r = class_range (ruled no_tree follows) i is in omega (arith, r.0, r.1)
