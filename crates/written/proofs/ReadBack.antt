-- Reading what was written gives the tree and the same length (R264). Demand 1.
use mathlib.Core.Bool.{Bool, true, false, cond}
use mathlib.Core.List.{List, [], ◌∷◌, ◌++◌, append_assoc, append-nil}
use mathlib.Core.Path.{◌≡◌, refl, sym, ap, subst, ◌∙◌}
use Prim.Native.Nat.{ℕ, zero, suc, ◌+◌, ◌≤◌, ◌<◌}
use native.Mathlib.Decide.{dec_le}
use native.Mathlib.Omega.{arith}
use lib.Dec.{eqb, leb}
use lib.ListN.{length, drop, length-append}
use lib.Seq.{drop_at, ext_get_or}
use borrow.Author.Tests.{le-ltb, leb-false, ne_eqb, eqb-false}
use Rattle.std.specs.Prelude.{Ok}
use Rattle.checks.specs.Check.{first_broken, Verdict}
use Rattle.checks.proofs.Laws.{not_true_and_false, pass_over, none_broken, classes_passed}
use Rattle.sets.proofs.Laws.{set_ext}
use Rattle.units.specs.declared.Weight.{Weight}
use Rattle.tree.specs.declared.Tree.{Tree}
use Rattle.tree.specs.Class.{no_weight, parent_of, weight_of, longest_of, is_class, is_leaf}
use Rattle.tree.specs.Rules.{PlanRules, too_many, bad_parent, bad_weight, bad_longest, no_class, closing_of, closing_checks}
use Rattle.tree.proofs.Growth.{Grown}
use Rattle.tree.proofs.Classes.{neither_true, class_in_lem, class_past, closing_passes}
use Rattle.plan.specs.declared.kind.Section.TheVariants.{Plan}
use Rattle.plan.specs.Kind.{record_kind, gives_class, gives_rule}
use Rattle.plan.specs.Record.{kind_at, missing, unknown, cut, body_of, rule_of, bad_rule, class_at}
use Rattle.plan.specs.Reader.{follows_of, after, tree_of, passes, outcome, plan_of}
use Rattle.plan.specs.Rows.{rest_of}
use Rattle.plan.proofs.Records.{class_no_rule}
use Rattle.plan.proofs.Reading.{
  RuleRecord,
  opening_none,
  opening_rule,
  record_class_lem,
  record_end,
  pass_yes,
  tree_count,
  tree_grown,
  plan_ended,
}
use Rattle.plan.proofs.Numbers.{ClassIs, plan_order, tree_follows}
use Rattle.written.specs.Bytes.{record_bytes, rule_bytes, class_bytes, classes_bytes, plan_bytes}
use Rattle.written.specs.Writing.{Arrays}
use Rattle.written.proofs.Lengths.{few_classes, plan_as}
use Rattle.written.proofs.Records.{after_suc, record_class, written_body, written_there, written_known, written_whole, written_gives}
use Rattle.written.proofs.Records.{written_class}

-- a rule 2 record that was written
rule_written : (z : List ℕ) → RuleRecord (3 ∷ 2 ∷ z)
unfolding missing unknown cut bad_rule kind_at record_kind rule_of body_of
rule_written z = record {
  gives = refl;
  there = ne_eqb (length (3 ∷ 2 ∷ z)) 0 (λ e. omega arith);
  known = refl;
  whole = le-ltb (length (3 ∷ 2 ∷ z)) 2 (omega arith);
  right = refl;
}

rule_two_lem : (z : List ℕ) → ((kind_at (3 ∷ 2 ∷ z)).body ≡ 1) × (rule_of (3 ∷ 2 ∷ z) ≡ 2)
unfolding kind_at record_kind rule_of body_of
rule_two_lem z = (refl, refl)

end_written : (z : List ℕ) → (missing (0 ∷ z) ≡ false) × (unknown Plan (0 ∷ z) ≡ false) × (cut (0 ∷ z) ≡ false)
    × (gives_class (kind_at (0 ∷ z)) ≡ false) × (gives_rule (kind_at (0 ∷ z)) ≡ false)
unfolding missing unknown cut kind_at record_kind
end_written z = (ne_eqb (length (0 ∷ z)) 0 (λ e. omega arith), refl, le-ltb (length (0 ∷ z)) 1 (omega arith), refl, refl)

-- the records of some classes come first among those of more
classes_split : (t : Tree) (k n : ℕ) → k ≤ n → (y : List ℕ) × (classes_bytes t n ≡ classes_bytes t k ++ y)
unfolding classes_bytes
classes_split t k zero h =
    let e : k ≡ 0 = omega arith in
    ([], ap (classes_bytes t) (sym e) ∙ sym (append-nil (classes_bytes t k)))
classes_split t k (suc n) h = go (dec_le k n) (λ l. classes_split t k n l)
  where
    go : Dec (k ≤ n) → (k ≤ n → (y : List ℕ) × (classes_bytes t n ≡ classes_bytes t k ++ y))
        → (y : List ℕ) × (classes_bytes t (suc n) ≡ classes_bytes t k ++ y)
    go (yes l) ih =
        let r = ih l in (
          r.0 ++ class_bytes t (suc n),
          ap (λ (z : List ℕ). z ++ class_bytes t (suc n)) r.1 ∙ append_assoc (classes_bytes t k) r.0
              (class_bytes t (suc n)),
        )
    go (no l) ih =
        let e : k ≡ suc n = omega arith in
        ([], ap (classes_bytes t) (sym e) ∙ sym (append-nil (classes_bytes t k)))

class_is : (t : Tree) (i : ℕ) → class_bytes t i ≡ record_bytes (is_leaf t i) (parent_of t i) (weight_of t i) (longest_of t i)
unfolding class_bytes
class_is t i = refl

root : (t : Tree) → is_class t 0 ≡ false
unfolding is_class
root t = refl

module _ (t : Tree) (rules : PlanRules t) (arrays : Arrays t) (x : List ℕ) where
  g : Grown t
  g = record { parents = arrays.parents; weights = arrays.weights; longests = arrays.longests; unset = rules.unset }

  abbrev s : List ℕ
  s = plan_bytes t ++ x

  abbrev start : List ℕ
  start = rule_bytes t.follows

  few : t.count ≤ 63
  few = few_classes t rules

  some : 1 ≤ t.count
  unfolding no_class
  some = let ne = eqb-false t.count 0 rules.closing.classes in omega (arith, ne)

  -- the plan, cut after its first k classes
  split : (k : ℕ) → k ≤ t.count → (z : List ℕ) × (s ≡ start ++ classes_bytes t k ++ z)
  split k h =
      let r = classes_split t k t.count h in
      let c = classes_bytes t k in
      let e = (0 ∷ []) ++ x in (
        r.0 ++ e,
        ap (λ (l : List ℕ). l ++ x) (plan_as t)
            ∙ append_assoc (start ++ classes_bytes t t.count) (0 ∷ []) x
            ∙ ap (λ (l : List ℕ). start ++ l ++ e) r.1
            ∙ ap (λ (l : List ℕ). l ++ e) (sym (append_assoc start c r.0))
            ∙ append_assoc (start ++ c) r.0 e,
      )

  here : (k : ℕ) → k < t.count → (z : List ℕ) × (s ≡ start ++ classes_bytes t k ++ (class_bytes t (suc k) ++ z))
  unfolding classes_bytes
  here k h =
      let r = split (suc k) (omega arith) in
      let c = classes_bytes t k in
      let b = class_bytes t (suc k) in
      (r.0, r.1 ∙ ap (λ (l : List ℕ). l ++ r.0) (sym (append_assoc start c b)) ∙ append_assoc (start ++ c) b r.0)

  last : s ≡ start ++ classes_bytes t t.count ++ (0 ∷ x)
  last = ap (λ (l : List ℕ). l ++ x) (plan_as t) ∙ append_assoc (start ++ classes_bytes t t.count) (0 ∷ []) x

  -- its beginning
  first : (after s 0 ≡ length start) × (follows_of s ≡ t.follows)
  unfolding classes_bytes
  first = go t.follows refl
    where
      go : (b : Bool) → t.follows ≡ b → (after s 0 ≡ length (rule_bytes b)) × (follows_of s ≡ b)
      go true f =
          let r = split 0 (omega arith) in
          let e : s ≡ 3 ∷ 2 ∷ r.0 = r.1 ∙ ap (λ (b : Bool). rule_bytes b ++ [] ++ r.0) f in
          let rule = subst RuleRecord (sym e) (rule_written r.0) in
          let two = rule_two_lem r.0 in
          let o =
          opening_rule s 2 true rule (sym (ap (λ (l : List ℕ). 1 + (kind_at l).body) e ∙ ap (λ (n : ℕ). 1 + n) two.0))
          (sym (ap (λ (l : List ℕ). eqb (rule_of l) 2) e ∙ ap (λ (n : ℕ). eqb n 2) two.1))
          in
          (sym o.0, sym o.1)
      go false f =
          let r = here 0 (omega (arith, some)) in
          let e : s ≡ class_bytes t 1 ++ r.0 = r.1 ∙ ap (λ (b : Bool). rule_bytes b ++ [] ++ (class_bytes t 1 ++ r.0)) f in
          let class : gives_class (kind_at s) ≡ true =
          ap (λ (l : List ℕ). gives_class (kind_at l)) (e ∙ ap (λ (l : List ℕ). l ++ r.0) (class_is t 1))
          ∙ written_gives (is_leaf t 1) (parent_of t 1) (weight_of t 1) (longest_of t 1) r.0
          in
          let o = opening_none s (λ (q : RuleRecord s). not_true_and_false q.gives (class_no_rule (kind_at s) class)) in
          (sym o.0, sym o.1)

  -- where the reader stands after k classes
  at : (k : ℕ) → k ≤ t.count → after s k ≡ length (start ++ classes_bytes t k)
  unfolding classes_bytes
  at zero h = first.0 ∙ ap length (sym (append-nil start))
  at (suc k) h =
      let ih = at k (omega arith) in
      let r = here k (omega arith) in
      let i = suc k in
      let c = classes_bytes t k in
      let rest : rest_of s k ≡ record_bytes (is_leaf t i) (parent_of t i) (weight_of t i) (longest_of t i) ++ r.0 =
      ap (drop (after s k)) r.1
      ∙ drop_at (start ++ c) (class_bytes t i ++ r.0) (after s k) (sym ih)
      ∙ ap (λ (l : List ℕ). l ++ r.0) (class_is t i)
      in
      let body : 1 + (kind_at (rest_of s k)).body ≡ length (class_bytes t i) =
      ap (λ (l : List ℕ). 1 + (kind_at l).body) rest
      ∙ written_body (is_leaf t i) (parent_of t i) (weight_of t i) (longest_of t i) r.0
      ∙ ap length (sym (class_is t i))
      in
      omega (
        arith,
        after_suc s k,
        ih,
        body,
        length-append start c,
        length-append start (c ++ class_bytes t i),
        length-append c
            (class_bytes t i),
      )

  rest_at : (k : ℕ) → k < t.count
      → (z : List ℕ) × (rest_of s k ≡ record_bytes (is_leaf t (suc k)) (parent_of t (suc k)) (weight_of t (suc k)) (longest_of t (suc k)) ++ z)
  rest_at k h =
      let r = here k h in
      let c = classes_bytes t k in (
        r.0,
        ap (drop (after s k)) r.1
            ∙ drop_at (start ++ c) (class_bytes t (suc k) ++ r.0) (after s k) (sym (at k (omega arith)))
            ∙ ap (λ (l : List ℕ). l ++ r.0) (class_is t (suc k)),
      )

  end_at : rest_of s t.count ≡ 0 ∷ x
  end_at =
      ap (drop (after s t.count)) last
      ∙ drop_at (start ++ classes_bytes t t.count) (0 ∷ x) (after s t.count) (sym (at t.count (omega arith)))

  -- the tree read so far has the classes of the tree
  agree : (k : ℕ) → k ≤ t.count → (j : ℕ) → j < k
      → ClassIs (tree_of s k) (suc j) (record_class (is_leaf t (suc j)) (parent_of t (suc j)) (weight_of t (suc j)) (longest_of t (suc j)))
  agree k h j l =
      let r = rest_at j (omega arith) in
      let i = suc j in
      subst (ClassIs (tree_of s k) i) (ap class_at r.1 ∙ written_class (is_leaf t i) (parent_of t i) (weight_of t i) (longest_of t i) r.0)
      (plan_order s k (omega (arith, few)) j l)

  leaf_agree : (k : ℕ) → k ≤ t.count → (i : ℕ) → i ≤ k → is_leaf (tree_of s k) i ≡ is_leaf t i
  leaf_agree k h zero l =
      (((tree_grown s k (omega (arith, few))).unset.at 0 (omega arith)).past (root (tree_of s k))).leaf
      ∙ sym ((g.unset.at 0 (omega arith)).past (root t)).leaf
  leaf_agree k h (suc j) l = (agree k h j (omega arith)).leaf

  longest_agree : (k : ℕ) → k ≤ t.count → (j : ℕ) → j < k → longest_of (tree_of s k) (suc j) ≡ longest_of t (suc j)
  longest_agree k h j l = (agree k h j l).longest ∙ go (is_leaf t (suc j)) refl
    where
      go : (b : Bool) → is_leaf t (suc j) ≡ b → cond b (longest_of t (suc j)) 0 ≡ longest_of t (suc j)
      go true e = refl
      go false e = sym ((g.unset.at (suc j) (omega (arith, few))).longest e)

  -- so each class record passes
  module _ (k : ℕ) (h : k < t.count) where
    abbrev u : Tree
    u = tree_of s (suc k)

    parent_right : bad_parent u (suc k) ≡ false
    unfolding bad_parent
    parent_right =
        let p = parent_of t (suc k) in
        let n = neither_true (leb (suc k) p) (is_leaf t p) (rules.each.parents (suc k) (class_in_lem t (suc k) (omega arith) (omega arith))) in
        let low = leb-false (suc k) p n.0 in
        let leaf = leaf_agree (suc k) (omega arith) p (omega (arith, low)) ∙ n.1 in
        rw ((agree (suc k) (omega arith) k (omega arith)).parent, n.0, leaf)

    weight_right : bad_weight u (suc k) ≡ false
    unfolding bad_weight
    weight_right =
        rw (agree (suc k) (omega arith) k (omega arith)).weight
        (rules.each.weights (suc k) (class_in_lem t (suc k) (omega arith) (omega arith)))

    longest_right : bad_longest u (suc k) ≡ false
    unfolding bad_longest
    longest_right =
        rw ((agree (suc k) (omega arith) k (omega arith)).leaf, longest_agree (suc k) (omega arith) k (omega arith))
        (rules.each.longests (suc k) (class_in_lem t (suc k) (omega arith) (omega arith)))

    few_right : too_many u ≡ false
    unfolding too_many
    few_right = le-ltb 63 u.count (omega (arith, tree_count s (suc k), few))

    last_right : (f : Tree → ℕ → Bool) → f u (suc k) ≡ false → f u u.count ≡ false
    last_right f e = ap (f u) (tree_count s (suc k)) ∙ e

    record_passes : passes s k ≡ true
    unfolding tree_of
    record_passes =
        let r = rest_at k h in
        let leaf = is_leaf t (suc k) in
        let p = parent_of t (suc k) in
        let w = weight_of t (suc k) in
        let l = longest_of t (suc k) in
        let there = ap missing r.1 ∙ written_there leaf p w l r.0 in
        let known = ap (unknown Plan) r.1 ∙ written_known leaf p w l r.0 in
        let whole = ap cut r.1 ∙ written_whole leaf p w l r.0 in
        let gives = ap (λ (y : List ℕ). gives_class (kind_at y)) r.1 ∙ written_gives leaf p w l r.0 in
        pass_yes s k gives
        (record_class_lem s (after s k) (tree_of s k) there known whole gives
        ∙ pass_over _ _ few_right
        ∙ pass_over _ _ (last_right bad_parent parent_right)
        ∙ pass_over _ _ (last_right bad_weight weight_right)
        ∙ pass_over _ _ (last_right bad_longest longest_right)
        ∙ none_broken)

  -- and the tree read is the tree
  abbrev v : Tree
  v = tree_of s t.count

  grown : Grown v
  grown = tree_grown s t.count few

  -- number by number: a class, or nothing set
  each : (P : ℕ → Type 0)
      → ((j : ℕ) → j < t.count → P (suc j))
      → ((i : ℕ) → i < 64 → is_class v i ≡ false → is_class t i ≡ false → P i)
      → (i : ℕ) → i < 64 → P i
  each P class past zero l = past 0 l (root v) (root t)
  each P class past (suc j) l = go (dec_le (suc j) t.count)
    where
      go : Dec (suc j ≤ t.count) → P (suc j)
      go (yes m) = class j (omega arith)
      go (no m) =
          past (suc j) l (class_past v (suc j) (omega (arith, tree_count s t.count))) (class_past t (suc j) (omega arith))

  same_parent : v.parent ≡ t.parent
  same_parent =
      ext_get_or 0 v.parent t.parent (grown.parents ∙ sym g.parents)
      (λ i l.
      each (λ (i : ℕ). parent_of v i ≡ parent_of t i) (λ j m. (agree t.count (omega arith) j m).parent)
      (λ i l a b. ((grown.unset.at i l).past a).parent ∙ sym ((g.unset.at i l).past b).parent)
      i (omega (arith, grown.parents)))

  same_weight : v.weight ≡ t.weight
  same_weight =
      ext_get_or no_weight v.weight t.weight (grown.weights ∙ sym g.weights)
      (λ i l.
      ap (λ (n : ℕ). record { 0 = n })
      (each (λ (i : ℕ). weight_of v i ≡ weight_of t i) (λ j m. (agree t.count (omega arith) j m).weight)
      (λ i l a b. ((grown.unset.at i l).past a).weight ∙ sym ((g.unset.at i l).past b).weight)
      i (omega (arith, grown.weights))))

  same_leaf : (i : ℕ) → i < 64 → is_leaf v i ≡ is_leaf t i
  same_leaf =
      each (λ (i : ℕ). is_leaf v i ≡ is_leaf t i) (λ j m. (agree t.count (omega arith) j m).leaf)
      (λ i l a b. ((grown.unset.at i l).past a).leaf ∙ sym ((g.unset.at i l).past b).leaf)

  same_longest : v.longest ≡ t.longest
  same_longest =
      ext_get_or 0 v.longest t.longest (grown.longests ∙ sym g.longests)
      (λ i l.
      each (λ (i : ℕ). longest_of v i ≡ longest_of t i) (λ j m. longest_agree t.count (omega arith) j m)
      (λ i l a b.
      (grown.unset.at i l).longest ((grown.unset.at i l).past a).leaf
      ∙ sym ((g.unset.at i l).longest ((g.unset.at i l).past b).leaf))
      i (omega (arith, grown.longests)))

  same_leaves : v.leaves ≡ t.leaves
  unfolding is_leaf
  same_leaves = set_ext v.leaves t.leaves grown.unset.word g.unset.word same_leaf

  same_tree : v ≡ t
  same_tree =
      same (tree_count s t.count) same_leaves same_parent same_weight same_longest (tree_follows s t.count ∙ first.1)
    where
      tree : ℕ → ℕ → List ℕ → List Weight → List ℕ → Bool → Tree
      tree c l p w m f = record { count = c; leaves = l; parent = p; weight = w; longest = m; follows = f }

      same : v.count ≡ t.count → v.leaves ≡ t.leaves → v.parent ≡ t.parent → v.weight ≡ t.weight → v.longest ≡ t.longest
          → v.follows ≡ t.follows
          → tree v.count v.leaves v.parent v.weight v.longest v.follows
          ≡ tree t.count t.leaves t.parent t.weight t.longest t.follows
      same a b c d e f = rw (a, b, c, d, e, f) refl

  closes : first_broken (closing_checks t) ≡ Ok tt
  closes =
      pass_over _ _ rules.closing.classes
      ∙ classes_passed (closing_of t) t.count
      (λ i l u. closing_passes t i (rules.closing.children i (class_in_lem t i l u)) (rules.closing.shares i (class_in_lem t i l u)))

  -- reading what was written gives the tree and the same length, whatever stands after it
  pub read_back : plan_of (plan_bytes t ++ x) ≡ record { verdict = Ok tt; used = length (plan_bytes t); tree = t }
  read_back =
      let n = t.count in
      let e = end_written x in
      let there = ap missing end_at ∙ e.0 in
      let known = ap (unknown Plan) end_at ∙ e.1 in
      let whole = ap cut end_at ∙ e.2 in
      let class = ap (λ (y : List ℕ). gives_class (kind_at y)) end_at ∙ e.3 in
      let rule = ap (λ (y : List ℕ). gives_rule (kind_at y)) end_at ∙ e.4 in
      let used : after s n + 1 ≡ length (plan_bytes t) =
      omega (arith, at n (omega arith), ap length (plan_as t), length-append (start ++ classes_bytes t n) (0 ∷ []))
      in
      plan_ended s n few (λ j l. record_passes j l) (record_end s (after s n) (tree_of s n) there known whole class rule) class
      ∙ ap (λ (w : Tree). outcome (first_broken (closing_checks w)) w (after s n + 1)) same_tree
      ∙ ap (λ (w : Verdict). outcome w t (after s n + 1)) closes
      ∙ ap (λ (m : ℕ). outcome (Ok tt) t m) used
