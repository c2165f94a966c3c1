-- Two answers to the same question are equal, whatever the tables of requests have at numbers that are no leaf's (R69).
use mathlib.Core.Bool.{Bool, true, false, cond, ◌&&◌, not}
use mathlib.Core.List.{List, [], ◌∷◌}
use mathlib.Core.Logic.{◌⊎◌, inl, inr}
use mathlib.Core.Path.{◌≡◌, refl, sym, ap, ◌∙◌}
use Prim.Native.Nat.{ℕ, zero, suc, ◌*◌, ◌≤◌, ◌<◌, min}
use native.Mathlib.Decide.{dec_le, ℕ_discrete}
use native.Mathlib.Omega.{arith}
use lib.Dec.{ltb}
use lib.Seq.{ext_get_or}
use Rattle.checks.specs.declared.Refusal.TheVariants.{NotSound, BadCapacity, BadRequest}
use Rattle.checks.specs.declared.Refusal.{Refusal}
use Rattle.std.specs.Prelude.{Ok, Err}
use Rattle.checks.specs.Check.{Check, check, first_broken, Verdict, refusal_at}
use Rattle.checks.proofs.Laws.{refused_or_passed, not_true_and_false, exactly_unique, classes_same}
use Rattle.tree.specs.declared.Tree.{Tree}
use Rattle.tree.specs.Class.{parent_of, weight_of, is_class, is_leaf}
use Rattle.tree.specs.Below.{at_or_below, leaf_below, leaves_sum, Above}
use Rattle.tree.specs.Rules.{PlanRules}
use Rattle.tree.proofs.Classes.{class_in_lem, class_range}
use Rattle.tree.proofs.Rules.{parent_lower}
use Rattle.tree.proofs.Sums.{sum_same}
use Rattle.allot.specs.declared.Allotted.{Allotted}
use Rattle.allot.specs.Request.{entry, request_of, SameAtLeaves}
use Rattle.allot.specs.Share.{Fits, Largest}
use Rattle.allot.specs.Rates.{Child, Allots}
use Rattle.allot.specs.Answer.{bad_capacity, bad_request, request_checks, rate_checks, Tables, Rates}
use Rattle.allot.proofs.Fair.{parent_inner, children_same, fair_unique}
use Rattle.tree.proofs.Leaves.{root_no_leaf}
use Rattle.allot.proofs.Answers.{largest_same, passed_rules}

-- ---- only the leaves' entries are read

-- two tables that agree at the leaves give the same requests
same_requests : (t : Tree) (x y : List ℕ) → PlanRules t → SameAtLeaves t x y → (i : ℕ) → i ≤ t.count → request_of t x i ≡ request_of t y i
unfolding request_of leaves_sum leaf_below
same_requests t x y rules same i u = go (is_leaf t i) refl
  where
    leaf : (j : ℕ) → is_class t j ≡ true → (a b : Bool) → is_leaf t j ≡ a → cond (a && b) (entry x j) 0 ≡ cond (a && b) (entry y j) 0
    leaf j is true true e = same.at j is e
    leaf j is true false e = refl
    leaf j is false b e = refl

    least : is_leaf t i ≡ true → Dec (i ≡ 0) → 1 ≤ i
    least e (yes z) = absurd (not_true_and_false (rw z at e) (root_no_leaf t rules))
    least e (no z) = omega arith

    go : (b : Bool) → is_leaf t i ≡ b
        → cond b (entry x i) (leaves_sum t (entry x) i) ≡ cond b (entry y i) (leaves_sum t (entry y) i)
    go true e = same.at i (class_in_lem t i (least e (ℕ_discrete i 0)) u) e
    go false e =
        sum_same (leaf_below t (entry x) i) (leaf_below t (entry y) i) t.count
        (λ j l v. leaf j (class_in_lem t j l v) (is_leaf t j) (at_or_below t i j) refl)

-- the same verdict
same_verdict : (t : Tree) (capacity : ℕ) (x y : List ℕ) (obeys : Bool) → SameAtLeaves t x y
    → first_broken (rate_checks obeys t capacity x) ≡ first_broken (rate_checks obeys t capacity y)
unfolding bad_request
same_verdict t capacity x y obeys same =
    ap (λ (cs : List Check). first_broken (check NotSound (not obeys) 0 ∷ check BadCapacity (bad_capacity capacity) 0 ∷ cs))
    (classes_same (request_checks t x) (request_checks t y) t.count
    (λ i l u. ap (λ (b : Bool). check BadRequest b i ∷ []) (go i (class_in_lem t i l u) (is_leaf t i) refl)))
  where
    go : (i : ℕ) → is_class t i ≡ true → (b : Bool) → is_leaf t i ≡ b
        → (b && ltb 1_000_000_000 (entry x i)) ≡ (b && ltb 1_000_000_000 (entry y i))
    go i is true e = ap (λ (n : ℕ). ltb 1_000_000_000 n) (same.at i is e)
    go i is false e = refl

-- and the same tables
same_tables : (t : Tree) (capacity : ℕ) (x y : List ℕ) (r : Allotted) → PlanRules t → SameAtLeaves t x y → Tables t capacity x r
    → Tables t capacity y r
same_tables t capacity x y r rules same tables = record {
  requests = λ i u. tables.requests i u ∙ eq i u;
  allots = record {
    root = a.root ∙ ap (λ (n : ℕ). min capacity n) (eq 0 (omega arith));
    met = λ p i m c. a.met p i (omega (arith, eq p (parent_inner t p i rules c).class)) c ∙ child p i c;
    unmet = λ p b u.
        let w = a.unmet p b (omega (arith, eq p b.class)) in (
          w.0,
          record {
            largest = largest_same t (request_of t x) (request_of t y) p (entry r.gets p) w.0 (child p) w.1.largest;
            each = λ i c. w.1.each i c ∙ ap (λ (n : ℕ). min n (weight_of t i * w.0)) (child p i c);
          },
        );
    left = a.left;
    leaf = a.leaf;
  };
  past = tables.past;
  entries = tables.entries;
}
  where
    a : Allots t capacity (request_of t x) (entry r.gets) (entry r.unallotted)
    a = tables.allots

    eq : (i : ℕ) → i ≤ t.count → request_of t x i ≡ request_of t y i
    eq = same_requests t x y rules same

    child : (p i : ℕ) → Child t p i → request_of t x i ≡ request_of t y i
    child p i c = eq i (class_range t i c.class).1

-- ---- one answer

-- classes that have the same have the same F
fair_same : (t : Tree) (request : ℕ → ℕ) (p a b f g : ℕ) → a ≡ b → Largest (Fits t request p a) f → Largest (Fits t request p b) g → f ≡ g
fair_same t request p a b f g e l m = fair_unique t request p a f g l (rw e m)

module _ (t : Tree) (capacity : ℕ) (request gets left gets' left' : ℕ → ℕ) (rules : PlanRules t) (a : Allots t capacity request gets left)
    (b : Allots t capacity request gets' left') where
  -- from the root down each class gets the same
  pub same_gets : (n k : ℕ) → k ≤ n → k ≤ t.count → gets k ≡ gets' k
  same_gets zero k l u =
      let z : k ≡ 0 = omega arith in
      rw z (a.root ∙ sym b.root)
  same_gets (suc n) k l u = go (ℕ_discrete k 0) (λ j x y. same_gets n j x y)
    where
      go : Dec (k ≡ 0) → ((j : ℕ) → j ≤ n → j ≤ t.count → gets j ≡ gets' j) → gets k ≡ gets' k
      go (yes z) ih = rw z (a.root ∙ sym b.root)
      go (no z) ih = on (dec_le (request (parent_of t k)) (gets (parent_of t k)))
        where
          c : Child t (parent_of t k) k
          c = record { class = class_in_lem t k (omega arith) u; parent = refl }

          low : parent_of t k < k
          low = parent_lower t k rules c.class

          had : gets (parent_of t k) ≡ gets' (parent_of t k)
          had = ih (parent_of t k) (omega (arith, low)) (omega (arith, low))

          on : Dec (request (parent_of t k) ≤ gets (parent_of t k)) → gets k ≡ gets' k
          on (yes m) = a.met (parent_of t k) k m c ∙ sym (b.met (parent_of t k) k (omega (arith, had)) c)
          on (no m) =
              let above = parent_inner t (parent_of t k) k rules c in
              let v = a.unmet (parent_of t k) above (omega arith) in
              let w = b.unmet (parent_of t k) above (omega (arith, had)) in
              let one =
              fair_same t request (parent_of t k) (gets (parent_of t k)) (gets' (parent_of t k)) v.0 w.0 had v.1.largest
              w.1.largest
              in
              v.1.each k c ∙ ap (λ (f : ℕ). min (request k) (weight_of t k * f)) one ∙ sym (w.1.each k c)

  -- and at each the same stays unallotted
  pub same_left : (k : ℕ) → k ≤ t.count → left k ≡ left' k
  same_left k u = go (is_leaf t k) refl
    where
      go : (x : Bool) → is_leaf t k ≡ x → left k ≡ left' k
      go true e = a.leaf k e ∙ sym (b.leaf k e)
      go false e =
          let inner : Above t k = record { class = u; inner = e } in
          omega (
            arith,
            a.left k inner,
            b.left k inner,
            same_gets k k (omega arith) u,
            children_same t gets gets' k (λ i c. same_gets i i (omega arith) (class_range t i c.class).1),
          )

-- so the tables are the same
pub tables_one_answer : (t : Tree) (capacity : ℕ) (table : List ℕ) (r s : Allotted) → PlanRules t → Tables t capacity table r
    → Tables t capacity table s
    → r.verdict ≡ s.verdict → r ≡ s
tables_one_answer t capacity table r s rules a b v =
    let x : r.requests ≡ s.requests =
    ext_get_or 0 r.requests s.requests (a.entries.0 ∙ sym b.entries.0) (λ k l. requests k (dec_le k t.count))
    in
    let y : r.gets ≡ s.gets = ext_get_or 0 r.gets s.gets (a.entries.1 ∙ sym b.entries.1) (λ k l. gets k (dec_le k t.count)) in
    let z : r.unallotted ≡ s.unallotted =
    ext_get_or 0 r.unallotted s.unallotted (a.entries.2 ∙ sym b.entries.2) (λ k l. left k (dec_le k t.count))
    in
    same v x y z
  where
    requests : (k : ℕ) → Dec (k ≤ t.count) → entry r.requests k ≡ entry s.requests k
    requests k (yes u) = a.requests k u ∙ sym (b.requests k u)
    requests k (no u) = (a.past k (omega arith)).0 ∙ sym (b.past k (omega arith)).0

    gets : (k : ℕ) → Dec (k ≤ t.count) → entry r.gets k ≡ entry s.gets k
    gets k (yes u) =
        same_gets t capacity (request_of t table) (entry r.gets) (entry r.unallotted) (entry s.gets) (entry s.unallotted) rules
        a.allots b.allots k k (omega arith) u
    gets k (no u) = (a.past k (omega arith)).1 ∙ sym (b.past k (omega arith)).1

    left : (k : ℕ) → Dec (k ≤ t.count) → entry r.unallotted k ≡ entry s.unallotted k
    left k (yes u) =
        same_left t capacity (request_of t table) (entry r.gets) (entry r.unallotted) (entry s.gets) (entry s.unallotted) rules
        a.allots b.allots k u
    left k (no u) = (a.past k (omega arith)).2 ∙ sym (b.past k (omega arith)).2

    answer : Verdict → List ℕ → List ℕ → List ℕ → Allotted
    answer v x y z = record { verdict = v; requests = x; gets = y; unallotted = z }

    same : r.verdict ≡ s.verdict → r.requests ≡ s.requests → r.gets ≡ s.gets → r.unallotted ≡ s.unallotted
        → answer r.verdict r.requests r.gets r.unallotted ≡ answer s.verdict s.requests s.gets s.unallotted
    same v x y z = rw (v, x, y, z) refl

-- any two answers that the contract allows are equal, also for two tables that agree at the leaves
pub only_leaves_read : (t : Tree) (capacity : ℕ) (x y : List ℕ) (r s : Allotted) → SameAtLeaves t x y → Rates t capacity x r
    → Rates t capacity y s → r ≡ s
only_leaves_read t capacity x y r s same a b = go (refused_or_passed r.verdict)
  where
    verdict : r.verdict ≡ s.verdict
    verdict =
        a.verdict
        ∙ ap (λ (o : Bool). first_broken (rate_checks o t capacity x)) (exactly_unique a.exactly b.exactly)
        ∙ same_verdict t capacity x y b.obeys same
        ∙ sym b.verdict

    go : (r.verdict ≡ Ok tt) ⊎ ((n : Refusal) × (p : ℕ) × (r.verdict ≡ Err (refusal_at n p))) → r ≡ s
    go (inl e) =
        let rules = passed_rules t capacity x r a e in
        tables_one_answer t capacity y r s rules (same_tables t capacity x y r rules same (a.allotted e))
        (b.allotted (sym verdict ∙ e)) verdict
    go (inr e) = a.refused e.0 e.1 e.2 ∙ sym (b.refused e.0 e.1 (sym verdict ∙ e.2))

pub rates_one_answer : (t : Tree) (capacity : ℕ) (table : List ℕ) (r s : Allotted) → Rates t capacity table r → Rates t capacity table s
    → r ≡ s
rates_one_answer t capacity table r s a b = only_leaves_read t capacity table table r s (record { at = λ i is leaf. refl }) a b
