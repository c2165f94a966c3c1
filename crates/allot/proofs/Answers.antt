-- What was shared out class by class is the answer that the rules ask for (R71 to R85).
use mathlib.Core.Bool.{Bool, true, not}
use mathlib.Core.List.{List}
use mathlib.Core.Path.{◌≡◌, refl, sym, ap, ◌∙◌}
use Prim.Native.Nat.{ℕ, ◌+◌, ◌*◌, ◌≤◌, ◌<◌, min}
use native.Mathlib.Decide.{dec_le, ℕ_discrete}
use native.Mathlib.Omega.{arith}
use borrow.Author.Tests.{le-leb, lt-leb, ltb-false, not-false}
use Rattle.checks.specs.declared.Refusal.TheVariants.{NotSound, BadCapacity}
use Rattle.checks.specs.declared.Refusal.{Refusal}
use Rattle.std.specs.Prelude.{Ok, Err}
use Rattle.checks.specs.Check.{check, first_broken, class_by_class, Exactly, refusal_at}
use Rattle.checks.proofs.Laws.{not_both, passed_parts, classes_each}
use Rattle.tree.specs.declared.Tree.{Tree}
use Rattle.tree.specs.Class.{parent_of, weight_of, is_leaf, children_sum}
use Rattle.tree.specs.Rules.{PlanRules}
use Rattle.tree.proofs.Classes.{class_range}
use Rattle.allot.specs.declared.Allotted.{Allotted}
use Rattle.allot.specs.declared.Shares.{Shares}
use Rattle.allot.specs.Request.{entry, request_of}
use Rattle.allot.specs.Share.{share_at, Fits, Largest}
use Rattle.allot.specs.Rates.{Child, SharedBy}
use Rattle.tree.specs.Below.{Above}
use Rattle.allot.specs.Answer.{bad_capacity, bad_request, request_checks, range_checks, rate_checks, nothing_allotted, Tables, Rates}
use Rattle.allot.specs.Steps.{RequestsInRange, Requested, Settled, child_gets}
use Rattle.allot.proofs.Fair.{parent_inner, children_same}
use Rattle.allot.proofs.Requests.{requests_add}
use Rattle.allot.proofs.Settling.{gets_within}

-- what a child gets, by whether its parent's request is met
gets_met : (has asked request weight f : ℕ) → asked ≤ has → child_gets has asked request weight f ≡ request
unfolding child_gets
gets_met has asked request weight f h = rw (le-leb asked has h) refl

gets_unmet : (has asked request weight f : ℕ) → has < asked → child_gets has asked request weight f ≡ min request (weight * f)
unfolding child_gets
gets_unmet has asked request weight f h = rw (lt-leb asked has h) refl

-- F is the same for requests that agree at the children
pub largest_same : (t : Tree) (x y : ℕ → ℕ) (p has f : ℕ) → ((i : ℕ) → Child t p i → x i ≡ y i) → Largest (Fits t x p has) f
    → Largest (Fits t y p has) f
largest_same t x y p has f e l = record { holds = omega (arith, same f, l.holds); most = λ g h. l.most g (omega (arith, same g)) }
  where
    same : (g : ℕ) → children_sum t (share_at t x g) p ≡ children_sum t (share_at t y g) p
    same g = children_same t (share_at t x g) (share_at t y g) p (λ i c. ap (λ (n : ℕ). min n (weight_of t i * g)) (e i c))

module _ (t : Tree) (capacity : ℕ) (table requests : List ℕ) (s : Shares) (has : ℕ) (range : RequestsInRange t table)
    (q : Requested t table requests) (h : has ≡ min capacity (entry requests 0)) (st : Settled t (entry requests) has t.count s) where
  -- a class is asked for what it requests
  asks : (p i : ℕ) → Child t p i → entry requests i ≡ request_of t table i
  asks p i c = q.each i (class_range t i c.class).1

  part : (p i : ℕ) → Child t p i
      → entry s.gets i ≡ child_gets (entry s.gets p) (entry requests p) (entry requests i) (weight_of t i) (entry s.fair p)
  part p i c =
      let r = class_range t i c.class in
      rw c.parent at (st.part i r.0 r.1)

  -- no class gets more than it requests
  most : (p : ℕ) → p ≤ t.count → entry s.gets p ≤ entry requests p
  most p u = go (ℕ_discrete p 0)
    where
      go : Dec (p ≡ 0) → entry s.gets p ≤ entry requests p
      go (yes z) = rw z (omega (arith, st.root, h))
      go (no z) =
          omega (
            arith,
            st.part p (omega arith) u,
            gets_within (entry s.gets (parent_of t p)) (entry requests (parent_of t p)) (entry requests p) (weight_of t p)
                (entry s.fair (parent_of t p)),
          )

  met : (p i : ℕ) → request_of t table p ≤ entry s.gets p → Child t p i → entry s.gets i ≡ request_of t table i
  met p i m c =
      part p i c
      ∙ gets_met (entry s.gets p) (entry requests p) (entry requests i) (weight_of t i) (entry s.fair p)
      (omega (arith, q.each p (parent_inner t p i range.rules c).class))
      ∙ asks p i c

  share : (p i : ℕ) → entry s.gets p < request_of t table p → Child t p i
      → entry s.gets i ≡ share_at t (entry requests) (entry s.fair p) i
  share p i m c =
      part p i c
      ∙ gets_unmet (entry s.gets p) (entry requests p) (entry requests i) (weight_of t i) (entry s.fair p)
      (omega (arith, q.each p (parent_inner t p i range.rules c).class))

  left : (p : ℕ) → Above t p → entry s.unallotted p + children_sum t (entry s.gets) p ≡ entry s.gets p
  left p a = go (dec_le (request_of t table p) (entry s.gets p))
    where
      go : Dec (request_of t table p ≤ entry s.gets p) → entry s.unallotted p + children_sum t (entry s.gets) p ≡ entry s.gets p
      go (yes m) =
          omega (
            arith,
            (st.splits p a.class).met (omega (arith, q.each p a.class)),
            children_same t (entry s.gets) (request_of t table) p (λ i c. met p i m c),
            requests_add t range.rules table p a.inner,
            most p a.class,
            q.each p a.class,
          )
      go (no m) =
          omega (
            arith,
            (st.splits p a.class).rest a.inner (omega (arith, q.each p a.class)),
            children_same t (entry s.gets) (share_at t (entry requests) (entry s.fair p)) p (λ i c. share p i (omega arith) c),
          )

  unmet : (p : ℕ) → Above t p → entry s.gets p < request_of t table p
      → (f : ℕ) × SharedBy t (request_of t table) (entry s.gets) p f
  unmet p a m = (
    entry s.fair p,
    record {
      largest =
          largest_same t (entry requests) (request_of t table) p (entry s.gets p) (entry s.fair p) (λ i c. asks p i c)
          ((st.splits p a.class).unmet a.inner (omega (arith, q.each p a.class)));
      each = λ i c. share p i m c ∙ ap (λ (n : ℕ). min n (weight_of t i * entry s.fair p)) (asks p i c);
    },
  )

  pub shared_out_lem : Tables t capacity table (record { verdict = Ok tt; requests = requests; gets = s.gets; unallotted = s.unallotted })
  shared_out_lem = record {
    requests = q.each;
    allots = record {
      root = st.root ∙ h ∙ ap (λ (n : ℕ). min capacity n) (q.each 0 (omega arith));
      met = met;
      unmet = unmet;
      left = left;
      leaf = λ i leaf. at_leaf i leaf (dec_le i t.count);
    };
    past = λ i u. (q.past i u, (st.past i u).0, (st.past i u).1);
    entries = (q.entries, st.entries.0, st.entries.2);
  }
    where
      at_leaf : (i : ℕ) → is_leaf t i ≡ true → Dec (i ≤ t.count) → entry s.unallotted i ≡ 0
      at_leaf i leaf (yes u) = (st.splits i u).leaf leaf
      at_leaf i leaf (no u) = (st.past i (omega arith)).1

-- ---- the answer, refused or not

module _ (t : Tree) (capacity : ℕ) (table : List ℕ) (obeys : Bool) (exactly : Exactly obeys (PlanRules t)) where
  pub refused_rates : (n : Refusal) (place : ℕ) (r : Allotted) → Err (refusal_at n place) ≡ first_broken (rate_checks obeys t capacity table)
      → r ≡ nothing_allotted (Err (refusal_at n place))
      → Rates t capacity table r
  refused_rates n place r e is = record {
    obeys = obeys;
    exactly = exactly;
    verdict = said ∙ e;
    allotted = λ h. absurd (not_both h said);
    refused = λ m q h. is ∙ ap nothing_allotted (sym said ∙ h);
  }
    where
      said : r.verdict ≡ Err (refusal_at n place)
      said = ap (λ (x : Allotted). x.verdict) is

  pub allotted_rates : (r : Allotted) → first_broken (rate_checks obeys t capacity table) ≡ Ok tt → r.verdict ≡ Ok tt
      → Tables t capacity table r
      → Rates t capacity table r
  allotted_rates r e is a = record {
    obeys = obeys;
    exactly = exactly;
    verdict = is ∙ sym e;
    allotted = λ h. a;
    refused = λ m q h. absurd (not_both is h);
  }

-- where nothing is refused, the tree obeys the plan rules
pub passed_rules : (t : Tree) (capacity : ℕ) (table : List ℕ) (r : Allotted) → Rates t capacity table r → r.verdict ≡ Ok tt → PlanRules t
passed_rules t capacity table r a e =
    a.exactly.sound (not-false a.obeys
    (passed_parts (check NotSound (not a.obeys) 0) (range_checks t capacity table) (sym a.verdict ∙ e)).0)

-- and every leaf's request is in range
pub passed_in_range : (t : Tree) (capacity : ℕ) (table : List ℕ) → PlanRules t → first_broken (range_checks t capacity table) ≡ Ok tt
    → RequestsInRange t table
unfolding bad_request
passed_in_range t capacity table rules e = record {
  rules = rules;
  leaves = λ i is leaf.
      let r = class_range t i is in
      let said =
      classes_each (request_checks t table) t.count
      (passed_parts (check BadCapacity (bad_capacity capacity) 0) (class_by_class (request_checks t table) t.count) e).1 i r.0 r.1
      in
      ltb-false 1_000_000_000 (entry table i) (rw leaf at (passed_parts _ _ said).0);
}
