-- Writing what an accepted plan gave: the bytes that the reader used, less a rule 1 record (R265). Demand 1.
use mathlib.Core.Bool.{Bool, true, false, ◌&&◌, ◌||◌, not}
use mathlib.Core.List.{List, [], ◌∷◌, ◌++◌, append_assoc, append-nil}
use mathlib.Core.Logic.{◌⊎◌, inl, inr, ◌↔◌}
use mathlib.Core.Path.{◌≡◌, refl, sym, ap, ap₂, subst, ◌∙◌}
use Prim.Native.Nat.{ℕ, zero, suc, ◌+◌, ◌≤◌, ◌<◌}
use native.Mathlib.Omega.{arith}
use lib.Dec.{eqb}
use lib.ListN.{length, take, drop, length-drop}
use borrow.Author.Tests.{eqb-true}
use lib.Seq.{take-add, get_or-take, get_or-drop, drop_at, length-take-le}
use Rattle.std.specs.Prelude.{Ok}
use Rattle.checks.proofs.Laws.{not_true_and_false}
use Rattle.tree.specs.declared.Tree.{Tree}
use Rattle.tree.specs.declared.Class.{Class}
use Rattle.tree.proofs.Classes.{both_true}
use Rattle.plan.specs.declared.PlanRead.{PlanRead}
use Rattle.plan.specs.Kind.{record_kind, gives_rule}
use Rattle.plan.specs.Record.{byte_at, kind_at, rule_of, bad_rule, class_at}
use Rattle.plan.specs.Reader.{rule_first, follows_of, after, tree_of, passes, passed_over, plan_of}
use Rattle.plan.specs.Rows.{rest_of}
use Rattle.plan.proofs.Records.{rule_body, class_no_rule, there_length}
use Rattle.plan.proofs.Reading.{taken, pass_parts, RuleRecord, first_parts, start_within, tree_count}
use Rattle.plan.proofs.Numbers.{ClassIs, plan_order, tree_follows, Accepted, accepted}
use Rattle.written.specs.Bytes.{rule_bytes, class_bytes, classes_bytes, plan_bytes}
use Rattle.written.proofs.Lengths.{plan_as}
use Rattle.written.proofs.Records.{after_suc, Bytes, record_of, class_back, end_back, rule_back}

-- how a plan begins: without a rule record, or with one
no_start : (s : List ℕ) → rule_first s ≡ false → after s 0 ≡ 0
unfolding after
no_start s f = rw f

no_follows : (s : List ℕ) → rule_first s ≡ false → follows_of s ≡ false
unfolding follows_of
no_follows s f = rw f

rule_start : (s : List ℕ) → rule_first s ≡ true → after s 0 ≡ 2
unfolding after
rule_start s f = rw f (ap (λ (n : ℕ). 1 + n) (rule_body s (first_parts s f).gives))

yes_follows : (s : List ℕ) → rule_first s ≡ true → rule_of s ≡ 2 → follows_of s ≡ true
unfolding follows_of
yes_follows s f e = rw (f, e)

one_follows : (s : List ℕ) → rule_first s ≡ true → rule_of s ≡ 1 → follows_of s ≡ false
unfolding follows_of
one_follows s f e = rw (f, e)

first_two : (s : List ℕ) → rule_first s ≡ true → take 2 s ≡ 3 ∷ rule_of s ∷ []
first_two s f =
    let r = first_parts s f in
    ap (λ (n : ℕ). take (1 + n) s) (sym (rule_body s r.gives)) ∙ rule_back s r.gives r.whole

-- its rule is 1 or 2
rule_is : (s : List ℕ) → RuleRecord s → (rule_of s ≡ 1) ⊎ (rule_of s ≡ 2)
unfolding bad_rule
rule_is s r = go (eqb (rule_of s) 1) refl (eqb (rule_of s) 2) refl
    (sym (ap (λ (b : Bool). b && not (eqb (rule_of s) 1 || eqb (rule_of s) 2)) r.gives) ∙ r.right)
  where
    go : (a : Bool) → eqb (rule_of s) 1 ≡ a → (b : Bool) → eqb (rule_of s) 2 ≡ b → not (a || b) ≡ false → (rule_of s ≡ 1) ⊎ (rule_of s ≡ 2)
    go true e b f h = inl (eqb-true (rule_of s) 1 e)
    go false e true f h = inr (eqb-true (rule_of s) 2 f)
    go false e false f h = absurd (not_true_and_false refl h)

gives_rule_lem : (s : List ℕ) → byte_at s 0 ≡ 3 → gives_rule (kind_at s) ≡ true
unfolding kind_at record_kind
gives_rule_lem s e = rw e

-- the record of a class
class_same : (t : Tree) (i : ℕ) (c : Class) → ClassIs t i c → record_of c ≡ class_bytes t i
unfolding class_bytes
class_same t i c h = rw (h.leaf, h.parent, h.weight, h.longest)

module _ (s : List ℕ) (bytes : Bytes s) where
  rest_bytes : (n : ℕ) → Bytes (drop n s)
  rest_bytes n i = omega (arith, get_or-drop n s i 0, bytes (n + i))

  -- the first n class records that passed
  classes_back : (t : Tree) (n : ℕ) → ((j : ℕ) → j < n → passes s j ≡ true)
      → ((j : ℕ) → j < n → ClassIs t (suc j) (class_at (rest_of s j)))
      → take (after s n) s ≡ take (after s 0) s ++ classes_bytes t n
  unfolding classes_bytes
  classes_back t zero below is = sym (append-nil (take (after s 0) s))
  classes_back t (suc n) below is =
      let rest = rest_of s n in
      let on : after s (suc n) ≡ after s n + (1 + (kind_at rest).body) = after_suc s n in
      let here = class_back rest (pass_parts s n (below n (omega arith))).0 (taken s n (below n (omega arith))).whole
      (rest_bytes (after s n)) in
      ap (λ (k : ℕ). take k s) on
      ∙ take-add (after s n) (1 + (kind_at rest).body) s
      ∙ ap₂ (λ (x y : List ℕ). x ++ y) (classes_back t n (λ j u. below j (omega arith)) (λ j u. is j (omega arith)))
      (here ∙ class_same t (suc n) (class_at rest) (is n (omega arith)))
      ∙ append_assoc (take (after s 0) s) (classes_bytes t n) (class_bytes t (suc n))

  module _ (passed : (plan_of s).verdict ≡ Ok tt) where
    -- the reader used no byte past the input
    pub used_within : (plan_of s).used ≤ length s
    used_within =
        let a = accepted s passed in
        let k = passed_over s in
        omega
        (arith, ap (λ (r : PlanRead). r.used) a.answer, there_length (rest_of s k) a.ended.record'.there, length-drop (after s k) s)

    -- all the bytes used
    used_bytes : take (plan_of s).used s ≡ take (after s 0) s ++ (classes_bytes (plan_of s).tree (plan_of s).tree.count ++ (0 ∷ []))
    used_bytes =
        let a = accepted s passed in
        let k = passed_over s in
        let w = a.ended.record' in
        let u = tree_of s k in
        let classes = classes_back u k w.reached.below (λ j l. plan_order s k w.reached.most j l) in
        let end = end_back (rest_of s k) w.there w.known a.ended.end a.ended.rule in
        let all : take (after s k + 1) s ≡ take (after s 0) s ++ (classes_bytes u u.count ++ (0 ∷ [])) =
        take-add (after s k) 1 s
        ∙ ap₂ (λ (x y : List ℕ). x ++ y) classes end
        ∙ append_assoc (take (after s 0) s) (classes_bytes u k) (0 ∷ [])
        ∙ ap (λ (n : ℕ). take (after s 0) s ++ (classes_bytes u n ++ (0 ∷ []))) (sym (tree_count s k))
        in
        subst
        (λ (r : PlanRead). take r.used s ≡ take (after s 0) s ++ (classes_bytes r.tree r.tree.count ++ (0 ∷ [])))
        (sym a.answer) all

    -- the rule that was read
    rule_follows : (plan_of s).tree.follows ≡ follows_of s
    rule_follows =
        ap (λ (r : PlanRead). r.tree.follows) (accepted s passed).answer ∙ tree_follows s (passed_over s)

    -- writing gives the bytes used, with a rule record for rule 2 in place of any that was read
    pub written_again : plan_bytes (plan_of s).tree
        ≡ rule_bytes (plan_of s).tree.follows ++ drop (after s 0) (take (plan_of s).used s)
    written_again =
        let t = (plan_of s).tree in
        let y = classes_bytes t t.count ++ (0 ∷ []) in
        let start = length-take-le (after s 0) s (start_within s) in
        plan_as t
        ∙ append_assoc (rule_bytes t.follows) (classes_bytes t t.count) (0 ∷ [])
        ∙ ap (λ (z : List ℕ). rule_bytes t.follows ++ z)
        (sym (ap (drop (after s 0)) used_bytes ∙ drop_at (take (after s 0) s) y (after s 0) start))

    -- where the rule record that was read is the one that is written, the bytes are the same
    same_start : take (after s 0) s ≡ rule_bytes (plan_of s).tree.follows → plan_bytes (plan_of s).tree ≡ take (plan_of s).used s
    same_start e =
        let t = (plan_of s).tree in
        plan_as t
        ∙ append_assoc (rule_bytes t.follows) (classes_bytes t t.count) (0 ∷ [])
        ∙ ap (λ (z : List ℕ). z ++ (classes_bytes t t.count ++ (0 ∷ []))) (sym e)
        ∙ sym used_bytes

    -- an accepted plan that begins with kind 3 begins with a rule that was read
    rule_was_read : byte_at s 0 ≡ 3 → rule_first s ≡ true
    rule_was_read e = go (rule_first s) refl (passed_over s) (accepted s passed)
      where
        rule : (b : Bool) → rule_first s ≡ false → gives_rule (kind_at (rest_of s 0)) ≡ b → b ≡ true
        rule b f g = sym g ∙ ap (λ (l : List ℕ). gives_rule (kind_at l)) (ap (λ (n : ℕ). drop n s) (no_start s f)) ∙ gives_rule_lem s e

        go : (b : Bool) → rule_first s ≡ b → (k : ℕ) → Accepted s k → b ≡ true
        go true f k a = refl
        go false f zero a = absurd (not_true_and_false (rule false f a.ended.rule) refl)
        go false f (suc k) a =
            let first = (pass_parts s 0 (a.ended.record'.reached.below 0 (omega arith))).0 in
            absurd (not_true_and_false (rule false f (class_no_rule (kind_at (rest_of s 0)) first)) refl)

    -- the bytes that the reader used, for a plan that does not begin with a rule 1 record
    pub same_bytes : (take 2 s ≡ 3 ∷ 1 ∷ [] → ⊥) → plan_bytes (plan_of s).tree ≡ take (plan_of s).used s
    same_bytes other = go (rule_first s) refl
      where
        go : (b : Bool) → rule_first s ≡ b → plan_bytes (plan_of s).tree ≡ take (plan_of s).used s
        go false f =
            same_start (ap (λ (n : ℕ). take n s) (no_start s f) ∙ sym (ap rule_bytes (rule_follows ∙ no_follows s f)))
        go true f = rule (rule_is s (first_parts s f))
          where
            rule : (rule_of s ≡ 1) ⊎ (rule_of s ≡ 2) → plan_bytes (plan_of s).tree ≡ take (plan_of s).used s
            rule (inl one) = absurd (other (first_two s f ∙ ap (λ (n : ℕ). 3 ∷ n ∷ []) one))
            rule (inr two) =
                same_start
                (ap (λ (n : ℕ). take n s) (rule_start s f) ∙ first_two s f ∙ ap (λ (n : ℕ). 3 ∷ n ∷ []) two
                ∙ sym (ap rule_bytes (rule_follows ∙ yes_follows s f two)))

    -- and those bytes less that record, for one that does
    pub less_rule : take 2 s ≡ 3 ∷ 1 ∷ [] → plan_bytes (plan_of s).tree ≡ drop 2 (take (plan_of s).used s)
    less_rule e =
        let f = rule_was_read (sym (get_or-take 2 s 0 0 (omega arith)) ∙ ap (λ (l : List ℕ). byte_at l 0) e) in
        let one : rule_of s ≡ 1 = ap (λ (l : List ℕ). byte_at l 1) (sym (first_two s f) ∙ e) in
        written_again
        ∙ ap₂ (λ (b : Bool) (n : ℕ). rule_bytes b ++ drop n (take (plan_of s).used s)) (rule_follows ∙ one_follows s f one) (rule_start s f)

    -- the tree read has rule 2 exactly where the plan begins with a rule 2 record
    pub rule_2_exactly : ((plan_of s).tree.follows ≡ true) ↔ (take 2 s ≡ 3 ∷ 2 ∷ [])
    unfolding follows_of
    rule_2_exactly = (
      λ e.
          let h = both_true (rule_first s) (eqb (rule_of s) 2) (sym rule_follows ∙ e) in
          first_two s h.0 ∙ ap (λ (n : ℕ). 3 ∷ n ∷ []) (eqb-true (rule_of s) 2 h.1),
      λ e.
          let f = rule_was_read (sym (get_or-take 2 s 0 0 (omega arith)) ∙ ap (λ (l : List ℕ). byte_at l 0) e) in
          rule_follows ∙ yes_follows s f (ap (λ (l : List ℕ). byte_at l 1) (sym (first_two s f) ∙ e)),
    )
