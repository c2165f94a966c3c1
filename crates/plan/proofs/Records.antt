-- Laws of records: the table of kinds, and what the head of a record says.
use mathlib.Core.Bool.{Bool, true, false, cond, ◌&&◌}
use mathlib.Core.List.{List}
use mathlib.Core.Logic.{◌⊎◌, inl, inr}
use mathlib.Core.Path.{◌≡◌, refl, sym, ap, subst, ◌∙◌}
use Prim.Native.Nat.{ℕ, ◌+◌, ◌-◌, ◌≤◌}
use native.Mathlib.Omega.{arith}
use lib.ListN.{length, take, drop, length-take, length-drop}
use lib.Dec.{eqb}
use borrow.Author.Tests.{ltb-false, eqb-true, eqb-false, eq-eqb, ne_eqb}
use Rattle.checks.proofs.Laws.{not_true_and_false}
use Rattle.tree.proofs.Classes.{both_true}
use Rattle.plan.specs.declared.kind.RecordKind.{RecordKind}
use Rattle.plan.specs.declared.kind.Given.{Given}
use Rattle.plan.specs.declared.kind.Given.TheVariants.{End, Inner, Leaf, Rule, Arrival, Send, SentClaim, IdleClaim, Nothing}
use Rattle.plan.specs.Kind.{kind_row, record_kind, class_given, rule_given, gives_class, gives_leaf, gives_rule, gives_arrival, gives_sent}
use Rattle.plan.specs.Record.{byte_at, kind_at, missing, cut, body_of, rule_of, late_rule, bad_rule}

-- the table of kinds, row by row
pub kind_cases : (P : ℕ → RecordKind → Type 0)
    → P 0 (kind_row 0 true false false End)
    → P 1 (kind_row 5 true false false Inner)
    → P 2 (kind_row 7 true false false Leaf)
    → P 3 (kind_row 1 true false false Rule)
    → P 16 (kind_row 7 false true true Arrival)
    → P 17 (kind_row 0 false true true Send)
    → P 18 (kind_row 7 false false true SentClaim)
    → P 19 (kind_row 0 false false true IdleClaim)
    → ((byte : ℕ) → P byte (kind_row 0 false false false Nothing))
    → (byte : ℕ) → P byte (record_kind byte)
unfolding record_kind
kind_cases P end inner leaf rule arrival send sent idle nothing byte =
    either 0 _ _ end
    (either 1 _ _ inner
    (either 2 _ _ leaf
    (either 3 _ _ rule
    (either 16 _ _ arrival
    (either 17 _ _ send
    (either 18 _ _ sent
    (either 19 _ _ idle (nothing byte))))))))
  where
    either : (n : ℕ) (k l : RecordKind) → P n k → P byte l → P byte (cond (eqb byte n) k l)
    either n k l p q = go (eqb byte n) refl
      where
        go : (b : Bool) → eqb byte n ≡ b → P byte (cond b k l)
        go true e = subst (λ (m : ℕ). P m k) (sym (eqb-true byte n e)) p
        go false e = q

-- a body is as long as its reader asks: 7 bytes of a leaf, 5 of an inner class, 1 of a rule, 7 of an arrival and of a claim that a packet
-- was sent
abbrev body_fits : RecordKind → Bool
body_fits k =
    cond (gives_class k) (eqb k.body (cond (gives_leaf k) 7 5)) true
    && (cond (gives_rule k) (eqb k.body 1) true
    && (cond (gives_arrival k) (eqb k.body 7) true && cond (gives_sent k) (eqb k.body 7) true))

-- so it is in every row of the table
table_fits : (byte : ℕ) → body_fits (record_kind byte) ≡ true
table_fits = kind_cases (λ (byte : ℕ) (k : RecordKind). body_fits k ≡ true) refl refl refl refl refl refl refl refl (λ byte. refl)

row_fits : (rest : List ℕ)
    → (cond (gives_class (kind_at rest)) (eqb (kind_at rest).body (cond (gives_leaf (kind_at rest)) 7 5)) true ≡ true)
    × (cond (gives_rule (kind_at rest)) (eqb (kind_at rest).body 1) true ≡ true)
    × (cond (gives_arrival (kind_at rest)) (eqb (kind_at rest).body 7) true ≡ true)
    × (cond (gives_sent (kind_at rest)) (eqb (kind_at rest).body 7) true ≡ true)
unfolding kind_at
row_fits rest =
    let h = both_true _ _ (table_fits (byte_at rest 0)) in
    let g = both_true _ _ h.1 in
    let packets = both_true _ _ g.1 in
    (h.0, g.0, packets.0, packets.1)

pub class_body : (rest : List ℕ) → gives_class (kind_at rest) ≡ true → (kind_at rest).body ≡ cond (gives_leaf (kind_at rest)) 7 5
class_body rest e = eqb-true _ _ (rw e at (row_fits rest).0)

pub rule_body : (rest : List ℕ) → gives_rule (kind_at rest) ≡ true → (kind_at rest).body ≡ 1
rule_body rest e = eqb-true _ _ (rw e at (row_fits rest).1)

pub arrival_body : (rest : List ℕ) → gives_arrival (kind_at rest) ≡ true → (kind_at rest).body ≡ 7
arrival_body rest e = eqb-true _ _ (rw e at (row_fits rest).2)

-- a class record gives no rule
pub class_no_rule : (k : RecordKind) → gives_class k ≡ true → gives_rule k ≡ false
class_no_rule k e = go k.gives e
  where
    go : (g : Given) → class_given g ≡ true → rule_given g ≡ false
    go End e = refl
    go Inner e = refl
    go Leaf e = refl
    go Rule e = absurd (not_true_and_false e refl)
    go Arrival e = refl
    go Send e = refl
    go SentClaim e = absurd (not_true_and_false e refl)
    go IdleClaim e = absurd (not_true_and_false e refl)
    go Nothing e = refl

pub and_no : (b : Bool) → (b && false) ≡ false
and_no true = refl
and_no false = refl

-- any record but a rule record breaks neither 18 nor 17
pub no_rule_late : (rest : List ℕ) (place : ℕ) → gives_rule (kind_at rest) ≡ false → late_rule rest place ≡ false
unfolding late_rule
no_rule_late rest place e = rw e

pub no_rule_bad : (rest : List ℕ) → gives_rule (kind_at rest) ≡ false → bad_rule rest ≡ false
unfolding bad_rule
no_rule_bad rest e = rw e

-- 18 is broken by a rule record at any place but 0
pub late_yes : (rest : List ℕ) (place : ℕ) → gives_rule (kind_at rest) ≡ true → (place ≡ 0 → ⊥) → late_rule rest place ≡ true
unfolding late_rule
late_yes rest place e z = rw (e, ne_eqb place 0 z)

pub late_first : (rest : List ℕ) (place : ℕ) → place ≡ 0 → late_rule rest place ≡ false
unfolding late_rule
late_first rest place z = rw (eq-eqb place 0 z) (and_no (gives_rule (kind_at rest)))

-- 17 is broken by a rule that is neither 1 nor 2
pub rule_right : (rest : List ℕ) → (rule_of rest ≡ 1) ⊎ (rule_of rest ≡ 2) → bad_rule rest ≡ false
unfolding bad_rule
rule_right rest (inl e) = rw e (and_no (gives_rule (kind_at rest)))
rule_right rest (inr e) = rw e (and_no (gives_rule (kind_at rest)))

pub rule_bad : (rest : List ℕ) → gives_rule (kind_at rest) ≡ true → (rule_of rest ≡ 1 → ⊥) → (rule_of rest ≡ 2 → ⊥) → bad_rule rest ≡ true
unfolding bad_rule
rule_bad rest e one two = rw (e, ne_eqb (rule_of rest) 1 one, ne_eqb (rule_of rest) 2 two)

pub sent_body : (rest : List ℕ) → gives_sent (kind_at rest) ≡ true → (kind_at rest).body ≡ 7
sent_body rest e = eqb-true _ _ (rw e at (row_fits rest).3)

-- a record that is not cut is as long as its kind says
pub whole_length : (rest : List ℕ) → cut rest ≡ false → 1 + (kind_at rest).body ≤ length rest
unfolding cut
whole_length rest e = ltb-false (length rest) (1 + (kind_at rest).body) e

-- the part of the rest from 1 to the end of the record is its body
pub body_part : (rest : List ℕ) (end : ℕ) → end ≡ 1 + (kind_at rest).body → take (end - 1) (drop 1 rest) ≡ body_of rest
unfolding body_of
body_part rest end e =
    let h : end - 1 ≡ (kind_at rest).body = omega arith in
    ap (λ (n : ℕ). take n (drop 1 rest)) h

pub body_length : (rest : List ℕ) → cut rest ≡ false → length (body_of rest) ≡ (kind_at rest).body
unfolding body_of
body_length rest e =
    length-take (kind_at rest).body (drop 1 rest) ∙ omega (arith, length-drop 1 rest, whole_length rest e)

-- a kind byte that is there makes the rest at least one byte long
pub there_length : (rest : List ℕ) → missing rest ≡ false → 1 ≤ length rest
unfolding missing
there_length rest e = let ne = eqb-false (length rest) 0 e in omega (arith, ne)
