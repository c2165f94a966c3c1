-- One record: reading what was written, and writing what was read.
use mathlib.Core.Bool.{Bool, true, false, cond, not}
use mathlib.Core.List.{List, [], ◌∷◌, ◌++◌}
use mathlib.Core.Logic.{◌⊎◌, inl, inr}
use mathlib.Core.Path.{◌≡◌, refl, sym, ap, ap₂, ◌∙◌}
use Prim.Native.Nat.{ℕ, suc, ◌+◌, ◌*◌, ◌/◌, ◌%◌, ◌≤◌, ◌<◌}
use native.Mathlib.Omega.{arith}
use lib.ListN.{length, take, drop, length-append}
use borrow.Author.Tests.{ne_eqb, le-ltb}
use Rattle.checks.proofs.Laws.{not_true_and_false}
use Rattle.tree.specs.declared.Class.{Class}
use Rattle.plan.specs.declared.kind.RecordKind.{RecordKind}
use Rattle.plan.specs.declared.kind.Given.TheVariants.{Inner, Leaf, Rule}
use Rattle.plan.specs.declared.kind.Section.TheVariants.{Plan}
use Rattle.plan.specs.Kind.{kind_row, record_kind, gives_class, gives_rule}
use Rattle.plan.specs.Record.{byte_at, number16, number32, kind_at, missing, unknown, cut, body_of, rule_of, class_at}
use Rattle.plan.specs.Reader.{after}
use Rattle.plan.proofs.Records.{kind_cases, whole_length, there_length}
use Rattle.written.specs.Bytes.{bytes16, bytes32, inner_bytes, leaf_bytes, record_bytes}
use Rattle.written.proofs.Lengths.{record_length}

-- the class of a record
abbrev pub record_class : Bool → ℕ → ℕ → ℕ → Class
record_class leaf parent weight longest = record {
  parent = parent;
  weight = record { 0 = weight };
  longest = cond leaf longest 0;
  leaf = leaf;
}

-- the place after one class record more
pub after_suc : (s : List ℕ) (n : ℕ) → after s (suc n) ≡ after s n + (1 + (kind_at (drop (after s n) s)).body)
unfolding after
after_suc s n = omega arith

-- a class record that was written is whole, and gives its class
module _ (leaf : Bool) (p w l : ℕ) (z : List ℕ) where
  abbrev rest : List ℕ
  rest = record_bytes leaf p w l ++ z

  pub written_kind : kind_at rest ≡ cond leaf (kind_row 7 true false false Leaf) (kind_row 5 true false false Inner)
  unfolding kind_at record_kind
  written_kind = go leaf
    where
      go : (b : Bool) → record_kind (byte_at (record_bytes b p w l ++ z) 0) ≡ cond b (kind_row 7 true false false Leaf)
          (kind_row 5 true false false Inner)
      go true = refl
      go false = refl

  pub written_body : 1 + (kind_at rest).body ≡ length (record_bytes leaf p w l)
  written_body = ap (λ (k : RecordKind). 1 + k.body) written_kind ∙ body leaf ∙ sym (record_length leaf p w l)
    where
      body : (b : Bool) → 1 + (cond b (kind_row 7 true false false Leaf) (kind_row 5 true false false Inner)).body ≡ cond b 8 6
      body true = refl
      body false = refl

  written_long : 1 + (kind_at rest).body ≤ length rest
  written_long = omega (arith, written_body, length-append (record_bytes leaf p w l) z)

  pub written_there : missing rest ≡ false
  unfolding missing
  written_there = ne_eqb (length rest) 0 (λ e. omega (arith, written_long))

  pub written_known : unknown Plan rest ≡ false
  unfolding unknown
  written_known = ap (λ (k : RecordKind). not k.plan) written_kind ∙ go leaf
    where
      go : (b : Bool) → not (cond b (kind_row 7 true false false Leaf) (kind_row 5 true false false Inner)).plan ≡ false
      go true = refl
      go false = refl

  pub written_whole : cut rest ≡ false
  unfolding cut
  written_whole = le-ltb (length rest) (1 + (kind_at rest).body) written_long

  pub written_gives : gives_class (kind_at rest) ≡ true
  written_gives = ap gives_class written_kind ∙ go leaf
    where
      go : (b : Bool) → gives_class (cond b (kind_row 7 true false false Leaf) (kind_row 5 true false false Inner)) ≡ true
      go true = refl
      go false = refl

  pub written_class : class_at rest ≡ record_class leaf p w l
  unfolding class_at body_of kind_at record_kind
  written_class = go leaf
    where
      four : w / 16_777_216 * 16_777_216 + w / 65_536 % 256 * 65_536 + w / 256 % 256 * 256 + w % 256 ≡ w
      four = omega arith

      two : l / 256 * 256 + l % 256 ≡ l
      two = omega arith

      go : (b : Bool) → class_at (record_bytes b p w l ++ z) ≡ record_class b p w l
      go true =
          ap₂ (λ (x y : ℕ). record { parent = p; weight = record { 0 = x }; longest = y; leaf = true }) four two
      go false = ap (λ (x : ℕ). record { parent = p; weight = record { 0 = x }; longest = 0; leaf = false }) four

-- ---- writing what was read

-- a list of bytes
abbrev pub Bytes : List ℕ → Type 0
Bytes s = (i : ℕ) → byte_at s i < 256

-- which kind bytes give a class, which a rule, and which ends a plan
class_kind : (byte : ℕ) → gives_class (record_kind byte) ≡ true → (byte ≡ 1) ⊎ (byte ≡ 2)
class_kind =
    kind_cases (λ (byte : ℕ) (k : RecordKind). gives_class k ≡ true → (byte ≡ 1) ⊎ (byte ≡ 2)) none (λ e. inl refl) (λ e. inr refl) none none
    none none none (λ byte. none)
  where
    none : {A : Type 0} → false ≡ true → A
    none e = absurd (not_true_and_false e refl)

rule_kind : (byte : ℕ) → gives_rule (record_kind byte) ≡ true → byte ≡ 3
rule_kind =
    kind_cases (λ (byte : ℕ) (k : RecordKind). gives_rule k ≡ true → byte ≡ 3) none none none (λ e. refl) none none none none (λ byte. none)
  where
    none : {A : Type 0} → false ≡ true → A
    none e = absurd (not_true_and_false e refl)

end_kind : (byte : ℕ) → not (record_kind byte).plan ≡ false → gives_class (record_kind byte) ≡ false → gives_rule (record_kind byte) ≡ false
    → byte ≡ 0
end_kind =
    kind_cases (λ (byte : ℕ) (k : RecordKind). not k.plan ≡ false → gives_class k ≡ false → gives_rule k ≡ false → byte ≡ 0)
    (λ p c r. refl) (λ p c r. none c) (λ p c r. none c) (λ p c r. none r) (λ p c r. none p) (λ p c r. none p) (λ p c r. none p)
    (λ p c r. none p)
    (λ byte p c r. none p)
  where
    none : {A : Type 0} → true ≡ false → A
    none e = absurd (not_true_and_false refl e)

kind_1 : record_kind 1 ≡ kind_row 5 true false false Inner
unfolding record_kind
kind_1 = refl

kind_2 : record_kind 2 ≡ kind_row 7 true false false Leaf
unfolding record_kind
kind_2 = refl

kind_3 : record_kind 3 ≡ kind_row 1 true false false Rule
unfolding record_kind
kind_3 = refl

-- four bytes and two, from the number that they make
four_bytes : (a b c d : ℕ) → b < 256 → c < 256 → d < 256
    → bytes32 (a * 16_777_216 + b * 65_536 + c * 256 + d) ≡ a ∷ b ∷ c ∷ d ∷ []
four_bytes a b c d hb hc hd =
    let n = a * 16_777_216 + b * 65_536 + c * 256 + d in
    let ea : n / 16_777_216 ≡ a = omega (arith, hb, hc, hd) in
    let eb : n / 65_536 % 256 ≡ b = omega (arith, hb, hc, hd) in
    let ec : n / 256 % 256 ≡ c = omega (arith, hb, hc, hd) in
    let ed : n % 256 ≡ d = omega (arith, hb, hc, hd) in
    ap₂ (λ (x : ℕ) (y : List ℕ). x ∷ y) ea
    (ap₂ (λ (x : ℕ) (y : List ℕ). x ∷ y) eb
    (ap₂ (λ (x y : ℕ). x ∷ y ∷ []) ec ed))

two_bytes : (a b : ℕ) → b < 256 → bytes16 (a * 256 + b) ≡ a ∷ b ∷ []
two_bytes a b hb =
    let n = a * 256 + b in
    let ea : n / 256 ≡ a = omega (arith, hb) in
    let eb : n % 256 ≡ b = omega (arith, hb) in
    ap₂ (λ (x y : ℕ). x ∷ y ∷ []) ea eb

-- a class record, from the class that it gives
abbrev pub record_of : Class → List ℕ
record_of c = record_bytes c.leaf c.parent c.weight.0 c.longest

back_inner : (rest : List ℕ) → byte_at rest 0 ≡ 1 → 6 ≤ length rest → Bytes rest
    → take 6 rest ≡ inner_bytes (byte_at (take 5 (drop 1 rest)) 0) (number32 (take 5 (drop 1 rest)) 1)
back_inner [] e l h = absurd (omega (arith, l))
back_inner (k ∷ []) e l h = absurd (omega (arith, l))
back_inner (k ∷ p ∷ []) e l h = absurd (omega (arith, l))
back_inner (k ∷ p ∷ a ∷ []) e l h = absurd (omega (arith, l))
back_inner (k ∷ p ∷ a ∷ b ∷ []) e l h = absurd (omega (arith, l))
back_inner (k ∷ p ∷ a ∷ b ∷ c ∷ []) e l h = absurd (omega (arith, l))
back_inner (k ∷ p ∷ a ∷ b ∷ c ∷ d ∷ z) e l h =
    ap₂ (λ (x : ℕ) (y : List ℕ). x ∷ p ∷ y) e (sym (four_bytes a b c d (h 3) (h 4) (h 5)))

back_leaf : (rest : List ℕ) → byte_at rest 0 ≡ 2 → 8 ≤ length rest → Bytes rest
    → take 8 rest
    ≡ leaf_bytes (byte_at (take 7 (drop 1 rest)) 0) (number32 (take 7 (drop 1 rest)) 1) (number16 (take 7 (drop 1 rest)) 5)
back_leaf [] e l h = absurd (omega (arith, l))
back_leaf (k ∷ []) e l h = absurd (omega (arith, l))
back_leaf (k ∷ p ∷ []) e l h = absurd (omega (arith, l))
back_leaf (k ∷ p ∷ a ∷ []) e l h = absurd (omega (arith, l))
back_leaf (k ∷ p ∷ a ∷ b ∷ []) e l h = absurd (omega (arith, l))
back_leaf (k ∷ p ∷ a ∷ b ∷ c ∷ []) e l h = absurd (omega (arith, l))
back_leaf (k ∷ p ∷ a ∷ b ∷ c ∷ d ∷ []) e l h = absurd (omega (arith, l))
back_leaf (k ∷ p ∷ a ∷ b ∷ c ∷ d ∷ f ∷ []) e l h = absurd (omega (arith, l))
back_leaf (k ∷ p ∷ a ∷ b ∷ c ∷ d ∷ f ∷ g ∷ z) e l h =
    ap₂ (λ (x : ℕ) (y : List ℕ). x ∷ p ∷ y) e
    (ap₂ (λ (x y : List ℕ). x ++ y) (sym (four_bytes a b c d (h 3) (h 4) (h 5))) (sym (two_bytes f g (h 7))))

pub class_back : (rest : List ℕ) → gives_class (kind_at rest) ≡ true → cut rest ≡ false → Bytes rest
    → take (1 + (kind_at rest).body) rest ≡ record_of (class_at rest)
unfolding kind_at class_at body_of
class_back rest g w h = go (class_kind (byte_at rest 0) g)
  where
    long : (k : RecordKind) → record_kind (byte_at rest 0) ≡ k → 1 + k.body ≤ length rest
    long k e = omega (arith, ap (λ (x : RecordKind). x.body) e, whole_length rest w)

    go : (byte_at rest 0 ≡ 1) ⊎ (byte_at rest 0 ≡ 2) → take (1 + (kind_at rest).body) rest ≡ record_of (class_at rest)
    go (inl e) =
        let k : record_kind (byte_at rest 0) ≡ kind_row 5 true false false Inner = ap record_kind e ∙ kind_1 in
        rw k (back_inner rest e (long (kind_row 5 true false false Inner) k) h)
    go (inr e) =
        let k : record_kind (byte_at rest 0) ≡ kind_row 7 true false false Leaf = ap record_kind e ∙ kind_2 in
        rw k (back_leaf rest e (long (kind_row 7 true false false Leaf) k) h)

-- the end record
pub end_back : (rest : List ℕ) → missing rest ≡ false → unknown Plan rest ≡ false → gives_class (kind_at rest) ≡ false
    → gives_rule (kind_at rest) ≡ false → take 1 rest ≡ 0 ∷ []
unfolding unknown kind_at
end_back rest m u c r = one rest (there_length rest m) (end_kind (byte_at rest 0) u c r)
  where
    one : (l : List ℕ) → 1 ≤ length l → byte_at l 0 ≡ 0 → take 1 l ≡ 0 ∷ []
    one [] h e = absurd (omega (arith, h))
    one (a ∷ z) h e = ap (λ (x : ℕ). x ∷ []) e

-- the rule record
pub rule_back : (rest : List ℕ) → gives_rule (kind_at rest) ≡ true → cut rest ≡ false
    → take (1 + (kind_at rest).body) rest ≡ 3 ∷ rule_of rest ∷ []
unfolding kind_at rule_of body_of
rule_back rest g w =
    let e = rule_kind (byte_at rest 0) g in
    let k : record_kind (byte_at rest 0) ≡ kind_row 1 true false false Rule = ap record_kind e ∙ kind_3 in
    let long : 2 ≤ length rest = omega (arith, ap (λ (x : RecordKind). x.body) k, whole_length rest w) in
    rw k (two rest long e)
  where
    two : (l : List ℕ) → 2 ≤ length l → byte_at l 0 ≡ 3 → take 2 l ≡ 3 ∷ byte_at (take 1 (drop 1 l)) 0 ∷ []
    two [] h e = absurd (omega (arith, h))
    two (a ∷ []) h e = absurd (omega (arith, h))
    two (a ∷ b ∷ z) h e = ap (λ (x : ℕ). x ∷ b ∷ []) e
