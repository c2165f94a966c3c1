-- Bytes with more bytes after them: a record that stands whole in them is the same, and the plan of an input stands in its first 514 bytes,
-- so that no bytes after those change what the reader says of it (R246). Demand 1.
use mathlib.Core.Bool.{Bool, true, false, cond, not, ◌&&◌, ◌||◌}
use mathlib.Core.List.{List, [], ◌∷◌, ◌++◌, append-nil}
use mathlib.Core.Path.{◌≡◌, refl, sym, ap, ap₂, ◌∙◌}
use Prim.Native.Nat.{ℕ, zero, suc, ◌+◌, ◌*◌, ◌≤◌, ◌<◌}
use native.Mathlib.Omega.{arith}
use lib.Dec.{eqb, leb}
use lib.ListN.{length, take, drop, length-append, length-drop, get_or-append}
use lib.Seq.{take-append-le, drop-append-le}
use borrow.Author.Tests.{le-ltb, ne_eqb, leb-true}
use Rattle.checks.specs.declared.Refusal.TheVariants.{Cut, UnknownKind, BadRule, LateRule}
use Rattle.std.specs.Prelude.{Ok}
use Rattle.checks.specs.Check.{Check, check, first_broken, passed, Verdict}
use Rattle.checks.proofs.Laws.{pass_over}
use Rattle.tree.specs.declared.Tree.{Tree}
use Rattle.tree.specs.declared.Class.{Class}
use Rattle.tree.specs.Class.{no_tree, ruled, added}
use Rattle.tree.specs.Rules.{closing_checks}
use Rattle.plan.specs.declared.PlanRead.{PlanRead}
use Rattle.plan.specs.declared.kind.RecordKind.{RecordKind}
use Rattle.plan.specs.declared.kind.Section.{Section}
use Rattle.plan.specs.declared.kind.Section.TheVariants.{Plan}
use Rattle.plan.specs.Kind.{record_kind, stands_in, gives_class, gives_leaf, gives_rule}
use Rattle.plan.specs.Record.{byte_at, kind_at, missing, unknown, cut, body_of, rule_of, late_rule, bad_rule, class_of, class_at}
use Rattle.plan.specs.Reader.{
  head_checks,
  rule_checks,
  new_class_checks,
  whole_checks,
  record_checks,
  rule_first,
  follows_of,
  after,
  tree_of,
  checks_of,
  passes,
  in_row,
  passed_over,
  deciding_checks,
  outcome,
  plan_of,
}
use Rattle.plan.specs.Rows.{rest_of}
use Rattle.plan.proofs.Records.{kind_cases, rule_body, whole_length, there_length}
use Rattle.plan.proofs.Reading.{first_parts}
use Rattle.plan.proofs.Numbers.{deciding, accepted}

-- ---- a record

module _ (xs ys : List ℕ) where
  pub same_kind : 1 ≤ length xs → kind_at (xs ++ ys) ≡ kind_at xs
  unfolding kind_at
  same_kind h = ap record_kind (get_or-append xs ys 0 0 h)

  pub same_there : 1 ≤ length xs → missing (xs ++ ys) ≡ false
  unfolding missing
  same_there h = ne_eqb (length (xs ++ ys)) 0 (λ e. omega (arith, e, length-append xs ys))

  pub same_unknown : (section : Section) → 1 ≤ length xs → unknown section (xs ++ ys) ≡ unknown section xs
  unfolding unknown
  same_unknown section h = ap (λ (k : RecordKind). not (stands_in section k)) (same_kind h)

  pub same_cut : 1 ≤ length xs → cut xs ≡ false → cut (xs ++ ys) ≡ false
  unfolding cut
  same_cut h e =
      le-ltb (length (xs ++ ys)) (1 + (kind_at (xs ++ ys)).body)
      (omega (arith, length-append xs ys, whole_length xs e, ap (λ (k : RecordKind). k.body) (same_kind h)))

  pub same_body : 1 ≤ length xs → cut xs ≡ false → body_of (xs ++ ys) ≡ body_of xs
  unfolding body_of
  same_body h e =
      ap (λ (k : RecordKind). take k.body (drop 1 (xs ++ ys))) (same_kind h)
      ∙ ap (take (kind_at xs).body) (drop-append-le 1 xs ys h)
      ∙ take-append-le (kind_at xs).body (drop 1 xs) ys (omega (arith, length-drop 1 xs, whole_length xs e))

-- no body has more than 7 bytes
pub body_most : (rest : List ℕ) → (kind_at rest).body ≤ 7
unfolding kind_at
body_most rest =
    leb-true _ _
    (kind_cases (λ (byte : ℕ) (k : RecordKind). leb k.body 7 ≡ true) refl refl refl refl refl refl refl refl (λ byte. refl)
    (byte_at rest 0))

there : (xs : List ℕ) → 8 ≤ length xs → missing xs ≡ false
unfolding missing
there xs h = ne_eqb (length xs) 0 (λ e. omega (arith, e))

-- so a record that begins 8 bytes or more before the end is whole
pub whole : (xs : List ℕ) → 8 ≤ length xs → cut xs ≡ false
unfolding cut
whole xs h = le-ltb (length xs) (1 + (kind_at xs).body) (omega (arith, body_most xs))

-- ---- a plan

-- what is asked of a record after its kind byte was found, and of one that is whole
later_checks : Bool → Bool → ℕ → List Check → List Check
later_checks strange short place more = check UnknownKind strange place ∷ check Cut short place ∷ more

rows : Bool → Bool → RecordKind → ℕ → Tree → Class → List Check
rows late bad k place t c = check LateRule late place ∷ check BadRule bad place ∷ cond (gives_class k) (new_class_checks (added t c) place) []

-- a whole record with more bytes after it
module _ (xs ys : List ℕ) (eight : 8 ≤ length xs) where
  one : 1 ≤ length xs
  one = omega (arith, eight)

  longer_body : body_of (xs ++ ys) ≡ body_of xs
  longer_body = same_body xs ys one (whole xs eight)

  longer_class : class_at (xs ++ ys) ≡ class_at xs
  unfolding class_at
  longer_class = ap₂ (λ (r : RecordKind) (body : List ℕ). class_of (gives_leaf r) body) (same_kind xs ys one) longer_body

  longer_rule : rule_of (xs ++ ys) ≡ rule_of xs
  unfolding rule_of
  longer_rule = ap (λ (body : List ℕ). byte_at body 0) longer_body

  longer_late : (place : ℕ) → late_rule (xs ++ ys) place ≡ late_rule xs place
  unfolding late_rule
  longer_late place = ap (λ (r : RecordKind). gives_rule r && not (eqb place 0)) (same_kind xs ys one)

  longer_bad : bad_rule (xs ++ ys) ≡ bad_rule xs
  unfolding bad_rule
  longer_bad = ap₂ (λ (r : RecordKind) (n : ℕ). gives_rule r && not (eqb n 1 || eqb n 2)) (same_kind xs ys one) longer_rule

  longer_rules : (place : ℕ) → rule_checks (xs ++ ys) place ≡ rule_checks xs place
  longer_rules place =
      ap₂ (λ (late bad : Bool). check LateRule late place ∷ check BadRule bad place ∷ []) (longer_late place) longer_bad

  longer_whole : (place : ℕ) (t : Tree) → whole_checks (xs ++ ys) place t ≡ whole_checks xs place t
  unfolding rows
  longer_whole place t =
      ap₂ (λ (late bad : Bool). rows late bad (kind_at (xs ++ ys)) place t (class_at (xs ++ ys))) (longer_late place) longer_bad
      ∙ ap₂ (λ (r : RecordKind) (c : Class). rows (late_rule xs place) (bad_rule xs) r place t c) (same_kind xs ys one) longer_class

same_row : (f g : ℕ → Bool) (n : ℕ) → ((j : ℕ) → j < n → f j ≡ g j) → in_row f n ≡ in_row g n
unfolding in_row
same_row f g zero h = refl
same_row f g (suc n) h =
    ap₂ (λ (k : ℕ) (b : Bool). cond (eqb k n && b) (suc n) k) (same_row f g n (λ j u. h j (omega arith))) (h n (omega arith))

module _ (window rest : List ℕ) (long : 514 ≤ length window) where
  abbrev input : List ℕ
  input = window ++ rest

  -- a record in the first 514 bytes: the input from there on, and what is asked of its head
  module _ (place : ℕ) (low : place ≤ 506) where
    abbrev xs : List ℕ
    xs = drop place window

    eight : 8 ≤ length xs
    eight = omega (arith, length-drop place window, low, long)

    rest_is : drop place input ≡ xs ++ rest
    rest_is = drop-append-le place window rest (omega (arith, low, long))

    -- that the kind byte is there is seen before its place is named
    same_head : (a b : List Check) → a ≡ b → first_broken (head_checks input place ++ a) ≡ first_broken (head_checks window place ++ b)
    unfolding later_checks
    same_head a b e =
        let one : 1 ≤ length xs = omega (arith, eight) in
        let strange = ap (unknown Plan) rest_is ∙ same_unknown xs rest Plan one in
        let short = ap cut rest_is ∙ same_cut xs rest one (whole xs eight) ∙ sym (whole xs eight) in
        pass_over _ _ (ap missing rest_is ∙ same_there xs rest one)
        ∙ ap₂ (λ (u c : Bool). first_broken (later_checks u c place a)) strange short
        ∙ ap (λ (cs : List Check). first_broken (later_checks (unknown Plan xs) (cut xs) place cs)) e
        ∙ sym (pass_over _ _ (there xs eight))

    same_record : (t : Tree) (more : List Check)
        → first_broken (record_checks input place t ++ more) ≡ first_broken (record_checks window place t ++ more)
    unfolding record_checks
    same_record t more =
        same_head (whole_checks (drop place input) place t ++ more) (whole_checks xs place t ++ more)
        (ap (λ (r : List ℕ). whole_checks r place t ++ more) rest_is
        ∙ ap (λ (cs : List Check). cs ++ more) (longer_whole xs rest eight place t))

  -- the rule record
  long_enough : 8 ≤ length window
  long_enough = omega (arith, long)

  same_first : rule_first input ≡ rule_first window
  unfolding rule_first
  same_first =
      ap₂ (λ (r : RecordKind) (v : Verdict). gives_rule r && passed v) (same_kind window rest (omega (arith, long)))
      (same_head 0 (omega arith) (rule_checks input 0) (rule_checks window 0) (longer_rules window rest long_enough 0))

  same_follows : follows_of input ≡ follows_of window
  unfolding follows_of
  same_follows = ap₂ (λ (b : Bool) (n : ℕ). b && eqb n 2) same_first (longer_rule window rest long_enough)

  start_most : after window 0 ≤ 2
  unfolding after
  start_most = go (rule_first window) refl
    where
      go : (b : Bool) → rule_first window ≡ b → cond b (1 + (kind_at window).body) 0 ≤ 2
      go true e = omega (arith, rule_body window (first_parts window e).gives)
      go false e = omega arith

  same_start : after input 0 ≡ after window 0
  unfolding after
  same_start =
      ap₂ (λ (b : Bool) (r : RecordKind). cond b (1 + r.body) 0) same_first (same_kind window rest (omega (arith, long)))

  -- a record's place
  same_after : (k : ℕ) → k ≤ 64 → (after input k ≡ after window k) × (after window k ≤ 8 * k + 2)
  unfolding after
  same_after zero h = (same_start, start_most)
  same_after (suc k) h =
      let ih = same_after k (omega arith) in
      let low : after window k ≤ 506 = omega (arith, ih.1) in
      let xs = drop (after window k) window in
      let kind =
      ap (λ (n : ℕ). kind_at (drop n input)) ih.0 ∙ ap kind_at (rest_is (after window k) low)
      ∙ same_kind xs rest (omega (arith, eight (after window k) low))
      in
      (ap₂ (λ (n : ℕ) (r : RecordKind). n + 1 + r.body) ih.0 kind, omega (arith, ih.1, body_most xs))

  at_most : (k : ℕ) → k ≤ 63 → after window k ≤ 506
  at_most k few = omega (arith, (same_after k (omega (arith, few))).1)

  -- its kind and its class
  module _ (k : ℕ) (few : k ≤ 63) where
    here : drop (after input k) input ≡ drop (after window k) window ++ rest
    here = ap (λ (n : ℕ). drop n input) (same_after k (omega (arith, few))).0 ∙ rest_is (after window k) (at_most k few)

    kind_is_lem : kind_at (drop (after input k) input) ≡ kind_at (drop (after window k) window)
    kind_is_lem =
        ap kind_at here ∙ same_kind (drop (after window k) window) rest (omega (arith, eight (after window k) (at_most k few)))

    class_is : class_at (drop (after input k) input) ≡ class_at (drop (after window k) window)
    class_is = ap class_at here ∙ longer_class (drop (after window k) window) rest (eight (after window k) (at_most k few))

  same_tree : (k : ℕ) → k ≤ 64 → tree_of input k ≡ tree_of window k
  unfolding tree_of
  same_tree zero h = ap (ruled no_tree) same_follows
  same_tree (suc k) h = ap₂ added (same_tree k (omega arith)) (class_is k (omega arith))

  -- its checks come to the same
  same_checks : (k : ℕ) → k ≤ 63 → (more : List Check) → first_broken (checks_of input k ++ more) ≡ first_broken (checks_of window k ++ more)
  same_checks k few more =
      ap₂ (λ (n : ℕ) (t : Tree). first_broken (record_checks input n t ++ more)) (same_after k (omega (arith, few))).0
      (same_tree k (omega (arith, few)))
      ∙ same_record (after window k) (at_most k few) (tree_of window k) more

  same_passes : (k : ℕ) → k ≤ 63 → passes input k ≡ passes window k
  unfolding passes
  same_passes k few =
      let checks = ap first_broken (sym (append-nil (checks_of input k))) ∙ same_checks k few []
      ∙ ap first_broken (append-nil (checks_of window k)) in
      ap₂ (λ (r : RecordKind) (v : Verdict). gives_class r && passed v) (kind_is_lem k few) checks

  same_over : passed_over input ≡ passed_over window
  unfolding passed_over
  same_over = same_row (passes input) (passes window) 63 (λ j u. same_passes j (omega arith))

  -- the plan is the window's
  pub plan_window : plan_of input ≡ plan_of window
  unfolding plan_of deciding_checks
  plan_window =
      let k = passed_over window in
      let few = (deciding window).0.most in
      ap (λ (n : ℕ). outcome (first_broken (deciding_checks input n)) (tree_of input n) (after input n + 1)) same_over
      ∙ ap (λ (v : Verdict). outcome v (tree_of input k) (after input k + 1))
      (same_checks k few (closing_checks (tree_of input k))
      ∙ ap (λ (t : Tree). first_broken (checks_of window k ++ closing_checks t)) (same_tree k (omega (arith, few))))
      ∙ ap₂ (λ (t : Tree) (n : ℕ). outcome (first_broken (deciding_checks window k)) t (n + 1)) (same_tree k (omega (arith, few)))
      (same_after k (omega (arith, few))).0

-- the bytes that an accepted plan used are bytes of the input
pub plan_inside : (s : List ℕ) → (plan_of s).verdict ≡ Ok tt → (plan_of s).used ≤ length s
plan_inside s e =
    let a = accepted s e in
    let k = passed_over s in
    omega (
      arith,
      ap (λ (r : PlanRead). r.used) a.answer,
      there_length (rest_of s k) a.ended.record'.there,
      length-drop (after s k) s,
    )
