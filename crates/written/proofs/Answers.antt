-- The writer's contract determines the answer and the buffer; and both round trips, of what it leaves in the buffer (R264, R265). Demand 1.
use mathlib.Core.Bool.{Bool, not}
use mathlib.Core.List.{List, [], ◌∷◌, ◌++◌}
use mathlib.Core.Path.{◌≡◌, refl, sym, ap, ap₂, ◌∙◌}
use Prim.Native.Nat.{ℕ, ◌≤◌}
use native.Mathlib.Omega.{arith}
use borrow.Author.Tests.{not-false, le-ltb}
use lib.ListN.{length, take, drop}
use lib.Seq.{length-take-le}
use Rattle.checks.specs.declared.Refusal.TheVariants.{NotSound, NoRoom}
use Rattle.std.specs.Prelude.{Ok, Err}
use Rattle.checks.specs.Check.{check, first_broken, Verdict}
use Rattle.checks.proofs.Laws.{exactly_unique, passed_parts, pass_over, none_broken}
use Rattle.tree.specs.declared.Tree.{Tree}
use Rattle.tree.specs.Rules.{PlanRules}
use Rattle.plan.specs.Reader.{plan_of}
use Rattle.plan.proofs.Numbers.{plan_rules}
use Rattle.written.specs.declared.Written.{Written}
use Rattle.written.specs.Bytes.{plan_bytes}
use Rattle.written.specs.Writing.{no_room, write_checks, written_by, buffer_by, Writes}
use Rattle.written.proofs.Records.{Bytes}
use Rattle.written.proofs.WriteBack.{used_within, same_bytes}
use Rattle.written.proofs.ReadBack.{read_back}

-- any two outcomes that the contract allows are equal
pub one_answer : (t : Tree) (before : List ℕ) (r r' : Written) (after after' : List ℕ) → Writes t before r after → Writes t before r' after'
    → (r ≡ r') × (after ≡ after')
one_answer t before r r' after after' a b =
    let same : a.obeys ≡ b.obeys = exactly_unique a.exactly b.exactly in
    let v : first_broken (write_checks a.obeys t before) ≡ first_broken (write_checks b.obeys t before) =
    ap (λ (o : Bool). first_broken (write_checks o t before)) same
    in (
      a.answer ∙ ap (λ (w : Verdict). written_by w t) v ∙ sym b.answer,
      a.buffer ∙ ap (λ (w : Verdict). buffer_by w t before) v ∙ sym b.buffer,
    )

written_verdict : (v : Verdict) (t : Tree) → (written_by v t).verdict ≡ v
written_verdict (Ok _) t = refl
written_verdict (Err _) t = refl

module _ (t : Tree) (before : List ℕ) (r : Written) (after : List ℕ) (w : Writes t before r after) where
  -- what was written reads back: the tree, and as many bytes
  pub written_reads : r.verdict ≡ Ok tt → plan_of after ≡ record { verdict = Ok tt; used = r.used; tree = t }
  written_reads e =
      let v : first_broken (write_checks w.obeys t before) ≡ (Ok tt) =
      sym (written_verdict (first_broken (write_checks w.obeys t before)) t) ∙ sym (ap (λ (x : Written). x.verdict) w.answer) ∙ e
      in
      let rules = w.exactly.sound (not-false w.obeys (passed_parts (check NotSound (not w.obeys) 0) _ v).0) in
      let used : r.used ≡ length (plan_bytes t) = ap (λ (x : Written). x.used) (w.answer ∙ ap (λ (x : Verdict). written_by x t) v) in
      ap plan_of (w.buffer ∙ ap (λ (x : Verdict). buffer_by x t before) v)
      ∙ read_back t rules w.shape (drop (length (plan_bytes t)) before)
      ∙ ap (λ (n : ℕ). record { verdict = Ok tt; used = n; tree = t }) (sym used)

  -- a tree that obeys the plan rules is written wherever there is room
  pub writes : PlanRules t → length (plan_bytes t) ≤ length before → (r ≡ written_by (Ok tt) t) × (after ≡ buffer_by (Ok tt) t before)
  unfolding no_room
  writes rules room =
      let v : first_broken (write_checks w.obeys t before) ≡ (Ok tt) =
      pass_over (check NotSound (not w.obeys) 0) _ (ap not (w.exactly.complete rules))
      ∙ pass_over (check NoRoom (no_room t before) (length (plan_bytes t))) _ (le-ltb (length before) (length (plan_bytes t)) room)
      ∙ none_broken
      in
      (w.answer ∙ ap (λ (x : Verdict). written_by x t) v, w.buffer ∙ ap (λ (x : Verdict). buffer_by x t before) v)

-- what an accepted plan gave is written back: the bytes that the reader used, for a plan that does not begin with a rule 1 record
pub read_written : (s : List ℕ) → Bytes s → (plan_of s).verdict ≡ Ok tt → (take 2 s ≡ 3 ∷ 1 ∷ [] → ⊥)
    → (before : List ℕ) (r : Written) (after : List ℕ) → Writes (plan_of s).tree before r after → (plan_of s).used ≤ length before
    → (r ≡ record { verdict = Ok tt; used = (plan_of s).used }) × (after ≡ take (plan_of s).used s ++ drop (plan_of s).used before)
read_written s bytes passed other before r after w room =
    let t = (plan_of s).tree in
    let same = same_bytes s bytes passed other in
    let n : length (plan_bytes t) ≡ (plan_of s).used = ap length same ∙ length-take-le (plan_of s).used s (used_within s bytes passed) in
    let done = writes t before r after w (plan_rules s (plan_of s) refl passed) (omega (arith, n)) in (
      done.0 ∙ ap (λ (k : ℕ). record { verdict = Ok tt; used = k }) n,
      done.1 ∙ ap₂ (λ (l : List ℕ) (k : ℕ). l ++ drop k before) same n,
    )
