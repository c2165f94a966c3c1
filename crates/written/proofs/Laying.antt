-- The parts of a plan laid over a buffer one after another.
use mathlib.Core.List.{List, []}
use mathlib.Core.Bool.{Bool, true, false, not}
use mathlib.Core.Path.{◌≡◌, sym, ap, subst, ◌∙◌}
use Prim.Native.Nat.{ℕ, ◌≤◌, ◌<◌}
use native.Mathlib.Nat.{zero-add, add-zero}
use borrow.Author.Tests.{lt-ltb, le-ltb}
use native.Mathlib.Omega.{arith}
use lib.ListN.{length, drop, length-append}
use lib.Seq.{length-take-le}
use Rattle.checks.specs.declared.Refusal.TheVariants.{NotSound, NoRoom}
use Rattle.std.specs.Prelude.{Ok, Err}
use Rattle.io.specs.Counts.{IsPrefixLen}
use Rattle.checks.specs.Check.{check, first_broken, Exactly, Verdict, refusal_at}
use Rattle.checks.proofs.Laws.{decides, pass_over, none_broken}
use Rattle.digits.specs.Laid.{LaidAt}
use Rattle.digits.proofs.Laying.{over_none, over_start}
use Rattle.tree.specs.declared.Tree.{Tree}
use Rattle.tree.specs.Rules.{PlanRules}
use Rattle.written.specs.declared.Written.{Written}
use Rattle.written.specs.Bytes.{plan_bytes}
use Rattle.written.specs.Writing.{no_room, write_checks, nothing_written, written_by, buffer_by, Arrays, Writes}

-- what the writer's cases say
module _ (t : Tree) (b : List ℕ) {f : Bool} (exactly : Exactly f (PlanRules t)) where
  -- a tree that breaks the plan rules
  pub writes_no_plan : Arrays t → (r : Written) → f ≡ false → r ≡ nothing_written (Err (refusal_at NotSound 0)) → Writes t b r b
  writes_no_plan shape r e a =
      let v : first_broken (write_checks f t b) ≡ Err (refusal_at NotSound 0) = decides (check NotSound (not f) 0) _ (ap not e) in
      record { shape = shape; obeys = f; exactly = exactly; answer = rw v a; buffer = rw v }

  -- a buffer shorter than the plan
  pub writes_short : Arrays t → (r : Written) → f ≡ true → length b < length (plan_bytes t) → r ≡ nothing_written
      (Err (refusal_at NoRoom (length (plan_bytes t))))
      → Writes t b r b
  unfolding no_room
  writes_short shape r e short a =
      let v : first_broken (write_checks f t b) ≡ Err (refusal_at NoRoom (length (plan_bytes t))) =
      pass_over (check NotSound (not f) 0) _ (ap not e) ∙ decides (check NoRoom (no_room t b) (length (plan_bytes t))) _ (lt-ltb _ _ short)
      in
      record { shape = shape; obeys = f; exactly = exactly; answer = rw v a; buffer = rw v }

  -- room enough: the plan is laid at the start
  pub writes_all : Arrays t → (used : ℕ) (after : List ℕ) → f ≡ true → length (plan_bytes t) ≤ length b → LaidAt 0 (plan_bytes t) b used after
      → Writes t b (record { verdict = Ok tt; used = used }) after
  unfolding no_room
  writes_all shape used after e room laid =
      let v : first_broken (write_checks f t b) ≡ (Ok tt) =
      pass_over (check NotSound (not f) 0) _ (ap not e)
      ∙ pass_over (check NoRoom (no_room t b) (length (plan_bytes t))) _ (le-ltb _ _ room)
      ∙ none_broken
      in
      let n : used ≡ length (plan_bytes t) = laid.0 ∙ zero-add (length (plan_bytes t)) in
      record { shape = shape; obeys = f; exactly = exactly; answer = rw (v, n); buffer = rw v (laid.1 ∙ over_start (plan_bytes t) b) }

-- the bytes written are within the buffer
counted_by : (v : Verdict) (t : Tree) (b : List ℕ) → IsPrefixLen (written_by v t).used (buffer_by v t b)
counted_by (Ok _) t b =
    let n : length (plan_bytes t) ≤ length (buffer_by (Ok tt) t b) = omega (arith, length-append (plan_bytes t) (drop (length (plan_bytes t)) b))
    in
    (n, sym (length-take-le (length (plan_bytes t)) (buffer_by (Ok tt) t b) n))
counted_by (Err _) t b = (omega arith, sym (length-take-le 0 b (omega arith)))

pub counted : {t : Tree} {b : List ℕ} {r : Written} {after : List ℕ} → Writes t b r after → IsPrefixLen r.used after
counted {t} {b} {r} {after} w =
    let v = first_broken (write_checks w.obeys t b) in
    subst (λ (x : Written). IsPrefixLen x.used after) (sym w.answer)
    (subst (λ (x : List ℕ). IsPrefixLen (written_by v t).used x) (sym w.buffer) (counted_by v t b))

-- nothing laid
pub laid_none : (at : ℕ) (b : List ℕ) → LaidAt at [] b at b
laid_none at b = (sym (add-zero at), sym (over_none at b))
