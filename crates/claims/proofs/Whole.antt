-- Laws of a whole recording and of a part of one.
use mathlib.Core.Bool.{Bool, true, false}
use mathlib.Core.List.{List}
use mathlib.Core.Path.{◌≡◌, refl, sym, ap, subst, ◌∙◌}
use Prim.Native.Nat.{ℕ, ◌+◌, ◌-◌, ◌≤◌, ◌<◌}
use native.Mathlib.Omega.{arith}
use borrow.Author.Tests.{leb-true}
use lib.Dec.{leb}
use lib.ListN.{length, drop}
use Rattle.checks.specs.declared.Refusal.TheVariants.{NotSound}
use Rattle.std.specs.Prelude.{Ok, Err}
use Rattle.checks.specs.Check.{Exactly, Verdict, refusal_at}
use Rattle.checks.proofs.Laws.{exactly_unique, not_true_and_false}
use Rattle.tree.proofs.Classes.{both_true}
use Rattle.plan.specs.declared.PlanRead.{PlanRead}
use Rattle.plan.specs.Reader.{plan_of}
use Rattle.plan.proofs.Numbers.{plan_rules}
use Rattle.plan.proofs.Longer.{plan_inside}
use Rattle.state.specs.declared.Link.{Link}
use Rattle.state.specs.State.{fresh_link}
use Rattle.sound.specs.Sound.{SoundLink}
use Rattle.calls.proofs.FreshLinks.{fresh_sound}
use Rattle.claims.specs.declared.Checked.{Checked}
use Rattle.claims.specs.declared.Judged.TheVariants.{Stop}
use Rattle.claims.specs.Recording.{goes_on, decides, way_from, part_of, plan_judges, judged_of}
use Rattle.claims.specs.Parts.{begins_with, check_begins, most, fits, part_gives, JudgesPart}
use Rattle.claims.specs.Steps.{PartDone}

-- ---- a whole recording

-- what a recording is judged to be, and how its check begins, by what was read of its plan
pub judged_by : (s : List ℕ) (r : PlanRead) (v : Verdict) → r ≡ plan_of s → r.verdict ≡ v → plan_judges v r s ≡ judged_of s
unfolding judged_of
judged_by s r v e is =
    ap (λ (x : Verdict). plan_judges x r s) (sym is) ∙ ap (λ (x : PlanRead). plan_judges x.verdict x s) e

pub begun_by_lem : (s : List ℕ) (r : PlanRead) (v : Verdict) → r ≡ plan_of s → r.verdict ≡ v → begins_with v r ≡ check_begins s
unfolding check_begins
begun_by_lem s r v e is = ap (λ (x : Verdict). begins_with x r) (sym is) ∙ ap (λ (x : PlanRead). begins_with x.verdict x) e

-- it has been decided, or it goes on with the fresh link of an accepted plan
module _ (s : List ℕ) where
  pub begun_ended : (check_begins s).more ≡ false → (check_begins s).judged ≡ judged_of s
  begun_ended off = go (plan_of s).verdict refl
    where
      go : (v : Verdict) → (plan_of s).verdict ≡ v → (check_begins s).judged ≡ judged_of s
      go (Ok _) e = absurd (not_true_and_false (sym (ap (λ (c : Checked). c.more) (begun_by_lem s (plan_of s) (Ok tt) refl e))) off)
      go (Err r) e =
          ap (λ (c : Checked). c.judged) (sym (begun_by_lem s (plan_of s) (Err r) refl e)) ∙ judged_by s (plan_of s) (Err r) refl e

  pub begun_accepted : (check_begins s).more ≡ true → (plan_of s).verdict ≡ Ok tt
  begun_accepted on = go (plan_of s).verdict refl
    where
      go : (v : Verdict) → (plan_of s).verdict ≡ v → (plan_of s).verdict ≡ Ok tt
      go (Ok _) e = e
      go (Err r) e = absurd (not_true_and_false on (ap (λ (c : Checked). c.more) (sym (begun_by_lem s (plan_of s) (Err r) refl e))))

  pub begun_on : (check_begins s).more ≡ true → check_begins s ≡ goes_on (fresh_link (plan_of s).tree) (plan_of s).used 0
  begun_on on = sym (begun_by_lem s (plan_of s) (Ok tt) refl (begun_accepted on))

  pub begun_sound : (check_begins s).more ≡ true → SoundLink (check_begins s).link
  begun_sound on =
      subst (λ (c : Checked). SoundLink c.link) (sym (begun_on on))
      (fresh_sound (plan_of s).tree (plan_rules s (plan_of s) refl (begun_accepted on)))

  pub begun_inside : (check_begins s).place ≤ length s
  begun_inside = go (plan_of s).verdict refl
    where
      go : (v : Verdict) → (plan_of s).verdict ≡ v → (check_begins s).place ≤ length s
      go (Ok _) e = subst (λ (c : Checked). c.place ≤ length s) (begun_by_lem s (plan_of s) (Ok tt) refl e) (plan_inside s e)
      go (Err r) e = subst (λ (c : Checked). c.place ≤ length s) (begun_by_lem s (plan_of s) (Err r) refl e) (omega arith)

  -- the entries after the plan then judge it
  pub judged_on : (check_begins s).more ≡ true
      → judged_of s ≡ (part_of true (way_from (check_begins s).link (check_begins s).place 0 (drop (check_begins s).place s))).at.judged
  judged_on on =
      sym (judged_by s (plan_of s) (Ok tt) refl (begun_accepted on))
      ∙ ap (λ (c : Checked). (part_of true (way_from c.link c.place 0 (drop c.place s))).at.judged) (sym (begun_on on))

-- ---- a part

pub fits_room : (place claims n : ℕ) → fits place claims n ≡ true → place < 18_446_744_073_709_551_616 → claims < 18_446_744_073_709_551_616
    → (place + n < 18_446_744_073_709_551_616) × (claims + n < 18_446_744_073_709_551_616)
unfolding fits
fits_room place claims n e p c =
    let both : (leb n (most - place) ≡ true) × (leb n (most - claims) ≡ true) = both_true _ _ e in
    (omega (arith, leb-true n (most - place) both.0, p), omega (arith, leb-true n (most - claims) both.1, c))

module _ (last : Bool) (l : Link) (place claims : ℕ) (part : List ℕ) (r : Checked) where
  pub part_unsound : Exactly false (SoundLink l) → r ≡ decides (Stop (refusal_at NotSound 0)) l place claims → JudgesPart last l place claims part r
  part_unsound x d = record {
    sound = false;
    exactly = x;
    answer = d;
    keeps = λ s. absurd (not_true_and_false (x.complete s) refl);
  }

  pub part_fits : Exactly true (SoundLink l) → fits place claims (length part) ≡ true → PartDone last l place claims part r
      → JudgesPart last l place claims part r
  part_fits x e d = record {
    sound = true;
    exactly = x;
    answer = rw e d.gives;
    keeps = λ s. d.sound;
  }

  pub part_stays : Exactly true (SoundLink l) → fits place claims (length part) ≡ false → r ≡ goes_on l place claims
      → JudgesPart last l place claims part r
  part_stays x e d = record {
    sound = true;
    exactly = x;
    answer = rw e d;
    keeps = λ s. subst (λ (k : Checked). SoundLink k.link) (sym d) s;
  }

-- any two answers that its contract allows are equal
pub part_one_answer : (last : Bool) (l : Link) (place claims : ℕ) (part : List ℕ) (a b : Checked) → JudgesPart last l place claims part a
    → JudgesPart last l place claims part b → a ≡ b
part_one_answer last l place claims part a b x y =
    x.answer ∙ ap (λ (f : Bool). part_gives f last l place claims part) (exactly_unique x.exactly y.exactly) ∙ sym y.answer
