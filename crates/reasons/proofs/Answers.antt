-- The two kinds of answers that `why` gives meet its contract (R212, R213).
use mathlib.Core.Bool.{Bool}
use mathlib.Core.Path.{◌≡◌, refl, sym, ap, subst}
use Prim.Native.Nat.{ℕ}
use Rattle.checks.specs.declared.Refusal.{Refusal}
use Rattle.std.specs.Prelude.{Ok, Err}
use Rattle.checks.specs.Check.{first_broken, Exactly, refusal_at}
use Rattle.checks.proofs.Laws.{not_both}
use Rattle.state.specs.declared.Link.{Link}
use Rattle.state.specs.State.{meaning}
use Rattle.sound.specs.Sound.{SoundLink}
use Rattle.reasons.specs.declared.Reason.{Reason}
use Rattle.reasons.specs.Answer.{Silence}
use Rattle.reasons.specs.Reason.{IsTrue}
use Rattle.reasons.specs.Answer.{silent_checks, told_verdict, SaysWhy}

module _ (l : Link) (class : ℕ) (sound : Bool) (exactly : Exactly sound (SoundLink l)) where
  pub refused_why : (n : Refusal) (p : ℕ) → first_broken (silent_checks sound (meaning l) class) ≡ Err (refusal_at n p) → SaysWhy l class (Err (refusal_at n p))
  refused_why n p e = record {
    sound = sound;
    exactly = exactly;
    verdict = sym e;
    reason = λ q f. absurd (not_both refl (sym (ap told_verdict f)));
  }

  pub told_why : (r : Reason) → first_broken (silent_checks sound (meaning l) class) ≡ Ok tt → IsTrue (meaning l) class r
      → SaysWhy l class (Ok r)
  told_why r e is = record {
    sound = sound;
    exactly = exactly;
    verdict = sym e;
    reason = λ q f. subst (IsTrue (meaning l) class) (ap reason_of f) is;
  }
    where
      reason_of : Silence → Reason
      reason_of (Ok q) = q
      reason_of (Err _) = r
