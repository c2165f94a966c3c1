-- In a sound state exactly one of the four reasons is true of each leaf (R211), and any two answers are equal (R213). Demands 1 and 2.
use mathlib.Core.Bool.{Bool, true, false}
use mathlib.Core.Path.{◌≡◌, refl, sym, ap, ◌∙◌}
use Prim.Native.Nat.{ℕ, ◌-◌, ◌≤◌, ◌<◌}
use native.Mathlib.Decide.{dec_le}
use native.Mathlib.Omega.{arith}
use lib.ListN.{length}
use borrow.Author.Tests.{not-false}
use Rattle.std.specs.Prelude.{Ok, Err}
use Rattle.checks.specs.Check.{first_broken, Verdict, refusal_at}
use Rattle.checks.proofs.Laws.{exactly_unique, not_both, not_true_and_false, passed_parts}
use Rattle.sets.specs.Set.{has}
use Rattle.units.specs.Cost.{cost_of}
use Rattle.tree.specs.Class.{is_leaf}
use Rattle.tree.proofs.Rules.{leaf_number}
use Rattle.state.specs.declared.Link.{Link}
use Rattle.state.specs.Account.{balance_of}
use Rattle.state.specs.State.{State, meaning, queue_at}
use Rattle.sound.specs.Sound.{Sound}
use Rattle.rules.specs.Sending.{first_of}
use Rattle.calls.specs.Arrival.{no_leaf}
use Rattle.reasons.specs.declared.Reason.{Reason}
use Rattle.reasons.specs.declared.Reason.TheVariants.{Empty, Waits, Short, Due}
use Rattle.reasons.specs.Answer.{Silence}
use Rattle.reasons.specs.Reason.{IsTrue}
use Rattle.reasons.specs.Answer.{silent_checks, told_verdict, SaysWhy}

module _ (s : State) (sound : Sound s) (i : ℕ) (leaf : is_leaf s.tree i ≡ true) where
  number : i < 64
  number = leaf_number s.tree i sound.fits.tree leaf

  -- a leaf in the round holds a packet
  holds : has s.round.active i ≡ true → 1 ≤ length (queue_at s i)
  holds on = (sound.waiting i number).waits leaf on

  -- what one that is in the round and below the place lacks
  pub lacks_some : has s.round.active i ≡ true → i < s.round.place → balance_of s.round.accounts i < cost_of (first_of s i).length
  lacks_some on below = (sound.behind i number).lacks leaf on below

  -- one of the reasons is true
  some_reason : (r : Reason) × IsTrue s i r
  some_reason = go (dec_le 1 (length (queue_at s i))) (has s.round.active i) refl (dec_le s.round.place i)
    where
      go : Dec (1 ≤ length (queue_at s i)) → (b : Bool) → has s.round.active i ≡ b → Dec (s.round.place ≤ i)
          → (r : Reason) × IsTrue s i r
      go (no h) b e d = (Empty, record { none = omega arith })
      go (yes h) false e d = (Waits, record { some = omega arith; out = e })
      go (yes h) true e (yes d) = (Due, record { in_round_lem = e; ahead = d })
      go (yes h) true e (no d) =
          let n : ℕ = cost_of (first_of s i).length - balance_of s.round.accounts i in
          let lack = lacks_some e (omega arith) in
          (Short (record { 0 = n }), record { in_round_lem = e; below = omega arith; some = omega arith; exact = omega arith })

  -- and no other
  one_reason : (r q : Reason) → IsTrue s i r → IsTrue s i q → r ≡ q
  one_reason Empty Empty a b = refl
  one_reason Empty Waits a b = absurd (omega (arith, a.none, b.some))
  one_reason Empty (Short m) a b = absurd (omega (arith, a.none, holds b.in_round_lem))
  one_reason Empty Due a b = absurd (omega (arith, a.none, holds b.in_round_lem))
  one_reason Waits Empty a b = absurd (omega (arith, a.some, b.none))
  one_reason Waits Waits a b = refl
  one_reason Waits (Short m) a b = absurd (not_true_and_false b.in_round_lem a.out)
  one_reason Waits Due a b = absurd (not_true_and_false b.in_round_lem a.out)
  one_reason (Short n) Empty a b = absurd (omega (arith, b.none, holds a.in_round_lem))
  one_reason (Short n) Waits a b = absurd (not_true_and_false a.in_round_lem b.out)
  one_reason (Short n) (Short m) a b =
      let e : n.0 ≡ m.0 = omega (arith, a.exact, b.exact) in
      ap (λ (k : ℕ). Short (record { 0 = k })) e
  one_reason (Short n) Due a b = absurd (omega (arith, a.below, b.ahead))
  one_reason Due Empty a b = absurd (omega (arith, b.none, holds a.in_round_lem))
  one_reason Due Waits a b = absurd (not_true_and_false a.in_round_lem b.out)
  one_reason Due (Short m) a b = absurd (omega (arith, a.ahead, b.below))
  one_reason Due Due a b = refl

  -- exactly one reason is true of a leaf
  pub exactly_one : (r : Reason) × IsTrue s i r × ((q : Reason) → IsTrue s i q → q ≡ r)
  exactly_one = (some_reason.0, some_reason.1, λ q is. one_reason q some_reason.0 is some_reason.1)

-- where nothing is refused the link is sound and the class is a leaf
pub told : (l : Link) (class : ℕ) (b : Bool) → first_broken (silent_checks b (meaning l) class) ≡ Ok tt
    → (b ≡ true) × (is_leaf l.tree class ≡ true)
unfolding no_leaf
told l class b e =
    let first = passed_parts _ _ e in
    let then = passed_parts _ _ first.1 in
    (not-false b first.0, not-false (is_leaf l.tree class) then.0)

-- any two answers to one question are equal
pub one_answer : (l : Link) (class : ℕ) (a b : Silence) → SaysWhy l class a → SaysWhy l class b → a ≡ b
one_answer l class a b x y = go a b refl refl
  where
    same : x.sound ≡ y.sound
    same = exactly_unique x.exactly y.exactly

    verdicts : told_verdict a ≡ told_verdict b
    verdicts = x.verdict ∙ ap (λ (z : Bool). first_broken (silent_checks z (meaning l) class)) same ∙ sym y.verdict

    go : (p q : Silence) → a ≡ p → b ≡ q → a ≡ b
    go (Ok r) (Ok q) e f =
        let t = told l class x.sound (sym x.verdict ∙ ap told_verdict e) in
        e
        ∙ ap Ok
        (one_reason (meaning l) (x.exactly.sound t.0).state class t.1 r q (x.reason r e) (y.reason q f))
        ∙ sym f
    go (Ok r) (Err n) e f = absurd (not_both (ap told_verdict e) (verdicts ∙ ap told_verdict f))
    go (Err n) (Ok q) e f = absurd (not_both (ap told_verdict f) (sym verdicts ∙ ap told_verdict e))
    go (Err n) (Err m) e f = e ∙ again (sym (ap told_verdict e) ∙ verdicts ∙ ap told_verdict f) ∙ sym f
      where
        silence : Verdict → Silence
        silence (Ok _) = Err n
        silence (Err e) = Err e

        again : ◌≡◌ {A = Verdict} (Err n) (Err m) → ◌≡◌ {A = Silence} (Err n) (Err m)
        again z = ap silence z
