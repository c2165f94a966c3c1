-- `parts_speed::speed_run` meets its contract: what the parts lay from the start is what is left to lay from here.
use Rattle.std.proofs.Common.{◌≡◌, ℕ, suc, ◌+◌, ◌-◌, sym, refl, ap, ◌∙◌, subst, arith, rules}
use borrow.Author.Tests.{not-true, not-false}
use Rattle.sound.specs.Sound.{SoundLink}
use Rattle.run.specs.declared.Step.{Step}
use Rattle.run.specs.Run.{begin_of}
use Rattle.run.proofs.Lines.{begin_sound}
use Rattle.parts_speed.specs.Laid.{Laid, laid_on, laid_in}
use Rattle.parts_speed.proofs.Steps.{laid_by, laid_end, laid_none, laid_on_lem}
use Rattle.parts_speed.proofs.speed_run.Goals as goal
use Rattle.parts_speed.proofs.speed_run.Goals.{At-loop-n}

pub loop-n-init : goal.loop-n-init
loop-n-init c =
    let a = c.args in
    let is = c.begin-begun.ensures in
    let all : a.parts ≡ a.parts - 0 = omega arith in (
      refl,
      (λ m. subst (λ (s : Step). SoundLink s.link) (sym is) (begin_sound _ (sym (ap (λ (s : Step). s.more) is) ∙ m))),
      rw (sym all) refl,
    )

-- what was laid when the loop is left
laid : (h : At-loop-n) (s : Laid)
    → laid_on (h.args.parts - h.loop-n._n) h.args.input.now h.loop-n.part (laid_by h.loop-n.bytes h.loop-n.out) ≡ s
    → laid_in h.args.parts h.args.input.now (begin_of h.args.input.now) h.args.out.now ≡ s
laid h s e =
    let a = h.args in
    ap (λ (b : Step). laid_in a.parts a.input.now b a.out.now) (sym h.begin-begun.ensures) ∙ h.loop-n.invariant.2 ∙ e

pub returns-then-not-part : goal.returns-then-not-part
returns-then-not-part c =
    let s = laid_by c.loop-n.bytes c.loop-n.out in
    let e = laid (goal.at.returns-then-not-part c).At-loop-n s (laid_end _ _ c.loop-n.part s (not-true _ c.if-not-part.true)) in record { value = sym (ap (λ (x : Laid). x.bytes) e); out_after = sym (ap (λ (x : Laid). x.buffer) e) }

pub loop-n-preserved : goal.loop-n-preserved
loop-n-preserved c =
    let a = c.args in
    let on = not-false _ c.if-not-part.false in
    let sound = c.loop-n.invariant.1 on in
    let x = c.part-part.ensures.parts in
    let left : a.parts - c.loop-n._n ≡ suc (a.parts - (c.loop-n._n + 1)) = omega (arith, c.loop-n-test.true) in (
      search rules,
      (λ m. x.keeps sound),
      c.loop-n.invariant.2 ∙ ap (λ (k : ℕ). laid_on k a.input.now c.loop-n.part (laid_by c.loop-n.bytes c.loop-n.out)) left
          ∙ laid_on_lem _ _ c.loop-n.part c.part-part.result c.loop-n.bytes _ _ _ on sound x c.wrapping_add_usize-bytes.ensures.value,
    )

pub returns : goal.returns
returns c =
    let a = c.args in
    let s = laid_by c.loop-n.bytes c.loop-n.out in
    let none : a.parts - c.loop-n._n ≡ 0 = omega (arith, c.loop-n-test.false) in
    let e = laid (goal.at.returns c).At-loop-n s (ap (λ (k : ℕ). laid_on k a.input.now c.loop-n.part s) none ∙ laid_none _ c.loop-n.part s) in record { value = sym (ap (λ (x : Laid). x.bytes) e); out_after = sym (ap (λ (x : Laid). x.buffer) e) }
