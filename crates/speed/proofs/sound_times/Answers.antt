-- `speed::sound_times` meets its contract: the link with other tags is as sound as the first.
use Rattle.std.proofs.Common.{◌≡◌, ℕ, ◌+◌, ◌≤◌, Bool, true, false, cond, refl, ap, ◌∙◌, arith}
use Rattle.checks.proofs.Laws.{exactly_unique}
use Rattle.speed.proofs.Served.{tags_exactly, found_more}
use Rattle.speed.proofs.sound_times.Goals as goal

none : (s : Bool) → let n : ℕ = 0 in n ≡ cond s n n
none true = refl
none false = refl

most : (s : Bool) (found found' n : ℕ) → found ≤ n → found' ≡ cond s (found + 1) found → found' ≤ n + 1
most true found found' n few is = omega (arith, few, is)
most false found found' n few is = omega (arith, few, is)

pub loop-n-init : goal.loop-n-init
loop-n-init c = (omega arith, (λ b x. x), (λ s x. none s))

pub found_so-found-requires : goal.found_so-found-requires
found_so-found-requires c = omega (arith, c.loop-n-test.true, c.loop-n.invariant.0)

pub loop-n-preserved : goal.loop-n-preserved
loop-n-preserved c = (
  most c.is_sound.result c.loop-n.found c.found_so-found.result c.loop-n.n c.loop-n.invariant.0 c.found_so-found.ensures,
  (λ b x. c.loop-n.invariant.1 b (tags_exactly c.loop-n.link _ b x)),
  (λ s x. found_more c.is_sound.result s c.loop-n.found c.found_so-found.result c.loop-n.n
      (exactly_unique (c.loop-n.invariant.1 c.is_sound.result c.is_sound.ensures) x) (c.loop-n.invariant.2 s x) c.found_so-found.ensures),
)

pub returns : goal.returns
returns c = λ s x.
    let e : c.loop-n.n ≡ c.args.times = omega (arith, c.loop-n-test.false) in
    c.loop-n.invariant.2 s x ∙ ap (λ (k : ℕ). cond s k 0) e
