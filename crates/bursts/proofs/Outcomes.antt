-- Any two outcomes that the exported burst allows are equal. Demands 1 and 2.
use mathlib.Core.List.{List}
use mathlib.Core.Path.{◌≡◌, sym, ap, ◌∙◌}
use Prim.Native.Nat.{ℕ}
use Rattle.checks.specs.Check.{number_of}
use Rattle.state.specs.declared.Link.{Link}
use Rattle.answers.specs.declared.BurstEnd.{BurstEnd}
use Rattle.answers.proofs.Bursts.{burst_one_answer}
use Rattle.bursts.specs.Bursting.{burst_said, CallBursts}

pub burst_call_one : {l : Link} {input before : List ℕ} {n n' : ℕ} {said said' out out' : List ℕ} {after after' : Link}
    → CallBursts l input before n said out after → CallBursts l input before n' said' out' after'
    → (n ≡ n') × (said ≡ said') × (out ≡ out') × (after ≡ after')
burst_call_one {l} {input} {before} {out = out} {out' = out'} {after = after} {after' = after'} a b =
    let e = burst_one_answer l input 0 before a.answer b.answer out out' after after' a.rules b.rules in (
      a.answers ∙ ap (λ (r : BurstEnd). number_of r.verdict) e.0 ∙ sym b.answers,
      a.numbers ∙ ap burst_said e.0 ∙ sym b.numbers,
      e.1,
      e.2,
    )
