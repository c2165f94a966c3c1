-- `speed::speed_fresh` meets its contract: every waiting place of a fresh link has length 0.
use Rattle.checks.specs.Check.{Verdict}
use Rattle.std.specs.Prelude.{Ok}
use Rattle.std.proofs.Common.{◌≡◌, ℕ, ◌+◌, ◌%◌, ◌^◌, ◌≤◌, Bool, true, List, get_or, replicate, sym, ap, ◌∙◌, arith}
use lib.ListN.{get_or-replicate}
use Rattle.plan.specs.declared.PlanRead.{PlanRead}
use Rattle.plan.specs.Reader.{plan_of}
use Rattle.plan.proofs.Numbers.{plan_rules}
use Rattle.tree.specs.Size.{round_size, most_size}
use Rattle.tree.proofs.Rules.{size_ceiling}
use Rattle.calls.specs.declared.AfterFresh.{AfterFresh}
use Rattle.calls.specs.Fresh.{fresh_of}
use Rattle.speed.specs.Timed.{fresh_size}
use Rattle.speed.proofs.speed_fresh.Goals as goal

-- what is answered, by the verdict that was read
size_by : (s : List ℕ) (r : PlanRead) (v : Verdict) → r ≡ plan_of s → r.verdict ≡ v
    → fresh_size v r ≡ fresh_size (plan_of s).verdict (plan_of s)
size_by s r v e is = ap (λ (x : Verdict). fresh_size x r) (sym is) ∙ ap (λ (x : PlanRead). fresh_size x.verdict x) e

-- the sum does not wrap
summed : {r size length whole : ℕ} → r ≡ (size + length) % 2 ^ 64 → size ≡ whole → length ≡ 0 → whole ≤ most_size → r ≡ whole
summed sum is none most = omega (arith, sum, is, none, most)

pub returns-in-Err : goal.returns-in-Err
returns-in-Err c =
    size_by _ c.read_plan-read.result _ c.read_plan-read.ensures c.in-Err.is

pub returns : goal.returns
returns c =
    let read = c.read_plan-read.result in
    let rules = plan_rules _ read c.read_plan-read.ensures c.in_default.is in
    let made : c.fresh-made.result ≡ fresh_of true read.tree =
    c.fresh-made.ensures.answer ∙ ap (λ (b : Bool). fresh_of b read.tree) (c.fresh-made.ensures.exactly.complete rules) in
    let size : c.fresh-made.result.link.round.size.0 ≡ round_size read.tree = ap (λ (x : AfterFresh). x.link.round.size.0) made in
    let free : c.fresh-made.result.link.lengths ≡ replicate 2_048 0 = ap (λ (x : AfterFresh). x.link.lengths) made in
    let at = c.args.at in
    let none : get_or c.fresh-made.result.link.lengths (at % 2_048) 0 ≡ 0 =
    ap (λ (xs : List ℕ). get_or xs (at % 2_048) 0) free ∙ get_or-replicate {A = ℕ} 2_048 (at % 2_048) 0 0 (omega arith) in
    summed c.wrapping_add_u64.ensures.value size (c.from.ensures ∙ none) (size_ceiling _ rules)
    ∙ size_by _ read (Ok tt) c.read_plan-read.ensures c.in_default.is
