-- `allot::request_fault` meets its contract: class by class upward number 21.
use mathlib.Core.Bool.{Bool, ◌&&◌}
use mathlib.Core.Path.{◌≡◌, sym, ap, ◌∙◌}
use Prim.Native.Nat.{ℕ}
use native.Mathlib.Omega.{arith}
use lib.Dec.{ltb}
use Rattle.std.specs.Prelude.{Ok}
use Rattle.checks.specs.Check.{first_broken}
use Rattle.checks.proofs.Laws.{classes_passed, classes_refused, upward_more, pass_over, decides, none_broken}
use Rattle.tree.specs.Class.{is_leaf}
use Rattle.allot.specs.Request.{entry}
use Rattle.allot.specs.Answer.{request_checks, bad_request}
use Rattle.allot.proofs.request_fault.Goals as goal
use Rattle.allot.proofs.request_fault.Goals.{After-bad_request}

-- what the class at hand says
said : (c : After-bad_request)
    → c.bad_request.result ≡ bad_request c.args.tree c.args.table
    c.loop-i.i
unfolding bad_request is_leaf
said c =
    c.bad_request.ensures
    ∙ ap (λ (b : Bool). b && ltb 1_000_000_000 (entry c.args.table c.loop-i.i)) c.has-leaf.ensures

pub returns-then-bad_request : goal.returns-then-bad_request
returns-then-bad_request c =
    let a = c.args in
    sym (classes_refused (request_checks a.tree a.table) a.tree.count c.loop-i.i c.loop-i.invariant.0 (omega arith)
    c.loop-i.invariant.2 (decides _ _ (sym (said (goal.at.returns-then-bad_request c).After-bad_request) ∙ c.if-bad_request.true)))

pub loop-i-preserved : goal.loop-i-preserved
loop-i-preserved c =
    let a = c.args in (
      omega arith,
      omega arith,
      upward_more (λ (k : ℕ). first_broken (request_checks a.tree a.table k) ≡ Ok tt) c.loop-i.i
          c.loop-i.invariant.2 (pass_over _ _ (sym (said (goal.at.loop-i-preserved c).After-bad_request) ∙ c.if-bad_request.false) ∙ none_broken),
    )

pub returns-else-bad_request : goal.returns-else-bad_request
returns-else-bad_request c =
    let a = c.args in
    let passed = upward_more (λ (k : ℕ). first_broken (request_checks a.tree a.table k) ≡ Ok tt) c.loop-i.i c.loop-i.invariant.2
    (pass_over _ _ (sym (said (goal.at.returns-else-bad_request c).After-bad_request) ∙ c.if-bad_request.false) ∙ none_broken) in
    sym (classes_passed (request_checks a.tree a.table) a.tree.count (λ k l u. passed k l (omega arith)))

pub returns : goal.returns
returns c =
    let a = c.args in
    sym (classes_passed (request_checks a.tree a.table) a.tree.count (λ k l u. c.loop-i.invariant.2 k l (omega arith)))
