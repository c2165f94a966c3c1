-- A fresh link, from any tree (R151, R152). Demand 1.
use Rattle.checks.specs.declared.Refusal.TheVariants.{NotSound}
use Rattle.std.specs.Prelude.{Bool, true, false, ◌≡◌, Ok, Err}
use Rattle.checks.specs.Check.{Exactly, refusal_at}
use Rattle.tree.specs.declared.Tree.{Tree}
use Rattle.tree.specs.Rules.{PlanRules}
use Rattle.state.specs.State.{fresh_link, no_link}
use Rattle.calls.specs.declared.AfterFresh.{AfterFresh}

-- a tree that obeys the plan rules gives the fresh link with its round size; any other 11 at 0, and the link without classes
-- (R151, R152, R163)
abbrev pub fresh_of : Bool → Tree → AfterFresh
fresh_of true t = record { verdict = Ok tt; link = fresh_link t }
fresh_of false t = record { verdict = Err (refusal_at NotSound 0); link = no_link }

-- what a fresh link asked of any tree gives (R151, R152)
pub record MakesFresh (t : Tree) (r : AfterFresh) : Type 0 where
  pub obeys : Bool
  pub exactly : Exactly obeys (PlanRules t)
  pub answer : r ≡ fresh_of obeys t
