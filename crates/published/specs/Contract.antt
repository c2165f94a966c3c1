-- What the calls of the second engine answer on any record (R331 to R334), and a run of them. Demands 1 to 3.
use Rattle.std.specs.Prelude.{Bool, List, [], ◌∷◌, ◌≡◌, replicate}
use Rattle.checks.specs.Check.{Exactly}
use Rattle.tree.specs.declared.Tree.{Tree}
use Rattle.tree.specs.Rules.{PlanRules}
use Rattle.calls.specs.Fresh.{fresh_of}
use Rattle.calls.specs.Run.{Call, Answer, Made, made}
use Rattle.published.specs.declared.Second.{Second}
use Rattle.published.specs.declared.SecondFresh.{SecondFresh}
use Rattle.published.specs.Second.{stands_for, SoundSecond, ShapedSecond, gives}

-- a fresh link of a tree is the first engine's, in which no class has a quota; where that is refused so is this, and all its
-- numbers are 0 (R331)
abbrev pub fresh_given : Bool → Tree → SecondFresh
fresh_given obeys t = record {
  verdict = (fresh_of obeys t).verdict;
  link = record { link = (fresh_of obeys t).link; asked = 0; quotas = replicate 64 0 };
}

-- what a fresh link asked of any tree gives (R331)
pub record MakesSecond (t : Tree) (r : SecondFresh) : Type 0 where
  pub obeys : Bool
  pub exactly : Exactly obeys (PlanRules t)
  pub answer : r ≡ fresh_given obeys t

-- a call that was made, its answer, and the link that it left
pub data MadeSecond : Type 0 where
  made_second : (call : Call) → Answer call → Second → MadeSecond

abbrev pub second_left : MadeSecond → Second
second_left (made_second call answer after) = after

abbrev pub made_by : Bool → Second → Call → MadeSecond
made_by sound l call = made_second call (gives sound l call).answer (gives sound l call).after

abbrev pub call_made : MadeSecond → Call
call_made (made_second call answer after) = call

-- the same call on the first engine's link that it stands for
abbrev pub as_first : MadeSecond → Made
as_first (made_second call answer after) = made call answer (stands_for after)

-- what a call on any record gives; on a sound one it gives a sound one (R332 to R334)
pub record MeetsSecond (l : Second) (m : MadeSecond) : Type 0 where
  pub shape : ShapedSecond l
  pub sound : Bool
  pub exactly : Exactly sound (SoundSecond l)
  pub answer : m ≡ made_by sound l (call_made m)
  pub keeps : SoundSecond l → SoundSecond (second_left m)

-- calls one after the other, each answered so
unfoldable pub RunSecond : Second → List MadeSecond → Type 0
RunSecond l [] = Unit {0}
RunSecond l (m ∷ ms) = MeetsSecond l m × RunSecond (second_left m) ms
