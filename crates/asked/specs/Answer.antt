-- What a planner's question gives on the bytes of a plan, and its lines (R182 to R184).
use Rattle.std.specs.Prelude.{List, [], ◌∷◌, ◌++◌, ◌≡◌, ℕ, zero, suc, length, Ok, Err}
use Rattle.checks.specs.declared.Refused.{Refused}
use Rattle.checks.specs.Check.{first_broken, input_checks, Verdict, number}
use Rattle.plan.specs.declared.PlanRead.{PlanRead}
use Rattle.plan.specs.Reader.{plan_of}
use Rattle.allot.specs.declared.Allotted.{Allotted}
use Rattle.allot.specs.Request.{entry}
use Rattle.allot.specs.Answer.{nothing_allotted, Rates}
use Rattle.lines.specs.declared.Line.{Line}
use Rattle.lines.specs.declared.Line.TheVariants.{Stop, Rate}
use Rattle.asked.specs.declared.Answer.{Answer}

-- a refusal allots nothing (R184)
abbrev pub refused_with : Refused → Answer
refused_with e = record { last = 0; allotted = nothing_allotted (Err e) }

-- the last class that a line is for: the plan's last class; of a refusal class 0, whose line is the only one (R184)
abbrev pub last_of : Verdict → ℕ → ℕ
last_of (Ok _) count = count
last_of (Err _) count = 0

-- what a plan gives: its own number first, then the numbers of the rates (R182)
abbrev pub OfPlan : Verdict → PlanRead → ℕ → List ℕ → Answer → Type 0
OfPlan (Err e) read capacity requests r = r ≡ refused_with e
OfPlan (Ok _) read capacity requests r =
    Rates read.tree capacity requests r.allotted × (r.last ≡ last_of r.allotted.verdict read.tree.count)

-- what the input gives: 10 before all else (R182)
abbrev pub OfInput : Verdict → List ℕ → ℕ → List ℕ → Answer → Type 0
OfInput (Err e) input capacity requests r = r ≡ refused_with e
OfInput (Ok _) input capacity requests r = OfPlan (plan_of input).verdict (plan_of input) capacity requests r

abbrev pub Answered : List ℕ → ℕ → List ℕ → Answer → Type 0
Answered input capacity requests r = OfInput (first_broken (input_checks (length input))) input capacity requests r

-- the line of class k: `rate` class request gets unallotted; or `stop` number place (R183, R184)
abbrev pub line_by : Verdict → Allotted → ℕ → Line
line_by (Ok _) a k = Rate k (entry a.requests k) (entry a.gets k) (entry a.unallotted k)
line_by (Err e) a k = Stop (number e.0) e.1

abbrev pub line_of : Answer → ℕ → Line
line_of r k = line_by r.allotted.verdict r.allotted k

-- the lines of an answer: one for each class from 0 to the last (R183)
abbrev pub lines_up_to : Answer → ℕ → List Line
lines_up_to r zero = line_of r 0 ∷ []
lines_up_to r (suc k) = lines_up_to r k ++ (line_of r (suc k) ∷ [])

abbrev pub answer_lines : Answer → List Line
answer_lines r = lines_up_to r r.last
