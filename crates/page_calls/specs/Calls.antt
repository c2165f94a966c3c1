-- What each call of the page says, for any bytes and any numbers: what the library says, in number arrays. Demands 1 to 3.
use Rattle.std.specs.Prelude.{Bool, true, false, cond, List, [], ◌∷◌, ◌≡◌, ℕ, Option, unwrap_or}
use Rattle.checks.specs.Check.{number_of}
use Rattle.tree.specs.declared.Tree.{Tree}
use Rattle.units.specs.declared.Bytes.{Bytes}
use Rattle.tree.specs.Sum.{table}
use Rattle.shape.specs.Steps.{Sizes}
use Rattle.plan.specs.Reader.{plan_of}
use Rattle.written.specs.declared.Written.{Written}
use Rattle.written.specs.Writing.{Writes}
use Rattle.mended.specs.Answer.{mend_of}
use Rattle.asked.specs.declared.Answer.{Answer}
use Rattle.asked.specs.Answer.{Answered}
use Rattle.promised.specs.declared.Promised.{Promised}
use Rattle.promised.specs.declared.LeafWaits.{LeafWaits}
use Rattle.promised.specs.Promise.{Promises, PromisesLeaf}
use Rattle.lines.specs.declared.Line.{Line}
use Rattle.lines.specs.Line.{Lays}
use Rattle.run.specs.declared.Step.{Step}
use Rattle.run.specs.Run.{program_begins}
use Rattle.parts.specs.declared.PartRun.{PartRun}
use Rattle.parts.specs.Part.{Parts}
use Rattle.desk.specs.Ending.{run_end}
use Rattle.desk.specs.Told.{Tells}
use Rattle.page_calls.specs.Kept.{said_of, numbers_of, weights_of, class_at, old_at, new_at}

-- a plan is read: its refusal and the bytes used, its tree, and the round size Q, 0 of a plan that is refused
pub record Opens (input : List ℕ) (number : ℕ) (said numbers size parent weight longest : List ℕ) : Type 0 where
  pub judged : Option Bytes
  pub sizes : Sizes (plan_of input).tree judged
  pub answers : number ≡ number_of (plan_of input).verdict
  pub verdict : said ≡ said_of (plan_of input).verdict (plan_of input).used
  pub tree : numbers ≡ numbers_of (plan_of input).tree
  pub whole : size ≡ (unwrap_or judged (record { 0 = 0 })).0 ∷ []
  pub parents : parent ≡ (plan_of input).tree.parent
  pub weights : weight ≡ weights_of (plan_of input).tree
  pub longests : longest ≡ (plan_of input).tree.longest

-- a tree is written: the writer's answer on it, and the buffer
pub record WritesTree (t : Tree) (before : List ℕ) (number : ℕ) (said after : List ℕ) : Type 0 where
  pub answer : Written
  pub rules : Writes t before answer after
  pub answers : number ≡ number_of answer.verdict
  pub verdict : said ≡ said_of answer.verdict answer.used

-- a plan is mended: its refusal, and how many weights change, with their classes, old and new, in class order
pub record MendsPlan (input : List ℕ) (number : ℕ) (said count class old new : List ℕ) : Type 0 where
  pub answers : number ≡ number_of (mend_of input).verdict
  pub verdict : said ≡ said_of (mend_of input).verdict (mend_of input).used
  pub counted : count ≡ (mend_of input).changes.count ∷ []
  pub classes : class ≡ table (class_at (mend_of input).changes.at) 64
  pub olds : old ≡ table (old_at (mend_of input).changes.at) 64
  pub news : new ≡ table (new_at (mend_of input).changes.at) 64

-- a plan's rates: number 10 before all else, the plan's numbers, then 20 and 21; and what each class requests, gets and leaves
pub record RatesOf (input : List ℕ) (capacity : ℕ) (asked : List ℕ) (number : ℕ) (said requests gets left : List ℕ) : Type 0 where
  pub answer : Answer
  pub rules : Answered input capacity asked answer
  pub answers : number ≡ number_of answer.allotted.verdict
  pub verdict : said ≡ said_of answer.allotted.verdict answer.last
  pub all_requests : requests ≡ answer.allotted.requests
  pub all_gets : gets ≡ answer.allotted.gets
  pub all_left : left ≡ answer.allotted.unallotted

-- what a plan promises the longest packet of a leaf: bytes alone, bytes as the last of 32
pub record WaitsOf (input : List ℕ) (class number : ℕ) (bytes : List ℕ) : Type 0 where
  pub answer : LeafWaits
  pub rules : PromisesLeaf (plan_of input).tree class answer
  pub answers : number ≡ number_of answer.alone.verdict
  pub promised : bytes ≡ answer.alone.bytes.0 ∷ answer.full.bytes.0 ∷ []

-- and a packet that is accepted with D bytes in its queue
pub record BoundOf (input : List ℕ) (class d bytes : ℕ) : Type 0 where
  pub answer : Promised
  pub rules : Promises (plan_of input).tree class d answer
  pub promised : bytes ≡ answer.bytes.0

-- the lines of a run's events, as many as the buffer has room for: the bytes laid, and whether the run goes on; none where it ends with
-- its first line
abbrev pub part_says : PartRun → List ℕ
part_says r = r.laid ∷ cond r.more 1 0 ∷ []

pub record PartOf (s : Step) (input before said after : List ℕ) : Type 0 where
  pub answer : PartRun
  pub rules : Parts s.link input s.place before answer after
  pub says : said ≡ part_says answer

abbrev pub EventsBy : Bool → Step → List ℕ → List ℕ → List ℕ → List ℕ → Type 0
EventsBy true s input before said after = PartOf s input before said after
EventsBy false s input before said after = (said ≡ 0 ∷ 0 ∷ []) × (after ≡ before)

abbrev pub Events : List ℕ → List ℕ → List ℕ → List ℕ → Type 0
Events input before said after = let s = program_begins input in EventsBy s.more s input before said after

-- why a class is silent when a run has ended, as a line
pub record TellsWhy (input : List ℕ) (class : ℕ) (before : List ℕ) (r : ℕ) (after : List ℕ) : Type 0 where
  pub line : Line
  pub tells : Tells (run_end input).link class line
  pub lays : Lays line before r after
