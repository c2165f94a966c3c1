-- What the exported burst says, for any bytes and any numbers in the caller's arrays: the library's burst on the link that lies in them,
-- from the first byte of the events on (R349). Demands 1 and 2.
use Rattle.std.specs.Prelude.{List, [], ◌∷◌, ◌≡◌, ℕ}
use Rattle.checks.specs.Check.{number_of}
use Rattle.state.specs.declared.Link.{Link}
use Rattle.answers.specs.declared.BurstEnd.{BurstEnd}
use Rattle.answers.specs.Burst.{Bursts}

-- the end of a burst: what ended it, the place that it came to, and how many calls it made (R349)
abbrev pub burst_said : BurstEnd → List ℕ
burst_said end = number_of end.verdict ∷ end.place ∷ end.replies ∷ []

-- a burst, from the first of its bytes on (R349)
pub record CallBursts (l : Link) (input before : List ℕ) (number : ℕ) (said out : List ℕ) (after : Link) : Type 0 where
  pub answer : BurstEnd
  pub rules : Bursts l input 0 before answer out after
  pub answers : number ≡ number_of answer.verdict
  pub numbers : said ≡ burst_said answer
