-- A recording in parts (R303 to R305): how a check begins, what a part on any record gives, and parts one after the other. However an input
-- is cut into parts, it is judged as the whole is: proofs/InParts. Demands 1 and 2.
use Rattle.checks.specs.declared.Refusal.TheVariants.{NotSound}
use Rattle.std.specs.Prelude.{Bool, true, false, cond, ◌&&◌, List, [], ◌∷◌, ◌++◌, ◌≡◌, ℕ, ◌-◌, leb, length, drop, Ok, Err}
use Rattle.checks.specs.Check.{Exactly, Verdict, refusal_at}
use Rattle.plan.specs.declared.PlanRead.{PlanRead}
use Rattle.plan.specs.Reader.{plan_of}
use Rattle.state.specs.declared.Link.{Link}
use Rattle.state.specs.State.{no_link}
use Rattle.sound.specs.Sound.{SoundLink}
use Rattle.calls.specs.Fresh.{fresh_of}
use Rattle.claims.specs.declared.Judged.{Judged}
use Rattle.claims.specs.declared.Judged.TheVariants.{Stop}
use Rattle.claims.specs.declared.Checked.{Checked}
use Rattle.claims.specs.Recording.{goes_on, decides, way_from, part_of}

-- a check begins with the plan: where it is refused that decides; else it goes on with a fresh link, after the plan (R305)
abbrev pub begins_with : Verdict → PlanRead → Checked
begins_with (Ok _) read = goes_on (fresh_of true read.tree).link read.used 0
begins_with (Err e) read = decides (Stop e) no_link 0 0

unfoldable pub check_begins : List ℕ → Checked
check_begins window = begins_with (plan_of window).verdict (plan_of window)

-- no place and no number of claims is past what a number can be: for longer input a part is not begun (R304)
abbrev pub most : ℕ
most = 18_446_744_073_709_551_615

unfoldable pub fits : ℕ → ℕ → ℕ → Bool
fits place claims n = leb n (most - place) && leb n (most - claims)

-- what a part gives: 11 at 0 on a link that is not sound; else entry after entry, where the numbers fit (R304)
abbrev pub part_gives : Bool → Bool → Link → ℕ → ℕ → List ℕ → Checked
part_gives false last l place claims part = decides (Stop (refusal_at NotSound 0)) l place claims
part_gives true last l place claims part =
    cond (fits place claims (length part)) (part_of last (way_from l place claims part)).at (goes_on l place claims)

-- so on any record, sound or not (R304)
pub record JudgesPart (last : Bool) (l : Link) (place claims : ℕ) (part : List ℕ) (r : Checked) : Type 0 where
  pub sound : Bool
  pub exactly : Exactly sound (SoundLink l)
  pub answer : r ≡ part_gives sound last l place claims part
  pub keeps : SoundLink l → SoundLink r.link

-- parts of an input and its end, put together (R305)
unfoldable pub joined : List (List ℕ) → List ℕ → List ℕ
joined [] end = end
joined (part ∷ parts) end = part ++ joined parts end

-- what is asked of a check that goes on, and of one that does not
abbrev pub Whether : Bool → Type 0 → Type 0 → Type 0
Whether true on ended = on
Whether false on ended = ended

-- the parts of an input, one after the other, each answered as its contract says: before each goes what the last one left of its bytes; the
-- end of the input is the last part, unless an entry has decided before (R305)
unfoldable pub PartByPart : List (List ℕ) → List ℕ → Link → ℕ → ℕ → List ℕ → Judged → Type 0
PartByPart [] end l place claims left j = (r : Checked) × JudgesPart true l place claims (left ++ end) r × (j ≡ r.judged)
PartByPart (part ∷ parts) end l place claims left j =
    (r : Checked)
    × JudgesPart false l place claims (left ++ part) r
    × Whether r.more (PartByPart parts end r.link r.place r.claims (drop (r.place - place) (left ++ part)) j) (j ≡ r.judged)
