-- A run by parts (R203 to R206): a part lays lines into a lent buffer, event after event, as long as the run goes on and the buffer has
-- room for one more line. Put together, the parts' texts are the run's lines: proofs/Parts. Demands 1 and 2.
use Rattle.std.specs.Prelude.{Bool, true, false, ◌&&◌, cond, List, [], ◌∷◌, ◌++◌, ◌≡◌, ℕ, zero, suc, ◌+◌, leb, length, take, drop}
use Rattle.checks.specs.Check.{Exactly}
use Rattle.state.specs.declared.Link.{Link}
use Rattle.sound.specs.Sound.{SoundLink}
use Rattle.lines.specs.declared.Line.{Line}
use Rattle.lines.specs.Line.{bytes_of, line_room}
use Rattle.parts.specs.declared.PartRun.{PartRun}
use Rattle.run.specs.Event.{step_of}

-- how far a part has come: the text laid so far, and whether the run goes on, with which link and at which place
pub record Partway : Type 0 where
  pub text : List ℕ
  pub more : Bool
  pub link : Link
  pub place : ℕ

-- one event more: its line stands after the text (R203)
abbrev pub onward : Bool → List ℕ → Partway → Partway
onward sound input p =
    let s = step_of sound p.link input p.place in
    record { text = p.text ++ bytes_of s.line; more = s.more; link = s.link; place = s.place }

-- one event more is taken where the run goes on and a buffer of this length has room for one more line (R203)
abbrev pub takes_one : ℕ → Partway → Bool
takes_one room p = p.more && leb (length p.text + line_room) room

-- event after event; n is more events than there can be (R203)
unfoldable pub takes : ℕ → Bool → List ℕ → ℕ → Partway → Partway
takes zero sound input room p = p
takes (suc n) sound input room p = cond (takes_one room p) (takes n sound input room (onward sound input p)) p

-- a part, from a link and a place of the input, into a buffer of this length (R203)
unfoldable pub part_of : Bool → Link → List ℕ → ℕ → ℕ → Partway
part_of sound l input place room = takes (suc (length input)) sound input room (record { text = []; more = true; link = l; place = place })

-- the answer counts the bytes laid (R204)
abbrev pub counted : Partway → PartRun
counted p = record { laid = length p.text; more = p.more; link = p.link; place = p.place }

-- what a part on any record gives, sound or not; the buffer holds the text, and then what it held from there on before (R204)
pub record Parts (l : Link) (input : List ℕ) (place : ℕ) (before : List ℕ) (r : PartRun) (after : List ℕ) : Type 0 where
  pub sound : Bool
  pub exactly : Exactly sound (SoundLink l)
  pub answer : r ≡ counted (part_of sound l input place (length before))
  pub lays : let text = (part_of sound l input place (length before)).text in after ≡ text ++ drop (length text) before
  pub keeps : SoundLink l → SoundLink r.link

-- parts one after the other until the run ends, each from the link and the place that the last one left, each answered as its contract
-- says (R205)
pub data RunOn (input : List ℕ) : Link → ℕ → Type 0 where
  last : (l : Link) (place : ℕ) (before : List ℕ) (r : PartRun) (after : List ℕ) → Parts l input place before r after → r.more ≡ false
      → RunOn input l place
  then : (l : Link) (place : ℕ) (before : List ℕ) (r : PartRun) (after : List ℕ) → Parts l input place before r after → r.more ≡ true
      → RunOn input r.link r.place → RunOn input l place

-- what they laid, one after the other (R205)
unfoldable pub laid_by : {input : List ℕ} {l : Link} {place : ℕ} → RunOn input l place → List ℕ
laid_by (last l place before r after p e) = take r.laid after
laid_by (then l place before r after p e rest) = take r.laid after ++ laid_by rest

-- the bytes of lines, one line after the other (R205)
unfoldable pub printed : List Line → List ℕ
printed [] = []
printed (line ∷ rest) = bytes_of line ++ printed rest
