-- A run whose input is read window by window (R243 to R248): what a part of it gives in a window, and the windows one after the other until
-- the run ends. Put together, their texts are the run's lines: proofs/Windows. Demands 1 and 2.
use Rattle.std.specs.Prelude.{Bool, true, false, cond, List, ◌++◌, ◌≡◌, ℕ, ◌+◌, ◌-◌, ◌≤◌, eqb, length, take, drop, Ok, Err, Some, None}
use Rattle.checks.specs.Check.{number}
use Rattle.plan.specs.Event.{event_at, EventRead}
use Rattle.state.specs.declared.Link.{Link}
use Rattle.lines.specs.Line.{bytes_of}
use Rattle.run.specs.Event.{last_line}
use Rattle.parts.specs.declared.PartRun.{PartRun}
use Rattle.parts.specs.Part.{Parts}

-- the line that would end a run at the place where a part of it ended (R243)
abbrev pub last_bytes : List ℕ → PartRun → List ℕ
last_bytes window p = bytes_of (last_line (event_at (drop p.place window) p.place) p.link)

-- a part without the line that would end the run at the window's end (R243)
abbrev pub unended : List ℕ → PartRun → PartRun
unended window p =
    record { laid = cond p.more p.laid (p.laid - length (last_bytes window p)); more = p.more; link = p.link; place = p.place }

-- what a part of a run in a window gives: a part of the run of that window alone, but for its last line (R243)
pub record InWindow (l : Link) (window : List ℕ) (place : ℕ) (before : List ℕ) (r : PartRun) (after : List ℕ) : Type 0 where
  pub part : PartRun
  pub parts : Parts l window place before part after
  pub answer : r ≡ unended window part

-- a window's last bytes wait for more: there is none, or a record that is cut (R244)
abbrev pub waits_for_more : EventRead → Bool
waits_for_more (Ok None) = true
waits_for_more (Ok (Some e)) = false
waits_for_more (Err e) = eqb (number e.0) 1

unfoldable pub unfinished_at : List ℕ → Bool
unfinished_at rest = waits_for_more (event_at rest 0)

-- parts in one window, one after the other, each from the link and the place that the last one left, until the window's events end (R246)
pub data WindowOn (window : List ℕ) : Link → ℕ → Link → ℕ → Type 0 where
  last : (l : Link) (place : ℕ) (before : List ℕ) (r : PartRun) (after : List ℕ) → InWindow l window place before r after
      → r.more ≡ false → WindowOn window l place r.link r.place
  then : (l : Link) (place : ℕ) (before : List ℕ) (r : PartRun) (after : List ℕ) (l' : Link) (place' : ℕ)
      → InWindow l window place before r after → r.more ≡ true → WindowOn window r.link r.place l' place'
      → WindowOn window l place l' place'

-- what they laid, one after the other (R246)
unfoldable pub window_text : {window : List ℕ} {l l' : Link} {place place' : ℕ} → WindowOn window l place l' place' → List ℕ
window_text (last l place before r after p e) = take r.laid after
window_text (then l place before r after l' place' p e rest) = take r.laid after ++ window_text rest

-- windows of an input, one after the other: each holds the input from its offset on, up to where it is cut, and the next one begins where
-- its events end. The last one holds all of the rest, or ends at what waits for no more bytes (R246, R247)
pub data StreamOn (input : List ℕ) : Link → ℕ → Type 0 where
  whole : (offset : ℕ) (window : List ℕ) (l : Link) (place : ℕ) (l' : Link) (place' : ℕ) → drop offset input ≡ window
      → place ≤ length window → WindowOn window l place l' place' → StreamOn input l (offset + place)
  ends : (offset : ℕ) (window rest : List ℕ) (l : Link) (place : ℕ) (l' : Link) (place' : ℕ) → drop offset input ≡ window ++ rest
      → place ≤ length window → WindowOn window l place l' place' → unfinished_at (drop place' window) ≡ false
      → StreamOn input l (offset + place)
  next : (offset : ℕ) (window rest : List ℕ) (l : Link) (place : ℕ) (l' : Link) (place' : ℕ) → drop offset input ≡ window ++ rest
      → place ≤ length window → WindowOn window l place l' place' → StreamOn input l' (offset + place') → StreamOn input l (offset + place)

-- what is printed: the windows' texts, and at the end the last line, its place counted from the input's first byte (R247)
abbrev pub last_at : List ℕ → Link → ℕ → ℕ → List ℕ
last_at window l offset place = bytes_of (last_line (event_at (drop place window) (offset + place)) l)

unfoldable pub streamed_by : {input : List ℕ} {l : Link} {place : ℕ} → StreamOn input l place → List ℕ
streamed_by (whole offset window l place l' place' e f run) = window_text run ++ last_at window l' offset place'
streamed_by (ends offset window rest l place l' place' e f run done) = window_text run ++ last_at window l' offset place'
streamed_by (next offset window rest l place l' place' e f run later) = window_text run ++ streamed_by later
