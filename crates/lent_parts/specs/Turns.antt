-- What the steps of the loop over a lent record say; no rule of its own. What the whole loop says are the parts of R203 (parts/specs/Part).
use Rattle.plan.specs.declared.event.Event.{Event}
use Rattle.std.specs.Prelude.{Bool, true, false, cond, List, ◌≡◌, ℕ, ◌+◌, leb, length, drop, Ok, Err, Option, Some, None}
use Rattle.plan.specs.Event.{used_of, event_at, EventRead}
use Rattle.state.specs.declared.Link.{Link}
use Rattle.lines.specs.declared.Line.{Line}
use Rattle.lines.specs.Line.{line_room}
use Rattle.run.specs.Event.{last_line, Gives}
use Rattle.parts.specs.declared.PartRun.{PartRun}
use Rattle.parts.specs.Steps.{LaysLine}
use Rattle.lent_parts.specs.declared.Turn.{Turn}

-- the call of an event that was read: an arrival and a send are calls, which are made where there is room for their line; the end of input
-- and a refused record are none
abbrev pub call_at : Bool → EventRead → Option Event
call_at fits (Ok e) = cond fits e None
call_at fits (Err _) = None

-- the turn of an event that was read at a place
abbrev pub turn_for : Bool → ℕ → ℕ → EventRead → Turn
turn_for fits laid place e = record { call = call_at fits e; laid = laid; place = place; after = place + used_of e; read = e }

-- the turn of the event at a place of the input, where so much is laid of so much room
unfoldable pub turn_at : List ℕ → ℕ → ℕ → ℕ → Turn
turn_at input room laid place = turn_for (leb (laid + line_room) room) laid place (event_at (drop place input) place)

-- a call of an event is made on a record, with its line: the run goes on so, wherever the event stands
abbrev pub Called : Link → Event → Line → Link → Type 0
Called l e line m =
    (place : ℕ) → Gives l place (Ok (Some e)) (record { line = line; more = true; link = m; place = place + used_of (Ok (Some e)) })

-- a call's line is laid, and the next turn is that of the event after it
pub record Follows (line : Line) (t : Turn) (input : List ℕ) (before : List ℕ) (r : Turn) (after : List ℕ) : Type 0 where
  pub lays : LaysLine t.laid line before r.laid after
  pub next : r ≡ turn_at input (length before) r.laid t.after

-- what a part answers, where it ends at a turn
abbrev pub ends_with : Turn → Link → ℕ → Bool → PartRun
ends_with t l laid more = record { laid = laid; more = more; link = l; place = t.place }

-- the end of a part: nothing is laid where there is no room for one more line, and the last line where there is
pub record Ends (t : Turn) (l : Link) (before : List ℕ) (r : PartRun) (after : List ℕ) : Type 0 where
  pub full : leb (t.laid + line_room) (length before) ≡ false → (r ≡ ends_with t l t.laid true) × (after ≡ before)
  pub last : leb (t.laid + line_room) (length before) ≡ true
      → (r ≡ ends_with t l r.laid false) × LaysLine t.laid (last_line t.read l) before r.laid after
