-- What the inner steps of a part say; no rule of its own.
use Rattle.std.specs.Prelude.{Bool, List, ℕ, ◌+◌, ◌≤◌, length, Ok, Err}
use Rattle.checks.specs.Check.{Exactly, Verdict, number}
use Rattle.state.specs.declared.Link.{Link}
use Rattle.state.specs.declared.Packet.{Packet}
use Rattle.sound.specs.Sound.{SoundLink}
use Rattle.lines.specs.declared.Line.{Line}
use Rattle.lines.specs.declared.Line.TheVariants.{Out, Nothing, End, Stop}
use Rattle.lines.specs.Line.{bytes_of, line_room}
use Rattle.digits.specs.Laid.{LaidAt}
use Rattle.run.specs.Event.{arrival_says}
use Rattle.answers.specs.declared.Kind.{Kind}
use Rattle.answers.specs.declared.Kind.TheVariants.{Last, Arrival, Send, Other}
use Rattle.answers.specs.declared.Reply.{Reply}
use Rattle.parts.specs.declared.PartRun.{PartRun}
use Rattle.parts.specs.Part.{Parts}

-- a line is laid from a place of a buffer on, within the room that it must have
abbrev pub LaysLine : ℕ → Line → List ℕ → ℕ → List ℕ → Type 0
LaysLine at line before r after = LaidAt at (bytes_of line) before r after × (r ≤ at + line_room)

-- the packet with these numbers
abbrev pub packet_with : ℕ → ℕ → Packet
packet_with length tag = record { length = length; tag = tag }

-- the line of a send, by its verdict
abbrev pub gone_says : Verdict → ℕ → ℕ → ℕ → ℕ → ℕ → Line
gone_says (Ok _) class length tag rounds waited = Out class length tag rounds waited
gone_says (Err _) class length tag rounds waited = Nothing

-- the last line, with the packets that still wait
abbrev pub end_says : Verdict → ℕ → Line
end_says (Ok _) waiting = End waiting
end_says (Err e) waiting = Stop (number e.0) e.1

-- the line of a reply: of an arrival, of a send, or the last one
abbrev pub kind_says : Kind → Reply → ℕ → Line
kind_says Arrival r waiting = arrival_says r.verdict r.class (packet_with r.length r.tag) r.bytes
kind_says Send r waiting = gone_says r.verdict r.class r.length r.tag r.rounds r.bytes
kind_says Last r waiting = end_says r.verdict waiting
kind_says (Other _) r waiting = end_says r.verdict waiting

abbrev pub reply_says : Reply → ℕ → Line
reply_says r waiting = kind_says r.kind r waiting

-- a part as its contract says, on a record of which it was decided whether it is sound; what it laid is within the buffer
pub record Taken (l : Link) (input : List ℕ) (place : ℕ) (before : List ℕ) (r : PartRun) (after : List ℕ) : Type 0 where
  pub within : r.laid ≤ length after
  pub decided : (sound : Bool) → Exactly sound (SoundLink l) → Parts l input place before r after
