-- A run of exported calls (R346): arrivals and sends one after the other, each on the link that the last one left in the arrays.
-- Demands 1 to 3.
use Rattle.std.specs.Prelude.{List, [], ◌∷◌, ◌++◌, ℕ}
use Rattle.state.specs.declared.Link.{Link}
use Rattle.calls.specs.Run.{Call, arrival, send}
use Rattle.cometbanjo.specs.Numbers.{packet_of}
use Rattle.cometbanjo.specs.Calls.{CallArrives, CallSends}

-- an exported call by its numbers: an arrival's class, length and tag, or a send; and the library's call that it is (R346, R348)
pub data BoxCall : Type 0 where
  arrives : ℕ → ℕ → ℕ → BoxCall
  sends : BoxCall

abbrev pub call_in : BoxCall → Call
call_in (arrives class length tag) = arrival class (packet_of length tag)
call_in sends = send

-- one that was made: what it returned, its eight numbers, and the link in the arrays then
pub record BoxMade : Type 0 where
  pub call : BoxCall
  pub number : ℕ
  pub row : List ℕ
  pub after : Link

-- it was answered as its contract says
abbrev pub BoxMeets : Link → BoxCall → ℕ → List ℕ → Link → Type 0
BoxMeets l (arrives class length tag) number row after = CallArrives l class length tag number row after
BoxMeets l sends number row after = CallSends l number row after

-- calls one after the other, each answered so (R346)
unfoldable pub BoxRun : Link → List BoxMade → Type 0
BoxRun l [] = Unit {0}
BoxRun l (m ∷ ms) = BoxMeets l m.call m.number m.row m.after × BoxRun m.after ms

-- the numbers of all their answers, and the link that the last of them left
unfoldable pub rows_in : List BoxMade → List ℕ
rows_in [] = []
rows_in (m ∷ ms) = m.row ++ rows_in ms

unfoldable pub last_in : Link → List BoxMade → Link
last_in l [] = l
last_in l (m ∷ ms) = last_in m.after ms
