-- A run of the second engine, and what it has in common with one of the first (R335, R336). Demand 2.
use Rattle.std.specs.Prelude.{Bool, List, [], ◌∷◌, ◌++◌, map}
use Rattle.state.specs.declared.Link.{Link}
use Rattle.state.specs.State.{State}
use Rattle.calls.specs.Run.{Call, Answer, made, Moment, closed, called}
use Rattle.published.specs.declared.Second.{Second}
use Rattle.published.specs.Second.{stands_for, gives}

-- a moment of a run: a round has closed, or a call has been answered
pub data Seen : Type 0 where
  shut : State → Seen
  told : (call : Call) → Answer call → Link → Seen

-- of a run of the first engine: its state at each closing, the answers, and the links (R335, R336)
abbrev pub seen_first : Moment → Seen
seen_first (closed turn) = shut turn.closed
seen_first (called (made call answer after)) = told call answer after

-- a run of the second engine, each link being the one that it stands for (R335)
unfoldable pub seen_second : Bool → Second → List Call → List Seen
seen_second sound l [] = []
seen_second sound l (call ∷ calls) =
    let g = gives sound l call in
    map shut g.closings ++ (told call g.answer (stands_for g.after) ∷ seen_second sound g.after calls)
