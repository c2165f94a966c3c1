-- The end of a line: what the steps of laying a line say.
use Rattle.std.specs.Prelude.{List, [], ◌∷◌, ◌++◌, ℕ}
use Rattle.lines.specs.Line.{spaced_numbers}

-- a line after its word or after some of its numbers: the other numbers, and the end of the line
unfoldable pub end_of : List ℕ → List ℕ
end_of ns = spaced_numbers ns ++ (10 ∷ [])
