-- What a match on a reader's answer says of it: its parts, put together.
use mathlib.Core.Path.{◌≡◌, ap, ◌∙◌}
use Rattle.std.specs.Prelude.{Option, None, Some, Result, Ok}

-- the input has ended
pub reads_none : {A E : Type 0} {v : Result (Option A) E} {x : Option A} → v ≡ Ok x → x ≡ None → v ≡ Ok None
reads_none is none = is ∙ ap (λ y. Ok y) none

-- one was read
pub reads_some : {A E : Type 0} {v : Result (Option A) E} {x : Option A} {y z : A} → v ≡ Ok x → x ≡ Some y → y ≡ z → v ≡ Ok (Some z)
reads_some is some same = is ∙ ap (λ y. Ok y) (some ∙ ap (λ y. Some y) same)
