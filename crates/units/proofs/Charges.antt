-- The charges of five lengths (R15), computed: the shortest packet, the last two that are padded, the first that is not, and the longest.
use mathlib.Core.List.{[], ◌∷◌, map}
use mathlib.Core.Path.{◌≡◌, refl}
use Rattle.units.specs.Cost.{cost_of}

pub charges : map cost_of (1 ∷ 59 ∷ 60 ∷ 61 ∷ 9_216 ∷ []) ≡ 84 ∷ 84 ∷ 84 ∷ 85 ∷ 9_240 ∷ []
unfolding cost_of
charges = refl
