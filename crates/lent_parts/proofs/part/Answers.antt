-- `lent_parts::part` meets its contract: whether the record is sound is decided once.
use Rattle.std.proofs.Common.{◌≡◌, ℕ, length, sym, subst}
use Rattle.lines.proofs.Laying.{counts}
use Rattle.parts.specs.Steps.{Taken}
use Rattle.lent_parts.specs.Turns.{turn_at}
use Rattle.lent_parts.proofs.Turning.{turn_stands}
use Rattle.lent_parts.proofs.part.Goals as goal

-- the first turn stands at the place
pub serve-requires : goal.serve-requires
serve-requires c =
    let a = c.args in
    let t = c.turn_at-start in
    let stands = (turn_stands a.input.now (length a.out.now) t.result 0 a.place t.ensures).1 in
    subst (λ (p : ℕ). t.result ≡ turn_at a.input.now (length a.out.now) 0 p) (sym stands) t.ensures

pub returns : goal.returns
returns c =
    let a = c.args in
    let t = c.turn_at-start in
    let stands = (turn_stands a.input.now (length a.out.now) t.result 0 a.place t.ensures).1 in
    let k = subst (λ (p : ℕ). Taken a.link a.input.now p a.out.now c.serve.result c.serve.new.out) stands c.serve.ensures in
    record { parts = k.decided c.is_sound.result c.is_sound.ensures; prefix_len = counts _ _ k.within }
