-- `totals::count_in` meets its contract.
use mathlib.Core.Bool.{Bool, true, false}
use mathlib.Core.List.{List}
use mathlib.Core.Path.{◌≡◌, ap, ap₂, ◌∙◌}
use Prim.Native.Nat.{ℕ, ◌+◌, ◌^◌, ◌≤◌, ◌<◌}
use native.Mathlib.Decide.{ℕ_discrete}
use native.Mathlib.Omega.{arith}
use lib.ListN.{length, get_or, set, length-set}
use lib.Seq.{get_or-set_same, get_or-set_other}
use Rattle.state.specs.WayUp.{changed}
use Rattle.totals.specs.WorkedOut.{Near}
use Rattle.totals.proofs.count_in.Goals as goal

-- no number has grown by more than what is counted
most : (fewer : Bool) (by n : ℕ) → changed fewer by n ≤ n + by
most true by n = omega arith
most false by n = omega arith

near_ends : (fewer : Bool) (by i : ℕ) (xs : List ℕ) (x y : ℕ) → length xs ≡ 64 → 1 ≤ i → i < 64 → by < 2 ^ 32
    → x ≡ changed fewer by (get_or xs i 0) → y ≡ changed fewer by (get_or xs 0 0) → Near xs (set (set xs i x) 0 y)
near_ends fewer by i xs x y long l u small own root = record { most = λ k. go k (ℕ_discrete k 0) (ℕ_discrete k i) }
  where
    go : (k : ℕ) → Dec (k ≡ 0) → Dec (k ≡ i) → get_or (set (set xs i x) 0 y) k 0 < get_or xs k 0 + 2 ^ 32
    go k (yes z) d =
        rw z (omega (
          arith,
          get_or-set_same (set xs i x) 0 y 0 (omega (arith, long, length-set xs i x)),
          root,
          most fewer by (get_or xs 0 0),
          small,
        ))
    go k (no z) (yes e) =
        rw e (omega (
          arith,
          get_or-set_other (set xs i x) 0 i y 0 (λ o. omega (arith, o, l)),
          get_or-set_same xs i x 0 (omega (arith, long, u)),
          own,
          most fewer by (get_or xs i 0),
          small,
        ))
    go k (no z) (no e) = omega (arith, get_or-set_other (set xs i x) 0 k y 0 z, get_or-set_other xs i k x 0 e)

pub changed-requires-2 : goal.changed-requires-2
changed-requires-2 c =
    let a = c.args in
    let same = get_or-set_other a.table.now a.class 0 c.changed.result 0 (λ e. omega (arith, e, c.requires.0)) in
    (omega (arith, same, c.requires.3.root, c.requires.2), λ less. omega (arith, same, c.requires.3.least less))

pub returns : goal.returns
returns c =
    let a = c.args in
    let same = get_or-set_other a.table.now a.class 0 c.changed.result 0 (λ e. omega (arith, e, c.requires.0)) in
    let long = c.told-table in (
      long,
      ap₂ (λ (x y : ℕ). set (set a.table.now a.class x) 0 y) c.changed.ensures
          (c.changed-2.ensures ∙ ap (changed a.fewer a.by) same),
      near_ends a.fewer a.by a.class a.table.now c.changed.result c.changed-2.result long c.requires.0 c.requires.1
          c.requires.2
          c.changed.ensures (c.changed-2.ensures ∙ ap (changed a.fewer a.by) same),
    )
