-- Two siblings, side by side (R255). Take two leaves i and j of one parent and two moments of a run at which a round has closed, both
-- leaves holding a packet at every moment between: the charges sent by i times j's weight and those sent by j times i's weight differ by
-- at most w_j × (L_i − 1) + w_i × (L_j − 1). It speaks of the library: of any run of its calls, under either size rule, whatever the other
-- classes do. Nothing is asked of the link that the run starts from: where a round has closed it was sound. Of a round's opening only this
-- is used, that a leaf which holds a packet gains its weight times its parent's quota, so how large the round is plays no part. Demand 2.
use mathlib.Core.List.{List, [], ◌∷◌}
use mathlib.Core.Path.{◌≡◌, refl, sym, ap, subst, ◌∙◌}
use Prim.Native.Nat.{ℕ, ◌+◌, ◌*◌, ◌-◌, ◌≤◌, ◌<◌}
use native.Mathlib.Decide.{dec_le}
use native.Mathlib.Nat.{add-mul, mul_assoc, mul_comm, mul-one, mul-le-mul_left, mul-le-mul_right, zero-mul}
use native.Mathlib.Omega.{arith}
use lib.ListN.{length}
use Rattle.units.specs.Cost.{cost_of}
use Rattle.tree.specs.Class.{parent_of, weight_of, longest_of}
use Rattle.tree.proofs.Rules.{leaf_number, weight_range}
use Rattle.state.specs.declared.Link.{Link}
use Rattle.state.specs.Account.{balance_of}
use Rattle.sound.specs.Sound.{SoundLink}
use Rattle.rules.proofs.Taken.{leaf_class_lem}
use Rattle.calls.specs.Run.{Made, made_in, closed_in, Run, moments_of}
use Rattle.siblings.specs.Siblings.{Siblings, Closings, Holding, charges_of, quotas_of, difference, most_apart, apart}
use Rattle.siblings.proofs.ClosedSound.{closings_sound}
use Rattle.siblings.proofs.Between.{none_charged, first_short, second_short, leaf_law}

-- the same quotas F, and balances a before and b after that are below L: what two leaves were charged, each times the other's weight
close : (a a' b b' c c' v w f m m' : ℕ) → b + c ≡ a + v * f → b' + c' ≡ a' + w * f → a < m → b < m → a' < m' → b' < m'
    → difference (c * w) (c' * v) ≤ w * (m - 1) + v * (m' - 1)
close a a' b b' c c' v w f m m' one other am bm am' bm' =
    let gains : v * f * w ≡ w * f * v = mul_assoc v f w ∙ mul_comm v (f * w) ∙ ap (λ (x : ℕ). x * v) (mul_comm f w) in
    omega (
      arith,
      gains,
      sym (add-mul b c w) ∙ ap (λ (x : ℕ). x * w) one ∙ add-mul a (v * f) w,
      sym (add-mul b' c' v) ∙ ap (λ (x : ℕ). x * v) other ∙ add-mul a' (w * f) v,
      most a m w am,
      most b m w bm,
      most a' m' v am',
      most b' m' v bm',
    )
  where
    most : (x n u : ℕ) → x < n → x * u ≤ u * (n - 1)
    most x n u h =
        let less : x ≤ n - 1 = omega arith in
        omega (arith, mul_comm x u, mul-le-mul_left u less)

-- equal weights are no part of it
without_weight : (a b w x : ℕ) → 1 ≤ w → difference (a * w) (b * w) ≤ w * x + w * x → difference a b ≤ x + x
without_weight a b w x some near = go (dec_le (difference a b) (x + x)) (dec_le a b)
  where
    over : (c d : ℕ) → c + (x + x + 1) ≤ d → c * w + (w * x + w * x + 1) ≤ d * w
    over c d h =
        omega (
          arith,
          some,
          mul-le-mul_right w h,
          add-mul c (x + x + 1) w,
          add-mul (x + x) 1 w,
          add-mul x x w,
          mul_comm x w,
          mul_comm 1 w,
          mul-one w,
        )

    go : Dec (difference a b ≤ x + x) → Dec (a ≤ b) → difference a b ≤ x + x
    go (yes h) d = h
    go (no h) (yes l) = absurd (omega (arith, near, over a b (omega arith)))
    go (no h) (no l) = absurd (omega (arith, near, over b a (omega arith)))

module _
    (l : Link) (run : List Made) (i j : ℕ) (is : Run l run) (s : Siblings l.tree i j)
    (c : Closings (moments_of l run)) (held : Holding i c.between) (held' : Holding j c.between) where
  sound : SoundLink l
  sound = closings_sound run l is c

  -- where calls were made between: the two have the same quotas
  some_apart : 1 ≤ length (made_in c.between) → apart l.tree i j c.between ≤ most_apart l.tree i j
  some_apart some =
      close (balance_of c.first.closed.round.accounts i) (balance_of c.first.closed.round.accounts j)
      (balance_of c.second.closed.round.accounts i) (balance_of c.second.closed.round.accounts j) (charges_of i c.between)
      (charges_of j c.between) (weight_of l.tree i) (weight_of l.tree j)
      (quotas_of (parent_of l.tree i) (c.first ∷ closed_in c.between)) (cost_of (longest_of l.tree i))
      (cost_of (longest_of l.tree j))
      (leaf_law l run i sound is s.leaf c some held)
      (subst
      (λ (p : ℕ). balance_of c.second.closed.round.accounts j + charges_of j c.between
      ≡ balance_of c.first.closed.round.accounts j + weight_of l.tree j * quotas_of p (c.first ∷ closed_in c.between))
      s.parent (leaf_law l run j sound is s.other c some held'))
      (first_short l run i sound is s.leaf c)
      (second_short l run i sound is s.leaf c)
      (first_short l run j sound is s.other c)
      (second_short l run j sound is s.other c)

  -- two siblings, side by side
  pub side_by_side : apart l.tree i j c.between ≤ most_apart l.tree i j
  side_by_side = go (made_in c.between) refl
    where
      go : (calls : List Made) → made_in c.between ≡ calls → apart l.tree i j c.between ≤ most_apart l.tree i j
      go [] e =
          rw (none_charged c.between i e, none_charged c.between j e)
          (omega (arith, zero-mul (weight_of l.tree i), zero-mul (weight_of l.tree j)))
      go (m ∷ calls) e = some_apart (omega (arith, ap length e))

  -- two lines alike, of one weight and one longest packet: their charges differ by at most 2 × (L − 1)
  pub alike : weight_of l.tree j ≡ weight_of l.tree i → longest_of l.tree j ≡ longest_of l.tree i
      → difference (charges_of i c.between) (charges_of j c.between) ≤ 2 * (cost_of (longest_of l.tree i) - 1)
  alike weight longest =
      let w = weight_of l.tree i in
      let x = cost_of (longest_of l.tree i) - 1 in
      let t = l.tree in
      let rules = sound.state.fits.tree in
      let class = leaf_class_lem t i rules (leaf_number t i rules s.leaf) s.leaf in
      let near = rw (weight, longest) at side_by_side in
      omega (
        arith,
        without_weight (charges_of i c.between) (charges_of j c.between) w x
            (weight_range t i (rules.each.weights i class)).0 near,
      )
