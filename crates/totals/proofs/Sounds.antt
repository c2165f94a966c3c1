-- The tables of a sound link: they are worked out, there is room to count one packet more, and where a leaf sends there is enough to
-- count one
-- less. Demand 2.
use mathlib.Core.Bool.{Bool, true, false}
use mathlib.Core.List.{List}
use mathlib.Core.Path.{◌≡◌, refl, ap, subst, ◌∙◌}
use Prim.Native.Nat.{ℕ, ◌^◌, ◌≤◌, ◌<◌}
use native.Mathlib.Omega.{arith}
use lib.ListN.{length, get_or}
use Rattle.checks.proofs.Laws.{not_true_and_false}
use Rattle.tree.specs.declared.Tree.{Tree}
use Rattle.tree.specs.Class.{is_leaf}
use Rattle.tree.specs.Rules.{PlanRules}
use Rattle.tree.proofs.Leaves.{root_some}
use Rattle.tree.proofs.Rules.{leaf_number}
use Rattle.units.specs.Cost.{cost_of}
use Rattle.state.specs.declared.Link.{Link}
use Rattle.state.specs.declared.Totals.{Totals}
use Rattle.state.specs.Queue.{no_packet, bytes_in}
use Rattle.state.specs.State.{State, meaning, queue_at}
use Rattle.state.proofs.Bytes.{bytes_rest}
use Rattle.sound.specs.Sound.{SoundLink}
use Rattle.rules.proofs.Counted.{totals_ceiling, leaf_counts}
use Rattle.totals.specs.WorkedOut.{worked_out, table_for, totals_for, CountsAt, Light, Roomy, Near, InTotal}
use Rattle.totals.proofs.WorkingOut.{worked_out_own, root_not_inner, leaf_not_inner, right_worked_out}

-- they are worked out, and there is room
module _ (l : Link) (sound : SoundLink l) where
  pub sound_roomy : Roomy l.totals
  sound_roomy = record {
    packets = λ k u. omega (arith, (totals_ceiling (meaning l) k sound.state u).0);
    bytes = λ k u. omega (arith, (totals_ceiling (meaning l) k sound.state u).1);
  }

  pub sound_total : length l.totals.packets ≡ 64 → length l.totals.bytes ≡ 64
      → InTotal l.tree l.totals.packets l.totals.bytes
  sound_total many wide = record {
    packets_out = packets;
    bytes_out = bytes;
    room = record {
      packets = λ k u. subst (λ (xs : List ℕ). get_or xs k 0 < 2 ^ 32) packets (sound_roomy.packets k u);
      bytes = λ k u. subst (λ (xs : List ℕ). get_or xs k 0 < 2 ^ 32) bytes (sound_roomy.bytes k u);
    };
  }
    where
      rules : PlanRules l.tree
      rules = sound.state.fits.tree

      packets : l.totals.packets ≡ worked_out l.tree l.totals.packets
      packets =
          right_worked_out l.tree rules (λ j. length (queue_at (meaning l) j)) l.totals.packets many
          (λ k u. (sound.state.totals k u).packets)

      bytes : l.totals.bytes ≡ worked_out l.tree l.totals.bytes
      bytes =
          right_worked_out l.tree rules (λ j. bytes_in (queue_at (meaning l) j)) l.totals.bytes wide
          (λ k u. (sound.state.totals k u).bytes)

-- so they stand for themselves, told sound or not
pub total_is : (sound : Bool) (t : Tree) (packets bytes : List ℕ) (charged : ℕ) → (sound ≡ true → InTotal t packets bytes)
    → totals_for false t packets bytes charged ≡ totals_for sound t packets bytes charged
total_is true t packets bytes charged all =
    λ n. record { packets = (all refl).packets_out n; bytes = (all refl).bytes_out n; charged = charged }
total_is false t packets bytes charged all = refl

-- what the root counts is as it lies
pub root_for : (sound : Bool) (t : Tree) (xs : List ℕ) → get_or (table_for sound t xs) 0 0 ≡ get_or xs 0 0
root_for true t xs = worked_out_own t xs 0 (omega arith) (root_not_inner t)
root_for false t xs = refl

-- in a table as it lies
module _ (t : Tree) (rules : PlanRules t) (xs : List ℕ) (few : (k : ℕ) → k < 64 → get_or (worked_out t xs) k 0 < 2 ^ 32) where
  own : (i : ℕ) → is_leaf t i ≡ true → get_or xs i 0 < 2 ^ 32
  own i leaf =
      let u = leaf_number t i rules leaf in
      omega (arith, few i u, worked_out_own t xs i u (leaf_not_inner t i leaf))

  root : get_or xs 0 0 < 2 ^ 32
  root = omega (arith, few 0 (omega arith), worked_out_own t xs 0 (omega arith) (root_not_inner t))

  more : (by i : ℕ) → is_leaf t i ≡ true → CountsAt false by i xs
  more by i leaf = record {
    leaf = own i leaf;
    root = root;
    less = λ e. absurd (not_true_and_false e refl);
    least = λ e. absurd (not_true_and_false e refl);
  }

  pub light_near : {ys : List ℕ} → Near xs ys → Light t ys
  light_near near = record { few = λ j leaf. omega (arith, near.most j, own j leaf) }

  pub light_here : Light t xs
  light_here = record { few = λ j leaf. omega (arith, own j leaf) }

module _ (t : Tree) (rules : PlanRules t) (packets bytes : List ℕ) (charged : ℕ) (room : Roomy
    (totals_for true t packets bytes charged)) where
  pub counts_more : (i charge : ℕ) → is_leaf t i ≡ true → CountsAt false 1 i packets × CountsAt false charge i bytes
  counts_more i charge leaf = (more t rules packets room.packets 1 i leaf, more t rules bytes room.bytes charge i leaf)

-- where a leaf holds a packet, the leaf and the root count it
module _ (l : Link) (packets bytes : List ℕ) (charged : ℕ) (is : l.totals ≡ totals_for true l.tree packets bytes charged)
    (sound : SoundLink l) (i : ℕ) (leaf : is_leaf l.tree i ≡ true) (some : 1 ≤ length (queue_at (meaning l) i)) where
  t : Tree
  t = l.tree

  s : State
  s = meaning l

  rules : PlanRules t
  unfolding t
  rules = sound.state.fits.tree

  at : ℕ → ℕ
  at k = get_or (worked_out t packets) k 0

  charge : ℕ
  charge = cost_of (get_or (queue_at s i) 0 no_packet).length

  u : i < 64
  unfolding t
  u = leaf_number l.tree i rules leaf

  pub counts_less : CountsAt true 1 i packets × CountsAt true (cost_of (get_or (queue_at (meaning l) i) 0 no_packet).length) i bytes
  unfolding t s rules charge u
  counts_less =
      let room = sound_roomy l sound in
      let here = leaf_counts l i sound leaf some in
      let p = ap (λ (x : Totals). get_or x.packets i 0) is ∙ worked_out_own l.tree packets i u (leaf_not_inner l.tree i leaf) in
      let b = ap (λ (x : Totals). get_or x.bytes i 0) is ∙ worked_out_own l.tree bytes i u (leaf_not_inner l.tree i leaf) in
      let p0 = ap (λ (x : Totals). get_or x.packets 0 0) is ∙ worked_out_own l.tree packets 0 (omega arith) (root_not_inner
      l.tree) in
      let b0 = ap (λ (x : Totals). get_or x.bytes 0 0) is ∙ worked_out_own l.tree bytes 0 (omega arith) (root_not_inner l.tree) in
      let all = sound.state.totals 0 (omega arith) in (
        record {
          leaf = omega (arith, p, room.packets i u);
          root = omega (arith, p0, room.packets 0 (omega arith));
          less = λ _. omega (arith, p, here.0);
          least = λ _. omega (arith, p0, all.packets, some, root_some l.tree rules (λ j. length (queue_at (meaning l) j)) i leaf);
        },
        record {
          leaf = omega (arith, b, room.bytes i u);
          root = omega (arith, b0, room.bytes 0 (omega arith));
          less = λ _. omega (arith, b, here.1);
          least = λ _.
              omega (
                arith,
                b0,
                all.bytes,
                bytes_rest (queue_at (meaning l) i) some,
                root_some l.tree rules (λ j. bytes_in (queue_at (meaning l) j)) i leaf,
              );
        },
      )

-- a table as it was
pub near_same : (xs : List ℕ) → Near xs xs
near_same xs = record { most = λ k. omega arith }
