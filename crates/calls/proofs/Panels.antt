-- Laws of what the panel is told: the record's totals are the sums over the leaves; a number that is no class has none; one answer. Demands
-- 1 and 2.
use mathlib.Core.Bool.{Bool}
use mathlib.Core.List.{List}
use mathlib.Core.Path.{◌≡◌, sym, ap, ◌∙◌}
use Prim.Native.Nat.{ℕ, ◌<◌}
use native.Mathlib.Omega.{arith}
use lib.ListN.{length, get_or}
use lib.Seq.{ext_get_or}
use Rattle.checks.proofs.Laws.{exactly_unique}
use Rattle.tree.specs.Sum.{table}
use Rattle.tree.proofs.Leaves.{past_sum}
use Rattle.tree.proofs.Tables.{table_length, table_at}
use Rattle.tree.proofs.Rules.{few_classes}
use Rattle.state.specs.declared.Link.{Link}
use Rattle.state.specs.declared.Waiting.{Waiting}
use Rattle.state.specs.Queue.{bytes_in}
use Rattle.state.specs.State.{meaning, waiting_below, totals_of, counts_of}
use Rattle.sound.specs.Sound.{SoundLink}
use Rattle.calls.specs.declared.PanelTotals.{PanelTotals}
use Rattle.calls.specs.declared.ClassTotals.{ClassTotals}
use Rattle.calls.specs.Panel.{panel_gives, TellsTotals, class_gives, TellsClass}

module _ (l : Link) (sound : SoundLink l) where
  -- one of the two tables
  table_is : (count : List Waiting → ℕ) (xs : List ℕ) → length xs ≡ 64
      → ((i : ℕ) → i < 64 → get_or xs i 0 ≡ waiting_below count l.tree (meaning l).queues i)
      → xs ≡ table (waiting_below count l.tree (meaning l).queues) 64
  table_is count xs long right =
      let f = waiting_below count l.tree (meaning l).queues in
      ext_get_or 0 xs (table f 64) (long ∙ sym (table_length f 64))
      (λ i u. let v : i < 64 = omega (arith, u, long) in right i v ∙ sym (table_at f 0 64 i v))

  -- the totals in a sound record are the sums over the leaves
  pub sound_totals : length l.totals.packets ≡ 64 → length l.totals.bytes ≡ 64
      → l.totals ≡ totals_of l.tree (meaning l).queues l.totals.charged
  unfolding counts_of
  sound_totals packets bytes = λ k. record {
    packets = table_is length l.totals.packets packets (λ i u. (sound.state.totals i u).packets) k;
    bytes = table_is bytes_in l.totals.bytes bytes (λ i u. (sound.state.totals i u).bytes) k;
    charged = l.totals.charged;
  }

  -- a number that is no class has none
  pub past_none : (count : List Waiting → ℕ) (i : ℕ) → l.tree.count < i → waiting_below count l.tree (meaning l).queues i ≡ 0
  past_none count i h = past_sum l.tree sound.state.fits.tree _ i h

  pub wide_none : (count : List Waiting → ℕ) (i : ℕ) → 63 < i → waiting_below count l.tree (meaning l).queues i ≡ 0
  wide_none count i h = past_none count i (omega (arith, h, few_classes l.tree sound.state.fits.tree))

-- any two answers are equal
pub panel_one_answer : (l : Link) (a b : PanelTotals) → TellsTotals l a → TellsTotals l b → a ≡ b
panel_one_answer l a b x y =
    x.answer ∙ ap (λ (s : Bool). panel_gives s l) (exactly_unique x.exactly y.exactly) ∙ sym y.answer

pub class_one_answer : (l : Link) (i : ℕ) (a b : ClassTotals) → TellsClass l i a → TellsClass l i b → a ≡ b
class_one_answer l i a b x y =
    x.answer ∙ ap (λ (s : Bool). class_gives s l i) (exactly_unique x.exactly y.exactly) ∙ sym y.answer
