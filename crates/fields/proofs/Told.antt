-- One class number's totals, out of what the panel is told of all, are what it is told of that one. Demand 1.
use mathlib.Core.Bool.{Bool, true, false, cond}
use mathlib.Core.Path.{◌≡◌, refl, sym, ap, ◌∙◌}
use Prim.Native.Nat.{ℕ, ◌<◌}
use native.Mathlib.Decide.{dec_lt}
use native.Mathlib.Omega.{arith}
use lib.Dec.{ltb}
use lib.ListN.{length, get_or}
use borrow.Author.Tests.{lt-ltb, le-ltb}
use Rattle.checks.specs.declared.Refusal.TheVariants.{NotSound}
use Rattle.checks.specs.Check.{refusal_at}
use Rattle.std.specs.Prelude.{Ok, Err}
use Rattle.tree.specs.Sum.{table}
use Rattle.tree.proofs.Tables.{table_at}
use Rattle.state.specs.declared.Link.{Link}
use Rattle.state.specs.Queue.{bytes_in}
use Rattle.state.specs.State.{meaning, waiting_below, counts_of}
use Rattle.sound.specs.Sound.{SoundLink}
use Rattle.calls.specs.declared.PanelTotals.{PanelTotals}
use Rattle.calls.specs.declared.ClassTotals.{ClassTotals}
use Rattle.calls.specs.Panel.{panel_gives, TellsTotals, class_gives, TellsClass}
use Rattle.calls.proofs.Panels.{wide_none}
use lib.ListN.{replicate, get_or-replicate}
use Rattle.fields.specs.Fields.{class_in}

-- an entry of a table, or 0 past it
entry : (f : ℕ → ℕ) (i : ℕ) → (63 < i → f i ≡ 0) → cond (ltb 63 i) 0 (get_or (table f 64) i 0) ≡ f i
entry f i none = go (dec_lt 63 i)
  where
    go : Dec (63 < i) → cond (ltb 63 i) 0 (get_or (table f 64) i 0) ≡ f i
    go (yes h) = rw (lt-ltb 63 i h) (sym (none h))
    go (no h) = rw (le-ltb 63 i (omega arith)) (table_at f 0 64 i (omega arith))

zero_entry : (i : ℕ) → ◌≡◌ {A = ℕ} (cond (ltb 63 i) 0 (get_or (replicate 64 0) i 0)) 0
zero_entry i = go (dec_lt 63 i)
  where
    go : Dec (63 < i) → ◌≡◌ {A = ℕ} (cond (ltb 63 i) 0 (get_or (replicate 64 0) i 0)) 0
    go (yes h) = rw (lt-ltb 63 i h) refl
    go (no h) = rw (le-ltb 63 i (omega arith)) (get_or-replicate {A = ℕ} 64 i 0 0 (omega arith))

class_of : (sound : Bool) (l : Link) (i : ℕ) → (sound ≡ true → SoundLink l) → class_in (panel_gives sound l) i ≡ class_gives sound l i
unfolding counts_of
class_of true l i is = λ k. record {
  verdict = Ok tt;
  packets = entry (waiting_below length l.tree (meaning l).queues) i (wide_none l (is refl) length i) k;
  bytes = record { 0 = entry (waiting_below bytes_in l.tree (meaning l).queues) i (wide_none l (is refl) bytes_in i) k };
}
class_of false l i is = λ k. record {
  verdict = Err (refusal_at NotSound 0);
  packets = zero_entry i k;
  bytes = record { 0 = zero_entry i k };
}

pub class_told : (l : Link) (i : ℕ) (told : PanelTotals) (r : ClassTotals) → TellsTotals l told → r ≡ class_in told i → TellsClass l i r
class_told l i told r t e = record {
  sound = t.sound;
  exactly = t.exactly;
  answer = e ∙ ap (λ (x : PanelTotals). class_in x i) t.answer ∙ class_of t.sound l i t.exactly.sound;
}
