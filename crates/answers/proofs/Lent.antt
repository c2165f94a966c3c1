-- A link whose fields are lent arrays has lists as long as a link's: each array has the length of its type.
use mathlib.Core.List.{List}
use mathlib.Core.Path.{◌≡◌, sym, ◌∙◌}
use mathlib.Core.Bool.{false}
use Prim.Native.Nat.{ℕ}
use lib.ListN.{length}
use Rattle.tree.specs.declared.Tree.{Tree}
use Rattle.state.specs.Queue.{Shaped}
use Rattle.state.proofs.Zips.{zip_length}
use Rattle.steps.specs.declared.Stand.{Stand}
use Rattle.steps.specs.Fields.{link_at}

pub lent_shaped : (balance residual : List ℕ) {start held lengths tags marks packets bytes : List ℕ} (t : Tree) (s : Stand)
    → length balance ≡ 64 → length residual ≡ 64 → length start ≡ 64 → length held ≡ 64
    → length lengths ≡ 2048 → length tags ≡ 2048 → length marks ≡ 2048 → length packets ≡ 64 → length bytes ≡ 64
    → Shaped (link_at false t s balance residual start held lengths tags marks packets bytes)
lent_shaped balance residual t s many also start held lengths tags marks packets bytes = record {
  accounts = zip_length balance residual (many ∙ sym also) ∙ many;
  start = start;
  held = held;
  lengths = lengths;
  tags = tags;
  marks = marks;
  packets = packets;
  bytes = bytes;
}
