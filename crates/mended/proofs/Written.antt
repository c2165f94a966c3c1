-- A mended plan can be written, and reads back as it is (R272). Demand 1.
use mathlib.Core.List.{List}
use mathlib.Core.Path.{◌≡◌, ap}
use Prim.Native.Nat.{ℕ, ◌≤◌}
use lib.ListN.{length}
use Rattle.std.specs.Prelude.{Ok}
use Rattle.plan.specs.Reader.{plan_of}
use Rattle.written.specs.declared.Written.{Written}
use Rattle.written.specs.Bytes.{plan_bytes}
use Rattle.written.specs.Writing.{Writes}
use Rattle.written.proofs.Answers.{writes, written_reads}
use Rattle.mended.specs.Answer.{mend_of}
use Rattle.mended.proofs.Theorems.{obeys}

-- wherever there is room the writer writes it, and what it wrote reads as the mended tree
pub mended_written : (s : List ℕ) → (mend_of s).verdict ≡ Ok tt
    → (before : List ℕ) (r : Written) (after : List ℕ) → Writes (mend_of s).tree before r after
    → length (plan_bytes (mend_of s).tree) ≤ length before
    → (r.verdict ≡ Ok tt) × (plan_of after ≡ record { verdict = Ok tt; used = r.used; tree = (mend_of s).tree })
mended_written s passed before r after w room =
    let t = (mend_of s).tree in
    let v : r.verdict ≡ (Ok tt) = ap (λ (x : Written). x.verdict) (writes t before r after w (obeys s passed) room).0 in
    (v, written_reads t before r after w v)
