-- What is answered of a tree or a link is refused, if at all, with one of the 22 that docs/refusals.md tells of (R4). Of a reader, a call,
-- rates, a mended plan, a recording and a burst it is said in the files of this name in plan, calls, asked, mended, claims and answers.
-- Demand 1.
use mathlib.Core.List.{List}
use Prim.Native.Nat.{ℕ}
use native.Mathlib.Omega.{arith}
use Rattle.std.specs.Prelude.{Ok, Err}
use Rattle.checks.specs.Check.{first_broken, Verdict, Listed}
use Rattle.checks.proofs.Listed.{first_listed}
use Rattle.tree.specs.declared.Tree.{Tree}
use Rattle.state.specs.declared.Link.{Link}
use Rattle.state.specs.State.{meaning}
use Rattle.written.specs.declared.Written.{Written}
use Rattle.written.specs.Writing.{write_checks, written_by, Writes}
use Rattle.promised.specs.declared.Promised.{Promised}
use Rattle.promised.specs.Promise.{wait_checks, promised_by, Promises}
use Rattle.reasons.specs.Answer.{Silence, silent_checks, told_verdict, SaysWhy}
use Rattle.offered.specs.declared.Offered.{Offered}
use Rattle.offered.specs.Offer.{Offers}
use Rattle.calls.proofs.Listed.{arrival_listed}

-- of a tree: a plan's bytes, a promised wait
pub written_listed : {t : Tree} {before after : List ℕ} {r : Written} → Writes t before r after → Listed r.verdict
written_listed {t} {before} {after} {r} a =
    rw a.answer (go (first_broken (write_checks a.obeys t before))
    (first_listed (write_checks a.obeys t before) ((omega arith, omega arith), ((omega arith, omega arith), tt))))
  where
    go : (v : Verdict) → Listed v → Listed (written_by v t).verdict
    go (Ok _) h = tt
    go (Err e) h = h

pub promised_listed : {t : Tree} {class d : ℕ} {r : Promised} → Promises t class d r → Listed r.verdict
promised_listed {t} {class} {d} {r} a =
    rw a.answer (go (first_broken (wait_checks a.obeys t class d))
    (first_listed (wait_checks a.obeys t class d) ((omega arith, omega arith), ((omega arith, omega arith), ((omega arith, omega arith), tt)))))
  where
    go : (v : Verdict) → Listed v → Listed (promised_by v t class d).verdict
    go (Ok _) h = tt
    go (Err e) h = h

-- of a link: why a class is silent, an offer
pub silence_listed : {l : Link} {class : ℕ} {r : Silence} → SaysWhy l class r → Listed (told_verdict r)
silence_listed {l} {class} {r} a =
    rw a.verdict (first_listed (silent_checks a.sound (meaning l) class) ((omega arith, omega arith), ((omega arith, omega arith), tt)))

pub offer_listed : {l : Link} {class n : ℕ} {r : Offered} → Offers l class n r → Listed r.verdict
offer_listed a = rw a.answer (arrival_listed a.arrives)
