-- What a call is refused with is one of the 22 that docs/refusals.md tells of, on any link and whatever is handed in (R4). Demand 1.
use mathlib.Core.Bool.{Bool, true, false}
use Prim.Native.Nat.{ℕ}
use native.Mathlib.Omega.{arith}
use Rattle.std.specs.Prelude.{Ok, Err}
use Rattle.checks.specs.Check.{first_broken, Verdict, Listed}
use Rattle.checks.proofs.Listed.{first_listed}
use Rattle.tree.specs.declared.Tree.{Tree}
use Rattle.state.specs.declared.Link.{Link}
use Rattle.state.specs.declared.Packet.{Packet}
use Rattle.state.specs.State.{meaning}
use Rattle.calls.specs.declared.AfterFresh.{AfterFresh}
use Rattle.calls.specs.declared.AfterArrival.{AfterArrival}
use Rattle.calls.specs.declared.AfterSend.{AfterSend}
use Rattle.calls.specs.declared.PanelTotals.{PanelTotals}
use Rattle.calls.specs.declared.ClassTotals.{ClassTotals}
use Rattle.calls.specs.Arrival.{arrival_checks, arrival_gives, arrival_of, Arrives}
use Rattle.calls.specs.Send.{send_checks, send_gives, send_of, Sends}
use Rattle.calls.specs.Fresh.{fresh_of, MakesFresh}
use Rattle.calls.specs.Panel.{panel_gives, class_gives, TellsTotals, TellsClass}

pub arrival_of_listed : (sound : Bool) (l : Link) (class : ℕ) (p : Packet) → Listed (arrival_of sound l class p).answer.verdict
unfolding arrival_of
arrival_of_listed sound l class p =
    go (first_broken (arrival_checks sound (meaning l) class p))
    (first_listed (arrival_checks sound (meaning l) class p)
    ((omega arith, omega arith), ((omega arith, omega arith), ((omega arith, omega arith), ((omega arith, omega arith), tt)))))
  where
    go : (v : Verdict) → Listed v → Listed (arrival_gives v l class p).answer.verdict
    go (Ok _) h = tt
    go (Err e) h = h

pub arrival_listed : {l : Link} {class : ℕ} {p : Packet} {r : AfterArrival} → Arrives l class p r → Listed r.answer.verdict
arrival_listed {l} {class} {p} {r} a = rw a.answer (arrival_of_listed a.sound l class p)

pub send_of_listed : (sound : Bool) (l : Link) → Listed (send_of sound l).answer.verdict
unfolding send_of
send_of_listed sound l =
    go (first_broken (send_checks sound (meaning l)))
    (first_listed (send_checks sound (meaning l)) ((omega arith, omega arith), ((omega arith, omega arith), tt)))
  where
    go : (v : Verdict) → Listed v → Listed (send_gives v l).answer.verdict
    go (Ok _) h = tt
    go (Err e) h = h

pub send_listed : {l : Link} {r : AfterSend} → Sends l r → Listed r.answer.verdict
send_listed {l} {r} a = rw a.answer (send_of_listed a.sound l)

pub fresh_of_listed : (obeys : Bool) (t : Tree) → Listed (fresh_of obeys t).verdict
fresh_of_listed true t = tt
fresh_of_listed false t = (omega arith, omega arith)

pub fresh_listed : {t : Tree} {r : AfterFresh} → MakesFresh t r → Listed r.verdict
fresh_listed {t} {r} a = rw a.answer (fresh_of_listed a.obeys t)

panel_gives_listed : (sound : Bool) (l : Link) → Listed (panel_gives sound l).verdict
panel_gives_listed true l = tt
panel_gives_listed false l = (omega arith, omega arith)

pub totals_listed : {l : Link} {r : PanelTotals} → TellsTotals l r → Listed r.verdict
totals_listed {l} {r} a = rw a.answer (panel_gives_listed a.sound l)

class_gives_listed : (sound : Bool) (l : Link) (i : ℕ) → Listed (class_gives sound l i).verdict
class_gives_listed true l i = tt
class_gives_listed false l i = (omega arith, omega arith)

pub class_totals_listed : {l : Link} {i : ℕ} {r : ClassTotals} → TellsClass l i r → Listed r.verdict
class_totals_listed {l} {i} {r} a = rw a.answer (class_gives_listed a.sound l i)
