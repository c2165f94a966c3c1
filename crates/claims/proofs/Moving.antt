-- What an arrival of a recording gives, taken or refused, and how far an entry moves. Demand 1.
use mathlib.Core.Bool.{Bool, true, false}
use mathlib.Core.List.{List}
use mathlib.Core.Path.{◌≡◌, refl, sym, subst}
use Prim.Native.Nat.{ℕ, ◌+◌, ◌≤◌, ◌<◌}
use native.Mathlib.Omega.{arith}
use lib.ListN.{length}
use Rattle.plan.specs.declared.entry.Entry.TheVariants.{Arrives, Claims}
use Rattle.std.specs.Prelude.{Ok, Err, Some, None}
use Rattle.checks.specs.Check.{first_broken, Verdict}
use Rattle.checks.proofs.Laws.{not_true_and_false}
use Rattle.plan.specs.declared.Arrived.{Arrived}
use Rattle.plan.specs.Entry.{entry_at, claim_uses, EntryRead, Claim}
use Rattle.plan.proofs.EntryLaws.{within_by}
use Rattle.state.specs.declared.Link.{Link}
use Rattle.state.specs.declared.Packet.{Packet}
use Rattle.state.specs.State.{meaning}
use Rattle.calls.specs.Arrival.{arrival_checks, arrival_gives, arrival_of}
use Rattle.calls.specs.Send.{send_of}
use Rattle.claims.specs.declared.Checked.{Checked}
use Rattle.claims.specs.Recording.{true_claim, same_claim, goes_on, claim_gives, after_arrival, call_gives, entry_gives}

-- a call that an arrival makes leaves a link with which the check goes on, taken or refused
pub arrival_on : (l : Link) (a : Arrived) (place claims : ℕ)
    → entry_gives l place claims (Ok (Some (Arrives a))) ≡ goes_on (call_gives l a).link (place + 8) claims
unfolding arrival_of
arrival_on l a place claims =
    let p : Packet = record { length = a.length; tag = a.tag } in
    go p (first_broken (arrival_checks true (meaning l) a.class p))
  where
    go : (p : Packet) (v : Verdict)
        → after_arrival (arrival_gives v l a.class p).answer.verdict l (arrival_gives v l a.class p).link place claims
        ≡ goes_on (arrival_gives v l a.class p).link (place + 8) claims
    go p (Ok _) = refl
    go p (Err _) = refl

-- an entry moves on within the rest of the input, further where the check goes on, and no further than it counts claims
pub record Moves (place claims : ℕ) (rest : List ℕ) (s : Checked) : Type 0 where
  pub forward : place ≤ s.place
  pub within : s.place ≤ place + length rest
  pub counted : s.claims + place ≤ claims + s.place
  pub on : s.more ≡ true → place < s.place

moves_claim : (after : Link) (place claims : ℕ) (rest : List ℕ) (c : Claim) (h : Bool) → 1 + claim_uses c ≤ length rest
    → Moves place claims rest (claim_gives h after c place claims)
moves_claim after place claims rest c true w = record {
  forward = omega arith;
  within = omega (arith, w);
  counted = omega arith;
  on = λ _. omega arith;
}
moves_claim after place claims rest c false w = record {
  forward = omega arith;
  within = omega arith;
  counted = omega arith;
  on = λ m. absurd (not_true_and_false m refl);
}

pub entry_moves : (l : Link) (place claims : ℕ) (rest : List ℕ) → Moves place claims rest (entry_gives l place claims (entry_at rest))
entry_moves l place claims rest = go (entry_at rest) refl
  where
    go : (e : EntryRead) → entry_at rest ≡ e → Moves place claims rest (entry_gives l place claims e)
    go (Ok None) same = record {
      forward = omega arith;
      within = omega arith;
      counted = omega arith;
      on = λ m. absurd (not_true_and_false m refl);
    }
    go (Ok (Some (Arrives a))) same = subst (Moves place claims rest) (sym (arrival_on l a place claims)) (record {
      forward = omega arith;
      within = omega (arith, within_by rest (Ok (Some (Arrives a))) same);
      counted = omega arith;
      on = λ _. omega arith;
    })
    go (Ok (Some (Claims c))) same =
        moves_claim (send_of true l).link place claims rest c (same_claim c (true_claim (send_of true l).answer))
        (within_by rest (Ok (Some (Claims c))) same)
    go (Err _) same = record {
      forward = omega arith;
      within = omega arith;
      counted = omega arith;
      on = λ m. absurd (not_true_and_false m refl);
    }
