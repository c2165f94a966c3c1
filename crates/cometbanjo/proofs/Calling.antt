-- What the exported calls are made of: the library's calls on the link in the arrays, and their answers as numbers. Demands 1 to 3.
use mathlib.Core.Bool.{Bool, true, false, not}
use mathlib.Core.List.{List, [], ◌∷◌}
use mathlib.Core.Path.{◌≡◌, refl, sym, ap, ap₂, subst, ◌∙◌}
use Prim.Native.Nat.{ℕ}
use lib.ListN.{length, length-set, length-replicate, replicate}
use Rattle.checks.specs.declared.Refusal.TheVariants.{NotSound}
use Rattle.checks.specs.declared.Refusal.{Refusal}
use Rattle.std.specs.Prelude.{Ok, Err}
use Rattle.checks.specs.Check.{check, Exactly, number_of, Verdict, refusal_at}
use Rattle.checks.proofs.Laws.{decides}
use Rattle.tree.specs.declared.Tree.{Tree}
use Rattle.tree.specs.Rules.{PlanRules}
use Rattle.tree.specs.Size.{round_size}
use Rattle.tree.specs.Sum.{table}
use Rattle.tree.proofs.Tables.{table_length}
use Rattle.shape.specs.Shape.{tree_in}
use Rattle.state.specs.declared.Account.{Account}
use Rattle.state.specs.declared.Link.{Link}
use Rattle.state.specs.declared.Packet.{Packet}
use Rattle.state.specs.Account.{account, no_account, balance_of, residual_of, zip_accounts}
use Rattle.state.specs.State.{link_of, round_of}
use Rattle.state.proofs.Zips.{zip_fields}
use Rattle.sound.specs.Sound.{SoundLink}
use Rattle.calls.specs.declared.AfterFresh.{AfterFresh}
use Rattle.calls.specs.declared.Arrival.{Arrival}
use Rattle.calls.specs.declared.Departure.{Departure}
use Rattle.calls.specs.Fresh.{fresh_of, MakesFresh}
use Rattle.calls.specs.Arrival.{Arrives, arrival_leaves}
use Rattle.calls.specs.Send.{Sends, send_leaves}
use Rattle.calls.specs.Run.{arrival, send, made}
use Rattle.steps.specs.declared.Stand.{Stand}
use Rattle.wait.proofs.BoundedWait.{sound}
use Rattle.promised.specs.declared.Promised.{Promised}
use Rattle.promised.specs.Promise.{Promises}
use Rattle.offered.specs.declared.Offered.{Offered}
use Rattle.offered.specs.Offer.{of_length, wait_by, Offers}
use Rattle.offered.proofs.Offering.{promise_is_bound}
use Rattle.written.specs.Writing.{written_by, buffer_by, nothing_written, Arrays, Writes}
use Rattle.answers.specs.Reply.{reply_to, row_of}
use Rattle.answers.specs.Burst.{link_in}
use Rattle.cometbanjo.specs.Numbers.{met_length, packet_of}
use Rattle.cometbanjo.specs.Calls.{CallArrives, CallSends}

-- ---- a link is laid into arrays

-- a fresh link has 64 accounts
pub fresh_wide : {t : Tree} {r : AfterFresh} → MakesFresh t r → length r.link.round.accounts ≡ 64
fresh_wide {t = t} is = ap (λ (x : AfterFresh). length x.link.round.accounts) is.answer ∙ go is.obeys
  where
    go : (b : Bool) → length (fresh_of b t).link.round.accounts ≡ 64
    go true = length-set (replicate 64 no_account) 0 (account (round_size t) 0) ∙ length-replicate 64 no_account
    go false = length-replicate 64 no_account

-- the link in the arrays is the one whose fields were laid there
pub link_laid : (l : Link) (shape : List ℕ) {stand balance residual : List ℕ} → tree_in shape ≡ l.tree
    → stand ≡ l.round.size.0 ∷ l.round.active ∷ l.round.place ∷ l.totals.charged ∷ []
    → balance ≡ table (balance_of l.round.accounts) 64
    → residual ≡ table (residual_of l.round.accounts) 64 → length l.round.accounts ≡ 64
    → link_in shape stand balance residual l.start l.held l.lengths l.tags l.marks l.totals.packets l.totals.bytes ≡ l
link_laid l shape {stand} {balance} {residual} tree stands bs rs wide =
    ap (λ (s : List ℕ). link_in shape s balance residual l.start l.held l.lengths l.tags l.marks l.totals.packets
    l.totals.bytes) stands
    ∙ ap₂ (λ (t : Tree) (xs : List Account). link_of t l.lengths l.tags l.marks l.start l.held l.totals
    (round_of l.round.size.0 l.round.active l.round.place xs)) tree
    (ap₂ zip_accounts bs rs ∙ zip_fields l.round.accounts wide)

-- ---- answers as numbers

pub arrival_said : {l : Link} {class n tag number : ℕ} {row : List ℕ} {after : Link} {p : Packet} {came : Arrival} → p ≡ packet_of n tag
    → Arrives l class p (arrival_leaves came after) → number ≡ number_of came.verdict
    → ((x : Link) → row ≡ row_of (reply_to (made (arrival class p) came x))) → CallArrives l class n tag number row after
arrival_said {l} {class} {n} {tag} {number} {row} {after} {p} {came} is rules answers row_is = record {
  answer = came;
  rules = subst (λ (q : Packet). Arrives l class q (arrival_leaves came after)) is rules;
  answers = answers;
  numbers = row_is after ∙ ap (λ (q : Packet). row_of (reply_to (made (arrival class q) came after))) is;
}

pub send_said : {l : Link} {number : ℕ} {row : List ℕ} {after : Link} {went : Departure} → Sends l (send_leaves went after)
    → number ≡ number_of went.verdict → ((x : Link) → row ≡ row_of (reply_to (made send went x))) → CallSends l number row after
send_said {after = after} {went = went} rules answers row_is = record {
  answer = went;
  rules = rules;
  answers = answers;
  numbers = row_is after;
}

-- ---- whether the link in the arrays is sound

-- decided of where it was read to stand
pub decided_standing : (f : Stand → Link) {s s' : Stand} {b : Bool} → s ≡ s' → Exactly b (SoundLink (f s)) → Exactly b (SoundLink (f s'))
decided_standing f {b = b} e x = subst (λ (s : Stand). Exactly b (SoundLink (f s))) e x

-- ---- offers

-- the length that was met is that of the packet
pub offers_met : (n : ℕ) {l : Link} {class tag : ℕ} {p : Packet} {r : Offered} → p ≡ packet_of n tag → Offers l class p.length r
    → Offers l class (met_length n) r
offers_met n {l} {class} {r = r} is offers = subst (λ (q : Packet). Offers l class q.length r) is offers

module _ {l : Link} {class n : ℕ} {answer : Arrival} {after : Link}
    (arrives : Arrives l class (of_length n) (arrival_leaves answer after)) where
  -- what an arrival answers is offered, with this wait
  pub offers_by : (w : ℕ) → w ≡ wait_by answer.verdict l class answer.bytes.0
      → Offers l class n (record { verdict = answer.verdict; bytes = answer.bytes; wait = record { 0 = w } })
  offers_by w is = record {
    after = arrival_leaves answer after;
    arrives = arrives;
    answer = ap (λ (k : ℕ). record { verdict = answer.verdict; bytes = answer.bytes; wait = record { 0 = k } }) is;
  }

  -- one that is refused is offered nothing
  pub offers_none : {k : Refusal} {p : ℕ} → answer.verdict ≡ Err (refusal_at k p)
      → Offers l class n (record { verdict = answer.verdict; bytes = answer.bytes; wait = record { 0 = 0 } })
  offers_none refused = offers_by 0 (sym (ap (λ (v : Verdict). wait_by v l class answer.bytes.0) refused))

  -- one that is accepted is on a link whose tree obeys the plan rules, and its wait is the promise of that tree
  pub accepted_rules : answer.verdict ≡ Ok tt → PlanRules l.tree
  accepted_rules accepted = (sound l class (of_length n) (arrival_leaves answer after) arrives accepted).state.fits.tree

  pub accepted_wait : {t : Tree} → t ≡ l.tree → answer.verdict ≡ Ok tt → (r : Promised) → Promises t class answer.bytes.0 r
      → r.bytes.0 ≡ wait_by answer.verdict l class answer.bytes.0
  accepted_wait is accepted r promises =
      promise_is_bound l class n (arrival_leaves answer after) arrives accepted r
      (subst (λ (t : Tree). Promises t class answer.bytes.0 r) is promises)
      ∙ sym (ap (λ (v : Verdict). wait_by v l class answer.bytes.0) accepted)

-- ---- a shape is written

shape_arrays : (s : List ℕ) → Arrays (tree_in s)
unfolding tree_in
shape_arrays s = record { parents = table_length _ 64; weights = table_length _ 64; longests = table_length _ 64 }

-- of one that breaks the plan rules nothing is
pub shape_refused : (s before : List ℕ) → Exactly false (PlanRules (tree_in s))
    → Writes (tree_in s) before (nothing_written (Err (refusal_at NotSound 0))) before
shape_refused s before exactly =
    let first = decides (check NotSound (not false) 0) _ refl in
    record {
      shape = shape_arrays s;
      obeys = false;
      exactly = exactly;
      answer = sym (ap (λ (v : Verdict). written_by v (tree_in s)) first);
      buffer = sym (ap (λ (v : Verdict). buffer_by v (tree_in s) before) first);
    }
