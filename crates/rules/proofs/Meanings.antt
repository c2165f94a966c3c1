-- What the record of a link means after the steps of a send. Demand 2.
use mathlib.Core.Bool.{true, ◌&&◌}
use mathlib.Core.Path.{◌≡◌, refl, sym, ap, subst, ◌∙◌}
use Prim.Native.Nat.{ℕ, ◌+◌, ◌%◌, ◌≤◌, ◌<◌}
use native.Mathlib.Omega.{arith}
use native.Mathlib.Decide.{ℕ_discrete}
use lib.Seq.{get_or-set_same, get_or-set_other}
use lib.Dec.{leb}
use lib.ListN.{length}
use Rattle.tree.specs.Class.{is_leaf}
use Rattle.tree.specs.Sum.{some_to}
use Rattle.tree.proofs.Classes.{both_true, class_in_lem}
use Rattle.tree.proofs.Sums.{some_which}
use Rattle.rules.specs.Active.{waits, some_waits}
use Rattle.rules.specs.Steps.{holds_some}
use Rattle.rules.proofs.Waiting.{some_same}
use Rattle.rules.specs.Waits.{Waits}
use borrow.Author.Tests.{le-leb, lt-leb, leb-true}
use Rattle.units.specs.Cost.{cost_of}
use Rattle.rules.proofs.Sent.{wide_after, sound_after}
use Rattle.state.specs.declared.Link.{Link}
use Rattle.state.specs.declared.Waiting.{Waiting}
use Rattle.state.specs.Queue.{Shaped, queue_of, start_of, held_of, packet_at, taken_first}
use Rattle.state.specs.State.{State, meaning, queue_at, in_round}
use Rattle.tree.proofs.Tables.{table_length}
use Rattle.state.proofs.Queues.{shaped_in}
use Rattle.state.proofs.Meaning.{meaning_held, meaning_take, meaning_first}
use Rattle.sound.specs.Sound.{Sound, SoundLink}
use Rattle.tree.proofs.Rules.{few_classes, size_ceiling}
use Rattle.rules.specs.Opening.{opened_with, opened, next_size, Covers}
use Rattle.rules.specs.Sending.{first_of, sent_state, paid_by, paid, books_after, turns_off}
use Rattle.rules.specs.Wide.{Wide}
use Rattle.rules.proofs.Opened.{next_covered}
use Rattle.rules.proofs.Sender.{Sender, next_sender}
use Rattle.rules.specs.After.{link_in, opened_link, sent_link}
use Rattle.rules.specs.Steps.{Fit, SendsNext}

-- there is an account and a queue for every class number
pub meaning_wide : (l : Link) → length l.round.accounts ≡ 64 → Wide (meaning l)
meaning_wide l many = record { accounts = many; queues = table_length (queue_of l) 64 }

-- the start kept for a queue is within its places
pub start_low : (l : Link) (k : ℕ) → SoundLink l → k < 64 → start_of l k < 32
start_low l k sound u = omega (arith, (sound.starts k u).start)

-- all B and R are within the ceiling of Q
pub sound_fit : (l : Link) → length l.round.accounts ≡ 64 → SoundLink l → Fit l.round.accounts
sound_fit l many sound =
    let st = sound.state in
    record { many = many; small = omega (arith, st.adds.adds, st.fits.size.most, size_ceiling l.tree st.fits.tree) }

-- a link in another state that is its own in a round means that state
pub meaning_in : (l : Link) (s : State) → s ≡ in_round (meaning l) s.round → meaning (link_in l s) ≡ s
unfolding queue_of
meaning_in l s same = sym same

-- an opening
pub opened_means : (l : Link) → meaning (opened_link l) ≡ opened (meaning l)
unfolding opened_with
opened_means l = meaning_in l (opened (meaning l)) refl

pub opened_link_sound : (l : Link) → Wide (meaning l) → SoundLink l → Covers (meaning l) (next_size (meaning l)) → SoundLink (opened_link l)
opened_link_sound l wide sound covers = record {
  state = subst Sound (sym (opened_means l)) (next_covered (meaning l) sound.state wide covers);
  starts = λ i u. record { start = (sound.starts i u).start };
}

-- the leaf that sends next
pub link_sender : (l : Link) (i : ℕ) → SendsNext l i → Sender (meaning l) i
link_sender l i n =
    subst (Sender (meaning l)) (sym n.next) (next_sender (meaning l) n.sound.state (subst (λ (k : ℕ). k < 64) n.next n.found))

pub sender_holds : (l : Link) (i : ℕ) → SendsNext l i → 1 ≤ held_of l i
sender_holds l i n = omega (arith, meaning_held l i n.found, (link_sender l i n).holds)

-- what its first packet costs, read where it lies
pub first_cost : (l : Link) (i : ℕ) (p : Waiting) (cost : ℕ) → SendsNext l i → p ≡ packet_at l i 0 → cost ≡ cost_of p.length
    → cost ≡ cost_of (first_of (meaning l) i).length
first_cost l i p cost n e f =
    f ∙ ap (λ (q : Waiting). cost_of q.length) (e ∙ sym (meaning_first l i n.found (sender_holds l i n)))

pub paid_means : (l : Link) (i cost : ℕ) → cost ≡ cost_of (first_of (meaning l) i).length
    → paid_by l.round.accounts i cost ≡ paid (meaning l) i
unfolding paid
paid_means l i cost e = ap (paid_by l.round.accounts i) e

-- the books after a packet that was not the last, and after one that was
pub books_more : (l : Link) (i : ℕ) → i < 64 → 1 < held_of l i
    → books_after (meaning l) i ≡ record { active = l.round.active; accounts = paid (meaning l) i }
unfolding books_after
books_more l i u h = rw (lt-leb (length (queue_at (meaning l) i)) 1 (omega (arith, meaning_held l i u)))

pub books_last : (l : Link) (i : ℕ) → i < 64 → held_of l i ≤ 1
    → books_after (meaning l) i ≡ turns_off 63 l.tree i (record { active = l.round.active; accounts = paid (meaning l) i })
unfolding books_after
books_last l i u h = rw (le-leb (length (queue_at (meaning l) i)) 1 (omega (arith, meaning_held l i u)))

-- the record after it means the state after it
pub sent_means : (l : Link) (i : ℕ) → Shaped l → SendsNext l i → meaning (sent_link l i) ≡ sent_state (meaning l) i
unfolding sent_state queue_of
sent_means l i shape n =
    let s = sent_state (meaning l) i in
    let wide = wide_after (meaning l) i n.sound.state (meaning_wide l shape.accounts) (link_sender l i n) in
    meaning_take (link_in l s) i
    (shaped_in l s.round shape wide.accounts)
    (record {
      rules = n.sound.state.fits.tree;
      leaf = (link_sender l i n).leaf;
      totals = λ k u. record { packets = (n.sound.state.totals k u).packets; bytes = (n.sound.state.totals k u).bytes };
    })
    (sender_holds l i n)

-- a packet waits where a leaf's count says so
pub waits_means : (l : Link) → SoundLink l → some_waits (meaning l) ≡ some_to (holds_some l.tree l.held) l.tree.count
unfolding some_waits waits holds_some
waits_means l sound =
    some_same _ _ l.tree.count
    (λ j a b. ap (λ (n : ℕ). is_leaf l.tree j && leb 1 n)
    (meaning_held l j (omega (arith, few_classes l.tree sound.state.fits.tree))))

-- and then some leaf holds one
pub waits_leaf : (s : State) → some_waits s ≡ true → Waits s
unfolding some_waits waits
waits_leaf s e =
    let w = some_which (waits s) s.tree.count e in
    let b = both_true (is_leaf s.tree w.0) (leb 1 (length (queue_at s w.0))) w.3 in
    record {
      leaf = w.0;
      class = class_in_lem s.tree w.0 w.1 w.2;
      is_leaf = b.0;
      holds = leb-true 1 (length (queue_at s w.0))
          b.1;
    }

-- and a sound link gives a sound one
start_after : (l : Link) (i k : ℕ) → length l.start ≡ 64 → i < 64 → start_of l k ≤ 31 → start_of (taken_first l i) k ≤ 31
start_after l i k many u right = go (ℕ_discrete k i)
  where
    go : Dec (k ≡ i) → start_of (taken_first l i) k ≤ 31
    go (yes e) = rw (e, get_or-set_same l.start i ((start_of l i + 1) % 32) 0 (omega (arith, many))) (omega arith)
    go (no e) = rw (get_or-set_other l.start i k ((start_of l i + 1) % 32) 0 e) right

pub sent_link_sound : (l : Link) (i : ℕ) → Shaped l → SendsNext l i → SoundLink (sent_link l i)
sent_link_sound l i shape n = record {
  state =
      subst Sound (sym (sent_means l i shape n))
      (sound_after (meaning l) i n.sound.state (meaning_wide l shape.accounts) (link_sender l i n));
  starts = λ k u. record { start = start_after l i k shape.start n.found (n.sound.starts k u).start };
}
