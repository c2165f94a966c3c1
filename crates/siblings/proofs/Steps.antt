-- A run of the library as one leaf sees it, moment by moment: what each moment does to its balance. Demand 2.
use mathlib.Core.Bool.{Bool, true, false, cond, ◌&&◌}
use mathlib.Core.List.{List, [], ◌∷◌, ◌++◌, map}
use mathlib.Core.Logic.{◌⊎◌, inl, inr}
use mathlib.Core.Path.{◌≡◌, refl, sym, ap, subst, ◌∙◌}
use Prim.Native.Nat.{ℕ, ◌+◌, ◌≤◌, ◌<◌}
use native.Mathlib.Omega.{arith}
use lib.Dec.{eqb}
use lib.ListN.{length, get_or}
use Rattle.checks.specs.declared.Refusal.TheVariants.{NothingWaits}
use Rattle.checks.specs.declared.Refusal.{Refusal}
use Rattle.std.specs.Prelude.{Ok, Err}
use Rattle.checks.specs.Check.{first_broken, passed, Verdict, refusal_at}
use Rattle.checks.proofs.Laws.{refused_or_passed}
use Rattle.sets.specs.Set.{has}
use Rattle.units.specs.Cost.{cost_of}
use Rattle.tree.specs.declared.Tree.{Tree}
use Rattle.tree.specs.Class.{is_leaf}
use Rattle.tree.proofs.Rules.{leaf_number}
use Rattle.state.specs.declared.Account.{Account}
use Rattle.state.specs.declared.Link.{Link}
use Rattle.state.specs.declared.Packet.{Packet}
use Rattle.state.specs.declared.Waiting.{Waiting}
use Rattle.state.specs.Account.{balance_of}
use Rattle.state.specs.Queue.{held_of}
use Rattle.state.specs.State.{State, meaning, queue_at}
use Rattle.state.proofs.Meaning.{meaning_held}
use Rattle.sound.specs.Sound.{Sound, SoundLink}
use Rattle.rules.specs.Active.{some_waits}
use Rattle.rules.specs.Opening.{next_size, opened}
use Rattle.rules.specs.Sending.{first_of, next_leaf, sent_state, Turn, turn_of, Trace, trace_of}
use Rattle.rules.specs.After.{link_after}
use Rattle.rules.specs.Wide.{Wide}
use Rattle.rules.proofs.Meanings.{meaning_wide, waits_leaf}
use Rattle.rules.proofs.Opened.{next_sound, next_wide}
use Rattle.rules.proofs.Rounds.{opened_tree, opened_queues, Rounds, Goes, two_rounds_lem}
use Rattle.rules.proofs.Sender.{Sender, next_sender}
use Rattle.calls.specs.declared.Departure.{Departure}
use Rattle.calls.specs.declared.AfterArrival.{AfterArrival}
use Rattle.calls.specs.declared.AfterSend.{AfterSend}
use Rattle.calls.specs.Arrival.{arrival_checks, arrival_leaves, Arrives}
use Rattle.calls.specs.Send.{send_checks, goes, send_leaves, departs, send_gives, send_of, Sends}
use Rattle.calls.specs.Run.{arrival, send, Made, made, link_left, turns_by, turns_in, Moment, closed, called, Run, moments_of}
use Rattle.calls.proofs.Departures.{send_nothing, sends_as}
use Rattle.calls.proofs.Runs.{left_refused, left_taken, sent_is, sent_means}
use Rattle.siblings.specs.Siblings.{charge_of}
use Rattle.siblings.proofs.OneLeaf.{sending_held, sending_stays, sending_pays}

-- class k holds a packet when the next call has been made
unfoldable pub HoldsNext : ℕ → List Moment → Type 0
HoldsNext k [] = ⊥
HoldsNext k (closed turn ∷ later) = HoldsNext k later
HoldsNext k (called m ∷ later) = 1 ≤ held_of (link_left m) k

-- a round closes on a state, and class k holds a packet then if it does after the next call, which is the send that closed it
pub record Closes (k : ℕ) (s : State) (turn : Turn) (later : List Moment) : Type 0 where
  pub sound : Sound s
  pub wide : Wide s
  pub ends : next_leaf s ≡ 64
  pub is : turn ≡ turn_of s
  pub held : HoldsNext k later → 1 ≤ length (queue_at s k)

-- a call is made on a state: where class k still holds a packet it stays in its round, and its balance falls by what it is charged
pub record Charges (k : ℕ) (s : State) (m : Made) : Type 0 where
  pub tree : (link_left m).tree ≡ s.tree
  pub stays : has s.round.active k ≡ true → 1 ≤ held_of (link_left m) k → has (link_left m).round.active k ≡ true
  pub pays : has s.round.active k ≡ true → 1 ≤ held_of (link_left m) k
      → balance_of (link_left m).round.accounts k + charge_of k m ≡ balance_of s.round.accounts k

-- these moments follow on a state
unfoldable pub Steps : ℕ → State → List Moment → Type 0
Steps k s [] = Unit {0}
Steps k s (closed turn ∷ later) = Closes k s turn later × Steps k (opened s) later
Steps k s (called m ∷ later) = Charges k s m × Steps k (meaning (link_left m)) later

-- the later ones follow on a state with the same tree
pub steps_later : (before : List Moment) (k : ℕ) (s : State) (later : List Moment) → Steps k s (before ++ later)
    → (t : State) × (t.tree ≡ s.tree) × Steps k t later
unfolding Steps
steps_later [] k s later steps = (s, refl, steps)
steps_later (closed turn ∷ before) k s later steps =
    let r = steps_later before k (opened s) later steps.1 in
    (r.0, r.1 ∙ opened_tree (next_size s) s, r.2)
steps_later (called m ∷ before) k s later steps =
    let r = steps_later before k (meaning (link_left m)) later steps.1 in
    (r.0, r.1 ∙ steps.0.tree, r.2)

-- ---- one call

-- a call that leaves the active set and the accounts as they were and charges nothing
none_charged : (k : ℕ) (s : State) (m : Made) → (link_left m).tree ≡ s.tree → (link_left m).round.active ≡ s.round.active
    → (link_left m).round.accounts ≡ s.round.accounts → charge_of k m ≡ 0 → Charges k s m
none_charged k s m tree active accounts none = record {
  tree = tree;
  stays = λ on held. ap (λ (a : ℕ). has a k) active ∙ on;
  pays = λ on held. omega (arith, ap (λ (a : List Account). balance_of a k) accounts, none);
}

-- an arrival, taken or refused
arrival_charges : (k : ℕ) (l : Link) (i : ℕ) (p : Packet) (a : AfterArrival) → SoundLink l → Arrives l i p a
    → Charges k (meaning l) (made (arrival i p) a.answer a.link)
arrival_charges k l i p a sound x = go (refused_or_passed (first_broken (arrival_checks true (meaning l) i p)))
  where
    go : (first_broken (arrival_checks true (meaning l) i p) ≡ Ok tt)
        ⊎ ((n : Refusal) × (q : ℕ) × (first_broken (arrival_checks true (meaning l) i p) ≡ Err (refusal_at n q)))
        → Charges k (meaning l) (made (arrival i p) a.answer a.link)
    go (inl e) =
        let same = left_taken l i p a sound x e in
        none_charged k (meaning l) _ (ap (λ (s : State). s.tree) same) (ap (λ (s : State). s.round.active) same)
        (ap (λ (s : State). s.round.accounts) same) refl
    go (inr r) =
        let same = left_refused l i p a sound x r.2 in
        none_charged k (meaning l) _ (ap (λ (m : Link). m.tree) same) (ap (λ (m : Link). m.round.active) same)
        (ap (λ (m : Link). m.round.accounts) same) refl

-- the leaf that is found sends its first packet
module _
    (k : ℕ) (s : State) (answer : Departure) (after : Link) (rounds total : ℕ)
    (sound : Sound s) (wide : Wide s) (leaf : is_leaf s.tree k ≡ true) (found : next_leaf s < 64)
    (is : answer ≡ goes (next_leaf s) (first_of s (next_leaf s)) rounds total) (means : meaning after ≡ sent_state s (next_leaf s)) where
  sender : Sender s (next_leaf s)
  sender = next_sender s sound found

  still : 1 ≤ held_of after k → 1 ≤ length (queue_at (sent_state s (next_leaf s)) k)
  still held =
      omega (
        arith,
        held,
        meaning_held after k (leaf_number s.tree k sound.fits.tree leaf),
        ap (λ (t : State). length (queue_at t k)) means,
      )

  found_held : 1 ≤ held_of after k → 1 ≤ length (queue_at s k)
  found_held held = sending_held s (next_leaf s) k sound wide sender leaf (still held)

  found_charges : Charges k s (made send answer after)
  unfolding sent_state
  found_charges = record {
    tree = ap (λ (t : State). t.tree) means;
    stays =
        λ on held.
        ap (λ (t : State). has t.round.active k) means ∙ sending_stays s (next_leaf s) k sound wide sender leaf (still held) on;
    pays =
        λ on held.
        let charge = ap (λ (d : Departure). cond (passed d.verdict && eqb d.class k) (cost_of d.length) 0) is in
        let left = ap (λ (t : State). balance_of t.round.accounts k) means in
        omega (arith, charge, left, sending_pays s (next_leaf s) k sound wide sender leaf (still held));
  }

-- ---- a whole send: the rounds that close and open, then the packet

-- a round that closes is no call
next_past : (k : ℕ) (turns : List Turn) (later : List Moment) → HoldsNext k (map closed turns ++ later) → HoldsNext k later
unfolding HoldsNext
next_past k [] later h = h
next_past k (turn ∷ turns) later h = next_past k turns later h

rounds_steps : (turns : List Turn) (k : ℕ) (s after : State) (later : List Moment) → Sound s → Wide s → Rounds s turns after
    → (HoldsNext k later → 1 ≤ length (queue_at s k)) → Steps k after later → Steps k s (map closed turns ++ later)
unfolding Rounds Steps
rounds_steps [] k s after later sound wide rounds held steps = subst (λ (t : State). Steps k t later) (sym rounds) steps
rounds_steps (turn ∷ turns) k s after later sound wide rounds held steps = (
  record { sound = sound; wide = wide; ends = rounds.0; is = rounds.1; held = λ h. held (next_past k turns later h) },
  rounds_steps turns k (opened s) after later (next_sound s sound wide rounds.0) (next_wide s sound wide) rounds.2
      (λ h. subst (λ (qs : List (List Waiting)). 1 ≤ length (get_or qs k [])) (sym (opened_queues (next_size s) s)) (held h)) steps,
)

module _
    (k : ℕ) (l : Link) (answer : Departure) (after : Link) (later : List Moment)
    (sound : SoundLink l) (leaf : is_leaf l.tree k ≡ true) (x : Sends l (send_leaves answer after))
    (steps : Steps k (meaning after) later) where
  abbrev this : Made
  this = made send answer after

  -- while a packet waits
  goes_steps : some_waits (meaning l) ≡ true → Steps k (meaning l) (map closed (turns_in l this) ++ (called this ∷ later))
  unfolding Steps HoldsNext trace_of
  goes_steps some =
      subst (λ (turns : List Turn). Steps k (meaning l) (map closed turns ++ (called this ∷ later))) (sym turns_are)
      (rounds_steps g.more k (meaning l) g.after (called this ∷ later) sound.state wide g.rounds
      (λ h. subst (λ (qs : List (List Waiting)). 1 ≤ length (get_or qs k [])) (ap (λ (s : State). s.queues) g.same)
      (found_held k g.after answer after (length g.more) _ g.sound g.wide leaf_there g.leaf answer_is means h))
      (found_charges k g.after answer after (length g.more) _ g.sound g.wide leaf_there g.leaf answer_is means, steps))
    where
      wide : Wide (meaning l)
      wide = meaning_wide l x.shape.accounts

      g : Goes (meaning l)
      g = two_rounds_lem (meaning l) sound.state wide (waits_leaf (meaning l) some)

      leaf_there : is_leaf g.after.tree k ≡ true
      leaf_there = ap (λ (s : State). is_leaf s.tree k) g.same ∙ leaf

      this_is : send_leaves answer after ≡ departs l (trace_of (meaning l))
      this_is = sent_is l (send_leaves answer after) sound x some

      answer_is : answer ≡ goes (next_leaf g.after) (first_of g.after (next_leaf g.after)) (length g.more)
          (link_after l (trace_of (meaning l))).totals.charged
      answer_is =
          ap (λ (d : AfterSend). d.answer) this_is
          ∙ ap (λ (t : Trace). goes t.class t.packet (length t.turns) (link_after l (trace_of (meaning l))).totals.charged)
          (g.gives 62 [])

      means : meaning after ≡ sent_state g.after (next_leaf g.after)
      means = sent_means l (send_leaves answer after) sound x some ∙ ap (λ (t : Trace). t.state) (g.gives 62 [])

      turns_are : turns_in l this ≡ g.more
      turns_are =
          ap (λ (d : AfterSend). turns_by d.answer.verdict l) this_is ∙ ap (λ (t : Trace). t.turns) (g.gives 62 [])

  -- where none waits it is refused, and leaves the very link
  refused_steps : some_waits (meaning l) ≡ false → Steps k (meaning l) (map closed (turns_in l this) ++ (called this ∷ later))
  unfolding Steps
  refused_steps none =
      subst (λ (turns : List Turn). Steps k (meaning l) (map closed turns ++ (called this ∷ later)))
      (sym (ap (λ (d : AfterSend). turns_by d.answer.verdict l) this_is)) (
        none_charged k (meaning l) this (ap (λ (d : AfterSend). d.link.tree) this_is)
            (ap (λ (d : AfterSend). d.link.round.active) this_is)
            (ap (λ (d : AfterSend). d.link.round.accounts) this_is)
            (ap (λ (d : AfterSend). cond (passed d.answer.verdict && eqb d.answer.class k) (cost_of d.answer.length) 0) this_is),
        steps,
      )
    where
      this_is : send_leaves answer after ≡ send_gives (Err (refusal_at NothingWaits 0)) l
      this_is = sends_as l (send_leaves answer after) sound x ∙ send_nothing l none

  send_steps : Steps k (meaning l) (map closed (turns_in l this) ++ (called this ∷ later))
  send_steps = go (some_waits (meaning l)) refl
    where
      go : (b : Bool) → some_waits (meaning l) ≡ b → Steps k (meaning l) (map closed (turns_in l this) ++ (called this ∷ later))
      go true e = goes_steps e
      go false e = refused_steps e

-- ---- a run

-- a send leaves the tree
send_tree : (l : Link) (d : AfterSend) → SoundLink l → Sends l d → d.link.tree ≡ l.tree
unfolding send_of
send_tree l d sound x = ap (λ (a : AfterSend). a.link.tree) (sends_as l d sound x) ∙ go (first_broken (send_checks true (meaning l)))
  where
    go : (v : Verdict) → (send_gives v l).link.tree ≡ l.tree
    go (Ok _) = refl
    go (Err _) = refl

-- the moments of any run follow on the state of its link
pub run_steps : (ms : List Made) (k : ℕ) (l : Link) → SoundLink l → is_leaf l.tree k ≡ true → Run l ms
    → Steps k (meaning l) (moments_of l ms)
unfolding Run moments_of Steps
run_steps [] k l sound leaf run = tt
run_steps (made (arrival i p) answer after ∷ ms) k l sound leaf run =
    let charges = arrival_charges k l i p (arrival_leaves answer after) sound run.0 in
    (charges, run_steps ms k after (run.0.keeps sound) (ap (λ (t : Tree). is_leaf t k) charges.tree ∙ leaf) run.1)
run_steps (made send answer after ∷ ms) k l sound leaf run =
    let same = send_tree l (send_leaves answer after) sound run.0 in
    send_steps k l answer after (moments_of after ms) sound leaf run.0
    (run_steps ms k after (run.0.keeps sound) (ap (λ (t : Tree). is_leaf t k) same ∙ leaf) run.1)
