-- The record after a whole send: it means the state of the send's trace, and is sound; what the trace says of the queues. Demand 2.
use mathlib.Core.Bool.{true}
use mathlib.Core.List.{List, [], ◌∷◌}
use mathlib.Core.Path.{◌≡◌, refl, sym, ap, subst, ◌∙◌}
use Prim.Native.Nat.{ℕ, ◌+◌, ◌≤◌}
use native.Mathlib.Omega.{arith}
use lib.ListN.{length, get_or, drop}
use Rattle.units.specs.Cost.{cost_of}
use Rattle.tree.specs.declared.Tree.{Tree}
use Rattle.tree.specs.Class.{is_leaf}
use Rattle.state.specs.declared.Waiting.{Waiting}
use Rattle.state.specs.declared.Link.{Link}
use Rattle.state.specs.Mark.{wrapped}
use Rattle.state.specs.Queue.{Shaped, no_packet, taken_first}
use Rattle.state.specs.State.{State, meaning, queue_at, counts_of}
use Rattle.state.proofs.Queues.{shaped_in}
use Rattle.sound.specs.Sound.{Sound, SoundLink}
use Rattle.rules.specs.Active.{some_waits}
use Rattle.rules.specs.Sending.{next_leaf, first_of, sent_state, Trace, trace_of}
use Rattle.rules.specs.Waits.{Waits}
use Rattle.rules.specs.Wide.{Wide}
use Rattle.rules.proofs.Rounds.{Goes, two_rounds_lem}
use Rattle.rules.proofs.Sender.{Sender, next_sender}
use Rattle.rules.proofs.Sent.{sent_wide, sent_queue, sent_other}
use Rattle.rules.specs.After.{link_in, sent_link, link_after}
use Rattle.rules.specs.Steps.{SendsNext}
use Rattle.rules.proofs.Meanings.{meaning_wide, meaning_in, sent_means, sent_link_sound, waits_leaf}

-- a queue that holds a packet is its first packet and the rest
first_and_rest : (q : List Waiting) → 1 ≤ length q → q ≡ get_or q 0 no_packet ∷ drop 1 q
first_and_rest [] h = absurd (omega arith)
first_and_rest (p ∷ q) h = refl

-- every class number keeps an account through a whole send
pub trace_wide : (s : State) → Sound s → Wide s → Waits s → length (trace_of s).state.round.accounts ≡ 64
unfolding trace_of
trace_wide s sound wide waits =
    let g = two_rounds_lem s sound wide waits in
    ap (λ (x : Trace). length x.state.round.accounts) (g.gives 62 []) ∙ (sent_wide g.after g.sound g.wide g.leaf).accounts

module _ (l : Link) (shape : Shaped l) (sound : SoundLink l) (waits : some_waits (meaning l) ≡ true) where
  -- how the send goes
  pub goes : Goes (meaning l)
  goes = two_rounds_lem (meaning l) sound.state (meaning_wide l shape.accounts) (waits_leaf (meaning l) waits)

  -- the link when the rounds of the call have opened, and the leaf that sends
  last : Link
  last = link_in l goes.after

  leaf : ℕ
  leaf = next_leaf goes.after

  last_means : meaning last ≡ goes.after
  unfolding last
  last_means = meaning_in l goes.after goes.same

  same_tree : goes.after.tree ≡ l.tree
  same_tree = ap (λ (s : State). s.tree) goes.same

  same_queues : goes.after.queues ≡ (meaning l).queues
  same_queues = ap (λ (s : State). s.queues) goes.same

  trace_is : trace_of (meaning l)
      ≡ record { turns = goes.more; class = leaf; packet = first_of goes.after leaf; state = sent_state goes.after leaf }
  unfolding trace_of leaf
  trace_is = goes.gives 62 []

  last_shaped : Shaped last
  unfolding last
  last_shaped =
      let s = goes.after in
      shaped_in l s.round shape goes.wide.accounts

  last_next_lem : SendsNext last leaf
  unfolding last leaf
  last_next_lem = record {
    sound = record { state = subst Sound (sym last_means) goes.sound; starts = λ i u. record { start = (sound.starts i u).start } };
    next = ap next_leaf (sym last_means);
    found = goes.leaf;
  }

  after_is : link_after l (trace_of (meaning l)) ≡ sent_link last leaf
  unfolding last
  after_is =
      ap (link_after l) trace_is ∙ ap (λ (s : State). taken_first (link_in l (sent_state s leaf)) leaf) (sym last_means)

  pub after_means : meaning (link_after l (trace_of (meaning l))) ≡ (trace_of (meaning l)).state
  after_means =
      ap meaning after_is
      ∙ sent_means last leaf last_shaped last_next_lem
      ∙ ap (λ (s : State). sent_state s leaf) last_means
      ∙ sym (ap (λ (t : Trace). t.state) trace_is)

  pub after_sound : SoundLink (link_after l (trace_of (meaning l)))
  after_sound = subst SoundLink (sym after_is) (sent_link_sound last leaf last_shaped last_next_lem)

  -- at most two rounds are opened in a call
  pub rounds_most : length (trace_of (meaning l)).turns ≤ 2
  rounds_most = rw trace_is goes.few

  -- ---- what goes: the first packet of a leaf's queue, which loses it, and no other queue changes

  sender : Sender goes.after leaf
  unfolding leaf
  sender = next_sender goes.after goes.sound goes.leaf

  pub trace_leaf : is_leaf l.tree (trace_of (meaning l)).class ≡ true
  trace_leaf = rw trace_is (ap (λ (t : Tree). is_leaf t leaf) (sym same_tree) ∙ sender.leaf)

  pub trace_queue : queue_at (meaning l) (trace_of (meaning l)).class
      ≡ (trace_of (meaning l)).packet ∷ queue_at (trace_of (meaning l)).state (trace_of (meaning l)).class
  trace_queue =
      rw trace_is
      (ap (λ (q : List (List Waiting)). get_or q leaf []) (sym same_queues)
      ∙ first_and_rest (queue_at goes.after leaf) sender.holds
      ∙ ap (λ (q : List Waiting). first_of goes.after leaf ∷ q) (sym (sent_queue goes.after leaf goes.wide sender.high)))

  -- its charge joins the running total
  pub trace_charged : (trace_of (meaning l)).state.totals.charged
      ≡ wrapped (l.totals.charged + cost_of (trace_of (meaning l)).packet.length)
  unfolding sent_state counts_of
  trace_charged =
      rw trace_is
      (ap (λ (s : State). wrapped (s.totals.charged + cost_of (first_of goes.after leaf).length)) goes.same)

  pub trace_others : (k : ℕ) → (k ≡ (trace_of (meaning l)).class → ⊥) → queue_at (trace_of (meaning l)).state k ≡ queue_at (meaning l) k
  trace_others k ne =
      let other : k ≡ leaf → ⊥ = λ e. ne (e ∙ sym (ap (λ (t : Trace). t.class) trace_is)) in
      rw trace_is (sent_other goes.after leaf k other ∙ ap (λ (q : List (List Waiting)). get_or q k []) same_queues)
