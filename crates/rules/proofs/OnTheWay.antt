-- A send on its way: the rounds opened so far, and what they say of the whole. Demand 2.
use mathlib.Core.List.{[], ◌∷◌, ◌++◌}
use mathlib.Core.Path.{◌≡◌, refl, sym, ap, subst, ◌∙◌}
use Prim.Native.Nat.{ℕ, suc, ◌+◌, ◌-◌, ◌<◌}
use native.Mathlib.Omega.{arith}
use lib.ListN.{length, length-append}
use Rattle.state.specs.declared.Link.{Link}
use Rattle.state.specs.declared.Waiting.{Waiting}
use Rattle.state.specs.Queue.{taken_first, packet_at}
use Rattle.state.specs.State.{meaning}
use Rattle.state.proofs.Meaning.{meaning_first}
use Rattle.sound.specs.Sound.{SoundLink}
use Rattle.rules.specs.Opening.{opened}
use Rattle.rules.specs.Sending.{first_of, next_leaf, sent_state, turn_of, sends, trace_of}
use Rattle.rules.specs.Waits.{Waits}
use Rattle.rules.specs.Within.{Within}
use Rattle.rules.proofs.Resized.{closing_covers}
use Rattle.rules.proofs.Opened.{next_wide}
use Rattle.rules.proofs.Rounds.{leaf_most, sends_now, sends_closed}
use Rattle.rules.proofs.Within.{within_two, within_less, within_none}
use Rattle.rules.specs.After.{link_in, opened_link, sent_link, sent_by}
use Rattle.rules.specs.Steps.{SendsNext, OnTheWay}
use Rattle.rules.proofs.Meanings.{meaning_wide, opened_means, opened_link_sound, sender_holds}

-- at first none has opened
pub way_starts : (l : Link) (at : ℕ) → length l.round.accounts ≡ 64 → SoundLink l → Waits (meaning l) → at ≡ next_leaf (meaning l)
    → OnTheWay l at l 0
unfolding trace_of
way_starts l at many sound waits next = record {
  sound = sound;
  many = many;
  next = next;
  few = omega arith;
  within = within_two (meaning l) sound.state (meaning_wide l many) waits;
  same = refl;
  turns = [];
  counted = refl;
  trace = refl;
}

-- a round that has closed is not the second that was opened
more_left : (l₀ : Link) (at : ℕ) (l : Link) (rounds : ℕ) → OnTheWay l₀ at l rounds → at ≡ 64 → rounds < 2
more_left l₀ at l rounds w closed = omega (arith, w.few, not_two)
  where
    not_two : rounds ≡ 2 → ⊥
    not_two e =
        let here = within_none (meaning l) (subst (λ (n : ℕ). Within (2 - n) (meaning l)) e w.within) in
        omega (arith, here, w.next, closed)

-- one round more
pub way_on : (l₀ : Link) (at : ℕ) (l : Link) (rounds : ℕ) (l' : Link) (at' : ℕ) → OnTheWay l₀ at l rounds → at ≡ 64 → l' ≡ opened_link l
    → at' ≡ next_leaf (meaning l')
    → OnTheWay l₀ at' l' (rounds + 1)
way_on l₀ at l rounds l' at' w closed e next =
    let wide = meaning_wide l w.many in
    let left = more_left l₀ at l rounds w closed in
    let shut : next_leaf (meaning l) ≡ 64 = sym w.next ∙ closed in
    let means : opened (meaning l) ≡ meaning l' = sym (opened_means l) ∙ ap meaning (sym e) in
    let fuel : 64 - rounds ≡ suc (64 - (rounds + 1)) = omega (arith, left) in
    let rest : 2 - rounds ≡ suc (2 - (rounds + 1)) = omega (arith, left) in
    record {
      sound = subst SoundLink (sym e) (opened_link_sound l wide w.sound (closing_covers (meaning l) w.sound.state wide shut));
      many = ap (λ (x : Link). length x.round.accounts) e ∙ (next_wide (meaning l) w.sound.state wide).accounts;
      next = next;
      few = omega (arith, left);
      within =
          subst (Within (2 - (rounds + 1))) means
          (within_less (2 - (rounds + 1)) (meaning l) (subst (λ (n : ℕ). Within n (meaning l)) rest w.within) shut);
      same = e ∙ ap (λ (x : Link). link_in x (opened (meaning l))) w.same ∙ ap (link_in l₀) means;
      turns = w.turns ++ (turn_of (meaning l) ∷ []);
      counted = length-append w.turns (turn_of (meaning l) ∷ []) ∙ ap (λ (n : ℕ). n + 1) w.counted;
      trace =
          w.trace
          ∙ ap (λ (n : ℕ). sends n w.turns (meaning l)) fuel
          ∙ sends_closed (64 - (rounds + 1)) w.turns (meaning l) shut
          ∙ ap (sends (64 - (rounds + 1)) (w.turns ++ (turn_of (meaning l) ∷ []))) means;
    }

-- a leaf that is found sends next
pub way_found : (l₀ : Link) (at : ℕ) (l : Link) (rounds : ℕ) → OnTheWay l₀ at l rounds → (at ≡ 64 → ⊥) → SendsNext l at
way_found l₀ at l rounds w found = record {
  sound = w.sound;
  next = w.next;
  found = omega (arith, leaf_most (meaning l) w.sound.state, w.next, found);
}

-- and its packet is the one that the whole send gives
pub way_ends : (l₀ : Link) (at : ℕ) (l : Link) (rounds : ℕ) (p : Waiting) (l' : Link) → OnTheWay l₀ at l rounds → SendsNext l at
    → p ≡ packet_at l at 0 → l' ≡ sent_link l at
    → record { class = at; packet = p; rounds = rounds; link = l' } ≡ sent_by l₀ (trace_of (meaning l₀))
way_ends l₀ at l rounds p l' w n first after =
    let here : next_leaf (meaning l) < 64 = omega (arith, n.next, n.found) in
    let gone = sends_now (64 - rounds) w.turns (meaning l) here in
    let packet : p ≡ first_of (meaning l) at = first ∙ sym (meaning_first l at n.found (sender_holds l at n)) in
    let link : l' ≡ taken_first (link_in l₀ (sent_state (meaning l) at)) at =
    after ∙ ap (λ (x : Link). taken_first (link_in x (sent_state (meaning l) at)) at) w.same
    in
    (λ k. record { class = at; packet = packet k; rounds = sym w.counted k; link = link k })
    ∙ ap (λ (i : ℕ). sent_by l₀ (record { turns = w.turns; class = i; packet = first_of (meaning l) i; state = sent_state (meaning l) i }))
    n.next
    ∙ ap (sent_by l₀) (sym (w.trace ∙ gone))
