-- The leaf that was found sends by the first engine's own step, and that is what the passage says.
use mathlib.Core.List.{List}
use mathlib.Core.Path.{◌≡◌, sym, ap, ap₂, subst, ◌∙◌}
use Prim.Native.Nat.{ℕ, ◌<◌}
use native.Mathlib.Omega.{arith}
use lib.ListN.{length}
use Rattle.state.specs.declared.Link.{Link}
use Rattle.steps.specs.declared.leaf.Gone.{Gone}
use Rattle.state.specs.Account.{zip_accounts}
use Rattle.state.specs.Queue.{packet_at, taken_first}
use Rattle.state.specs.State.{State, meaning, round_of, in_round, link_in_round}
use Rattle.state.proofs.Meaning.{meaning_first}
use Rattle.sound.specs.Sound.{Sound}
use Rattle.rules.specs.After.{link_in, sent_link}
use Rattle.rules.specs.Sending.{first_of, next_leaf, sent_state}
use Rattle.rules.specs.Steps.{SendsNext}
use Rattle.rules.proofs.Meanings.{meaning_in, sender_holds}
use Rattle.published.specs.declared.Second.{Second}
use Rattle.published.specs.Visiting.{visited, sent_published, Passage, passes, passage_of}
use Rattle.published.specs.Second.{means, after_passage}
use Rattle.published.proofs.Visits.{visited_well}
use Rattle.published.proofs.OnTheWay.{way_next, way_ends}
use Rattle.published_send.specs.declared.rounds.Turned.{Turned}
use Rattle.published_send.specs.Under.{Arrived}
use Rattle.published_send.specs.Whole.{Ready, gone_by, Wholly}

module _ (l : Second) (ready : Ready l) (r : Turned) (shape balance residual quotas : List ℕ)
    (a : Arrived (means l) r shape balance residual quotas) where
  -- the state in which it was found keeps all but the round
  kept : (visited a.x).after.state
      ≡ in_round (meaning l.link) (visited a.x).after.state.round
  kept =
      let s = (visited a.x).after.state in
      ap (λ (z : State). in_round z s.round) (visited_well a.x a.way.sound
      a.way.wide).same
      ∙ ap (λ (z : State). in_round z s.round) a.way.same

  -- the link in that state
  abbrev pub turn_of_lem : Link
  turn_of_lem =
      link_in_round l.link
      (round_of r.size.0 r.active (visited a.x).after.state.round.place (zip_accounts balance residual))

  turn_is : turn_of_lem ≡ link_in l.link (visited a.x).after.state
  turn_is = λ j. link_in_round l.link
      (round_of (sym a.sized j) (sym a.lent.active_is j) (visited a.x).after.state.round.place (sym a.lent.accounts j))

  means_it : meaning (link_in l.link (visited a.x).after.state) ≡ (visited a.x).after.state
  means_it = meaning_in l.link (visited a.x).after.state kept

  here : (visited a.x).leaf < 64
  here = omega (arith, a.leaf_is, a.found)

  sends_in_lem : SendsNext (link_in l.link (visited a.x).after.state) r.leaf
  sends_in_lem = record {
    sound =
        record {
          state = subst Sound (sym means_it) (visited_well a.x a.way.sound a.way.wide).sound.state;
          starts = λ i u. record { start = (ready.sound.starts i u).start };
        };
    next = a.leaf_is ∙ sym (way_next (means l) a.x r.rounds a.way here) ∙ ap next_leaf (sym means_it);
    found = a.found;
  }

  -- so the first engine's step can be made
  pub sends_next : SendsNext turn_of_lem r.leaf
  sends_next = subst (λ (k : Link). SendsNext k r.leaf) (sym turn_is) sends_in_lem

  pub wide_turn : length (zip_accounts balance residual) ≡ 64
  wide_turn = ap length (sym a.lent.accounts) ∙ (visited_well a.x a.way.sound a.way.wide).wide.state.accounts

  passage_is : passage_of (means l) ≡ passes a.way.closings (visited a.x)
  passage_is = way_ends (means l) a.x r.rounds a.way here

  -- and gives what the passage says
  pub sends_wholly : (gone : Gone) (after : Link) → gone.packet ≡ packet_at turn_of_lem r.leaf 0 → after ≡ sent_link turn_of_lem r.leaf
      → Wholly l (gone_by r gone) after quotas
  unfolding sent_published
  sends_wholly gone after first is = record {
    class_is = a.leaf_is ∙ sym (ap (λ (p : Passage). p.class) passage_is);
    packet_is =
        first
        ∙ ap (λ (k : Link). packet_at k r.leaf 0) turn_is
        ∙ sym (meaning_first (link_in l.link (visited a.x).after.state) r.leaf a.found (sender_holds _ r.leaf sends_in_lem))
        ∙ ap₂ (λ (z : State) (i : ℕ). first_of z i) means_it a.leaf_is
        ∙ sym (ap (λ (p : Passage). p.packet) passage_is);
    rounds_are = sym (ap (λ (p : Passage). length p.closings) passage_is ∙ a.way.counted);
    after = λ j. record { link = link j; asked = asked j; quotas = shares j };
  }
    where
      link : after ≡ (after_passage l (passage_of (means l))).link
      link =
          is
          ∙ ap (λ (k : Link). sent_link k r.leaf) turn_is
          ∙ ap₂ (λ (z : State) (i : ℕ). taken_first (link_in l.link (sent_state z i)) i) means_it a.leaf_is
          ∙ sym (ap (λ (p : Passage). (after_passage l p).link) passage_is)

      asked : r.asked ≡ (passage_of (means l)).after.asked
      asked = sym (ap (λ (p : Passage). p.after.asked) passage_is ∙ a.lent.asked_is)

      shares : quotas ≡ (passage_of (means l)).after.quotas
      shares = sym (ap (λ (p : Passage). p.after.quotas) passage_is ∙ a.lent.quotas_are)
