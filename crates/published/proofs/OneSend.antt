-- A send on the second engine's link: the answer of the first engine on the link that it stands for, and equal accounts at each closing.
use mathlib.Core.Bool.{Bool, true, false}
use mathlib.Core.List.{map}
use mathlib.Core.Path.{◌≡◌, refl, sym, ap, ap₂, subst, ◌∙◌}
use Prim.Native.Nat.{ℕ}
use lib.ListN.{length, length-map}
use Rattle.checks.specs.declared.Refusal.TheVariants.{NothingWaits}
use Rattle.std.specs.Prelude.{Ok, Err}
use Rattle.checks.specs.Check.{first_broken, refusal_at}
use Rattle.state.specs.declared.Link.{Link}
use Rattle.state.specs.declared.Waiting.{Waiting}
use Rattle.state.specs.Queue.{Shaped, queue_of, taken_first}
use Rattle.state.specs.State.{State, meaning, in_round}
use Rattle.state.proofs.Queues.{shaped_take, shaped_in}
use Rattle.tree.proofs.Tables.{table_length}
use Rattle.sound.specs.Sound.{Sound, SoundLink}
use Rattle.rules.specs.Active.{waits, some_waits}
use Rattle.rules.specs.Sending.{Trace, trace_of}
use Rattle.rules.specs.After.{link_in, link_after}
use Rattle.rules.specs.Waits.{Waits}
use Rattle.rules.proofs.Meanings.{meaning_wide, meaning_in, waits_leaf}
use Rattle.rules.proofs.Traces.{after_means, after_sound}
use Rattle.calls.specs.declared.AfterSend.{AfterSend}
use Rattle.calls.specs.Send.{goes, send_gives}
use Rattle.calls.specs.Run.{send, Made, made, makes, turns_in}
use Rattle.calls.proofs.Departures.{send_goes, send_nothing}
use Rattle.published.specs.declared.Second.{Second}
use Rattle.published.specs.Asking.{Published}
use Rattle.published.specs.Visiting.{Passage, passage_of}
use Rattle.published.specs.Settled.{settled_account, settled}
use Rattle.published.specs.Sound.{SoundPublished, WidePublished}
use Rattle.published.specs.Second.{means, stands_for, SoundSecond, ShapedSecond, Given, after_passage, send_given, gives}
use Rattle.published.proofs.Settles.{stands_sound}
use Rattle.published.proofs.Passages.{closed_of, PassesAs, passage_as}
use Rattle.published.proofs.OneArrival.{Alike}

-- ---- the link that it stands for

module _ (l : Second) (sound : SoundSecond l) (shape : ShapedSecond l) where
  pub wide_second : WidePublished (means l)
  wide_second = record { state = meaning_wide l.link shape.link.accounts; quotas = shape.quotas }

  pub stands_means : meaning (stands_for l) ≡ settled (means l)
  unfolding settled
  stands_means = meaning_in l.link (settled (means l)) refl

  pub stands_link_sound : SoundLink (stands_for l)
  stands_link_sound = record {
    state = subst Sound (sym stands_means) (stands_sound (means l) sound.state wide_second);
    starts = λ i u. record { start = (sound.starts i u).start };
  }

  pub stands_shaped : Shaped (stands_for l)
  unfolding settled
  stands_shaped =
      shaped_in l.link (settled (means l)).round shape.link
      (table_length (settled_account (means l)) 64)

-- both see the same packets
pub same_waits : (l : Second) → some_waits (meaning (stands_for l)) ≡ some_waits (meaning l.link)
unfolding some_waits waits queue_of
same_waits l = refl

-- ---- a send that goes

module _ (l : Second) (sound : SoundSecond l) (shape : ShapedSecond l) (some : some_waits (meaning (stands_for l)) ≡ true) where
  p : Passage
  p = passage_of (means l)

  t : Trace
  t = trace_of (meaning (stands_for l))

  alike : PassesAs (passage_of (means l)) (trace_of (meaning (stands_for l)))
  alike =
      subst (λ (s : State). PassesAs (passage_of (means l)) (trace_of s)) (sym (stands_means l sound shape))
      (passage_as (means l) sound.state (wide_second l sound shape)
      (subst Waits (stands_means l sound shape) (waits_leaf (meaning (stands_for l)) some)))

  -- the first engine's link after it means its trace's state
  there : meaning (link_after (stands_for l) t) ≡ t.state
  unfolding t
  there = after_means (stands_for l) (stands_shaped l sound shape) (stands_link_sound l sound shape) some

  stands : settled p.after ≡ t.state
  unfolding p t
  stands = alike.stands

  same_class : p.class ≡ t.class
  unfolding p t
  same_class = alike.class

  -- a state in the round of the passage's
  in_passage : State → Published
  in_passage s = record {
    state = in_round s p.after.state.round;
    asked = p.after.asked;
    quotas = p.after.quotas;
  }

  -- the record after it means the passage's state
  means_after : means (after_passage l p) ≡ p.after
  unfolding in_passage settled queue_of
  means_after =
      ap (λ (c : ℕ). in_passage (meaning (taken_first (link_in (stands_for l) t.state) c))) same_class
      ∙ ap in_passage (there ∙ sym stands)

  -- and stands for the first engine's link after it
  stands_after : stands_for (after_passage l p) ≡ link_after (stands_for l) t
  stands_after =
      ap (λ (s : State). link_in (after_passage l p).link s) (ap settled means_after ∙ stands)
      ∙ ap (λ (c : ℕ). taken_first (link_in (stands_for l) t.state) c) same_class

  link_sound : SoundLink (link_after (stands_for l) t)
  unfolding t
  link_sound = after_sound (stands_for l) (stands_shaped l sound shape) (stands_link_sound l sound shape) some

  sound_after : SoundSecond (after_passage l p)
  unfolding p
  sound_after = record {
    state = subst SoundPublished (sym means_after) alike.sound;
    starts = λ i u.
        let after = subst SoundLink (sym stands_after) link_sound in
        record { start = (after.starts i u).start };
  }

  pub shape_after : ShapedSecond (after_passage l (passage_of (means l)))
  unfolding p
  shape_after = record {
    link =
        shaped_take (link_in l.link p.after.state) p.class
        (shaped_in l.link p.after.state.round shape.link alike.wide.state.accounts);
    quotas = alike.wide.quotas;
  }

  -- both answer the same
  answer_same : goes p.class p.packet (length p.closings) (after_passage l p).link.totals.charged
      ≡ goes t.class t.packet (length t.turns) (link_after (stands_for l) t).totals.charged
  unfolding p t
  answer_same =
      ap₂ (λ (c : ℕ) (q : Waiting). goes c q (length p.closings) (after_passage l p).link.totals.charged) alike.class
      alike.packet
      ∙ ap₂ (goes t.class t.packet) (ap length alike.closings ∙ length-map t.turns closed_of)
      (ap (λ (k : Link). k.totals.charged) stands_after)

  pub gives_is : gives true l send ≡ send_given (Ok tt) l
  unfolding first_broken
  gives_is = rw (sym (same_waits l) ∙ some)

  sends_is : makes true (stands_for l) send
      ≡ made send (goes t.class t.packet (length t.turns) (link_after (stands_for l) t).totals.charged) (link_after (stands_for l) t)
  unfolding t
  sends_is = ap (λ (r : AfterSend). made send r.answer r.link) (send_goes (stands_for l) some)

  goes_alike : Alike l send
  unfolding p t
  goes_alike = record {
    made_is =
        ap (λ (g : Given send). made send g.answer (stands_for g.after)) gives_is
        ∙ ap₂ (made send) answer_same stands_after
        ∙ sym sends_is;
    closings =
        ap (λ (g : Given send). g.closings) gives_is
        ∙ alike.closings
        ∙ sym (ap (λ (m : Made). map closed_of (turns_in (stands_for l) m)) sends_is);
    sound = subst (λ (g : Given send). SoundSecond g.after) (sym gives_is) sound_after;
    shape = subst (λ (g : Given send). ShapedSecond g.after) (sym gives_is) shape_after;
  }

-- ---- where nothing waits both refuse

module _ (l : Second) (sound : SoundSecond l) (shape : ShapedSecond l) (none : some_waits (meaning (stands_for l)) ≡ false) where
  pub refuses_is : gives true l send ≡ send_given (Err (refusal_at NothingWaits 0)) l
  unfolding first_broken
  refuses_is = rw (sym (same_waits l) ∙ none)

  none_is : makes true (stands_for l) send ≡ made send (send_gives (Err (refusal_at NothingWaits 0)) (stands_for l)).answer (stands_for l)
  none_is = ap (λ (r : AfterSend). made send r.answer r.link) (send_nothing (stands_for l) none)

  none_alike : Alike l send
  none_alike = record {
    made_is = ap (λ (g : Given send). made send g.answer (stands_for g.after)) refuses_is ∙ sym none_is;
    closings =
        ap (λ (g : Given send). g.closings) refuses_is
        ∙ sym (ap (λ (m : Made). map closed_of (turns_in (stands_for l) m)) none_is);
    sound = subst (λ (g : Given send). SoundSecond g.after) (sym refuses_is) sound;
    shape = subst (λ (g : Given send). ShapedSecond g.after) (sym refuses_is) shape;
  }

pub one_send_lem : (l : Second) → SoundSecond l → ShapedSecond l → Alike l send
one_send_lem l sound shape = go (some_waits (meaning (stands_for l))) refl
  where
    go : (b : Bool) → some_waits (meaning (stands_for l)) ≡ b → Alike l send
    go true e = goes_alike l sound shape e
    go false e = none_alike l sound shape e
