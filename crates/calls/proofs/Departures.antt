-- Laws of a send: what it means, that it keeps a state sound and lists as long as they were, that it sends while a packet waits and
-- opens at most two rounds (R147), and that its contract determines the answer. Demands 1 and 2.
use mathlib.Core.Bool.{Bool, true, false, not}
use mathlib.Core.Path.{◌≡◌, refl, sym, ap, subst, ◌∙◌}
use Prim.Native.Nat.{◌≤◌}
use native.Mathlib.Omega.{arith}
use Rattle.checks.specs.declared.Refusal.TheVariants.{NotSound, NothingWaits}
use Rattle.std.specs.Prelude.{Err}
use Rattle.checks.specs.Check.{check, first_broken, Exactly, Verdict, refusal_at}
use Rattle.checks.proofs.Laws.{not_both, pass_over, decides, exactly_unique}
use Rattle.state.specs.declared.Link.{Link}
use Rattle.state.specs.Queue.{Shaped}
use Rattle.state.specs.State.{meaning}
use Rattle.state.proofs.Queues.{shaped_take, shaped_in}
use Rattle.sound.specs.Sound.{SoundLink}
use Rattle.rules.specs.Active.{some_waits}
use Rattle.rules.specs.Sending.{trace_of}
use Rattle.rules.specs.After.{link_in}
use Rattle.rules.proofs.Meanings.{meaning_wide, waits_leaf}
use Rattle.rules.proofs.Traces.{trace_wide, after_means, after_sound, rounds_most}
use Rattle.calls.specs.declared.AfterSend.{AfterSend}
use Rattle.calls.specs.Send.{departs, send_gives, send_of, Sends}

-- ---- what a send gives, by its checks

pub send_unsound : (l : Link) → send_of false l ≡ send_gives (Err (refusal_at NotSound 0)) l
unfolding send_of
send_unsound l = ap (λ (v : Verdict). send_gives v l) (decides (check NotSound true 0) _ refl)

pub send_nothing : (l : Link) → some_waits (meaning l) ≡ false → send_of true l ≡ send_gives (Err (refusal_at NothingWaits 0)) l
unfolding send_of
send_nothing l none =
    ap (λ (v : Verdict). send_gives v l)
    (pass_over (check NotSound false 0) _ refl ∙ decides (check NothingWaits (not (some_waits (meaning l))) 0) _ (ap not none))

-- while a packet waits, a send on a sound link sends one
pub send_goes : (l : Link) → some_waits (meaning l) ≡ true → send_of true l ≡ departs l (trace_of (meaning l))
unfolding send_of first_broken
send_goes l some = rw some

-- 15 exactly when none waits
pub nothing_exactly : (l : Link) → (send_of true l).answer.verdict ≡ Err (refusal_at NothingWaits 0) → some_waits (meaning l) ≡ false
nothing_exactly l e = go (some_waits (meaning l)) refl
  where
    go : (b : Bool) → some_waits (meaning l) ≡ b → some_waits (meaning l) ≡ false
    go false h = h
    go true h = absurd (not_both (ap (λ (d : AfterSend). d.answer.verdict) (send_goes l h)) e)

-- ---- a send on a sound link gives a sound link with its lists as long as they were, and opens at most two rounds

-- the lists of the link after a send that goes are as long as they were
module _ (l : Link) (shape : Shaped l) (sound : SoundLink l) (waits : some_waits (meaning l) ≡ true) where
  after_shaped : Shaped (departs l (trace_of (meaning l))).link
  after_shaped =
      let trace = trace_of (meaning l) in
      let s = trace.state in
      let wide = trace_wide (meaning l) sound.state (meaning_wide l shape.accounts) (waits_leaf (meaning l) waits) in
      shaped_take (link_in l trace.state) trace.class
      (shaped_in l s.round shape wide)

module _ (l : Link) (shape : Shaped l) (sound : SoundLink l) where
  pub send_sound : SoundLink (send_of true l).link
  send_sound = go (some_waits (meaning l)) refl
    where
      go : (b : Bool) → some_waits (meaning l) ≡ b → SoundLink (send_of true l).link
      go true h = subst (λ (d : AfterSend). SoundLink d.link) (sym (send_goes l h)) (after_sound l shape sound h)
      go false h = subst (λ (d : AfterSend). SoundLink d.link) (sym (send_nothing l h)) sound

  pub send_rounds : (send_of true l).answer.rounds ≤ 2
  send_rounds = go (some_waits (meaning l)) refl
    where
      go : (b : Bool) → some_waits (meaning l) ≡ b → (send_of true l).answer.rounds ≤ 2
      go true h = rw (send_goes l h) (rounds_most l shape sound h)
      go false h = rw (send_nothing l h) (omega arith)

  -- its lists are as long as they were
  pub send_shaped : Shaped (send_of true l).link
  send_shaped = go (some_waits (meaning l)) refl
    where
      go : (b : Bool) → some_waits (meaning l) ≡ b → Shaped (send_of true l).link
      go true h = subst (λ (d : AfterSend). Shaped d.link) (sym (send_goes l h)) (after_shaped l shape sound h)
      go false h = subst (λ (d : AfterSend). Shaped d.link) (sym (send_nothing l h)) shape

  -- the record after it means the state of the trace
  pub send_means : some_waits (meaning l) ≡ true → meaning (send_of true l).link ≡ (trace_of (meaning l)).state
  send_means h = ap (λ (d : AfterSend). meaning d.link) (send_goes l h) ∙ after_means l shape sound h

-- ---- what the contract says

pub send_one_answer : (l : Link) (a b : AfterSend) → Sends l a → Sends l b → a ≡ b
send_one_answer l a b x y = x.answer ∙ ap (λ (s : Bool). send_of s l) (exactly_unique x.exactly y.exactly) ∙ sym y.answer

-- on a sound link it is what the rules say
pub sends_as : (l : Link) (r : AfterSend) → SoundLink l → Sends l r → r ≡ send_of true l
sends_as l r sound x = x.answer ∙ ap (λ (s : Bool). send_of s l) (x.exactly.complete sound)

-- an exact flag and its answer
pub sends_by_lem : (l : Link) (flag : Bool) (r : AfterSend) → Shaped l → Exactly flag (SoundLink l) → r ≡ send_of flag l → Sends l r
sends_by_lem l flag r shape exactly e = record {
  shape = shape;
  sound = flag;
  exactly = exactly;
  answer = e;
  keeps = λ sound.
      subst (λ (d : AfterSend). SoundLink d.link) (sym (e ∙ ap (λ (b : Bool). send_of b l) (exactly.complete sound)))
      (send_sound l shape sound);
}

-- on a link that is not sound a send gives 11 and the very same record
pub unsound_sends_none : (l : Link) (r : AfterSend) → (SoundLink l → ⊥) → Sends l r → r ≡ send_gives (Err (refusal_at NotSound 0)) l
unsound_sends_none l r not_sound x = x.answer ∙ go x.sound refl
  where
    go : (b : Bool) → x.sound ≡ b → send_of x.sound l ≡ send_gives (Err (refusal_at NotSound 0)) l
    go true e = absurd (not_sound (x.exactly.sound e))
    go false e = ap (λ (b : Bool). send_of b l) e ∙ send_unsound l
