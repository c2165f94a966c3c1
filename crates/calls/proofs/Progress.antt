-- While a packet waits, a send on a sound link sends the first packet of a leaf's queue; 15 exactly when none waits. Demand 2.
use mathlib.Core.Bool.{true}
use mathlib.Core.List.{List, ◌∷◌}
use mathlib.Core.Path.{◌≡◌, refl, sym, ap, subst, ◌∙◌}
use Prim.Native.Nat.{ℕ}
use Rattle.state.specs.declared.Link.{Link}
use Rattle.state.specs.declared.Waiting.{Waiting}
use Rattle.state.specs.Queue.{Shaped}
use Rattle.state.specs.State.{State, meaning, queue_at}
use Rattle.sound.specs.Sound.{SoundLink}
use Rattle.rules.specs.Active.{some_waits}
use Rattle.rules.specs.Sending.{trace_of}
use Rattle.rules.proofs.Traces.{after_means, trace_leaf, trace_queue, trace_others, trace_charged}
use Rattle.calls.specs.declared.AfterSend.{AfterSend}
use Rattle.calls.specs.Send.{departs, send_of, Sends}
use Rattle.calls.specs.Progress.{SendsFirst, Progress}
use Rattle.calls.proofs.Departures.{send_goes, send_nothing, nothing_exactly, sends_as}

module _ (l : Link) (shape : Shaped l) (sound : SoundLink l) (waits : some_waits (meaning l) ≡ true) where
  -- the queues of the link after it are those of the trace's state
  queue_after : (k : ℕ) → queue_at (trace_of (meaning l)).state k ≡ queue_at (meaning (departs l (trace_of (meaning l))).link) k
  queue_after k = ap (λ (s : State). queue_at s k) (sym (after_means l shape sound waits))

  sends_first : SendsFirst l (send_of true l)
  sends_first = subst (SendsFirst l) (sym (send_goes l waits)) (record {
    passes = refl;
    leaf = trace_leaf l shape sound waits;
    packet = (trace_of (meaning l)).packet;
    answered = refl;
    charged = ap (λ (s : State). s.totals.charged) (after_means l shape sound waits) ∙ trace_charged l shape sound waits;
    waited = refl;
    queue =
        trace_queue l shape sound waits
        ∙ ap (λ (q : List Waiting). (trace_of (meaning l)).packet ∷ q) (queue_after (trace_of (meaning l)).class);
    others = λ k ne. sym (queue_after k) ∙ trace_others l shape sound waits k ne;
  })

-- while a packet waits, a send on a sound link sends one; 15 exactly when none waits (R200)
pub progress : (l : Link) (d : AfterSend) → SoundLink l → Sends l d → Progress l d
progress l d sound x = subst (Progress l) (sym (sends_as l d sound x)) (record {
  sends = λ waits. sends_first l x.shape sound waits;
  none = λ none. ap (λ (r : AfterSend). r.answer.verdict) (send_nothing l none);
  only_then = nothing_exactly l;
})
