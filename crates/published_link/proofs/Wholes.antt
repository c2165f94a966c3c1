-- A send on the fields of a link, put together again, is the send on the link.
use mathlib.Core.List.{List}
use mathlib.Core.Path.{◌≡◌, sym, ap, ap₂, subst, ◌∙◌}
use Prim.Native.Nat.{ℕ}
use lib.ListN.{length}
use Rattle.state.specs.declared.Link.{Link}
use Rattle.state.specs.declared.Waiting.{Waiting}
use Rattle.calls.specs.declared.Departure.{Departure}
use Rattle.calls.specs.Send.{goes}
use Rattle.published.specs.declared.Second.{Second}
use Rattle.published.specs.Visiting.{passage_of}
use Rattle.published.specs.Second.{means}
use Rattle.published.proofs.OneSend.{same_waits, shape_after}
use Rattle.published_send.specs.declared.Sent.{Sent}
use Rattle.published_send.specs.Whole.{second_of, Ready, Wholly}
use Rattle.published_link.specs.Calls.{send_left, sent_of}

module _ (l : Second) (ready : Ready l) (k : Link) (whole : k ≡ l.link) where
  same : second_of k l.asked l.quotas ≡ l
  same = ap (λ (z : Link). second_of z l.asked l.quotas) whole

  pub ready_apart : Ready (second_of k l.asked l.quotas)
  ready_apart = subst Ready (sym same) ready

  module _ (r : Sent) (after : Link) (quotas : List ℕ) (w : Wholly (second_of k l.asked l.quotas) r after quotas) where
    whole_is : Wholly l r after quotas
    whole_is = subst (λ (z : Second). Wholly z r after quotas) same w

    -- every class number keeps an account
    pub wide_after : length after.round.accounts ≡ 64
    wide_after =
        ap (λ (z : Second). length z.link.round.accounts) whole_is.after
        ∙ (shape_after l ready.sound ready.shape (same_waits l ∙ ready.waits)).link.accounts

    pub sent_whole : (answer : Departure) (left : Link) → answer ≡ goes r.class r.packet r.rounds r.stand.charged
        → left ≡ after → r.stand.charged ≡ after.totals.charged
        → send_left answer (second_of left r.asked quotas) ≡ sent_of l
    sent_whole answer left a e total =
        ap₂ send_left
        (a
        ∙ ap₂ (λ (c : ℕ) (p : Waiting). goes c p r.rounds r.stand.charged) whole_is.class_is whole_is.packet_is
        ∙ ap₂ (goes (passage_of (means l)).class (passage_of (means l)).packet) whole_is.rounds_are
        (total ∙ ap (λ (z : Second). z.link.totals.charged) whole_is.after))
        (ap (λ (z : Link). second_of z r.asked quotas) e ∙ whole_is.after)
