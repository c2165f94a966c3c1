-- Each exported call has one outcome: any two that its contract allows are equal, answer, numbers and the link in the arrays. Those on a
-- plan alone have theirs from page_calls (proofs/Outcomes there: `rates_one_answer`, `waits_one_answer`, `bound_one_answer`,
-- `mend_one_answer`, and `write_one_answer` for a shape that is written). Demands 1 to 3.
use mathlib.Core.Bool.{Bool, true, false, cond}
use mathlib.Core.List.{List, []}
use mathlib.Core.Path.{◌≡◌, refl, sym, ap, ◌∙◌}
use Prim.Native.Nat.{ℕ}
use native.Mathlib.Omega.{arith}
use lib.ListN.{length}
use Rattle.std.specs.Prelude.{Ok}
use Rattle.checks.specs.Check.{number_of}
use Rattle.checks.proofs.Laws.{exactly_yes, exactly_unique}
use Rattle.state.specs.declared.Link.{Link}
use Rattle.state.specs.declared.Totals.{Totals}
use Rattle.calls.specs.declared.AfterArrival.{AfterArrival}
use Rattle.calls.specs.declared.AfterFresh.{AfterFresh}
use Rattle.calls.specs.declared.AfterSend.{AfterSend}
use Rattle.calls.specs.Run.{arrival, send, made}
use Rattle.calls.specs.Panel.{TellsTotals}
use Rattle.calls.proofs.FreshLinks.{fresh_one_answer}
use Rattle.calls.proofs.Panels.{sound_totals}
use Rattle.calls.proofs.Arrivals.{arrival_one_answer}
use Rattle.calls.proofs.Departures.{send_one_answer}
use Rattle.offered.specs.declared.Offered.{Offered}
use Rattle.offered.proofs.Offering.{offer_one_answer}
use Rattle.reasons.specs.Answer.{Silence}
use Rattle.reasons.specs.Answer.{told_verdict}
use Rattle.reasons.proofs.OneReason as reasons
use Rattle.answers.specs.Reply.{reply_to, row_of}
use Rattle.cometbanjo.specs.Numbers.{packet_of, offer_said, why_said}
use Rattle.cometbanjo.specs.Calls.{CallOpens, CallArrives, CallSends, CallTotals, CallOffers, CallWhy}

-- two things that are equal to one
both : {A : Type 0} {x y z : A} → x ≡ z → y ≡ z → x ≡ y
both e f = e ∙ sym f

pub open_call_one : {input : List ℕ} {n n' : ℕ} {said said' : List ℕ} {l l' : Link} → CallOpens input n said l
    → CallOpens input n' said' l' → (n ≡ n') × (said ≡ said') × (l ≡ l')
open_call_one a b = (
  both a.answers b.answers,
  both a.verdict b.verdict,
  a.link ∙ ap (λ (r : AfterFresh). r.link) (fresh_one_answer _ a.made b.made a.rules b.rules) ∙ sym b.link,
)

pub arrive_call_one : {l : Link} {class size tag n n' : ℕ} {row row' : List ℕ} {after after' : Link}
    → CallArrives l class size tag n row after → CallArrives l class size tag n' row' after'
    → (n ≡ n') × (row ≡ row') × (after ≡ after')
arrive_call_one {class = class} {size = size} {tag = tag} a b =
    let e = arrival_one_answer _ _ _ _ _ a.rules b.rules in (
      a.answers ∙ ap (λ (r : AfterArrival). number_of r.answer.verdict) e ∙ sym b.answers,
      a.numbers
          ∙ ap (λ (r : AfterArrival). row_of (reply_to (made (arrival class (packet_of size tag)) r.answer r.link))) e
          ∙ sym b.numbers,
      ap (λ (r : AfterArrival). r.link) e,
    )

pub send_call_one : {l : Link} {n n' : ℕ} {row row' : List ℕ} {after after' : Link} → CallSends l n row after
    → CallSends l n' row' after' → (n ≡ n') × (row ≡ row') × (after ≡ after')
send_call_one a b =
    let e = send_one_answer _ _ _ a.rules b.rules in (
      a.answers ∙ ap (λ (r : AfterSend). number_of r.answer.verdict) e ∙ sym b.answers,
      a.numbers ∙ ap (λ (r : AfterSend). row_of (reply_to (made send r.answer r.link))) e ∙ sym b.numbers,
      ap (λ (r : AfterSend). r.link) e,
    )

pub totals_call_one : {f : List ℕ → List ℕ → Link} {n n' : ℕ} → CallTotals f n → CallTotals f n' → n ≡ n'
totals_call_one a b =
    a.answers ∙ ap (λ (sound : Bool). cond sound 0 11) (exactly_unique (a.exactly [] []) (b.exactly [] [])) ∙ sym b.answers

pub offer_call_one : {l : Link} {class size n n' : ℕ} {said said' : List ℕ} → CallOffers l class size n said
    → CallOffers l class size n' said' → (n ≡ n') × (said ≡ said')
offer_call_one a b =
    let e = offer_one_answer _ _ _ a.answer b.answer a.rules b.rules in (
      a.answers ∙ ap (λ (r : Offered). number_of r.verdict) e ∙ sym b.answers,
      a.numbers ∙ ap offer_said e ∙ sym b.numbers,
    )

pub why_call_one : {l : Link} {class n n' : ℕ} {said said' : List ℕ} → CallWhy l class n said → CallWhy l class n' said'
    → (n ≡ n') × (said ≡ said')
why_call_one a b =
    let e = reasons.one_answer _ _ a.answer b.answer a.rules b.rules in (
      a.answers ∙ ap (λ (r : Silence). number_of (told_verdict r)) e ∙ sym b.answers,
      a.numbers ∙ ap why_said e ∙ sym b.numbers,
    )

-- ---- what 0 says of the totals

zero_sound : (n : ℕ) (b : Bool) → n ≡ cond b 0 11 → n ≡ 0 → b ≡ true
zero_sound n true e zero = refl
zero_sound n false e zero = absurd (omega (arith, e, zero))

-- where the answer is 0 the two tables and the running total in the arrays are what the panel is told of the link, whatever its tags and
-- its marks are (R350)
pub totals_told : {f : List ℕ → List ℕ → Link} {n : ℕ} → CallTotals f n → n ≡ 0 → (tags marks : List ℕ)
    → length (f tags marks).totals.packets ≡ 64 → length (f tags marks).totals.bytes ≡ 64
    → TellsTotals (f tags marks) (record { verdict = Ok tt; totals = (f tags marks).totals })
totals_told {f = f} {n = n} is zero tags marks packets bytes =
    let on = zero_sound n is.sound is.answers zero in
    let sound = (is.exactly tags marks).sound on in
    record {
      sound = true;
      exactly = exactly_yes sound;
      answer = ap (λ (t : Totals). record { verdict = Ok tt; totals = t }) (sound_totals (f tags marks) sound packets bytes);
    }
