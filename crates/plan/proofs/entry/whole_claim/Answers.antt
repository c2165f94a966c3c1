-- `entry::whole_claim` meets its contract.
use mathlib.Core.Bool.{true}
use mathlib.Core.Path.{◌≡◌, sym, ap, ◌∙◌}
use Prim.Native.Nat.{◌+◌}
use native.Mathlib.Omega.{arith}
use lib.ListN.{length}
use Rattle.std.specs.Prelude.{Some}
use Rattle.plan.specs.declared.kind.RecordKind.{RecordKind}
use Rattle.plan.specs.Kind.{gives_sent}
use Rattle.plan.specs.Record.{kind_at}
use Rattle.plan.specs.Event.{arrived_of}
use Rattle.plan.proofs.Records.{body_part, body_length, whole_length, sent_body}
use Rattle.plan.proofs.EntryLaws.{claim_sent, claim_idle}
use Rattle.plan.proofs.entry.whole_claim.Goals as goal
use Rattle.plan.proofs.entry.whole_claim.Goals.{After-record_length-end, Else-not-gives_sent}

-- the end of the claim, as its kind says
end_of : (c : After-record_length-end) → c.record_length-end.result ≡ 1 + (kind_at c.args.next.now).body
end_of c = c.record_length-end.ensures.0 ∙ ap (λ (k : RecordKind). 1 + k.body) c.requires.1

-- it says that a packet was sent
sent : (c : Else-not-gives_sent) → gives_sent (kind_at c.args.next.now) ≡ true
sent c = ap gives_sent (sym c.requires.1) ∙ sym c.gives_sent.ensures ∙ c.if-not-gives_sent.false

pub returns-then-not-gives_sent : goal.returns-then-not-gives_sent
returns-then-not-gives_sent c = sym (claim_idle _ (ap gives_sent (sym c.requires.1) ∙ sym c.gives_sent.ensures
    ∙ c.if-not-gives_sent.true))

pub slice_bounds-read_arrival-end : goal.slice_bounds-read_arrival-end
slice_bounds-read_arrival-end c =
    omega (arith, end_of c, whole_length c.args.next.now c.requires.0)

pub read_arrival-requires : goal.read_arrival-requires
read_arrival-requires c =
    let s = c.args.next.now in
    ap length (body_part s c.record_length-end.result (end_of (goal.at.read_arrival-requires c).After-record_length-end)) ∙ body_length s c.requires.0 ∙ sent_body s (sent (goal.at.read_arrival-requires c).Else-not-gives_sent)

pub returns : goal.returns
returns c =
    let s = c.args.next.now in
    ap (λ a. Some a) (c.read_arrival.ensures ∙ ap arrived_of (body_part s c.record_length-end.result (end_of (goal.at.returns c).After-record_length-end)))
    ∙ sym (claim_sent s (sent (goal.at.returns c).Else-not-gives_sent))
