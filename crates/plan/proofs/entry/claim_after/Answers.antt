-- `entry::claim_after` meets its contract.
use mathlib.Core.Path.{sym, ap, ◌∙◌}
use Rattle.plan.specs.declared.entry.Entry.TheVariants.{Claims}
use Rattle.std.specs.Prelude.{Ok, Some}
use Rattle.plan.proofs.EntryLaws.{after_none, after_strange, after_cut, after_whole}
use Rattle.plan.proofs.entry.claim_after.Goals as goal

pub whole_claim-requires : goal.whole_claim-requires
whole_claim-requires c =
    let says = c.in-Ok.ensures in
    (says.2, says.3)

pub returns-in-Err-NoKindByte : goal.returns-in-Err-NoKindByte
returns-in-Err-NoKindByte c =
    let says = rw c.in-Err-NoKindByte.field-0-is at c.in-Err-NoKindByte.ensures in
    sym (after_none _ says)

pub returns-in-Err-StrangeKind : goal.returns-in-Err-StrangeKind
returns-in-Err-StrangeKind c =
    let says = rw c.in-Err-StrangeKind.field-0-is at c.in-Err-StrangeKind.ensures in
    sym (after_strange _ says.0 says.1)

pub returns-in-Err-CutBody : goal.returns-in-Err-CutBody
returns-in-Err-CutBody c =
    let says = rw c.in-Err-CutBody.field-0-is at c.in-Err-CutBody.ensures in
    sym (after_cut _ says.0 says.1 says.2)

pub returns-in-Ok : goal.returns-in-Ok
returns-in-Ok c =
    let says = c.in-Ok.ensures in
    ap (λ a. Ok (Some (Claims a))) c.whole_claim.ensures ∙ sym (after_whole _ says.0 says.1 says.2)
