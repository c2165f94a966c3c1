-- `kind::record_kind` meets its contract.
use borrow.Author.Tests.{ne_eqb}
use Rattle.plan.specs.Kind.{record_kind}
use Rattle.plan.proofs.kind.record_kind.Goals as goal

pub returns-in-0 : goal.returns-in-0
unfolding record_kind
returns-in-0 c = rw c.in-0.is c.kind_row.ensures

pub returns-in-1 : goal.returns-in-1
unfolding record_kind
returns-in-1 c = rw c.in-1.is c.kind_row-in-1.ensures

pub returns-in-2 : goal.returns-in-2
unfolding record_kind
returns-in-2 c = rw c.in-2.is c.kind_row-in-2.ensures

pub returns-in-3 : goal.returns-in-3
unfolding record_kind
returns-in-3 c = rw c.in-3.is c.kind_row-in-3.ensures

pub returns-in-16 : goal.returns-in-16
unfolding record_kind
returns-in-16 c = rw c.in-16.is c.kind_row-in-16.ensures

pub returns-in-17 : goal.returns-in-17
unfolding record_kind
returns-in-17 c = rw c.in-17.is c.kind_row-in-17.ensures

pub returns-in-18 : goal.returns-in-18
unfolding record_kind
returns-in-18 c = rw c.in-18.is c.kind_row-in-18.ensures

pub returns-in-19 : goal.returns-in-19
unfolding record_kind
returns-in-19 c = rw c.in-19.is c.kind_row-in-19.ensures

pub returns-in_default : goal.returns-in_default
unfolding record_kind
returns-in_default c =
    let r = c.in_default.in_default-own.rest in
    let q = r.0.0 in
    rw (
      ne_eqb _ _ q.0.0.0.0.0.1,
      ne_eqb _ _ q.0.0.0.0.1,
      ne_eqb _ _ q.0.0.0.1,
      ne_eqb _ _ q.0.0.1,
      ne_eqb _ _ q.0.1,
      ne_eqb _ _ q.1,
      ne_eqb _ _ r.0.1,
      ne_eqb _ _ r.1,
    )
    c.kind_row-in_default.ensures
