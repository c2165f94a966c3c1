-- `page_calls::record_of` meets its contract.
use mathlib.Core.Path.{refl}
use borrow.Author.Tests.{ne_eqb}
use Rattle.page_calls.specs.Record.{record_of}
use Rattle.page_calls.proofs.record_of.Goals as goal

pub returns-in-1 : goal.returns-in-1
unfolding record_of
returns-in-1 c = rw c.in-1.is c.inner_record.ensures

pub returns-in-2 : goal.returns-in-2
unfolding record_of
returns-in-2 c = rw c.in-2.is c.leaf_record.ensures

pub returns-in-3 : goal.returns-in-3
unfolding record_of
returns-in-3 c = rw c.in-3.is refl

pub returns-in-16 : goal.returns-in-16
unfolding record_of
returns-in-16 c = rw c.in-16.is c.arrival_record.ensures

pub returns-in_default : goal.returns-in_default
unfolding record_of
returns-in_default c =
    let r = c.in_default.in_default-own.rest in
    rw (
      ne_eqb _ _ r.0.0.0.1,
      ne_eqb _ _ r.0.0.1,
      ne_eqb _ _ r.0.1,
      ne_eqb _ _ r.1,
    )
    refl
