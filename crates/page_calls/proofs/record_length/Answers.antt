-- `page_calls::record_length` meets its contract.
use mathlib.Core.Path.{refl}
use borrow.Author.Tests.{ne_eqb}
use Rattle.page_calls.specs.Record.{length_of}
use Rattle.page_calls.proofs.record_length.Goals as goal

pub returns-in-0 : goal.returns-in-0
unfolding length_of
returns-in-0 c = rw c.in-0.is refl

pub returns-in-1 : goal.returns-in-1
unfolding length_of
returns-in-1 c = rw c.in-1.is refl

pub returns-in-2 : goal.returns-in-2
unfolding length_of
returns-in-2 c = rw c.in-2.is refl

pub returns-in-3 : goal.returns-in-3
unfolding length_of
returns-in-3 c = rw c.in-3.is refl

pub returns-in-16 : goal.returns-in-16
unfolding length_of
returns-in-16 c = rw c.in-16.is refl

pub returns-in-17 : goal.returns-in-17
unfolding length_of
returns-in-17 c = rw c.in-17.is refl

pub returns-in_default : goal.returns-in_default
unfolding length_of
returns-in_default c =
    let r = c.in_default.in_default-own.rest in
    rw (
      ne_eqb _ _ r.0.0.0.0.0.1,
      ne_eqb _ _ r.0.0.0.0.1,
      ne_eqb _ _ r.0.0.0.1,
      ne_eqb _ _ r.0.0.1,
      ne_eqb _ _ r.0.1,
      ne_eqb _ _ r.1,
    )
    refl
