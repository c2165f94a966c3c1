-- `record::read_head` meets its contract.
use mathlib.Core.Bool.{not}
use mathlib.Core.Path.{ap}
use borrow.Author.Tests.{eq-eqb, ne_eqb, lt-ltb, le-ltb}
use Rattle.plan.specs.Record.{kind_at, missing, unknown, cut}
use Rattle.plan.proofs.record.read_head.Goals as goal

pub returns-then-rest-eq0 : goal.returns-then-rest-eq0
unfolding missing
returns-then-rest-eq0 c = eq-eqb _ _ c.if-rest-eq0.true

pub returns-then-not-stands_in : goal.returns-then-not-stands_in
unfolding missing unknown kind_at
returns-then-not-stands_in c =
    (ne_eqb _ _ c.if-rest-eq0.false, rw (← c.record_kind-kind.ensures, ← c.stands_in.ensures) (ap not c.if-not-stands_in.true))

pub returns-then-rest-record_length : goal.returns-then-rest-record_length
unfolding missing unknown cut kind_at
returns-then-rest-record_length c = (
  ne_eqb _ _ c.if-rest-eq0.false,
  rw (← c.record_kind-kind.ensures, ← c.stands_in.ensures) (ap not c.if-not-stands_in.false),
  rw (← c.record_kind-kind.ensures, ← c.record_length.ensures.0) (lt-ltb _ _ c.if-rest-record_length.true),
)

pub returns : goal.returns
unfolding missing unknown cut kind_at
returns c = (
  ne_eqb _ _ c.if-rest-eq0.false,
  rw (← c.record_kind-kind.ensures, ← c.stands_in.ensures) (ap not c.if-not-stands_in.false),
  rw (← c.record_kind-kind.ensures, ← c.record_length.ensures.0) (le-ltb _ _ c.if-rest-record_length.false),
  c.record_kind-kind.ensures,
)
