-- `reasons::reason_of` meets its contract: the four reasons in the order of R207 to R210.
use mathlib.Core.Bool.{true}
use mathlib.Core.Path.{◌≡◌, sym, ap, ◌∙◌}
use native.Mathlib.Omega.{arith}
use Rattle.sets.specs.Set.{has}
use Rattle.state.specs.Queue.{start_of, slot}
use Rattle.reasons.proofs.InLink.{leaf_low, start_low, holds_none, not_in_round, still_due, lacks_in, short_by}
use Rattle.reasons.proofs.reason_of.Goals as goal
use Rattle.reasons.proofs.reason_of.Goals.{After-slot-at}

pub bounds-link-class : goal.bounds-link-class
bounds-link-class c = leaf_low c.args.link c.requires.0 c.args.class c.requires.1

pub returns-then-link-class-eq0 : goal.returns-then-link-class-eq0
returns-then-link-class-eq0 c =
    holds_none c.args.link c.requires.0 c.args.class c.requires.1 c.if-link-class-eq0.true

pub has-requires : goal.has-requires
has-requires c =
    leaf_low c.args.link c.requires.0 c.args.class c.requires.1

pub returns-then-not-has : goal.returns-then-not-has
returns-then-not-has c =
    not_in_round c.args.link c.requires.0 c.args.class c.requires.1 (omega (arith, c.if-link-class-eq0.false))
    (sym c.has.ensures ∙ c.if-not-has.true)

pub returns-then-link-class : goal.returns-then-link-class
returns-then-link-class c =
    still_due c.args.link c.requires.0 c.args.class c.requires.1 (sym c.has.ensures ∙ c.if-not-has.false)
    (omega (arith, c.if-link-class.true))

pub bounds-link-class-2 : goal.bounds-link-class-2
bounds-link-class-2 c =
    leaf_low c.args.link c.requires.0 c.args.class c.requires.1

pub slot-at-requires : goal.slot-at-requires
slot-at-requires c = (
  leaf_low c.args.link c.requires.0 c.args.class c.requires.1,
  omega (arith, c.from.ensures, start_low c.args.link c.requires.0 c.args.class c.requires.1),
)

on : (c : After-slot-at)
    → has c.args.link.round.active
    c.args.class
    ≡ true
on c = sym c.has.ensures ∙ c.if-not-has.false

here : (c : After-slot-at)
    → c.slot-at.result ≡ slot c.args.class
    (start_of c.args.link c.args.class)
here c = c.slot-at.ensures.0 ∙ ap (slot _) c.from.ensures

pub shortfall-lacks-requires : goal.shortfall-lacks-requires
shortfall-lacks-requires c =
    lacks_in c.args.link c.requires.0 c.args.class c.requires.1 (on (goal.at.shortfall-lacks-requires c).After-slot-at) (omega (arith, c.if-link-class.false)) c.slot-at.result
    (here (goal.at.shortfall-lacks-requires c).After-slot-at)

pub returns : goal.returns
returns c =
    short_by c.args.link c.requires.0 c.args.class c.requires.1 (on (goal.at.returns c).After-slot-at) (omega (arith, c.if-link-class.false)) c.slot-at.result
    (here (goal.at.returns c).After-slot-at) c.shortfall-lacks.result.0 c.shortfall-lacks.ensures
