-- `silent::reason_in` meets its contract: the four reasons in the order of R207 to R210.
use mathlib.Core.Bool.{true}
use mathlib.Core.Path.{◌≡◌, sym, ap, ◌∙◌}
use Prim.Native.Nat.{◌+◌}
use native.Mathlib.Omega.{arith}
use Rattle.sets.specs.Set.{has}
use Rattle.state.specs.declared.Account.{Account}
use Rattle.state.specs.declared.Link.{Link}
use Rattle.state.specs.Queue.{start_of, slot}
use Rattle.reasons.proofs.InLink.{leaf_low, start_low, holds_none, not_in_round, still_due, lacks_in, short_by}
use Rattle.answers.specs.Burst.{link_in}
use Rattle.cometbanjo.proofs.silent.reason_in.Goals as goal
use Rattle.cometbanjo.proofs.silent.reason_in.Goals.{After-slot-at, Start}

-- the link in the arrays
abbrev whole : Start → Link
whole st =
    let a = st.args in
    link_in a.shape.now a.stand.now a.balance.now a.residual.now a.start.now a.held.now a.lengths.now
    a.tags.now a.marks.now a.packets.now a.bytes.now

on : (c : After-slot-at) → has (whole (goal.at.After-slot-at c).Start).round.active c.args.class ≡ true
on c = sym c.has.ensures ∙ c.if-not-has.false

here : (c : After-slot-at) → c.slot-at.result ≡ slot c.args.class (start_of (whole (goal.at.After-slot-at c).Start) c.args.class)
here c = c.slot-at.ensures.0 ∙ ap (slot _) c.from.ensures

pub bounds-held-class : goal.bounds-held-class
bounds-held-class c = leaf_low (whole (goal.at.bounds-held-class c).Start) c.requires.0 c.args.class c.requires.1

pub returns-then-held-class-eq0 : goal.returns-then-held-class-eq0
returns-then-held-class-eq0 c =
    holds_none (whole (goal.at.returns-then-held-class-eq0 c).Start) c.requires.0 c.args.class c.requires.1 c.if-held-class-eq0.true

pub has-requires : goal.has-requires
has-requires c =
    leaf_low (whole (goal.at.has-requires c).Start) c.requires.0 c.args.class c.requires.1

pub returns-then-not-has : goal.returns-then-not-has
returns-then-not-has c =
    not_in_round (whole (goal.at.returns-then-not-has c).Start) c.requires.0 c.args.class c.requires.1 (omega (arith, c.if-held-class-eq0.false))
    (sym c.has.ensures ∙ c.if-not-has.true)

pub returns-then-stand-class : goal.returns-then-stand-class
returns-then-stand-class c =
    still_due (whole (goal.at.returns-then-stand-class c).Start) c.requires.0 c.args.class c.requires.1 (sym c.has.ensures ∙ c.if-not-has.false)
    (omega (arith, c.if-stand-class.true))

pub bounds-start-class : goal.bounds-start-class
bounds-start-class c =
    leaf_low (whole (goal.at.bounds-start-class c).Start) c.requires.0 c.args.class c.requires.1

pub slot-at-requires : goal.slot-at-requires
slot-at-requires c =
    let low = start_low (whole (goal.at.slot-at-requires c).Start) c.requires.0 c.args.class c.requires.1 in
    (leaf_low (whole (goal.at.slot-at-requires c).Start) c.requires.0 c.args.class c.requires.1, omega (arith, c.from.ensures, low))

pub account_of-account-requires : goal.account_of-account-requires
account_of-account-requires c =
    (leaf_low (whole (goal.at.account_of-account-requires c).Start) c.requires.0 c.args.class c.requires.1, c.requires.2)

pub shortfall-lacks-requires : goal.shortfall-lacks-requires
shortfall-lacks-requires c =
    rw c.account_of-account.ensures
    (lacks_in (whole (goal.at.shortfall-lacks-requires c).Start) c.requires.0 c.args.class c.requires.1 (on (goal.at.shortfall-lacks-requires c).After-slot-at) (omega (arith, c.if-stand-class.false)) c.slot-at.result (here (goal.at.shortfall-lacks-requires c).After-slot-at))

pub returns : goal.returns
returns c =
    let n = c.shortfall-lacks.result.0 in
    short_by (whole (goal.at.returns c).Start) c.requires.0 c.args.class c.requires.1 (on (goal.at.returns c).After-slot-at) (omega (arith, c.if-stand-class.false)) c.slot-at.result (here (goal.at.returns c).After-slot-at) n
    (ap (λ (x : Account). x.balance.0 + n) (sym c.account_of-account.ensures) ∙ c.shortfall-lacks.ensures)
