-- `reopening::reopened` meets its contract.
use mathlib.Core.List.{List}
use mathlib.Core.Path.{◌≡◌, sym, ap, ◌∙◌}
use Prim.Native.Nat.{ℕ}
use Rattle.tree.specs.declared.Tree.{Tree}
use Rattle.tree.specs.Rules.{PlanRules}
use Rattle.shape.specs.Shape.{tree_in}
use Rattle.rules.specs.Active.{upward}
use Rattle.rules.specs.Steps.{holds_some}
use Rattle.steps.specs.Rounds.{Unseen}
use Rattle.steps.proofs.Rounding.{round_kept}
use Rattle.steps.proofs.Departures.{root_on, round_opens, then_finds}
use Rattle.steps.proofs.reopening.reopened.Goals as goal
use Rattle.steps.proofs.reopening.reopened.Goals.{After-round_active-active, Start}

-- the tree, which obeys the rules
abbrev treeAt : Start → Tree
treeAt st = tree_in st.args.shape.now

rules : (st : Start) → PlanRules (treeAt st)
rules st = st.requires.0.2.going.fields.sound.state.fits.tree

pub round_active-active-requires : goal.round_active-active-requires
round_active-active-requires c = (rules c, c.requires.1.raised)

-- who is active in the next round, with the packets held
active_is : (c : After-round_active-active) (k : Unseen) → k.held ≡ c.args.held.now
    → c.round_active-active.result ≡ upward (treeAt (goal.at.After-round_active-active c).Start) (holds_some (treeAt (goal.at.After-round_active-active c).Start) k.held)
active_is c k e =
    let t = treeAt (goal.at.After-round_active-active c).Start in
    c.round_active-active.ensures ∙ ap (λ (h : List ℕ). upward t (holds_some t h)) (sym e)

pub keep_sums-requires : goal.keep_sums-requires
keep_sums-requires c =
    (rules (goal.at.keep_sums-requires c).Start, c.requires.1, root_on _ _ c.requires.0.2 _ (active_is (goal.at.keep_sums-requires c).After-round_active-active c.requires.0.0 c.requires.0.1))

pub open_until_sent-requires : goal.open_until_sent-requires
open_until_sent-requires c =
    ((_, round_opens _ _ c.requires.0.2 _ (active_is (goal.at.open_until_sent-requires c).After-round_active-active c.requires.0.0 c.requires.0.1)), c.keep_sums.ensures)

pub returns : goal.returns
returns c =
    let o = c.open_until_sent.ensures in record {
      finds = λ k e q.
          let is = active_is (goal.at.returns c).After-round_active-active k e in
          then_finds _ _ q _ is _ _ c.open_until_sent.result o.class_bound.0 o.class_bound.1 (o.on_the_way k (round_opens _ _ q _ is));
      kept = round_kept _ _ _ _ _ (rules (goal.at.returns c).Start) c.round_active-active.ensures o.class_bound.2 c.keep_sums.ensures;
    }
