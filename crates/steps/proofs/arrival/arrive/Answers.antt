-- `arrival::arrive` meets its contract.
use mathlib.Core.Bool.{Bool, true, false}
use mathlib.Core.Path.{◌≡◌, refl, sym, ap, ap₂, ◌∙◌}
use Prim.Native.Nat.{ℕ, ◌<◌}
use native.Mathlib.Omega.{arith}
use lib.ListN.{get_or}
use Rattle.checks.specs.declared.Refusal.{Refusal}
use Rattle.std.specs.Prelude.{Err}
use Rattle.checks.specs.Check.{first_broken, Verdict, refusal_at}
use Rattle.sets.specs.Set.{has}
use Rattle.units.specs.Cost.{cost_of}
use Rattle.tree.specs.declared.Tree.{Tree}
use Rattle.tree.specs.Class.{longest_of, is_leaf}
use Rattle.tree.proofs.Leaves.{leaf_least}
use Rattle.shape.specs.Shape.{tree_in}
use Rattle.state.specs.WayUp.{recounted}
use Rattle.state.specs.declared.Link.{Link}
use Rattle.state.specs.declared.Packet.{Packet}
use Rattle.state.specs.Queue.{with_totals, laid_last, queued}
use Rattle.state.specs.State.{meaning}
use Rattle.state.proofs.Meaning.{meaning_held}
use Rattle.calls.specs.declared.Arrival.{Arrival}
use Rattle.calls.specs.Arrival.{arrival_checks, arrival_answer, arrival_leaves}
use Rattle.calls.proofs.Arrivals.{unsound_number, no_leaf_number, arrival_refused, arrival_taken, bytes_read}
use Rattle.totals.specs.WorkedOut.{totals_for}
use Rattle.totals.proofs.WorkingOut.{worked_out_own, leaf_not_inner}
use Rattle.totals.proofs.Sounds.{counts_more, near_same}
use Rattle.steps.specs.Arrivals.{lent_waiting, ArrivesOn}
use Rattle.steps.proofs.arrival.arrive.Goals as goal
use Rattle.steps.proofs.arrival.arrive.Goals.{After-judge-verdict}

-- a refused arrival answers 0 bytes, and leaves the link
refuses : (sound : Bool) (l : Link) (i : ℕ) (p : Packet) (v : Verdict) (r : Arrival) {n : Refusal} {q : ℕ} → r ≡ arrival_answer v 0
    → v ≡ first_broken (arrival_checks sound (meaning l) i p) → v ≡ Err (refusal_at n q) → ArrivesOn sound l i p r l
refuses sound l i p v r is said e =
    ap (λ (x : Arrival). arrival_leaves x l) (is ∙ ap (λ (w : Verdict). arrival_answer w 0) e)
    ∙ sym (arrival_refused sound l i p (sym said ∙ e))

pub returns-then-not-sound : goal.returns-then-not-sound
returns-then-not-sound c =
    let a = c.args in record {
      arrives_on = (λ l same takes.
          let now = lent_waiting l a.start.now a.held.now a.lengths.now a.tags.now a.marks.now
          (totals_for false (tree_in a.shape.now) a.packets.now a.bytes.now a.charged) in
          rw c.if-not-sound.true
          (refuses false now a.class a.packet _ c.refused.result c.refused.ensures (sym (unsound_number
          (meaning now) _ _)) refl));
      near = (near_same a.packets.now, near_same a.bytes.now);
    }

pub returns-then-not-leaf : goal.returns-then-not-leaf
unfolding is_leaf
returns-then-not-leaf c =
    let a = c.args in record {
      arrives_on = (λ l same takes.
          let now = lent_waiting l a.start.now a.held.now a.lengths.now a.tags.now a.marks.now
          (totals_for true (tree_in a.shape.now) a.packets.now a.bytes.now a.charged) in
          let off : is_leaf l.tree a.class ≡ false =
          ap (λ (t : Tree). has t.leaves a.class) same ∙ ap (λ (s : ℕ). has s a.class) (sym c.leaves.ensures)
          ∙ sym c.holds-leaf.ensures.0 ∙ c.if-not-leaf.true in
          rw c.if-not-sound.false
          (refuses true now a.class a.packet _ c.refused-then-not-leaf.result c.refused-then-not-leaf.ensures
          (sym (no_leaf_number (meaning now) a.class a.packet off)) refl));
      near = (near_same a.packets.now, near_same a.bytes.now);
    }

pub longest-requires : goal.longest-requires
longest-requires c = (
  (c.requires c.if-not-sound.false).0,
  c.holds-leaf.ensures.1 c.if-not-leaf.false,
)

pub bounds-held-class : goal.bounds-held-class
bounds-held-class c =
    omega (arith, c.holds-leaf.ensures.1 c.if-not-leaf.false)

inside : (j : After-judge-verdict) → j.args.class < 64
inside j =
    j.holds-leaf.ensures.1 j.if-not-leaf.false

-- the link at entry
abbrev here : After-judge-verdict → Link → Link
here j l = let a = j.args in
    lent_waiting l a.start.now a.held.now a.lengths.now a.tags.now a.marks.now
    (totals_for true (tree_in a.shape.now) a.packets.now a.bytes.now a.charged)

-- the class is a leaf
leaf_in : (j : After-judge-verdict) → is_leaf (tree_in j.args.shape.now) j.args.class ≡ true
unfolding is_leaf
leaf_in j =
    let a = j.args in
    ap (λ (s : ℕ). has s a.class) (sym j.leaves.ensures) ∙ sym j.holds-leaf.ensures.0
    ∙ j.if-not-leaf.false

-- the verdict is that of the checks on a link that is sound
said : (j : After-judge-verdict) (l : Link) → l.tree ≡ tree_in j.args.shape.now
    → j.judge-verdict.result ≡ first_broken (arrival_checks true (meaning (here j l)) j.args.class j.args.packet)
said j l same =
    let a = j.args in
    let leaf = ap (λ (t : Tree). is_leaf t a.class) same ∙ leaf_in j in
    let most : longest_of l.tree a.class ≡ j.longest.result =
    ap (λ (t : Tree). longest_of t a.class) same ∙ sym j.longest.ensures
    in
    j.judge-verdict.ensures.verdict (meaning (here j l)) a.packet leaf refl most (meaning_held (here j l) a.class (inside j))

sounds : (j : After-judge-verdict) → j.args.sound ≡ true
sounds j = j.if-not-sound.false

pub put-requires : goal.put-requires
put-requires c =
    (inside (goal.at.put-requires c).After-judge-verdict, c.judge-verdict.ensures.room c.in-Ok.is)

pub count-requires : goal.count-requires
count-requires c =
    let a = c.args in
    let on = c.requires (sounds (goal.at.count-requires c).After-judge-verdict) in
    let t = tree_in a.shape.now in
    let counts = counts_more t on.0 a.packets.now a.bytes.now a.charged on.1 a.class (cost_of a.packet.length)
    (leaf_in (goal.at.count-requires c).After-judge-verdict) in
    (leaf_least t on.0 a.class (leaf_in (goal.at.count-requires c).After-judge-verdict), inside (goal.at.count-requires c).After-judge-verdict, counts.0, counts.1)

pub offset_bounds-bytes-class : goal.offset_bounds-bytes-class
offset_bounds-bytes-class c = omega (arith, inside (goal.at.offset_bounds-bytes-class c).After-judge-verdict)

pub bounds-bytes-class : goal.bounds-bytes-class
bounds-bytes-class c = omega (arith, inside (goal.at.bounds-bytes-class c).After-judge-verdict)

pub returns-in-Ok : goal.returns-in-Ok
returns-in-Ok c =
    let a = c.args in record {
      arrives_on = (λ l same takes.
          let passed = c.in-Ok.is in
          let passes = sym (said (goal.at.returns-in-Ok c).After-judge-verdict l same) ∙ passed in
          let waits = queued l a.start.now a.held.now a.lengths.now a.tags.now a.marks.now in
          let laid = c.put.ensures l ∙ ap (laid_last waits a.class) c.marked_with.ensures in
          let t = tree_in a.shape.now in
          let rules = (c.requires (sounds (goal.at.returns-in-Ok c).After-judge-verdict)).0 in
          let link = ap₂ with_totals laid (c.count.ensures.0 t a.charged rules (leaf_in (goal.at.returns-in-Ok c).After-judge-verdict) ∙ ap (λ (t : Tree). recounted false t
          a.class (cost_of a.packet.length)
          (totals_for true (tree_in a.shape.now) a.packets.now a.bytes.now a.charged)) (sym same)) in
          let on = rw (sounds (goal.at.returns-in-Ok c).After-judge-verdict) at (takes (sounds (goal.at.returns-in-Ok c).After-judge-verdict)) in
          let bytes =
          sym (worked_out_own t _ a.class (inside (goal.at.returns-in-Ok c).After-judge-verdict) (leaf_not_inner t a.class (leaf_in (goal.at.returns-in-Ok c).After-judge-verdict)))
          ∙ ap (λ (x : Link). get_or x.totals.bytes a.class 0) link
          ∙ bytes_read (here (goal.at.returns-in-Ok c).After-judge-verdict l) a.class a.packet on.wide on.sound passes
          in
          rw (sounds (goal.at.returns-in-Ok c).After-judge-verdict)
          (ap₂ arrival_leaves (ap₂ arrival_answer passed bytes) link ∙ sym (arrival_taken true (here (goal.at.returns-in-Ok c).After-judge-verdict l) a.class a.packet passes)));
      near = (c.count.ensures.1, c.count.ensures.2);
    }

pub returns : goal.returns
returns c =
    let a = c.args in record {
      arrives_on = (λ l same takes.
          rw (sounds (goal.at.returns c).After-judge-verdict)
          (refuses true (here (goal.at.returns c).After-judge-verdict l) a.class a.packet c.judge-verdict.result c.refused-2.result c.refused-2.ensures
          (said (goal.at.returns c).After-judge-verdict l same) c.in_default.is));
      near = (near_same a.packets.now, near_same a.bytes.now);
    }
