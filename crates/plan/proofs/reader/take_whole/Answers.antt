-- `reader::take_whole` meets its contract.
use mathlib.Core.Bool.{Bool, true, cond}
use mathlib.Core.Path.{◌≡◌, sym, ap, ◌∙◌}
use Prim.Native.Nat.{◌+◌}
use native.Mathlib.Omega.{arith}
use lib.ListN.{length}
use Rattle.plan.specs.declared.kind.RecordKind.{RecordKind}
use Rattle.plan.specs.Kind.{gives_class, gives_leaf}
use Rattle.plan.specs.Record.{kind_at, body_of, class_of, class_at}
use Rattle.plan.proofs.Records.{class_body, body_part, body_length, whole_length}
use Rattle.plan.proofs.Reading.{class_to_whole, plain_to_whole}
use Rattle.plan.proofs.reader.take_whole.Goals as goal
use Rattle.plan.proofs.reader.take_whole.Goals.{After-gives_leaf-leaf, After-read_class-class, After-record_length-end, Else-not-gives_class}

-- the end of the record, as its kind says
end_of : (c : After-record_length-end) → c.record_length-end.result ≡ 1 + (kind_at c.args.rest.now).body
end_of c = c.record_length-end.ensures.0 ∙ ap (λ (k : RecordKind). 1 + k.body) c.requires.1

-- it gives a class
gives : (c : Else-not-gives_class) → gives_class (kind_at c.args.rest.now) ≡ true
gives c = ap gives_class (sym c.requires.1) ∙ sym c.gives_class.ensures ∙ c.if-not-gives_class.false

-- whether that class is a leaf
leaf_of : (c : After-gives_leaf-leaf)
    → c.gives_leaf-leaf.result ≡ gives_leaf (kind_at c.args.rest.now)
leaf_of c = c.gives_leaf-leaf.ensures ∙ ap gives_leaf c.requires.1

-- and that class was read
class_read : (c : After-read_class-class)
    → c.read_class-class.result ≡ class_at c.args.rest.now
unfolding class_at
class_read c =
    let s = c.args.rest.now in
    c.read_class-class.ensures
    ∙ ap (class_of c.gives_leaf-leaf.result) (body_part s c.record_length-end.result (end_of (goal.at.After-read_class-class c).After-record_length-end))
    ∙ ap (λ (x : Bool). class_of x (body_of s)) (leaf_of (goal.at.After-read_class-class c).After-gives_leaf-leaf)

pub returns-then-not-gives_class : goal.returns-then-not-gives_class
returns-then-not-gives_class c =
    let s = c.args.rest.now in
    let off = ap gives_class (sym c.requires.1) ∙ sym c.gives_class.ensures ∙ c.if-not-gives_class.true in
    let says = rw c.requires.1 at c.no_class.ensures in
    plain_to_whole s c.args.place c.args.tree c.no_class.result.tree c.no_class.result.next off c.requires.3 says

pub slice_bounds-read_class-end : goal.slice_bounds-read_class-end
slice_bounds-read_class-end c =
    omega (arith, end_of (goal.at.slice_bounds-read_class-end c).After-record_length-end, whole_length c.args.rest.now c.requires.0)

pub read_class-class-requires : goal.read_class-class-requires
read_class-class-requires c =
    let s = c.args.rest.now in
    ap length (body_part s c.record_length-end.result (end_of (goal.at.read_class-class-requires c).After-record_length-end))
    ∙ body_length s c.requires.0
    ∙ class_body s (gives (goal.at.read_class-class-requires c).Else-not-gives_class)
    ∙ ap (λ (x : Bool). cond x 7 5) (sym (leaf_of (goal.at.read_class-class-requires c).After-gives_leaf-leaf))

pub overflow_add-place : goal.overflow_add-place
overflow_add-place c =
    omega (arith, end_of (goal.at.overflow_add-place c).After-record_length-end, whole_length c.args.rest.now c.requires.0, c.requires.2)

pub returns : goal.returns
returns c =
    let s = c.args.rest.now in
    let t = c.args.tree in
    let place = c.args.place in
    let end = c.record_length-end.result in
    let says = rw (class_read (goal.at.returns c).After-read_class-class) at c.put_class.ensures in
    class_to_whole s place (place + end) t c.put_class.result.tree c.put_class.result.next (gives (goal.at.returns c).Else-not-gives_class)
    (omega (arith, end_of (goal.at.returns c).After-record_length-end)) (omega (arith, end_of (goal.at.returns c).After-record_length-end, whole_length s c.requires.0)) says
