-- `lent_parts::serve` meets its contract: turn after turn the part is underway, and what the end answers is the part.
use Rattle.std.proofs.Common.{refl}
use Rattle.lent_parts.proofs.Turning.{serving_starts, serving_room, call_goes, serving_on, serving_less, serving_ends}
use Rattle.lent_parts.proofs.serve.Goals as goal

pub loop-turn-init : goal.loop-turn-init
loop-turn-init c = serving_starts c.args.first c.args.input.now c.args.start.place c.args.out.now c.args.start refl c.requires

pub next_turn-turn-requires : goal.next_turn-turn-requires
next_turn-turn-requires c =
    let a = c.args in
    let t = c.loop-turn in
    serving_room a.first a.input.now a.start.place a.out.now t.link t.turn t.out t.invariant c.in-Some.event c.in-Some.is

pub loop-turn-smaller : goal.loop-turn-smaller
loop-turn-smaller c =
    let a = c.args in
    let t = c.loop-turn in
    let s = t.invariant in
    let n = c.next_turn-turn in
    let m = c.called-line.new.link in
    let line = c.called-line.result in
    let event = c.in-Some.event in
    let on = c.in-Some.is in
    let goes = call_goes a.first a.input.now a.start.place a.out.now t.link t.turn t.out s m line event on c.called-line.ensures in
    serving_less a.first a.input.now a.start.place a.out.now t.link t.turn t.out s m line n.result n.new.out event on goes n.ensures

pub loop-turn-preserved : goal.loop-turn-preserved
loop-turn-preserved c =
    let a = c.args in
    let t = c.loop-turn in
    let s = t.invariant in
    let n = c.next_turn-turn in
    let m = c.called-line.new.link in
    let line = c.called-line.result in
    let event = c.in-Some.event in
    let on = c.in-Some.is in
    let goes = call_goes a.first a.input.now a.start.place a.out.now t.link t.turn t.out s m line event on c.called-line.ensures in
    serving_on a.first a.input.now a.start.place a.out.now t.link t.turn t.out s m line n.result n.new.out event on goes n.ensures

pub returns : goal.returns
returns c =
    let a = c.args in
    let t = c.loop-turn in
    serving_ends a.first a.input.now a.start.place a.out.now t.link t.turn t.out t.invariant c.ended.result c.ended.new.out c.in_default.is c.ended.ensures
