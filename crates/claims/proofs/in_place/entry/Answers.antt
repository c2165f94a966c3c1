-- `in_place::entry` meets its contract.
use mathlib.Core.Bool.{true}
use mathlib.Core.Path.{refl, sym, ◌∙◌}
use native.Mathlib.Omega.{arith}
use Rattle.plan.proofs.Told.{reads_none, reads_some}
use Rattle.plan.specs.declared.entry.Entry.TheVariants.{Arrives, Claims}
use Rattle.checks.specs.Check.{refusal_at}
use Rattle.std.specs.Prelude.{Ok, Err, Some, None}
use Rattle.plan.proofs.EntryLaws.{within_by}
use Rattle.state.specs.declared.Link.{Link}
use Rattle.totals.proofs.Sounds.{sound_roomy}
use Rattle.shape.specs.Shape.{tree_in}
use Rattle.steps.specs.Fields.{link_at}
use Rattle.claims.proofs.InPlace.{decides_in_place, arrival_in_place, claim_in_place}
use Rattle.claims.proofs.in_place.entry.Goals as goal
use Rattle.claims.proofs.in_place.entry.Goals.{Start}

-- the link whose fields are lent
abbrev whole : Start → Link
whole st =
    let a = st.args in
    link_at true (tree_in a.shape.now) a.did.stand a.balance.now a.residual.now a.start.now a.held.now
    a.lengths.now a.tags.now a.marks.now a.packets.now a.bytes.now

pub arrive-requires : goal.arrive-requires
arrive-requires c =
    let sound = c.requires.0.sound in
    λ on. (sound.state.fits.tree, sound_roomy (whole (goal.at.arrive-requires c).Start) sound)

pub overflow_add-place : goal.overflow_add-place
overflow_add-place c =
    let some = rw c.in-Ok-Some-Arrives.is at c.in-Ok-Some-Arrives.field-0-is in
    let read = reads_some c.in-Ok-Some-Arrives.is some (rw (c.in-Ok-Some-Arrives.is, some) at c.in-Ok-Some-Arrives.field-0-0-is) in
    omega (
      arith,
      within_by c.args.rest.now (Ok (Some (Arrives c.in-Ok-Some-Arrives.a))) (sym c.read_entry-read.ensures ∙ read),
      c.requires.1,
    )

pub send-went-requires : goal.send-went-requires
send-went-requires c =
    let pre = c.requires in
    (record { sound = pre.0.sound; wide = pre.0.shape.accounts }, pre.3, pre.4)

pub compared-requires : goal.compared-requires
compared-requires c =
    let some = rw c.in-Ok-Some-Claims.is at c.in-Ok-Some-Claims.field-0-is in
    let read = reads_some c.in-Ok-Some-Claims.is some (rw (c.in-Ok-Some-Claims.is, some) at c.in-Ok-Some-Claims.field-0-0-is) in
    let w = within_by c.args.rest.now (Ok (Some (Claims c.in-Ok-Some-Claims.c))) (sym c.read_entry-read.ensures ∙ read) in
    (omega (arith, w, c.requires.1), omega (arith, w, c.requires.2))

pub overflow_add-stop : goal.overflow_add-stop
overflow_add-stop c =
    omega (
      arith,
      within_by c.args.rest.now (Err c.in-Err.refused)
          (sym c.read_entry-read.ensures ∙ c.in-Err.is),
      c.requires.1,
    )

pub returns-in-Ok-None : goal.returns-in-Ok-None
returns-in-Ok-None c =
    let d = c.args.did in
    let on = c.requires.0 in record {
      enters = rw c.decides.ensures (decides_in_place (whole (goal.at.returns-in-Ok-None c).Start) d.place d.claims c.args.rest.now on.sound on.shape (Ok None) _ d.stand
          (sym c.read_entry-read.ensures ∙ (reads_none c.in-Ok-None.is (rw c.in-Ok-None.is at c.in-Ok-None.field-0-is))) refl);
      kept = rw c.decides.ensures (c.requires.4);
    }

pub returns-in-Ok-Some-Arrives : goal.returns-in-Ok-Some-Arrives
returns-in-Ok-Some-Arrives c =
    let some = rw c.in-Ok-Some-Arrives.is at c.in-Ok-Some-Arrives.field-0-is in
    let read = reads_some c.in-Ok-Some-Arrives.is some (rw (c.in-Ok-Some-Arrives.is, some) at c.in-Ok-Some-Arrives.field-0-0-is) in
    let d = c.args.did in
    let on = c.requires.0 in record {
      enters = rw c.goes_on.ensures (arrival_in_place (whole (goal.at.returns-in-Ok-Some-Arrives c).Start) d.place d.claims c.args.rest.now on.sound on.shape c.in-Ok-Some-Arrives.a
          c.arrive.result _ _ d.stand (sym c.read_entry-read.ensures ∙ read) c.from.ensures
          (c.arrive.ensures.arrives_on (whole (goal.at.returns-in-Ok-Some-Arrives c).Start) refl (λ is. record { sound = on.sound; wide = on.shape.bytes })));
      kept = rw c.goes_on.ensures (c.requires.4);
    }

pub returns-in-Ok-Some-Claims : goal.returns-in-Ok-Some-Claims
returns-in-Ok-Some-Claims c =
    let some = rw c.in-Ok-Some-Claims.is at c.in-Ok-Some-Claims.field-0-is in
    let read = reads_some c.in-Ok-Some-Claims.is some (rw (c.in-Ok-Some-Claims.is, some) at c.in-Ok-Some-Claims.field-0-0-is) in
    let d = c.args.did in
    let on = c.requires.0 in record {
      enters = rw c.compared.ensures (claim_in_place (whole (goal.at.returns-in-Ok-Some-Claims c).Start) d.place d.claims c.args.rest.now on.sound on.shape c.in-Ok-Some-Claims.c
          c.send-went.result _ (sym c.read_entry-read.ensures ∙ read) c.send-went.ensures.departs);
      kept = rw c.compared.ensures (c.send-went.ensures.kept);
    }

pub returns-in-Err : goal.returns-in-Err
returns-in-Err c =
    let d = c.args.did in
    let on = c.requires.0 in record {
      enters = rw c.decides-in-Err.ensures (decides_in_place (whole (goal.at.returns-in-Err c).Start) d.place d.claims c.args.rest.now on.sound on.shape
          (Err c.in-Err.refused) _ d.stand
          (sym c.read_entry-read.ensures ∙ c.in-Err.is) refl);
      kept = rw c.decides-in-Err.ensures (c.requires.4);
    }
