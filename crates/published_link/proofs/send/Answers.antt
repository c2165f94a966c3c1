-- `send` meets its contract.
use mathlib.Core.Bool.{true, false}
use mathlib.Core.Path.{◌≡◌, ◌∙◌}
use native.Mathlib.Omega.{arith}
use lib.ListN.{get_or}
use borrow.Author.Tests.{le-leb, lt-leb}
use Rattle.checks.proofs.Laws.{not_true_and_false}
use Rattle.state.specs.State.{meaning}
use Rattle.rules.specs.Active.{some_waits}
use Rattle.rules.proofs.Counted.{root_counts_some}
use Rattle.published.specs.declared.Second.{Second}
use Rattle.published.specs.Second.{SoundSecond}
use Rattle.published.proofs.Shapes.{shaped_second}
use Rattle.published_link.proofs.Answers.{send_unsound, send_nothing, send_goes}
use Rattle.published_link.proofs.send.Goals as goal

-- the root's total says whether a packet waits
none_waits : (l : Second) → SoundSecond l → get_or l.link.totals.packets 0 0 ≡ 0 → some_waits (meaning l.link) ≡ false
none_waits l sound e =
    root_counts_some (meaning l.link) sound.state.state ∙ lt-leb 1 (get_or l.link.totals.packets 0 0) (omega (arith, e))

some_waits_lem : (l : Second) → SoundSecond l → (get_or l.link.totals.packets 0 0 ≡ 0 → ⊥) → some_waits (meaning l.link) ≡ true
some_waits_lem l sound e =
    root_counts_some (meaning l.link) sound.state.state ∙ le-leb 1 (get_or l.link.totals.packets 0 0) (omega (arith, e))

pub returns-then-not-is_sound : goal.returns-then-not-is_sound
returns-then-not-is_sound c =
    send_unsound c.args.second (shaped_second c.args.second _ c.well_formed.0) c.send_stays.result
    (λ s. not_true_and_false (c.is_sound.ensures.complete s) c.if-not-is_sound.true) c.send_stays.ensures

pub returns-then-second-eq0 : goal.returns-then-second-eq0
returns-then-second-eq0 c =
    let sound = c.is_sound.ensures.sound c.if-not-is_sound.false in
    send_nothing c.args.second (shaped_second c.args.second _ c.well_formed.0) sound c.send_stays-then-second-eq0.result
    (none_waits c.args.second sound c.if-second-eq0.true) c.send_stays-then-second-eq0.ensures

pub goes-requires : goal.goes-requires
goes-requires c =
    let sound = c.is_sound.ensures.sound c.if-not-is_sound.false in
    record {
      sound = sound;
      shape = shaped_second c.args.second _ c.well_formed.0;
      waits = some_waits_lem c.args.second sound c.if-second-eq0.false;
    }

pub returns : goal.returns
returns c =
    let sound = c.is_sound.ensures.sound c.if-not-is_sound.false in
    send_goes c.args.second (shaped_second c.args.second _ c.well_formed.0) sound c.goes.result
    (some_waits_lem c.args.second sound c.if-second-eq0.false) c.goes.ensures
