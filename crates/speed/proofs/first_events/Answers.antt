-- `speed::first_events` meets its contract.
use Rattle.std.proofs.Common.{sym, ap, ◌∙◌}
use Rattle.calls.specs.Run.{last_link}
use Rattle.run.specs.declared.Step.{Step}
use Rattle.speed.specs.Timed.{timed_run, tally_of}
use Rattle.speed.proofs.Served.{timed_none, timed_run_lem, begun_sound}
use Rattle.speed.proofs.first_events.Goals as goal

pub by_value-requires : goal.by_value-requires
by_value-requires c =
    begun_sound 0 _ c.begin-begun.result c.begin-begun.ensures c.if-begun.true

pub returns-then-begun : goal.returns-then-begun
returns-then-begun c =
    let a = c.args in
    let run = timed_run_lem a.events a.input.now c.begin-begun.result c.begin-begun.ensures c.event_at.result c.if-begun.true
    c.event_at.ensures in record {
      tally_value = c.by_value.ensures.tally_value ∙ ap (tally_of 0) run;
      link_value = c.by_value.ensures.link_value ∙ ap (last_link c.begin-begun.result.link) run
          ∙ ap (λ (s : Step). last_link s.link (timed_run a.events a.input.now)) c.begin-begun.ensures;
    }

pub returns : goal.returns
unfolding tally_of last_link
returns c =
    let a = c.args in
    let none = timed_none a.events a.input.now c.begin-begun.result c.begin-begun.ensures c.if-begun.false in record {
      tally_value = sym (ap (tally_of 0) none);
      link_value = sym (ap (last_link c.begin-begun.result.link) none)
          ∙ ap (λ (s : Step). last_link s.link (timed_run a.events a.input.now)) c.begin-begun.ensures;
    }
