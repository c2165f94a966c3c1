-- What the steps of the second engine's calls say; no rule of its own.
use Rattle.std.specs.Prelude.{length}
use Rattle.tree.specs.Rules.{PlanRules}
use Rattle.calls.specs.declared.Arrival.{Arrival}
use Rattle.calls.specs.declared.Departure.{Departure}
use Rattle.calls.specs.Send.{goes}
use Rattle.published.specs.declared.Second.{Second}
use Rattle.published.specs.declared.SecondArrival.{SecondArrival}
use Rattle.published.specs.declared.SecondSend.{SecondSend}
use Rattle.published.specs.Visiting.{passage_of}
use Rattle.published.specs.Second.{means, after_passage}
use Rattle.asking.specs.Right.{AskedRight}

-- its tree obeys the plan rules, and who has asked is right
pub record AskedIsRight (l : Second) : Type 0 where
  pub rules : PlanRules l.link.tree
  pub asked : AskedRight (means l)

-- an answer and the link after it
abbrev pub arrival_left : Arrival → Second → SecondArrival
arrival_left answer link = record { answer = answer; link = link }

abbrev pub send_left : Departure → Second → SecondSend
send_left answer link = record { answer = answer; link = link }

-- a send that goes is read off its passage
abbrev pub sent_of : Second → SecondSend
sent_of l =
    let p = passage_of (means l) in
    let after = after_passage l p in
    send_left (goes p.class p.packet (length p.closings) after.link.totals.charged) after
