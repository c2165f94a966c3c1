-- The second engine's link (R330 to R334): what it means, the first engine's link that it stands for, when it is sound, a fresh one, and
-- its calls. Demands 1 and 2.
use Rattle.std.specs.Prelude.{Bool, List, [], ◌≡◌, ℕ, ◌<◌, length, replicate, Ok, Err}
use Rattle.checks.specs.Check.{first_broken, Verdict}
use Rattle.tree.specs.declared.Tree.{Tree}
use Rattle.state.specs.declared.Link.{Link}
use Rattle.state.specs.Queue.{Shaped, taken_first}
use Rattle.state.specs.State.{State, meaning, fresh_link}
use Rattle.sound.specs.Sound.{StartRight}
use Rattle.rules.specs.After.{link_in}
use Rattle.calls.specs.Arrival.{arrival_of}
use Rattle.calls.specs.Send.{send_checks, goes, refused_send}
use Rattle.calls.specs.Run.{Call, arrival, send, Answer}
use Rattle.published.specs.declared.Second.{Second}
use Rattle.published.specs.Asking.{Published}
use Rattle.published.specs.Visiting.{Passage, passage_of}
use Rattle.published.specs.Settled.{settled}
use Rattle.published.specs.Sound.{SoundPublished}

-- what a link means (R330)
abbrev pub means : Second → Published
means l = record { state = meaning l.link; asked = l.asked; quotas = l.quotas }

-- the link of the first engine that it stands for: the one in which every active class has asked (R325)
abbrev pub stands_for : Second → Link
stands_for l = link_in l.link (settled (means l))

-- when it is sound (R330)
pub record SoundSecond (l : Second) : Type 0 where
  pub state : SoundPublished (means l)
  pub starts : (i : ℕ) → i < 64 → StartRight l.link i

-- its lists have the lengths of its arrays
pub record ShapedSecond (l : Second) : Type 0 where
  pub link : Shaped l.link
  pub quotas : length l.quotas ≡ 64

-- a fresh one: no class has a quota (R331)
abbrev pub fresh_second : Tree → Second
fresh_second t = record { link = fresh_link t; asked = 0; quotas = replicate 64 0 }

-- what a call gives: its answer, the states in which rounds closed in it, and the link after it (R333)
pub record Given (call : Call) : Type 0 where
  pub answer : Answer call
  pub closings : List State
  pub after : Second

-- an arrival is the first engine's (R332)
abbrev pub with_link : Second → Link → Second
with_link l link = record { link = link; asked = l.asked; quotas = l.quotas }

-- the link after a send (R333)
abbrev pub after_passage : Second → Passage → Second
after_passage l p = record {
  link = taken_first (link_in l.link p.after.state) p.class;
  asked = p.after.asked;
  quotas = p.after.quotas;
}

-- a send is checked as the first engine's, one that goes is read off its passage, and a refused one gives the very record (R333, R334)
abbrev pub send_given : Verdict → Second → Given send
send_given (Ok _) l =
    let p = passage_of (means l) in
    let after = after_passage l p in record {
      answer = goes p.class p.packet (length p.closings) after.link.totals.charged;
      closings = p.closings;
      after = after;
    }
send_given (Err e) l = record { answer = refused_send (Err e); closings = []; after = l }

-- what a call gives, on a link that is sound or is not (R332 to R334)
abbrev pub gives : Bool → Second → (call : Call) → Given call
gives sound l (arrival class p) = record {
  answer = (arrival_of sound l.link class p).answer;
  closings = [];
  after = with_link l (arrival_of sound l.link class p).link;
}
gives sound l send = send_given (first_broken (send_checks sound (meaning l.link))) l
