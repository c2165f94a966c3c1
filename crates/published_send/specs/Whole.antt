-- A whole send of the second engine, over lent arrays; no rule of its own.
use Rattle.std.specs.Prelude.{List, true, ◌≡◌, ℕ, length}
use Rattle.units.specs.declared.Bytes.{Bytes}
use Rattle.state.specs.declared.Link.{Link}
use Rattle.state.specs.State.{meaning}
use Rattle.rules.specs.Active.{some_waits}
use Rattle.published.specs.declared.Second.{Second}
use Rattle.published.specs.Visiting.{visited, passage_of}
use Rattle.published.specs.Second.{means, SoundSecond, ShapedSecond, after_passage}
use Rattle.shape.specs.Shape.{tree_in}
use Rattle.steps.specs.declared.leaf.Gone.{Gone}
use Rattle.asking.specs.Lent.{Lent}
use Rattle.published_send.specs.declared.Sent.{Sent}
use Rattle.published_send.specs.declared.rounds.Turned.{Turned}

-- the second engine's link with these fields
abbrev pub second_of : Link → ℕ → List ℕ → Second
second_of link asked quotas = record { link = link; asked = asked; quotas = quotas }

-- a sound link on which a packet waits
pub record Ready (l : Second) : Type 0 where
  pub sound : SoundSecond l
  pub shape : ShapedSecond l
  pub waits : some_waits (meaning l.link) ≡ true

-- the visits of its round have found no leaf, and left these fields
pub record HasClosed (l : Second) (size : Bytes) (shape balance residual quotas start held lengths : List ℕ) : Type 0 where
  pub ready : Ready l
  pub closed : (visited (means l)).leaf ≡ 64
  pub tree_is : l.link.tree ≡ tree_in shape
  pub size_is : l.link.round.size ≡ size
  pub starts : l.link.start ≡ start
  pub helds : l.link.held ≡ held
  pub lying : l.link.lengths ≡ lengths
  pub active : ℕ
  pub asked : ℕ
  pub lent : Lent (visited (means l)).after active asked shape balance residual quotas

-- a packet has gone
abbrev pub gone_by : Turned → Gone → Sent
gone_by next gone = record {
  class = next.leaf;
  packet = gone.packet;
  rounds = next.rounds;
  asked = next.asked;
  stand = record {
    known = next.known;
    size = next.size;
    active = gone.active;
    place = next.leaf;
    charged = gone.charged;
  };
}

-- the whole of it: the answer's numbers, and the link after it
pub record Wholly (l : Second) (r : Sent) (link : Link) (quotas : List ℕ) : Type 0 where
  pub class_is : r.class ≡ (passage_of (means l)).class
  pub packet_is : r.packet ≡ (passage_of (means l)).packet
  pub rounds_are : r.rounds ≡ length (passage_of (means l)).closings
  pub after : second_of link r.asked quotas ≡ after_passage l (passage_of (means l))
