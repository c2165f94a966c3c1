-- What opening rounds and a whole send ask of the fields of a link, and what they give; no rule of its own.
use Rattle.checks.specs.declared.Refusal.TheVariants.{NothingWaits}
use Rattle.checks.specs.Check.{refusal_at}
use Rattle.std.specs.Prelude.{Bool, true, false, List, ◌≡◌, ℕ, ◌<◌, length, Err}
use Rattle.units.specs.declared.Bytes.{Bytes}
use Rattle.tree.specs.declared.Tree.{Tree}
use Rattle.state.specs.declared.Link.{Link}
use Rattle.state.specs.declared.Totals.{Totals}
use Rattle.state.specs.declared.Waiting.{Waiting}
use Rattle.state.specs.Queue.{no_packet}
use Rattle.state.specs.State.{meaning}
use Rattle.sound.specs.Sound.{SoundLink}
use Rattle.rules.specs.Active.{some_waits, round_active}
use Rattle.rules.specs.Sending.{next_leaf, trace_of}
use Rattle.rules.specs.Steps.{OnTheWay}
use Rattle.rules.specs.After.{Sent, sent_by}
use Rattle.calls.specs.declared.Departure.{Departure}
use Rattle.calls.specs.Send.{goes, refused_send}
pub use Rattle.active.specs.Known.{Raised, Kept}
use Rattle.steps.specs.declared.leaf.Gone.{Gone}
use Rattle.steps.specs.declared.reopening.Found.{Found}
use Rattle.steps.specs.declared.Stand.{Stand}
use Rattle.steps.specs.declared.Went.{Went}
use Rattle.steps.specs.Fields.{lent_link}

-- a sound link whose accounts are as many as the class numbers
pub record InFields (l : Link) : Type 0 where
  pub sound : SoundLink l
  pub wide : length l.round.accounts ≡ 64

-- one in which a packet waits
pub record Going (t : Tree) (size : Bytes) (active place : ℕ)
    (balance residual start held lengths tags marks : List ℕ) (totals : Totals) : Type 0 where
  pub fields : InFields (lent_link t size active place balance residual start held lengths tags marks totals)
  pub some : some_waits (meaning (lent_link t size active place balance residual start held lengths tags marks totals)) ≡ true

-- what an opening does not see of its link
pub record Unseen : Type 0 where
  pub active : ℕ
  pub place : ℕ
  pub held : List ℕ
  pub tags : List ℕ
  pub marks : List ℕ
  pub totals : Totals

-- the link whose round has closed, and the one in which a round has opened
abbrev pub closed_link : Tree → Bytes → Unseen → List ℕ → List ℕ → List ℕ → List ℕ → Link
closed_link t size k balance residual start lengths =
    lent_link t size k.active k.place balance residual start k.held lengths k.tags k.marks k.totals

abbrev pub open_link : Tree → Bytes → Unseen → ℕ → List ℕ → List ℕ → List ℕ → List ℕ → Link
open_link t size k active balance residual start lengths =
    lent_link t size active 1 balance residual start k.held lengths k.tags k.marks k.totals

-- its round has closed, and a packet waits
pub record Closed (t : Tree) (size : Bytes) (k : Unseen) (balance residual start lengths : List ℕ) : Type 0 where
  pub going : Going t size k.active k.place balance residual start k.held lengths k.tags k.marks k.totals
  pub closed : next_leaf (meaning (closed_link t size k balance residual start lengths)) ≡ 64

-- and these are active in the next
pub record Opens (t : Tree) (size : Bytes) (k : Unseen) (active : ℕ) (balance residual start lengths : List ℕ) : Type 0 where
  pub shut : Closed t size k balance residual start lengths
  pub taken : active ≡ round_active (meaning (closed_link t size k balance residual start lengths))

-- what is found on a link in which a packet waits: the leaf that sends, on the way to its turn; `turn` is the link after the rounds opened,
-- with any size in force, any active set and any place
pub record Finds (l : Link) (r : Found) (turn : Bytes → ℕ → ℕ → Link) : Type 0 where
  pub here : r.class < 64
  pub place : ℕ
  pub way : OnTheWay l r.class (turn r.size r.active place) r.rounds

-- a packet has gone, or none waits
abbrev pub went_by : Found → Gone → Went
went_by next gone = record {
  some = true;
  class = next.class;
  packet = gone.packet;
  rounds = next.rounds;
  stand = record {
    known = next.known;
    size = next.size;
    active = gone.active;
    place = next.class;
    charged = gone.charged;
  };
}

abbrev pub nothing_goes : Stand → Went
nothing_goes stand = record { some = false; class = 0; packet = no_packet; rounds = 0; stand = stand }

-- what a send on a sound link gives, where a packet waits and where none does
abbrev pub sent_where : Bool → Link → Sent
sent_where true l = sent_by l (trace_of (meaning l))
sent_where false l = record { class = 0; packet = no_packet; rounds = 0; link = l }

pub record Departs (l : Link) (r : Went) (after : Link) : Type 0 where
  pub some : r.some ≡ some_waits (meaning l)
  pub sent : record { class = r.class; packet = r.packet; rounds = r.rounds; link = after } ≡ sent_where r.some l

-- what the call answers, of what the step gives
abbrev pub answer_of : Bool → ℕ → Waiting → ℕ → ℕ → Departure
answer_of true class p rounds total = goes class p rounds total
answer_of false class p rounds total = refused_send (Err (refusal_at NothingWaits 0))

abbrev pub went_answers : Went → Departure
went_answers w = answer_of w.some w.class w.packet w.rounds w.stand.charged
