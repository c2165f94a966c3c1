-- What the inner steps of a check in place say; no rule of its own.
use Rattle.std.specs.Prelude.{Bool, true, false, cond, ◌≡◌, List, ℕ, ◌+◌, Some, None}
use Rattle.plan.specs.declared.Arrived.{Arrived}
use Rattle.plan.specs.Entry.{claim_uses, EntryRead, Claim}
use Rattle.state.specs.declared.Link.{Link}
use Rattle.state.specs.Queue.{Shaped}
use Rattle.sound.specs.Sound.{SoundLink}
use Rattle.steps.specs.declared.Stand.{Stand}
use Rattle.steps.specs.declared.Went.{Went}
use Rattle.claims.specs.declared.Judged.{Judged}
use Rattle.claims.specs.declared.Judged.TheVariants.{Good, FalseAt}
use Rattle.claims.specs.declared.Checked.{Checked}
use Rattle.claims.specs.declared.in_place.Did.{Did}
use Rattle.claims.specs.Recording.{entry_gives, part_of, way_from}

-- the packet that a send in place sent, and the claim that it makes true
abbrev pub packet_of : Went → Arrived
packet_of w = record { class = w.class; length = w.packet.length; tag = w.packet.tag }

abbrev pub claim_of : Went → Claim
claim_of w = cond w.some (Some (packet_of w)) None

-- an entry beside the arrays: the check goes on, or it has been decided
abbrev pub did_go_on : ℕ → ℕ → Stand → Did
did_go_on place claims stand = record { judged = Good claims; more = true; place = place; claims = claims; stand = stand }

abbrev pub did_decide : Judged → ℕ → ℕ → Stand → Did
did_decide j place claims stand = record { judged = j; more = false; place = place; claims = claims; stand = stand }

-- a claim compared with what has gone
abbrev pub claim_did : Bool → Claim → Went → ℕ → ℕ → Did
claim_did same c w place claims = record {
  judged = cond same (Good (claims + 1)) (FalseAt (place + 1));
  more = same;
  place = cond same (place + (1 + claim_uses c)) place;
  claims = cond same (claims + 1) claims;
  stand = w.stand;
}

-- with the link whose fields are lent it is what a check gives
abbrev pub checked_by : Did → Link → Checked
checked_by r after = record { judged = r.judged; more = r.more; link = after; place = r.place; claims = r.claims }

-- a sound link whose lists are as long as its arrays
pub record Enterable (l : Link) : Type 0 where
  pub sound : SoundLink l
  pub shape : Shaped l

-- an entry on a sound link: what it gives, and the link after it is sound, its lists as long as its arrays
pub record Enters (l : Link) (place claims : ℕ) (e : EntryRead) (r : Did) (after : Link) : Type 0 where
  pub gives : checked_by r after ≡ entry_gives l place claims e
  pub on : Enterable after

-- a part on a sound link
pub record PartDone (last : Bool) (l : Link) (place claims : ℕ) (part : List ℕ) (r : Checked) : Type 0 where
  pub gives : r ≡ (part_of last (way_from l place claims part)).at
  pub sound : SoundLink r.link
