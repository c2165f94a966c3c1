-- A burst (R340 to R343): the calls of some events, one after the other, on a link that lies in the caller's arrays; their answers are laid
-- as rows into a lent buffer. Whether the link is sound is decided once. Demands 1 and 2.
use Rattle.plan.specs.declared.event.Event.TheVariants.{Arrive, SendNext}
use Rattle.checks.specs.declared.Refusal.TheVariants.{NotSound}
use Rattle.std.specs.Prelude.{Bool, true, false, List, [], ◌∷◌, ◌++◌, ◌≡◌, ℕ, zero, suc, ◌+◌, ◌/◌, length, drop, get_or, Ok, Err, Some, None}
use Rattle.checks.specs.Check.{Exactly, Verdict, refusal_at}
use Rattle.plan.specs.Event.{used_of, event_at, EventRead}
use Rattle.shape.specs.Shape.{tree_in}
use Rattle.state.specs.declared.Link.{Link}
use Rattle.state.specs.Queue.{Shaped}
use Rattle.sound.specs.Sound.{SoundLink}
use Rattle.steps.specs.declared.Stand.{Stand}
use Rattle.steps.specs.Fields.{lent_link}
use Rattle.calls.specs.Run.{arrival, send, Made, link_left, makes}
use Rattle.run.specs.Event.{packet_in}
use Rattle.answers.specs.declared.BurstEnd.{BurstEnd}
use Rattle.answers.specs.Reply.{rows_of}

-- ---- the link that lies in the caller's arrays

-- four numbers say where it stands: the size in force, the active set, the place, the running total (R341)
abbrev pub stand_in : List ℕ → Stand
stand_in four = record {
  known = 0;
  size = record { 0 = get_or four 0 0 };
  active = get_or four 1 0;
  place = get_or four 2 0;
  charged = get_or four 3 0;
}

abbrev pub four_of : Stand → List ℕ
four_of s = s.size.0 ∷ s.active ∷ s.place ∷ s.charged ∷ []

-- the other arrays are its fields as they lie; its tree is that of a shape (R341); a call on it is a call of the library on this link
-- (R345)
abbrev pub link_in : List ℕ → List ℕ → List ℕ → List ℕ → List ℕ → List ℕ → List ℕ → List ℕ → List ℕ → List ℕ → List ℕ → Link
link_in shape stand balance residual start held lengths tags marks packets bytes =
    let s = stand_in stand in
    lent_link (tree_in shape) s.size s.active s.place balance residual start held lengths tags marks
    (record { packets = packets; bytes = bytes; charged = s.charged })

-- ---- calls one after the other

-- the calls that were made, the link that the last of them left, the place of the input after them, and what ended them
pub record CallsMade : Type 0 where
  pub made : List Made
  pub link : Link
  pub place : ℕ
  pub verdict : Verdict

-- none is made any more
abbrev pub none_made : Link → ℕ → Verdict → CallsMade
none_made l place verdict = record { made = []; link = l; place = place; verdict = verdict }

-- one call, and those after it
abbrev pub made_first : Made → CallsMade → CallsMade
made_first m rest = record { made = m ∷ rest.made; link = rest.link; place = rest.place; verdict = rest.verdict }

-- an event on a sound link: a call, and those after the bytes that it used; or the input ends, or its record is malformed (R340, R342)
abbrev pub made_by : EventRead → Link → ℕ → (Link → ℕ → CallsMade) → CallsMade
made_by (Ok None) l place later = none_made l place (Ok tt)
made_by (Ok (Some (Arrive a))) l place later =
    let m = makes true l (arrival a.class (packet_in a)) in
    made_first m (later (link_left m) (place + used_of (Ok (Some (Arrive a)))))
made_by (Ok (Some SendNext)) l place later = let m = makes true l send in made_first m (later (link_left m) (place + used_of (Ok (Some SendNext))))
made_by (Err e) l place later = none_made l place (Err e)

-- the calls of the events from a place on, so many at most (R340, R342)
unfoldable pub calls_from : ℕ → Link → List ℕ → ℕ → CallsMade
calls_from zero l input place = none_made l place (Ok tt)
calls_from (suc n) l input place = made_by (event_at (drop place input) place) l place (λ after next. calls_from n after input next)

-- ---- a burst

-- as many calls as the buffer has room for rows; 11 on a record that is not sound, and then none is made (R340, R343)
abbrev pub burst_of : Bool → Link → List ℕ → ℕ → List ℕ → CallsMade
burst_of true l input place before = calls_from (length before / 8) l input place
burst_of false l input place before = none_made l 0 (Err (refusal_at NotSound 0))

-- the answer counts the calls (R342)
abbrev pub end_of : CallsMade → BurstEnd
end_of c = record { verdict = c.verdict; place = c.place; replies = length c.made }

-- what a burst on any record gives: the answer, the buffer, which holds the rows and then what it held from there on before, and the link
-- (R340 to R343)
pub record Bursts (l : Link) (input : List ℕ) (place : ℕ) (before : List ℕ) (r : BurstEnd) (out : List ℕ) (after : Link) : Type 0 where
  pub shape : Shaped l
  pub sound : Bool
  pub exactly : Exactly sound (SoundLink l)
  pub answer : r ≡ end_of (burst_of sound l input place before)
  pub rows : let laid = rows_of (burst_of sound l input place before).made in out ≡ laid ++ drop (length laid) before
  pub link : after ≡ (burst_of sound l input place before).link
  pub keeps : SoundLink l → SoundLink after
