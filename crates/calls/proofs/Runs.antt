-- Laws of runs: from a sound link the library makes the calls that the rules make, and every link on the way is sound; what one call
-- leaves. Demands 1 to 3.
use mathlib.Core.Bool.{Bool, true}
use mathlib.Core.List.{List, [], ◌∷◌, ◌++◌, map}
use mathlib.Core.Path.{◌≡◌, refl, sym, ap, ap₂, subst, ◌∙◌}
use Prim.Native.Nat.{ℕ, zero, suc, ◌<◌}
use native.Mathlib.Omega.{arith}
use lib.ListN.{length, take}
use Rattle.checks.specs.declared.Refusal.{Refusal}
use Rattle.std.specs.Prelude.{Ok, Err}
use Rattle.checks.specs.Check.{first_broken, Exactly, Verdict, refusal_at}
use Rattle.checks.proofs.Laws.{exactly_yes, exactly_unique}
use Rattle.state.specs.declared.Link.{Link}
use Rattle.state.specs.declared.Packet.{Packet}
use Rattle.state.specs.Queue.{Shaped, held_of}
use Rattle.state.specs.State.{meaning}
use Rattle.state.proofs.Meaning.{meaning_held}
use Rattle.sound.specs.Sound.{SoundLink}
use Rattle.rules.specs.Active.{some_waits}
use Rattle.rules.specs.Sending.{Turn, trace_of}
use Rattle.calls.specs.declared.AfterArrival.{AfterArrival}
use Rattle.calls.specs.declared.AfterSend.{AfterSend}
use Rattle.calls.specs.Arrival.{arrival_checks, arrived, arrival_of, Arrives}
use Rattle.calls.specs.Send.{send_checks, departs, send_gives, send_of, Sends}
use Rattle.calls.specs.Run.{Call, arrival, send, Made, made, call_of, link_left, makes, turns_by, turns_in}
use Rattle.calls.specs.Run.{Moment, closed, called, run_of, made_in, last_link, Meets, Run, moments_of}
use Rattle.calls.proofs.Arrivals.{taken, taken_number, arrival_taken, arrival_refused, arrival_means, arrival_shaped}
use Rattle.calls.proofs.Arrivals.{arrives_as, arrives_by}
use Rattle.calls.proofs.Departures.{send_goes, send_shaped, send_means, sends_as, sends_by_lem}

-- ---- one call

-- on a sound link a refused arrival leaves the very link, and an accepted one a link that means the state with the packet last
module _ (l : Link) (i : ℕ) (p : Packet) (a : AfterArrival) (sound : SoundLink l) (x : Arrives l i p a) where
  pub left_refused : {n : Refusal} {q : ℕ} → first_broken (arrival_checks true (meaning l) i p) ≡ Err (refusal_at n q) → a.link ≡ l
  left_refused e = ap (λ (r : AfterArrival). r.link) (arrives_as l i p a sound x ∙ arrival_refused true l i p e)

  pub left_taken : first_broken (arrival_checks true (meaning l) i p) ≡ Ok tt → meaning a.link ≡ arrived (meaning l) i p
  left_taken e =
      let u = taken_number (meaning l) i p sound.state e in
      let t = taken true (meaning l) i p e in
      let room : held_of l i < 32 = omega (arith, meaning_held l i u, t.room) in
      ap (λ (r : AfterArrival). meaning r.link) (arrives_as l i p a sound x ∙ arrival_taken true l i p e)
      ∙ arrival_means l i p x.shape sound t.leaf room

-- a send while a packet waits is its trace, and leaves a link that means the trace's state
module _ (l : Link) (d : AfterSend) (sound : SoundLink l) (x : Sends l d) (waits : some_waits (meaning l) ≡ true) where
  pub sent_is : d ≡ departs l (trace_of (meaning l))
  sent_is = sends_as l d sound x ∙ send_goes l waits

  pub sent_means : meaning d.link ≡ (trace_of (meaning l)).state
  sent_means = ap (λ (r : AfterSend). meaning r.link) (sends_as l d sound x) ∙ send_means l x.shape sound waits

-- whatever meets its contract is the call that the rules make, on a record that is sound or is not; a sound one stays sound
pub meets_by : (l : Link) (m : Made) (sound : Bool) → Exactly sound (SoundLink l) → Meets l m → m ≡ makes sound l (call_of m)
meets_by l (made (arrival i p) answer after) sound exactly x =
    ap (λ (r : AfterArrival). made (arrival i p) r.answer r.link)
    (x.answer ∙ ap (λ (b : Bool). arrival_of b l i p) (exactly_unique x.exactly exactly))
meets_by l (made send answer after) sound exactly x =
    ap (λ (r : AfterSend). made send r.answer r.link)
    (x.answer ∙ ap (λ (b : Bool). send_of b l) (exactly_unique x.exactly exactly))

pub meets_keeps : (l : Link) (m : Made) → SoundLink l → Meets l m → SoundLink (link_left m)
meets_keeps l (made (arrival i p) answer after) sound x = x.keeps sound
meets_keeps l (made send answer after) sound x = x.keeps sound

-- the rules' own call meets its contract, on a record that is sound or is not, and leaves a link whose lists are as long as they were
pub rules_meet : (l : Link) (call : Call) (sound : Bool) → Exactly sound (SoundLink l) → Shaped l → Meets l (makes sound l call)
rules_meet l (arrival i p) sound exactly shape = arrives_by l i p sound (arrival_of sound l i p) shape exactly refl
rules_meet l send sound exactly shape = sends_by_lem l sound (send_of sound l) shape exactly refl

rules_shaped : (l : Link) (call : Call) → Shaped l → SoundLink l → Shaped (link_left (makes true l call))
rules_shaped l (arrival i p) shape sound = arrival_shaped true l i p shape
rules_shaped l send shape sound = send_shaped l shape sound

-- as many rounds close in a send as it answers
pub rounds_closed : (sound : Bool) (l : Link) → length (turns_in l (makes sound l send)) ≡ (send_of sound l).answer.rounds
unfolding send_of
rounds_closed sound l = go (first_broken (send_checks sound (meaning l)))
  where
    go : (v : Verdict) → length (turns_by (send_gives v l).answer.verdict l) ≡ (send_gives v l).answer.rounds
    go (Ok _) = refl
    go (Err _) = refl

-- ---- a run

-- a round that closed is no call
made_past : (turns : List Turn) (moments : List Moment) → made_in (map closed turns ++ moments) ≡ made_in moments
unfolding made_in
made_past [] moments = refl
made_past (turn ∷ turns) moments = made_past turns moments

-- the calls of a run are its first call and those of the run from the link that it left
pub made_next : (sound : Bool) (l : Link) (call : Call) (calls : List Call)
    → made_in (run_of sound l (call ∷ calls)) ≡ makes sound l call ∷ made_in (run_of sound (link_left (makes sound l call)) calls)
unfolding run_of made_in
made_next sound l call calls =
    made_past (turns_in l (makes sound l call)) (called (makes sound l call) ∷ run_of sound (link_left (makes sound l call)) calls)

-- from a sound link any run of the library is the run by the rules, call for call
pub run_is : (ms : List Made) (l : Link) → SoundLink l → Run l ms → ms ≡ made_in (run_of true l (map call_of ms))
unfolding Run run_of made_in
run_is [] l sound run = refl
run_is (m ∷ ms) l sound run =
    let same = meets_by l m true (exactly_yes sound) run.0 in
    ap₂ (λ (x : Made) (xs : List Made). x ∷ xs) same
    (run_is ms (link_left m) (meets_keeps l m sound run.0) run.1
    ∙ ap (λ (x : Made). made_in (run_of true (link_left x) (map call_of ms))) same)
    ∙ sym (made_next true l (call_of m) (map call_of ms))

-- and moment for moment (R249)
pub moments_are : (ms : List Made) (l : Link) → SoundLink l → Run l ms → moments_of l ms ≡ run_of true l (map call_of ms)
unfolding Run moments_of run_of
moments_are [] l sound run = refl
moments_are (m ∷ ms) l sound run =
    let same = meets_by l m true (exactly_yes sound) run.0 in
    ap₂ (λ (x : Made) (later : List Moment). map closed (turns_in l x) ++ (called x ∷ later)) same
    (moments_are ms (link_left m) (meets_keeps l m sound run.0) run.1
    ∙ ap (λ (x : Made). run_of true (link_left x) (map call_of ms)) same)

-- and after any of its calls the link is sound
pub run_sound : (n : ℕ) (ms : List Made) (l : Link) → SoundLink l → Run l ms → SoundLink (last_link l (take n ms))
unfolding Run last_link
run_sound zero ms l sound run = sound
run_sound (suc n) [] l sound run = sound
run_sound (suc n) (m ∷ ms) l sound run = run_sound n ms (link_left m) (meets_keeps l m sound run.0) run.1

-- the rules' own run is one
pub rules_run : (calls : List Call) (l : Link) → Shaped l → SoundLink l → Run l (made_in (run_of true l calls))
unfolding Run run_of made_in
rules_run [] l shape sound = tt
rules_run (call ∷ calls) l shape sound =
    let m = makes true l call in
    let meets = rules_meet l call true (exactly_yes sound) shape in
    subst (Run l) (sym (made_next true l call calls))
    (meets, rules_run calls (link_left m) (rules_shaped l call shape sound) (meets_keeps l m sound meets))
