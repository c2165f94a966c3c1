-- An exported burst is a run of the library (R349): so all that is said of every run, the bounded wait among it, holds of its calls.
-- Demands 1 to 3.
use mathlib.Core.Bool.{Bool, true, false}
use mathlib.Core.List.{List, [], ◌++◌}
use mathlib.Core.Path.{◌≡◌, refl, sym, ap, subst, ◌∙◌}
use Prim.Native.Nat.{ℕ, zero, suc, ◌/◌}
use lib.ListN.{length, get_or, drop}
use Rattle.plan.specs.declared.event.Event.TheVariants.{Arrive, SendNext}
use Rattle.std.specs.Prelude.{Ok, Err, Some, None}
use Rattle.plan.specs.Event.{event_at, EventRead}
use Rattle.state.specs.declared.Link.{Link}
use Rattle.calls.specs.Run.{Made, last_link, Run}
use Rattle.calls.proofs.Runs.{rules_run}
use Rattle.answers.specs.declared.BurstEnd.{BurstEnd}
use Rattle.answers.specs.Reply.{rows_of}
use Rattle.answers.specs.Burst.{CallsMade, made_by, calls_from, burst_of}
use Rattle.answers.proofs.Bursts.{calls_of_run}
use Rattle.bursts.specs.Bursting.{CallBursts}

-- ---- a burst

run_none : (l : Link) → Run l []
unfolding Run
run_none l = tt

last_none : (l : Link) → last_link l [] ≡ l
unfolding last_link
last_none l = refl

-- the link after its calls is the one that the last of them left
calls_left_lem : (n : ℕ) (l : Link) (input : List ℕ) (place : ℕ)
    → last_link l (calls_from n l input place).made ≡ (calls_from n l input place).link
unfolding calls_from last_link
calls_left_lem zero l input place = refl
calls_left_lem (suc n) l input place = go (event_at (drop place input) place) (λ x to. calls_left_lem n x input to)
  where
    go : (e : EventRead) → ((x : Link) (to : ℕ) → last_link x (calls_from n x input to).made ≡ (calls_from n x input to).link)
        → last_link l (made_by e l place (λ x to. calls_from n x input to)).made ≡ (made_by e l place (λ x to. calls_from n x input to)).link
    go (Ok None) rest = refl
    go (Ok (Some (Arrive a))) rest = rest _ _
    go (Ok (Some SendNext)) rest = rest _ _
    go (Err _) rest = refl

-- an exported burst is a run of the library too: its calls, their numbers laid in the buffer, how many they are, and the link that the last
-- of them left (R349)
pub record BurstRead (l : Link) (before said out : List ℕ) (after : Link) : Type 0 where
  pub made : List Made
  pub run : Run l made
  pub numbers : out ≡ rows_of made ++ drop (length (rows_of made)) before
  pub many : get_or said 2 0 ≡ length made
  pub left : last_link l made ≡ after

pub box_burst : (l : Link) (input before : List ℕ) (number : ℕ) (said out : List ℕ) (after : Link)
    → CallBursts l input before number said out after → BurstRead l before said out after
box_burst l input before number said out after is = record {
  made = (calls is.rules.sound).made;
  run = runs is.rules.sound refl;
  numbers = is.rules.rows;
  many = ap (λ (xs : List ℕ). get_or xs 2 0) is.numbers ∙ ap (λ (r : BurstEnd). r.replies) is.rules.answer;
  left = lefts is.rules.sound ∙ sym is.rules.link;
}
  where
    calls : Bool → CallsMade
    calls sound = burst_of sound l input 0 before

    runs : (sound : Bool) → is.rules.sound ≡ sound → Run l (calls sound).made
    runs true e =
        subst (Run l) (sym (calls_of_run (length before / 8) 0 l input 0))
        (rules_run _ l is.rules.shape (is.rules.exactly.sound e))
    runs false e = run_none l

    lefts : (sound : Bool) → last_link l (calls sound).made ≡ (calls sound).link
    lefts true = calls_left_lem (length before / 8) l input 0
    lefts false = last_none l
