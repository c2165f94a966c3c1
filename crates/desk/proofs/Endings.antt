-- A run by parts ends with the step with which it ends event by event (R220).
use mathlib.Core.Bool.{Bool, true, false, cond}
use mathlib.Core.List.{List}
use mathlib.Core.Path.{◌≡◌, refl, sym, ap, ap₂, ◌∙◌}
use Prim.Native.Nat.{ℕ, zero, suc, ◌+◌, ◌≤◌, ◌<◌}
use native.Mathlib.Omega.{arith}
use lib.ListN.{length, drop}
use Rattle.plan.specs.declared.event.Event.TheVariants.{Arrive, SendNext}
use Rattle.std.specs.Prelude.{Ok, Err, Some, None}
use Rattle.checks.proofs.Laws.{not_true_and_false}
use Rattle.plan.specs.Event.{event_at, EventRead}
use Rattle.tree.proofs.Classes.{both_true}
use Rattle.state.specs.declared.Link.{Link}
use Rattle.sound.specs.Sound.{SoundLink}
use Rattle.run.specs.declared.Step.{Step}
use Rattle.run.specs.Event.{event_gives, step_of}
use Rattle.run.specs.Run.{program_begins}
use Rattle.run.proofs.Lines.{step_on, first_sound}
use Rattle.parts.specs.declared.PartRun.{PartRun}
use Rattle.parts.specs.Part.{Partway, part_of, counted, Parts}
use Rattle.parts.proofs.Parts.{starts, takes_keep}
use Rattle.desk.specs.Ending.{end_in, run_end}

module _ (input : List ℕ) where
  -- one event more
  end_suc : (n : ℕ) (l : Link) (place : ℕ) → end_in (suc n) l input place
      ≡ cond (step_of true l input place).more (end_in n (step_of true l input place).link input (step_of true l input place).place)
      (step_of true l input place)
  unfolding end_in
  end_suc n l place = refl

  -- enough events are enough
  end_enough : (n m : ℕ) (l : Link) (place : ℕ) → place ≤ length input → length input < place + n → length input < place + m
      → end_in n l input place ≡ end_in m l input place
  end_enough zero m l place on a b = absurd (omega arith)
  end_enough (suc n) zero l place on a b = absurd (omega arith)
  end_enough (suc n) (suc m) l place on a b =
      end_suc n l place
      ∙ go s.more refl (λ fits more. end_enough n m s.link s.place fits (omega (arith, more)) (omega (arith, more)))
      ∙ sym (end_suc m l place)
    where
      s : Step
      s = step_of true l input place

      go : (more : Bool) → s.more ≡ more
          → (s.place ≤ length input → place < s.place → end_in n s.link input s.place ≡ end_in m s.link input s.place)
          → cond more (end_in n s.link input s.place) s ≡ cond more (end_in m s.link input s.place) s
      go true e later = let w = step_on l input place true e in later w.1 w.0
      go false e later = refl

  -- the last step of a run that goes on, or has ended, with a link at a place
  pub end_from : Link → ℕ → Step
  end_from l place = end_in (suc (length input)) l input place

  pub ended : Bool → Link → ℕ → Step
  ended more l place = cond more (end_from l place) (step_of true l input place)

  pub end_from_lem : (l : Link) (place : ℕ) → end_from l place ≡ end_in (suc (length input)) l input place
  unfolding end_from
  end_from_lem l place = refl

  pub goes_on_lem : (l : Link) (place : ℕ) → ended true l place ≡ end_from l place
  unfolding ended
  goes_on_lem l place = refl

  pub has_ended : (more : Bool) (l : Link) (place : ℕ) → more ≡ false → ended more l place ≡ step_of true l input place
  unfolding ended
  has_ended more l place e = rw e refl

  -- an event that ends a run leaves it where it was
  last_there : (l : Link) (place : ℕ) (e : EventRead) → (event_gives true l place e).more ≡ false
      → ((event_gives true l place e).link ≡ l) × ((event_gives true l place e).place ≡ place)
  last_there l place (Ok None) m = (refl, refl)
  last_there l place (Ok (Some (Arrive a))) m = absurd (not_true_and_false refl m)
  last_there l place (Ok (Some SendNext)) m = absurd (not_true_and_false refl m)
  last_there l place (Err _) m = (refl, refl)

  -- one event more, and the run ends as it would have
  ends_on : (l : Link) (place : ℕ)
      → ended (step_of true l input place).more (step_of true l input place).link (step_of true l input place).place ≡ end_from l place
  unfolding end_from ended step_of
  ends_on l place = go s.more refl ∙ sym (end_suc (length input) l place)
    where
      s : Step
      s = step_of true l input place

      go : (more : Bool) → s.more ≡ more → ended more s.link s.place ≡ cond more (end_in (length input) s.link input s.place) s
      go true e =
          let w = step_on l input place true e in
          end_enough (suc (length input)) (length input) s.link s.place w.1 (omega (arith, w.0)) (omega (arith, w.0))
      go false e =
          let w = last_there l place (event_at (drop place input) place) e in
          ap₂ (λ (k : Link) (p : ℕ). step_of true k input p) w.0 w.1

  -- and so it does after a part
  part_ends : (l : Link) (place room : ℕ)
      → ended (part_of true l input place room).more (part_of true l input place room).link (part_of true l input place room).place
      ≡ end_from l place
  unfolding part_of ended
  part_ends l place room =
      takes_keep true input room (λ (p : Partway). ended p.more p.link p.place ≡ end_from l place)
      (λ p e h. ends_on p.link p.place ∙ sym (ap (λ (b : Bool). ended b p.link p.place) (both_true p.more _ e).0) ∙ h)
      (suc (length input)) (starts l place) refl

  pub parts_end : (l : Link) (place : ℕ) (before : List ℕ) (r : PartRun) (after : List ℕ) → SoundLink l
      → Parts l input place before r after → ended r.more r.link r.place ≡ end_from l place
  parts_end l place before r after sound p =
      let is = p.answer ∙ ap (λ (b : Bool). counted (part_of b l input place (length before))) (p.exactly.complete sound) in
      ap (λ (x : PartRun). ended x.more x.link x.place) is ∙ part_ends l place (length before)

  -- a program's run: its first step is the last, or it ends as it goes on from there, with a sound link
  module _ (s : Step) (first : s ≡ program_begins input) where
    pub ends_first : s.more ≡ false → s ≡ run_end input
    unfolding run_end
    ends_first e = first ∙ sym (rw (sym (ap (λ (z : Step). z.more) first) ∙ e) refl)

    pub ends_later : s.more ≡ true → end_in (suc (length input)) s.link input s.place ≡ run_end input
    unfolding run_end
    ends_later e =
        ap (λ (z : Step). end_in (suc (length input)) z.link input z.place) first
        ∙ sym (rw (sym (ap (λ (z : Step). z.more) first) ∙ e) refl)

    pub later_sound : s.more ≡ true → SoundLink s.link
    later_sound e = rw first (first_sound input (sym (ap (λ (z : Step). z.more) first) ∙ e))
