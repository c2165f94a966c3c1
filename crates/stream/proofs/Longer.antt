-- An event that stands whole at the front of some bytes is the same with more bytes after them, and so is an unknown kind; only where there
-- is no byte, or a record is cut, more bytes change what is read (R244). Demand 1.
use mathlib.Core.Bool.{Bool, true, false}
use mathlib.Core.List.{List, ◌++◌}
use mathlib.Core.Path.{◌≡◌, refl, sym, ap, ◌∙◌}
use Prim.Native.Nat.{ℕ, ◌≤◌}
use lib.ListN.{length}
use Rattle.plan.specs.declared.event.Event.TheVariants.{Arrive, SendNext}
use Rattle.std.specs.Prelude.{Ok, Err, Some, None}
use Rattle.checks.proofs.Laws.{not_true_and_false}
use Rattle.plan.specs.declared.kind.Section.TheVariants.{Events}
use Rattle.plan.specs.Kind.{gives_arrival}
use Rattle.plan.specs.Record.{kind_at, missing, unknown, cut}
use Rattle.plan.specs.Event.{arrived_of, event_of, event_at, EventRead}
use Rattle.plan.proofs.Records.{there_length}
use Rattle.plan.proofs.Longer.{same_kind, same_there, same_unknown, same_cut, same_body}
use Rattle.plan.proofs.EventLaws.{event_end, event_unknown, event_cut, event_whole, event_arrival, event_send}
use Rattle.stream.specs.Window.{waits_for_more, unfinished_at}

-- an arrival or a send
abbrev pub is_call : EventRead → Bool
is_call (Ok None) = false
is_call (Ok (Some (Arrive a))) = true
is_call (Ok (Some SendNext)) = true
is_call (Err _) = false

module _ (xs ys : List ℕ) where
  same_event : 1 ≤ length xs → cut xs ≡ false → event_of (xs ++ ys) ≡ event_of xs
  same_event h e = go (gives_arrival (kind_at xs)) refl
    where
      gives : (b : Bool) → gives_arrival (kind_at xs) ≡ b → gives_arrival (kind_at (xs ++ ys)) ≡ b
      gives b g = ap gives_arrival (same_kind xs ys h) ∙ g

      go : (b : Bool) → gives_arrival (kind_at xs) ≡ b → event_of (xs ++ ys) ≡ event_of xs
      go true g =
          event_arrival (xs ++ ys) (gives true g) ∙ ap (λ (body : List ℕ). Ok (Some (Arrive (arrived_of body)))) (same_body xs ys h e)
          ∙ sym (event_arrival xs g)
      go false g = event_send (xs ++ ys) (gives false g) ∙ sym (event_send xs g)

  -- a call stands whole
  pub call_longer : (p q : ℕ) → is_call (event_at xs p) ≡ true → event_at (xs ++ ys) q ≡ event_at xs p
  call_longer p q call = go (missing xs) refl (unknown Events xs) refl (cut xs) refl
    where
      none : {e : EventRead} → event_at xs p ≡ e → is_call e ≡ false → ⊥
      none same no_call = not_true_and_false call (ap is_call same ∙ no_call)

      go : (a : Bool) → missing xs ≡ a → (b : Bool) → unknown Events xs ≡ b → (d : Bool) → cut xs ≡ d → event_at (xs ++ ys) q ≡ event_at xs p
      go true m b u d k = absurd (none (event_end xs p m) refl)
      go false m true u d k = absurd (none (event_unknown xs p m u) refl)
      go false m false u true k = absurd (none (event_cut xs p m u k) refl)
      go false m false u false k =
          let h = there_length xs m in
          event_whole (xs ++ ys) q (same_there xs ys h) (same_unknown xs ys Events h ∙ u) (same_cut xs ys h k) ∙ same_event h k
          ∙ sym (event_whole xs p m u k)

  -- an event that is no call is the same, unless it waits for more
  pub last_longer : (p q : ℕ) → is_call (event_at xs p) ≡ false → unfinished_at xs ≡ false → event_at (xs ++ ys) q ≡ event_at xs q
  unfolding unfinished_at
  last_longer p q no_call done = go (missing xs) refl (unknown Events xs) refl (cut xs) refl
    where
      waits : {e : EventRead} → event_at xs 0 ≡ e → waits_for_more e ≡ true → ⊥
      waits same w = not_true_and_false (ap waits_for_more same ∙ w) done

      a_call : (b : Bool) → gives_arrival (kind_at xs) ≡ b → is_call (event_of xs) ≡ true
      a_call true g = ap is_call (event_arrival xs g)
      a_call false g = ap is_call (event_send xs g)

      go : (a : Bool) → missing xs ≡ a → (b : Bool) → unknown Events xs ≡ b → (d : Bool) → cut xs ≡ d → event_at (xs ++ ys) q ≡ event_at xs q
      go true m b u d k = absurd (waits (event_end xs 0 m) refl)
      go false m true u d k =
          let h = there_length xs m in
          event_unknown (xs ++ ys) q (same_there xs ys h) (same_unknown xs ys Events h ∙ u) ∙ sym (event_unknown xs q m u)
      go false m false u true k = absurd (waits (event_cut xs 0 m u k) refl)
      go false m false u false k =
          absurd (not_true_and_false (ap is_call (event_whole xs p m u k) ∙ a_call (gives_arrival (kind_at xs)) refl) no_call)
