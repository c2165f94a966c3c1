-- Laws of the loop over a lent record: a turn is that of the event at its place, and turn after turn the part is underway in its buffer
-- (`Laying`, parts/proofs/Parts). Demands 1 and 2: R203, R204.
use mathlib.Core.Bool.{Bool, true, false}
use mathlib.Core.List.{List}
use mathlib.Core.Path.{◌≡◌, refl, sym, ap, subst, ◌∙◌}
use Prim.Native.Nat.{ℕ, ◌+◌, ◌≤◌, ◌<◌}
use native.Mathlib.Omega.{arith}
use borrow.Author.Tests.{leb-true}
use lib.Dec.{leb}
use lib.ListN.{length, drop}
use Rattle.plan.specs.declared.event.Event.{Event}
use Rattle.std.specs.Prelude.{Option, Ok, Err, Some, None}
use Rattle.std.proofs.lemmas.Option.{none-some}
use Rattle.plan.specs.Event.{used_of, event_at, EventRead}
use Rattle.state.specs.declared.Link.{Link}
use Rattle.lines.specs.declared.Line.{Line}
use Rattle.lines.specs.Line.{line_room}
use Rattle.run.specs.declared.Step.{Step}
use Rattle.run.specs.Event.{last_step, Gives, GoesOn}
use Rattle.run.proofs.Lines.{steps_left, steps_less, next_on}
use Rattle.parts.specs.declared.PartRun.{PartRun}
use Rattle.parts.specs.Steps.{LaysLine, Taken}
use Rattle.parts.proofs.Parts.{Laying, laying_starts, laying_on, laying_ends}
use Rattle.lent_parts.specs.declared.Turn.{Turn}
use Rattle.lent_parts.specs.Turns.{call_at, turn_at, Called, Follows, ends_with, Ends}

-- a call was made, and the run goes on from a place
abbrev pub gone_on : Line → Link → ℕ → Step
gone_on line l place = record { line = line; more = true; link = l; place = place }

-- ---- a turn, by its event

-- a call is made where there is room for its line, and it is the event's
call_is : (fits : Bool) (e : EventRead) (x : Event) → call_at fits e ≡ Some x → (fits ≡ true) × (e ≡ Ok (Some x))
call_is true (Ok e) x is = (refl, ap (λ (y : Option Event). Ok y) is)
call_is false (Ok e) x is = absurd (none-some x is)
call_is fits (Err _) x is = absurd (none-some x is)

-- where there is room and no call is made, the run ends with the event
end_gives : (l : Link) (place : ℕ) (e : EventRead) → call_at true e ≡ None → Gives l place e (last_step e l place)
end_gives l place (Ok None) off = refl
end_gives l place (Ok (Some x)) off = absurd (none-some x (sym off))
end_gives l place (Err _) off = refl

-- ---- a turn is that of the event at its place

module _ (input : List ℕ) (room : ℕ) where
  pub turn_stands : (t : Turn) (laid place : ℕ) → t ≡ turn_at input room laid place → (t.laid ≡ laid) × (t.place ≡ place)
  unfolding turn_at
  turn_stands t laid place is = (ap (λ (x : Turn). x.laid) is, ap (λ (x : Turn). x.place) is)

  module _ (t : Turn) (is : t ≡ turn_at input room t.laid t.place) where
    -- the event that was read at the turn's place, and its call
    call_there : (x : Event) → t.call ≡ Some x
        → (leb (t.laid + line_room) room ≡ true) × (event_at (drop t.place input) t.place ≡ Ok (Some x))
    unfolding turn_at
    call_there x on = call_is _ (event_at (drop t.place input) t.place) x (sym (ap (λ (y : Turn). y.call) is) ∙ on)

    call_read : (x : Event) → t.call ≡ Some x → t.read ≡ Ok (Some x)
    unfolding turn_at
    call_read x on = ap (λ (y : Turn). y.read) is ∙ (call_there x on).1

    turn_goes : (l m : Link) (line : Line) (x : Event) → t.read ≡ Ok (Some x) → Called l x line m
        → GoesOn l input t.place (gone_on line m t.after)
    unfolding turn_at
    turn_goes l m line x read called =
        let there : event_at (drop t.place input) t.place ≡ Ok (Some x) = sym (ap (λ (y : Turn). y.read) is) ∙ read in
        let after : t.after ≡ t.place + used_of (Ok (Some x)) =
        ap (λ (y : Turn). y.after) is ∙ ap (λ (e : EventRead). t.place + used_of e) there in
        subst (λ (n : ℕ). GoesOn l input t.place (gone_on line m n)) (sym after)
        (subst (λ (e : EventRead). Gives l t.place e (gone_on line m (t.place + used_of (Ok (Some x))))) (sym there) (called t.place))

    turn_ends : (l : Link) → t.call ≡ None → leb (t.laid + line_room) room ≡ true
        → GoesOn l input t.place (last_step t.read l t.place)
    unfolding turn_at
    turn_ends l off fits =
        let none : call_at true (event_at (drop t.place input) t.place) ≡ None =
        ap (λ (b : Bool). call_at b (event_at (drop t.place input) t.place)) (sym fits) ∙ sym (ap (λ (y : Turn). y.call) is) ∙ off in
        subst (λ (e : EventRead). GoesOn l input t.place (last_step e l t.place)) (sym (ap (λ (y : Turn). y.read) is))
        (end_gives l t.place (event_at (drop t.place input) t.place) none)

-- the next turn, where its line is laid to a place
pub follows : (line : Line) (t : Turn) (input before : List ℕ) (r : Turn) (after : List ℕ) (n : ℕ) → LaysLine t.laid line before n after
    → r ≡ turn_at input (length before) n t.after → Follows line t input before r after
follows line t input before r after n lays is =
    let at : r.laid ≡ n = (turn_stands input (length before) r n t.after is).0 in
    record {
      lays = subst (λ (k : ℕ). LaysLine t.laid line before k after) (sym at) lays;
      next = subst (λ (k : ℕ). r ≡ turn_at input (length before) k t.after) (sym at) is;
    }

-- ---- turn after turn

-- a loop that has come to a link, a turn and a buffer: the part is underway there, and the turn is that of the next event
pub record Serving (first : Link) (input : List ℕ) (place : ℕ) (before : List ℕ) (l : Link) (t : Turn) (now : List ℕ) : Type 0 where
  pub laying : Laying first input place before (ends_with t l t.laid true) now
  pub comes : t ≡ turn_at input (length before) t.laid t.place

module _ (first : Link) (input : List ℕ) (place : ℕ) (before : List ℕ) where
  pub serving_starts : (t : Turn) → t.place ≡ place → t ≡ turn_at input (length before) 0 t.place
      → Serving first input place before first t before
  serving_starts t at is =
      let none : t.laid ≡ 0 = (turn_stands input (length before) t 0 t.place is).0 in
      record {
        laying = subst (λ (n : ℕ). Laying first input place before (ends_with t first n true) before) (sym none)
            (subst (λ (p : ℕ). Laying first input place before (record { laid = 0; more = true; link = first; place = p }) before) (sym at)
            (laying_starts first input place before));
        comes = subst (λ (n : ℕ). t ≡ turn_at input (length before) n t.place) (sym none) is;
      }

  module _ (l : Link) (t : Turn) (now : List ℕ) (s : Serving first input place before l t now) where
    -- there is room for the line of a call
    pub serving_room : (x : Event) → t.call ≡ Some x → t.laid + line_room ≤ length now
    serving_room x on =
        let fits = leb-true (t.laid + line_room) (length before) (call_there input (length before) t s.comes x on).0 in
        omega (arith, fits, s.laying.long)

    pub serving_within : t.laid ≤ length now
    serving_within = omega (arith, s.laying.within, s.laying.long)

    -- an event that was read, whether there is room for its line or not
    pub event_goes : (m : Link) (line : Line) (x : Event) → t.read ≡ Ok (Some x) → Called l x line m
        → GoesOn l input t.place (gone_on line m t.after)
    event_goes m line x = turn_goes input (length before) t s.comes l m line x

    -- a call
    pub call_goes : (m : Link) (line : Line) (x : Event) → t.call ≡ Some x → Called l x line m
        → GoesOn l input t.place (gone_on line m t.after)
    call_goes m line x on = event_goes m line x (call_read input (length before) t s.comes x on)

    -- its line is laid, and the next event is read
    module _ (m : Link) (line : Line) (r : Turn) (next : List ℕ) (x : Event) (on : t.call ≡ Some x)
        (goes : GoesOn l input t.place (gone_on line m t.after)) (f : Follows line t input now r next) where
      moved : r.place ≡ t.after
      moved = (turn_stands input (length now) r r.laid t.after f.next).1

      pub serving_on : Serving first input place before m r next
      serving_on =
          let room = serving_room x on in
          let tested : leb (t.laid + line_room) (length now) ≡ true =
          subst (λ (n : ℕ). leb (t.laid + line_room) n ≡ true) (sym s.laying.long)
          (call_there input (length before) t s.comes x on).0 in
          record {
            laying = subst (λ (p : ℕ). Laying first input place before (record { laid = r.laid; more = true; link = m; place = p }) next)
                (sym moved)
                (laying_on first input place before (ends_with t l t.laid true) now (gone_on line m t.after) r.laid next s.laying
                goes tested f.lays.0 (omega (arith, room, f.lays.1, s.laying.long)));
            comes = subst (λ (p : ℕ). r ≡ turn_at input (length before) r.laid p) (sym moved)
                (subst (λ (n : ℕ). r ≡ turn_at input n r.laid t.after) s.laying.long f.next);
          }

      -- and less is left to read
      pub serving_less : steps_left input true r.place < steps_left input true t.place
      serving_less = subst (λ (p : ℕ). steps_left input true p < steps_left input true t.place) (sym moved)
          (steps_less input true t.after true t.place refl (next_on l input t.place (gone_on line m t.after) goes))

    -- where no call is made, what the end answers is the part
    pub serving_ends : (r : PartRun) (after : List ℕ) → t.call ≡ None → Ends t l now r after → Taken first input place before r after
    serving_ends r after off e = go (leb (t.laid + line_room) (length now)) refl
      where
        go : (b : Bool) → leb (t.laid + line_room) (length now) ≡ b → Taken first input place before r after
        go false full =
            subst (λ (xs : List ℕ). Taken first input place before r xs) (sym (e.full full).1)
            (subst (λ (x : PartRun). Taken first input place before x now) (sym (e.full full).0)
            (laying_ends first input place before (ends_with t l t.laid true) now s.laying full))
        go true room =
            let fits = leb-true (t.laid + line_room) (length now) room in
            let lays = (e.last room).1 in
            let goes = turn_ends input (length before) t s.comes l off
            (subst (λ (n : ℕ). leb (t.laid + line_room) n ≡ true) s.laying.long room) in
            subst (λ (x : PartRun). Taken first input place before x after) (sym (e.last room).0)
            (laying_ends first input place before (ends_with t l r.laid false) after
            (laying_on first input place before (ends_with t l t.laid true) now (last_step t.read l t.place) r.laid after
            s.laying goes room lays.0 (omega (arith, fits, lays.1, s.laying.long))) refl)
