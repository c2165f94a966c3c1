-- Laws of a run by parts: a part goes on event by event, moves on through the input (R206), has one answer, and all parts put together are
-- the run's lines (R205). Demands 1 and 2.
use mathlib.Core.Bool.{Bool, true, false, ◌&&◌, cond}
use mathlib.Core.List.{List, [], ◌∷◌, ◌++◌, append_assoc, append-nil}
use mathlib.Core.Path.{◌≡◌, refl, sym, ap, ap₂, subst, ◌∙◌}
use Prim.Native.Nat.{ℕ, zero, suc, ◌+◌, ◌≤◌, ◌<◌}
use native.Mathlib.Omega.{arith}
use native.Mathlib.Nat.{zero-add}
use borrow.Author.Tests.{le-leb}
use lib.Dec.{leb}
use lib.ListN.{length, take, drop}
use lib.Seq.{take-append_seam}
use Rattle.checks.specs.Check.{Exactly}
use Rattle.checks.proofs.Laws.{exactly_unique}
use Rattle.tree.proofs.Classes.{both_true}
use Rattle.state.specs.declared.Link.{Link}
use Rattle.sound.specs.Sound.{SoundLink}
use Rattle.lines.specs.declared.Line.{Line}
use Rattle.lines.specs.Line.{bytes_of, line_room}
use Rattle.digits.specs.Laid.{LaidAt}
use Rattle.digits.proofs.Laying.{over_none, over_start, laid_then, laid_length}
use Rattle.parts.specs.declared.PartRun.{PartRun}
use Rattle.run.specs.declared.Step.{Step}
use Rattle.run.specs.Event.{step_of, GoesOn}
use Rattle.run.specs.Run.{begin_of, lines_of, program_begins, program_lines}
use Rattle.parts.specs.Part.{Partway, onward, takes_one, takes, part_of, counted, Parts, RunOn, laid_by, printed}
use Rattle.parts.specs.Part.RunOn.{last, then}
use Rattle.parts.specs.Steps.{Taken}
use Rattle.run.proofs.Lines.{
  step_on,
  next_as,
  next_exactly,
  lines_from,
  following,
  lines_next,
  lines_begin,
  begin_sound,
  lines_first,
  first_sound,
}

-- a part that begins
abbrev pub starts : Link → ℕ → Partway
starts l place = record { text = []; more = true; link = l; place = place }

-- ---- event by event

module _ (sound : Bool) (input : List ℕ) (room : ℕ) where
  takes_suc : (n : ℕ) (p : Partway)
      → takes (suc n) sound input room p ≡ cond (takes_one room p) (takes n sound input room (onward sound input p)) p
  unfolding takes
  takes_suc n p = refl

  -- a part that takes no event more has ended
  takes_done : (n : ℕ) (p : Partway) → takes_one room p ≡ false → takes n sound input room p ≡ p
  unfolding takes
  takes_done zero p e = refl
  takes_done (suc n) p e = takes_suc n p ∙ rw e refl

  takes_one_lem : (n : ℕ) (p : Partway) → takes_one room p ≡ true
      → takes (suc n) sound input room p ≡ takes n sound input room (onward sound input p)
  takes_one_lem n p e = takes_suc n p ∙ rw e refl

  -- where the run goes on after an event, the place has moved on, and is within the input
  onward_on : (p : Partway) → (onward sound input p).more ≡ true
      → (p.place < (onward sound input p).place) × ((onward sound input p).place ≤ length input)
  onward_on p m = step_on p.link input p.place sound m

  -- what a part that has come so far still takes is all that the part takes; there are events enough left
  pub record Underway (l : Link) (place : ℕ) (p : Partway) : Type 0 where
    pub left : ℕ
    pub same : part_of sound l input place room ≡ takes left sound input room p
    pub enough : p.more ≡ true → (1 ≤ left) × (length input < p.place + left)

  pub part_first : (l : Link) (place : ℕ) → part_of sound l input place room ≡ takes (suc (length input)) sound input room (starts l place)
  unfolding part_of
  part_first l place = refl

  pub part_starts : (l : Link) (place : ℕ) → Underway l place (starts l place)
  part_starts l place = record { left = suc (length input); same = part_first l place; enough = λ _. (omega arith, omega arith) }

  pub part_on : (l : Link) (place : ℕ) (p : Partway) → takes_one room p ≡ true → Underway l place p → Underway l place (onward sound input p)
  part_on l place p e u = go u.left u.same (u.enough (both_true p.more _ e).0)
    where
      go : (n : ℕ) → part_of sound l input place room ≡ takes n sound input room p → (1 ≤ n) × (length input < p.place + n)
          → Underway l place (onward sound input p)
      go zero same enough = absurd (omega (arith, enough.0))
      go (suc n) same enough = record {
        left = n;
        same = same ∙ takes_one_lem n p e;
        enough = λ m. let w = onward_on p m in (omega (arith, w.0, w.1, enough.1), omega (arith, w.0, enough.1));
      }

  pub part_done : (l : Link) (place : ℕ) (p : Partway) → takes_one room p ≡ false → Underway l place p → part_of sound l input place room ≡ p
  part_done l place p e u = u.same ∙ takes_done u.left p e

  -- what holds of a part underway from one event to the next holds of the part
  pub takes_keep : (P : Partway → Type 0) → ((p : Partway) → takes_one room p ≡ true → P p → P (onward sound input p))
      → (n : ℕ) (p : Partway) → P p → P (takes n sound input room p)
  unfolding takes
  takes_keep P on zero p h = h
  takes_keep P on (suc n) p h = go (takes_one room p) refl (takes_keep P on n (onward sound input p))
    where
      go : (t : Bool) → takes_one room p ≡ t → (P (onward sound input p) → P (takes n sound input room (onward sound input p)))
          → P (takes (suc n) sound input room p)
      go true e rest = subst P (sym (takes_one_lem n p e)) (rest (on p e h))
      go false e rest = subst P (sym (takes_done (suc n) p e)) h

  -- a part takes at least one event where the buffer has room for one line: where the run goes on, the place has moved on, and is within
  -- the input
  pub part_moves : (l : Link) (place : ℕ) → line_room ≤ room → (part_of sound l input place room).more ≡ true
      → (place < (part_of sound l input place room).place) × ((part_of sound l input place room).place ≤ length input)
  part_moves l place fits m =
      let from = starts l place in
      let whole = part_first l place ∙ takes_one_lem (length input) from (le-leb line_room room fits) in
      rw whole (takes_keep (λ (p : Partway). p.more ≡ true → (place < p.place) × (p.place ≤ length input))
      (λ p e h m. let w = onward_on p m in let v = h (both_true p.more _ e).0 in (omega (arith, w.0, v.0), w.1))
      (length input) (onward sound input from) (onward_on from) (rw whole at m))

-- ---- all parts put together

-- one line more
pub text_more : (line : Line) (rest : List Line) → printed (line ∷ rest) ≡ bytes_of line ++ printed rest
unfolding printed
text_more line rest = refl

pub text_none : printed [] ≡ []
unfolding printed
text_none = refl

module _ (input : List ℕ) where
  -- what a part has laid, and what the run still prints
  in_all : Partway → List ℕ
  in_all p = p.text ++ printed (following p.link input p.place p.more)

  all_on : (p : Partway) → p.more ≡ true → in_all p ≡ in_all (onward true input p)
  unfolding in_all following
  all_on p m =
      let s = step_of true p.link input p.place in
      let rest = printed (following s.link input s.place s.more) in
      rw m (
      ap (λ (x : List Line). p.text ++ printed x) (lines_next p.link input p.place)
      ∙ ap (λ (x : List ℕ). p.text ++ x) (text_more s.line _)
      ∙ sym (append_assoc p.text (bytes_of s.line) rest))

  -- a part lays the first lines of the run from its place on, and the lines from where it ends are the others
  part_lines : (l : Link) (place room : ℕ) → printed (lines_from l input place) ≡ in_all (part_of true l input place room)
  unfolding in_all following
  part_lines l place room =
      subst Same (sym (part_first true input room l place))
      (takes_keep true input room Same (λ p e h. h ∙ all_on p (both_true p.more _ e).0) (suc (length input)) (starts l place) refl)
    where
      Same : Partway → Type 0
      Same p = printed (lines_from l input place) ≡ in_all p

  -- where the run ends with it, it lays them all
  part_last : (l : Link) (place room : ℕ) → (part_of true l input place room).more ≡ false
      → (part_of true l input place room).text ≡ printed (lines_from l input place)
  unfolding in_all following
  part_last l place room e =
      let p = part_of true l input place room in
      sym (part_lines l place room ∙ ap (λ (b : Bool). p.text ++ printed (following p.link input p.place b)) e
      ∙ ap (λ (x : List ℕ). p.text ++ x) text_none ∙ append-nil p.text)

  part_then : (l : Link) (place room : ℕ) → (part_of true l input place room).more ≡ true
      → (part_of true l input place room).text
      ++ printed (lines_from (part_of true l input place room).link input (part_of true l input place room).place)
      ≡ printed (lines_from l input place)
  unfolding in_all following
  part_then l place room e =
      let p = part_of true l input place room in
      sym (part_lines l place room ∙ ap (λ (b : Bool). p.text ++ printed (following p.link input p.place b)) e)

  -- on a sound link a part is that of a sound link, and the first bytes of its buffer are its text
  module _
      (l : Link) (place : ℕ) (before : List ℕ) (r : PartRun) (after : List ℕ) (sound : SoundLink l)
      (p : Parts l input place before r after) where
    pub part_is : r ≡ counted (part_of true l input place (length before))
    part_is = p.answer ∙ ap (λ (b : Bool). counted (part_of b l input place (length before))) (p.exactly.complete sound)

    pub part_text : take r.laid after ≡ (part_of true l input place (length before)).text
    part_text =
        let q = part_of p.sound l input place (length before) in
        ap₂ take (ap (λ (x : PartRun). x.laid) p.answer) p.lays ∙ take-append_seam q.text (drop (length q.text) before)
        ∙ ap (λ (b : Bool). (part_of b l input place (length before)).text) (p.exactly.complete sound)

  -- parts into any buffers, put together, are the lines of the run
  pub parts_lines : (l : Link) (place : ℕ) → SoundLink l → (run : RunOn input l place) → laid_by run ≡ printed (lines_from l input place)
  unfolding laid_by
  parts_lines _ _ sound (last l place before r after p e) =
      let is = part_is l place before r after sound p in
      part_text l place before r after sound p ∙ part_last l place (length before) (sym (ap (λ (x : PartRun). x.more) is) ∙ e)
  parts_lines _ _ sound (then l place before r after p e rest) =
      let is = part_is l place before r after sound p in
      ap₂ (λ (x y : List ℕ). x ++ y) (part_text l place before r after sound p)
      (parts_lines r.link r.place (p.keeps sound) rest ∙ ap (λ (x : PartRun). printed (lines_from x.link input x.place)) is)
      ∙ part_then l place (length before) (sym (ap (λ (x : PartRun). x.more) is) ∙ e)

-- a run of input of any length: the plan's line, and then the parts
pub run_lines : (input : List ℕ) → (begin_of input).more ≡ true → (run : RunOn input (begin_of input).link (begin_of input).place)
    → bytes_of (begin_of input).line ++ laid_by run ≡ printed (lines_of input)
unfolding following
run_lines input m run =
    let s = begin_of input in
    ap (λ (x : List ℕ). bytes_of s.line ++ x) (parts_lines input s.link s.place (begin_sound input m) run)
    ∙ sym (ap printed (lines_begin input) ∙ text_more s.line _
    ∙ ap (λ (b : Bool). bytes_of s.line ++ printed (following s.link input s.place b)) m)

-- a program's run: likewise
pub program_lines_lem : (input : List ℕ) → (program_begins input).more ≡ true →
    (run : RunOn input (program_begins input).link (program_begins input).place)
    → bytes_of (program_begins input).line ++ laid_by run ≡ printed (program_lines input)
unfolding following
program_lines_lem input m run =
    let s = program_begins input in
    ap (λ (x : List ℕ). bytes_of s.line ++ x) (parts_lines input s.link s.place (first_sound input m) run)
    ∙ sym (ap printed (lines_first input) ∙ text_more s.line _
    ∙ ap (λ (b : Bool). bytes_of s.line ++ printed (following s.link input s.place b)) m)

-- a loop over parts ends, if its buffer has room for one line
pub parts_on : (l : Link) (input : List ℕ) (place : ℕ) (before : List ℕ) (r : PartRun) (after : List ℕ)
    → Parts l input place before r after → line_room ≤ length before → r.more ≡ true
    → (place < r.place) × (r.place ≤ length input)
parts_on l input place before r after p fits m =
    let moves = part_moves p.sound input (length before) l place fits (sym (ap (λ (x : PartRun). x.more) p.answer) ∙ m) in
    subst (λ (x : PartRun). (place < x.place) × (x.place ≤ length input)) (sym p.answer) moves

-- ---- what a part allows: one outcome

pub part_one_answer : (l : Link) (input : List ℕ) (place : ℕ) (before : List ℕ) (r r' : PartRun) (after after' : List ℕ)
    → Parts l input place before r after → Parts l input place before r' after' → (r ≡ r') × (after ≡ after')
part_one_answer l input place before r r' after after' x y =
    let same = exactly_unique x.exactly y.exactly in
    let text : Bool → List ℕ = λ b. (part_of b l input place (length before)).text in (
      x.answer ∙ ap (λ (b : Bool). counted (part_of b l input place (length before))) same ∙ sym y.answer,
      x.lays ∙ ap (λ (b : Bool). text b ++ drop (length (text b)) before) same ∙ sym y.lays,
    )

-- ---- a part underway in its buffer

-- what a part has come to, by its answer so far and its text
abbrev way_of : List ℕ → PartRun → Partway
way_of text r = record { text = text; more = r.more; link = r.link; place = r.place }

-- the code's test for one event more
abbrev tested : PartRun → List ℕ → Bool
tested r now = r.more && leb (r.laid + line_room) (length now)

-- the text so far stands at the buffer's start; on a record of which it was decided whether it is sound, the part is underway, and the link
-- is as sound as it was
pub record Laying (l : Link) (input : List ℕ) (place : ℕ) (before : List ℕ) (r : PartRun) (now : List ℕ) : Type 0 where
  pub text : List ℕ
  pub laid : LaidAt 0 text before r.laid now
  pub long : length now ≡ length before
  pub within : r.laid ≤ length before
  pub underway : (sound : Bool) → Exactly sound (SoundLink l) → Underway sound input (length before) l place (way_of text r)
  pub kept : (sound : Bool) → Exactly sound (SoundLink l) → Exactly sound (SoundLink r.link)

module _ (l : Link) (input : List ℕ) (place : ℕ) (before : List ℕ) where
  pub laying_starts : Laying l input place before (record { laid = 0; more = true; link = l; place = place }) before
  laying_starts = record {
    text = [];
    laid = (refl, sym (over_none 0 before));
    long = refl;
    within = omega arith;
    underway = λ sound x. part_starts sound input (length before) l place;
    kept = λ sound x. x;
  }

  -- the code's test is the definition's
  test_same : (r : PartRun) (now : List ℕ) (y : Laying l input place before r now)
      → tested r now ≡ takes_one (length before) (way_of y.text r)
  test_same r now y = ap₂ (λ (k n : ℕ). r.more && leb (k + line_room) n) (y.laid.0 ∙ zero-add (length y.text)) y.long

  -- one event more, and its line laid
  pub laying_on : (r : PartRun) (now : List ℕ) (s : Step) (n : ℕ) (next : List ℕ) → Laying l input place before r now
      → GoesOn r.link input r.place s → tested r now ≡ true → LaidAt r.laid (bytes_of s.line) now n next → n ≤ length before
      → Laying l input place before (record { laid = n; more = s.more; link = s.link; place = s.place }) next
  laying_on r now s n next y g test line fits = record {
    text = y.text ++ bytes_of s.line;
    laid = laid_then 0 y.text (bytes_of s.line) before now next r.laid n (omega (arith, y.laid.0, y.within)) y.laid line;
    long = laid_length r.laid (bytes_of s.line) now next n (omega (arith, fits, y.long)) line ∙ y.long;
    within = fits;
    underway = λ sound x.
        let one : takes_one (length before) (way_of y.text r) ≡ true = sym (test_same r now y) ∙ test in
        let is : s ≡ step_of sound r.link input r.place = next_as r.link input r.place sound s (y.kept sound x) g in
        subst (λ (z : Step). Underway sound input (length before) l place
        (record { text = y.text ++ bytes_of z.line; more = z.more; link = z.link; place = z.place })) (sym is)
        (part_on sound input (length before) l place (way_of y.text r) one (y.underway sound x));
    kept = λ sound x. next_exactly r.link input r.place sound s (y.kept sound x) g;
  }

  -- where no event more is taken it is the part
  pub laying_ends : (r : PartRun) (now : List ℕ) → Laying l input place before r now → tested r now ≡ false
      → Taken l input place before r now
  laying_ends r now y test = record {
    within = omega (arith, y.within, y.long);
    decided = λ sound x.
        let count : r.laid ≡ length y.text = y.laid.0 ∙ zero-add (length y.text) in
        let none : takes_one (length before) (way_of y.text r) ≡ false = sym (test_same r now y) ∙ test in
        let is : part_of sound l input place (length before) ≡ way_of y.text r =
        part_done sound input (length before) l place (way_of y.text r) none (y.underway sound x) in
        record {
          sound = sound;
          exactly = x;
          answer = ap (λ (k : ℕ). record { laid = k; more = r.more; link = r.link; place = r.place }) count ∙ ap counted (sym is);
          lays = y.laid.1 ∙ over_start y.text before ∙ ap (λ (z : Partway). z.text ++ drop (length z.text) before) (sym is);
          keeps = λ h. (y.kept sound x).sound (x.complete h);
        };
  }
