-- However its input is cut into windows, a run's lines are the windows' texts and the last line (R246, R247). Demands 1 and 2.
use mathlib.Core.Bool.{Bool, true, false, cond}
use mathlib.Core.List.{List, [], ◌++◌, append_assoc, append-nil}
use mathlib.Core.Path.{◌≡◌, refl, sym, ap, ap₂, subst, ◌∙◌}
use Prim.Native.Nat.{ℕ, suc, ◌+◌, ◌-◌, ◌≤◌}
use native.Mathlib.Omega.{arith}
use lib.ListN.{length, take, drop, length-append, length-drop}
use lib.Seq.{take_at, take-take, drop-append-le, drop-drop}
use Rattle.plan.specs.declared.event.Event.TheVariants.{Arrive, SendNext}
use Rattle.std.specs.Prelude.{Ok, Err, Some, None}
use Rattle.checks.proofs.Laws.{not_true_and_false}
use Rattle.tree.proofs.Classes.{both_true}
use Rattle.plan.specs.Event.{event_at, EventRead}
use Rattle.state.specs.declared.Link.{Link}
use Rattle.sound.specs.Sound.{SoundLink}
use Rattle.calls.specs.Run.{arrival, send, makes, link_left}
use Rattle.lines.specs.declared.Line.{Line}
use Rattle.lines.specs.Line.{bytes_of}
use Rattle.run.specs.declared.Step.{Step}
use Rattle.run.specs.Event.{packet_in, call_line, last_line, event_gives, step_of}
use Rattle.run.specs.Run.{begin_of, lines_of}
use Rattle.run.proofs.Events.{used_fits}
use Rattle.run.proofs.Lines.{lines_from, following, lines_next, lines_begin, begin_sound}
use Rattle.parts.specs.declared.PartRun.{PartRun}
use Rattle.parts.specs.Part.{Partway, onward, takes_one, part_of, counted, printed}
use Rattle.parts.proofs.Parts.{starts, takes_keep, part_first, part_is, part_text, text_more, text_none}
use Rattle.stream.specs.Window.{unended, InWindow, WindowOn, window_text, StreamOn, streamed_by}
use Rattle.stream.specs.Window.WindowOn.{last, then}
use Rattle.stream.specs.Window.StreamOn.{whole, ends, next}
use Rattle.stream.proofs.Ends.{window_inside}
use Rattle.stream.proofs.Longer.{is_call, call_longer, last_longer}
use Rattle.stream.proofs.Begins.{begin_window}

-- the lines from a place on, by the event that stands there
lines_by : (l : Link) (input : List ℕ) (place : ℕ) (e : EventRead) → event_at (drop place input) place ≡ e
    → let s = event_gives true l place e in
    printed (lines_from l input place) ≡ bytes_of s.line ++ printed (following s.link input s.place s.more)
unfolding step_of
lines_by l input place e same =
    let s : EventRead → Step = λ x. event_gives true l place x in
    ap printed (lines_next l input place)
    ∙ text_more (step_of true l input place).line _
    ∙ ap (λ (x : EventRead). bytes_of (s x).line ++ printed (following (s x).link input (s x).place (s x).more)) same

-- an event that is no call ends the run
lines_end : (l : Link) (input : List ℕ) (place : ℕ) (e : EventRead) → event_at (drop place input) place ≡ e → is_call e ≡ false
    → printed (lines_from l input place) ≡ bytes_of (last_line e l)
unfolding following
lines_end l input place (Ok None) same n =
    lines_by l input place (Ok None) same ∙ ap (λ (x : List ℕ). bytes_of (last_line (Ok None) l) ++ x) text_none
    ∙ append-nil (bytes_of (last_line (Ok None) l))
lines_end l input place (Ok (Some (Arrive a))) same n = absurd (not_true_and_false refl n)
lines_end l input place (Ok (Some SendNext)) same n = absurd (not_true_and_false refl n)
lines_end l input place (Err e) same n =
    lines_by l input place (Err e) same ∙ ap (λ (x : List ℕ). bytes_of (last_line (Err e) l) ++ x) text_none
    ∙ append-nil (bytes_of (last_line (Err e) l))

-- ---- one window: the input from its offset on is the window and what comes after it

module _ (input window rest : List ℕ) (offset : ℕ) (is : drop offset input ≡ window ++ rest) where
  rest_at : (k : ℕ) → k ≤ length window → drop (offset + k) input ≡ drop k window ++ rest
  rest_at k h = sym (drop-drop k offset input) ∙ ap (drop k) is ∙ drop-append-le k window rest h

  -- a call that stands whole in the window stands there in the input
  call_at : (place : ℕ) (e : EventRead) → place ≤ length window → event_at (drop place window) place ≡ e → is_call e ≡ true
      → event_at (drop (offset + place) input) (offset + place) ≡ e
  call_at place e h same call =
      ap (λ (s : List ℕ). event_at s (offset + place)) (rest_at place h)
      ∙ call_longer (drop place window) rest place (offset + place) (ap is_call same ∙ call)
      ∙ same

  module _ (l : Link) (place : ℕ) where
    abbrev all : List ℕ
    all = printed (lines_from l input (offset + place))

    -- how far a part in the window has come: what is laid of calls, and the lines of the input from there on are all lines
    record Along (p : Partway) : Type 0 where
      pub text : List ℕ
      pub more : p.more ≡ true → p.text ≡ text
      pub last : p.more ≡ false → p.text ≡ text ++ bytes_of (last_line (event_at (drop p.place window) p.place) p.link)
      pub call : p.more ≡ false → is_call (event_at (drop p.place window) p.place) ≡ false
      pub inside : p.place ≤ length window
      pub lines : all ≡ text ++ printed (lines_from p.link input (offset + p.place))

    along_starts : place ≤ length window → Along (starts l place)
    along_starts h = record {
      text = [];
      more = λ _. refl;
      last = λ f. absurd (not_true_and_false refl f);
      call = λ f. absurd (not_true_and_false refl f);
      inside = h;
      lines = refl;
    }

    along_on : (room : ℕ) (p : Partway) → takes_one room p ≡ true → Along p → Along (onward true window p)
    unfolding step_of following
    along_on room p takes a = go (event_at (drop p.place window) p.place) refl
      where
        on : p.more ≡ true
        on = (both_true p.more _ takes).0

        way : EventRead → Partway
        way e =
            let s = event_gives true p.link p.place e in
            record { text = p.text ++ bytes_of s.line; more = s.more; link = s.link; place = s.place }

        -- a call: its line is laid, and the lines go on after it
        called : (e : EventRead) (line : Line) (link : Link) (used : ℕ)
            → bytes_of line ++ printed (lines_from link input (offset + p.place + used))
            ≡ printed (lines_from p.link input (offset + p.place))
            → p.place + used ≤ length window
            → Along (record { text = p.text ++ bytes_of line; more = true; link = link; place = p.place + used })
        called e line link used after fits = record {
          text = p.text ++ bytes_of line;
          more = λ _. refl;
          last = λ f. absurd (not_true_and_false refl f);
          call = λ f. absurd (not_true_and_false refl f);
          inside = fits;
          lines =
              let same : offset + p.place + used ≡ offset + (p.place + used) = omega arith in
              a.lines
              ∙ ap₂ ◌++◌ (sym (a.more on)) (sym after)
              ∙ sym (append_assoc p.text (bytes_of line) _)
              ∙ ap (λ (k : ℕ). p.text ++ bytes_of line ++ printed (lines_from link input k)) same;
        }

        -- an event that is no call: its line is laid last, and the place stays
        ended : (e : EventRead) → event_at (drop p.place window) p.place ≡ e → is_call e ≡ false
            → Along (record { text = p.text ++ bytes_of (last_line e p.link); more = false; link = p.link; place = p.place })
        ended e same n = record {
          text = p.text;
          more = λ t. absurd (not_true_and_false t refl);
          last = λ f. ap (λ (x : EventRead). p.text ++ bytes_of (last_line x p.link)) (sym same);
          call = λ f. ap is_call same ∙ n;
          inside = a.inside;
          lines = a.lines ∙ ap (λ (x : List ℕ). x ++ printed (lines_from p.link input (offset + p.place))) (sym (a.more on));
        }

        go : (e : EventRead) → event_at (drop p.place window) p.place ≡ e → Along (way e)
        go (Ok None) same = ended (Ok None) same refl
        go (Ok (Some (Arrive x))) same =
            called (Ok (Some (Arrive x))) (call_line (makes true p.link (arrival x.class (packet_in x))))
            (link_left (makes true p.link (arrival x.class (packet_in x)))) 8
            (sym (lines_by p.link input (offset + p.place) (Ok (Some (Arrive x))) (call_at p.place (Ok (Some (Arrive x))) a.inside same refl)))
            (omega (arith, used_fits window p.place (Ok (Some (Arrive x))) same, length-drop p.place window, a.inside))
        go (Ok (Some SendNext)) same =
            called (Ok (Some SendNext)) (call_line (makes true p.link send)) (link_left (makes true p.link send)) 1
            (sym (lines_by p.link input (offset + p.place) (Ok (Some SendNext)) (call_at p.place (Ok (Some SendNext)) a.inside same refl)))
            (omega (arith, used_fits window p.place (Ok (Some SendNext)) same, length-drop p.place window, a.inside))
        go (Err e) same = ended (Err e) same refl

    part_along : (room : ℕ) → place ≤ length window → Along (part_of true l window place room)
    part_along room h =
        subst Along (sym (part_first true window room l place))
        (takes_keep true window room Along (along_on room) (suc (length window)) (starts l place) (along_starts h))

    -- what a part in the window lays is its text without the last line
    module _
        (before : List ℕ) (r : PartRun) (after : List ℕ) (w : InWindow l window place before r after) (sound : SoundLink l)
        (h : place ≤ length window) where
      abbrev way : Partway
      way = part_of true l window place (length before)

      along : Along way
      along = part_along (length before) h

      part_same : w.part ≡ counted way
      part_same = part_is window l place before w.part after sound w.parts

      lays : take w.part.laid after ≡ way.text
      lays = part_text window l place before w.part after sound w.parts

      same : r ≡ unended window (counted way)
      same = w.answer ∙ ap (unended window) part_same

      text_laid_last : List ℕ
      text_laid_last = bytes_of (last_line (event_at (drop way.place window) way.place) way.link)

      laid_by_lem : (b : Bool) → way.more ≡ b → r.laid ≡ cond b (length way.text) (length way.text - length text_laid_last)
      unfolding text_laid_last
      laid_by_lem b e =
          ap (λ (x : PartRun). x.laid) same
          ∙ ap (λ (c : Bool). cond c (length way.text) (length way.text - length text_laid_last)) e

      text_is : (b : Bool) → way.more ≡ b → take r.laid after ≡ along.text
      unfolding text_laid_last
      text_is true e =
          ap (λ (n : ℕ). take n after) (laid_by_lem true e ∙ sym (ap (λ (x : PartRun). x.laid) part_same)) ∙ lays ∙ along.more e
      text_is false e =
          let split : way.text ≡ along.text ++ text_laid_last = along.last e in
          let count : length along.text ≡ r.laid =
          omega (arith, laid_by_lem false e, ap length split, length-append along.text text_laid_last) in
          let less : r.laid ≤ w.part.laid = omega (arith, laid_by_lem false e, ap (λ (x : PartRun). x.laid) part_same) in
          sym (take-take r.laid w.part.laid after less)
          ∙ ap (take r.laid) (lays ∙ split)
          ∙ take_at along.text text_laid_last r.laid count

      window_sound : SoundLink r.link
      window_sound = subst SoundLink (ap (λ (x : PartRun). x.link) (sym w.answer)) (w.parts.keeps sound)

      -- and the lines of the input from there on are the others
      window_lines : all ≡ take r.laid after ++ printed (lines_from r.link input (offset + r.place))
      window_lines =
          along.lines
          ∙ ap₂ ◌++◌ (sym (text_is way.more refl))
          (ap (λ (x : PartRun). printed (lines_from x.link input (offset + x.place))) (sym same))

      -- where the window's run ends, no call stands
      window_ends : r.more ≡ false → is_call (event_at (drop r.place window) r.place) ≡ false
      window_ends e =
          ap (λ (x : PartRun). is_call (event_at (drop x.place window) x.place)) same
          ∙ along.call (sym (ap (λ (x : PartRun). x.more) same) ∙ e)

  -- what the parts of a window come to: what they wrote, and the lines of the input from where they end are all lines; no call stands
  -- there
  record Over (l : Link) (place : ℕ) (text : List ℕ) (l' : Link) (place' : ℕ) : Type 0 where
    pub lines : printed (lines_from l input (offset + place)) ≡ text ++ printed (lines_from l' input (offset + place'))
    pub sound : SoundLink l'
    pub inside : place' ≤ length window
    pub ends : is_call (event_at (drop place' window) place') ≡ false

  window_run : (l : Link) (place : ℕ) (l' : Link) (place' : ℕ) → SoundLink l → place ≤ length window
      → (run : WindowOn window l place l' place') → Over l place (window_text run) l' place'
  unfolding window_text
  window_run _ _ _ _ sound h (last l place before r after w e) = record {
    lines = window_lines l place before r after w sound h;
    sound = window_sound l place before r after w sound h;
    inside = window_inside l window place before r after w h;
    ends = window_ends l place before r after w sound h e;
  }
  window_run _ _ _ _ sound h (then l place before r after l' place' w e rest) =
      let later =
      window_run r.link r.place l' place' (window_sound l place before r after w sound h)
      (window_inside l window place before r after w h) rest
      in
      record {
        lines =
            window_lines l place before r after w sound h
            ∙ ap (λ (x : List ℕ). take r.laid after ++ x) later.lines
            ∙ sym (append_assoc (take r.laid after) (window_text rest) _);
        sound = later.sound;
        inside = later.inside;
        ends = later.ends;
      }

-- ---- all windows

-- what is read does not depend on the place that it is read for, but for a fault's
no_call_at : (xs : List ℕ) (p q : ℕ) → is_call (event_at xs p) ≡ false → is_call (event_at xs q) ≡ false
no_call_at xs p q n = go (is_call (event_at xs q)) refl
  where
    go : (b : Bool) → is_call (event_at xs q) ≡ b → b ≡ false
    go false e = refl
    go true e =
        absurd
        (not_true_and_false
        (ap (λ (s : List ℕ). is_call (event_at s p)) (sym (append-nil xs)) ∙ ap is_call (call_longer xs [] q p e) ∙ e)
        n)

-- windows of an input, one after the other, print the lines of the run from a place on
pub stream_lines : (input : List ℕ) (l : Link) (place : ℕ) → SoundLink l → (s : StreamOn input l place)
    → streamed_by s ≡ printed (lines_from l input place)
unfolding streamed_by
stream_lines input _ _ sound (whole offset window l place l' place' is h run) =
    let cut = is ∙ sym (append-nil window) in
    let over = window_run input window [] offset cut l place l' place' sound h run in
    let at = offset + place' in
    let same : event_at (drop at input) at ≡ event_at (drop place' window) at =
    ap (λ (s : List ℕ). event_at s at) (rest_at input window [] offset cut place' over.inside ∙ append-nil (drop place' window))
    in
    ap (λ (x : List ℕ). window_text run ++ x)
    (sym (lines_end l' input at (event_at (drop place' window) at) same (no_call_at (drop place' window) place' at over.ends)))
    ∙ sym over.lines
stream_lines input _ _ sound (ends offset window rest l place l' place' is h run done) =
    let over = window_run input window rest offset is l place l' place' sound h run in
    let at = offset + place' in
    let same : event_at (drop at input) at ≡ event_at (drop place' window) at =
    ap (λ (s : List ℕ). event_at s at) (rest_at input window rest offset is place' over.inside)
    ∙ last_longer (drop place' window) rest place' at over.ends done
    in
    ap (λ (x : List ℕ). window_text run ++ x)
    (sym (lines_end l' input at (event_at (drop place' window) at) same (no_call_at (drop place' window) place' at over.ends)))
    ∙ sym over.lines
stream_lines input _ _ sound (next offset window rest l place l' place' is h run later) =
    let over = window_run input window rest offset is l place l' place' sound h run in
    ap (λ (x : List ℕ). window_text run ++ x) (stream_lines input l' (offset + place') over.sound later) ∙ sym over.lines

-- a run of input of any length: the plan's line, and then the windows
pub stream_run : (input : List ℕ) → (begin_of input).more ≡ true → (s : StreamOn input (begin_of input).link (begin_of input).place)
    → bytes_of (begin_of input).line ++ streamed_by s ≡ printed (lines_of input)
unfolding following
stream_run input m s =
    let b = begin_of input in
    ap (λ (x : List ℕ). bytes_of b.line ++ x) (stream_lines input b.link b.place (begin_sound input m) s)
    ∙ sym (ap printed (lines_begin input) ∙ text_more b.line _
    ∙ ap (λ (c : Bool). bytes_of b.line ++ printed (following b.link input b.place c)) m)

-- the plan is read in a first window of 514 bytes or more: its line and the windows are the lines of the whole input
pub stream_window : (window rest : List ℕ) → 514 ≤ length window → (begin_of window).more ≡ true
    → (s : StreamOn (window ++ rest) (begin_of window).link (begin_of window).place)
    → bytes_of (begin_of window).line ++ streamed_by s ≡ printed (lines_of (window ++ rest))
stream_window window rest long =
    subst
    (λ (b : Step). b.more ≡ true → (s : StreamOn (window ++ rest) b.link b.place)
    → bytes_of b.line ++ streamed_by s ≡ printed (lines_of (window ++ rest)))
    (begin_window window rest long)
    (stream_run (window ++ rest))

-- and where it is refused there, that is the only line
pub refused_window : (window rest : List ℕ) → 514 ≤ length window → (begin_of window).more ≡ false
    → bytes_of (begin_of window).line ≡ printed (lines_of (window ++ rest))
unfolding following
refused_window window rest long =
    subst (λ (b : Step). b.more ≡ false → bytes_of b.line ≡ printed (lines_of (window ++ rest))) (begin_window window rest long)
    (λ f.
    let b = begin_of (window ++ rest) in
    sym
    (ap printed (lines_begin (window ++ rest))
    ∙ text_more b.line _
    ∙ ap (λ (c : Bool). bytes_of b.line ++ printed (following b.link (window ++ rest) b.place c)) f
    ∙ ap (λ (x : List ℕ). bytes_of b.line ++ x) text_none
    ∙ append-nil (bytes_of b.line)))
