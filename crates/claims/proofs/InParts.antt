-- However an input is cut into parts, a recording is judged as the whole is (R305). Demands 1 and 2.
use mathlib.Core.Bool.{Bool, true, false, cond}
use mathlib.Core.List.{List, [], ◌∷◌, ◌++◌, append_assoc}
use mathlib.Core.Path.{◌≡◌, refl, sym, ap, ap₂, subst, ◌∙◌}
use Prim.Native.Nat.{ℕ, zero, suc, ◌+◌, ◌-◌, ◌≤◌}
use native.Mathlib.Omega.{arith}
use borrow.Author.Tests.{le-leb}
use lib.ListN.{length, drop, length-drop, length-append}
use lib.Seq.{drop-drop, drop-append-le}
use Rattle.plan.specs.declared.entry.Entry.TheVariants.{Arrives, Claims}
use Rattle.std.specs.Prelude.{Ok, Err, Some, None}
use Rattle.checks.proofs.Laws.{exactly_yes, exactly_unique, not_true_and_false}
use Rattle.plan.specs.Entry.{entry_at, EntryRead, Claim}
use Rattle.plan.specs.declared.PlanRead.{PlanRead}
use Rattle.plan.proofs.Longer.{plan_window}
use Rattle.state.specs.declared.Link.{Link}
use Rattle.sound.specs.Sound.{SoundLink}
use Rattle.calls.specs.Send.{send_of}
use Rattle.claims.specs.declared.Checked.{Checked}
use Rattle.claims.specs.declared.Judged.{Judged}
use Rattle.claims.specs.Recording.{true_claim, same_claim, goes_on, claim_gives, entry_gives}
use Rattle.claims.specs.Recording.{Way, way_from, onward, takes_one, takes, part_of}
use Rattle.claims.specs.Recording.{judged_of}
use Rattle.claims.specs.Parts.{begins_with, check_begins, most, fits, part_gives, JudgesPart, joined, Whether, PartByPart}
use Rattle.claims.proofs.Moving.{arrival_on, Moves, entry_moves}
use Rattle.claims.proofs.Checking.{takes_done, takes_one_lem, part_none}
use Rattle.claims.proofs.Composing.{extend, parts_compose}
use Rattle.claims.proofs.Whole.{begun_ended, begun_sound, begun_inside, judged_on}

-- ---- how far a part comes

-- a check that goes on is good so far
SoFar : Checked → Type 0
SoFar s = s.more ≡ true → s ≡ goes_on s.link s.place s.claims

claim_so_far : (h : Bool) (after : Link) (c : Claim) (place claims : ℕ) → SoFar (claim_gives h after c place claims)
unfolding SoFar
claim_so_far true after c place claims = λ m. refl
claim_so_far false after c place claims = λ m. absurd (not_true_and_false m refl)

entry_so_far : (l : Link) (place claims : ℕ) (e : EntryRead) → SoFar (entry_gives l place claims e)
unfolding SoFar
entry_so_far l place claims (Ok None) = λ m. absurd (not_true_and_false m refl)
entry_so_far l place claims (Ok (Some (Arrives a))) = subst SoFar (sym (arrival_on l a place claims)) (λ m. refl)
entry_so_far l place claims (Ok (Some (Claims c))) =
    claim_so_far (same_claim c (true_claim (send_of true l).answer)) (send_of true l).link c place claims
entry_so_far l place claims (Err _) = λ m. absurd (not_true_and_false m refl)

-- a part that has come from one way to another
record Along (w v : Way) : Type 0 where
  forward : w.at.place ≤ v.at.place
  within : v.at.place ≤ w.at.place + length w.rest
  counted : v.at.claims + w.at.place ≤ w.at.claims + v.at.place
  rest : v.rest ≡ drop (v.at.place - w.at.place) w.rest
  so_far : SoFar v.at

along_self : (w : Way) → SoFar w.at → Along w w
along_self w s = record {
  forward = omega arith;
  within = omega arith;
  counted = omega arith;
  rest = let z : w.at.place - w.at.place ≡ 0 = omega arith in ap (λ (n : ℕ). drop n w.rest) (sym z);
  so_far = s;
}

along_on : (w v : Way) → Along w v → Along w (onward v)
unfolding onward
along_on w v a =
    let s = v.at in
    let to = entry_gives s.link s.place s.claims (entry_at v.rest) in
    let m : Moves s.place s.claims v.rest to = entry_moves s.link s.place s.claims v.rest in
    let long = ap length a.rest ∙ length-drop (s.place - w.at.place) w.rest in
    let k : s.place - w.at.place + (to.place - s.place) ≡ to.place - w.at.place = omega (arith, a.forward, m.forward) in
    record {
      forward = omega (arith, a.forward, m.forward);
      within = omega (arith, a.forward, a.within, m.within, long);
      counted = omega (arith, a.counted, m.counted);
      rest =
          ap (drop (to.place - s.place)) a.rest ∙ drop-drop (to.place - s.place) (s.place - w.at.place) w.rest
          ∙ ap (λ (n : ℕ). drop n w.rest) k;
      so_far = entry_so_far s.link s.place s.claims (entry_at v.rest);
    }

takes_along : (last : Bool) (w : Way) (n : ℕ) (v : Way) → Along w v → Along w (takes n last v)
unfolding takes
takes_along last w zero v a = a
takes_along last w (suc n) v a = go (takes_one last v) refl (takes_along last w n (onward v) (along_on w v a))
  where
    go : (t : Bool) → takes_one last v ≡ t → Along w (takes n last (onward v)) → Along w (takes (suc n) last v)
    go true e later = subst (Along w) (sym (takes_one_lem last n v e)) later
    go false e later = subst (Along w) (sym (takes_done last (suc n) v e)) a

part_along : (last : Bool) (l : Link) (place claims : ℕ) (part : List ℕ)
    → Along (way_from l place claims part) (part_of last (way_from l place claims part))
unfolding part_of SoFar
part_along last l place claims part =
    takes_along last (way_from l place claims part) (suc (length part)) (way_from l place claims part)
    (along_self (way_from l place claims part) (λ m. refl))

-- ---- all parts

-- so many bytes more are no more than a place and a number of claims can be
abbrev pub Room : ℕ → ℕ → ℕ → Type 0
Room place claims n = (place + n ≤ most) × (claims + n ≤ most)

room_fits : (place claims n : ℕ) → Room place claims n → fits place claims n ≡ true
unfolding fits
room_fits place claims n room =
    rw (le-leb n (most - place) (omega (arith, room.0)), le-leb n (most - claims) (omega (arith, room.1))) refl

-- on a sound link, with room for its numbers, a part is as the definition says
part_is : (last : Bool) (l : Link) (place claims : ℕ) (part : List ℕ) (r : Checked) → SoundLink l → Room place claims (length part)
    → JudgesPart last l place claims part r → r ≡ (part_of last (way_from l place claims part)).at
part_is last l place claims part r sound room p =
    p.answer
    ∙ ap (λ (b : Bool). part_gives b last l place claims part) (exactly_unique p.exactly (exactly_yes sound))
    ∙ rw (room_fits place claims (length part) room) refl

-- what a check from here on judges
abbrev judged_from : Link → ℕ → ℕ → List ℕ → Judged
judged_from l place claims rest = (part_of true (way_from l place claims rest)).at.judged

joined_none : (end : List ℕ) → joined [] end ≡ end
unfolding joined
joined_none end = refl

joined_first : (part : List ℕ) (parts : List (List ℕ)) (end : List ℕ) → joined (part ∷ parts) end ≡ part ++ joined parts end
unfolding joined
joined_first part parts end = refl

-- one part, and what comes after it
module _ (l : Link) (place claims : ℕ) (part more : List ℕ) (r : Checked) (same : r ≡ (part_of false (way_from l place claims part)).at) where
  v : Way
  v = part_of false (way_from l place claims part)

  whole : judged_from l place claims (part ++ more) ≡ (part_of true (extend v more)).at.judged
  unfolding v
  whole = ap (λ (w : Way). w.at.judged) (parts_compose (way_from l place claims part) more)

  one_decides : r.more ≡ false → judged_from l place claims (part ++ more) ≡ r.judged
  unfolding v
  one_decides ended =
      let off : v.at.more ≡ false = ap (λ (s : Checked). s.more) (sym same) ∙ ended in
      whole
      ∙ ap (λ (w : Way). w.at.judged) (part_none true (extend v more) (rw off refl))
      ∙ ap (λ (s : Checked). s.judged) (sym same)

  one_goes_on : r.more ≡ true
      → judged_from l place claims (part ++ more) ≡ judged_from r.link r.place r.claims (drop (r.place - place) part ++ more)
  unfolding v SoFar
  one_goes_on on =
      let a = part_along false l place claims part in
      let at : v.at ≡ goes_on r.link r.place r.claims =
      a.so_far (ap (λ (s : Checked). s.more) (sym same) ∙ on)
      ∙ ap (λ (s : Checked). goes_on s.link s.place s.claims) (sym same) in
      let rest : v.rest ≡ drop (r.place - place) part =
      a.rest ∙ ap (λ (s : Checked). drop (s.place - place) part) (sym same) in
      whole
      ∙ ap₂ (λ (s : Checked) (b : List ℕ). (part_of true (record { at = s; rest = b ++ more })).at.judged) at rest

pub parts_judge : (parts : List (List ℕ)) (end : List ℕ) (l : Link) (place claims : ℕ) (left : List ℕ) (j : Judged) → SoundLink l
    → Room place claims (length (left ++ joined parts end)) → PartByPart parts end l place claims left j
    → j ≡ judged_from l place claims (left ++ joined parts end)
unfolding PartByPart
parts_judge [] end l place claims left j sound room p =
    let all = ap (λ (s : List ℕ). left ++ s) (joined_none end) in
    p.2
    ∙ ap (λ (s : Checked). s.judged)
    (part_is true l place claims (left ++ end) p.0 sound (subst (λ (s : List ℕ). Room place claims (length s)) all room) p.1)
    ∙ ap (judged_from l place claims) (sym all)
parts_judge (part ∷ parts) end l place claims left j sound room p = go p.0.more refl p.2 (parts_judge parts end)
  where
    r : Checked
    r = p.0

    bytes : List ℕ
    bytes = left ++ part

    later : List ℕ
    later = joined parts end

    assoc : bytes ++ later ≡ left ++ joined (part ∷ parts) end
    assoc = append_assoc left part later ∙ ap (λ (s : List ℕ). left ++ s) (sym (joined_first part parts end))

    all : length bytes + length later ≡ length (left ++ joined (part ∷ parts) end)
    all = sym (length-append bytes later) ∙ ap length assoc

    same : r ≡ (part_of false (way_from l place claims bytes)).at
    same = part_is false l place claims bytes r sound (omega (arith, all, room.0), omega (arith, all, room.1)) p.1

    Later : Type 0
    Later = (l : Link) (place claims : ℕ) (left : List ℕ) (j : Judged) → SoundLink l
        → Room place claims (length (left ++ later)) → PartByPart parts end l place claims left j
        → j ≡ judged_from l place claims (left ++ later)

    rest : List ℕ
    rest = drop (r.place - place) bytes

    room_on : Room r.place r.claims (length (rest ++ later))
    room_on =
        let a = part_along false l place claims bytes in
        let forward : place ≤ r.place = subst (λ (s : Checked). place ≤ s.place) (sym same) a.forward in
        let within : r.place ≤ place + length bytes = subst (λ (s : Checked). s.place ≤ place + length bytes) (sym same) a.within in
        let counted : r.claims + place ≤ claims + r.place =
        subst (λ (s : Checked). s.claims + place ≤ claims + s.place) (sym same) a.counted in
        let long = length-append rest later in
        let kept = length-drop (r.place - place) bytes in
        (omega (arith, forward, within, long, kept, all, room.0), omega (arith, forward, within, counted, long, kept, all, room.1))

    go : (b : Bool) → r.more ≡ b → Whether b (PartByPart parts end r.link r.place r.claims rest j) (j ≡ r.judged) → Later
        → j ≡ judged_from l place claims (left ++ joined (part ∷ parts) end)
    go true on q next =
        next r.link r.place r.claims rest j (p.1.keeps sound) room_on q
        ∙ sym (one_goes_on l place claims bytes later r same on)
        ∙ ap (judged_from l place claims) assoc
    go false off q next =
        q ∙ sym (one_decides l place claims bytes later r same off) ∙ ap (judged_from l place claims) assoc

-- a part stays within its bytes
pub part_within : (last : Bool) (l : Link) (place claims : ℕ) (part : List ℕ) (r : Checked) → JudgesPart last l place claims part r
    → (place ≤ r.place) × (r.place ≤ place + length part)
part_within last l place claims part r p = go p.sound p.answer
  where
    Inside : Checked → Type 0
    Inside c = (place ≤ c.place) × (c.place ≤ place + length part)

    fit : (b : Bool) → Inside (cond b (part_of last (way_from l place claims part)).at (goes_on l place claims))
    fit true = let a = part_along last l place claims part in (a.forward, a.within)
    fit false = (omega arith, omega arith)

    go : (b : Bool) → r ≡ part_gives b last l place claims part → Inside r
    go true e = subst Inside (sym e) (fit (fits place claims (length part)))
    go false e = subst Inside (sym e) (omega arith, omega arith)

-- ---- a whole recording in windows

-- a check of an input begins as that of its first window, which has at least 514 bytes or all of the input, does
pub begun_window : (window rest : List ℕ) → 514 ≤ length window → check_begins (window ++ rest) ≡ check_begins window
unfolding check_begins
begun_window window rest long = ap (λ (r : PlanRead). begins_with r.verdict r) (plan_window window rest long)

-- where that decides, it decides of the input; else the entries of the window are the first part, and the parts judge the input
module _ (window : List ℕ) (parts : List (List ℕ)) (end : List ℕ) (long : 514 ≤ length window) where
  abbrev input : List ℕ
  input = window ++ joined parts end

  begun : check_begins input ≡ check_begins window
  begun = begun_window window (joined parts end) long

  pub window_decides : (check_begins window).more ≡ false → (check_begins window).judged ≡ judged_of input
  window_decides off =
      ap (λ (c : Checked). c.judged) (sym begun) ∙ begun_ended input (ap (λ (c : Checked). c.more) begun ∙ off)

  pub windows_judge : (j : Judged) → (check_begins window).more ≡ true → length input ≤ most
      → PartByPart (drop (check_begins window).place window ∷ parts) end (check_begins window).link (check_begins window).place 0 [] j
      → j ≡ judged_of input
  windows_judge j on few p =
      let b = check_begins window in
      let later = joined parts end in
      let inside = begun_inside window in
      let first = drop b.place window in
      let rest : drop b.place input ≡ joined (first ∷ parts) end =
      drop-append-le b.place window later inside ∙ sym (joined_first first parts end) in
      let known : length first + length later ≡ length (joined (first ∷ parts) end) =
      sym (length-append first later) ∙ ap length (sym (joined_first first parts end)) in
      let all = length-append window later in
      let short = length-drop b.place window in
      let room : Room b.place 0 (length (joined (first ∷ parts) end)) =
      (omega (arith, few, known, all, inside, short), omega (arith, few, known, all, short)) in
      parts_judge (first ∷ parts) end b.link b.place 0 [] j (begun_sound window on) room p
      ∙ ap (judged_from b.link b.place 0) (sym rest)
      ∙ ap (λ (c : Checked). judged_from c.link c.place 0 (drop c.place input)) (sym begun)
      ∙ sym (judged_on input (ap (λ (c : Checked). c.more) begun ∙ on))
