-- Laws of a check, entry after entry: there are entries enough, a part goes on entry by entry.
use mathlib.Core.Bool.{Bool, true, false, cond, ◌&&◌, ◌||◌}
use mathlib.Core.List.{List}
use mathlib.Core.Path.{◌≡◌, refl, sym, ap, subst, ◌∙◌}
use Prim.Native.Nat.{ℕ, zero, suc, ◌+◌, ◌-◌, ◌≤◌, ◌<◌}
use native.Mathlib.Omega.{arith}
use lib.Dec.{leb}
use lib.ListN.{length, drop, length-drop}
use lib.Seq.{drop-drop}
use Rattle.tree.proofs.Classes.{both_true}
use Rattle.plan.specs.Entry.{entry_at, longest_entry}
use Rattle.state.specs.declared.Link.{Link}
use Rattle.sound.specs.Sound.{SoundLink}
use Rattle.claims.specs.declared.Checked.{Checked}
use Rattle.claims.specs.Recording.{goes_on, entry_gives, Way, way_from, moved, onward, takes_one, takes, part_of}
use Rattle.claims.specs.Steps.{PartDone}
use Rattle.claims.proofs.Moving.{Moves, entry_moves}

-- ---- entry after entry

module _ (last : Bool) where
  takes_suc : (n : ℕ) (w : Way) → takes (suc n) last w ≡ cond (takes_one last w) (takes n last (onward w)) w
  unfolding takes
  takes_suc n w = refl

  -- where no entry more is judged the part has ended
  pub takes_done : (n : ℕ) (w : Way) → takes_one last w ≡ false → takes n last w ≡ w
  unfolding takes
  takes_done zero w e = refl
  takes_done (suc n) w e = takes_suc n w ∙ rw e refl

  pub takes_one_lem : (n : ℕ) (w : Way) → takes_one last w ≡ true → takes (suc n) last w ≡ takes n last (onward w)
  takes_one_lem n w e = takes_suc n w ∙ rw e refl

  -- how far one entry moves
  pub onward_moves : (w : Way) → Moves w.at.place w.at.claims w.rest (onward w).at
  unfolding onward
  onward_moves w = entry_moves w.at.link w.at.place w.at.claims w.rest

  pub onward_rest : (w : Way) → length (onward w).rest ≡ length w.rest - ((onward w).at.place - w.at.place)
  unfolding onward
  onward_rest w = length-drop _ w.rest

  -- what a part that has come so far still takes is all that the part takes; there are entries enough left
  pub record Underway (start w : Way) : Type 0 where
    pub left : ℕ
    pub same : part_of last start ≡ takes left last w
    pub enough : w.at.more ≡ true → length w.rest < left

  part_first : (w : Way) → part_of last w ≡ takes (suc (length w.rest)) last w
  unfolding part_of
  part_first w = refl

  pub part_starts : (w : Way) → Underway w w
  part_starts w = record { left = suc (length w.rest); same = part_first w; enough = λ _. omega arith }

  pub part_on : (start w : Way) → takes_one last w ≡ true → Underway start w → Underway start (onward w)
  part_on start w e u = go u.left u.same (u.enough (both_true w.at.more _ e).0)
    where
      go : (n : ℕ) → part_of last start ≡ takes n last w → length w.rest < n → Underway start (onward w)
      go zero same enough = absurd (omega (arith, enough))
      go (suc n) same enough = record {
        left = n;
        same = same ∙ takes_one_lem n w e;
        enough = λ m.
            let v = onward_moves w in
            omega (arith, onward_rest w, v.on m, v.within, enough);
      }

  pub part_done : (start w : Way) → takes_one last w ≡ false → Underway start w → part_of last start ≡ w
  part_done start w e u = u.same ∙ takes_done u.left w e

  -- a part without an entry to judge, and a part's first entry
  pub part_none : (w : Way) → takes_one last w ≡ false → part_of last w ≡ w
  part_none w e = part_done w w e (part_starts w)

-- ---- the loop

-- a check that has come to a place of a part that begins at another
abbrev pub way_at : ℕ → List ℕ → Checked → Way
way_at place part s = record { at = s; rest = drop (s.place - place) part }

-- what the loop keeps
pub record Loop (last : Bool) (place claims : ℕ) (part : List ℕ) (first s : Checked) : Type 0 where
  pub way : Underway last (way_at place part first) (way_at place part s)
  pub forward : place ≤ s.place
  pub within : s.place ≤ place + length part
  pub counted : s.claims + place ≤ claims + s.place
  pub sound : SoundLink s.link

pub loop_starts : (last : Bool) (l : Link) (place claims : ℕ) (part : List ℕ) (first : Checked) → first ≡ goes_on l place claims
    → SoundLink l → Loop last place claims part first first
loop_starts last l place claims part first e x = record {
  way = part_starts last (way_at place part first);
  forward = subst (λ (k : Checked). place ≤ k.place) (sym e) (omega arith);
  within = subst (λ (k : Checked). k.place ≤ place + length part) (sym e) (omega arith);
  counted = subst (λ (k : Checked). k.claims + place ≤ claims + k.place) (sym e) (omega arith);
  sound = subst (λ (k : Checked). SoundLink k.link) (sym e) x;
}

-- the way after one entry more
way_on : (place : ℕ) (part : List ℕ) (s r : Checked) → place ≤ s.place → s.place ≤ r.place
    → r ≡ entry_gives s.link s.place s.claims (entry_at (drop (s.place - place) part))
    → onward (way_at place part s) ≡ way_at place part r
unfolding onward
way_on place part s r a b e =
    let k : s.place - place + (r.place - s.place) ≡ r.place - place = omega (arith, a, b) in
    ap (moved s.place (drop (s.place - place) part)) (sym e)
    ∙ ap (λ (rest : List ℕ). record { at = r; rest = rest })
    (drop-drop (r.place - s.place) (s.place - place) part ∙ ap (λ (n : ℕ). drop n part) k)

pub loop_on : (last : Bool) (place claims : ℕ) (part : List ℕ) (first s r : Checked) → Loop last place claims part first s
    → takes_one last (way_at place part s) ≡ true
    → r ≡ entry_gives s.link s.place s.claims (entry_at (drop (s.place - place) part)) → SoundLink r.link
    → Loop last place claims part first r × (r.more ≡ true → s.place < r.place)
loop_on last place claims part first s r inv e d x =
    let rest = drop (s.place - place) part in
    let v : Moves s.place s.claims rest r =
    subst (Moves s.place s.claims rest) (sym d) (entry_moves s.link s.place s.claims rest) in (
      record {
        way =
            subst (Underway last (way_at place part first)) (way_on place part s r inv.forward v.forward d)
            (part_on last (way_at place part first) (way_at place part s) e inv.way);
        forward = omega (arith, inv.forward, v.forward);
        within = omega (arith, inv.forward, inv.within, v.within, length-drop (s.place - place) part);
        counted = omega (arith, inv.counted, v.counted);
        sound = x;
      },
      v.on,
    )

pub loop_ends : (last : Bool) (l : Link) (place claims : ℕ) (part : List ℕ) (first s : Checked) → first ≡ goes_on l place claims
    → Loop last place claims part first s → takes_one last (way_at place part s) ≡ false → PartDone last l place claims part s
loop_ends last l place claims part first s e inv f =
    let z : place - place ≡ 0 = omega arith in
    let begins : way_at place part first ≡ way_from l place claims part =
    ap (way_at place part) e ∙ ap (λ (n : ℕ). record { at = goes_on l place claims; rest = drop n part }) z in
    record {
      gives = sym (ap (λ (w : Way). w.at) (ap (part_of last) (sym begins)
          ∙ part_done last (way_at place part first) (way_at place part s) f inv.way));
      sound = inv.sound;
    }

-- entries left to judge, for the loop to end
abbrev pub left_of : Bool → ℕ → ℕ
left_of true n = suc n
left_of false n = 0

pub left_less : (more : Bool) (n m : ℕ) → (more ≡ true → n < m) → left_of more n < left_of true m
left_less true n m h = omega (arith, h refl)
left_less false n m h = omega arith

-- the loop's test, by the bytes that follow
pub test_same : (last : Bool) (place : ℕ) (part : List ℕ) (s : Checked)
    → (s.more && (last || leb longest_entry (length part - (s.place - place)))) ≡ takes_one last (way_at place part s)
test_same last place part s = ap (λ (n : ℕ). s.more && (last || leb longest_entry n)) (sym (length-drop (s.place - place) part))
