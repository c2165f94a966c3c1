-- Parts compose: a recording judged part by part, what a part leaves of its bytes put before the next, is judged as the whole is.
use mathlib.Core.Bool.{Bool, true, false}
use mathlib.Core.List.{List, ◌++◌}
use mathlib.Core.Path.{◌≡◌, refl, sym, ap, ◌∙◌}
use Prim.Native.Nat.{ℕ, zero, suc, ◌-◌, ◌≤◌, ◌<◌}
use native.Mathlib.Omega.{arith}
use borrow.Author.Tests.{leb-true}
use lib.ListN.{length}
use lib.Seq.{drop-append-le}
use Rattle.tree.proofs.Classes.{both_true}
use Rattle.plan.specs.Entry.{entry_at, longest_entry, EntryRead}
use Rattle.plan.proofs.EntryLaws.{entry_extends}
use Rattle.claims.specs.Recording.{entry_gives, Way, moved, onward, takes_one, takes, part_of}
use Rattle.claims.proofs.Checking.{takes_done, takes_one_lem, onward_moves, onward_rest}

-- ---- how many entries there can be does not matter

module _ (last : Bool) where
  takes_enough : (n m : ℕ) (w : Way) → (w.at.more ≡ true → (length w.rest < n) × (length w.rest < m))
      → takes n last w ≡ takes m last w
  takes_enough zero m w h = go (takes_one last w) refl
    where
      go : (t : Bool) → takes_one last w ≡ t → takes zero last w ≡ takes m last w
      go true e = absurd (omega (arith, (h (both_true w.at.more _ e).0).0))
      go false e = takes_done last zero w e ∙ sym (takes_done last m w e)
  takes_enough (suc n) m w h = go (takes_one last w) refl m h (takes_enough n)
    where
      Same : ℕ → Type 0
      Same k = (m : ℕ) (v : Way) → (v.at.more ≡ true → (length v.rest < k) × (length v.rest < m))
          → takes k last v ≡ takes m last v

      go : (t : Bool) → takes_one last w ≡ t → (m : ℕ) → (w.at.more ≡ true → (length w.rest < suc n) × (length w.rest < m)) → Same n
          → takes (suc n) last w ≡ takes m last w
      go false e m h later = takes_done last (suc n) w e ∙ sym (takes_done last m w e)
      go true e zero h later = absurd (omega (arith, (h (both_true w.at.more _ e).0).1))
      go true e (suc m) h later =
          let far = h (both_true w.at.more _ e).0 in
          takes_one_lem last n w e
          ∙ later m (onward w) (λ on.
          let v = onward_moves last w in
          (omega (arith, onward_rest last w, v.on on, v.within, far.0), omega (arith, onward_rest last w, v.on on, v.within, far.1)))
          ∙ sym (takes_one_lem last m w e)

  -- a part is its first entry, and the part from there on
  pub part_next : (w : Way) → takes_one last w ≡ true → part_of last w ≡ part_of last (onward w)
  unfolding part_of
  part_next w e =
      takes_one_lem last (length w.rest) w e
      ∙ takes_enough (length w.rest) (suc (length (onward w).rest)) (onward w) (λ on.
      let v = onward_moves last w in
      (omega (arith, onward_rest last w, v.on on, v.within), omega arith))

-- ---- what comes after a part

-- the same way, with more bytes after those that follow
abbrev pub extend : Way → List ℕ → Way
extend w more = record { at = w.at; rest = w.rest ++ more }

onward_extend : (w : Way) (more : List ℕ) → longest_entry ≤ length w.rest
    → onward (extend w more) ≡ extend (onward w) more
unfolding onward
onward_extend w more long =
    let s = w.at in
    let to = entry_gives s.link s.place s.claims (entry_at w.rest) in
    ap (λ (e : EntryRead). moved s.place (w.rest ++ more) (entry_gives s.link s.place s.claims e))
    (entry_extends w.rest more long)
    ∙ ap (λ (rest : List ℕ). record { at = to; rest = rest })
    (drop-append-le (to.place - s.place) w.rest more
    (let v = onward_moves true w in omega (arith, v.within, v.forward)))

compose_n : (n : ℕ) (w : Way) (more : List ℕ)
    → part_of true (extend w more) ≡ part_of true (extend (takes n false w) more)
unfolding takes
compose_n zero w more = refl
compose_n (suc n) w more = go (takes_one false w) refl (compose_n n (onward w) more)
  where
    go : (t : Bool) → takes_one false w ≡ t
        → part_of true (extend (onward w) more) ≡ part_of true (extend (takes n false (onward w)) more)
        → part_of true (extend w more) ≡ part_of true (extend (takes (suc n) false w) more)
    go false e later = ap (λ (v : Way). part_of true (extend v more)) (sym (takes_done false (suc n) w e))
    go true e later =
        let two = both_true w.at.more _ e in
        part_next true (extend w more) (rw two.0 refl)
        ∙ ap (part_of true) (onward_extend w more (leb-true longest_entry (length w.rest) two.1))
        ∙ later
        ∙ ap (λ (v : Way). part_of true (extend v more)) (sym (takes_one_lem false n w e))

-- a part, and then all that it leaves with what comes after it, is the whole
pub parts_compose : (w : Way) (more : List ℕ)
    → part_of true (extend w more) ≡ part_of true (extend (part_of false w) more)
unfolding part_of
parts_compose w more = compose_n (suc (length w.rest)) w more
