-- A slice lent as `&mut` that is lent again for a lifetime of one call, and comes back at the list that the call left. It says nothing of
-- links. Demand 2.
--     LentAgain           what the holder keeps while the slice is lent again: the lender's part, and its own borrow, open
--     lends_again, comes_back     out and back, as entailments
--     lent_out, lent_back         the same as steps of a walk, where the slice's count is told apart from its list
--     told                what a call with one such slice says of it and of its result
use mathlib.Core.Path.{◌≡◌, sym, ap, subst, refl}
use Prim.Native.Nat.{ℕ}
use mathlib.Core.List.{List, [], ◌∷◌}
use lib.ListN.{length}
use seplogic.Ra.Ura.{Ura}
use base.Fraction.{full_share}
use mir.Syntax.{Lifetime}
use base.Logic.{SProp, ent, sep, ex, ex_e, guard, snd∗}
use base.Fml.{Lft, GName, Share, Fml, fsep, flft, fdead, fobs, fauth, flent, fobor}
use types.Logic.{Logic, sem}
use contract.Monad.{fact, fact_use}
use types.Kit.{Item, Goal, Soaks, Seq, Step, step, ‵, raw, ◌⊛◌, some, given, later, mean, ◌$◌, ◌∵◌, !, qed, move, keep, drop}
use types.Kit.{use1, use2, use3, split, pick, fsplit, fjoin, frame, await, updating, rewrite, now as at_once, show, check, learn, done}
use types.Tokens.{lft_new, lft_end}
use types.SemTy.{cells, Arr}
use denote.RattleType.{RattleType}
use denote.Shadow.{pure_l, pure_i}
use denote.Memory.{mem}
use denote.Ref.{MutBor}
use denote.Slice.{slice_val, MutSlice, heres, Room, finally, mut_slice_at, coded_holeys}
use denote.Lend.{Held, lends_slice, slice_back}
use denote.Index.{row, whole_out, whole_in, opens_slice, closes_slice}

module _ (R : RattleType) (b o : ℕ) where
  -- a slice under a name at a list, and what it owns, where its count is told
  abbrev pub at_list : GName → List R.Denot → MutBor (List R.Denot)
  at_list δ ys = record { ref_ptr = (b, o); ghost_name = δ; now = ys }

  abbrev pub slice_own : Lifetime → Lft → GName → List R.Denot → ℕ → Fml
  slice_own ℓ κ δ ys n = (MutSlice ℓ κ R).own_val (at_list δ ys) (slice_val (b, o) n ∷ [])

module _ (R : RattleType) (κ κ' : Lft) (q : Share) (γ : GName) (b o : ℕ) where
  abbrev pub LentAgain : GName → List R.Denot → Fml
  LentAgain γ₁ ys = fsep (flent κ' (Held R (length ys) b o γ₁)) (fsep (fobor κ q (Held R (length ys) b o γ))
      (fsep (fobs γ ((coded_holeys R).code (heres R ys))) (fauth γ ((coded_holeys R).code (heres R ys)))))

  module _ {M : Type 1} {𝓤 : Ura M} (𝓛 : Logic 𝓤) (ℓ ℓ' : Lifetime) (ys : List R.Denot) where
    open 𝓛 use {H, A}

    pub lends_again : ent 𝓤 (sep 𝓤 (sem 𝓛 (slice_own R b o ℓ κ γ ys (length ys))) (A.lft κ q))
        (H.⇛ (ex 𝓤 (λ (γ₁ : GName). sep 𝓤 (sem 𝓛 (slice_own R b o ℓ' κ' γ₁ ys (length ys))) (sem 𝓛 (LentAgain γ₁ ys)))))
    lends_again =
        qed 𝓛 (‵ (slice_own R b o ℓ κ γ ys (length ys)) ∷ ‵ (flft κ q) ∷ []) ∵ updating ! $ fsplit ! $
        pure_l ! (mut_slice_at R (at_list R b o γ ys) (slice_val (b, o) (length ys) ∷ [])) (λ p. fsplit ! $ opens_slice ! tt R ys b o $
        use1 𝓛 (‵ (cells (mem R) ys b o)) (whole_in 𝓛 R ys b o) $
        use1 𝓛 (later (some (λ (γ₁ : GName). ‵ (slice_own R b o ℓ' κ' γ₁ ys (length ys)) ⊛ ‵ (flent κ' (Held R (length ys) b o γ₁)))))
        (lends_slice 𝓛 R ℓ' κ' ys b o p.1) $ await ! tt $ pick ! (λ γ₁. split ! $
        -- [the new slice; the lender's part at κ'; the open borrow at κ; obs γ; auth γ]
        at_once ! $
        show ! (λ (γ' : GName). sep 𝓤 (sem 𝓛 (slice_own R b o ℓ' κ' γ' ys (length ys))) (sem 𝓛 (LentAgain γ' ys))) γ₁ $
        frame ! $ move ! (2 ∷ 3 ∷ []) $ fjoin ! $ move ! (2 ∷ 0 ∷ []) $ fjoin ! $ move ! (1 ∷ 0 ∷ []) $ fjoin ! $ done !))

    pub comes_back : (γ₁ : GName) (zs : List R.Denot) → Room R (length ys) → length zs ≡ length ys
        → ent 𝓤 (sep 𝓤 (A.dead κ') (sep 𝓤 (sem 𝓛 (LentAgain γ₁ ys)) (sem 𝓛 (finally R γ₁ zs))))
        (H.⇛ (sep 𝓤 (sem 𝓛 (slice_own R b o ℓ κ γ zs (length ys))) (A.lft κ q)))
    comes_back γ₁ zs room e =
        qed 𝓛 (‵ (fdead κ') ∷ ‵ (LentAgain γ₁ ys) ∷ ‵ (finally R γ₁ zs) ∷ []) ∵ updating ! $ move ! (1 ∷ []) $ fsplit ! $
        move ! (2 ∷ 0 ∷ 3 ∷ []) $
        use3 𝓛 (later (‵ ((Arr (mem R) (length ys)).own_at zs b o))) (slice_back 𝓛 R κ' γ₁ zs (length ys) b o) $ await ! tt $
        fsplit ! $ drop ! $ use1 𝓛 (‵ (row R full_share zs b o)) (whole_out 𝓛 R zs b o) $
        move ! (1 ∷ []) $ fsplit ! $ move ! (1 ∷ []) $ fsplit ! $ move ! (3 ∷ 2 ∷ 0 ∷ 1 ∷ []) $ closes_slice ! tt R ys zs e b o $
        at_once ! $ fjoin ! $
        pure_i ! (mut_slice_at R (at_list R b o γ zs) (slice_val (b, o) (length ys) ∷ [])) (tt, (tt, tt))
        (ap (λ (m : ℕ). slice_val (b, o) m ∷ []) (sym e), subst (Room R) (sym e) room) $ fjoin ! $ done !

-- ---- as steps of a walk
module _
    {M : Type 1} {𝓤 : Ura M} {𝓛 : Logic 𝓤} {K : Type 0} {Γ : List (Item 𝓤)} {G : Goal 𝓤 𝓛.H} (R : RattleType)
    (κ : Lft) (q : Share) (γ : GName) (b o : ℕ) (ℓ ℓ' : Lifetime) (ys : List R.Denot) (n : ℕ) (long : length ys ≡ n) where
  pub lent_out : K → Soaks G
      → ((ν : ℕ) (δ : GName)
      → Seq K 𝓛 (‵ (flft (ν ∷ []) full_share) ∷ ‵ (slice_own R b o ℓ' (ν ∷ []) δ ys n) ∷ ‵ (LentAgain R κ (ν ∷ []) q γ b o δ ys) ∷ Γ) G)
      → Seq K 𝓛 (‵ (slice_own R b o ℓ κ γ ys n) ∷ ‵ (flft κ q) ∷ Γ) G
  lent_out t z k =
      rewrite t 0 (λ (m : ℕ). ‵ (slice_own R b o ℓ κ γ ys m)) (sym long) refl $ lft_new t z (λ ν. move t (1 ∷ 2 ∷ []) $
      use2 𝓛 (later (some (λ (δ : GName). ‵ (slice_own R b o ℓ' (ν ∷ []) δ ys (length ys)) ⊛ ‵ (LentAgain R κ (ν ∷ []) q γ b o δ ys))))
      (lends_again R κ (ν ∷ []) q γ b o 𝓛 ℓ ℓ' ys) $ await t z $ pick t (λ δ. split t $
      rewrite t 0 (λ (m : ℕ). ‵ (slice_own R b o ℓ' (ν ∷ []) δ ys m)) long refl $ move t (2 ∷ []) $ k ν δ))

  pub lent_back : K → Soaks G → (ν : ℕ) (δ : GName) (zs : List R.Denot) → Room R n → length zs ≡ length ys
      → Step K 𝓛 (‵ (slice_own R b o ℓ κ γ zs n) ∷ ‵ (flft κ q) ∷ Γ) G
      (‵ (flft (ν ∷ []) full_share) ∷ ‵ (LentAgain R κ (ν ∷ []) q γ b o δ ys) ∷ ‵ (finally R δ zs) ∷ Γ) G
  lent_back t z ν δ zs room e = step (λ s. lft_end t z $ use3 𝓛 (later (‵ (slice_own R b o ℓ κ γ zs (length ys)) ⊛ ‵ (flft κ q)))
      (comes_back R κ (ν ∷ []) q γ b o 𝓛 ℓ ℓ' ys δ zs (subst (Room R) (sym long) room) e) $ await t z $ split t $
      rewrite t 0 (λ (m : ℕ). ‵ (slice_own R b o ℓ κ γ zs m)) long refl $ s)

-- a clause of the last list and the result, beside what says the last list, is that clause at some list, which is as long as it was
pub told : {M : Type 1} {𝓤 : Ura M} (𝓛 : Logic 𝓤) (R : RattleType) (δ : GName) (n : ℕ)
    (Said : List R.Denot → Type 0) {Last : Type 0} (list_of : Last → List R.Denot) (P : Last → SProp 𝓤)
    → ((ws : Last) → ent 𝓤 (P ws) (guard 𝓤 (length (list_of ws) ≡ n) (sem 𝓛 (finally R δ (list_of ws)))))
    → ent 𝓤 (ex 𝓤 (λ (ws : Last). sep 𝓤 (P ws) (fact 𝓤 (Said (list_of ws)))))
    (mean 𝓛 (some (λ (zs : List R.Denot). given (Said zs × (length zs ≡ n)) (‵ (finally R δ zs)))))
told {𝓤 = 𝓤} 𝓛 R δ n Said list_of P lasts = ex_e 𝓤 _ (λ ws.
    let E : SProp 𝓤 = fact 𝓤 (Said (list_of ws)) in
    fact_use 𝓤 (Said (list_of ws)) (snd∗ 𝓤 (P ws) E) (λ e.
    qed 𝓛 ((raw (P ws) ⊛ raw E) ∷ []) ∵ split ! $ keep ! (0 ∷ []) $
    use1 𝓛 (given (length (list_of ws) ≡ n) (‵ (finally R δ (list_of ws)))) (lasts ws) $ learn ! (λ l.
    show ! (λ (zs : List R.Denot). guard 𝓤 (Said zs × (length zs ≡ n)) (sem 𝓛 (finally R δ zs))) (list_of ws) $ check ! (e, l) $
    done !)))
