-- What every caller of a call on a lent link has of it, whatever the call answers: the token, the record at exit and the answer. Demand 2.
--     told     a clause of the last value and the answer, beside what says the last value, is that clause at some record
--     Back     the token, the record at exit and what the answer owns, where the clause holds of them.        gives    a call's contract
--         gives that
--     loan     a call to which a local that holds a record is lent: a lifetime is made for the loan and ends with it, and the local holds
--         the record at exit
use Prim.Native.Nat.{ℕ, zero}
use mathlib.Core.List.{List, [], ◌∷◌}
use seplogic.Ra.Ura.{Ura}
use base.Fraction.{full_share}
use mir.Syntax.{Callee, Place, Opd as Operand, Body as Code, named, seq, call}
use mir.Val.{Val}
use base.Logic.{SProp, ent, sep, guard, ex, ex_e, snd∗}
use base.Fml.{GName, ftrue, fat, flft, flent, fres}
use prog.Wp.{Env, Calls, Loops}
use types.Logic.{Logic, sem}
use contract.Monad.{fact, fact_use}
use types.Kit.{Item, ‵, raw, ◌⊛◌, some, later, given, mean, Post, runs, lands, Seq, ◌$◌, ◌∵◌, !, qed, move, keep, drop, use1, use2}
use types.Kit.{use3, split, split3, pick, learn, check, await, updating, now as at_once, show, done}
use types.Run.{Opds}
use types.Tokens.{lft_new, lft_end}
use types.SemTy.{Body}
use sound.WpLaws.{FmC}
use denote.RattleType.{RattleType}
use denote.Laws.{Is, shows}
use denote.Lend.{lends_ref, ref_back}
use denote.Memory.{mem}
use denote.Steps.{peeks}
use denote.Triple.Statement.{Contract, Triple}
use denote.Triple.Call.{calls_at}
use Rattle.state.specs.declared.Link.{Link}
use Rattle.state.specs.contracts.Link as L
use Rattle.state.proofs.Link.TheLaws as L'
use Rattle.lent_parts.proofs.Lends.{lval, Known, own_at, lies_in, lies_out}

module _ {M : Type 1} {𝓤 : Ura M} (𝓛 : Logic 𝓤) (α : ℕ) (δ : GName) (R : RattleType) (Said : R.Denot → Link
    → Type 0) where
  open 𝓛 use {H, A}

  abbrev AtExit : R.Denot → SProp 𝓤
  AtExit r = ex 𝓤 (λ (m : Link). guard 𝓤 (Said r m) (A.res δ ((L.the_row).coded.code m)))

  pub told : {Last : Type 0} (record_of : Last → Link) (P : Last → SProp 𝓤)
      → ((ws : Last) → ent 𝓤 (P ws) (A.res δ ((L.the_row).coded.code (record_of ws)))) → (r : R.Denot)
      → ent 𝓤 (ex 𝓤 (λ (ws : Last). sep 𝓤 (P ws) (fact 𝓤 (Said r (record_of ws))))) (AtExit r)
  told record_of P lasts r = ex_e 𝓤 _ (λ ws.
      let E : SProp 𝓤 = fact 𝓤 (Said r (record_of ws)) in
      fact_use 𝓤 (Said r (record_of ws)) (snd∗ 𝓤 (P ws) E) (λ e.
      qed 𝓛 ((raw (P ws) ⊛ raw E) ∷ []) ∵ show ! (λ (m : Link). guard 𝓤 (Said r m) (A.res δ ((L.the_row).coded.code m))) (record_of ws) $
      check ! e $
      split ! $ keep ! (0 ∷ []) $ use1 𝓛 (‵ (fres δ ((L.the_row).coded.code (record_of ws)))) (lasts ws) $ done !))

  abbrev pub Back : Val → R.Denot → Link → SProp 𝓤
  Back v r m =
      guard 𝓤 (Said r m) (sep 𝓤 (A.lft (α ∷ []) full_share) (sep 𝓤 (A.res δ ((L.the_row).coded.code m)) (sem 𝓛 (R.own_val r (v ∷ [])))))

  pub gives : (v : Val) (Post : SProp 𝓤) (E : R.Denot → SProp 𝓤)
      → ent 𝓤 Post (mean 𝓛
      (later (some (λ (r : R.Denot). ((‵ (flft (α ∷ []) full_share) ⊛ ‵ ftrue) ⊛ ‵ (R.own_val r (v ∷ []))) ⊛ raw (E r)))))
      → ((r : R.Denot) → ent 𝓤 (E r) (AtExit r))
      → ent 𝓤 Post (H.⇛ (ex 𝓤 (λ (r : R.Denot). ex 𝓤 (Back v r))))
  gives v Post E opened said =
      qed 𝓛 (raw Post ∷ []) ∵ updating ! $
      use1 𝓛 (later (some (λ (r : R.Denot). ((‵ (flft (α ∷ []) full_share) ⊛ ‵ ftrue) ⊛ ‵ (R.own_val r (v ∷ []))) ⊛ raw (E r)))) opened $
      await ! tt $ pick ! (λ r.
      split ! $ move ! (1 ∷ []) $ use1 𝓛 (some (λ (m : Link). given (Said r m) (‵ (fres δ ((L.the_row).coded.code m))))) (said r) $
      pick ! (λ m. learn ! (λ e. move ! (1 ∷ []) $ split ! $ split ! $
      -- [the token; true; what the answer owns; the last value]
      at_once ! $ show ! (λ (r : R.Denot). ex 𝓤 (Back v r)) r $ show ! (Back v r) m $ check ! e $ keep ! (0 ∷ 3 ∷ 2 ∷ []) $ done !)))

module _ {M : Type 1} {𝓤 : Ura M} {𝓛 : Logic 𝓤} {K : Type 0} {Γ : List (Item 𝓤)} {E : Env 𝓤 𝓛.H}
    {C : Calls 𝓤 𝓛.H} {Λ : Loops 𝓤 𝓛.H} {q : Post 𝓤 𝓛.H} {f : Callee} {xs : List Operand} {d : Place} {rest : Code} where
  open 𝓛 use {H, A}

  pub loan : K → FmC 𝓤 H 𝓛.laws C → (c : Contract 𝓤) → Triple 𝓤 (C f) c
      → (R : RattleType) (Said : R.Denot → Link → Type 0) (l : ℕ) (h : Link) → Known h → (to : ℕ → GName → c.Ghost)
      → ((α : ℕ) (δ : GName) → ent 𝓤 (sep 𝓤 (A.lft (α ∷ []) full_share) (sem 𝓛 (own_at l α δ h))) (c.pre (to α δ)))
      → ((α : ℕ) (δ : GName) (v : Val) → ent 𝓤 (c.post (to α δ) v) (H.⇛ (ex 𝓤 (λ (r : R.Denot). ex 𝓤 (Back 𝓛 α δ R Said v r)))))
      → ((α : ℕ) (δ : GName) → Opds K 𝓛 (raw (c.pre (to α δ)) ∷ ‵ (flent (α ∷ []) (Body (mem L.the_row) l zero δ)) ∷ Γ) E xs
      (c.args (to α δ)))
      → ((v : Val) (r : R.Denot) (m : Link) → Said r m → Is R r (v ∷ []) → Known m
      → Seq K 𝓛 (‵ (fat full_share L'.mir l zero (lval m)) ∷ Γ) (lands C Λ E d v rest q))
      → Seq K 𝓛 (‵ (fat full_share L'.mir l zero (lval h)) ∷ Γ) (runs C Λ E (seq (call f xs d) rest) q)
  loan t fm c met R Said l h is to goes back os k =
      use1 𝓛 (‵ ((mem L.the_row).own_at h l zero)) (lies_in 𝓛 l h is) $
      lft_new t tt (λ α. move t (1 ∷ []) $
      use1 𝓛 (later (some (λ (δ : GName). ‵ (own_at l α δ h) ⊛ ‵ (flent (α ∷ []) (Body (mem L.the_row) l zero δ)))))
      (lends_ref 𝓛 L.the_row (named 0) (α ∷ []) h l zero) $ await t tt $ pick t (λ δ. split t $
      move t (2 ∷ 0 ∷ []) $ use2 𝓛 (raw (c.pre (to α δ))) (goes α δ) $ calls_at t fm c met (to α δ) (os α δ) (λ v.
      use1 𝓛 (later (some (λ (r : R.Denot).
      some (λ (m : Link). given (Said r m) (‵ (flft (α ∷ []) full_share) ⊛ ‵ (fres δ ((L.the_row).coded.code m))
      ⊛ ‵ (R.own_val r (v ∷ []))))))) (back α δ v) $
      await t tt $ pick t (λ r. pick t (λ m. learn t (λ e. split3 t $ move t (2 ∷ []) $
      peeks t R (Is R) (shows 𝓛 R) r (v ∷ []) (λ isr. drop t $
      -- [the token; the last value; the lender's part]
      lft_end t tt $ move t (0 ∷ 2 ∷ 1 ∷ []) $
      use3 𝓛 (later (‵ ((mem L.the_row).own_at m l zero))) (ref_back 𝓛 L.the_row (α ∷ []) δ m l zero) $ await t tt $
      use1 𝓛 (given (Known m) (‵ (fat full_share L'.mir l zero (lval m)))) (lies_out 𝓛 l m) $ learn t (λ ism. k v r m e isr ism))))))))
