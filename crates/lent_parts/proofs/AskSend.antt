-- What a caller of `send` has to give, and what it has of the call: `goes` and `given_back`: a lender
-- gives them to `loan` (Loans).
use Prim.Native.Nat.{ℕ, zero}
use mathlib.Core.List.{[], ◌∷◌}
use seplogic.Ra.Ura.{Ura}
use base.Fraction.{full_share}
use mir.Val.{Val, vptr}
use base.Logic.{SProp, ent, sep, ex, id⊢}
use base.Fml.{GName, flft}
use prog.Memory.{Memory}
use prog.Routine.{Routine}
use types.Logic.{Logic, sem}
use contract.Monad.{Fun}
use types.Kit.{‵, ◌$◌, ◌∵◌, !, qed, move, keep, join, fsplit, fjoin, frame, done}
use denote.Steps.{nothing}
use denote.Triple.Statement.{Contract}
use denote.Triple.Spec.{triple_of}
use denote.Triple.Clauses.{ensured, lasts}
use Rattle.calls.specs.Send.{send_leaves, Sends}
use Rattle.state.specs.declared.Link.{Link}
use Rattle.calls.specs.declared.Departure.{Departure}
use Rattle.calls.specs.contracts.Departure as N
use Rattle.lent_parts.proofs.Lends.{ref, own_at}
use Rattle.lent_parts.proofs.Loans as loans
use Rattle.lent.specs.contracts.send as lent

module _ {M : Type 1} {𝓤 : Ura M} (𝓛 : Logic 𝓤) (at_mem : Memory → SProp 𝓤) (run : Routine → Fun 𝓤) where
  abbrev pub Lent : Contract 𝓤
  Lent = triple_of 𝓛 lent.signature (lent.spec 𝓛 at_mem run)

module _ {M : Type 1} {𝓤 : Ura M} (𝓛 : Logic 𝓤) (at_mem : Memory → SProp 𝓤) (run : Routine → Fun 𝓤) (b α : ℕ)
    (δ : GName) (h : Link) where
  open 𝓛 use {H, A}

  abbrev pub to_lent : (Lent 𝓛 at_mem run).Ghost
  to_lent = (((α ∷ [], tt), (full_share, tt), tt, (ref b δ h, tt), (vptr b zero ∷ [], tt)), tt)

  pub goes : ent 𝓤 (sep 𝓤 (A.lft (α ∷ []) full_share) (sem 𝓛 (own_at b α δ h))) ((Lent 𝓛 at_mem run).pre to_lent)
  goes = qed 𝓛 (‵ (flft (α ∷ []) full_share) ∷ ‵ (own_at b α δ h) ∷ []) ∵ nothing ! $ move ! (1 ∷ 0 ∷ []) $ join ! $ move ! (1 ∷ []) $
      nothing ! $
      move ! (1 ∷ 0 ∷ []) $ fjoin ! $ move ! (1 ∷ 0 ∷ []) $ join ! $ frame ! $ done !

  abbrev pub Said : Departure → Link → Type 0
  Said r m = Sends h (send_leaves r m)

  abbrev pub Back : Val → Departure → Link → SProp 𝓤
  Back = loans.Back 𝓛 α δ N.the_row Said

  pub given_back : (v : Val) → ent 𝓤 ((Lent 𝓛 at_mem run).post to_lent v) (H.⇛ (ex 𝓤 (λ (r : Departure). ex 𝓤 (Back v r))))
  given_back v = loans.gives 𝓛 α δ N.the_row Said v _
      (ensured 𝓛 lent.ended (lent.clauses 𝓛 at_mem run) (α ∷ [], tt) to_lent.0.3 tt) (id⊢ 𝓤 _)
      (loans.told 𝓛 α δ N.the_row Said (λ ws. ws.0) (λ ws. sem 𝓛 (lasts lent.ended (α ∷ [], tt) to_lent.0.3 ws))
      (λ ws. qed 𝓛 (‵ (lasts lent.ended (α ∷ [], tt) to_lent.0.3 ws) ∷ []) ∵ fsplit ! $ fsplit ! $ keep ! (0 ∷ []) $ done !))
