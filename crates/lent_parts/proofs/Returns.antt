-- What a walk has of a call that returned, whatever the call returns: `returned`, and `returned_with` where references are lent to it.
use mathlib.Core.List.{List, [], ◌∷◌}
use seplogic.Ra.Ura.{Ura}
use mir.Val.{Val}
use base.Logic.{SProp, ent}
use types.Logic.{Logic}
use contract.Monad.{fact}
use types.Kit.{Item, Goal, Soaks, Seq, ‵, raw, ◌⊛◌, some, later, mean, ◌$◌, move, drop, use1, split, pick, await, given, learn}
use denote.RattleType.{RattleType}
use denote.Laws.{Is, shows}
use denote.Steps.{peeks, heard}

-- the contract's end is the tokens, what the result owns and what the clause says of it: the clause and the result's relation are
-- learned, and the tokens stay
pub returned : {M : Type 1} {𝓤 : Ura M} {𝓛 : Logic 𝓤} {K : Type 0} {Γ : List (Item 𝓤)} {G : Goal 𝓤 𝓛.H} → K
    → Soaks G → (R : RattleType) (Said : R.Denot → Type 0) (tokens : Item 𝓤) (v : Val)
    (P : SProp 𝓤) (E : R.Denot → SProp 𝓤)
    → ent 𝓤 P (mean 𝓛 (later (some (λ (r : R.Denot). (tokens ⊛ ‵ (R.own_val r (v ∷ []))) ⊛ raw (E r)))))
    → ((r : R.Denot) → ent 𝓤 (E r) (fact 𝓤 (Said r)))
    → ((r : R.Denot) → Said r → Is R r (v ∷ []) → Seq K 𝓛 (tokens ∷ Γ) G) → Seq K 𝓛 (raw P ∷ Γ) G
returned {𝓤 = 𝓤} {𝓛} t z R Said tokens v P E opened said k =
    use1 𝓛 (later (some (λ (r : R.Denot). (tokens ⊛ ‵ (R.own_val r (v ∷ []))) ⊛ raw (E r)))) opened $ await t z $ pick t (λ r. split t $
    move t (1 ∷ []) $ use1 𝓛 (raw (fact 𝓤 (Said r))) (said r) $
    heard t (Said r) (λ e. split t $ move t (1 ∷ []) $ peeks t R (Is R) (shows 𝓛 R) r (v ∷ []) (λ is. drop t $ k r e is)))

-- the same of a call that has references lent as `&mut`: their last values are bound, the clause holds of them too, and what says them
-- stays
pub returned_with : {M : Type 1} {𝓤 : Ura M} {𝓛 : Logic 𝓤} {K : Type 0} {Γ : List (Item 𝓤)} {G : Goal 𝓤 𝓛.H}
    → K → Soaks G → (R : RattleType) {X : Type 0} (Said : R.Denot → X → Type 0)
    (left : X → Item 𝓤) (tokens : Item 𝓤) (v : Val) (P : SProp 𝓤) (E : R.Denot → SProp 𝓤)
    → ent 𝓤 P (mean 𝓛 (later (some (λ (r : R.Denot). (tokens ⊛ ‵ (R.own_val r (v ∷ []))) ⊛ raw (E r)))))
    → ((r : R.Denot) → ent 𝓤 (E r) (mean 𝓛 (some (λ (w : X). given (Said r w) (left w)))))
    → ((r : R.Denot) (w : X) → Said r w → Is R r (v ∷ []) → Seq K 𝓛 (tokens ∷ left w ∷ Γ) G) → Seq K 𝓛 (raw P ∷ Γ) G
returned_with {𝓤 = 𝓤} {𝓛} t z R {X} Said left tokens v P E opened said k =
    use1 𝓛 (later (some (λ (r : R.Denot). (tokens ⊛ ‵ (R.own_val r (v ∷ []))) ⊛ raw (E r)))) opened $ await t z $ pick t (λ r. split t $
    move t (1 ∷ []) $
    use1 𝓛 (some (λ (w : X). given (Said r w) (left w))) (said r) $ pick t (λ w. learn t (λ e. move t (1 ∷ []) $ split t $ move t (1 ∷ []) $
    peeks t R (Is R) (shows 𝓛 R) r (v ∷ []) (λ is. drop t $ k r w e is))))
