-- A link record behind a reference: what opens a `&mut Link` and closes it, and what lends a local that holds a record and takes it back.
-- Lemmas for a proof by hand: today the check proves each entry and each lender by itself. Demand 2.
--     lval, pval  the machine values of a record and of a packet.        Known       that the record is one that a `Link` can be
--     lies_in     what lies in the local is taken for what a borrow holds.        lies_out    and back, with the record's relation
--     ref, own_at     the reference that is lent, for a lifetime of the walk's own, and what it owns
--     opened, closed  a `&mut Link` is opened, which gives the record's cell with its machine value written out and the record's
--         relation, and closed at another record
use Prim.Native.Nat.{ℕ, zero}
use mathlib.Core.List.{[], ◌∷◌, List}
use seplogic.Ra.Ura.{Ura}
use base.Fraction.{full_share}
use mir.Syntax.{named}
use mir.Val.{Val, vptr}
use base.Logic.{ent, guard}
use base.Stored.{Gv}
use base.Fml.{Fml, GName, Lft, Share, fsep, fat, flft, fobs, fauth, fbor, fobor}
use types.Logic.{Logic, sem}
use types.Kit.{Item, Goal, Soaks, Seq, Step, step, ‵, ◌$◌, ◌∵◌, !, qed, by, move, drop, use1, check, fsplit, fjoin, fpick, fpack}
use types.Kit.{done}
use denote.Laws.{Is, shows}
use denote.Memory.{mem, cell_at, part_of}
use denote.Ref.{MutBor, MutRef}
use types.SemTy.{Body}
use denote.Steps.{opens, closes, owned, peeks}
use denote.Struct.Steps.{spelt}
use denote.Struct.Laws as LL
use Rattle.state.specs.declared.Link.{Link}
use Rattle.state.specs.declared.Packet.{Packet}
use Rattle.state.specs.contracts.Packet as P
use Rattle.state.proofs.Packet.TheLaws as P'
use Rattle.state.specs.contracts.Link as L
use Rattle.state.proofs.Link.TheLaws as L'

abbrev pub lval : Link → Val
lval h = LL.val L.the_type L'.the_laws h

abbrev pub Known : Link → Type 0
Known h = Is L.the_row h (lval h ∷ [])

-- a packet's machine value
abbrev pub pval : Packet → Val
pval p = LL.val P.the_type P'.the_laws p

abbrev pub ref : ℕ → GName → Link → MutBor Link
ref b δ h = record { ref_ptr = (b, zero); ghost_name = δ; now = h }

abbrev pub own_at : ℕ → ℕ → GName → Link → Fml
own_at b α δ h = (MutRef (named 0) (α ∷ []) L.the_row).own_val (ref b δ h) (vptr b zero ∷ [])

module _ {M : Type 1} {𝓤 : Ura M} (𝓛 : Logic 𝓤) (b : ℕ) (h : Link) where
  open 𝓛 use {H}

  pub lies_in : Known h → ent 𝓤 (H.at full_share L'.mir b zero (lval h)) (sem 𝓛 ((mem L.the_row).own_at h b zero))
  unfolding part_of
  lies_in is =
      qed 𝓛 (‵ (fat full_share L'.mir b zero (lval h)) ∷ [])
      ∵ use1 𝓛 (‵ (cell_at full_share (L.the_row).mir (lval h ∷ []) b zero)) (𝓛.laws.at_raw full_share L'.mir b zero (lval h)) $
      owned ! L.the_row (Is L.the_row) (LL.makes L.the_type L'.the_plain 𝓛) h _ is $ move ! (1 ∷ 0 ∷ []) $ fjoin ! $
      fpack ! (List Val) (λ us. fsep (cell_at full_share (L.the_row).mir us b zero) ((L.the_row).own_val h us)) (lval h ∷ []) $ done !

  pub lies_out : ent 𝓤 (sem 𝓛 ((mem L.the_row).own_at h b zero)) (guard 𝓤 (Known h) (H.at full_share L'.mir b zero (lval h)))
  unfolding part_of
  lies_out =
      qed 𝓛 (‵ ((mem L.the_row).own_at h b zero) ∷ []) ∵ fpick ! (λ vs. fsplit ! $
      spelt ! L.the_row (Is L.the_row) (shows 𝓛 L.the_row) (LL.vals L.the_type L'.the_laws) (LL.tells L.the_type L'.the_laws) full_share
      h vs b zero $
      move ! (1 ∷ []) $ peeks ! L.the_row (Is L.the_row) (shows 𝓛 L.the_row) h (lval h ∷ []) (λ is. drop ! $ check ! is $
      by ! (𝓛.laws.raw_at full_share L'.mir b zero (lval h))))

module _ {M : Type 1} {𝓤 : Ura M} {𝓛 : Logic 𝓤} {K : Type 0} {Γ : List (Item 𝓤)} {G : Goal 𝓤 𝓛.H} where
  pub opened : K → Soaks G → {κ : Lft} {q : Share} {γ : GName} (h : Link) (b o : ℕ)
      → (Known h → Seq K 𝓛 (‵ (cell_at full_share (L.the_row).mir (lval h ∷ []) b o) ∷ ‵ (fobor κ q (Body (mem L.the_row) b o γ))
      ∷ ‵ (fobs γ ((L.the_row).coded.code h)) ∷ ‵ (fauth γ ((L.the_row).coded.code h)) ∷ Γ) G)
      → Seq K 𝓛 (‵ (fobs γ ((L.the_row).coded.code h)) ∷ ‵ (fbor κ (Body (mem L.the_row) b o γ)) ∷ ‵ (flft κ q) ∷ Γ) G
  opened t z h b o k = opens t z L.the_row {h = h} b o (λ vs. spelt t L.the_row (Is L.the_row) (shows 𝓛 L.the_row)
      (LL.vals L.the_type L'.the_laws) (LL.tells L.the_type L'.the_laws) full_share h vs b o $
      move t (1 ∷ []) $ peeks t L.the_row (Is L.the_row) (shows 𝓛 L.the_row) h (lval h ∷ []) (λ is. drop t $ k is))

  pub closed : K → Soaks G → {κ : Lft} {q : Share} {u v : Gv} {γ : GName} (m : Link) → Known m → (b o : ℕ)
      → Step K 𝓛 (‵ (fobs γ ((L.the_row).coded.code m)) ∷ ‵ (fbor κ (Body (mem L.the_row) b o γ)) ∷ ‵ (flft κ q) ∷ Γ) G
      (‵ (cell_at full_share (L.the_row).mir (lval m ∷ []) b o) ∷ ‵ (fobor κ q (Body (mem L.the_row) b o γ)) ∷ ‵ (fobs γ u) ∷ ‵ (fauth γ v)
      ∷ Γ) G
  closed t z m is b o = step (λ s. owned t L.the_row (Is L.the_row) (LL.makes L.the_type L'.the_plain 𝓛) m (lval m ∷ []) is $
      move t (1 ∷ 0 ∷ []) $ closes t z L.the_row m (lval m ∷ []) b o $ s)
