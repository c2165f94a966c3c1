-- The fields of a link record behind a reference, each in a cell of its own: what a walk reads, stores and lends. Demand 2.
--     value_at, Fits, typed   the machine value of a field's value, that it is one, and that it has the field's type
--     cell        a field's cell.        apart, together     the record's cell is its fields' cells, and back, at whatever values they
--         then hold
--     as_held     a record whose arrays are handed on as `map` of the identity over their lists is that record
--     Arrays, of_each         of each of the waiting places' three arrays, one thing; what is said of each of them
--     lent_out, come_back, come_back_at       the three lent as `&` or as `&mut` for one lifetime, and taken back as they were or at their
--         last values
--     by_value    the fields that a call takes by value
use Prim.Native.Nat.{ℕ, zero, ◌+◌}
use mathlib.Core.Path.{◌≡◌, sym, subst}
use mathlib.Core.List.{List, [], ◌∷◌, map, map-id}
use seplogic.Ra.Ura.{Ura}
use base.Fraction.{full_share}
use mir.Syntax.{Ty, Tys, tnil, tcons, ty_struct, named, w8, w16, w32, w64}
use mir.Raw.{raw as raw_ty}
use mir.Val.{Val, Vals, vnil, vcons, vstruct, vptr}
use base.Logic.{SProp, ent, sep, emp, ex, wand, guard, all, all_e, via, mono_r, assoc∗, snd∗, apply∗}
use base.Fml.{Fml, GName, ftrue, fsep, fat, flft, fdead, flent, fres}
use prog.Model.{fields_at}
use prog.Wp.{Heap}
use types.Logic.{Logic, sem}
use types.SemTy.{Body}
use types.Kit.{Item, Goal, Soaks, Seq, Step, step, ‵, raw, ◌⊛◌, some, later, given, ◌$◌, ◌∵◌, !, qed, move, drop, use1, use2}
use types.Kit.{by, split, group, pick, learn, check, await, updating, now as at_once, show, fsplit, fjoin, fpick, fpack, mean, ⋆, push, pop, done}
use types.Tokens.{lft_new, lft_end}
use denote.RattleType.{RattleType}
use denote.Laws.{Is, Typed, Tells, Makes, shows}
use denote.Memory.{mem, part_at, part_of, cell_at, lone}
use denote.Array.{Array, Array-Makes}
use denote.Plain.{uint_Makes}
use denote.Builtin.{u8, u16, u32, u64}
use denote.Ref.{Bor, MutBor, ShrRef, MutRef}
use denote.Lend.{lends_free, lends_ref, ref_back}
use denote.Copied.{Copied}
use denote.Struct.Field.{u16-field, u32-field, u64-field}
use denote.Steps.{owned, nothing, peeks}
use denote.Struct.Steps.{spelt}
use denote.Struct.At.{FieldAt, law_at, val_at, IsAt, Are}
use denote.Struct.Laws as LL
use Rattle.tree.specs.declared.Tree.{Tree}
use Rattle.state.specs.declared.Link.{Link}
use Rattle.state.specs.declared.Round.{Round}
use Rattle.state.specs.declared.Totals.{Totals}
use Rattle.state.specs.State.{link_of}
use Rattle.tree.specs.contracts.Tree as T
use Rattle.tree.proofs.Tree.TheLaws as T'
use Rattle.state.specs.contracts.Round as R
use Rattle.state.proofs.Round.TheLaws as R'
use Rattle.state.specs.contracts.Totals as Q
use Rattle.state.proofs.Totals.TheLaws as Q'
use Rattle.state.specs.contracts.Link as L
use Rattle.state.proofs.Link.TheLaws as L'
use Rattle.lent_parts.proofs.Lends.{lval, Known}

abbrev pub row_at : ℕ → RattleType
row_at k = (FieldAt (L.the_type).parts k).row

abbrev pub type_at : ℕ → Ty
type_at k = lone (row_at k).mir

abbrev pub value_at : (k : ℕ) → (FieldAt (L.the_type).parts k).Value → Val
value_at k x = val_at (L.the_type).parts L'.the_laws k x

abbrev vals_at : (k : ℕ) → (row_at k).Denot → List Val
vals_at k x = (law_at (L.the_type).parts L'.the_laws k).val x ∷ []

abbrev pub Fits : (k : ℕ) → (FieldAt (L.the_type).parts k).Value → Type 0
Fits k x = IsAt (L.the_type).parts L'.the_laws k x

-- what is known of a record is what is known of each field
abbrev pub fields_of : (h : Link) → Known h → Are (L.the_type).parts L'.the_laws ((L.struct).as_values h)
fields_of h is = LL.owed L.the_type L'.the_laws h (lval h ∷ []) is

-- a list of numbers as `map` of the identity over it, which is the list, but not by computation
abbrev pub same : List ℕ → List ℕ
same xs = map (λ v. v) xs

-- the record that is handed on with its arrays' lists so, which is the record that is held
abbrev pub handed : Link → Link
handed h =
    link_of h.tree (same h.lengths) (same h.tags) (same h.marks) (same h.start) (same h.held) h.totals h.round

pub as_held : (h : Link) → handed h ≡ h
as_held h = λ i. record {
  tree = h.tree;
  lengths = map-id h.lengths i;
  tags = map-id h.tags i;
  marks = map-id h.marks i;
  start = map-id h.start i;
  held = map-id h.held i;
  totals = h.totals;
  round = h.round;
}

-- what a call over fields takes by value before all else, a record's fields but for its waiting places; and their machine values
abbrev pub small : {R : Type 0} → Link → R → Tree × (List ℕ × (List ℕ × (Totals × (Round × R))))
small h rest = (h.tree, (same h.start, (same h.held, (h.totals, (h.round, rest)))))

abbrev pub small_vals : {R : Type 0} → Link → R → List Val × (List Val × (List Val × (List Val × (List Val × R))))
small_vals h rest = (
  value_at 0 h.tree ∷ [],
  (value_at 4 h.start ∷ [], (value_at 5 h.held ∷ [], (value_at 6 h.totals ∷ [], (value_at 7 h.round ∷ [], rest)))),
)

abbrev field_types : Tys
field_types =
    tcons (raw_ty (type_at 0)) (tcons (raw_ty (type_at 1)) (tcons (raw_ty (type_at 2)) (tcons (raw_ty (type_at 3)) (tcons (raw_ty (type_at 4))
    (tcons (raw_ty (type_at 5)) (tcons (raw_ty (type_at 6)) (tcons (raw_ty (type_at 7)) tnil)))))))

abbrev values : Link → Vals
values h =
    vcons (value_at 0 h.tree) (vcons (value_at 1 h.lengths) (vcons (value_at 2 h.tags) (vcons (value_at 3 h.marks)
    (vcons (value_at 4 h.start) (vcons (value_at 5 h.held) (vcons (value_at 6 h.totals) (vcons (value_at 7 h.round) vnil)))))))

module _ {M : Type 1} {𝓤 : Ura M} (𝓛 : Logic 𝓤) where
  pub typed : (k : ℕ) (x : (FieldAt (L.the_type).parts k).Value) → Fits k x
      → Typed (row_at k).mir (value_at k x ∷ [])
  typed k x is = ((law_at (L.the_type).parts L'.the_laws k).lawful 𝓛).typed ((FieldAt (L.the_type).parts k).into x) (value_at k x ∷ []) is

abbrev pub cell : (k d b o : ℕ) → Val → Fml
cell k d b o v = fat full_share (raw_ty (type_at k)) b (o + d) v

module _ {M : Type 1} (𝓤 : Ura M) (H : Heap 𝓤) (b o : ℕ) where
  -- the way back from the fields' cells to the record's
  abbrev pub Way : SProp 𝓤
  Way = all 𝓤 (λ (us : Vals). wand 𝓤 (fields_at 𝓤 H full_share field_types zero b o us)
      (H.at full_share (ty_struct [] field_types) b o (vstruct us)))

  way_back : (us : Vals)
      → ent 𝓤 (sep 𝓤 (fields_at 𝓤 H full_share field_types zero b o us) Way) (H.at full_share (ty_struct [] field_types) b o (vstruct us))
  way_back us =
      via 𝓤 (sep 𝓤 (fields_at 𝓤 H full_share field_types zero b o us)
      (wand 𝓤 (fields_at 𝓤 H full_share field_types zero b o us) (H.at full_share (ty_struct [] field_types) b o (vstruct us))))
      (mono_r 𝓤 (fields_at 𝓤 H full_share field_types zero b o us)
      (all_e 𝓤 (λ (ws : Vals). wand 𝓤 (fields_at 𝓤 H full_share field_types zero b o ws)
      (H.at full_share (ty_struct [] field_types) b o (vstruct ws))) us))
      (apply∗ 𝓤 (fields_at 𝓤 H full_share field_types zero b o us) (H.at full_share (ty_struct [] field_types) b o (vstruct us)))

-- a record's cells, in the order of its fields
abbrev cells : Link → (b o : ℕ) → List Fml
cells h b o =
    cell 0 0 b o (value_at 0 h.tree) ∷ cell 1 472 b o (value_at 1 h.lengths) ∷ cell 2 4_568 b o (value_at 2 h.tags)
    ∷ cell 3 12_760 b o (value_at 3 h.marks) ∷ cell 4 29_144 b o (value_at 4 h.start) ∷ cell 5 29_208 b o (value_at 5 h.held)
    ∷ cell 6 29_272 b o (value_at 6 h.totals) ∷ cell 7 30_304 b o (value_at 7 h.round) ∷ []

-- formulas as entries before others, and as one entry
abbrev pub before : {M : Type 1} {𝓤 : Ura M} → List Fml → List (Item 𝓤) → List (Item 𝓤)
before [] Γ = Γ
before (f ∷ fs) Γ = ‵ f ∷ before fs Γ

abbrev pub as_one : {M : Type 1} {𝓤 : Ura M} → List Fml → Item 𝓤
as_one [] = ‵ ftrue
as_one (f ∷ fs) = ‵ f ⊛ as_one fs

apart⊢ : {M : Type 1} {𝓤 : Ura M} (𝓛 : Logic 𝓤) (fs : List Fml) (Γ : List (Item 𝓤))
    → ent 𝓤 (sep 𝓤 (mean 𝓛 (as_one fs)) (⋆ 𝓛 Γ)) (⋆ 𝓛 (before fs Γ))
apart⊢ {𝓤 = 𝓤} 𝓛 [] Γ = snd∗ 𝓤 (emp 𝓤) (⋆ 𝓛 Γ)
apart⊢ {𝓤 = 𝓤} 𝓛 (f ∷ fs) Γ =
    via 𝓤 _ (assoc∗ 𝓤 (sem 𝓛 f) (mean 𝓛 (as_one fs)) (⋆ 𝓛 Γ))
    (via 𝓤 _ (mono_r 𝓤 (sem 𝓛 f) (apart⊢ 𝓛 fs Γ)) (push 𝓛 (‵ f) (before fs Γ)))

module _ {M : Type 1} {𝓤 : Ura M} {𝓛 : Logic 𝓤} {K : Type 0} {Γ : List (Item 𝓤)} {G : Goal 𝓤 𝓛.H} where
  pub one_by_one : K → (fs : List Fml) → Step K 𝓛 (before fs Γ) G (as_one fs ∷ Γ) G
  one_by_one t fs = step (λ s. by t (via 𝓤 _ (pop 𝓛 (as_one fs) Γ) (via 𝓤 _ (apart⊢ 𝓛 fs Γ) s.prf)))

module _ {M : Type 1} {𝓤 : Ura M} {𝓛 : Logic 𝓤} {K : Type 0} {Γ : List (Item 𝓤)} {G : Goal 𝓤 𝓛.H} where
  open 𝓛 use {H}

  pub apart : K → (h : Link) (b o : ℕ)
      → Step K 𝓛 (before (cells h b o) (raw (Way 𝓤 H b o) ∷ Γ)) G (‵ (cell_at full_share (L.the_row).mir (lval h ∷ []) b o) ∷ Γ) G
  apart t h b o = step (λ s.
      use1 𝓛 (as_one (cells h b o) ⊛ raw (Way 𝓤 H b o)) (𝓛.laws.at_fields full_share [] field_types b o (values h)) $ split t $
      one_by_one t (cells h b o) $ s)

  pub together : K → (m : Link) (b o : ℕ)
      → Step K 𝓛 (‵ (cell_at full_share (L.the_row).mir (lval m ∷ []) b o) ∷ Γ) G (before (cells m b o) (raw (Way 𝓤 H b o) ∷ Γ)) G
  together t m b o = step (λ s.
      nothing t $ move t (1 ∷ 2 ∷ 3 ∷ 4 ∷ 5 ∷ 6 ∷ 7 ∷ 8 ∷ 0 ∷ []) $ group t 9 $
      use2 𝓛 (‵ (cell_at full_share (L.the_row).mir (lval m ∷ []) b o)) (way_back 𝓤 H b o (values m)) $ s)

-- a value in a cell lies there, and back
module _ {M : Type 1} {𝓤 : Ura M} (𝓛 : Logic 𝓤) (R : RattleType) (x : R.Denot) (b o : ℕ) where
  lies : Makes 𝓛 R (Is R) → (v : Val) → Is R x (v ∷ [])
      → ent 𝓤 (sem 𝓛 (cell_at full_share R.mir (v ∷ []) b o)) (sem 𝓛 ((mem R).own_at x b o))
  unfolding part_of
  lies makes v is =
      qed 𝓛 (‵ (cell_at full_share R.mir (v ∷ []) b o) ∷ []) ∵ owned ! R (Is R) makes x (v ∷ []) is $ move ! (1 ∷ 0 ∷ []) $ fjoin ! $
      fpack ! (List Val) (λ us. fsep (cell_at full_share R.mir us b o) (R.own_val x us)) (v ∷ []) $ done !

  lay : (vals : R.Denot → List Val) → Tells R (Is R) vals
      → ent 𝓤 (sem 𝓛 ((mem R).own_at x b o)) (guard 𝓤 (Is R x (vals x)) (sem 𝓛 (cell_at full_share R.mir (vals x) b o)))
  unfolding part_of
  lay vals tells =
      qed 𝓛 (‵ ((mem R).own_at x b o) ∷ []) ∵ fpick ! (λ vs. fsplit ! $ spelt ! R (Is R) (shows 𝓛 R) vals tells full_share x vs b o $
      move ! (1 ∷ []) $ peeks ! R (Is R) (shows 𝓛 R) x (vals x) (λ is. drop ! $ check ! is $ done !))

-- the waiting places' arrays, which a call has lent for one lifetime: of each array one X, its list or the name that it is lent under
pub record Arrays (X : Type 0) : Type 0 where
  pub lengths : X
  pub tags : X
  pub marks : X

abbrev pub waiting : Link → Arrays (List ℕ)
waiting h = record { lengths = h.lengths; tags = h.tags; marks = h.marks }

abbrev pub sames : Arrays (List ℕ) → Arrays (List ℕ)
sames w = record { lengths = same w.lengths; tags = same w.tags; marks = same w.marks }

alike : (w : Arrays (List ℕ)) → sames w ≡ w
alike w = λ i. record { lengths = map-id w.lengths i; tags = map-id w.tags i; marks = map-id w.marks i }

abbrev pub AllFit : Arrays (List ℕ) → Type 0
AllFit w = Fits 1 w.lengths × (Fits 2 w.tags × Fits 3 w.marks)

pub waiting_fit : (h : Link) → Known h → AllFit (waiting h)
waiting_fit h is =
    let ps = fields_of h is in
    (ps.1.0, (ps.1.1.0, ps.1.1.1.0))

abbrev array_cells : Arrays (List ℕ) → (b o : ℕ) → List Fml
array_cells w b o =
    cell 1 472 b o (value_at 1 w.lengths) ∷ cell 2 4_568 b o (value_at 2 w.tags) ∷ cell 3 12_760 b o (value_at 3 w.marks) ∷ []

-- what is said of a value that lies somewhere and is lent for a lifetime under a name; and of each array
abbrev OfLent : Type 1
OfLent = (R : RattleType) → R.Denot → (b o α : ℕ) → GName → Fml

abbrev pub of_each : OfLent → Arrays (List ℕ) → (b o α : ℕ) → Arrays GName → List Fml
of_each F w b o α n =
    F (row_at 1) w.lengths b (o + 472) α n.lengths ∷ F (row_at 2) w.tags b (o + 4_568) α n.tags
    ∷ F (row_at 3) w.marks b (o + 12_760) α n.marks ∷ []

-- what a call takes of the three, lent as `&mut`, and lent as `&`, which has no name
abbrev pub to : {X : Type 0} (b o : ℕ) → GName → X → MutBor X
to b o γ x = record { ref_ptr = (b, o); ghost_name = γ; now = x }

abbrev pub refs : {R : Type 0} (b o : ℕ) → Arrays GName → Link → R → MutBor (List ℕ) × (MutBor (List ℕ) × (MutBor (List ℕ) × R))
refs b o n h rest = (
  to b (o + 472) n.lengths (same h.lengths),
  (to b (o + 4_568) n.tags (same h.tags), (to b (o + 12_760) n.marks (same h.marks), rest)),
)

abbrev pub at : {X : Type 0} (b o : ℕ) → X → Bor X
at b o x = record { ref_ptr = (b, o); now = x }

abbrev pub shr_refs : {R : Type 0} (b o : ℕ) → Link → R → Bor (List ℕ) × (Bor (List ℕ) × (Bor (List ℕ) × R))
shr_refs b o h rest = (
  at b (o + 472) (same h.lengths),
  (at b (o + 4_568) (same h.tags), (at b (o + 12_760) (same h.marks), rest)),
)

abbrev pub ref_vals : {R : Type 0} (b o : ℕ) → R → List Val × (List Val × (List Val × R))
ref_vals b o rest = (vptr b (o + 472) ∷ [], (vptr b (o + 4_568) ∷ [], (vptr b (o + 12_760) ∷ [], rest)))

-- what a `&` and a `&mut` own, what the lender of each waits for, and the last value of what was lent as `&mut`
abbrev pub shr : OfLent
shr R x b o α γ = (ShrRef (named 0) (α ∷ []) R).own_val (at b o x) (vptr b o ∷ [])

abbrev pub mut : OfLent
mut R x b o α γ = (MutRef (named 0) (α ∷ []) R).own_val (to b o γ x) (vptr b o ∷ [])

abbrev pub shr_held : OfLent
shr_held R x b o α γ = flent (α ∷ []) (part_at R full_share x b o)

abbrev pub mut_held : OfLent
mut_held R x b o α γ = flent (α ∷ []) (Body (mem R) b o γ)

abbrev pub last : OfLent
last R x b o α γ = fres γ (R.coded.code x)

-- a law of lending, for every type that can be copied, and one of taking back once the lifetime is over
module _ {M : Type 1} {𝓤 : Ura M} (𝓛 : Logic 𝓤) where
  open 𝓛 use {H, A}

  abbrev LendsAt : RattleType → OfLent → OfLent → Type 1
  LendsAt R Own Held = (x : R.Denot) (b o α : ℕ) → ent 𝓤 (sem 𝓛 (part_at R full_share x b o))
      (H.⇛ (ex 𝓤 (λ (γ : GName). sep 𝓤 (sem 𝓛 (Own R x b o α γ)) (sem 𝓛 (Held R x b o α γ)))))

  abbrev Lends : OfLent → OfLent → Type 1
  Lends Own Held = (R : RattleType) → Copied 𝓛 R → LendsAt R Own Held

  abbrev Returns : OfLent → Type 1
  Returns Back = (R : RattleType) (x : R.Denot) (b o α : ℕ) (γ : GName)
      → ent 𝓤 (sep 𝓤 (A.dead (α ∷ [])) (sem 𝓛 (Back R x b o α γ))) (H.⇛ (sem 𝓛 (part_at R full_share x b o)))

module _ {M : Type 1} {𝓤 : Ura M} (𝓛 : Logic 𝓤) where
  pub shr_lends : Lends 𝓛 shr shr_held
  shr_lends R copied x b o α =
      qed 𝓛 (‵ (part_at R full_share x b o) ∷ []) ∵ updating ! $
      use1 𝓛 (later (‵ (shr R x b o α zero) ⊛ ‵ (shr_held R x b o α zero)))
      (lends_free 𝓛 R (named 0) (α ∷ []) full_share x b o (copied.lends full_share x b o)) $ await ! tt $ at_once ! $
      show ! (λ (γ : GName). sep 𝓤 (sem 𝓛 (shr R x b o α γ)) (sem 𝓛 (shr_held R x b o α γ))) zero $ done !

  pub shr_returns : Returns 𝓛 shr_held
  shr_returns R x b o α γ = 𝓛.bors.lent_back (α ∷ []) (part_at R full_share x b o)

  pub mut_lends : (R : RattleType) → LendsAt 𝓛 R mut mut_held
  mut_lends R x b o α = lends_ref 𝓛 R (named 0) (α ∷ []) x b o

  -- the arrays can be copied
  lengths_copied : Copied 𝓛 (row_at 1)
  lengths_copied = (LL.array_copy u16-field LL.u16-copy 2_048).copied M 𝓤 𝓛

  tags_copied : Copied 𝓛 (row_at 2)
  tags_copied = (LL.array_copy u32-field LL.u32-copy 2_048).copied M 𝓤 𝓛

  marks_copied : Copied 𝓛 (row_at 3)
  marks_copied = (LL.array_copy u64-field LL.u64-copy 2_048).copied M 𝓤 𝓛

module _ {M : Type 1} {𝓤 : Ura M} {𝓛 : Logic 𝓤} {K : Type 0} {Γ : List (Item 𝓤)} {G : Goal 𝓤 𝓛.H} where
  -- one field that is in its cell, lent
  one_lent : K → Soaks G → (Own Held : OfLent) → Lends 𝓛 Own Held → (k d : ℕ) → Copied 𝓛 (row_at k) → Makes 𝓛 (row_at k) (Is (row_at k))
      → (x : (row_at k).Denot) → Is (row_at k) x (vals_at k x) → (b o α : ℕ)
      → ((γ : GName) → Seq K 𝓛 (‵ (Own (row_at k) x b (o + d) α γ) ∷ ‵ (Held (row_at k) x b (o + d) α γ) ∷ Γ) G)
      → Seq K 𝓛 (‵ (cell_at full_share (row_at k).mir (vals_at k x) b (o + d)) ∷ Γ) G
  one_lent t z Own Held law k d copied makes x is b o α next =
      use1 𝓛 (‵ (part_at (row_at k) full_share x b (o + d))) (lies 𝓛 (row_at k) x b (o + d) makes _ is) $
      use1 𝓛 (later (some (λ (γ : GName). ‵ (Own (row_at k) x b (o + d) α γ) ⊛ ‵ (Held (row_at k) x b (o + d) α γ))))
      (law (row_at k) copied x b (o + d) α) $ await t z $ pick t (λ γ. split t $ next γ)

  -- and taken back
  one_back : K → Soaks G → (Back : OfLent) → Returns 𝓛 Back → (k d : ℕ) (x : (row_at k).Denot) (b o α : ℕ) (γ : GName)
      → (Is (row_at k) x (vals_at k x)
      → Seq K 𝓛 (‵ (cell_at full_share (row_at k).mir (vals_at k x) b (o + d)) ∷ ‵ (fdead (α ∷ [])) ∷ Γ) G)
      → Seq K 𝓛 (‵ (fdead (α ∷ [])) ∷ ‵ (Back (row_at k) x b (o + d) α γ) ∷ Γ) G
  one_back t z Back law k d x b o α γ next =
      use1 𝓛 (‵ (fdead (α ∷ [])) ⊛ ‵ (fdead (α ∷ []))) (𝓛.lfts.dead_dup (α ∷ [])) $ split t $ move t (1 ∷ 2 ∷ []) $
      use2 𝓛 (later (‵ (part_at (row_at k) full_share x b (o + d)))) (law (row_at k) x b (o + d) α γ) $ await t z $
      use1 𝓛 (given (Is (row_at k) x (vals_at k x)) (‵ (cell_at full_share (row_at k).mir (vals_at k x) b (o + d))))
      (lay 𝓛 (row_at k) x b (o + d) (vals_at k) (law_at (L.the_type).parts L'.the_laws k).tells) $ learn t next

module _ {M : Type 1} {𝓤 : Ura M} {𝓛 : Logic 𝓤} {K : Type 0} {Γ : List (Item 𝓤)} {G : Goal 𝓤 𝓛.H} where
  -- the lengths alone lent as `&`
  pub lengths_shared : K → Soaks G → (xs : List ℕ) (b o : ℕ) → Fits 1 xs
      → ((α : ℕ) (γ : GName) → Seq K 𝓛 (‵ (flft (α ∷ []) full_share) ∷ ‵ (shr (row_at 1) (same xs) b (o + 472) α γ)
      ∷ ‵ (shr_held (row_at 1) (same xs) b (o + 472) α γ) ∷ Γ) G)
      → Seq K 𝓛 (‵ (cell 1 472 b o (value_at 1 xs)) ∷ Γ) G
  lengths_shared t z xs b o is k =
      let Next : List ℕ → Type 1 = λ ys. (α : ℕ) (γ : GName) → Seq K 𝓛 (‵ (flft (α ∷ []) full_share)
      ∷ ‵ (shr (row_at 1) ys b (o + 472) α γ) ∷ ‵ (shr_held (row_at 1) ys b (o + 472) α γ) ∷ Γ) G in
      let next : Next xs = subst Next (map-id xs) k in
      lft_new t z (λ α. move t (1 ∷ []) $
      one_lent t z shr shr_held (shr_lends 𝓛) 1 472 (lengths_copied 𝓛) (Array-Makes 𝓛 u16 (uint_Makes 𝓛 w16) 2_048) xs is b o α
      (λ γ. move t (2 ∷ []) $ next α γ))

  -- and taken back, as they were
  pub lengths_unshared : K → Soaks G → (xs : List ℕ) (b o : ℕ) {α : ℕ} (γ : GName)
      → Step K 𝓛 (‵ (cell 1 472 b o (value_at 1 xs)) ∷ Γ) G
      (‵ (flft (α ∷ []) full_share) ∷ ‵ (shr_held (row_at 1) (same xs) b (o + 472) α γ) ∷ Γ) G
  lengths_unshared t z xs b o {α} γ = step (λ s.
      subst (λ (ys : List ℕ). Seq K 𝓛 (‵ (flft (α ∷ []) full_share) ∷ ‵ (shr_held (row_at 1) ys b (o + 472) α γ) ∷ Γ) G) (sym (map-id xs))
      (lft_end t z $ one_back t z shr_held (shr_returns 𝓛) 1 472 xs b o α γ (λ is. move t (1 ∷ []) $ drop t $ s)))

  -- all three lent for one lifetime
  pub lent_out : K → Soaks G → (Own Held : OfLent) → Lends 𝓛 Own Held → (w : Arrays (List ℕ)) (b o : ℕ) → AllFit w
      → ((α : ℕ) (n : Arrays GName) → Seq K 𝓛 (‵ (flft (α ∷ []) full_share)
      ∷ before (of_each Own (sames w) b o α n) (before (of_each Held (sames w) b o α n) Γ)) G)
      → Seq K 𝓛 (before (array_cells w b o) Γ) G
  lent_out t z Own Held law w b o fit k =
      let Next : Arrays (List ℕ) → Type 1 = λ u. (α : ℕ) (n : Arrays GName) → Seq K 𝓛 (‵ (flft (α ∷ []) full_share)
      ∷ before (of_each Own u b o α n) (before (of_each Held u b o α n) Γ)) G in
      let next : Next w = subst Next (alike w) k in
      lft_new t z (λ α. move t (1 ∷ []) $
      one_lent t z Own Held law 1 472 (lengths_copied 𝓛) (Array-Makes 𝓛 u16 (uint_Makes 𝓛 w16) 2_048) w.lengths fit.0 b o α
      (λ γ₁. move t (3 ∷ []) $
      one_lent t z Own Held law 2 4_568 (tags_copied 𝓛) (Array-Makes 𝓛 u32 (uint_Makes 𝓛 w32) 2_048) w.tags fit.1.0 b o α
      (λ γ₂. move t (5 ∷ []) $
      one_lent t z Own Held law 3 12_760 (marks_copied 𝓛) (Array-Makes 𝓛 u64 (uint_Makes 𝓛 w64) 2_048) w.marks fit.1.1 b o α
      -- [marks; the lender's part; tags; the lender's part; lengths; the lender's part; the token]
      (λ γ₃. move t (6 ∷ 4 ∷ 2 ∷ 0 ∷ 5 ∷ 3 ∷ 1 ∷ []) $ next α (record { lengths = γ₁; tags = γ₂; marks = γ₃ })))))

module _ {M : Type 1} {𝓤 : Ura M} {𝓛 : Logic 𝓤} {K : Type 0} {Γ : List (Item 𝓤)} {G : Goal 𝓤 𝓛.H} where
  -- and taken back
  all_back : K → Soaks G → (Back : OfLent) → Returns 𝓛 Back → (w : Arrays (List ℕ)) (b o : ℕ) {α : ℕ} (n : Arrays GName)
      → (AllFit w → Seq K 𝓛 (before (array_cells w b o) Γ) G)
      → Seq K 𝓛 (‵ (flft (α ∷ []) full_share) ∷ before (of_each Back w b o α n) Γ) G
  all_back t z Back law w b o {α} n k =
      lft_end t z $ move t (0 ∷ 3 ∷ []) $
      one_back t z Back law 3 12_760 w.marks b o α n.marks (λ is₃. move t (1 ∷ 3 ∷ []) $
      one_back t z Back law 2 4_568 w.tags b o α n.tags (λ is₂. move t (1 ∷ 3 ∷ []) $
      one_back t z Back law 1 472 w.lengths b o α n.lengths (λ is₁. move t (1 ∷ []) $ drop t $ k (is₁, (is₂, is₃)))))

module _ {M : Type 1} {𝓤 : Ura M} {𝓛 : Logic 𝓤} {K : Type 0} {Γ : List (Item 𝓤)} {G : Goal 𝓤 𝓛.H} where
  pub come_back : K → Soaks G → (Back : OfLent) → Returns 𝓛 Back → (w : Arrays (List ℕ)) (b o : ℕ) {α : ℕ} (n : Arrays GName)
      → (AllFit w → Seq K 𝓛 (before (array_cells w b o) Γ) G)
      → Seq K 𝓛 (‵ (flft (α ∷ []) full_share) ∷ before (of_each Back (sames w) b o α n) Γ) G
  come_back t z Back law w b o {α} n k =
      subst (λ (u : Arrays (List ℕ)). Seq K 𝓛 (‵ (flft (α ∷ []) full_share) ∷ before (of_each Back u b o α n) Γ) G) (sym (alike w))
      (all_back t z Back law w b o n k)

  -- and, lent as `&mut`, at their last values
  pub come_back_at : K → Soaks G → (w : Arrays (List ℕ)) (b o : ℕ) {α : ℕ} (n : Arrays GName)
      → (AllFit w → Seq K 𝓛 (before (array_cells w b o) Γ) G)
      → Seq K 𝓛 (‵ (flft (α ∷ []) full_share) ∷ before (of_each last w b o α n) (before (of_each mut_held w b o α n) Γ)) G
  come_back_at t z w b o {α} n k =
      move t (6 ∷ 3 ∷ []) $ fjoin t $ move t (5 ∷ 3 ∷ []) $ fjoin t $ move t (4 ∷ 3 ∷ []) $ fjoin t $ move t (3 ∷ []) $
      all_back t z (λ R x b o α γ. fsep (mut_held R x b o α γ) (last R x b o α γ))
      (λ R x b o α γ. ref_back 𝓛 R (α ∷ []) γ x b o) w b o n k

  -- the fields that a call takes by value, before what else it takes
  pub by_value : K → (h : Link) → Known h → {X : Fml}
      → Step K 𝓛
      (‵ (fsep ((T.the_row).own_val h.tree (value_at 0 h.tree ∷ [])) (fsep ((Array u8 64).own_val (same h.start) (value_at 4 h.start ∷ []))
      (fsep ((Array u8 64).own_val (same h.held) (value_at 5 h.held ∷ [])) (fsep ((Q.the_row).own_val h.totals (value_at 6 h.totals ∷ []))
      (fsep ((R.the_row).own_val h.round (value_at 7 h.round ∷ [])) X))))) ∷ Γ) G
      (‵ X ∷ Γ) G
  by_value t h is = step (λ s.
      let ps = fields_of h is in
      let Of : Val → List ℕ → Type 0 = λ v ys. Is (Array u8 64) ys (v ∷ []) in
      let start : Of (value_at 4 h.start) (same h.start) = subst (Of (value_at 4 h.start)) (sym (map-id h.start)) ps.1.1.1.1.0 in
      let held : Of (value_at 5 h.held) (same h.held) = subst (Of (value_at 5 h.held)) (sym (map-id h.held)) ps.1.1.1.1.1.0 in
      let bytes = Array-Makes 𝓛 u8 (uint_Makes 𝓛 w8) 64 in
      owned t R.the_row (Is R.the_row) (LL.makes R.the_type R'.the_plain 𝓛) h.round _ ps.1.1.1.1.1.1.1.0 $ fjoin t $
      owned t Q.the_row (Is Q.the_row) (LL.makes Q.the_type Q'.the_plain 𝓛) h.totals _ ps.1.1.1.1.1.1.0 $ fjoin t $
      owned t (Array u8 64) (Is (Array u8 64)) bytes (same h.held) _ held $ fjoin t $
      owned t (Array u8 64) (Is (Array u8 64)) bytes (same h.start) _ start $ fjoin t $
      owned t T.the_row (Is T.the_row) (LL.makes T.the_type T'.the_plain 𝓛) h.tree _ ps.0 $ fjoin t $ s)
