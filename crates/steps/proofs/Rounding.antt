-- Opening a round over the fields of a link.
use mathlib.Core.List.{List}
use mathlib.Core.Path.{◌≡◌, refl, sym, ap, ap₂, subst, ◌∙◌}
use Prim.Native.Nat.{ℕ, ◌+◌, ◌≤◌, ◌<◌}
use native.Mathlib.Omega.{arith}
use lib.ListN.{length, get_or}
use Rattle.checks.proofs.Laws.{not_true_and_false}
use Rattle.sets.specs.Set.{Both}
use Rattle.sets.proofs.Laws.{has_empty}
use Rattle.state.specs.declared.Account.{Account}
use Rattle.sound.specs.Sound.{SoundLink}
use Rattle.units.specs.declared.Bytes.{Bytes}
use Rattle.tree.specs.declared.Tree.{Tree}
use Rattle.tree.specs.Rules.{PlanRules}
use Rattle.state.specs.declared.Link.{Link}
use Rattle.state.specs.declared.Totals.{Totals}
use Rattle.state.specs.State.{meaning, round_of, link_of}
use Rattle.tree.proofs.Tables.{table_length}
use Rattle.rules.specs.Active.{upward, round_active, weight_sum}
use Rattle.rules.specs.Steps.{holds_some}
use Rattle.rules.specs.Opening.{next_kind, next_size, resized_accounts, opened_with, Covers}
use Rattle.rules.specs.Sending.{next_leaf}
use Rattle.rules.specs.Steps.{CanResize}
use Rattle.rules.proofs.Taken.{taken_same}
use Rattle.rules.proofs.Rounds.{leaf_most}
use Rattle.rules.proofs.Resized.{closing_covers}
use Rattle.rules.proofs.Opened.{can_resize, next_wide}
use Rattle.rules.specs.After.{opened_link}
use Rattle.rules.specs.Steps.{OnTheWay}
use Rattle.rules.proofs.OnTheWay.{way_starts, way_on}
use Rattle.rules.proofs.Meanings.{meaning_wide, waits_leaf, opened_means, opened_link_sound}
use Rattle.state.specs.Account.{zip_accounts}
use Rattle.opening.specs.Opens.{OpensWith}
use Rattle.steps.specs.Fields.{lent_link, Searched}
use Rattle.state.proofs.Zips.{zip_at}
use Rattle.active.specs.Known.{Raised, Summed}
pub use Rattle.active.proofs.Raised.{raised_none, raised_round}
use Rattle.steps.specs.Rounds.{InFields, Kept, Unseen, Opens, closed_link, open_link}

-- no set is known, and no weight sums are kept
pub none_kept : (t : Tree) (kept : List ℕ) → length kept ≡ 64 → PlanRules t → Kept t 0 kept
none_kept t kept wide rules = record {
  wide = wide;
  raised = raised_none t rules;
  sums = λ on. absurd (not_true_and_false on (has_empty 0));
}

-- the active set of a round is known, and its weight sums are kept
pub round_kept : (t : Tree) (held kept : List ℕ) (active known : ℕ) → PlanRules t → active ≡ upward t (holds_some t held) → known ≡ active
    → Summed t active kept → Kept t known kept
round_kept t held kept active known rules is same sums = record {
  wide = ap length sums ∙ table_length (weight_sum t active) 64;
  raised = subst (Raised t) (sym (same ∙ is)) (raised_round t held rules);
  sums = λ on. subst (λ (a : ℕ). Summed t a kept) (sym same) sums;
}

-- the root can take the difference of the sizes when a round opens on a link
abbrev pub CoversNext : Link → Type 0
CoversNext l = Covers (meaning l) (next_size (meaning l))

-- what the search and the sender ask of fields
module _
    {t : Tree} {size : Bytes} {active place : ℕ} (balance residual : List ℕ) {start held lengths tags marks : List ℕ} {totals : Totals}
    (s : InFields (lent_link t size active place balance residual start held lengths tags marks totals)) where
  pub fields_low : (i : ℕ) → i < 64 → get_or start i 0 < 32
  fields_low i u = omega (arith, (s.sound.starts i u).start)

  pub fields_searched : (leaves : ℕ) → Both active t.leaves leaves
      → Searched (lent_link t size active place balance residual start held lengths tags marks totals) leaves place balance start lengths
  fields_searched leaves b = record {
    sound = s.sound;
    both = b;
    at = refl;
    balances = λ i u. ap (λ (a : Account). a.balance.0) (zip_at balance residual i (omega (arith, s.wide)));
    starts = refl;
    lying = refl;
  }

  -- where the root can take the difference of the sizes an opening can be worked out
  pub fields_can : CoversNext (lent_link t size active place balance residual start held lengths tags marks totals)
      → (on : ℕ) → on ≡ round_active (meaning (lent_link t size active place balance residual start held lengths tags marks totals))
      → CanResize t on size.0 (zip_accounts balance residual)
  fields_can covers on is =
      let l = lent_link t size active place balance residual start held lengths tags marks totals in
      subst (λ (a : ℕ). CanResize t a size.0 (zip_accounts balance residual)) (sym is)
      (can_resize (meaning l) s.sound.state (meaning_wide l s.wide) covers)

  -- the size and the accounts of an opening make up the link when it has opened
  pub fields_opened : (on : ℕ) (new : Bytes) (b r : List ℕ)
      → on ≡ round_active (meaning (lent_link t size active place balance residual start held lengths tags marks totals))
      → OpensWith t on size.0 (zip_accounts balance residual) new.0 (zip_accounts b r)
      → lent_link t new on 1 b r start held lengths tags marks totals
      ≡ opened_link (lent_link t size active place balance residual start held lengths tags marks totals)
  unfolding opened_with next_kind next_size resized_accounts
  fields_opened on new b r is o =
      ap₂ (λ (n : ℕ) (xs : List Account). link_of t lengths tags marks start held totals (round_of n on 1 xs))
      o.size_is o.accounts_are
      ∙ rw is refl

  -- which is a sound link in fields
  pub fields_sound : CoversNext (lent_link t size active place balance residual start held lengths tags marks totals)
      → (on : ℕ) (new : Bytes) (b r : List ℕ)
      → lent_link t new on 1 b r start held lengths tags marks totals
      ≡ opened_link (lent_link t size active place balance residual start held lengths tags marks totals)
      → InFields (lent_link t new on 1 b r start held lengths tags marks totals)
  fields_sound covers on new b r e =
      let l = lent_link t size active place balance residual start held lengths tags marks totals in
      let wide = meaning_wide l s.wide in
      record {
        sound = subst SoundLink (sym e) (opened_link_sound l wide s.sound covers);
        wide = ap (λ (x : Link). length x.round.accounts) e ∙ (next_wide (meaning l) s.sound.state wide).accounts;
      }

-- ---- rounds are opened until a leaf sends

-- so far none was found: the round has closed, and the same classes are active in the next
pub record UnderWay (l₀ : Link) (t : Tree) (size : Bytes) (k : Unseen) (active : ℕ) (balance residual start lengths : List ℕ) (rounds : ℕ)
    : Type 0 where
  pub on : ℕ
  pub place : ℕ
  pub way : OnTheWay l₀ 64 (lent_link t size on place balance residual start k.held lengths k.tags k.marks k.totals) rounds
  pub taken : active ≡ round_active
      (meaning (lent_link t size on place balance residual start k.held lengths k.tags k.marks k.totals))

pub under_starts : (t : Tree) (size : Bytes) (k : Unseen) (active : ℕ) (balance residual start lengths : List ℕ)
    → Opens t size k active balance residual start lengths
    → UnderWay (closed_link t size k balance residual start lengths) t size k active balance residual start lengths 0
under_starts t size k active balance residual start lengths o = record {
  on = k.active;
  place = k.place;
  way =
      let p = o.shut.going.fields in
      let l = closed_link t size k balance residual start lengths in
      way_starts l 64 p.wide p.sound (waits_leaf (meaning l) o.shut.going.some) (sym o.shut.closed);
  taken = o.taken;
}

module _
    {l₀ : Link} {t : Tree} {size : Bytes} {k : Unseen} {active : ℕ} (balance residual : List ℕ) {start lengths : List ℕ} {rounds : ℕ}
    (w : UnderWay l₀ t size k active balance residual start lengths rounds) where
  abbrev here : Link
  here = lent_link t size w.on w.place balance residual start k.held lengths k.tags k.marks k.totals

  in_fields : InFields (lent_link t size w.on w.place balance residual start k.held lengths k.tags k.marks k.totals)
  in_fields = record { sound = w.way.sound; wide = w.way.many }

  -- its round has closed, so the root can take the difference
  covered : CoversNext here
  covered = closing_covers (meaning here) w.way.sound.state (meaning_wide here w.way.many) (sym w.way.next)

  -- an opening can be worked out
  pub under_can : CanResize t active size.0 (zip_accounts balance residual)
  under_can = fields_can balance residual in_fields covered active w.taken

  -- and the next round has opened
  module _ (new : Bytes) (b r : List ℕ) (y : OpensWith t active size.0 (zip_accounts balance residual) new.0 (zip_accounts b r)) where
    is_opened : open_link t new k active b r start lengths ≡ opened_link here
    is_opened = fields_opened balance residual in_fields active new b r w.taken y

    pub under_fields : InFields (lent_link t new active 1 b r start k.held lengths k.tags k.marks k.totals)
    under_fields = fields_sound balance residual in_fields covered active new b r is_opened

    -- a leaf is found in it, or none
    module _ (at : ℕ) (next : at ≡ next_leaf (meaning (open_link t new k active b r start lengths))) where
      pub under_finds : OnTheWay l₀ at (open_link t new k active b r start lengths) (rounds + 1)
      under_finds = way_on l₀ 64 here rounds (open_link t new k active b r start lengths) at w.way refl is_opened next

      pub under_on : 64 ≤ at → UnderWay l₀ t new k active b r start lengths (rounds + 1)
      under_on none = record {
        on = active;
        place = 1;
        way =
            subst (λ (i : ℕ). OnTheWay l₀ i (open_link t new k active b r start lengths) (rounds + 1))
            (omega (
              arith,
              none,
              next,
              leaf_most (meaning (open_link t new k active b r start lengths))
                  under_fields.sound.state,
            )) under_finds;
        taken =
            w.taken ∙ sym (taken_same _ (meaning here)) ∙ ap round_active (sym (opened_means here))
            ∙ ap (λ (l : Link). round_active (meaning l)) (sym is_opened);
      }
