-- The accounts that a round shares out, once the root has taken the difference between the sizes. Demands 2 and 3.
use mathlib.Core.Bool.{false}
use mathlib.Core.List.{List}
use mathlib.Core.Path.{◌≡◌, refl, sym, ap, ◌∙◌}
use Prim.Native.Nat.{ℕ, ◌+◌, ◌-◌, ◌≤◌}
use native.Mathlib.Omega.{arith}
use lib.ListN.{length, length-set, set}
use lib.Seq.{get_or-set_same, get_or-set_other}
use Rattle.rules.proofs.Sizes.{main_low, main_right}
use Rattle.state.specs.declared.Account.{Account}
use Rattle.state.specs.Account.{no_account, account_of, funds_of, took_size}
use Rattle.state.specs.State.{State}
use Rattle.sound.specs.Sound.{Sound, total}
use Rattle.rules.specs.Active.{round_active, weight_sum}
use Rattle.rules.specs.Opening.{Kind, main, surplus, next_kind, next_size, resized_accounts, Resizes, Covers}
use Rattle.rules.specs.Sending.{next_leaf}
use Rattle.rules.specs.Wide.{Wide}
use Rattle.rules.proofs.Closing.{others_less}
use Rattle.rules.proofs.Stores.{total_set}

-- a round is a main round or a surplus round
pub main_or_surplus : {P : Type 0} (s : State) → (next_kind s ≡ main → P) → (next_kind s ≡ surplus → P) → P
main_or_surplus {P} s m x = go (next_kind s) refl
  where
    go : (k : Kind) → next_kind s ≡ k → P
    go main e = m e
    go surplus e = x e

-- both rules: the size that the tree's rule gives is one that a round may open with (R233)
pub next_resizes : (s : State) → Sound s → Resizes s (next_size s)
unfolding next_size
next_resizes s sound = record {
  right = main_or_surplus s (λ e. rw e (main_right s.tree (round_active s))) (λ e. rw e sound.fits.size);
  low = λ e. rw e (main_low s.tree (round_active s));
  kept = λ e. rw e refl;
}

module _ (s : State) (size : ℕ) where
  -- in a surplus round the accounts stay
  pub resized_surplus : next_kind s ≡ surplus → resized_accounts size s ≡ s.round.accounts
  unfolding resized_accounts
  resized_surplus e = rw e refl

  -- in a main round all but the root's
  pub resized_main : next_kind s ≡ main → resized_accounts size s
      ≡ set s.round.accounts 0 (took_size (account_of s.round.accounts 0) s.round.size.0 size)
  unfolding resized_accounts
  resized_main e = rw e refl

  pub resized_other : (i : ℕ) → 1 ≤ i → account_of (resized_accounts size s) i ≡ account_of s.round.accounts i
  resized_other i l =
      main_or_surplus s
      (λ e. ap (λ (xs : List Account). account_of xs i) (resized_main e)
      ∙ get_or-set_other s.round.accounts 0 i (took_size (account_of s.round.accounts 0) s.round.size.0 size) no_account
      (λ z. omega arith))
      (λ e. ap (λ (xs : List Account). account_of xs i) (resized_surplus e))

  pub resized_length : length (resized_accounts size s) ≡ length s.round.accounts
  resized_length =
      main_or_surplus s
      (λ e. ap length (resized_main e) ∙ length-set s.round.accounts 0
      (took_size (account_of s.round.accounts 0) s.round.size.0 size))
      (λ e. ap length (resized_surplus e))

  -- the root takes the difference
  pub resized_account : Wide s → next_kind s ≡ main
      → account_of (resized_accounts size s) 0 ≡ took_size (account_of s.round.accounts 0) s.round.size.0 size
  resized_account wide e =
      ap (λ (xs : List Account). account_of xs 0) (resized_main e)
      ∙ get_or-set_same s.round.accounts 0 (took_size (account_of s.round.accounts 0) s.round.size.0 size) no_account
      (omega (arith, wide.accounts))

  pub resized_root : Wide s → next_kind s ≡ main
      → funds_of (account_of (resized_accounts size s) 0) ≡ funds_of (account_of s.round.accounts 0) + size - s.round.size.0
  resized_root wide e = omega (arith, ap funds_of (resized_account wide e))

module _ (s : State) (size : ℕ) (sound : Sound s) (wide : Wide s) (fit : Resizes s size) where
  -- which gives no class more than the new size
  pub root_most : funds_of (account_of (resized_accounts size s) 0) ≤ size
  unfolding total
  root_most =
      main_or_surplus s
      (λ e. omega (arith, resized_root s size wide e, sound.adds.adds))
      (λ e. omega (arith, ap (λ (xs : List Account). funds_of (account_of xs 0)) (resized_surplus s size e), sound.adds.adds, fit.kept e))

  -- where it can take the difference, all B and R add to the new size
  pub resized_total : Covers s size → total (resized_accounts size s) ≡ size
  resized_total covers =
      main_or_surplus s
      (λ e.
      let stored = total_set s.round.accounts 0 (took_size (account_of s.round.accounts 0) s.round.size.0 size)
      wide.accounts (omega arith) in
      ap total (resized_main s size e) ∙ omega (arith, stored, covers e, sound.adds.adds))
      (λ e. ap total (resized_surplus s size e) ∙ sound.adds.adds ∙ sym (fit.kept e))

  -- under rule 1 it always can: the sizes are the same
  pub whole_covers : s.tree.follows ≡ false → Covers s size
  whole_covers rule e = omega (arith, fit.right.whole rule, sound.fits.size.whole rule)

  module _ (closed : next_leaf s ≡ 64) where
    -- under both rules it can at a closing: all but the root hold less than the new size, whatever the old one was (R231)
    pub never_below : Covers s size
    unfolding total
    never_below e = omega (arith, sound.adds.adds, others_less s sound closed e, fit.low e)

    -- and the root then has its weight sum at least
    pub resized_has : next_kind s ≡ main → weight_sum s.tree (round_active s) 0 ≤ funds_of (account_of (resized_accounts size s) 0)
    unfolding total
    resized_has e = omega (arith, resized_root s size wide e, sound.adds.adds, others_less s sound closed e, fit.low e)

-- at a closing the root can take the difference that the tree's rule gives; under rule 1 it can at any moment (R231)
pub closing_covers : (s : State) → Sound s → Wide s → next_leaf s ≡ 64 → Covers s (next_size s)
closing_covers s sound wide closed = never_below s (next_size s) sound wide (next_resizes s sound) closed

pub rule_1_covers : (s : State) → Sound s → Wide s → s.tree.follows ≡ false → Covers s (next_size s)
rule_1_covers s sound wide rule = whole_covers s (next_size s) sound wide (next_resizes s sound) rule
