-- What is decided of lent numbers is decided of the link that they were made of. Demand 1.
use Rattle.std.proofs.Common.{◌≡◌, ℕ, Bool, List, length, ◌∙◌, subst, ap₂}
use Rattle.checks.specs.Check.{Exactly}
use Rattle.tree.specs.declared.Tree.{Tree}
use Rattle.tree.specs.Sum.{table}
use Rattle.shape.specs.Shape.{tree_in}
use Rattle.state.specs.declared.Account.{Account}
use Rattle.state.specs.declared.Link.{Link}
use Rattle.state.specs.Account.{balance_of, residual_of, zip_accounts}
use Rattle.state.specs.State.{link_of, round_of}
use Rattle.state.proofs.Zips.{zip_fields}
use Rattle.sound.specs.Sound.{SoundLink}
use Rattle.sound.specs.Steps.{link_in}

module _
    (l : Link) (shape balance residual : List ℕ) (tree : tree_in shape ≡ l.tree) (many : length l.round.accounts ≡ 64)
    (b : balance ≡ table (balance_of l.round.accounts) 64) (r : residual ≡ table (residual_of l.round.accounts) 64) where
  -- the link that the numbers make up
  abbrev pub lent : Link
  lent =
      link_in shape l.round.size l.round.active l.round.place balance residual l.start l.held l.lengths l.tags
      l.marks l.totals.packets l.totals.bytes l.totals.charged

  pub lent_accounts : zip_accounts balance residual ≡ l.round.accounts
  lent_accounts = ap₂ zip_accounts b r ∙ zip_fields l.round.accounts many

  pub lent_is : lent ≡ l
  lent_is =
      ap₂ (λ (t : Tree) (xs : List Account). link_of t l.lengths l.tags l.marks l.start l.held l.totals
      (round_of l.round.size.0 l.round.active l.round.place xs)) tree lent_accounts

  pub lent_exactly : (sound : Bool) → Exactly sound (SoundLink lent) → Exactly sound (SoundLink l)
  lent_exactly sound told = subst (λ (x : Link). Exactly sound (SoundLink x)) lent_is told
