-- The fields of a link that are lent: number arrays, accounts as two of them.
use Rattle.std.specs.Prelude.{Bool, List, ◌≡◌, ℕ, ◌<◌, length, get_or}
use Rattle.sets.specs.Set.{Both}
use Rattle.units.specs.declared.Bytes.{Bytes}
use Rattle.tree.specs.declared.Tree.{Tree}
use Rattle.state.specs.declared.Link.{Link}
use Rattle.state.specs.declared.Totals.{Totals}
use Rattle.state.specs.Account.{balance_of}
use Rattle.state.specs.State.{link_of, round_of}
pub use Rattle.state.specs.Queue.{queued}
use Rattle.sound.specs.Sound.{SoundLink}
pub use Rattle.totals.specs.WorkedOut.{totals_for}
use Rattle.rules.specs.Sending.{Books}
use Rattle.rules.specs.Steps.{SendsNext}
use Rattle.steps.specs.declared.Stand.{Stand}
use Rattle.state.specs.Account.{zip_accounts}

-- the link with these fields
abbrev pub lent_link : Tree → Bytes → ℕ → ℕ → List ℕ → List ℕ → List ℕ → List ℕ → List ℕ → List ℕ → List ℕ → Totals → Link
lent_link tree size active place balance residual start held lengths tags marks totals =
    link_of tree lengths tags marks start held totals (round_of size.0 active place (zip_accounts balance residual))

-- the link with this tree, standing here, with these arrays, of which it is told whether it is sound
abbrev pub link_at : Bool → Tree → Stand → List ℕ → List ℕ → List ℕ → List ℕ → List ℕ → List ℕ → List ℕ → List ℕ → List ℕ → Link
link_at sound tree stand balance residual start held lengths tags marks packets bytes =
    lent_link tree stand.size stand.active stand.place balance residual start held lengths tags marks
    (totals_for sound tree packets bytes stand.charged)

-- the books with these fields
abbrev pub books_of : ℕ → List ℕ → List ℕ → Books
books_of active balance residual = record { active = active; accounts = zip_accounts balance residual }

-- what a search reads of a link
pub record Searched (l : Link) (leaves place : ℕ) (balance start lengths : List ℕ) : Type 0 where
  pub sound : SoundLink l
  pub both : Both l.round.active l.tree.leaves leaves
  pub at : l.round.place ≡ place
  pub balances : (i : ℕ) → i < 64 → balance_of l.round.accounts i ≡ get_or balance i 0
  pub starts : l.start ≡ start
  pub lying : l.lengths ≡ lengths

-- leaf i sends next on the link with these fields
pub record GoesNext (t : Tree) (size : Bytes) (place i active : ℕ)
    (balance residual start held lengths tags marks : List ℕ) (totals : Totals) : Type 0 where
  pub wide : length (zip_accounts balance residual) ≡ 64
  pub next : SendsNext (lent_link t size active place balance residual start held lengths tags marks totals) i
