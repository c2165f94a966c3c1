-- What the steps of an opening and of a send ask; no rule of its own.
use Rattle.std.specs.Prelude.{Bool, true, false, ◌&&◌, List, ◌≡◌, ℕ, ◌+◌, ◌-◌, ◌≤◌, ◌<◌, leb, length, get_or}
use Rattle.sets.specs.Set.{has}
use Rattle.tree.specs.declared.Tree.{Tree}
use Rattle.tree.specs.Class.{parent_of, is_class, is_leaf}
use Rattle.tree.specs.Rules.{PlanRules}
use Rattle.tree.specs.Size.{most_size, SizeRight}
use Rattle.state.specs.declared.Account.{Account}
use Rattle.state.specs.declared.Link.{Link}
use Rattle.state.specs.Account.{account_of, funds_of}
use Rattle.state.specs.State.{meaning}
use Rattle.sound.specs.Sound.{total, SoundLink}
use Rattle.rules.specs.Sizes.{main_size}
use Rattle.rules.specs.Opening.{main, kind_of, size_in, resized}
use Rattle.rules.specs.Sending.{next_leaf, Turn, sends, trace_of}
use Rattle.rules.specs.Within.{Within}
use Rattle.rules.specs.After.{link_in}

-- accounts on which a round can open: a plan's tree, no class holds more than the ceiling of Q, the parent of an active class is active,
-- and no number past the last class is
pub record CanOpen (t : Tree) (active : ℕ) (accounts : List Account) : Type 0 where
  pub rules : PlanRules t
  pub many : length accounts ≡ 64
  pub small : (i : ℕ) → i < 64 → funds_of (account_of accounts i) ≤ most_size
  pub upward : (i : ℕ) → is_class t i ≡ true → has active i ≡ true → has active (parent_of t i) ≡ true
  pub past : (i : ℕ) → t.count < i → has active i ≡ false

-- accounts on which a round can open with a size in force: the root can take the difference, and then they can open
pub record CanResize (t : Tree) (active size : ℕ) (accounts : List Account) : Type 0 where
  pub before : CanOpen t active accounts
  pub right : SizeRight t size
  pub covers : kind_of t active accounts ≡ main → size ≤ funds_of (account_of accounts 0) + main_size t active
  pub after : CanOpen t active (resized (kind_of t active accounts) size (size_in (kind_of t active accounts) t active size) accounts)

-- class i is a leaf that holds a packet, in the numbers of the record
unfoldable pub holds_some : Tree → List ℕ → ℕ → Bool
holds_some t held i = is_leaf t i && leb 1 (get_or held i 0)

-- accounts that fit: one for every class number, and all B and R within the ceiling of Q
pub record Fit (accounts : List Account) : Type 0 where
  pub many : length accounts ≡ 64
  pub small : total accounts ≤ most_size

-- a sound link whose round has not closed: leaf i sends next
pub record SendsNext (l : Link) (i : ℕ) : Type 0 where
  pub sound : SoundLink l
  pub next : i ≡ next_leaf (meaning l)
  pub found : i < 64

-- link l is link l₀ after some rounds have opened; leaf `at` is found in it, or 64
pub record OnTheWay (l₀ : Link) (at : ℕ) (l : Link) (rounds : ℕ) : Type 0 where
  pub sound : SoundLink l
  pub many : length l.round.accounts ≡ 64
  pub next : at ≡ next_leaf (meaning l)
  pub few : rounds ≤ 2
  pub within : Within (2 - rounds) (meaning l)
  pub same : l ≡ link_in l₀ (meaning l)
  pub turns : List Turn
  pub counted : length turns ≡ rounds
  pub trace : trace_of (meaning l₀) ≡ sends (64 - rounds) turns (meaning l)
