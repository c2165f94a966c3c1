-- The fields of a link taken apart, lent, and put together again.
use mathlib.Core.Bool.{Bool, true, false}
use mathlib.Core.List.{List}
use mathlib.Core.Path.{◌≡◌, sym, ap, ap₂, subst, ◌∙◌}
use Prim.Native.Nat.{ℕ}
use lib.ListN.{length}
use Rattle.tree.specs.declared.Tree.{Tree}
use Rattle.state.specs.declared.Account.{Account}
use Rattle.state.specs.declared.Link.{Link}
use Rattle.state.specs.declared.Round.{Round}
use Rattle.state.specs.declared.Totals.{Totals}
use Rattle.state.specs.Account.{balance_of, residual_of}
use Rattle.state.specs.Queue.{Shaped}
use Rattle.tree.specs.Sum.{table}
use Rattle.state.specs.State.{meaning, round_of, link_of}
use Rattle.sound.specs.Sound.{SoundLink}
use Rattle.rules.specs.Active.{some_waits}
use Rattle.rules.proofs.Traces.{trace_wide}
use Rattle.rules.specs.After.{Sent}
use Rattle.rules.proofs.Meanings.{meaning_wide, waits_leaf}
use Rattle.steps.specs.declared.Went.{Went}
use Rattle.state.specs.Account.{zip_accounts}
use Rattle.steps.specs.Fields.{lent_link}
use Rattle.steps.specs.Rounds.{InFields, sent_where, Departs}
use Rattle.state.proofs.Zips.{zip_fields}

-- every class number keeps an account
sent_many : (l : Link) (some : Bool) → length l.round.accounts ≡ 64 → SoundLink l → some ≡ some_waits (meaning l)
    → length (sent_where some l).link.round.accounts ≡ 64
sent_many l false many sound e = many
sent_many l true many sound e = trace_wide (meaning l) sound.state (meaning_wide l many) (waits_leaf (meaning l) (sym e))

pub departs_wide : {l : Link} {w : Went} (after : Link) → length l.round.accounts ≡ 64 → SoundLink l → Departs l w after
    → length after.round.accounts ≡ 64
departs_wide {l} {w} after many sound d =
    ap (λ (s : Sent). length s.link.round.accounts) d.sent ∙ sent_many l w.some many sound d.some

-- the accounts of a link are those of its balances and residuals
pub in_lists : (accounts : List Account) → length accounts ≡ 64 → (b r : List ℕ) → b ≡ table (balance_of accounts) 64
    → r ≡ table (residual_of accounts) 64
    → zip_accounts b r ≡ accounts
in_lists accounts many b r x y = ap₂ zip_accounts x y ∙ zip_fields accounts many

-- a link taken apart and put together again is the same
pub apart_is : (l : Link) (t : Tree) (b r : List ℕ) → t ≡ l.tree → Shaped l → b ≡ table (balance_of l.round.accounts) 64
    → r ≡ table (residual_of l.round.accounts) 64
    → lent_link t l.round.size l.round.active l.round.place b r l.start l.held l.lengths l.tags l.marks
    l.totals
    ≡ l
apart_is l t b r same shape x y =
    ap₂ (λ (t : Tree) (xs : List Account). link_of t l.lengths l.tags l.marks l.start l.held l.totals
    (round_of l.round.size.0 l.round.active l.round.place xs)) same
    (in_lists l.round.accounts shape.accounts b r x y)

module _
    {t : Tree} (lent : Tree) (same : lent ≡ t) {lengths tags marks start held : List ℕ} {totals : Totals} {round : Round}
    (many : length round.accounts ≡ 64)
    (sound : SoundLink (link_of t lengths tags marks start held totals round))
    (b r : List ℕ) (x : b ≡ table (balance_of round.accounts) 64) (y : r ≡ table (residual_of round.accounts) 64) where
  apart : zip_accounts b r ≡ round.accounts
  apart = in_lists round.accounts many b r x y

  abbrev whole : Link
  whole = lent_link lent round.size round.active round.place b r start held lengths tags marks totals

  whole_is : whole ≡ link_of t lengths tags marks start held totals round
  whole_is =
      ap₂ (λ (x : Tree) (xs : List Account). link_of x lengths tags marks start held totals
      (round_of round.size.0 round.active round.place xs)) same apart

  pub values_fields : InFields whole
  values_fields = record { sound = subst SoundLink (sym whole_is) sound; wide = ap length apart ∙ many }

  -- after the send
  module _ {w : Went} (after : Link) (d : Departs whole w after) where
    pub values_wide : length after.round.accounts ≡ 64
    values_wide = departs_wide after values_fields.wide values_fields.sound d

    pub values_departs : {s h : List ℕ} {n : Totals} {q : Round} → after ≡ link_of lent lengths tags marks s h n q
        → Departs (link_of t lengths tags marks start held totals round) w (link_of t lengths tags marks s h n q)
    values_departs {s} {h} {n} {q} e = record {
      some = d.some ∙ ap (λ (l : Link). some_waits (meaning l)) whole_is;
      sent =
          ap (λ (l : Link). record { class = w.class; packet = w.packet; rounds = w.rounds; link = l })
          (sym (e ∙ ap (λ (x : Tree). link_of x lengths tags marks s h n q) same))
          ∙ d.sent ∙ ap (sent_where w.some) whole_is;
    }
