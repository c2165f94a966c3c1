-- One packet more offered, and one round more opened: the steps of the timed loop.
use Rattle.std.specs.Prelude.{Ok, Err}
use Rattle.std.proofs.Common.{◌≡◌, ℕ, zero, suc, ◌+◌, true, false, List, length, sym, refl, ap, ◌∙◌, subst, ap₂, add-one}
use Rattle.checks.specs.Check.{first_broken, Verdict}
use Rattle.units.specs.declared.Bytes.{Bytes}
use Rattle.tree.specs.declared.Tree.{Tree}
use Rattle.state.specs.declared.Account.{Account}
use Rattle.state.specs.Account.{balance_of, residual_of}
use Rattle.tree.specs.Sum.{table}
use Rattle.state.specs.State.{meaning, round_of, link_of}
use Rattle.steps.specs.Fields.{lent_link}
use Rattle.steps.specs.Rounds.{InFields}
use Rattle.steps.proofs.Wholes.{in_lists}
use Rattle.steps.proofs.Rounding.{CoversNext}
use Rattle.state.specs.declared.Link.{Link}
use Rattle.state.specs.declared.Totals.{Totals}
use Rattle.tree.proofs.Tables.{table_length}
use Rattle.sound.specs.Sound.{SoundLink}
use Rattle.rules.specs.Opening.{opened_accounts, opened_with}
use Rattle.rules.specs.After.{opened_link}
use Rattle.rules.proofs.Meanings.{meaning_wide, opened_link_sound}
use Rattle.rules.proofs.Resized.{rule_1_covers}
use Rattle.rules.proofs.WholeTree.{size_stays}
use Rattle.calls.specs.declared.AfterArrival.{AfterArrival}
use Rattle.calls.specs.Arrival.{Arrives, arrival_checks, arrival_of, arrival_gives}
use Rattle.calls.proofs.Arrivals.{arrives_as}
use Rattle.speed.specs.Openings.{one_packet, offered_to, opened_times}

pub offered_none : (l : Link) → l ≡ offered_to 0 l
unfolding offered_to
offered_none l = refl

pub offered_more : (l₀ l : Link) (n : ℕ) (r : AfterArrival) → SoundLink l → l ≡ offered_to n l₀ → Arrives l (n + 1) one_packet r
    → r.link ≡ offered_to (n + 1) l₀
unfolding offered_to
offered_more l₀ l n r sound same gives =
    ap (λ (a : AfterArrival). a.link) (arrives_as l (n + 1) one_packet r sound gives)
    ∙ ap (λ (x : Link). (arrival_of true x (n + 1) one_packet).link) same
    ∙ rw (add-one n) refl

-- link l is link l₀ when n rounds have been opened on it
pub record Opened (l₀ : Link) (n : ℕ) (l : Link) : Type 0 where
  pub sound : SoundLink l
  pub many : length l.round.accounts ≡ 64
  pub same : l ≡ opened_times n l₀

-- its accounts taken apart
pub opened_apart : (l : Link) → SoundLink l → length l.round.accounts ≡ 64 → (t : Tree) → t ≡ l.tree → (b r : List ℕ)
    → b ≡ table (balance_of l.round.accounts) 64 → r ≡ table (residual_of l.round.accounts) 64
    → Opened l 0 (lent_link t l.round.size l.round.active l.round.place b r l.start l.held l.lengths l.tags
    l.marks l.totals)
unfolding opened_times
opened_apart l sound many t tree b r x y =
    let same = ap₂ (λ (t : Tree) (xs : List Account). link_of t l.lengths l.tags l.marks l.start l.held l.totals
    (round_of l.round.size.0 l.round.active l.round.place xs)) tree
    (in_lists l.round.accounts many b r x y) in
    record { sound = subst SoundLink (sym same) sound; many = ap (λ (k : Link). length k.round.accounts) same ∙ many; same = same }

pub opened_fields : (l₀ : Link) (b r : List ℕ) {n : ℕ} {t : Tree} {size : Bytes} {active place : ℕ}
    {start held lengths tags marks : List ℕ} {totals : Totals}
    → Opened l₀ n (lent_link t size active place b r start held lengths tags marks totals)
    → InFields (lent_link t size active place b r start held lengths tags marks totals)
opened_fields l₀ b r o = record { sound = o.sound; wide = o.many }

-- under rule 1 a round may open at any moment, and the size stays
pub opened_covers : (l : Link) → SoundLink l → length l.round.accounts ≡ 64 → l.tree.follows ≡ false → CoversNext l
opened_covers l sound many rule = rule_1_covers (meaning l) sound.state (meaning_wide l many) rule

pub same_size : {t : Tree} {size new : Bytes} {active place on : ℕ} {start held lengths tags marks : List ℕ} {totals : Totals}
    (b r b' r' : List ℕ) → InFields (lent_link t size active place b r start held lengths tags marks totals) → t.follows ≡ false
    → lent_link t new on 1 b' r' start held lengths tags marks totals
    ≡ opened_link (lent_link t size active place b r start held lengths tags marks totals)
    → lent_link t size on 1 b' r' start held lengths tags marks totals
    ≡ opened_link (lent_link t size active place b r start held lengths tags marks totals)
unfolding opened_with
same_size {t} {size} {new} {active} {place} {on} {start} {held} {lengths} {tags} {marks} {totals} b r b' r' s rule e =
    let l = lent_link t size active place b r start held lengths tags marks totals in
    let same : new.0 ≡ size.0 =
    ap (λ (x : Link). x.round.size.0) e ∙ size_stays (meaning l) s.sound.state (meaning_wide l s.wide) rule in
    ap (λ (n : ℕ). lent_link t (record { 0 = n }) on 1 b' r' start held lengths tags marks totals) (sym same) ∙ e

-- no arrival changes the tree
given_tree : (v : Verdict) (l : Link) (i : ℕ) → (arrival_gives v l i one_packet).link.tree ≡ l.tree
given_tree (Ok _) l i = refl
given_tree (Err _) l i = refl

pub offered_tree : (n : ℕ) (l : Link) → (offered_to n l).tree ≡ l.tree
unfolding offered_to arrival_of
offered_tree zero l = refl
offered_tree (suc n) l =
    given_tree (first_broken (arrival_checks true (meaning (offered_to n l)) (suc n) one_packet)) (offered_to n l) (suc n) ∙ offered_tree n l

pub opened_more : (l₀ l : Link) (n : ℕ) (r : Link) → Opened l₀ n l → l.tree.follows ≡ false → r ≡ opened_link l → Opened l₀ (n + 1) r
unfolding opened_times opened_with opened_accounts
opened_more l₀ l n r o rule e = record {
  sound = subst SoundLink (sym e) (opened_link_sound l (meaning_wide l o.many) o.sound (opened_covers l o.sound o.many rule));
  many = ap (λ (x : Link). length x.round.accounts) e ∙ table_length _ 64;
  same = e ∙ ap (λ (x : Link). opened_link x) o.same ∙ rw (add-one n) refl;
}
