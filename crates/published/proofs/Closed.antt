-- When a round has closed every active class has asked, so the accounts are those of the state that this one stands for.
use mathlib.Core.Bool.{Bool, true, false}
use mathlib.Core.Path.{◌≡◌, refl, sym, ap, ◌∙◌}
use Prim.Native.Nat.{ℕ, ◌<◌}
use native.Mathlib.Decide.{dec_lt}
use native.Mathlib.Omega.{arith}
use lib.Seq.{ext_get_or}
use Rattle.checks.proofs.Laws.{not_true_and_false}
use Rattle.sets.specs.Set.{has}
use Rattle.tree.specs.Class.{parent_of, is_leaf, of_child, children_sum}
use Rattle.tree.proofs.Classes.{class_range}
use Rattle.tree.proofs.Rules.{few_classes, leaf_number}
use Rattle.tree.proofs.Sums.{sum_zero}
use Rattle.state.specs.Account.{no_account}
use Rattle.tree.specs.Sum.{table}
use Rattle.state.specs.State.{State}
use Rattle.tree.proofs.Tables.{table_length}
use Rattle.tree.specs.Below.{Below, child, under}
use Rattle.rules.specs.Sending.{active_leaf, next_leaf}
use Rattle.published.specs.Asking.{Published, with_accounts}
use Rattle.published.specs.Visiting.{visited}
use Rattle.published.specs.Settled.{unasked, owed_weight, owed_sum, settled_account, settled}
use Rattle.published.specs.Sound.{SoundPublished, WidePublished}
use Rattle.published.proofs.OneTake.{unasked_parts}
use Rattle.published.proofs.Takers.{owed_asked}
use Rattle.published.proofs.Asks.{active_up}
use Rattle.published.proofs.Visits.{settled_own, leaf_last, VisitsWell, visited_well}

-- no class has yet to ask
abbrev pub AllAsked : Published → Type 0
AllAsked x = (k : ℕ) → k < 64 → unasked x k ≡ false

-- whoever is above an active class that has asked has asked
asked_above : (x : Published) → SoundPublished x → (a i : ℕ) → Below x.state.tree a i → has x.state.round.active i ≡ true
    → has x.asked i ≡ true → has x.asked a ≡ true
asked_above x sound a i (child j is e) on asked =
    ap (has x.asked) (sym e)
    ∙ (sound.parents j (omega (
      arith,
      (class_range x.state.tree j is).1,
      few_classes x.state.tree
          sound.state.fits.tree,
    ))).up is on
    asked
asked_above x sound a i (under j is b) on asked =
    asked_above x sound a (parent_of x.state.tree j) b (active_up x.state sound.state j is on)
    ((sound.parents j (omega (
      arith,
      (class_range x.state.tree j is).1,
      few_classes x.state.tree
          sound.state.fits.tree,
    ))).up is on
    asked)

-- where every active leaf has asked, every active class has
pub all_by_leaves : (x : Published) → SoundPublished x
    → ((k : ℕ) → k < 64 → is_leaf x.state.tree k ≡ true → has x.state.round.active k ≡ true → has x.asked k ≡ true) → AllAsked x
all_by_leaves x sound leaves k u = go (unasked x k) refl
  where
    go : (b : Bool) → unasked x k ≡ b → b ≡ false
    go false e = refl
    go true e = absurd (not_true_and_false (asked (is_leaf x.state.tree k) refl) (unasked_parts x k e).1)
      where
        on : has x.state.round.active k ≡ true
        on = (unasked_parts x k e).0

        asked : (c : Bool) → is_leaf x.state.tree k ≡ c → has x.asked k ≡ true
        asked true leaf = leaves k u leaf on
        asked false inner =
            let b = (sound.state.above k u).leaf_below_lem (record { class = leaf_last x k sound on; inner = inner }) on in
            asked_above x sound k b.leaf b.below b.is_active
            (leaves b.leaf (leaf_number x.state.tree b.leaf sound.state.fits.tree b.is_leaf) b.is_leaf b.is_active)

-- no class owes anything then
pub none_owed : (x : Published) → SoundPublished x → AllAsked x → (k : ℕ) → owed_sum x k ≡ 0
unfolding owed_sum children_sum
none_owed x sound all k =
    sum_zero (of_child x.state.tree (owed_weight x) k) x.state.tree.count
    (λ j l u. owed_asked x k j (all j (omega (arith, few_classes x.state.tree sound.state.fits.tree))))

-- and the state is the one that it stands for
pub settled_all : (x : Published) → SoundPublished x → WidePublished x → AllAsked x → settled x ≡ x.state
unfolding settled
settled_all x sound wide all =
    ap (with_accounts x.state)
    (ext_get_or no_account (table (settled_account x) 64) x.state.round.accounts
    (table_length (settled_account x) 64 ∙ sym wide.state.accounts)
    (λ k h.
    let u : k < 64 = omega (arith, table_length (settled_account x) 64) in
    settled_own x k u (all k u) (none_owed x sound all k)))

pub active_leaf_lem : (s : State) (k : ℕ) → has s.round.active k ≡ true → is_leaf s.tree k ≡ true → active_leaf s k ≡ true
unfolding active_leaf
active_leaf_lem s k on leaf = rw (on, leaf)

-- when the visits have found no leaf, every active leaf has asked
pub closed_all : (x : Published) → SoundPublished x → WidePublished x → next_leaf (settled x) ≡ 64 → AllAsked (visited x).after
closed_all x sound wide closed =
    all_by_leaves y v.sound (λ k u leaf on. asked k u leaf on (dec_lt k x.state.round.place))
  where
    v : VisitsWell x x.state.round.place (next_leaf (settled x)) (visited x)
    v = visited_well x sound wide

    y : Published
    y = (visited x).after

    asked : (k : ℕ) → k < 64 → is_leaf y.state.tree k ≡ true → has y.state.round.active k ≡ true → Dec (k < x.state.round.place)
        → has y.asked k ≡ true
    asked k u leaf on (yes h) =
        v.keeps k
        ((sound.behind k u).asked (sym (ap (λ (s : State). is_leaf s.tree k) v.same) ∙ leaf)
        (sym (ap (λ (s : State). has s.round.active k) v.same) ∙ on) h)
    asked k u leaf on (no h) =
        v.passed k u (omega arith) (omega (arith, v.leaf_is, closed))
        (active_leaf_lem x.state k (sym (ap (λ (s : State). has s.round.active k) v.same) ∙ on)
        (sym (ap (λ (s : State). is_leaf s.tree k) v.same) ∙ leaf))

-- equal states, and so equal accounts, at the moment a round has closed (R336)
pub closed_equal : (x : Published) → SoundPublished x → WidePublished x → next_leaf (settled x) ≡ 64 → (visited x).after.state ≡ settled x
closed_equal x sound wide closed =
    let v = visited_well x sound wide in
    sym (settled_all (visited x).after v.sound v.wide (closed_all x sound wide closed)) ∙ v.stands
