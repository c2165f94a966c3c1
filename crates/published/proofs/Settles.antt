-- A sound state of the second engine stands for a sound state of the first.
use mathlib.Core.Bool.{Bool, true, false}
use mathlib.Core.Path.{◌≡◌, refl, sym, ap, subst, ◌∙◌}
use Prim.Native.Nat.{ℕ, zero, suc, ◌≤◌, ◌<◌}
use native.Mathlib.Decide.{ℕ_discrete}
use native.Mathlib.Omega.{arith}
use Rattle.checks.proofs.Laws.{not_true_and_false}
use Rattle.sets.specs.Set.{has}
use Rattle.tree.specs.Class.{is_leaf}
use Rattle.state.specs.State.{State}
use Rattle.tree.proofs.Tables.{table_length}
use Rattle.sound.specs.Sound.{Sound}
use Rattle.rules.specs.Sending.{active_leaf}
use Rattle.rules.specs.Wide.{Wide}
use Rattle.published.specs.Asking.{Published, with_accounts, ask}
use Rattle.published.specs.Settled.{settled_account, settled}
use Rattle.published.specs.Sound.{SoundPublished, WidePublished}
use Rattle.published.proofs.Asks.{Asked, ask_well}
use Rattle.published.proofs.Visits.{leaf_parts, leaf_last}
use Rattle.published.proofs.Closed.{AllAsked, all_by_leaves, settled_all, active_leaf_lem}

-- x after every active leaf below n has asked
record Settling (x : Published) (n : ℕ) : Type 0 where
  after : Published
  same : after.state ≡ with_accounts x.state after.state.round.accounts
  stands : settled after ≡ settled x
  sound : SoundPublished after
  wide : WidePublished after
  all : (k : ℕ) → k < n → active_leaf x.state k ≡ true → has after.asked k ≡ true

settling : (x : Published) → SoundPublished x → WidePublished x → (n : ℕ) → n ≤ 64 → Settling x n
settling x sound wide zero h = record {
  after = x;
  same = refl;
  stands = refl;
  sound = sound;
  wide = wide;
  all = λ k u on. absurd (omega arith);
}
settling x sound wide (suc n) h = go (active_leaf x.state n) refl (settling x sound wide n (omega arith))
  where
    go : (b : Bool) → active_leaf x.state n ≡ b → Settling x n → Settling x (suc n)
    go false e s = record {
      after = s.after;
      same = s.same;
      stands = s.stands;
      sound = s.sound;
      wide = s.wide;
      all = λ k u on. at k u on (ℕ_discrete k n);
    }
      where
        at : (k : ℕ) → k < suc n → active_leaf x.state k ≡ true → Dec (k ≡ n) → has s.after.asked k ≡ true
        at k u on (yes z) = absurd (not_true_and_false (ap (active_leaf x.state) (sym z) ∙ on) e)
        at k u on (no z) = s.all k (omega arith) on
    go true e s = record {
      after = ask s.after n;
      same = a.same ∙ ap (λ (r : State). with_accounts r (ask s.after n).state.round.accounts) s.same;
      stands = a.stands ∙ s.stands;
      sound = a.sound;
      wide = a.wide;
      all = λ k u on. at k u on (ℕ_discrete k n);
    }
      where
        on' : has s.after.state.round.active n ≡ true
        on' = ap (λ (r : State). has r.round.active n) s.same ∙ (leaf_parts x.state n e).0

        a : Asked s.after (ask s.after n) n
        a = ask_well s.after n s.sound s.wide (omega arith) (leaf_last s.after n s.sound on') on'

        at : (k : ℕ) → k < suc n → active_leaf x.state k ≡ true → Dec (k ≡ n) → has (ask s.after n).asked k ≡ true
        at k u on (yes z) = ap (has (ask s.after n).asked) z ∙ a.own
        at k u on (no z) = a.keeps k (s.all k (omega arith) on)

pub stands_sound : (x : Published) → SoundPublished x → WidePublished x → Sound (settled x)
stands_sound x sound wide =
    let s = settling x sound wide 64 (omega arith) in
    let all : AllAsked s.after =
    all_by_leaves s.after s.sound
    (λ k u leaf on.
    s.all k u
    (active_leaf_lem x.state k (sym (ap (λ (r : State). has r.round.active k) s.same) ∙ on)
    (sym (ap (λ (r : State). is_leaf r.tree k) s.same) ∙ leaf)))
    in
    subst Sound (sym (settled_all s.after s.sound s.wide all) ∙ s.stands) s.sound.state

pub stands_wide : (x : Published) → WidePublished x → Wide (settled x)
unfolding settled
stands_wide x wide = record { accounts = table_length (settled_account x) 64; queues = wide.state.queues }
