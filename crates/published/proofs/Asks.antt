-- An ask: up the tree until a class has its quota, and down again. The state that the second engine's stands for stays.
use mathlib.Core.Bool.{Bool, true, false, cond}
use mathlib.Core.List.{List}
use mathlib.Core.Path.{◌≡◌, refl, sym, ap, subst, ◌∙◌}
use Prim.Native.Nat.{ℕ, zero, suc, ◌*◌, ◌≤◌, ◌<◌}
use native.Mathlib.Omega.{arith}
use Rattle.sets.specs.Set.{has}
use Rattle.tree.specs.declared.Tree.{Tree}
use Rattle.tree.specs.Class.{parent_of, weight_of, is_class}
use Rattle.tree.specs.Rules.{PlanRules}
use Rattle.tree.proofs.Classes.{class_in_lem, class_range}
use Rattle.tree.proofs.Rules.{few_classes, parent_lower, parent_below}
use Rattle.state.specs.declared.Account.{Account}
use Rattle.state.specs.Account.{balance_of}
use Rattle.state.specs.State.{State}
use Rattle.sound.specs.Sound.{Sound}
use Rattle.sound.proofs.Active.{parent_above}
use Rattle.rules.proofs.SentBooks.{sound_by_child}
use Rattle.published.specs.Asking.{Published, quota_at, with_accounts, takes, takes_from_parent, asks, ask}
use Rattle.published.specs.Settled.{unasked, settled}
use Rattle.published.specs.Sound.{SoundPublished, WidePublished}
use Rattle.published.proofs.OneTake.{take_settled, take_sound, keeps_asked}
use Rattle.published.proofs.Takers.{pays, from_parent_is, from_parent, from_parent_wide, root_takes_is, root_takes, root_takes_wide}

-- y is x after class i and whoever is above it have asked: it stands for the same state, is sound, and nothing but accounts, who has asked
-- and quotas has changed
pub record Asked (x y : Published) (i : ℕ) : Type 0 where
  pub same : y.state ≡ with_accounts x.state y.state.round.accounts
  pub stands : settled y ≡ settled x
  pub sound : SoundPublished y
  pub wide : WidePublished y
  pub own : has y.asked i ≡ true
  pub keeps : (k : ℕ) → has x.asked k ≡ true → has y.asked k ≡ true
  pub above : (k : ℕ) → i < k → has y.asked k ≡ has x.asked k

-- who has asked already does not ask again
asked_already : (x : Published) (i : ℕ) → SoundPublished x → WidePublished x → has x.asked i ≡ true → Asked x x i
asked_already x i sound wide e = record {
  same = refl;
  stands = refl;
  sound = sound;
  wide = wide;
  own = e;
  keeps = λ k h. h;
  above = λ k l. refl;
}

-- the parent of an active class is active
pub active_up : (s : State) → Sound s → (i : ℕ) → is_class s.tree i ≡ true → has s.round.active i ≡ true
    → has s.round.active (parent_of s.tree i) ≡ true
active_up s sound i is on =
    (sound_by_child s sound).from_child (parent_of s.tree i) (parent_above s.tree s.round.active sound.fits.tree i is)
    (record { child' = i; class = is; parent = refl; is_active = on })

pub still_to_ask : (x : Published) (i : ℕ) → has x.state.round.active i ≡ true → has x.asked i ≡ false → unasked x i ≡ true
unfolding unasked
still_to_ask x i on e = rw (on, e)

-- the root asks
root_asks : (x : Published) → SoundPublished x → WidePublished x → has x.state.round.active 0 ≡ true → (b : Bool)
    → has x.asked 0 ≡ b
    → Asked x (cond b x (takes x 0 0)) 0
root_asks x sound wide on true e = asked_already x 0 sound wide e
root_asks x sound wide on false e =
    let still = still_to_ask x 0 on e in
    let t = root_takes x sound wide still in
    subst (λ (y : Published). Asked x y 0) (sym (root_takes_is x sound wide still))
    (record {
      same = refl;
      stands = take_settled x _ _ _ 0 t;
      sound = take_sound x _ _ _ 0 t sound;
      wide = root_takes_wide x sound wide still;
      own = t.has_own;
      keeps = λ k h. keeps_asked x _ _ _ 0 t k h;
      above = λ k l. t.has_other k (λ z. omega arith);
    })

same_again : (x y : Published) (accounts : List Account) → y.state ≡ with_accounts x.state y.state.round.accounts
    → with_accounts y.state accounts ≡ with_accounts x.state accounts
same_again x y accounts e = ap (λ (s : State). with_accounts s accounts) e

-- a class takes its quota when its parent has asked
module _ (x y : Published) (i p : ℕ) (is-p : p ≡ parent_of x.state.tree i) (a : Asked x y p)
    (is : is_class x.state.tree i ≡ true) (on : has x.state.round.active i ≡ true) (low : p < i)
    (e : has x.asked i ≡ false) where
  tree_same : y.state.tree ≡ x.state.tree
  tree_same = ap (λ (s : State). s.tree) a.same

  is' : is_class y.state.tree i ≡ true
  is' = ap (λ (t : Tree). is_class t i) tree_same ∙ is

  still' : unasked y i ≡ true
  still' = still_to_ask y i (ap (λ (s : State). has s.round.active i) a.same ∙ on) (a.above i low ∙ e)

  up' : has y.asked (parent_of y.state.tree i) ≡ true
  up' = ap (λ (t : Tree). has y.asked (parent_of t i)) tree_same ∙ ap (has y.asked) (sym is-p) ∙ a.own

  class_asks : Asked x (takes_from_parent y i) i
  class_asks =
      let t = from_parent y i a.sound a.wide is' still' up' in
      subst (λ (z : Published). Asked x z i) (sym (from_parent_is y i a.sound a.wide is' still' up'))
      (record {
        same = same_again x y _ a.same;
        stands = take_settled y _ _ _ i t ∙ a.stands;
        sound = take_sound y _ _ _ i t a.sound;
        wide = from_parent_wide y i a.sound a.wide is' still' up';
        own = t.has_own;
        keeps = λ k h. keeps_asked y _ _ _ i t k (a.keeps k h);
        above = λ k l. t.has_other k (λ z. omega arith) ∙ a.above k (omega (arith, low));
      })

-- up the tree: the class number falls at each step
asks_well : (n : ℕ) (x : Published) (i : ℕ) → SoundPublished x → WidePublished x → i < n → i ≤ x.state.tree.count
    → has x.state.round.active i ≡ true → Asked x (asks n x i) i
unfolding asks
asks_well zero x i sound wide a u on = absurd (omega arith)
asks_well (suc n) x zero sound wide a u on = root_asks x sound wide on (has x.asked 0) refl
asks_well (suc n) x (suc i) sound wide a u on =
    go (has x.asked (suc i)) refl
    (asks_well n x (parent_of x.state.tree (suc i)) sound wide (omega (arith, low)) (omega (arith, low))
    (active_up x.state sound.state (suc i) is on))
  where
    is : is_class x.state.tree (suc i) ≡ true
    is = class_in_lem x.state.tree (suc i) (omega arith) u

    low : parent_of x.state.tree (suc i) < suc i
    low = parent_lower x.state.tree (suc i) sound.state.fits.tree is

    y : Published
    y = asks n x (parent_of x.state.tree (suc i))

    go : (b : Bool) → has x.asked (suc i) ≡ b → Asked x y (parent_of x.state.tree (suc i))
        → Asked x (cond b x (takes_from_parent y (suc i))) (suc i)
    go true e ih = asked_already x (suc i) sound wide e
    go false e ih = class_asks x y (suc i) (parent_of x.state.tree (suc i)) refl ih is on low e

pub ask_well : (x : Published) (i : ℕ) → SoundPublished x → WidePublished x → i < 64 → i ≤ x.state.tree.count
    → has x.state.round.active i ≡ true → Asked x (ask x i) i
unfolding ask
ask_well x i sound wide a u on = asks_well 64 x i sound wide a u on

-- ---- one step of an ask

ask_suc : (n : ℕ) (x : Published) (i : ℕ) → asks (suc n) x (suc i)
    ≡ cond (has x.asked (suc i)) x (takes_from_parent (asks n x (parent_of x.state.tree (suc i))) (suc i))
unfolding asks
ask_suc n x i = refl

ask_zero : (n : ℕ) (x : Published) → asks (suc n) x 0 ≡ cond (has x.asked 0) x (takes x 0 0)
unfolding asks
ask_zero n x = refl

-- enough steps are enough
ask_stable : (n m : ℕ) (x : Published) (i : ℕ) → PlanRules x.state.tree → i < n → i < m → i < 64 → asks n x i ≡ asks m x i
ask_stable zero m x i rules a b u = absurd (omega arith)
ask_stable (suc n) zero x i rules a b u = absurd (omega arith)
ask_stable (suc n) (suc m) x zero rules a b u = ask_zero n x ∙ sym (ask_zero m x)
ask_stable (suc n) (suc m) x (suc i) rules a b u =
    let low = parent_below x.state.tree (suc i) rules (omega arith) u in
    ask_suc n x i
    ∙ ap (λ (y : Published). cond (has x.asked (suc i)) x (takes_from_parent y (suc i)))
    (ask_stable n m x (parent_of x.state.tree (suc i)) rules (omega arith) (omega arith) (omega arith))
    ∙ sym (ask_suc m x i)

-- who has its quota does not ask
pub ask_asked : (x : Published) (i : ℕ) → has x.asked i ≡ true → ask x i ≡ x
unfolding ask
ask_asked x zero e = ask_zero 63 x ∙ (rw e)
ask_asked x (suc i) e = ask_suc 63 x i ∙ (rw e)

-- the root takes its residual
pub ask_root : (x : Published) → has x.asked 0 ≡ false → ask x 0 ≡ takes x 0 0
unfolding ask
ask_root x e = ask_zero 63 x ∙ (rw e)

-- any other class asks its parent first
pub ask_class : (x : Published) (i : ℕ) → PlanRules x.state.tree → 1 ≤ i → i < 64 → has x.asked i ≡ false
    → ask x i ≡ takes_from_parent (ask x (parent_of x.state.tree i)) i
unfolding ask
ask_class x zero rules l u e = absurd (omega arith)
ask_class x (suc i) rules l u e =
    let low = parent_below x.state.tree (suc i) rules l u in
    ask_suc 63 x i
    ∙ (rw e)
    ∙ ap (λ (y : Published). takes_from_parent y (suc i))
    (ask_stable 63 64 x (parent_of x.state.tree (suc i)) rules (omega arith) (omega arith) (omega arith))

-- the parent of a class that asks has asked by then, and can pay what the class takes
module _ (x : Published) (i : ℕ) (sound : SoundPublished x) (wide : WidePublished x) (is : is_class x.state.tree i ≡ true)
    (on : has x.state.round.active i ≡ true) (e : has x.asked i ≡ false) where
  first_low : parent_of x.state.tree i < i
  first_low = parent_lower x.state.tree i sound.state.fits.tree is

  pub parent_first : Asked x (ask x (parent_of x.state.tree i)) (parent_of x.state.tree i)
  parent_first =
      let r = class_range x.state.tree i is in
      let few = few_classes x.state.tree sound.state.fits.tree in
      ask_well x (parent_of x.state.tree i) sound wide (omega (arith, first_low, r.1, few)) (omega (arith, first_low, r.1))
      (active_up x.state sound.state i is on)

  pub parent_pays : weight_of (ask x (parent_of x.state.tree i)).state.tree i
      * quota_at (ask x (parent_of x.state.tree i)) (parent_of (ask x (parent_of x.state.tree i)).state.tree i)
      ≤ balance_of (ask x (parent_of x.state.tree i)).state.round.accounts
      (parent_of (ask x (parent_of x.state.tree i)).state.tree i)
  parent_pays =
      let y = ask x (parent_of x.state.tree i) in
      let p = parent_of x.state.tree i in
      pays y i parent_first.sound parent_first.wide (is' x y i p refl parent_first is on first_low e)
      (still' x y i p refl parent_first is on first_low e) (up' x y i p refl parent_first is on first_low e)
