-- The laws of an ask over lent arrays.
use mathlib.Core.Bool.{Bool, true, false, cond, ◌&&◌}
use mathlib.Core.List.{List}
use mathlib.Core.Path.{◌≡◌, refl, sym, ap, ap₂, subst, subst₂, ◌∙◌}
use Prim.Native.Nat.{ℕ, ◌+◌, ◌-◌, ◌*◌, ◌^◌, ◌≤◌, ◌<◌}
use native.Mathlib.Omega.{arith}
use lib.Dec.{eqb}
use lib.ListN.{length, get_or, set}
use Rattle.checks.proofs.Laws.{not_true_and_false}
use Rattle.sets.specs.Set.{has, with}
use Rattle.tree.specs.declared.Tree.{Tree}
use Rattle.tree.specs.Class.{parent_of, weight_of, is_child, of_child, children_sum}
use Rattle.tree.specs.Sum.{sum_to}
use Rattle.tree.proofs.Sums.{sum_step}
use Rattle.rules.specs.Active.{active_weight, weight_sum}
use Rattle.units.specs.Unit.{quota_of}
use Rattle.tree.specs.Class.{is_class, is_leaf}
use Rattle.tree.specs.Rules.{PlanRules}
use Rattle.tree.proofs.Classes.{class_in_lem}
use Rattle.tree.proofs.Rules.{few_classes, parent_lower, size_ceiling}
use Rattle.state.specs.declared.Account.{Account}
use Rattle.state.specs.Account.{account_of, balance_of, funds_of, took_quota, handed_down}
use Rattle.sound.specs.Sound.{total}
use Rattle.rules.specs.Steps.{Fit}
use Rattle.rules.proofs.Fitting.{funds_small}
use Rattle.state.specs.Account.{zip_accounts}
use Rattle.shape.specs.Shape.{tree_in}
use Rattle.published.specs.Asking.{Published, quota_at, takes, hands, takes_from_parent, ask}
use Rattle.published.proofs.Asks.{Asked, active_up, ask_asked, ask_root, ask_class, parent_first, parent_pays}
use Rattle.asking.specs.Lent.{TookFrom, Lent, Asker}

-- another name of the class that asks
pub lent_at : (x : Published) (p q : ℕ) → p ≡ q → {active asked : ℕ} {shape balance residual quotas : List ℕ}
    → Lent (ask x p) active asked shape balance residual quotas → Lent (ask x q) active asked shape balance residual quotas
lent_at x p q e {active} {asked} {shape} {balance} {residual} {quotas} l =
    subst (λ (j : ℕ). Lent (ask x j) active asked shape balance residual quotas) e l

-- what class i adds to the weight sum of class p
abbrev pub adds_to : Tree → ℕ → ℕ → ℕ → ℕ
adds_to t active p i = of_child t (active_weight t active) p i

-- one class more in the weight sum
pub sum_on : (t : Tree) (active p i sum : ℕ) → 1 ≤ i → sum ≡ sum_to (adds_to t active p) (i - 1)
    → sum + cond (eqb (parent_of t i) p && has active i) (weight_of t i) 0 ≡ sum_to (adds_to t active p) (i + 1 - 1)
unfolding of_child active_weight is_child
sum_on t active p i sum l e =
    ap₂ ◌+◌ e (both (eqb (parent_of t i) p) (has active i) (weight_of t i)) ∙ sym (sum_step (adds_to t active p) i l)
  where
    both : (c on : Bool) (m : ℕ) → cond (c && on) m 0 ≡ cond c (cond on m 0) 0
    both true on m = refl
    both false on m = refl

-- all of it
pub sum_whole : (t : Tree) (active p : ℕ) → sum_to (adds_to t active p) t.count ≡ weight_sum t active p
unfolding weight_sum children_sum
sum_whole t active p = refl

-- no more than a weight
pub cond_most : (b : Bool) (w m : ℕ) → w ≤ m → cond b w 0 ≤ m
cond_most true w m h = h
cond_most false w m h = omega arith

-- ---- what is lent

module _ (x : Published) (active asked : ℕ) (shape balance residual quotas : List ℕ)
    (l : Lent x active asked shape balance residual quotas) where
  -- class i asks
  module _ (i : ℕ) (leaf : Bool) (a : Asker x i leaf) where
    pub rules_of : PlanRules x.state.tree
    rules_of = a.sound.state.fits.tree

    pub number_of_lem : i < 64
    number_of_lem = omega (arith, a.last, few_classes x.state.tree rules_of)

    pub rules_in : PlanRules (tree_in shape)
    rules_in = subst PlanRules l.tree rules_of

    pub childless_in : leaf ≡ true → is_leaf (tree_in shape) i ≡ true
    childless_in e = subst (λ (t : Tree). is_leaf t i ≡ true) l.tree (a.childless e)

    pub many_of : length (zip_accounts balance residual) ≡ 64
    many_of = ap length (sym l.accounts) ∙ a.wide.state.accounts

    pub parent_of_lem : parent_of x.state.tree i ≡ parent_of (tree_in shape) i
    parent_of_lem = ap (λ (t : Tree). parent_of t i) l.tree

    pub fit_of : Fit (zip_accounts balance residual)
    fit_of = record {
      many = many_of;
      small =
          omega (
            arith,
            ap total (sym l.accounts),
            a.sound.state.adds.adds,
            a.sound.state.fits.size.most,
            size_ceiling x.state.tree rules_of,
          );
    }

    -- who has its quota
    pub has_of : has asked i ≡ has x.asked i
    has_of = ap (λ (s : ℕ). has s i) (sym l.asked_is)

    pub lent_same : has asked i ≡ true → Lent (ask x i) active asked shape balance residual quotas
    lent_same e =
        subst (λ (y : Published). Lent y active asked shape balance residual quotas) (sym (ask_asked x i (sym has_of ∙ e))) l

    -- a class asks its parent
    module _ (low : 1 ≤ i) (e : has asked i ≡ false) where
      pub class_of : is_class x.state.tree i ≡ true
      class_of = class_in_lem x.state.tree i low a.last

      pub lower_of : parent_of (tree_in shape) i < i
      lower_of = omega (arith, sym parent_of_lem, parent_lower x.state.tree i rules_of class_of)

      pub asker_up : Asker x (parent_of (tree_in shape) i) false
      asker_up =
          subst (λ (k : ℕ). Asker x k false) parent_of_lem
          (record {
            sound = a.sound;
            wide = a.wide;
            last = omega (arith, parent_lower x.state.tree i rules_of class_of, a.last);
            on = active_up x.state a.sound.state i class_of a.on;
            childless = λ z. absurd (not_true_and_false z refl);
          })

      pub ask_is : ask x i ≡ takes_from_parent (ask x (parent_of (tree_in shape) i)) i
      ask_is =
          ask_class x i rules_of low number_of_lem (sym has_of ∙ e)
          ∙ ap (λ (p : ℕ). takes_from_parent (ask x p) i) parent_of_lem

      pub up_asked : Asked x (ask x (parent_of (tree_in shape) i)) (parent_of (tree_in shape) i)
      up_asked =
          subst (λ (p : ℕ). Asked x (ask x p) p) parent_of_lem (parent_first x i a.sound a.wide class_of a.on (sym has_of ∙ e))

      pub up_pays : weight_of (ask x (parent_of (tree_in shape) i)).state.tree i
          * quota_at (ask x (parent_of (tree_in shape) i)) (parent_of (ask x (parent_of (tree_in shape) i)).state.tree i)
          ≤ balance_of (ask x (parent_of (tree_in shape) i)).state.round.accounts
          (parent_of (ask x (parent_of (tree_in shape) i)).state.tree i)
      up_pays =
          subst
          (λ (p : ℕ). weight_of (ask x p).state.tree i * quota_at (ask x p) (parent_of (ask x p).state.tree i)
          ≤ balance_of (ask x p).state.round.accounts (parent_of (ask x p).state.tree i))
          parent_of_lem (parent_pays x i a.sound a.wide class_of a.on (sym has_of ∙ e))

  -- the root takes its residual
  pub lent_root : (sum r : ℕ) (balance' residual' quotas' : List ℕ) (leaf : Bool) → Asker x 0 leaf → has asked 0 ≡ false
      → sum ≡ weight_sum (tree_in shape) active 0
      → zip_accounts balance' residual' ≡ set (zip_accounts balance residual) 0 (took_quota (account_of (zip_accounts balance residual) 0) 0)
      → quotas' ≡ set quotas 0 (quota_of (funds_of (account_of (zip_accounts balance residual) 0) + 0) sum)
      → r ≡ with asked 0 → Lent (ask x 0) active r shape balance' residual' quotas'
  unfolding takes
  lent_root sum r balance' residual' quotas' leaf a e s accounts shares is =
      subst (λ (y : Published). Lent y active r shape balance' residual' quotas') (sym (ask_root x (sym (has_of 0 leaf a)
      ∙ e)))
      (record {
        tree = l.tree;
        active_is = l.active_is;
        accounts = ap (λ (xs : List Account). set xs 0 (took_quota (account_of xs 0) 0)) l.accounts ∙ sym accounts;
        asked_is = ap (λ (k : ℕ). with k 0) l.asked_is ∙ sym is;
        quotas_are =
            ap₂ (λ (xs : List Account) (qs : List ℕ). set qs 0
            (quota_of (funds_of (account_of xs 0) + 0) (weight_sum x.state.tree x.state.round.active 0))) l.accounts l.quotas_are
            ∙ ap (λ (k : ℕ). set quotas 0 (quota_of (funds_of (account_of (zip_accounts balance residual) 0) + 0) k))
            (ap₂ (λ (t : Tree) (k : ℕ). weight_sum t k 0) l.tree l.active_is ∙ sym s)
            ∙ sym shares;
      })

  -- class i takes from its parent
  pub lent_from : (i p w sum r : ℕ) (balance' residual' quotas' : List ℕ) → p ≡ parent_of (tree_in shape) i → w ≡ weight_of (tree_in shape) i
      → sum ≡ weight_sum (tree_in shape) active i
      → TookFrom i p w sum (zip_accounts balance residual) quotas (zip_accounts balance' residual') quotas' → r ≡ with asked i
      → Lent (takes_from_parent x i) active r shape balance' residual' quotas'
  unfolding takes_from_parent takes hands
  lent_from i p w sum r balance' residual' quotas' is-p is-w s took is = record {
    tree = l.tree;
    active_is = l.active_is;
    accounts = (go (parent_of x.state.tree i) p at_p (weight_of x.state.tree i) w at_w).0 ∙ sym took.accounts_are;
    asked_is = ap (λ (k : ℕ). with k i) l.asked_is ∙ sym is;
    quotas_are =
        (go (parent_of x.state.tree i) p at_p (weight_of x.state.tree i) w at_w).1
        ∙ ap (λ (k : ℕ). set quotas i (quota_of (funds_of (account_of (set (zip_accounts balance residual) p
        (handed_down (account_of (zip_accounts balance residual) p) (w * get_or quotas p 0))) i) + w * get_or quotas p 0) k))
        (ap₂ (λ (t : Tree) (k : ℕ). weight_sum t k i) l.tree l.active_is ∙ sym s)
        ∙ sym took.quotas_are;
  }
    where
      at_p : parent_of x.state.tree i ≡ p
      at_p = ap (λ (t : Tree). parent_of t i) l.tree ∙ sym is-p

      at_w : weight_of x.state.tree i ≡ w
      at_w = ap (λ (t : Tree). weight_of t i) l.tree ∙ sym is-w

      go : (p' p : ℕ) → p' ≡ p → (w' w : ℕ) → w' ≡ w
          → (set (set x.state.round.accounts p' (handed_down (account_of x.state.round.accounts p') (w' * get_or x.quotas p' 0))) i
          (took_quota (account_of (set x.state.round.accounts p' (handed_down (account_of x.state.round.accounts p') (w' * get_or
          x.quotas p' 0))) i)
          (w' * get_or x.quotas p' 0))
          ≡ set (set (zip_accounts balance residual) p (handed_down (account_of (zip_accounts balance residual) p) (w * get_or quotas p 0))) i
          (took_quota
          (account_of (set (zip_accounts balance residual) p (handed_down (account_of (zip_accounts balance residual) p)
          (w * get_or quotas p 0))) i)
          (w * get_or quotas p 0)))
          × (set x.quotas i
          (quota_of (funds_of (account_of (set x.state.round.accounts p'
          (handed_down (account_of x.state.round.accounts p') (w' * get_or x.quotas p' 0))) i) + w' * get_or x.quotas p' 0)
          (weight_sum x.state.tree x.state.round.active i))
          ≡ set quotas i
          (quota_of (funds_of (account_of (set (zip_accounts balance residual) p
          (handed_down (account_of (zip_accounts balance residual) p) (w * get_or quotas p 0))) i) + w * get_or quotas p 0)
          (weight_sum x.state.tree x.state.round.active i)))
      go p' p e w' w f = rw (e, f, l.accounts, l.quotas_are) (refl, refl)

-- what taking from the parent asks for, when the parent has asked
pub record FromNeeds (i p w : ℕ) (balance residual quotas : List ℕ) : Type 0 where
  pub lower : p < i
  pub number : i < 64
  pub many : length (zip_accounts balance residual) ≡ 64
  pub wide : length quotas ≡ 64
  pub pays : w * get_or quotas p 0 ≤ balance_of (zip_accounts balance residual) p
  pub fits : funds_of (account_of (zip_accounts balance residual) i) + w * get_or quotas p 0 < 2 ^ 64

module _ (x : Published) (active asked : ℕ) (shape balance residual quotas : List ℕ)
    (l : Lent x active asked shape balance residual quotas) (i : ℕ) (leaf : Bool) (a : Asker x i leaf) (low : 1 ≤ i)
    (e : has asked i ≡ false)
    (up : ℕ) (balance' residual' quotas' : List ℕ)
    (m : Lent (ask x (parent_of (tree_in shape) i)) active up shape balance' residual' quotas') where
  from_needs_at : FromNeeds i (parent_of (tree_in shape) i) (weight_of (tree_in shape) i) balance' residual' quotas'
  from_needs_at =
      let y = ask x (parent_of (tree_in shape) i) in
      let u = number_of_lem x active asked shape balance residual quotas l i leaf a in
      let done = up_asked x active asked shape balance residual quotas l i leaf a low e in
      let lower = lower_of x active asked shape balance residual quotas l i leaf a low e in
      let many : length (zip_accounts balance' residual') ≡ 64 = ap length (sym m.accounts) ∙ done.wide.state.accounts in
      let fit : Fit (zip_accounts balance' residual') =
      record {
        many = many;
        small =
            omega (
              arith,
              ap total (sym m.accounts),
              done.sound.state.adds.adds,
              done.sound.state.fits.size.most,
              size_ceiling y.state.tree done.sound.state.fits.tree,
            );
      }
      in
      let pays : weight_of (tree_in shape) i * get_or quotas' (parent_of (tree_in shape) i) 0
      ≤ balance_of (zip_accounts balance' residual') (parent_of (tree_in shape) i) =
      rw (m.tree, m.quotas_are, m.accounts)
      at (up_pays x active asked shape balance residual quotas l i leaf a low e)
      in
      record {
        lower = lower;
        number = u;
        many = many;
        wide = ap length (sym m.quotas_are) ∙ done.wide.quotas;
        pays = pays;
        fits =
            omega (
              arith,
              pays,
              funds_small (zip_accounts balance' residual') i fit u,
              funds_small (zip_accounts balance' residual') (parent_of (tree_in shape) i) fit (omega (arith, lower, u)),
            );
      }

  pub from_needs : (p w : ℕ) → p ≡ parent_of (tree_in shape) i → w ≡ weight_of (tree_in shape) i → FromNeeds i p w balance' residual' quotas'
  from_needs p w is-p is-w = subst₂ (λ (j k : ℕ). FromNeeds i j k balance' residual' quotas') (sym is-p) (sym is-w) from_needs_at

  -- and what it gives
  pub lent_class : (p w sum r : ℕ) (balance'' residual'' quotas'' : List ℕ) → p ≡ parent_of (tree_in shape) i → w ≡ weight_of (tree_in shape) i
      → sum ≡ weight_sum (tree_in shape) active i
      → TookFrom i p w sum (zip_accounts balance' residual') quotas' (zip_accounts balance'' residual'') quotas'' → r ≡ with up i
      → Lent (ask x i) active r shape balance'' residual'' quotas''
  lent_class p w sum r balance'' residual'' quotas'' is-p is-w sum_is_lem took is =
      subst (λ (y : Published). Lent y active r shape balance'' residual'' quotas'')
      (sym (ask_is x active asked shape balance residual quotas l i leaf a low e))
      (lent_from (ask x (parent_of (tree_in shape) i)) active up shape balance' residual' quotas' m i p w sum r balance'' residual'' quotas''
      is-p is-w sum_is_lem took is)
