-- What the steps of a send need to fit their numbers. Demand 2.
use mathlib.Core.List.{List}
use mathlib.Core.Bool.{true}
use mathlib.Core.Path.{◌≡◌, ◌∙◌}
use Prim.Native.Nat.{ℕ, ◌≤◌, ◌<◌}
use native.Mathlib.Omega.{arith}
use lib.ListN.{length, length-set, set}
use Rattle.tree.specs.declared.Tree.{Tree}
use Rattle.tree.specs.Class.{is_class}
use Rattle.tree.specs.Rules.{PlanRules}
use Rattle.tree.proofs.Classes.{class_range}
use Rattle.tree.proofs.Rules.{parent_lower, few_classes}
use Rattle.tree.specs.Size.{most_size}
use Rattle.rules.specs.Sending.{Books}
use Rattle.rules.specs.Sending.{paid_by, given_up}
use Rattle.rules.proofs.GivenUp.{given_length, given_total}
use Rattle.state.specs.declared.Account.{Account}
use Rattle.state.specs.Account.{account_of, balance_of, funds_of, sent_from, gained}
use Rattle.sound.proofs.Totals.{total_part}
use Rattle.rules.proofs.Stores.{total_set}
use Rattle.rules.specs.Steps.{Fit}

-- no class holds more than all together
pub funds_small : (accounts : List Account) (i : ℕ) → Fit accounts → i < 64 → funds_of (account_of accounts i) ≤ most_size
funds_small accounts i f u = omega (arith, total_part accounts i u, f.small)

-- the accounts after a store that adds nothing to the total
pub fit_set : (accounts : List Account) (i : ℕ) (a : Account) → Fit accounts → i < 64 → funds_of a ≤ funds_of (account_of accounts i)
    → Fit (set accounts i a)
fit_set accounts i a f u h = record {
  many = length-set accounts i a ∙ f.many;
  small = omega (arith, total_set accounts i a f.many u, f.small);
}

-- the accounts after a class has given up what it held
pub fit_given : (t : Tree) (i : ℕ) (b : Books) → PlanRules t → is_class t i ≡ true → Fit b.accounts → Fit (given_up t i b).accounts
fit_given t i b rules is f =
    let low = parent_lower t i rules is in
    let last = (class_range t i is).1 in
    let few = few_classes t rules in
    record {
      many = given_length t i b ∙ f.many;
      small = rw (given_total t i b f.many (omega arith) (omega arith)) f.small;
    }

-- the accounts after a leaf has paid
pub fit_paid : (accounts : List Account) (i cost : ℕ) → Fit accounts → i < 64 → cost ≤ balance_of accounts i → Fit (paid_by accounts i cost)
fit_paid accounts i cost f u h =
    let less = set accounts i (sent_from (account_of accounts i) cost) in
    let many : length less ≡ 64 = length-set accounts i (sent_from (account_of accounts i) cost) ∙ f.many in
    record {
      many = length-set less 0 (gained (account_of less 0) cost) ∙ many;
      small =
          omega (
            arith,
            total_set accounts i (sent_from (account_of accounts i) cost) f.many u,
            total_set less 0 (gained (account_of less 0) cost) many (omega arith),
            f.small,
          );
    }
