-- Laws of the sets of classes that are their leaves and every class above one.
use mathlib.Core.Bool.{Bool, true, false, ◌&&◌, and-false, and_comm}
use mathlib.Core.List.{List}
use mathlib.Core.Path.{◌≡◌, refl, sym, ap, ◌∙◌}
use Prim.Native.Nat.{ℕ, ◌<◌}
use native.Mathlib.Omega.{arith}
use Rattle.sets.specs.Set.{has, Both}
use Rattle.sets.proofs.Laws.{has_empty}
use Rattle.tree.specs.declared.Tree.{Tree}
use Rattle.tree.specs.Class.{is_class, is_leaf}
use Rattle.tree.specs.Rules.{PlanRules}
use Rattle.tree.proofs.Classes.{class_in_lem}
use Rattle.tree.proofs.Rules.{few_classes}
use Rattle.rules.specs.Active.{upward}
use Rattle.rules.specs.Steps.{holds_some}
use Rattle.rules.proofs.Waiting.{upward_none, upward_same}
use Rattle.rules.proofs.Taken.{upward_leaf}
use Rattle.active.specs.Known.{Raised}

-- the empty set is one
pub raised_none : (t : Tree) → PlanRules t → Raised t 0
raised_none t rules =
    sym (upward_none t rules (λ i. is_leaf t i && has 0 i)
    (λ i l u. ap (λ (b : Bool). is_leaf t i && b) (has_empty i) ∙ and-false (is_leaf t i)))

-- the active classes of a round are one
pub raised_round : (t : Tree) (held : List ℕ) → PlanRules t → Raised t (upward t (holds_some t held))
unfolding holds_some
raised_round t held rules =
    upward_same t (holds_some t held) (λ i. is_leaf t i && has (upward t (holds_some t held)) i)
    (λ i l u. go i (class_in_lem t i l u) (is_leaf t i) refl)
  where
    go : (i : ℕ) → is_class t i ≡ true → (b : Bool) → is_leaf t i ≡ b
        → holds_some t held i ≡ (b && has (upward t (holds_some t held)) i)
    go i is true leaf = sym (upward_leaf t (holds_some t held) i rules is leaf)
    go i is false leaf = rw leaf refl

-- where the leaves that hold a packet are those of one, it is the round's active set
pub raised_is : (t : Tree) (known : ℕ) (held : List ℕ) (waiting both : ℕ) → PlanRules t → Raised t known
    → ((i : ℕ) → i < 64 → has waiting i ≡ holds_some t held i) → Both known t.leaves both → waiting ≡ both
    → known ≡ upward t (holds_some t held)
unfolding is_leaf
raised_is t known held waiting both rules raised waits common same =
    raised ∙ upward_same t (λ i. is_leaf t i && has known i) (holds_some t held)
    (λ i l u.
    and_comm (is_leaf t i) (has known i) ∙ sym (common.both i) ∙ ap (λ (s : ℕ). has s i) (sym same)
    ∙ waits i (omega (arith, few_classes t rules)))
