-- What a leaf pays for its packet the root gains, and nothing that a class gives up leaves the root with less. Demand 3.
use mathlib.Core.Bool.{Bool, true, false, cond}
use mathlib.Core.List.{List}
use mathlib.Core.Path.{◌≡◌, refl, ap, ◌∙◌}
use Prim.Native.Nat.{ℕ, zero, suc, ◌+◌, ◌≤◌}
use native.Mathlib.Decide.{ℕ_discrete}
use native.Mathlib.Omega.{arith}
use lib.Dec.{leb}
use lib.ListN.{length, set, length-set}
use lib.Seq.{get_or-set_same, get_or-set_other}
use Rattle.units.specs.Cost.{cost_of}
use Rattle.tree.specs.declared.Tree.{Tree}
use Rattle.tree.specs.Class.{parent_of}
use Rattle.tree.specs.Sum.{some_to}
use Rattle.state.specs.declared.Account.{Account}
use Rattle.state.specs.Account.{no_account, account_of, funds_of, received}
use Rattle.state.specs.State.{State, queue_at}
use Rattle.rules.specs.Sending.{Books}
use Rattle.rules.specs.Active.{active_child}
use Rattle.rules.specs.Sending.{first_of, given_up, turns_off, paid, books_after}
use Rattle.rules.specs.Wide.{Wide}
use Rattle.rules.proofs.GivenUp.{given_length, step_stays, step_root, step_up}
use Rattle.rules.proofs.SentBooks.{paid_length, paid_root}

-- what the root holds, by the books
abbrev root_holds : Books → ℕ
root_holds b = funds_of (account_of b.accounts 0)

-- a class that receives is the root or another
received_root : (xs : List Account) (p held : ℕ) → length xs ≡ 64
    → funds_of (account_of xs 0) ≤ funds_of (account_of (set xs p (received (account_of xs p) held)) 0)
received_root xs zero held many =
    let same = ap funds_of (get_or-set_same xs 0 (received (account_of xs 0) held) no_account (omega (arith, many))) in
    omega (arith, same)
received_root xs (suc p) held many =
    let same = ap funds_of (get_or-set_other xs (suc p) 0 (received (account_of xs (suc p)) held) no_account (λ z. omega arith)) in
    omega (arith, same)

-- a class that turns inactive gives to its parent, so the root has no less
given_root : (t : Tree) (i : ℕ) (b : Books) → length b.accounts ≡ 64 → 1 ≤ i → root_holds b ≤ root_holds (given_up t i b)
unfolding given_up
given_root t i b many l =
    let rest = set b.accounts i no_account in
    let same = ap funds_of (get_or-set_other b.accounts i 0 no_account no_account (λ z. omega arith)) in
    let more = received_root rest (parent_of t i) (funds_of (account_of b.accounts i)) (length-set b.accounts i no_account ∙ many) in
    omega (arith, same, more)

-- and so has it when all that turn inactive have given
turns_root : (n : ℕ) (t : Tree) (i : ℕ) (b : Books) → length b.accounts ≡ 64 → 1 ≤ i → root_holds b ≤ root_holds (turns_off n t i b)
unfolding turns_off
turns_root zero t i b many l = omega arith
turns_root (suc n) t i b many l =
    go (some_to (active_child t (given_up t i b).active (parent_of t i)) t.count) refl (ℕ_discrete (parent_of t i) 0)
    (λ low. turns_root n t (parent_of t i) (given_up t i b) (given_length t i b ∙ many) low)
  where
    once : root_holds b ≤ root_holds (given_up t i b)
    once = given_root t i b many l

    go : (x : Bool) → some_to (active_child t (given_up t i b).active (parent_of t i)) t.count ≡ x → Dec (parent_of t i ≡ 0)
        → (1 ≤ parent_of t i → root_holds (given_up t i b) ≤ root_holds (turns_off n t (parent_of t i) (given_up t i b)))
        → root_holds b ≤ root_holds (turns_off (suc n) t i b)
    go true e z more = omega (arith, once, ap root_holds (step_stays n t i b e))
    go false e (yes z) more = omega (arith, once, ap root_holds (step_root n t i b e z))
    go false e (no nz) more = omega (arith, once, more (omega arith), ap root_holds (step_up n t i b e nz))

-- a leaf that has sent its first packet leaves the root with what the packet cost, at the least
pub books_root : (s : State) (i : ℕ) → Wide s → 1 ≤ i
    → funds_of (account_of s.round.accounts 0) + cost_of (first_of s i).length ≤ funds_of (account_of (books_after s i).accounts 0)
unfolding books_after
books_root s i wide l = go (leb (length (queue_at s i)) 1)
  where
    b : Books
    b = record { active = s.round.active; accounts = paid s i }

    root : funds_of (account_of s.round.accounts 0) + cost_of (first_of s i).length ≤ root_holds b
    root = omega (arith, ap funds_of (paid_root s i wide l))

    go : (x : Bool) → funds_of (account_of s.round.accounts 0) + cost_of (first_of s i).length
        ≤ root_holds (cond x (turns_off 63 s.tree i b) b)
    go true = omega (arith, root, turns_root 63 s.tree i b (paid_length s i ∙ wide.accounts) l)
    go false = root
