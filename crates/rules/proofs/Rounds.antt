-- A main round sends (R149), and a surplus round that sends nothing is followed by a main round (R148); so a send opens at most two rounds
-- (R147). Demands 2 and 3.
use mathlib.Core.Bool.{true, false}
use mathlib.Core.List.{List, [], ◌∷◌, ◌++◌, append_assoc, append-nil}
use mathlib.Core.Path.{◌≡◌, refl, sym, ap, ap₂, subst, ◌∙◌}
use Prim.Native.Nat.{ℕ, zero, suc, ◌-◌, ◌≤◌, ◌<◌}
use native.Mathlib.Decide.{dec_lt}
use native.Mathlib.Omega.{arith}
use lib.ListN.{length}
use borrow.Author.Tests.{lt-ltb, le-ltb}
use Rattle.sets.specs.Set.{has}
use Rattle.tree.specs.declared.Tree.{Tree}
use Rattle.tree.specs.Class.{is_class, is_leaf}
use Rattle.rules.specs.Sizes.{active_size}
use Rattle.tree.proofs.Classes.{class_range}
use Rattle.state.specs.Account.{account_of, funds_of}
use Rattle.state.specs.State.{State, in_round}
use Rattle.sound.specs.Sound.{Sound}
use Rattle.rules.specs.Active.{round_active, weight_sum}
use Rattle.rules.specs.Opening.{main, surplus, next_kind, next_size, opened_with, opened, Resizes}
use Rattle.rules.specs.Sending.{first_of, ready, next_leaf, sent_state, Turn, turn_of, Trace, sends, trace_of}
use Rattle.rules.specs.Waits.{Waits}
use Rattle.rules.specs.Wide.{Wide}
use Rattle.rules.proofs.Closing.{main_where, root_has}
use Rattle.rules.proofs.Opened.{opened_inner_lem, opened_root_main, opened_sound, next_sound, next_wide}
use Rattle.rules.proofs.Resized.{never_below, next_resizes}
use Rattle.rules.proofs.Searches.{first_range}
use Rattle.rules.proofs.Taken.{taken_root, taken_same}

-- ---- which rounds follow

-- an opening keeps the tree and the queues, so the weight sums too, and rule 2's size
pub opened_tree : (size : ℕ) (s : State) → (opened_with size s).tree ≡ s.tree
unfolding opened_with
opened_tree size s = refl

pub opened_queues : (size : ℕ) (s : State) → (opened_with size s).queues ≡ s.queues
unfolding opened_with
opened_queues size s = refl

pub opened_sum : (size : ℕ) (s : State) (i : ℕ)
    → weight_sum (opened_with size s).tree (round_active (opened_with size s)) i ≡ weight_sum s.tree (round_active s) i
opened_sum size s i = ap₂ (λ (t : Tree) (active : ℕ). weight_sum t active i) (opened_tree size s) (taken_same size s)

opened_low : (size : ℕ) (s : State) → active_size s.tree (round_active s) ≤ size
    → active_size (opened_with size s).tree (round_active (opened_with size s)) ≤ (opened_with size s).round.size.0
unfolding opened_with
opened_low size s low = subst (λ (active : ℕ). active_size s.tree active ≤ size) (sym (taken_same size s)) low

module _ (s : State) (size : ℕ) (sound : Sound s) (wide : Wide s) where
  -- after an opening no active inner class has a surplus, so the next round is a main round
  inner_less : (i : ℕ) → is_class s.tree i ≡ true → is_leaf s.tree i ≡ false → has (round_active s) i ≡ true
      → funds_of (account_of (opened_with size s).round.accounts i) < weight_sum (opened_with size s).tree (round_active (opened_with size s)) i
  inner_less i is inner on =
      let r = class_range s.tree i is in
      let h = opened_inner_lem s size sound wide i r.0 (record { class = r.1; inner = inner }) on in
      omega (arith, h.0, h.1, opened_sum size s i)

  pub next_main : next_kind (opened_with size s) ≡ main
  next_main =
      main_where (opened_with size s)
      (λ i is inner on. inner_less i (rw opened_tree at is) (rw opened_tree at inner) (rw taken_same at on))

  -- a surplus round that sends nothing is followed by a main round
  pub surplus_main : next_kind s ≡ surplus → next_leaf (opened_with size s) ≡ 64 → next_kind (opened_with size s) ≡ main
  surplus_main kind closed = next_main

-- the search ends at a class, or at 64
pub leaf_most : (s : State) → Sound s → next_leaf s ≤ 64
unfolding next_leaf
leaf_most s sound = omega (arith, (first_range (ready s) (64 - s.round.place) s.round.place).1, sound.place.high)

-- what a state has waiting, it has waiting when a round has opened
pub opened_waits : (size : ℕ) (s : State) → Waits s → Waits (opened_with size s)
unfolding opened_with
opened_waits size s w = record { leaf = w.leaf; class = w.class; is_leaf = w.is_leaf; holds = w.holds }

-- a main round sends: the root and the active inner classes keep less than their weight sums, so the leaves hold too much for none to send
pub main_sends : (s : State) (size : ℕ) → Sound s → Wide s → Resizes s size → next_leaf s ≡ 64 → Waits s → next_kind s ≡ main
    → next_leaf (opened_with size s) < 64
main_sends s size sound wide fit shut w kind = go (dec_lt (next_leaf (opened_with size s)) 64)
  where
    after : Sound (opened_with size s)
    after = opened_sound s size sound wide fit (never_below s size sound wide fit shut)

    go : Dec (next_leaf (opened_with size s) < 64) → next_leaf (opened_with size s) < 64
    go (yes h) = h
    go (no h) =
        let closed : next_leaf (opened_with size s) ≡ 64 = omega (arith, leaf_most (opened_with size s) after) in
        let keeps = root_has (opened_with size s) after closed (next_main s size sound wide) (opened_low size s (fit.low kind)) in
        let less = opened_root_main s size sound wide kind
        (taken_root s sound.fits.tree w.leaf w.class w.is_leaf w.holds) in
        absurd (omega (arith, keeps, less.0, less.1, opened_sum size s 0))

-- so a round that opens on one only just opened, which sent nothing, sends: it is a main round
pub second_sends : (s : State) → Sound s → Wide s → Waits s → next_leaf s ≡ 64 → next_leaf (opened s) ≡ 64
    → next_leaf (opened (opened s)) < 64
second_sends s sound wide w closed again =
    let after = next_sound s sound wide closed in
    main_sends (opened s) (next_size (opened s)) after (next_wide s sound wide) (next_resizes (opened s) after) again
    (opened_waits (next_size s) s w) (next_main s (next_size s) sound wide)

-- ---- a send, step by step

-- where a leaf is found it sends, whatever is left to open
pub sends_now : (n : ℕ) (turns : List Turn) (s : State) → next_leaf s < 64
    → sends n turns s ≡ record { turns = turns; class = next_leaf s; packet = first_of s (next_leaf s); state = sent_state s (next_leaf s) }
unfolding sends
sends_now zero turns s h = refl
sends_now (suc n) turns s h = rw (lt-ltb (next_leaf s) 64 h, sends)

-- where none is found the round has closed, and a new one is opened
pub sends_closed : (n : ℕ) (turns : List Turn) (s : State) → next_leaf s ≡ 64
    → sends (suc n) turns s ≡ sends n (turns ++ (turn_of s ∷ [])) (opened s)
unfolding sends
sends_closed n turns s h = rw (le-ltb (next_leaf s) 64 (omega (arith, h)), sends)

-- rounds that close and open one after the other, from a state to a state
unfoldable pub Rounds : State → List Turn → State → Type 0
Rounds s [] after = s ≡ after
Rounds s (turn ∷ turns) after = (next_leaf s ≡ 64) × (turn ≡ turn_of s) × Rounds (opened s) turns after

-- an opening leaves all else of a state as it was
pub opened_same : (s : State) → opened s ≡ in_round s (opened s).round
unfolding opened_with
opened_same s = refl

-- a send goes: it opens at most two rounds, however many it might open, and then a leaf sends
pub record Goes (s : State) : Type 0 where
  pub after : State
  pub more : List Turn
  pub sound : Sound after
  pub wide : Wide after
  pub same : after ≡ in_round s after.round
  pub leaf : next_leaf after < 64
  pub few : length more ≤ 2
  pub rounds : Rounds s more after
  pub gives : (n : ℕ) (turns : List Turn)
      → sends (suc (suc n)) turns s
      ≡ record {
        turns = turns ++ more;
        class = next_leaf after;
        packet = first_of after (next_leaf after);
        state = sent_state after
            (next_leaf after);
      }

-- the trace of a send that has opened these rounds
abbrev gone : State → List Turn → Trace
gone s turns = record { turns = turns; class = next_leaf s; packet = first_of s (next_leaf s); state = sent_state s (next_leaf s) }

module _ (s : State) (sound : Sound s) (wide : Wide s) where
  -- no round opened
  none_opened : next_leaf s < 64 → Goes s
  unfolding Rounds
  none_opened found = record {
    after = s;
    more = [];
    sound = sound;
    wide = wide;
    same = refl;
    leaf = found;
    few = omega arith;
    rounds = refl;
    gives = λ n turns. sends_now (suc (suc n)) turns s found ∙ ap (gone s) (sym (append-nil turns));
  }

  -- one
  one_opened : next_leaf s ≡ 64 → next_leaf (opened s) < 64 → Goes s
  unfolding Rounds
  one_opened closed found = record {
    after = opened s;
    more = turn_of s ∷ [];
    sound = next_sound s sound wide closed;
    wide = next_wide s sound wide;
    same = opened_same s;
    leaf = found;
    few = omega arith;
    rounds = (closed, refl, refl);
    gives = λ n turns. sends_closed (suc n) turns s closed ∙ sends_now (suc n) (turns ++ (turn_of s ∷ [])) (opened s) found;
  }

  -- two
  two_opened : next_leaf s ≡ 64 → next_leaf (opened s) ≡ 64 → next_leaf (opened (opened s)) < 64 → Goes s
  unfolding Rounds
  two_opened closed again found = record {
    after = after;
    more = turn_of s ∷ turn_of (opened s) ∷ [];
    sound = next_sound (opened s) (next_sound s sound wide closed) (next_wide s sound wide) again;
    wide = next_wide (opened s) (next_sound s sound wide closed) (next_wide s sound wide);
    same =
        opened_same (opened s)
        ∙ ap (λ (x : State). in_round x after.round) (opened_same s);
    leaf = found;
    few = omega arith;
    rounds = (closed, refl, (again, refl, refl));
    gives = λ n turns.
        sends_closed (suc n) turns s closed
        ∙ sends_closed n (turns ++ (turn_of s ∷ [])) (opened s) again
        ∙ sends_now n ((turns ++ (turn_of s ∷ [])) ++ (turn_of (opened s) ∷ [])) (opened (opened s)) found
        ∙ ap (gone (opened (opened s))) (append_assoc turns (turn_of s ∷ []) (turn_of (opened s) ∷ []));
  }
    where
      after : State
      after = opened (opened s)

  -- and never more: a round that opens on one only just opened is a main round, and sends
  pub two_rounds_lem : Waits s → Goes s
  two_rounds_lem w = first (dec_lt (next_leaf s) 64)
    where
      second : next_leaf s ≡ 64 → Dec (next_leaf (opened s) < 64) → Goes s
      second closed (yes found) = one_opened closed found
      second closed (no none) =
          let again : next_leaf (opened s) ≡ 64 = omega (arith, leaf_most (opened s) (next_sound s sound wide closed)) in
          two_opened closed again (second_sends s sound wide w closed again)

      first : Dec (next_leaf s < 64) → Goes s
      first (yes found) = none_opened found
      first (no none) = second (omega (arith, leaf_most s sound)) (dec_lt (next_leaf (opened s)) 64)

  -- more rounds that it might open change nothing
  pub fuel_enough : Waits s → (n : ℕ) → sends (suc (suc n)) [] s ≡ trace_of s
  unfolding trace_of
  fuel_enough w n = (two_rounds_lem w).gives n [] ∙ sym ((two_rounds_lem w).gives 62 [])
