-- A whole send: the same class, packet and rounds as the first engine's on the state that x stands for, and equal accounts at each closing.
use mathlib.Core.Bool.{true}
use mathlib.Core.List.{List, [], ◌∷◌, ◌++◌, map}
use mathlib.Core.Path.{◌≡◌, refl, sym, ap, ap₂, subst, ◌∙◌}
use Prim.Native.Nat.{ℕ, zero, suc, ◌≤◌, ◌<◌}
use native.Mathlib.Decide.{dec_lt}
use native.Mathlib.Omega.{arith}
use borrow.Author.Tests.{lt-ltb, le-ltb}
use Rattle.sets.specs.Set.{has}
use Rattle.tree.specs.Class.{is_leaf}
use Rattle.state.specs.State.{State}
use Rattle.rules.specs.Opening.{opened, next_size}
use Rattle.rules.specs.Sending.{first_of, next_leaf, active_leaf, sent_state, Turn, turn_of, Trace, sends, trace_of}
use Rattle.rules.specs.Waits.{Waits}
use Rattle.rules.specs.Within.{Within}
use Rattle.rules.proofs.Resized.{closing_covers}
use Rattle.rules.proofs.Rounds.{leaf_most, opened_waits, sends_now, sends_closed}
use Rattle.rules.proofs.Sender.{Sender, next_sender}
use Rattle.rules.proofs.Taken.{taken_root}
use Rattle.rules.proofs.Within.{within_two, within_less, within_none}
use Rattle.published.specs.Asking.{Published}
use Rattle.published.specs.Visiting.{visited, opened_published, Passage, passes}
use Rattle.published.specs.Visiting.{passes_in, passage_of}
use Rattle.published.specs.Settled.{settled}
use Rattle.published.specs.Sound.{SoundPublished, WidePublished}
use Rattle.published.proofs.Visits.{VisitsWell, visited_well}
use Rattle.published.proofs.Closed.{closed_equal, active_leaf_lem}
use Rattle.published.proofs.Opens.{opens_settled, opens_sound, opens_wide}
use Rattle.published.proofs.Settles.{stands_sound, stands_wide}
use Rattle.published.proofs.Sends.{sends_settled, sends_sound, sends_wide, sender_here}

-- the state in which a round of the first engine closed
abbrev pub closed_of : Turn → State
closed_of turn = turn.closed

-- a send of the second engine goes as one of the first
pub record PassesAs (p : Passage) (trace : Trace) : Type 0 where
  pub closings : p.closings ≡ map closed_of trace.turns
  pub class : p.class ≡ trace.class
  pub packet : p.packet ≡ trace.packet
  pub stands : settled p.after ≡ trace.state
  pub sound : SoundPublished p.after
  pub wide : WidePublished p.after

map_more : (xs : List Turn) (y : Turn) → map closed_of (xs ++ (y ∷ [])) ≡ map closed_of xs ++ (closed_of y ∷ [])
map_more [] y = refl
map_more (x ∷ xs) y = ap (λ (r : List State). closed_of x ∷ r) (map_more xs y)

-- ---- one step

pub passes_now : (n : ℕ) (closings : List State) (x : Published) → (visited x).leaf < 64 → passes_in n closings x ≡ passes closings
    (visited x)
unfolding passes_in
passes_now zero closings x u = refl
passes_now (suc n) closings x u = rw (lt-ltb (visited x).leaf 64 u, passes_in)

pub passes_closed : (n : ℕ) (closings : List State) (x : Published) → (visited x).leaf ≡ 64
    → passes_in (suc n) closings x
    ≡ passes_in n (closings ++ ((visited x).after.state ∷ [])) (opened_published (visited x).after)
unfolding passes_in
passes_closed n closings x e = rw (le-ltb (visited x).leaf 64 (omega (arith, e)), passes_in)

-- both see the same queues
first_same : (x : Published) (i : ℕ) → first_of x.state i ≡ first_of (settled x) i
unfolding settled
first_same x i = refl

-- a leaf is found
module _ (x : Published) (sound : SoundPublished x) (wide : WidePublished x) (found : next_leaf (settled x) < 64) where
  v : VisitsWell x x.state.round.place (next_leaf (settled x)) (visited x)
  v = visited_well x sound wide

  abbrev y : Published
  y = (visited x).after

  abbrev i : ℕ
  i = (visited x).leaf

  same_place : y.state.round.place ≡ x.state.round.place
  same_place = ap (λ (s : State). s.round.place) v.same

  pub here : i < 64
  here = omega (arith, v.leaf_is, found)

  next_is : next_leaf (settled y) ≡ i
  next_is = ap next_leaf v.stands ∙ sym v.leaf_is

  leaf_like : (k : ℕ) → active_leaf y.state k ≡ active_leaf x.state k
  unfolding active_leaf
  leaf_like k = ap (λ (s : State). active_leaf s k) v.same

  pub sender : Sender y.state i
  sender =
      sender_here y i v.sound
      (subst (Sender (settled y)) next_is (next_sender (settled y) (stands_sound y v.sound v.wide) (omega (arith, next_is, here))))
      (v.found here) (λ k u l h on. v.passed k u (omega (arith, same_place)) h (sym (leaf_like k) ∙ on))

  before : (k : ℕ) → k < 64 → is_leaf y.state.tree k ≡ true → has y.state.round.active k ≡ true → k < i → has y.asked k ≡ true
  before k u leaf on h = go (dec_lt k y.state.round.place)
    where
      go : Dec (k < y.state.round.place) → has y.asked k ≡ true
      go (yes l) = (v.sound.behind k u).asked leaf on l
      go (no l) = v.passed k u (omega (arith, same_place)) h (sym (leaf_like k) ∙ active_leaf_lem y.state k on leaf)

  now_passes : (closings : List State) (turns : List Turn) → closings ≡ map closed_of turns
      → PassesAs (passes closings (visited x))
      (record {
        turns = turns;
        class = next_leaf (settled x);
        packet = first_of (settled x) (next_leaf (settled x));
        state = sent_state (settled x) (next_leaf (settled x));
      })
  now_passes closings turns e = record {
    closings = e;
    class = v.leaf_is;
    packet = first_same y i ∙ ap (λ (s : State). first_of s i) v.stands ∙ ap (first_of (settled x)) v.leaf_is;
    stands =
        sends_settled y i v.sound v.wide sender (v.found here)
        ∙ ap₂ (λ (s : State) (k : ℕ). sent_state s k) v.stands v.leaf_is;
    sound = sends_sound y i v.sound v.wide sender (v.found here) before;
    wide = sends_wide y i v.sound v.wide sender (v.found here);
  }

-- the round has closed
module _ (x : Published) (sound : SoundPublished x) (wide : WidePublished x) (closed : next_leaf (settled x) ≡ 64) (waits : Waits
    (settled x))
  where
    w : VisitsWell x x.state.round.place (next_leaf (settled x)) (visited x)
    w = visited_well x sound wide

    pub equal : (visited x).after.state ≡ settled x
    equal = closed_equal x sound wide closed

    waits' : Waits (visited x).after.state
    waits' = subst Waits (sym equal) waits

    pub next_stands : settled (opened_published (visited x).after) ≡ opened (settled x)
    next_stands =
        opens_settled (visited x).after w.sound.state.fits.tree w.wide
        (taken_root (visited x).after.state w.sound.state.fits.tree waits'.leaf waits'.class waits'.is_leaf
        waits'.holds)
        ∙ ap opened equal

    pub next_sound : SoundPublished (opened_published (visited x).after)
    next_sound =
        opens_sound (visited x).after w.sound w.wide
        (closing_covers (visited x).after.state w.sound.state w.wide.state (ap next_leaf equal ∙ closed))

    pub next_wide : WidePublished (opened_published (visited x).after)
    next_wide = opens_wide (visited x).after w.sound.state.fits.tree w.wide

    same_closing : (visited x).after.state ≡ closed_of (turn_of (settled x))
    unfolding turn_of
    same_closing = equal

-- ---- all of it

passes_found : (n : ℕ) (closings : List State) (turns : List Turn) (x : Published) → SoundPublished x → WidePublished x
    → next_leaf (settled x) < 64 → closings ≡ map closed_of turns → PassesAs (passes_in n closings x) (sends n turns (settled x))
passes_found n closings turns x sound wide found e =
    rw (passes_now n closings x (here x sound wide found), sends_now n turns (settled x) found)
    (now_passes x sound wide found closings turns e)

passes_within : (m n : ℕ) (closings : List State) (turns : List Turn) (x : Published) → SoundPublished x → WidePublished x
    → Waits (settled x) → Within m (settled x) → m ≤ n → closings ≡ map closed_of turns
    → PassesAs (passes_in n closings x) (sends n turns (settled x))
passes_within zero n closings turns x sound wide waits within le e =
    passes_found n closings turns x sound wide (within_none (settled x) within) e
passes_within (suc m) zero closings turns x sound wide waits within le e = absurd (omega arith)
passes_within (suc m) (suc n) closings turns x sound wide waits within le e =
    go (dec_lt (next_leaf (settled x)) 64) (λ c t y s w v i. passes_within m n c t y s w v i (omega arith))
  where
    go : Dec (next_leaf (settled x) < 64)
        → ((c : List State) (t : List Turn) (y : Published) → SoundPublished y → WidePublished y → Waits (settled y) → Within m (settled y)
        → c ≡ map closed_of t → PassesAs (passes_in n c y) (sends n t (settled y)))
        → PassesAs (passes_in (suc n) closings x) (sends (suc n) turns (settled x))
    go (yes found) later = passes_found (suc n) closings turns x sound wide found e
    go (no none) later =
        let closed : next_leaf (settled x) ≡ 64 = omega (arith, leaf_most (settled x) (stands_sound x sound wide)) in
        let s = next_stands x sound wide closed waits in
        let y = opened_published (visited x).after in
        let leaf : (visited x).leaf ≡ 64 = (visited_well x sound wide).leaf_is ∙ closed in
        let now =
        later (closings ++ ((visited x).after.state ∷ [])) (turns ++ (turn_of (settled x) ∷ [])) y
        (next_sound x sound wide closed waits) (next_wide x sound wide closed waits)
        (subst Waits (sym s) (opened_waits (next_size (settled x)) (settled x) waits))
        (subst (Within m) (sym s) (within_less m (settled x) within closed))
        (ap₂ (λ (c : List State) (k : State). c ++ (k ∷ [])) e (same_closing x sound wide closed waits)
        ∙ sym (map_more turns (turn_of (settled x))))
        in
        rw (passes_closed n closings x leaf, sends_closed n turns (settled x) closed)
        (subst
        (λ (r : State). PassesAs (passes_in n (closings ++ ((visited x).after.state ∷ [])) y)
        (sends n (turns ++ (turn_of (settled x) ∷ [])) r))
        s now)

-- while a packet waits, a send of the second engine goes as one of the first on the state that x stands for
pub passage_as : (x : Published) → SoundPublished x → WidePublished x → Waits (settled x) → PassesAs (passage_of x) (trace_of (settled x))
unfolding passage_of trace_of
passage_as x sound wide waits =
    passes_within 2 64 [] [] x sound wide waits (within_two (settled x) (stands_sound x sound wide) (stands_wide x wide) waits)
    (omega arith)
    refl
