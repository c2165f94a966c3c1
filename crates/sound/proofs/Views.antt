-- Soundness of a link and the numbers of its classes say the same. Demands 1 and 2.
use Rattle.std.proofs.Common.{◌≡◌, ℕ, zero, suc, ◌-◌, ◌%◌, ◌^◌, ◌<◌, ◌≤◌, Bool, true, false, List, get_or, sym, refl, ap, ◌∙◌, add-zero, arith}
use native.Mathlib.Decide.{dec_lt, dec_le}
use Rattle.checks.proofs.Laws.{not_true_and_false}
use Rattle.sets.specs.Set.{has}
use Rattle.sets.proofs.Laws.{has_past}
use Rattle.tree.specs.Class.{parent_of, longest_of, is_leaf}
use Rattle.tree.specs.Rules.{PlanRules}
use Rattle.tree.specs.Size.{SizeRight}
use Rattle.tree.proofs.Classes.{class_in_lem, class_range, class_past, root_no_class}
use Rattle.tree.proofs.Rules.{few_classes, parent_lower}
use Rattle.state.proofs.Queues.{queue_at_lem}
use Rattle.state.proofs.Meaning.{meaning_queue, meaning_held, meaning_first}
use Rattle.state.specs.declared.Link.{Link}
use Rattle.state.specs.declared.Waiting.{Waiting}
use Rattle.state.specs.Account.{balance_of, residual_of}
use Rattle.state.specs.Queue.{no_packet, start_of, held_of, slot, packet_at}
use Rattle.state.specs.State.{meaning, queue_at}
use Rattle.tree.specs.Below.{Above}
use Rattle.sound.specs.Sound.{InRange, PlaceRight, Sound, SoundLink}
use Rattle.sound.specs.Steps.{parents_after, view_of, ViewRight, ClassRight, ClassesRight}
use Rattle.sound.proofs.Active.{ActiveChild, ByChild, child_to_leaf, leaf_to_child, parents_in, parents_only}
use Rattle.sound.proofs.Counts.{right_totals, totals_packets, totals_bytes}
use Rattle.sound.proofs.Totals.{total_part}

-- ---- from the numbers to soundness

module _ (l : Link) (rules : PlanRules l.tree) where
  -- the parents of the active classes after class i
  abbrev after : ℕ → ℕ
  after i = parents_after l.tree l.round.active i

  -- no number past the last class is active
  NoneActive : Type 0
  NoneActive = (i : ℕ) → l.tree.count < i → has l.round.active i ≡ false

  -- class i is among them exactly when a child of it is active
  after_child : NoneActive → (i : ℕ) → i < 64 → has (after i) i ≡ true → ActiveChild l.tree l.round.active i
  unfolding NoneActive
  after_child none i u h =
      let w = parents_only l.tree l.round.active (63 - i) i h in
      go w.0 (omega (arith, w.1)) w.3 w.4 (dec_le w.0 l.tree.count)
    where
      go : (k : ℕ) → 1 ≤ k → has l.round.active k ≡ true → parent_of l.tree k ≡ i → Dec (k ≤ l.tree.count)
          → ActiveChild l.tree l.round.active i
      go k low a p (yes m) = record { child' = k; class = class_in_lem l.tree k low m; parent = p; is_active = a }
      go k low a p (no m) = absurd (not_true_and_false a (none k (omega arith)))

  pub child_after : (i : ℕ) → ActiveChild l.tree l.round.active i → has (after i) i ≡ true
  child_after i c =
      let k = c.child' in
      let range = class_range l.tree k c.class in
      let low : i < k = omega (arith, parent_lower l.tree k rules c.class, c.parent) in
      let few : k < 64 = omega (arith, range.1, few_classes l.tree rules) in
      ap (has (after i)) (sym c.parent) ∙ parents_in l.tree l.round.active (63 - i) k (omega (arith, low, few)) few c.is_active

  -- by the numbers, a class above is active exactly when a child of it is
  by_child : NoneActive → ((i : ℕ) → i < 64 → is_leaf l.tree i ≡ false → has l.round.active i ≡ has (after i) i)
      → ByChild l.tree l.round.active
  by_child none same = record {
    has_child_lem = λ i ab a. let u = number i ab in after_child none i u (sym (same i u ab.inner) ∙ a);
    from_child = λ i ab c. same i (number i ab) ab.inner ∙ child_after i c;
  }
    where
      number : (i : ℕ) → Above l.tree i → i < 64
      number i ab = omega (arith, ab.class, few_classes l.tree rules)

  -- and the other way
  by_numbers : NoneActive → ByChild l.tree l.round.active → (i : ℕ) → i ≤ l.tree.count → is_leaf l.tree i ≡ false
      → has l.round.active i ≡ has (after i) i
  by_numbers none by i u f = go (has l.round.active i) (has (after i) i) refl refl
    where
      ab : Above l.tree i
      ab = record { class = u; inner = f }

      go : (x y : Bool) → has l.round.active i ≡ x → has (after i) i ≡ y → x ≡ y
      go true true a p = refl
      go false false a p = refl
      go true false a p = absurd (not_true_and_false (child_after i (by.has_child_lem i ab a)) p)
      go false true a p =
          let few : i < 64 = omega (arith, few_classes l.tree rules) in
          absurd (not_true_and_false (by.from_child i ab (after_child none i few p)) a)

  -- a number past the last class is no parent and no leaf, nor is the root a leaf
  pub past_parent : (i : ℕ) → i < 64 → l.tree.count < i → has (after i) i ≡ false
  past_parent i u h = go (has (after i) i) refl
    where
      go : (b : Bool) → has (after i) i ≡ b → has (after i) i ≡ false
      go false p = p
      go true p =
          let w = parents_only l.tree l.round.active (63 - i) i p in
          absurd (omega (
            arith,
            ((rules.unset.at w.0 w.2).past (class_past l.tree w.0 (omega (arith, w.1)))).parent,
            w.4,
          ))

  pub past_leaf : (i : ℕ) → i < 64 → l.tree.count < i → is_leaf l.tree i ≡ false
  past_leaf i u h = ((rules.unset.at i u).past (class_past l.tree i h)).leaf

  leaf_low : (i : ℕ) → is_leaf l.tree i ≡ true → 1 ≤ i
  leaf_low zero f = absurd (not_true_and_false f ((rules.unset.at 0 (omega arith)).past (root_no_class l.tree)).leaf)
  leaf_low (suc i) f = omega arith

  -- the first packet of a class, as the numbers have it
  first_is : (i : ℕ) → i < 64 → 1 ≤ held_of l i
      → (get_or (queue_at (meaning l) i) 0 no_packet).length ≡ get_or l.lengths (slot i (start_of l i % 32)) 0
  first_is i u h =
      ap (λ (p : Waiting). p.length) (meaning_first l i u h)
      ∙ ap (λ (n : ℕ). get_or l.lengths (slot i (n % 32)) 0) (add-zero (start_of l i))

  packet_is : (i j : ℕ) → i < 64 → j < held_of l i → get_or (queue_at (meaning l) i) j no_packet ≡ packet_at l i j
  packet_is i j u h = ap (λ (q : List Waiting). get_or q j no_packet) (meaning_queue l i u) ∙ queue_at_lem l i j h

  pub right_to_sound : SizeRight l.tree l.round.size.0 → PlaceRight (meaning l) → l.round.active < 2 ^ 64 → ClassesRight l
      → SoundLink l
  unfolding view_of NoneActive
  right_to_sound size place word right =
      let view : (i : ℕ) → i < 64 → ViewRight (view_of l i) = λ i u. (right.at i u).view in
      let by = child_to_leaf l.tree l.round.active rules
      (by_child (λ i h. none i h (dec_lt i 64)) (λ i u f. ((view i u).other f).above)) in
      record {
        state =
            record {
              fits = record { tree = rules; size = size };
              holds =
                  λ i u. record {
                    few = λ f. rw (meaning_held l i u) ((view i u).leaf f).few;
                    range =
                        λ f j h.
                        let h' : j < held_of l i = rw (meaning_held l i u) at h in
                        rw (packet_is i j u h')
                        (record { low = ((right.at i u).queue f).low j h'; high = ((right.at i u).queue f).high j h' });
                    other = λ f. rw (meaning_held l i u) ((view i u).other f).none;
                  };
              waiting = λ i u. record { waits = λ f a. omega (arith, meaning_held l i u, ((view i u).leaf f).waits a) };
              past = record { word = word; past = λ i h. none i h (dec_lt i 64) };
              above = λ i u. record { leaf_below_lem = by.has_leaf i; active = by.from_leaf i };
              zero = λ i u. record {
                balance = λ p a. balance i u p a (is_leaf l.tree i) refl;
                residual = λ p a. residual i u p a (is_leaf l.tree i) refl;
                leaf = λ f. ((view i u).leaf f).residual;
              };
              adds = record { adds = right.adds };
              place = place;
              behind =
                  λ i u. record {
                    lacks = λ f a h. rw (first_is i u (((view i u).leaf f).waits a)) (((view i u).leaf f).lacks a h);
                  };
              totals = right_totals l rules right.at;
            };
        starts = λ i u. record { start = (view i u).start };
      }
    where
      none : (i : ℕ) → l.tree.count < i → Dec (i < 64) → has l.round.active i ≡ false
      none i h (yes u) = ((right.at i u).view.other (past_leaf i u h)).above ∙ past_parent i u h
      none i h (no u) = has_past l.round.active i word (omega arith)

      balance : (i : ℕ) (u : i < 64) → 1 ≤ i → has l.round.active i ≡ false → (b : Bool) → is_leaf l.tree i ≡ b → balance_of
          l.round.accounts i ≡ 0
      balance i u p a true f = ((right.at i u).view.leaf f).balance a
      balance i u p a false f = ((right.at i u).view.other f).balance p a

      residual : (i : ℕ) (u : i < 64) → 1 ≤ i → has l.round.active i ≡ false → (b : Bool) → is_leaf l.tree i ≡ b → residual_of
          l.round.accounts i ≡ 0
      residual i u p a true f = ((right.at i u).view.leaf f).residual
      residual i u p a false f = ((right.at i u).view.other f).residual p a

  -- ---- from soundness to the numbers

  pub sound_to_right : SoundLink l → ClassesRight l
  unfolding view_of NoneActive
  sound_to_right s = record { at = λ i u. at i u; adds = s.state.adds.adds }
    where
      st : Sound (meaning l)
      st = s.state

      by : ByChild l.tree l.round.active
      by =
          leaf_to_child l.tree l.round.active rules
          (record {
            has_leaf = λ i ab. (st.above i (omega (arith, ab.class, few_classes l.tree rules))).leaf_below_lem ab;
            from_leaf = λ i ab. (st.above i (omega (arith, ab.class, few_classes l.tree rules))).active ab;
          })

      range : (i : ℕ) (u : i < 64) → is_leaf l.tree i ≡ true → (j : ℕ) → j < held_of l i → InRange l.tree i (packet_at l i j)
      range i u f j h = rw (packet_is i j u h) at ((st.holds i u).range f j (rw (meaning_held l i u) h))

      same : (i : ℕ) → i < 64 → is_leaf l.tree i ≡ false → Dec (i ≤ l.tree.count) → has l.round.active i ≡ has (after i) i
      same i u f (yes m) = by_numbers st.past.past by i m f
      same i u f (no m) = st.past.past i (omega arith) ∙ sym (past_parent i u (omega arith))

      at : (i : ℕ) → i < 64 → ClassRight (view_of l i) l.lengths (longest_of l.tree i)
      at i u = record {
        view =
            record {
              start = (s.starts i u).start;
              balance = omega (arith, total_part l.round.accounts i u, st.adds.adds);
              residual = omega (arith, total_part l.round.accounts i u, st.adds.adds);
              leaf = λ f. record {
                few = rw (meaning_held l i u) at ((st.holds i u).few f);
                packets = (totals_packets l rules st.totals i u).leaf f;
                waits = λ a. rw (meaning_held l i u) at ((st.waiting i u).waits f a);
                balance = λ a. (st.zero i u).balance (leaf_low i f) a;
                residual = (st.zero i u).leaf f;
                lacks =
                    λ a h.
                    let w : 1 ≤ held_of l i = rw (meaning_held l i u) at ((st.waiting i u).waits f a) in
                    rw (first_is i u w) at ((st.behind i u).lacks f a h);
              };
              other = λ f. record {
                none = rw (meaning_held l i u) at ((st.holds i u).other f);
                packets = (totals_packets l rules st.totals i u).other f;
                bytes = (totals_bytes l rules st.totals i u).other f;
                above = same i u f (dec_le i l.tree.count);
                balance = (st.zero i u).balance;
                residual = (st.zero i u).residual;
              };
            };
        queue = λ f. record {
          low = λ j h. (range i u f j h).low;
          high = λ j h. (range i u f j h).high;
          bytes = (totals_bytes l rules st.totals i u).leaf f;
        };
      }
