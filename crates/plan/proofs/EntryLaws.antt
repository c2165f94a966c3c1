-- Laws of the entries of a recording, one for each way an entry can be; an entry stands whole in the rest of the input, and what comes
-- after it is no part of it.
use mathlib.Core.Bool.{Bool, true, false}
use mathlib.Core.List.{List, ◌++◌}
use mathlib.Core.Path.{◌≡◌, refl, sym, ap, subst, ◌∙◌}
use Prim.Native.Nat.{ℕ, ◌+◌, ◌≤◌, ◌<◌}
use native.Mathlib.Omega.{arith}
use borrow.Author.Tests.{ne_eqb}
use lib.ListN.{length, drop, length-append, length-drop}
use lib.Seq.{drop-append-le}
use Rattle.plan.specs.declared.entry.Entry.TheVariants.{Arrives, Claims}
use Rattle.checks.specs.declared.Refusal.TheVariants.{Cut, UnknownKind, Unpaired}
use Rattle.std.specs.Prelude.{Ok, Err, Some, None}
use Rattle.checks.specs.Check.{first_broken, refusal_at}
use Rattle.plan.specs.declared.kind.Section.TheVariants.{Recordings, AfterSend}
use Rattle.plan.specs.Kind.{gives_arrival, gives_claim, gives_sent}
use Rattle.plan.specs.Record.{kind_at, missing, unknown, cut, body_of}
use Rattle.plan.specs.Event.{arrived_of}
use Rattle.plan.specs.Entry.{claim_in, claim_after, entry_of, entry_at, claim_uses, longest_entry, EntryRead}
use Rattle.plan.proofs.Records.{whole_length, arrival_body, sent_body, there_length}
use Rattle.plan.proofs.Longer.{same_kind, same_unknown, same_cut, same_body, whole}

-- ---- one by one

module _ (next : List ℕ) where
  pub claim_sent : gives_sent (kind_at next) ≡ true → claim_in next ≡ Some (arrived_of (body_of next))
  unfolding claim_in
  claim_sent e = rw e refl

  pub claim_idle : gives_sent (kind_at next) ≡ false → claim_in next ≡ None
  unfolding claim_in
  claim_idle e = rw e refl

  pub after_none : missing next ≡ true → claim_after next ≡ Err (refusal_at Unpaired 0)
  unfolding claim_after first_broken
  after_none e = rw e refl

  pub after_strange : missing next ≡ false → unknown AfterSend next ≡ true → claim_after next ≡ Err (refusal_at Unpaired 0)
  unfolding claim_after first_broken
  after_strange e f = rw (e, f) refl

  pub after_cut : missing next ≡ false → unknown AfterSend next ≡ false → cut next ≡ true → claim_after next ≡ Err (refusal_at Cut 1)
  unfolding claim_after first_broken
  after_cut e f g = rw (e, f, g) refl

  pub after_whole : missing next ≡ false → unknown AfterSend next ≡ false → cut next ≡ false → claim_after next ≡ Ok (Some (Claims (claim_in next)))
  unfolding claim_after first_broken
  after_whole e f g = rw (e, f, g) refl

module _ (rest : List ℕ) where
  pub entry_arrives : gives_arrival (kind_at rest) ≡ true → entry_of rest ≡ Ok (Some (Arrives (arrived_of (body_of rest))))
  unfolding entry_of
  entry_arrives e = rw e refl

  pub entry_sends : gives_arrival (kind_at rest) ≡ false → entry_of rest ≡ claim_after (drop 1 rest)
  unfolding entry_of
  entry_sends e = rw e refl

  pub entry_end : missing rest ≡ true → entry_at rest ≡ Ok None
  unfolding entry_at
  entry_end e = rw e refl

  pub entry_unknown : missing rest ≡ false → unknown Recordings rest ≡ true → entry_at rest ≡ Err (refusal_at UnknownKind 0)
  unfolding entry_at first_broken
  entry_unknown e f = rw (e, f) refl

  pub entry_cut : missing rest ≡ false → unknown Recordings rest ≡ false → cut rest ≡ true → entry_at rest ≡ Err (refusal_at Cut 0)
  unfolding entry_at first_broken
  entry_cut e f g = rw (e, f, g) refl

  pub entry_alone : missing rest ≡ false → unknown Recordings rest ≡ false → cut rest ≡ false → gives_claim (kind_at rest) ≡ true
      → entry_at rest ≡ Err (refusal_at Unpaired 0)
  unfolding entry_at first_broken
  entry_alone e f g h = rw (e, f, g, h) refl

  pub entry_whole : missing rest ≡ false → unknown Recordings rest ≡ false → cut rest ≡ false → gives_claim (kind_at rest) ≡ false
      → entry_at rest ≡ entry_of rest
  unfolding entry_at first_broken
  entry_whole e f g h = rw (e, f, g, h) refl

-- ---- within the rest of the input

-- what an entry uses, and a refusal's place, are within the rest of the input
abbrev Within : List ℕ → EntryRead → Type 0
Within rest (Ok None) = 0 ≤ length rest
Within rest (Ok (Some (Arrives a))) = 8 ≤ length rest
Within rest (Ok (Some (Claims c))) = 1 + claim_uses c ≤ length rest
Within rest (Err e) = e.1 < length rest

pub entry_within : (rest : List ℕ) → Within rest (entry_at rest)
entry_within rest =
    go (missing rest) refl (unknown Recordings rest) refl (cut rest) refl (gives_claim (kind_at rest)) refl (gives_arrival (kind_at rest)) refl
  where
    by : (e : EntryRead) → entry_at rest ≡ e → Within rest e → Within rest (entry_at rest)
    by e same w = subst (Within rest) (sym same) w

    sent : (b : Bool) → gives_sent (kind_at (drop 1 rest)) ≡ b → cut (drop 1 rest) ≡ false → entry_at rest ≡ Ok (Some (Claims (claim_in (drop 1 rest))))
        → Within rest (entry_at rest)
    sent true s k same =
        by (Ok (Some (Claims (Some (arrived_of (body_of (drop 1 rest))))))) (same ∙ ap (λ a. Ok (Some (Claims a))) (claim_sent (drop 1 rest) s))
        (omega (arith, whole_length (drop 1 rest) k, sent_body (drop 1 rest) s, length-drop 1 rest))
    sent false s k same =
        by (Ok (Some (Claims None))) (same ∙ ap (λ a. Ok (Some (Claims a))) (claim_idle (drop 1 rest) s)) (omega (arith, whole_length (drop 1 rest) k, length-drop 1 rest))

    after : (a : Bool) → missing (drop 1 rest) ≡ a → (b : Bool) → unknown AfterSend (drop 1 rest) ≡ b → (d : Bool) → cut (drop 1 rest) ≡ d
        → 1 ≤ length rest → entry_at rest ≡ claim_after (drop 1 rest) → Within rest (entry_at rest)
    after true m b u d k there same = by (Err (refusal_at Unpaired 0)) (same ∙ after_none (drop 1 rest) m) (omega (arith, there))
    after false m true u d k there same = by (Err (refusal_at Unpaired 0)) (same ∙ after_strange (drop 1 rest) m u) (omega (arith, there))
    after false m false u true k there same =
        by (Err (refusal_at Cut 1)) (same ∙ after_cut (drop 1 rest) m u k) (omega (arith, there_length (drop 1 rest) m, length-drop 1 rest))
    after false m false u false k there same =
        sent (gives_sent (kind_at (drop 1 rest))) refl k (same ∙ after_whole (drop 1 rest) m u k)

    go : (a : Bool) → missing rest ≡ a → (b : Bool) → unknown Recordings rest ≡ b → (d : Bool) → cut rest ≡ d
        → (f : Bool) → gives_claim (kind_at rest) ≡ f → (g : Bool) → gives_arrival (kind_at rest) ≡ g → Within rest (entry_at rest)
    go true m b u d k f c g a = by (Ok None) (entry_end rest m) (omega arith)
    go false m true u d k f c g a = by (Err (refusal_at UnknownKind 0)) (entry_unknown rest m u) (omega (arith, there_length rest m))
    go false m false u true k f c g a = by (Err (refusal_at Cut 0)) (entry_cut rest m u k) (omega (arith, there_length rest m))
    go false m false u false k true c g a = by (Err (refusal_at Unpaired 0)) (entry_alone rest m u k c) (omega (arith, there_length rest m))
    go false m false u false k false c true a =
        by (Ok (Some (Arrives (arrived_of (body_of rest))))) (entry_whole rest m u k c ∙ entry_arrives rest a)
        (omega (arith, whole_length rest k, arrival_body rest a))
    go false m false u false k false c false a =
        after (missing (drop 1 rest)) refl (unknown AfterSend (drop 1 rest)) refl (cut (drop 1 rest)) refl (there_length rest m)
        (entry_whole rest m u k c ∙ entry_sends rest a)

pub within_by : (rest : List ℕ) (e : EntryRead) → entry_at rest ≡ e → Within rest e
within_by rest e same = subst (Within rest) same (entry_within rest)

-- ---- what comes after an entry

-- a rest of at least 8 bytes begins with the same claim, whatever comes after it
same_missing : (rest more : List ℕ) → 8 ≤ length rest → missing (rest ++ more) ≡ missing rest
unfolding missing
same_missing rest more long =
    ne_eqb (length (rest ++ more)) 0 (λ e. omega (arith, length-append rest more, long, e))
    ∙ sym (ne_eqb (length rest) 0 (λ e. omega (arith, long, e)))

module _ (rest more : List ℕ) (long : 8 ≤ length rest) where
  one : 1 ≤ length rest
  one = omega (arith, long)

  still_cut : cut (rest ++ more) ≡ cut rest
  still_cut = same_cut rest more one (whole rest long) ∙ sym (whole rest long)

  same_claim_lem : claim_after (rest ++ more) ≡ claim_after rest
  unfolding claim_after claim_in
  same_claim_lem =
      rw (
        same_missing rest more long,
        same_unknown rest more AfterSend one,
        still_cut,
        same_kind rest more one,
        same_body rest more one (whole rest long),
      )

-- where at least as many bytes follow as the longest entry has, what comes after them is no part of the entry
pub entry_extends : (rest more : List ℕ) → longest_entry ≤ length rest → entry_at (rest ++ more) ≡ entry_at rest
unfolding entry_at entry_of
entry_extends rest more long =
    let eight : 8 ≤ length rest = omega (arith, long) in
    let one : 1 ≤ length rest = omega (arith, long) in
    rw (
      same_missing rest more eight,
      same_unknown rest more Recordings one,
      still_cut rest more eight,
      same_kind rest more one,
      same_body rest more one (whole rest eight),
      drop-append-le 1 rest more one,
      same_claim_lem (drop 1 rest) more (omega (arith, long, length-drop 1 rest)),
    )
