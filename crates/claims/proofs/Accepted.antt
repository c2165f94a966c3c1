-- A recording that is judged good is the recording of a run: that of its own calls, by our rules (R302). Demand 2.
use mathlib.Core.Bool.{Bool, true, false, ◌&&◌, not}
use mathlib.Core.List.{List, [], ◌∷◌, ◌++◌}
use mathlib.Core.Path.{◌≡◌, refl, sym, ap, ap₂, subst, ◌∙◌}
use Prim.Native.Nat.{ℕ, zero, suc, ◌+◌, ◌-◌, ◌*◌, ◌/◌, ◌%◌, ◌≤◌, ◌<◌}
use native.Mathlib.Omega.{arith}
use borrow.Author.Tests.{eqb-true, not-false}
use lib.ListN.{length, get_or, take, drop, length-drop}
use lib.Seq.{get_or-drop, drop-cons, drop-drop}
use Rattle.plan.specs.declared.entry.Entry.TheVariants.{Arrives, Claims}
use Rattle.checks.specs.declared.Refusal.TheVariants.{Cut, UnknownKind, Unpaired}
use Rattle.checks.specs.Check.{Verdict, refusal_at}
use Rattle.std.specs.Prelude.{Ok, Err, Some, None}
use Rattle.checks.proofs.Laws.{not_true_and_false}
use Rattle.plan.specs.declared.kind.RecordKind.{RecordKind}
use Rattle.plan.specs.declared.kind.Section.{Section}
use Rattle.plan.specs.declared.kind.Section.TheVariants.{Recordings, AfterSend}
use Rattle.plan.specs.Kind.{record_kind, stands_in, gives_arrival, gives_claim, gives_sent}
use Rattle.plan.specs.Record.{byte_at, kind_at, missing, unknown, cut, body_of}
use Rattle.plan.specs.Event.{arrived_of}
use Rattle.plan.specs.Entry.{claim_in, claim_after, entry_at, claim_uses, EntryRead, Claim}
use Rattle.plan.proofs.Records.{kind_cases, whole_length, arrival_body, sent_body}
use Rattle.plan.proofs.EntryLaws.{claim_sent, claim_idle, after_none, after_strange, after_cut, after_whole}
use Rattle.plan.proofs.EntryLaws.{entry_arrives, entry_sends, entry_end, entry_unknown, entry_cut, entry_alone, entry_whole}
use Rattle.plan.proofs.EntryLaws.{within_by}
use Rattle.plan.specs.Reader.{plan_of}
use Rattle.state.specs.declared.Link.{Link}
use Rattle.state.specs.State.{fresh_link}
use Rattle.calls.specs.Send.{send_of}
use Rattle.calls.specs.Run.{Call, arrival, send, Made, link_left, makes, run_of, made_in}
use Rattle.calls.proofs.Runs.{made_next}
use Rattle.claims.specs.declared.Checked.{Checked}
use Rattle.claims.specs.declared.Judged.{Judged}
use Rattle.claims.specs.declared.Judged.TheVariants.{Good, FalseAt, Stop}
use Rattle.claims.specs.Recording.{true_claim, same_claim, goes_on, decides, claim_gives, entry_gives, Way, way_from, moved, takes}
use Rattle.claims.specs.Recording.{part_of, judged_of}
use Rattle.claims.specs.Recorded.{body_bytes, claim_bytes, call_bytes, recorded, sends_by, sends_in}
use Rattle.claims.proofs.Moving.{arrival_on}
use Rattle.claims.proofs.Checking.{takes_done, takes_one_lem}
use Rattle.claims.proofs.Recordings.{same_only, onward_by}
use Rattle.claims.proofs.Whole.{judged_by}

-- ---- the kind of a byte

-- a kind that gives an arrival, that is a send in a recording, that claims a packet, that claims none
abbrev send_in : RecordKind → Bool
send_in k = stands_in Recordings k && (not (gives_claim k) && not (gives_arrival k))

abbrev idle_in : RecordKind → Bool
idle_in k = gives_claim k && not (gives_sent k)

-- a row whose test fails
off : {b k : ℕ} → false ≡ true → b ≡ k
off h = absurd (not_true_and_false h refl)

sixteen : (b : ℕ) → gives_arrival (record_kind b) ≡ true → b ≡ 16
sixteen = kind_cases (λ (b : ℕ) (k : RecordKind). gives_arrival k ≡ true → b ≡ 16) off off off off (λ e. refl) off off off (λ b. off)

seventeen : (b : ℕ) → send_in (record_kind b) ≡ true → b ≡ 17
seventeen = kind_cases (λ (b : ℕ) (k : RecordKind). send_in k ≡ true → b ≡ 17) off off off off off (λ e. refl) off off (λ b. off)

eighteen : (b : ℕ) → gives_sent (record_kind b) ≡ true → b ≡ 18
eighteen = kind_cases (λ (b : ℕ) (k : RecordKind). gives_sent k ≡ true → b ≡ 18) off off off off off off (λ e. refl) off (λ b. off)

nineteen : (b : ℕ) → idle_in (record_kind b) ≡ true → b ≡ 19
nineteen = kind_cases (λ (b : ℕ) (k : RecordKind). idle_in k ≡ true → b ≡ 19) off off off off off off off (λ e. refl) (λ b. off)

module _ (rest : List ℕ) where
  stands : (section : Section) → unknown section rest ≡ false → stands_in section (kind_at rest) ≡ true
  unfolding unknown
  stands section u = not-false _ u

  kind_sixteen : gives_arrival (kind_at rest) ≡ true → byte_at rest 0 ≡ 16
  unfolding kind_at
  kind_sixteen = sixteen (byte_at rest 0)

  kind_seventeen : stands_in Recordings (kind_at rest) ≡ true → gives_claim (kind_at rest) ≡ false → gives_arrival (kind_at rest) ≡ false
      → byte_at rest 0 ≡ 17
  unfolding kind_at
  kind_seventeen r c a = seventeen (byte_at rest 0) (rw (r, c, a) refl)

  kind_eighteen : gives_sent (kind_at rest) ≡ true → byte_at rest 0 ≡ 18
  unfolding kind_at
  kind_eighteen = eighteen (byte_at rest 0)

  kind_nineteen : gives_claim (kind_at rest) ≡ true → gives_sent (kind_at rest) ≡ false → byte_at rest 0 ≡ 19
  unfolding kind_at
  kind_nineteen c s = nineteen (byte_at rest 0) (rw (c, s) refl)

  missing_length : missing rest ≡ true → length rest ≡ 0
  unfolding missing
  missing_length e = eqb-true (length rest) 0 e

-- ---- what was read was written so

-- numbers that are bytes
pub Bytes : List ℕ → Type 0
Bytes s = (i : ℕ) → get_or s i 0 < 256

bytes_drop : (n : ℕ) (s : List ℕ) → Bytes s → Bytes (drop n s)
unfolding Bytes
bytes_drop n s h i = subst (λ (x : ℕ). x < 256) (sym (get_or-drop n s i 0)) (h (n + i))

-- the bytes of a body that was read
words : (b1 b2 b3 b4 b5 b6 b7 : ℕ) → b2 < 256 → b3 < 256 → b4 < 256 → b5 < 256 → b6 < 256 → b7 < 256
    → body_bytes (arrived_of (b1 ∷ b2 ∷ b3 ∷ b4 ∷ b5 ∷ b6 ∷ b7 ∷ [])) ≡ b1 ∷ b2 ∷ b3 ∷ b4 ∷ b5 ∷ b6 ∷ b7 ∷ []
words b1 b2 b3 b4 b5 b6 b7 h2 h3 h4 h5 h6 h7 =
    let e2 : (b2 * 256 + b3) / 256 ≡ b2 = omega (arith, h3) in
    let e3 : (b2 * 256 + b3) % 256 ≡ b3 = omega (arith, h3) in
    let t = b4 * 16_777_216 + b5 * 65_536 + b6 * 256 + b7 in
    let e4 : t / 16_777_216 ≡ b4 = omega (arith, h5, h6, h7) in
    let e5 : t / 65_536 % 256 ≡ b5 = omega (arith, h5, h6, h7) in
    let e6 : t / 256 % 256 ≡ b6 = omega (arith, h5, h6, h7) in
    let e7 : t % 256 ≡ b7 = omega (arith, h5, h6, h7) in
    rw (e2, e3, e4, e5, e6, e7) refl

-- eight bytes that begin with a kind of a body of seven are that kind and that body
module _ (s : List ℕ) (h : Bytes s) (long : 8 ≤ length s) where
  abbrev at : ℕ → ℕ
  at i = get_or s i 0

  one_by_one : drop 1 s ≡ at 1 ∷ at 2 ∷ at 3 ∷ at 4 ∷ at 5 ∷ at 6 ∷ at 7 ∷ drop 8 s
  one_by_one =
      next 1 (next 2 (next 3 (next 4 (next 5 (next 6 (next 7 refl (omega (arith, long))) (omega (arith, long))) (omega (arith, long)))
      (omega (arith, long))) (omega (arith, long))) (omega (arith, long))) (omega (arith, long))
    where
      next : (j : ℕ) {t : List ℕ} → drop (suc j) s ≡ t → j < length s → drop j s ≡ at j ∷ t
      next j e there = drop-cons s j 0 there ∙ ap (λ (t : List ℕ). at j ∷ t) e

  eight : (k : ℕ) → byte_at s 0 ≡ k → (kind_at s).body ≡ 7 → s ≡ k ∷ (body_bytes (arrived_of (body_of s)) ++ drop 8 s)
  unfolding Bytes body_of
  eight k first seven =
      let body : body_of s ≡ at 1 ∷ at 2 ∷ at 3 ∷ at 4 ∷ at 5 ∷ at 6 ∷ at 7 ∷ [] =
      ap (λ (n : ℕ). take n (drop 1 s)) seven ∙ ap (take 7) one_by_one in
      let read = ap (λ (b : List ℕ). body_bytes (arrived_of b)) body
      ∙ words (at 1) (at 2) (at 3) (at 4) (at 5) (at 6) (at 7) (h 2) (h 3) (h 4) (h 5) (h 6) (h 7) in
      drop-cons s 0 0 (omega (arith, long)) ∙ ap₂ (λ (x : ℕ) (t : List ℕ). x ∷ t) first one_by_one
      ∙ ap (λ (t : List ℕ). k ∷ (t ++ drop 8 s)) (sym read)

empty : (s : List ℕ) → length s ≡ 0 → s ≡ []
empty [] e = refl
empty (b ∷ s) e = absurd (omega (arith, e))

-- an entry that was read, as it was written
Written : List ℕ → EntryRead → Type 0
Written rest (Ok None) = rest ≡ []
Written rest (Ok (Some (Arrives a))) = rest ≡ 16 ∷ (body_bytes a ++ drop 8 rest)
Written rest (Ok (Some (Claims c))) = rest ≡ 17 ∷ (claim_bytes c ++ drop (1 + claim_uses c) rest)
Written rest (Err _) = Unit {0}

entry_written : (rest : List ℕ) → Bytes rest → Written rest (entry_at rest)
unfolding Written
entry_written rest bytes =
    go (missing rest) refl (unknown Recordings rest) refl (cut rest) refl (gives_claim (kind_at rest)) refl (gives_arrival (kind_at rest)) refl
  where
    next : List ℕ
    next = drop 1 rest

    by : (e : EntryRead) → entry_at rest ≡ e → Written rest e → Written rest (entry_at rest)
    by e same w = subst (Written rest) (sym same) w

    sent : (b : Bool) → gives_sent (kind_at next) ≡ b → gives_claim (kind_at next) ≡ true → cut next ≡ false → rest ≡ 17 ∷ next
        → entry_at rest ≡ Ok (Some (Claims (claim_in next))) → Written rest (entry_at rest)
    sent true s c k first same =
        let a = arrived_of (body_of next) in
        let is = eight next (bytes_drop 1 rest bytes) (omega (arith, whole_length next k, sent_body next s)) 18 (kind_eighteen next s)
        (sent_body next s) in
        by (Ok (Some (Claims (Some a)))) (same ∙ ap (λ a. Ok (Some (Claims a))) (claim_sent next s))
        (first ∙ ap (λ (t : List ℕ). 17 ∷ t) (is ∙ ap (λ (t : List ℕ). 18 ∷ (body_bytes a ++ t)) (drop-drop 8 1 rest)))
    sent false s c k first same =
        let is = drop-cons next 0 0 (omega (arith, whole_length next k)) ∙ ap (λ (x : ℕ). x ∷ drop 1 next) (kind_nineteen next c s) in
        by (Ok (Some (Claims None))) (same ∙ ap (λ a. Ok (Some (Claims a))) (claim_idle next s))
        (first ∙ ap (λ (t : List ℕ). 17 ∷ t) (is ∙ ap (λ (t : List ℕ). 19 ∷ t) (drop-drop 1 1 rest)))

    after : (a : Bool) → missing next ≡ a → (b : Bool) → unknown AfterSend next ≡ b → (d : Bool) → cut next ≡ d
        → rest ≡ 17 ∷ next → entry_at rest ≡ claim_after next → Written rest (entry_at rest)
    after true m b u d k first same = by (Err (refusal_at Unpaired 0)) (same ∙ after_none next m) tt
    after false m true u d k first same = by (Err (refusal_at Unpaired 0)) (same ∙ after_strange next m u) tt
    after false m false u true k first same = by (Err (refusal_at Cut 1)) (same ∙ after_cut next m u k) tt
    after false m false u false k first same =
        sent (gives_sent (kind_at next)) refl (stands next AfterSend u) k first (same ∙ after_whole next m u k)

    go : (a : Bool) → missing rest ≡ a → (b : Bool) → unknown Recordings rest ≡ b → (d : Bool) → cut rest ≡ d
        → (f : Bool) → gives_claim (kind_at rest) ≡ f → (g : Bool) → gives_arrival (kind_at rest) ≡ g → Written rest (entry_at rest)
    go true m b u d k f c g a = by (Ok None) (entry_end rest m) (empty rest (missing_length rest m))
    go false m true u d k f c g a = by (Err (refusal_at UnknownKind 0)) (entry_unknown rest m u) tt
    go false m false u true k f c g a = by (Err (refusal_at Cut 0)) (entry_cut rest m u k) tt
    go false m false u false k true c g a = by (Err (refusal_at Unpaired 0)) (entry_alone rest m u k c) tt
    go false m false u false k false c true a =
        by (Ok (Some (Arrives (arrived_of (body_of rest))))) (entry_whole rest m u k c ∙ entry_arrives rest a)
        (eight rest bytes (omega (arith, whole_length rest k, arrival_body rest a)) 16 (kind_sixteen rest a) (arrival_body rest a))
    go false m false u false k false c false a =
        after (missing next) refl (unknown AfterSend next) refl (cut next) refl
        (drop-cons rest 0 0 (omega (arith, whole_length rest k))
        ∙ ap (λ (x : ℕ). x ∷ next) (kind_seventeen rest (stands rest Recordings u) c a))
        (entry_whole rest m u k c ∙ entry_sends rest a)

-- ---- a recording that is judged good

-- the number of claims of a good one, and which is good
abbrev good_count : Judged → ℕ
good_count (Good n) = n
good_count (FalseAt p) = 0
good_count (Stop e) = 0

abbrev is_good : Judged → Bool
is_good (Good n) = true
is_good (FalseAt p) = false
is_good (Stop e) = false

-- the rules' run of some calls from a link, as it was made
abbrev pub run_by : Link → List Call → List Made
run_by l calls = made_in (run_of true l calls)

-- the bytes are the recording of a run, that has so many sends more
pub record RecordingOf (l : Link) (rest : List ℕ) (more : ℕ) : Type 0 where
  pub calls : List Call
  pub bytes : rest ≡ recorded (run_by l calls)
  pub sends : more ≡ sends_in (run_by l calls)

-- one call more
of_next : (l : Link) (call : Call) (rest rest' : List ℕ) (more more' : ℕ) → rest' ≡ call_bytes (makes true l call) ++ rest
    → more' ≡ sends_by (makes true l call) + more → RecordingOf (link_left (makes true l call)) rest more → RecordingOf l rest' more'
unfolding recorded sends_in
of_next l call rest rest' more more' e f r =
    let m = makes true l call in
    let run = made_next true l call r.calls in
    record {
      calls = call ∷ r.calls;
      bytes = e ∙ ap (λ (t : List ℕ). call_bytes m ++ t) r.bytes ∙ sym (ap recorded run);
      sends = f ∙ ap (λ (n : ℕ). sends_by m + n) r.sends ∙ sym (ap sends_in run);
    }

of_none : (l : Link) (rest : List ℕ) (more : ℕ) → rest ≡ [] → more ≡ 0 → RecordingOf l rest more
unfolding recorded sends_in run_of made_in
of_none l rest more e f = record { calls = []; bytes = e; sends = f }

-- what follows from a place on, judged good after some claims, is the recording of a run, and its sends are the claims counted
Follows : ℕ → Type 0
Follows n = (l : Link) (place claims : ℕ) (rest : List ℕ) (g : ℕ) → Bytes rest → length rest < n
    → (takes n true (way_from l place claims rest)).at.judged ≡ Good g → (claims ≤ g) × RecordingOf l rest (g - claims)

follows : (n : ℕ) → Follows n
unfolding Follows Written
follows zero l place claims rest g bytes few e = absurd (omega (arith, few))
follows (suc n) l place claims rest g bytes few e = go (entry_at rest) refl (entry_written rest bytes) (follows n)
  where
    w : Way
    w = way_from l place claims rest

    judged_on : (x : EntryRead) → entry_at rest ≡ x → (takes n true (moved place rest (entry_gives l place claims x))).at.judged ≡ Good g
    judged_on x same =
        ap (λ (v : Way). (takes n true v).at.judged) (sym (onward_by l place claims rest x same))
        ∙ ap (λ (v : Way). v.at.judged) (sym (takes_one_lem true n w refl)) ∙ e

    -- an entry that decides is not good, but at the end of the input
    decided : (j : Judged) (k : Link) → (takes n true (moved place rest (decides j k place claims))).at.judged ≡ Good g → j ≡ Good g
    decided j k h = ap (λ (v : Way). v.at.judged) (sym (takes_done true n (moved place rest (decides j k place claims)) refl)) ∙ h

    -- an entry that does not
    onto : (l' : Link) (used claims' : ℕ) → 1 ≤ used → used ≤ length rest → Follows n
        → (takes n true (moved place rest (goes_on l' (place + used) claims'))).at.judged ≡ Good g
        → (claims' ≤ g) × RecordingOf l' (drop used rest) (g - claims')
    onto l' used claims' some within later h =
        let k : place + used - place ≡ used = omega arith in
        later l' (place + used) claims' (drop used rest) g (bytes_drop used rest bytes)
        (omega (arith, length-drop used rest, few, some, within))
        (subst (λ (i : ℕ). (takes n true (record { at = goes_on l' (place + used) claims'; rest = drop i rest })).at.judged ≡ Good g) k h)

    claim : (c : Claim) → entry_at rest ≡ Ok (Some (Claims c)) → rest ≡ 17 ∷ (claim_bytes c ++ drop (1 + claim_uses c) rest) → Follows n
        → (h : Bool) → same_claim c (true_claim (send_of true l).answer) ≡ h
        → (takes n true (moved place rest (claim_gives h (send_of true l).link c place claims))).at.judged ≡ Good g
        → (claims ≤ g) × RecordingOf l rest (g - claims)
    claim c same written later false held j =
        absurd (not_true_and_false refl (ap is_good (sym (decided (FalseAt (place + 1)) (send_of true l).link j))))
    claim c same written later true held j =
        let is = same_only c (true_claim (send_of true l).answer) held in
        let on = onto (send_of true l).link (1 + claim_uses c) (claims + 1) (omega arith) (within_by rest (Ok (Some (Claims c))) same) later j in (
          omega (arith, on.0),
          of_next l send (drop (1 + claim_uses c) rest) rest (g - (claims + 1)) (g - claims)
              (written ∙ ap (λ (x : Claim). 17 ∷ (claim_bytes x ++ drop (1 + claim_uses c) rest)) is) (omega (arith, on.0)) on.1,
        )

    go : (x : EntryRead) → entry_at rest ≡ x → Written rest (entry_at rest) → Follows n → (claims ≤ g) × RecordingOf l rest (g - claims)
    go (Ok None) same written later =
        let same_count : claims ≡ g = ap good_count (decided (Good claims) l (judged_on (Ok None) same)) in
        (omega (arith, same_count), of_none l rest (g - claims) (subst (Written rest) same written) (omega (arith, same_count)))
    go (Ok (Some (Arrives a))) same written later =
        let call = arrival a.class (record { length = a.length; tag = a.tag }) in
        let on = onto (link_left (makes true l call)) 8 claims (omega arith) (within_by rest (Ok (Some (Arrives a))) same) later
        (subst (λ (c : Checked). (takes n true (moved place rest c)).at.judged ≡ Good g) (arrival_on l a place claims)
        (judged_on (Ok (Some (Arrives a))) same)) in (
          on.0,
          of_next l call (drop 8 rest) rest (g - claims) (g - claims) (subst (Written rest) same written) (omega arith)
              on.1,
        )
    go (Ok (Some (Claims c))) same written later =
        claim c same (subst (Written rest) same written) later (same_claim c (true_claim (send_of true l).answer)) refl
        (judged_on (Ok (Some (Claims c))) same)
    go (Err e) same written later =
        absurd (not_true_and_false refl (ap is_good (sym (decided (Stop (refusal_at e.0 (place + e.1))) l (judged_on (Err e) same)))))

-- a recording is judged good only where its plan is accepted and the bytes after it are the recording of a run by our rules, from the
-- plan's fresh link, with as many sends as claims were counted; so it is accepted exactly when every claim is what our rules send
-- (the other way: `our_run_is_good`, Recordings)
pub good_is_a_run : (s : List ℕ) (g : ℕ) → Bytes s → judged_of s ≡ Good g
    → ((plan_of s).verdict ≡ Ok tt) × RecordingOf (fresh_link (plan_of s).tree) (drop (plan_of s).used s) g
unfolding Follows part_of
good_is_a_run s g bytes good = go (plan_of s).verdict refl
  where
    go : (v : Verdict) → (plan_of s).verdict ≡ v
        → ((plan_of s).verdict ≡ Ok tt) × RecordingOf (fresh_link (plan_of s).tree) (drop (plan_of s).used s) g
    go (Ok _) e =
        let rest = drop (plan_of s).used s in
        let z : g - 0 ≡ g = omega arith in (
          e,
          subst (RecordingOf (fresh_link (plan_of s).tree) rest) z
              (follows (suc (length rest)) (fresh_link (plan_of s).tree) (plan_of s).used 0 rest g (bytes_drop (plan_of s).used s bytes)
              (omega arith)
              (judged_by s (plan_of s) (Ok tt) refl e ∙ good)).1,
        )
    go (Err r) e = absurd (not_true_and_false refl (ap is_good (sym (judged_by s (plan_of s) (Err r) refl e ∙ good))))
