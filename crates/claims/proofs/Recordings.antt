-- A recording made from a run of the library is good; with any claim changed it is false at that claim's place (R302). Demand 2.
use mathlib.Core.Bool.{Bool, true, false}
use mathlib.Core.List.{List, [], ◌∷◌, ◌++◌, append_assoc, append-nil}
use mathlib.Core.Logic.{◌⊎◌, inl, inr}
use mathlib.Core.Path.{◌≡◌, refl, sym, ap, ap₂, subst, ◌∙◌}
use Prim.Native.Nat.{ℕ, ◌+◌, ◌-◌, ◌*◌, ◌/◌, ◌%◌}
use native.Mathlib.Omega.{arith}
use native.Mathlib.Nat.{zero-add}
use borrow.Author.Tests.{le-ltb, ne_eqb, eq-eqb, eqb-true}
use lib.Dec.{eqb}
use lib.ListN.{length, drop, length-append}
use Rattle.plan.specs.declared.entry.Entry.TheVariants.{Arrives, Claims}
use Rattle.std.specs.Prelude.{Ok, Some, None}
use Rattle.checks.proofs.Laws.{not_true_and_false}
use Rattle.tree.proofs.Classes.{both_true}
use Rattle.plan.specs.declared.Arrived.{Arrived}
use Rattle.plan.specs.Kind.{record_kind}
use Rattle.plan.specs.Record.{kind_at, missing, unknown, cut, body_of}
use Rattle.plan.specs.Event.{arrived_of}
use Rattle.plan.specs.Entry.{claim_after, entry_at, claim_uses, EntryRead, Claim}
use Rattle.plan.proofs.EntryLaws.{claim_sent, claim_idle, after_whole, entry_arrives, entry_sends, entry_end, entry_whole}
use Rattle.plan.specs.Reader.{plan_of}
use Rattle.plan.proofs.Numbers.{plan_rules}
use Rattle.state.specs.declared.Link.{Link}
use Rattle.state.specs.State.{fresh_link}
use Rattle.sound.specs.Sound.{SoundLink}
use Rattle.calls.specs.declared.Departure.{Departure}
use Rattle.calls.specs.Send.{refused_send, send_of}
use Rattle.calls.specs.Run.{Call, arrival, send, Made, made, call_of, link_left, makes, last_link, Meets, Run}
use Rattle.calls.proofs.FreshLinks.{fresh_sound}
use Rattle.calls.proofs.Runs.{meets_by, meets_keeps}
use Rattle.checks.proofs.Laws.{exactly_yes}
use Rattle.claims.specs.declared.Judged.TheVariants.{Good, FalseAt}
use Rattle.claims.specs.Recording.{true_claim, same_claim, goes_on, decides, claim_gives, entry_gives, Way, way_from, moved, onward}
use Rattle.claims.specs.Recording.{part_of, judged_of}
use Rattle.claims.specs.Recorded.{body_bytes, claim_bytes, call_bytes, recorded, sends_by, sends_in}
use Rattle.claims.proofs.Moving.{arrival_on}
use Rattle.claims.proofs.Checking.{part_none}
use Rattle.claims.proofs.Composing.{part_next}
use Rattle.claims.proofs.Whole.{judged_by}

-- ---- what was written is read

there : (b : ℕ) (more : List ℕ) → missing (b ∷ more) ≡ false
unfolding missing
there b more = ne_eqb (length (b ∷ more)) 0 (λ e. omega (arith, e))

body_read : (a : Arrived) → arrived_of (body_bytes a) ≡ a
body_read a =
    let l : a.length / 256 * 256 + a.length % 256 ≡ a.length = omega arith in
    let t : a.tag / 16_777_216 * 16_777_216 + a.tag / 65_536 % 256 * 65_536 + a.tag / 256 % 256 * 256 + a.tag % 256 ≡ a.tag =
    omega arith in
    ap₂ (λ (x y : ℕ). record { class = a.class; length = x; tag = y }) l t

arrival_whole : (a : Arrived) (more : List ℕ) → cut (16 ∷ (body_bytes a ++ more)) ≡ false
unfolding cut kind_at record_kind
arrival_whole a more = le-ltb (length (16 ∷ (body_bytes a ++ more))) 8 (omega arith)

arrival_read : (a : Arrived) (more : List ℕ) → entry_at (16 ∷ (body_bytes a ++ more)) ≡ Ok (Some (Arrives a))
unfolding unknown kind_at record_kind body_of
arrival_read a more =
    let s : List ℕ = 16 ∷ (body_bytes a ++ more) in
    entry_whole s (there 16 (body_bytes a ++ more)) refl (arrival_whole a more) refl
    ∙ entry_arrives s refl
    ∙ ap (λ a. Ok (Some (Arrives a))) (body_read a)

sent_whole : (a : Arrived) (more : List ℕ) → cut (18 ∷ (body_bytes a ++ more)) ≡ false
unfolding cut kind_at record_kind
sent_whole a more = le-ltb (length (18 ∷ (body_bytes a ++ more))) 8 (omega arith)

idle_whole : (more : List ℕ) → cut (19 ∷ more) ≡ false
unfolding cut kind_at record_kind
idle_whole more = le-ltb (length (19 ∷ more)) 1 (omega arith)

claim_read : (c : Claim) (more : List ℕ) → claim_after (claim_bytes c ++ more) ≡ Ok (Some (Claims c))
unfolding unknown kind_at record_kind body_of
claim_read (Some a) more =
    let s : List ℕ = 18 ∷ (body_bytes a ++ more) in
    after_whole s (there 18 (body_bytes a ++ more)) refl (sent_whole a more)
    ∙ ap (λ a. Ok (Some (Claims a))) (claim_sent s refl ∙ ap Some (body_read a))
claim_read None more =
    let s : List ℕ = 19 ∷ more in
    after_whole s (there 19 more) refl (idle_whole more)
    ∙ ap (λ a. Ok (Some (Claims a))) (claim_idle s refl)

send_whole : (more : List ℕ) → cut (17 ∷ more) ≡ false
unfolding cut kind_at record_kind
send_whole more = le-ltb (length (17 ∷ more)) 1 (omega arith)

send_read : (c : Claim) (more : List ℕ) → entry_at (17 ∷ (claim_bytes c ++ more)) ≡ Ok (Some (Claims c))
unfolding unknown kind_at record_kind
send_read c more =
    let s : List ℕ = 17 ∷ (claim_bytes c ++ more) in
    entry_whole s (there 17 (claim_bytes c ++ more)) refl (send_whole (claim_bytes c ++ more)) refl
    ∙ entry_sends s refl
    ∙ claim_read c more

-- ---- two claims that are the same are one

pub same_self : (c : Claim) → same_claim c c ≡ true
same_self (Some a) = rw (eq-eqb a.class a.class refl, eq-eqb a.length a.length refl, eq-eqb a.tag a.tag refl) refl
same_self None = refl

pub same_only : (c d : Claim) → same_claim c d ≡ true → c ≡ d
same_only (Some a) (Some b) h =
    let fields = both_true (eqb a.class b.class) _ h in
    let later = both_true (eqb a.length b.length) _ fields.1 in
    let class : a.class ≡ b.class = eqb-true a.class b.class fields.0 in
    let length : a.length ≡ b.length = eqb-true a.length b.length later.0 in
    let tag : a.tag ≡ b.tag = eqb-true a.tag b.tag later.1 in
    ap Some (ap (λ (x : ℕ). record { class = x; length = a.length; tag = a.tag }) class
    ∙ ap₂ (λ (x y : ℕ). record { class = b.class; length = x; tag = y }) length tag)
same_only (Some a) None h = absurd (not_true_and_false h refl)
same_only None (Some b) h = absurd (not_true_and_false h refl)
same_only None None h = refl

-- ---- entry after entry

-- one entry more, by the entry that is read
pub onward_by : (l : Link) (place claims : ℕ) (rest : List ℕ) (e : EntryRead) → entry_at rest ≡ e
    → onward (way_from l place claims rest) ≡ moved place rest (entry_gives l place claims e)
unfolding onward
onward_by l place claims rest e same = ap (λ (x : EntryRead). moved place rest (entry_gives l place claims x)) same

-- the bytes of a claim
claim_length : (c : Claim) → length (17 ∷ claim_bytes c) ≡ 1 + claim_uses c
claim_length (Some a) = refl
claim_length None = refl

claim_dropped : (c : Claim) (more : List ℕ) → drop (1 + claim_uses c) (17 ∷ (claim_bytes c ++ more)) ≡ more
claim_dropped (Some a) more = refl
claim_dropped None more = refl

-- a call that the rules make, recorded, is judged good, and the check goes on after it with the link that the call left
onward_call : (l : Link) (place claims : ℕ) (call : Call) (more : List ℕ)
    → let m = makes true l call in
    onward (way_from l place claims (call_bytes m ++ more))
    ≡ way_from (link_left m) (place + length (call_bytes m)) (claims + sends_by m) more
onward_call l place claims (arrival class p) more =
    let a : Arrived = record { class = class; length = p.length; tag = p.tag } in
    let m = makes true l (arrival class p) in
    let k : place + 8 - place ≡ 8 = omega arith in
    let z : claims + 0 ≡ claims = omega arith in
    onward_by l place claims (16 ∷ (body_bytes a ++ more)) (Ok (Some (Arrives a))) (arrival_read a more)
    ∙ ap (moved place (16 ∷ (body_bytes a ++ more))) (arrival_on l a place claims)
    ∙ ap (λ (n : ℕ). record { at = goes_on (link_left m) (place + 8) claims; rest = drop n (16 ∷ (body_bytes a ++ more)) }) k
    ∙ ap (λ (n : ℕ). way_from (link_left m) (place + 8) n more) (sym z)
onward_call l place claims send more =
    let d = send_of true l in
    let c = true_claim d.answer in
    let k : place + (1 + claim_uses c) - place ≡ 1 + claim_uses c = omega arith in
    onward_by l place claims (17 ∷ (claim_bytes c ++ more)) (Ok (Some (Claims c))) (send_read c more)
    ∙ ap (λ (h : Bool). moved place (17 ∷ (claim_bytes c ++ more)) (claim_gives h d.link c place claims)) (same_self c)
    ∙ ap (λ (rest : List ℕ). way_from d.link (place + (1 + claim_uses c)) (claims + 1) rest)
    (ap (λ (n : ℕ). drop n (17 ∷ (claim_bytes c ++ more))) k ∙ claim_dropped c more)
    ∙ ap (λ (n : ℕ). way_from d.link (place + n) (claims + 1) more) (sym (claim_length c))

-- a call of the library on a sound link
onward_made : (l : Link) (place claims : ℕ) (m : Made) (more : List ℕ) → SoundLink l → Meets l m
    → onward (way_from l place claims (call_bytes m ++ more))
    ≡ way_from (link_left m) (place + length (call_bytes m)) (claims + sends_by m) more
onward_made l place claims m more sound meets =
    subst (λ (x : Made). onward (way_from l place claims (call_bytes x ++ more))
    ≡ way_from (link_left x) (place + length (call_bytes x)) (claims + sends_by x) more)
    (sym (meets_by l m true (exactly_yes sound) meets)) (onward_call l place claims (call_of m) more)

-- a run of the library, recorded, is judged good, and the check goes on after it with the link that the run left
recorded_run : (ms : List Made) (l : Link) (place claims : ℕ) (more : List ℕ) → SoundLink l → Run l ms
    → part_of true (way_from l place claims (recorded ms ++ more))
    ≡ part_of true (way_from (last_link l ms) (place + length (recorded ms)) (claims + sends_in ms) more)
unfolding Run recorded sends_in last_link
recorded_run [] l place claims more sound run =
    let p : place + 0 ≡ place = omega arith in
    let c : claims + 0 ≡ claims = omega arith in
    ap₂ (λ (x y : ℕ). part_of true (way_from l x y more)) (sym p) (sym c)
recorded_run (m ∷ ms) l place claims more sound run =
    let n = length (call_bytes m) in
    let k : place + n + length (recorded ms) ≡ place + length (call_bytes m ++ recorded ms) =
    omega (arith, length-append (call_bytes m) (recorded ms)) in
    let c : claims + sends_by m + sends_in ms ≡ claims + (sends_by m + sends_in ms) = omega arith in
    ap (λ (s : List ℕ). part_of true (way_from l place claims s)) (append_assoc (call_bytes m) (recorded ms) more)
    ∙ part_next true (way_from l place claims (call_bytes m ++ (recorded ms ++ more))) refl
    ∙ ap (part_of true) (onward_made l place claims m (recorded ms ++ more) sound run.0)
    ∙ recorded_run ms (link_left m) (place + n) (claims + sends_by m) more (meets_keeps l m sound run.0) run.1
    ∙ ap₂ (λ (x y : ℕ). part_of true (way_from (last_link (link_left m) ms) x y more)) k c

-- ---- what is left at the end

nothing_left : (l : Link) (place claims : ℕ) → (part_of true (way_from l place claims [])).at.judged ≡ Good claims
unfolding missing
nothing_left l place claims =
    ap (λ (w : Way). w.at.judged)
    (part_next true (way_from l place claims []) refl
    ∙ ap (part_of true) (onward_by l place claims [] (Ok None) (entry_end [] refl))
    ∙ part_none true (moved place [] (entry_gives l place claims (Ok None))) refl)

-- a claim that does not hold decides, at its own place
not_held : (l : Link) (place claims : ℕ) (c : Claim) (more : List ℕ) → same_claim c (true_claim (send_of true l).answer) ≡ false
    → (part_of true (way_from l place claims (17 ∷ (claim_bytes c ++ more)))).at.judged ≡ FalseAt (place + 1)
not_held l place claims c more e =
    let s : List ℕ = 17 ∷ (claim_bytes c ++ more) in
    let to = decides (FalseAt (place + 1)) (send_of true l).link place claims in
    ap (λ (w : Way). w.at.judged)
    (part_next true (way_from l place claims s) refl
    ∙ ap (part_of true) (onward_by l place claims s (Ok (Some (Claims c))) (send_read c more)
    ∙ ap (λ (h : Bool). moved place s (claim_gives h (send_of true l).link c place claims)) e)
    ∙ part_none true (moved place s to) refl)

-- the packet of a claim, and whether it has one
claimed : Claim → Arrived
claimed (Some a) = a
claimed None = record { class = 0; length = 0; tag = 0 }

is_sent : Claim → Bool
is_sent (Some a) = true
is_sent None = false

other_claim : (c d : Claim) → (c ≡ d → ⊥) → same_claim c d ≡ false
other_claim c d other = go (same_claim c d) refl
  where
    go : (b : Bool) → same_claim c d ≡ b → same_claim c d ≡ false
    go true e = absurd (other (same_only c d e))
    go false e = e

-- a packet's claim with another class, another length or another tag is another claim, and so is nothing waiting
pub other_field : (a b : Arrived) → ((b.class ≡ a.class) → ⊥) ⊎ (((b.length ≡ a.length) → ⊥) ⊎ ((b.tag ≡ a.tag) → ⊥))
    → Some b ≡ Some a → ⊥
unfolding claimed
other_field a b (inl other) e = other (ap (λ (c : Claim). (claimed c).class) e)
other_field a b (inr (inl other)) e = other (ap (λ (c : Claim). (claimed c).length) e)
other_field a b (inr (inr other)) e = other (ap (λ (c : Claim). (claimed c).tag) e)

pub other_kind : (a : Arrived) → Some a ≡ None → ⊥
unfolding is_sent
other_kind a e = not_true_and_false refl (ap is_sent e)

run_parts : (xs ys : List Made) (l : Link) → Run l (xs ++ ys) → Run l xs × Run (last_link l xs) ys
unfolding Run last_link
run_parts [] ys l run = (tt, run)
run_parts (x ∷ xs) ys l run = let rest = run_parts xs ys (link_left x) run.1 in ((run.0, rest.0), rest.1)

run_first : (l : Link) (answer : Departure) (after : Link) (later : List Made) → Run l (made send answer after ∷ later)
    → Meets l (made send answer after)
unfolding Run
run_first l answer after later run = run.0

-- the answer of a send that was made; of an arrival none
answer_of : Made → Departure
answer_of (made (arrival i p) answer after) = refused_send (Ok tt)
answer_of (made send answer after) = answer

last_sound : (ms : List Made) (l : Link) → SoundLink l → Run l ms → SoundLink (last_link l ms)
unfolding Run last_link
last_sound [] l sound run = sound
last_sound (m ∷ ms) l sound run = last_sound ms (link_left m) (meets_keeps l m sound run.0) run.1

-- ---- the theorems

-- an input whose plan is accepted, and what follows it
module _ (s : List ℕ) (accepted : (plan_of s).verdict ≡ Ok tt) where
  abbrev pub begins : Link
  begins = fresh_link (plan_of s).tree

  begins_sound : SoundLink begins
  begins_sound = fresh_sound (plan_of s).tree (plan_rules s (plan_of s) refl accepted)

  pub judged_from_lem : (rest : List ℕ) → drop (plan_of s).used s ≡ rest
      → judged_of s ≡ (part_of true (way_from begins (plan_of s).used 0 rest)).at.judged
  judged_from_lem rest same =
      sym (judged_by s (plan_of s) (Ok tt) refl accepted)
      ∙ ap (λ (r : List ℕ). (part_of true (way_from begins (plan_of s).used 0 r)).at.judged) same

  -- a recording made from a run of the library is good, with as many claims as it has sends
  pub our_run_is_good : (ms : List Made) → Run begins ms → drop (plan_of s).used s ≡ recorded ms → judged_of s ≡ Good (sends_in ms)
  our_run_is_good ms run same =
      judged_from_lem (recorded ms ++ []) (same ∙ sym (append-nil (recorded ms)))
      ∙ ap (λ (w : Way). w.at.judged) (recorded_run ms begins (plan_of s).used 0 [] begins_sound run)
      ∙ nothing_left (last_link begins ms) ((plan_of s).used + length (recorded ms)) (0 + sends_in ms)
      ∙ ap Good (zero-add (sends_in ms))

  -- with the claim of any one of its sends changed, in any field or kind, and whatever follows, it is false at the place of that claim
  pub changed_claim_is_false : (before later : List Made) (answer : Departure) (after : Link) (c : Claim) (tail : List ℕ)
      → Run begins (before ++ (made send answer after ∷ later)) → (c ≡ true_claim answer → ⊥)
      → drop (plan_of s).used s ≡ recorded before ++ (17 ∷ (claim_bytes c ++ tail))
      → judged_of s ≡ FalseAt ((plan_of s).used + length (recorded before) + 1)
  unfolding answer_of
  changed_claim_is_false before later answer after c tail run other same =
      let two = run_parts before (made send answer after ∷ later) begins run in
      let l = last_link begins before in
      let sound = last_sound before begins begins_sound two.0 in
      let is : made send answer after ≡ makes true l send = meets_by l (made send answer after) true (exactly_yes sound)
      (run_first l answer after later two.1) in
      judged_from_lem (recorded before ++ (17 ∷ (claim_bytes c ++ tail))) same
      ∙ ap (λ (w : Way). w.at.judged)
      (recorded_run before begins (plan_of s).used 0 (17 ∷ (claim_bytes c ++ tail)) begins_sound two.0)
      ∙ not_held l ((plan_of s).used + length (recorded before)) (0 + sends_in before) c tail
      (ap (λ (m : Made). same_claim c (true_claim (answer_of m))) (sym is) ∙ other_claim c (true_claim answer) other)
