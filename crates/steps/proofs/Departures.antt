-- A whole send over the fields of a link: no packet waits, a leaf is found at once, or rounds are opened. Demand 2.
use mathlib.Core.Bool.{Bool, true, false}
use mathlib.Core.List.{List}
use mathlib.Core.Path.{◌≡◌, refl, sym, ap, subst, ◌∙◌}
use Prim.Native.Nat.{ℕ, ◌≤◌, ◌<◌}
use native.Mathlib.Omega.{arith}
use lib.Dec.{leb}
use lib.ListN.{get_or}
use borrow.Author.Tests.{le-leb, lt-leb}
use Rattle.sets.specs.Set.{has}
use Rattle.units.specs.declared.Bytes.{Bytes}
use Rattle.tree.specs.declared.Tree.{Tree}
use Rattle.tree.specs.Rules.{PlanRules}
use Rattle.state.specs.declared.Link.{Link}
use Rattle.state.specs.declared.Totals.{Totals}
use Rattle.state.specs.State.{meaning}
use Rattle.state.specs.Queue.{packet_at}
use Rattle.rules.specs.Active.{some_waits, round_active, upward}
use Rattle.rules.specs.Steps.{holds_some}
use Rattle.rules.specs.Sending.{next_leaf}
use Rattle.rules.proofs.Waiting.{active_meaning}
use Rattle.rules.proofs.Rounds.{leaf_most}
use Rattle.rules.proofs.Taken.{root_waits}
use Rattle.rules.proofs.Counted.{root_counts_some}
use Rattle.totals.proofs.WorkingOut.{worked_out_own, root_not_inner}
use Rattle.rules.specs.After.{Sent, sent_link}
use Rattle.calls.specs.declared.AfterSend.{AfterSend}
use Rattle.calls.specs.Send.{send_leaves, send_of}
use Rattle.calls.proofs.Departures.{send_goes, send_nothing}
use Rattle.steps.specs.declared.Went.{Went}
use Rattle.rules.specs.Steps.{SendsNext, OnTheWay}
use Rattle.rules.proofs.Meanings.{waits_leaf}
use Rattle.rules.proofs.OnTheWay.{way_starts, way_found, way_ends}
use Rattle.steps.specs.declared.leaf.Gone.{Gone}
use Rattle.steps.specs.declared.Stand.{Stand}
use Rattle.steps.specs.Fields.{lent_link, totals_for, link_at, GoesNext}
use Rattle.steps.specs.declared.reopening.Found.{Found}
use Rattle.steps.specs.Rounds.{
  InFields,
  Going,
  Unseen,
  Closed,
  Opens,
  Finds,
  closed_link,
  open_link,
  sent_where,
  Departs,
  went_by,
  nothing_goes,
}
use Rattle.steps.specs.Rounds.{answer_of, went_answers}

-- a leaf is found at once, on a link in fields
module _
    {t : Tree} {size : Bytes} {before from : ℕ} (balance residual : List ℕ) {start held lengths tags marks : List ℕ} {totals : Totals}
    (s : Going t size before from balance residual start held lengths tags marks totals) where
  abbrev whole : Link
  whole = lent_link t size before from balance residual start held lengths tags marks totals

  pub now_finds : (at known : ℕ) → at ≡ next_leaf (meaning whole) → at < 64
      → Finds whole (record { class = at; rounds = 0; active = before; size = size; known = known })
      (λ after active place. lent_link t after active place balance residual start held lengths tags marks totals)
  now_finds at known next here = record {
    here = here;
    place = from;
    way = way_starts whole at s.fields.wide s.fields.sound (waits_leaf (meaning whole) s.some) next;
  }

  -- or its round has closed
  abbrev unseen : Unseen
  unseen = record { active = before; place = from; held = held; tags = tags; marks = marks; totals = totals }

  pub is_closed : (at : ℕ) → at ≡ next_leaf (meaning whole) → 64 ≤ at → Closed t size unseen balance residual start lengths
  is_closed at next none = record { going = s; closed = omega (arith, none, next, leaf_most (meaning whole) s.fields.sound.state) }

-- the round has closed
module _
    {t : Tree} {size : Bytes} {k : Unseen} (balance residual : List ℕ) {start lengths : List ℕ}
    (c : Closed t size k balance residual start lengths)
    (active : ℕ) (is : active ≡ upward t (holds_some t k.held)) where
  abbrev shut : Link
  shut = closed_link t size k balance residual start lengths

  rules : PlanRules t
  rules = c.going.fields.sound.state.fits.tree

  taken : active ≡ round_active (meaning shut)
  taken = is ∙ active_meaning shut rules

  -- the root is active in the next round, since a packet waits
  pub root_on : has active 0 ≡ true
  root_on = ap (λ (a : ℕ). has a 0) taken ∙ root_waits (meaning shut) rules ∙ c.going.some

  pub round_opens : Opens t size k active balance residual start lengths
  round_opens = record { shut = c; taken = taken }

  pub then_finds : (b r : List ℕ) (f : Found) → f.class < 64 → f.active ≡ active
      → OnTheWay shut f.class (open_link t f.size k active b r start lengths) f.rounds
      → Finds shut f (λ after x place. lent_link t after x place b r start k.held lengths k.tags k.marks k.totals)
  then_finds b r f here same way = record {
    here = here;
    place = 1;
    way = subst (λ (x : ℕ). OnTheWay shut f.class (open_link t f.size k x b r start lengths) f.rounds) (sym same) way;
  }

-- a leaf is found on a link in fields, and its packet goes
module _
    {t : Tree} {size : Bytes} {before from : ℕ} (balance residual : List ℕ) {start held lengths tags marks : List ℕ} {totals : Totals}
    (f : Found)
    (b r : List ℕ)
    (q : Finds (lent_link t size before from balance residual start held lengths tags marks totals) f
    (λ after active place. lent_link t after active place b r start held lengths tags marks totals)) where
  abbrev found_in : Link
  found_in = lent_link t size before from balance residual start held lengths tags marks totals

  abbrev at_turn : Link
  at_turn = lent_link t f.size f.active q.place b r start held lengths tags marks totals

  its_turn : SendsNext at_turn f.class
  its_turn = way_found found_in f.class at_turn f.rounds q.way (λ z. omega (arith, q.here, z))

  pub then_goes : GoesNext t f.size q.place f.class f.active b r start held lengths tags marks totals
  then_goes = record { wide = q.way.many; next = its_turn }

  pub then_departs : (gone : Gone) (after : Link) → gone.packet ≡ packet_at at_turn f.class 0 → after ≡ sent_link at_turn f.class
      → true ≡ some_waits (meaning found_in)
      → Departs found_in (went_by f gone) after
  then_departs gone after packet link some = record {
    some = some;
    sent = way_ends found_in f.class at_turn f.rounds gone.packet after q.way its_turn packet link;
  }

-- whether the root of a link in fields counts a packet
module _
    {t : Tree} (stand : Stand) (balance residual : List ℕ) {start held lengths tags marks : List ℕ} (packets bytes : List ℕ)
    (s : InFields (link_at true t stand balance residual start held lengths tags marks packets bytes)) where
  abbrev standing : Link
  standing = link_at true t stand balance residual start held lengths tags marks packets bytes

  root_some : some_waits (meaning standing) ≡ leb 1 (get_or packets 0 0)
  root_some =
      root_counts_some (meaning standing) s.sound.state
      ∙ ap (leb 1) (worked_out_own t packets 0 (omega arith) (root_not_inner t))

  -- one does
  pub going_on : (get_or packets 0 0 ≡ 0 → ⊥)
      → Going t stand.size stand.active stand.place balance residual start held lengths tags marks
      (totals_for true t packets bytes stand.charged)
  going_on n = record { fields = s; some = root_some ∙ le-leb 1 (get_or packets 0 0) (omega (arith, n)) }

  -- none does, and nothing changes
  pub nothing_departs : get_or packets 0 0 ≡ 0 → Departs standing (nothing_goes stand) standing
  nothing_departs none = record { some = sym (root_some ∙ lt-leb 1 (get_or packets 0 0) (omega (arith, none))); sent = refl }

-- ---- what a send gives is what the call answers

abbrev as_departure : Bool → Sent → AfterSend
as_departure some s = send_leaves (answer_of some s.class s.packet s.rounds s.link.totals.charged) s.link

pub departs_answers : (l : Link) (w : Went) (after : Link) → w.stand.charged ≡ after.totals.charged → Departs l w after
    → send_leaves (went_answers w) after ≡ send_of true l
departs_answers l w after total d =
    ap (λ (n : ℕ). send_leaves (answer_of w.some w.class w.packet w.rounds n) after) total
    ∙ ap (as_departure w.some) d.sent ∙ go w.some d.some
  where
    go : (b : Bool) → b ≡ some_waits (meaning l) → as_departure b (sent_where b l) ≡ send_of true l
    go true e = sym (send_goes l (sym e))
    go false e = sym (send_nothing l (sym e))
