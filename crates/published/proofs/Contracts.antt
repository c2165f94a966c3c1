-- The contract of the second engine's calls determines the answer; every run of them is one of the first engine's on the links that its
-- links stand for, and so the bounded wait holds of it.
use mathlib.Core.Bool.{Bool, true, false}
use mathlib.Core.List.{List, [], ◌∷◌, map}
use mathlib.Core.Path.{◌≡◌, refl, sym, ap, ap₂, subst, ◌∙◌}
use Prim.Native.Nat.{ℕ, ◌≤◌}
use Rattle.std.specs.Prelude.{Ok}
use Rattle.checks.specs.Check.{Exactly}
use Rattle.checks.proofs.Laws.{not_both, exactly_yes, exactly_unique}
use Rattle.tree.specs.declared.Tree.{Tree}
use Rattle.tree.specs.Rules.{PlanRules}
use Rattle.state.specs.declared.Packet.{Packet}
use Rattle.state.specs.Queue.{held_of}
use Rattle.state.specs.declared.Link.{Link}
use Rattle.state.specs.State.{meaning, fresh_link}
use Rattle.calls.specs.declared.Arrival.{Arrival}
use Rattle.calls.specs.declared.AfterArrival.{AfterArrival}
use Rattle.calls.specs.Arrival.{arrival_leaves, arrival_of}
use Rattle.calls.specs.Run.{Call, arrival, send, call_of, makes, link_left, run_of, made_in, Meets, Run}
use Rattle.calls.proofs.Arrivals.{arrival_refused, unsound_number}
use Rattle.calls.proofs.Runs.{rules_meet, run_is}
use Rattle.calls.proofs.FreshLinks.{fresh_sound}
use Rattle.wait.specs.Wait.{followed, sends_in, bound_of}
use Rattle.wait.proofs.BoundedWait.{bounded_wait, it_goes, it_is_this}
use Rattle.published.specs.declared.Second.{Second}
use Rattle.published.specs.declared.SecondFresh.{SecondFresh}
use Rattle.published.specs.Second.{stands_for, SoundSecond, ShapedSecond, fresh_second, gives}
use Rattle.published.specs.Contract.{fresh_given, MakesSecond}
use Rattle.published.specs.Contract.{MadeSecond, made_second, second_left, made_by, call_made, as_first, MeetsSecond, RunSecond}
use Rattle.published.proofs.OneSend.{stands_link_sound, stands_shaped}
use Rattle.published.proofs.AnyRun.{one_call, fresh_sound_second, fresh_stands}

-- any two fresh links that the contract allows are equal
pub second_one_fresh : (t : Tree) (a b : SecondFresh) → MakesSecond t a → MakesSecond t b → a ≡ b
second_one_fresh t a b x y =
    x.answer ∙ ap (λ (o : Bool). fresh_given o t) (exactly_unique x.exactly y.exactly) ∙ sym y.answer

-- any two calls that the contract allows are equal
pub second_one_answer : (l : Second) (call : Call) (a b : MadeSecond) → call_made a ≡ call → call_made b ≡ call → MeetsSecond l a
    → MeetsSecond l b → a ≡ b
second_one_answer l call a b e f x y =
    x.answer
    ∙ ap₂ (λ (s : Bool) (c : Call). made_by s l c) (exactly_unique x.exactly y.exactly) (e ∙ sym f)
    ∙ sym y.answer

-- an exact flag and its answer
pub second_by_lem : (l : Second) (call : Call) (flag : Bool) → ShapedSecond l → Exactly flag (SoundSecond l) → MeetsSecond l
    (made_by flag l call)
second_by_lem l call flag shape exactly = record {
  shape = shape;
  sound = flag;
  exactly = exactly;
  answer = refl;
  keeps = λ sound.
      subst (λ (b : Bool). SoundSecond (gives b l call).after) (sym (exactly.complete sound)) (one_call l sound shape call).sound;
}

-- on a sound link the call is the first engine's on the link that it stands for
pub meets_first : (l : Second) (m : MadeSecond) → SoundSecond l → MeetsSecond l m → Meets (stands_for l) (as_first m)
meets_first l m sound x =
    subst (Meets (stands_for l)) (sym same)
    (rules_meet (stands_for l) (call_made m) true (exactly_yes (stands_link_sound l sound x.shape)) (stands_shaped l sound x.shape))
  where
    same : as_first m ≡ makes true (stands_for l) (call_made m)
    same =
        ap as_first (x.answer ∙ ap (λ (b : Bool). made_by b l (call_made m)) (x.exactly.complete sound))
        ∙ (one_call l sound x.shape (call_made m)).made_is

-- and leaves a link whose lists have the lengths of its arrays
pub meets_shaped : (l : Second) (m : MadeSecond) → SoundSecond l → MeetsSecond l m → ShapedSecond (second_left m)
meets_shaped l m sound x =
    subst ShapedSecond
    (sym (ap second_left (x.answer ∙ ap (λ (b : Bool). made_by b l (call_made m)) (x.exactly.complete sound))))
    (one_call l sound x.shape (call_made m)).shape

-- and a run is the first engine's
pub run_first : (ms : List MadeSecond) (l : Second) → SoundSecond l → RunSecond l ms → Run (stands_for l) (map as_first ms)
unfolding RunSecond Run
run_first [] l sound run = tt
run_first (m ∷ ms) l sound run =
    (meets_first l m sound run.0, left m (run_first ms (second_left m) (run.0.keeps sound) run.1))
  where
    left : (m : MadeSecond) → Run (stands_for (second_left m)) (map as_first ms) → Run (link_left (as_first m)) (map as_first ms)
    left (made_second call answer after) r = r

-- so in any run from a fresh link each answer is the first engine's by the rules (R335)
pub second_run_is : (t : Tree) → PlanRules t → (ms : List MadeSecond) → RunSecond (fresh_second t) ms
    → map as_first ms ≡ made_in (run_of true (fresh_link t) (map call_of (map as_first ms)))
second_run_is t rules ms run =
    run_is (map as_first ms) (fresh_link t) (fresh_sound t rules)
    (subst (λ (l : Link). Run l (map as_first ms)) (fresh_stands t rules) (run_first ms (fresh_second t) (fresh_sound_second t rules) run))

-- ---- the bounded wait (demand 3)

-- an accepted arrival was on a sound record
accepted_second : (l : Second) (i : ℕ) (p : Packet) (answer : Arrival) (after : Second) → MeetsSecond l (made_second
    (arrival i p) answer after)
    → answer.verdict ≡ Ok tt → SoundSecond l
accepted_second l i p answer after x accepted = x.exactly.sound (go x.sound refl)
  where
    told : MadeSecond → Arrival
    told (made_second (arrival i p) a after) = a
    told (made_second send a after) = answer

    is : answer ≡ (arrival_of x.sound l.link i p).answer
    is = ap told x.answer

    go : (b : Bool) → x.sound ≡ b → b ≡ true
    go true e = refl
    go false e =
        absurd
        (not_both accepted
        (ap (λ (a : Arrival). a.verdict) is
        ∙ ap (λ (b : Bool). (arrival_of b l.link i p).answer.verdict) e
        ∙ ap (λ (a : AfterArrival). a.answer.verdict) (arrival_refused false l.link i p (unsound_number (meaning l.link) i p))))

module _ (l : Second) (i : ℕ) (p : Packet) (answer : Arrival) (after : Second) (x : MeetsSecond l (made_second (arrival i p) answer after))
    (accepted : answer.verdict ≡ Ok tt) where
  sound : SoundSecond l
  sound = accepted_second l i p answer after x accepted

  -- from its acceptance (R337), with D bytes then in its class's queue and a class of weight w, the whole link sends at most
  -- (D / w rounded up, plus 1) times Q bytes until it has gone
  pub bounded_wait_second : (ms : List MadeSecond) → RunSecond after ms
      → (followed i (held_of l.link i) (map as_first ms)).sent
      ≤ bound_of l.link i answer.bytes.0
  bounded_wait_second ms run =
      bounded_wait (stands_for l) i p (arrival_leaves answer (stands_for after)) (meets_first l _ sound x) accepted (map as_first ms)
      (run_first ms after (x.keeps sound) run)

  -- it goes: after as many sends it has gone, and what goes is the accepted packet
  pub it_goes_second : (ms : List MadeSecond) → RunSecond after ms
      → bound_of l.link i answer.bytes.0 ≤ sends_in (map as_first ms)
      → (followed i (held_of l.link i) (map as_first ms)).gone ≡ true
  it_goes_second ms run many =
      it_goes (stands_for l) i p (arrival_leaves answer (stands_for after)) (meets_first l _ sound x) accepted (map as_first ms)
      (run_first ms after (x.keeps sound) run) many

  pub it_is_this_second : (ms : List MadeSecond) → RunSecond after ms → (followed i (held_of l.link i) (map as_first ms)).gone ≡ true
      → (followed i (held_of l.link i) (map as_first ms)).packet ≡ p
  it_is_this_second ms run gone =
      it_is_this (stands_for l) i p (arrival_leaves answer (stands_for after)) (meets_first l _ sound x) accepted (map as_first ms)
      (run_first ms after (x.keeps sound) run) gone
