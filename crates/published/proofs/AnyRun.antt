-- Every run of the second engine goes as one of the first: the same answers, the same accounts at each closing, and each link stands for
-- the
-- first engine's. From a fresh link, for any calls.
use mathlib.Core.Bool.{true}
use mathlib.Core.List.{List, [], ◌∷◌, ◌++◌, map}
use mathlib.Core.Path.{◌≡◌, refl, ap, ap₂, ◌∙◌}
use Prim.Native.Nat.{ℕ}
use lib.ListN.{length-replicate}
use Rattle.checks.proofs.Laws.{not_true_and_false}
use Rattle.sets.proofs.Laws.{has_empty}
use Rattle.tree.specs.declared.Tree.{Tree}
use Rattle.tree.specs.Rules.{PlanRules}
use Rattle.state.specs.declared.Link.{Link}
use Rattle.state.specs.State.{State, fresh_link}
use Rattle.state.proofs.Meaning.{shaped_fresh}
use Rattle.rules.specs.After.{link_in}
use Rattle.rules.specs.Sending.{Turn}
use Rattle.calls.specs.Run.{Call, arrival, send, Made, link_left, makes, turns_in, Moment, closed, called, run_of}
use Rattle.calls.proofs.FreshLinks.{fresh_sound}
use Rattle.published.specs.declared.Second.{Second}
use Rattle.published.specs.Settled.{unasked}
use Rattle.published.specs.Second.{means, stands_for, SoundSecond, ShapedSecond, fresh_second, gives}
use Rattle.published.specs.Runs.{Seen, shut, told, seen_first, seen_second}
use Rattle.published.proofs.Passages.{closed_of}
use Rattle.published.proofs.Closed.{AllAsked, settled_all}
use Rattle.published.proofs.OneArrival.{Alike, one_arrival}
use Rattle.published.proofs.OneSend.{one_send_lem, wide_second}

-- one call: on a sound link it gives a sound link (R337)
pub one_call : (l : Second) → SoundSecond l → ShapedSecond l → (call : Call) → Alike l call
one_call l sound shape (arrival i p) = one_arrival l i p sound shape
one_call l sound shape send = one_send_lem l sound shape

-- what is seen of some closings and what follows
shuts_same : (turns : List Turn) (moments : List Moment) (rest : List Seen) → rest ≡ map seen_first moments
    → map shut (map closed_of turns) ++ rest ≡ map seen_first (map closed turns ++ moments)
shuts_same [] moments rest e = e
shuts_same (turn ∷ turns) moments rest e = ap (λ (r : List Seen). shut (closed_of turn) ∷ r) (shuts_same turns moments rest e)

-- any run from a sound link goes as the first engine's from the link that it stands for
pub run_alike : (calls : List Call) (l : Second) → SoundSecond l → ShapedSecond l
    → seen_second true l calls ≡ map seen_first (run_of true (stands_for l) calls)
unfolding seen_second run_of
run_alike [] l sound shape = refl
run_alike (call ∷ calls) l sound shape =
    let a = one_call l sound shape call in
    let g = gives true l call in
    let m = makes true (stands_for l) call in
    let link : stands_for g.after ≡ link_left m = ap link_left a.made_is in
    let later : seen_second true g.after calls ≡ map seen_first (run_of true (link_left m) calls) =
    run_alike calls g.after a.sound a.shape ∙ ap (λ (x : Link). map seen_first (run_of true x calls)) link
    in
    ap (λ (c : List State). map shut c ++ (told call g.answer (stands_for g.after) ∷ seen_second true g.after calls)) a.closings
    ∙ shuts_same (turns_in (stands_for l) m) (called m ∷ run_of true (link_left m) calls)
    (told call g.answer (stands_for g.after) ∷ seen_second true g.after calls)
    (ap₂ (λ (x : Made) (r : List Seen). seen_first (called x) ∷ r) a.made_is later)

-- ---- from a fresh link

module _ (t : Tree) (rules : PlanRules t) where
  pub fresh_sound_second : SoundSecond (fresh_second t)
  fresh_sound_second =
      let s = fresh_sound t rules in
      record {
        state =
            record {
              state = s.state;
              parents = λ k u. record { up = λ is on e. absurd (not_true_and_false e (has_empty k)) };
              pay = λ k u. record { pays = λ e. absurd (not_true_and_false e (has_empty k)) };
              behind = λ k u. record { asked = λ leaf on below. absurd (not_true_and_false on (has_empty k)) };
            };
        starts = s.starts;
      }

  pub fresh_shaped_second : ShapedSecond (fresh_second t)
  fresh_shaped_second = record { link = shaped_fresh t; quotas = length-replicate {A = ℕ} 64 0 }

  fresh_asked : AllAsked (means (fresh_second t))
  unfolding unasked
  fresh_asked k u = rw (has_empty k)

  pub fresh_stands : stands_for (fresh_second t) ≡ fresh_link t
  fresh_stands =
      ap (link_in (fresh_link t))
      (settled_all (means (fresh_second t)) fresh_sound_second.state (wide_second (fresh_second t) fresh_sound_second fresh_shaped_second)
      fresh_asked)

  -- the same sends, refusals and round counts, and every other number of every answer; equal states, and so equal accounts, at each
  -- moment a
  -- round has closed, before the next one opens (R335, R336)
  pub both_engines : (calls : List Call) → seen_second true (fresh_second t) calls ≡ map seen_first (run_of true (fresh_link t) calls)
  both_engines calls =
      run_alike calls (fresh_second t) fresh_sound_second fresh_shaped_second
      ∙ ap (λ (l : Link). map seen_first (run_of true l calls)) fresh_stands
