-- What the rules give for an entry, to be computed; and why a computed entry is right of every run of the library. Demands 1 and 2.
use mathlib.Core.Bool.{Bool, true}
use mathlib.Core.List.{List, [], ◌∷◌, map}
use mathlib.Core.Path.{◌≡◌, refl, sym, ap, subst, ◌∙◌}
use Rattle.checks.specs.Check.{Verdict}
use Rattle.std.specs.Prelude.{Ok, Err}
use Rattle.tree.specs.declared.Tree.{Tree}
use Rattle.tree.specs.Rules.{PlanRules}
use Rattle.plan.specs.Reader.{plan_of}
use Rattle.plan.proofs.Numbers.{plan_rules}
use Rattle.state.specs.declared.Link.{Link}
use Rattle.sound.specs.Sound.{SoundLink}
use Rattle.calls.specs.declared.AfterFresh.{AfterFresh}
use Rattle.calls.specs.Fresh.{fresh_of, MakesFresh}
use Rattle.calls.specs.Run.{Call, run_of, made_in}
use Rattle.calls.proofs.FreshLinks.{fresh_sound}
use Rattle.calls.proofs.Runs.{run_is}
use Rattle.marked.specs.Run.{Read, Exchange, read_of, calls_in, exchanges_of, Follows, Runs, Entry, Right, AllRight, none, more}

-- the exchanges as the run by the rules gives them
abbrev pub ruled : Link → List Exchange → List Exchange
ruled l exchanges = exchanges_of exchanges l (made_in (run_of true l (calls_in exchanges)))

unfoldable pub exchanges_on : Verdict → Tree → List Exchange → List Exchange
exchanges_on (Ok _) t exchanges = ruled (fresh_of true t).link exchanges
exchanges_on (Err _) t exchanges = []

-- what the reader says, and the exchanges
pub record Found : Type 0 where
  pub read : Read
  pub exchanges : List Exchange

unfoldable pub found : Entry → Found
found e =
    let r = plan_of e.input in
    record { read = read_of r; exchanges = exchanges_on r.verdict r.tree e.exchanges }

unfoldable pub expected : Entry → Found
expected e = record { read = e.read; exchanges = e.exchanges }

-- on a sound link any run of the library gives the exchanges that the rules give
follows : (l : Link) (exchanges : List Exchange) → SoundLink l → ruled l exchanges ≡ exchanges → Follows l exchanges
follows l exchanges sound e run is calls =
    ap (exchanges_of exchanges l) (run_is run l sound is ∙ ap (λ (cs : List Call). made_in (run_of true l cs)) calls) ∙ e

-- a fresh link of a tree that obeys the plan rules is the rules' own
fresh_is : (t : Tree) (r : AfterFresh) → PlanRules t → MakesFresh t r → r ≡ fresh_of true t
fresh_is t r rules x = x.answer ∙ ap (λ (b : Bool). fresh_of b t) (x.exactly.complete rules)

-- so a computed entry is right
pub right : (e : Entry) → found e ≡ expected e → Right e
unfolding found expected exchanges_on
right e same = record {
  reads = ap (λ (f : Found). f.read) same;
  runs = go (plan_of e.input).verdict refl (ap (λ (f : Found). f.exchanges) same);
}
  where
    go : (v : Verdict) → (plan_of e.input).verdict ≡ v → exchanges_on v (plan_of e.input).tree e.exchanges ≡ e.exchanges
        → Runs v (plan_of e.input) e.exchanges
    go (Ok _) passed same = λ fresh x.
        let t = (plan_of e.input).tree in
        let rules = plan_rules e.input (plan_of e.input) refl passed in
        subst (λ (r : AfterFresh). Follows r.link e.exchanges) (sym (fresh_is t fresh rules x))
        (follows (fresh_of true t).link e.exchanges (fresh_sound t rules) same)
    go (Err _) refused same = sym same

pub all_right : (es : List Entry) → map found es ≡ map expected es → AllRight es
all_right [] e = none
all_right (x ∷ es) e = more (right x (cc)) (all_right es (cc))
