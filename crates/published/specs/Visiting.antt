-- A send of the engine as published (R315, R320 to R324): visits, each of which asks first; the packet that goes; a round that opens and
-- shares out nothing yet. Search, the test of a balance, the packet that goes, turning inactive and the surplus test are the first engine's
-- own. Demand 2.
use Rattle.std.specs.Prelude.{true, false, List, [], ◌∷◌, ◌++◌, ℕ, zero, suc, ◌+◌, ◌-◌, ltb, set}
use Rattle.sets.specs.Set.{with}
use Rattle.state.specs.declared.Waiting.{Waiting}
use Rattle.state.specs.State.{State, round_of, in_round}
use Rattle.rules.specs.Active.{round_active}
use Rattle.rules.specs.Opening.{Kind, main, surplus, next_kind, next_size, resized_accounts}
use Rattle.rules.specs.Sending.{first_of, first_from, active_leaf, covers, sent_state}
use Rattle.published.specs.Asking.{Published, ask}

-- the leaf that sends, or 64 where the round has closed, and the state by then (R320)
pub record Visited : Type 0 where
  pub leaf : ℕ
  pub after : Published

-- visit by visit from a place on: find the lowest-numbered active leaf not below the place. It asks for its quota. If its balance then
-- covers its first packet, it sends. Otherwise the place becomes the leaf plus 1 and the search goes on. n is as many visits as there can
-- be (R315, R320)
unfoldable pub visits_from : ℕ → Published → ℕ → Visited
visits_from zero x place = record { leaf = 64; after = x }
visits_from (suc n) x place =
    let i = first_from (active_leaf x.state) (64 - place) place in
    elim (ltb i 64) [
      | true ↦ elim (covers (ask x i).state i) [ true ↦ record { leaf = i; after = ask x i } | false ↦ visits_from n (ask x i) (i + 1) ]
      | false ↦ record { leaf = 64; after = x }
    ]

-- from the place at hand on (R320)
unfoldable pub visited : Published → Visited
visited x = visits_from 64 x x.state.round.place

-- leaf i sends its first packet; who has a quota keeps it (R321)
unfoldable pub sent_published : Published → ℕ → Published
sent_published x i = record { state = sent_state x.state i; asked = x.asked; quotas = x.quotas }

-- who has a quota when a round opens: in a main round no class, in a surplus round the root, and it is 0 (R323)
abbrev pub asked_first : Kind → ℕ
asked_first main = 0
asked_first surplus = with 0 0

-- a round opens: who is active, its kind, the size in force and the difference that the root takes are the first engine's, and the place
-- becomes 1; no permit is shared out yet (R322, R323)
unfoldable pub opened_published : Published → Published
opened_published x =
    let size = next_size x.state in
    record {
      state = in_round x.state (round_of size (round_active x.state) 1 (resized_accounts size x.state));
      asked = asked_first (next_kind x.state);
      quotas = set x.quotas 0 0;
    }

-- the trace of a send: the states in which rounds closed in the call, then the packet (R324)
pub record Passage : Type 0 where
  pub closings : List State
  pub class : ℕ
  pub packet : Waiting
  pub after : Published

-- a leaf sends (R324)
abbrev pub passes : List State → Visited → Passage
passes closings v = record {
  closings = closings;
  class = v.leaf;
  packet = first_of v.after.state v.leaf;
  after = sent_published v.after v.leaf;
}

-- a leaf sends, or the round has closed and a new one is opened in the same call; n is more openings than there can be (R322, R324)
unfoldable pub passes_in : ℕ → List State → Published → Passage
passes_in zero closings x = passes closings (visited x)
passes_in (suc n) closings x =
    elim (ltb (visited x).leaf 64) [
      | true ↦ passes closings (visited x)
      | false ↦ passes_in n (closings ++ ((visited x).after.state ∷ [])) (opened_published (visited x).after)
    ]

-- the trace of a whole send (R324)
unfoldable pub passage_of : Published → Passage
passage_of x = passes_in 64 [] x
