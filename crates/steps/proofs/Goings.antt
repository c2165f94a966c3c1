-- A packet goes, over the fields of a link.
use mathlib.Core.Bool.{true}
use mathlib.Core.List.{List}
use mathlib.Core.Path.{◌≡◌, refl, sym, ap, ap₂, subst, ◌∙◌}
use Prim.Native.Nat.{ℕ, ◌+◌, ◌≤◌, ◌<◌}
use native.Mathlib.Omega.{arith}
use lib.ListN.{get_or}
use Rattle.units.specs.declared.Bytes.{Bytes}
use Rattle.units.specs.Cost.{cost_of}
use Rattle.tree.specs.declared.Tree.{Tree}
use Rattle.tree.specs.Class.{is_class, is_leaf}
use Rattle.tree.specs.Rules.{PlanRules}
use Rattle.tree.proofs.Leaves.{leaf_least}
use Rattle.shape.specs.Shape.{Families}
use Rattle.state.specs.declared.Account.{Account}
use Rattle.state.specs.declared.Link.{Link}
use Rattle.state.specs.declared.Waiting.{Waiting}
use Rattle.state.specs.Account.{balance_of}
use Rattle.state.specs.declared.Totals.{Totals}
use Rattle.state.specs.Queue.{packet_at, queued, with_totals, lifted_first}
use Rattle.state.specs.Mark.{wrapped, charged_more}
use Rattle.state.specs.WayUp.{recounted}
use Rattle.state.specs.State.{meaning, round_of, link_in_round}
use Rattle.rules.specs.Sending.{Books, first_of, paid_by, books_after, sent_state, turns_off}
use Rattle.rules.specs.Steps.{Fit}
use Rattle.rules.specs.After.{sent_link}
use Rattle.totals.specs.WorkedOut.{CountsAt}
use Rattle.totals.proofs.Sounds.{counts_less}
use Rattle.rules.proofs.Fitting.{fit_paid}
use Rattle.rules.proofs.Meanings.{start_low, sound_fit, link_sender, sender_holds, first_cost, paid_means, books_more, books_last}
use Rattle.state.specs.Account.{zip_accounts}
use Rattle.steps.specs.Fields.{lent_link, totals_for, books_of, GoesNext}

-- the link after, from the books, the queues and the totals after
sent_by_lem : (l : Link) (i : ℕ) (b : Books) (start held : List ℕ) (totals : Totals) → b ≡ books_after (meaning l) i
    → ((k : Link) → queued k start held l.lengths l.tags l.marks
    ≡ lifted_first (queued k l.start l.held l.lengths l.tags l.marks) i)
    → totals ≡ charged_more (recounted true l.tree i (cost_of (packet_at l i 0).length) l.totals) (cost_of (packet_at l i 0).length)
    → with_totals (queued (link_in_round l (round_of l.round.size.0 b.active i b.accounts)) start held l.lengths l.tags
    l.marks) totals
    ≡ sent_link l i
unfolding sent_state
sent_by_lem l i b start held totals e q n = ap₂ with_totals (q (link_in_round l (round_of l.round.size.0 b.active i b.accounts))) n
    ∙ rw e refl

module _
    {t : Tree} {size : Bytes} {place i active : ℕ} {balance residual start held lengths tags marks : List ℕ} {totals : Totals}
    (s : GoesNext t size place i active balance residual start held lengths tags marks totals) where
  abbrev whole : Link
  whole = lent_link t size active place balance residual start held lengths tags marks totals

  -- what the steps ask
  pub goes_first : (i < 64) × (get_or start i 0 < 32)
  goes_first = (s.next.found, start_low whole i s.next.sound s.next.found)

  pub goes_takes : (i < 64) × (get_or start i 0 < 32) × (1 ≤ get_or held i 0)
  goes_takes = (s.next.found, goes_first.1, sender_holds whole i s.next)

  pub goes_rules : PlanRules t
  goes_rules = s.next.sound.state.fits.tree

  class : is_class t i ≡ true
  class = (link_sender whole i s.next).class

  pub goes_leaf : is_leaf t i ≡ true
  goes_leaf = (link_sender whole i s.next).leaf

  -- p is its first packet, by what the step that reads it ensures
  module _ {p : Waiting} {cost : ℕ} (e : (l : Link) (h : List ℕ) → p ≡ packet_at (queued l start h lengths tags marks) i 0)
      (k : cost ≡ cost_of p.length) where
    costs : cost ≡ cost_of (first_of (meaning whole) i).length
    costs = first_cost whole i p cost s.next (e whole held) k

    pub goes_pays : Fit (zip_accounts balance residual) × (i < 64) × (cost ≤ balance_of (zip_accounts balance residual) i)
    goes_pays =
        (sound_fit whole s.wide s.next.sound, s.next.found, omega (arith, costs, (link_sender whole i s.next).covers))

    pub goes_counts : (packets bytes : List ℕ) (charged : ℕ) → totals ≡ totals_for true t packets bytes charged
        → (1 ≤ i) × (i < 64) × CountsAt true 1 i packets × CountsAt true (cost_of p.length) i bytes
    goes_counts packets bytes charged is =
        let holds = (link_sender whole i s.next).holds in
        let counts = counts_less whole packets bytes charged is s.next.sound i goes_leaf holds in (
          leaf_least t goes_rules i goes_leaf,
          s.next.found,
          counts.0,
          subst (λ (c : ℕ). CountsAt true c i bytes) (sym costs ∙ k) counts.1,
        )

    module _ (b r : List ℕ) (y : zip_accounts b r ≡ paid_by (zip_accounts balance residual) i cost) where
      pub goes_off : {children : List ℕ} → Families t children
          → PlanRules t × Families t children × (is_class t i ≡ true) × Fit (zip_accounts b r)
      goes_off kin = (
        goes_rules,
        kin,
        class,
        subst Fit (sym y) (fit_paid (zip_accounts balance residual) i cost goes_pays.0 goes_pays.1 goes_pays.2),
      )

      module _ {start' held' : List ℕ} {totals' : Totals} {charged' : ℕ}
          (q : (l : Link) → queued l start' held' lengths tags marks ≡ lifted_first (queued l start held lengths tags marks) i)
          (n : totals' ≡ recounted true t i (cost_of p.length) totals) (g : charged' ≡ wrapped (totals.charged + cost)) where
        -- the totals after it, with their running total
        abbrev left : ℕ → Totals
        left charged = record { packets = totals'.packets; bytes = totals'.bytes; charged = charged }

        fewer : left charged'
            ≡ charged_more (recounted true t i (cost_of (packet_at whole i 0).length) totals) (cost_of (packet_at whole i 0).length)
        fewer =
            ap left (g ∙ ap₂ (λ (a c : ℕ). wrapped (a + c)) (sym (ap (λ (x : Totals). x.charged) n)) k)
            ∙ ap (λ (x : Totals). charged_more x (cost_of p.length)) n
            ∙ ap (λ (c : ℕ). charged_more (recounted true t i c totals) c) (ap (λ (x : Waiting). cost_of x.length) (e whole held))

        -- the link after a packet that was not the last, and after one that was
        pub goes_more : 1 < get_or held i 0 → lent_link t size active i b r start' held' lengths tags marks
            (left charged')
            ≡ sent_link whole i
        goes_more m =
            sent_by_lem whole i (books_of active b r) start' held' (left charged')
            (ap (λ (xs : List Account). record { active = active; accounts = xs }) (y ∙ paid_means whole i cost costs)
            ∙ sym (books_more whole i s.next.found m)) q fewer

        pub goes_last : get_or held i 0 ≤ 1 → (a : ℕ) (b' r' : List ℕ)
            → books_of a b' r' ≡ turns_off 63 t i (books_of active b r)
            → lent_link t size a i b' r' start' held' lengths tags marks (left charged')
            ≡ sent_link whole i
        goes_last m a b' r' off =
            sent_by_lem whole i (books_of a b' r') start' held' (left charged')
            (off
            ∙ ap (λ (xs : List Account). turns_off 63 t i (record { active = active; accounts = xs })) (y ∙ paid_means whole i cost costs)
            ∙ sym (books_last whole i s.next.found m)) q fewer
