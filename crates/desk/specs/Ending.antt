-- The last step of a run (R220): the line with which it ends, and the link that its last call left. Demands 1 and 2.
use Rattle.std.specs.Prelude.{true, cond, List, ℕ, zero, suc, length}
use Rattle.state.specs.declared.Link.{Link}
use Rattle.run.specs.declared.Step.{Step}
use Rattle.run.specs.Event.{step_of}
use Rattle.run.specs.Run.{program_begins}

-- event after event, from a link and a place of the input, until the run ends; n is more events than there can be (R220)
unfoldable pub end_in : ℕ → Link → List ℕ → ℕ → Step
end_in zero l input place = step_of true l input place
end_in (suc n) l input place =
    let s = step_of true l input place in
    cond s.more (end_in n s.link input s.place) s

-- the last step of a program's run: its first, where that ends it, or the one of the event that does (R220)
unfoldable pub run_end : List ℕ → Step
run_end input =
    let s = program_begins input in
    cond s.more (end_in (suc (length input)) s.link input s.place) s
