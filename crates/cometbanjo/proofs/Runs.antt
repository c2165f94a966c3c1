-- A run of exported calls is a run of the library (R346): so all that is said of every run, the bounded wait among it, holds of the calls
-- that a box makes. Demands 1 to 3.
use mathlib.Core.List.{List, [], ◌∷◌, ◌++◌, map}
use mathlib.Core.Path.{◌≡◌, refl, sym, ap, ap₂, subst, ◌∙◌}
use Prim.Native.Nat.{ℕ}
use Rattle.state.specs.declared.Link.{Link}
use Rattle.calls.specs.Run.{Call, Made, made, call_of, link_left, last_link, Meets, Run}
use Rattle.answers.specs.Reply.{reply_to, row_of, rows_of}
use Rattle.cometbanjo.specs.Run.{BoxCall, arrives, sends, call_in, BoxMade, BoxMeets, BoxRun, rows_in, last_in}

-- what an exported call is read as
pub record OneRead (l : Link) (call : BoxCall) (row : List ℕ) (after : Link) : Type 0 where
  pub made : Made
  pub meets : Meets l made
  pub same : call_of made ≡ call_in call
  pub numbers : row ≡ row_of (reply_to made)
  pub left : link_left made ≡ after

pub box_call : (l : Link) (call : BoxCall) (number : ℕ) (row : List ℕ) (after : Link) → BoxMeets l call number row after
    → OneRead l call row after
box_call l (arrives class n tag) number row after is = record {
  made = made (call_in (arrives class n tag)) is.answer after;
  meets = is.rules;
  same = refl;
  numbers = is.numbers;
  left = refl;
}
box_call l sends number row after is = record {
  made = made (call_in sends) is.answer after;
  meets = is.rules;
  same = refl;
  numbers = is.numbers;
  left = refl;
}

-- what a run of them is read as: calls that were made, in a run of the library, with their answers and the last link
pub record AllRead (l : Link) (ms : List BoxMade) : Type 0 where
  pub made : List Made
  pub run : Run l made
  pub same : map call_of made ≡ map (λ (m : BoxMade). call_in m.call) ms
  pub numbers : rows_in ms ≡ rows_of made
  pub left : last_link l made ≡ last_in l ms

pub box_run : (ms : List BoxMade) (l : Link) → BoxRun l ms → AllRead l ms
unfolding BoxRun Run rows_in rows_of last_link last_in
box_run [] l is = record { made = []; run = tt; same = refl; numbers = refl; left = refl }
box_run (m ∷ ms) l is = step (box_call l m.call m.number m.row m.after is.0) (box_run ms m.after is.1)
  where
    step : OneRead l m.call m.row m.after → AllRead m.after ms → AllRead l (m ∷ ms)
    step one rest = record {
      made = one.made ∷ rest.made;
      run = (one.meets, subst (λ (x : Link). Run x rest.made) (sym one.left) rest.run);
      same = ap₂ (λ (c : Call) (cs : List Call). c ∷ cs) one.same rest.same;
      numbers = ap₂ (λ (xs ys : List ℕ). xs ++ ys) one.numbers rest.numbers;
      left = ap (λ (x : Link). last_link x rest.made) one.left ∙ rest.left;
    }
