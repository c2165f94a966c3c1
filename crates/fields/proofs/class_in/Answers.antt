-- `fields::class_in` meets its contract.
use mathlib.Core.Bool.{true, false}
use mathlib.Core.Path.{◌≡◌, refl}
use lib.Dec.{ltb}
use borrow.Author.Tests.{lt-ltb, le-ltb}
use Rattle.fields.proofs.class_in.Goals as goal

pub returns-then-class-gt-MOST : goal.returns-then-class-gt-MOST
returns-then-class-gt-MOST c = let past : ltb 63 c.args.class ≡ true = lt-ltb 63 _ c.if-class-gt-MOST.true in rw past refl

pub returns : goal.returns
returns c =
    let within : ltb 63 c.args.class ≡ false = le-ltb 63 c.args.class c.if-class-gt-MOST.false in
    rw within refl
