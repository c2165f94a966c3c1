-- `fields::class_totals_of` meets its contract: one entry of the tables.
use Rattle.fields.proofs.Told.{class_told}
use Rattle.fields.proofs.class_totals_of.Goals as goal

pub returns : goal.returns
returns c = λ tags marks.
    class_told _ c.args.class c.totals_of-told.result c.class_in.result (c.totals_of-told.ensures tags marks)
    c.class_in.ensures
