use Rattle.std.proofs.Common.{◌∙◌, sym}
use Rattle.mcf_reading.specs.ShownMarks.{number_cells}
use Rattle.mcf_reading.proofs.MarkLemmas.{settled_open}
use Rattle.mcf_reading.proofs.marks.settled_mark.Goals as goal

pub returns : goal.returns
returns c =
    c.settled_by.ensures
    ∙ settled_open c.args.named (number_cells c.args.places.now c.args.routes.now) c.in_ok-shown.shown (sym c.is_some.ensures ∙ c.if-is_some.false)
    c.in_ok-shown.ensures
