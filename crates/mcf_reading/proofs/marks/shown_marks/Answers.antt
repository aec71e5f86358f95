use Rattle.std.proofs.Common.{◌∙◌}
use Rattle.mcf_reading.specs.Private.Found.{none_shown}
use Rattle.mcf_reading.proofs.MarkLemmas.{both_tables}
use Rattle.mcf_reading.proofs.marks.shown_marks.Goals as goal

pub returns : goal.returns
returns c =
    both_tables none_shown c.with_table-shown.result c.with_table.result c.args.places.now c.args.routes.now c.deref.result.now c.deref-2.result.now
    c.with_table-shown.ensures c.with_table.ensures (c.deref.ensures.value ∙ c.in_ok-place_columns.ensures)
    (c.deref-2.ensures.value ∙ c.in_ok-route_columns.ensures)
