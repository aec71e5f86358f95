use Rattle.std.proofs.Common.{rules, map}
use Rattle.mcf_answer_rows.proofs.RowTexts.{two_put}
use Rattle.mcf_answer_rows.specs.FormRows.{filled_row}
use Rattle.mcf_plan_rows.specs.FaultRows.{table_word, tables_in}
use Rattle.mcf_reading.specs.declared.locations.Table.TheVariants.{Places, Routes}
use Rattle.mcf_plan_text.proofs.telling.put_filled_columns.Goals as goal

pub returns : goal.returns
returns c =
    let two = tables_in c.args.two in
    let filled = c.args.filled.now in
    two_put c.put_filled-2.result c.args.out.now.items c.put_filled.new.out.items c.put_filled-2.new.out.items
    (map (filled_row (table_word Places) two.places) filled.places.items) (map (filled_row (table_word Routes) two.routes) filled.routes.items)
    (search rules) (search rules)
