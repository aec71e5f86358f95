use Rattle.std.proofs.Common.{rules}
use Rattle.mcf_answer_rows.proofs.RowTexts.{two_put}
use Rattle.mcf_answer_rows.specs.FormRows.{left_out_rows}
use Rattle.mcf_plan_rows.specs.FaultRows.{table_word}
use Rattle.mcf_reading.specs.declared.locations.Table.TheVariants.{Places, Routes}
use Rattle.mcf_plan_text.proofs.telling.put_totals.Goals as goal

pub returns : goal.returns
returns c =
    two_put c.put_told-2.result c.args.out.now.items c.put_told.new.out.items c.put_told-2.new.out.items
    (left_out_rows (table_word Places) c.args.done.place_total) (left_out_rows (table_word Routes) c.args.done.route_total)
    (search rules) (search rules)
