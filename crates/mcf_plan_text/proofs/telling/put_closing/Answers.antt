use Rattle.std.proofs.Common.{rules, ◌≡◌, ◌++◌, OnOk}
use Rattle.mcf_reading.specs.declared.locations.Table.TheVariants.{Places, Routes}
use Rattle.mcf_answer_rows.proofs.RowTexts.{headed_put, two_put}
use Rattle.mcf_answer_rows.specs.Lines.{rows_text}
use Rattle.mcf_answer_rows.specs.TableRows.{mark_row, repeated_rows}
use Rattle.mcf_plan_rows.specs.FaultRows.{table_word}
use Rattle.mcf_plan_text.proofs.telling.put_closing.Goals as goal

pub returns : goal.returns
returns c =
    let a = repeated_rows (table_word Places) c.args.two.places.now in
    let b = repeated_rows (table_word Routes) c.args.two.routes.now in
    let both : OnOk c.put_table-2.result (c.put_table-2.new.out.items ≡ c.put_mark.new.out.items ++ rows_text (a ++ b)) =
    two_put c.put_table-2.result c.put_mark.new.out.items c.put_table.new.out.items c.put_table-2.new.out.items a b (search rules) (search rules) in
    headed_put c.put_table-2.result c.args.out.now.items c.put_mark.new.out.items c.put_table-2.new.out.items (mark_row c.args.mark) (a ++ b) (search rules) both
