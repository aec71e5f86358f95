use Rattle.std.proofs.Common.{rules}
use Rattle.mcf_answer_rows.proofs.RowTexts.{two_put}
use Rattle.mcf_plan_text.specs.PlanTexts.{closing_rows, filled_rows, said_tables, table_mark}
use Rattle.mcf_plan_text.proofs.telling.put_end.Goals as goal

pub returns : goal.returns
returns c =
    let said = c.args.said.now in
    two_put c.put_closing.result c.args.out.now.items c.put_filled_columns.new.out.items c.put_closing.new.out.items
    (filled_rows (said_tables said) said.filled) (closing_rows (said_tables said) (table_mark said.answer)) (search rules) (search rules)
