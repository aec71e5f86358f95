use Rattle.std.proofs.Common.{rules, ◌++◌}
use Rattle.mcf_answer_rows.proofs.RowTexts.{two_put}
use Rattle.mcf_plan_text.specs.PlanTexts.{done_rows, end_rows, said_tables, table_rows}
use Rattle.mcf_plan_text.proofs.telling.put_said.Goals as goal

pub returns : goal.returns
returns c =
    let said = c.args.said.now in
    two_put c.put_done_and_end.result c.args.out.now.items c.put_table_answer.new.out.items c.put_done_and_end.new.out.items
    (table_rows (said_tables said) said.answer) (done_rows said.done ++ end_rows said) (search rules) (search rules)
