use Rattle.std.proofs.Common.{rules, map}
use Rattle.mcf_answer_rows.proofs.RowTexts.{two_put}
use Rattle.mcf_plan_rows.specs.FaultRows.{tables_in}
use Rattle.mcf_period_text.specs.PeriodAnswerRows.{some_fault_rows}
use Rattle.mcf_period_text.specs.PeriodFaultRows.{period_fault_row}
use Rattle.mcf_period_text.proofs.answers.put_table_faults.Goals as goal

pub returns : goal.returns
returns c =
    let two = tables_in c.args.two in
    two_put c.put_period_faults.result c.args.out.now.items c.put_some_faults.new.out.items c.put_period_faults.new.out.items
    (some_fault_rows two c.args.faults.now.cells) (map (period_fault_row two) c.args.faults.now.periods.items) (search rules) (search rules)
