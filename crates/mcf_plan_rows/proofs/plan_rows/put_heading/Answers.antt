use Rattle.std.proofs.Common.{rules}
use Rattle.mcf_plan_rows.specs.PlanRows.{balance_rows, total_rows}
use Rattle.mcf_answer_rows.proofs.RowTexts.{two_put}
use Rattle.mcf_plan_rows.proofs.plan_rows.put_heading.Goals as goal

pub returns : goal.returns
returns c =
    two_put c.put_balance.result c.args.out.now.items c.put_totals.new.out.items c.put_balance.new.out.items
    (total_rows c.args.scales c.args.least.now) (balance_rows c.args.planner.now c.args.scales) (search rules) (search rules)
