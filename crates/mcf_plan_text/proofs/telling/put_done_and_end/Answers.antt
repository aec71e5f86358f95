use Rattle.std.proofs.Common.{rules}
use Rattle.mcf_answer_rows.proofs.RowTexts.{two_put}
use Rattle.mcf_plan_text.specs.PlanTexts.{done_rows, end_rows}
use Rattle.mcf_plan_text.proofs.telling.put_done_and_end.Goals as goal

pub returns : goal.returns
returns c =
    two_put c.put_end.result c.args.out.now.items c.put_done.new.out.items c.put_end.new.out.items
    (done_rows c.args.said.now.done) (end_rows c.args.said.now) (search rules) (search rules)
