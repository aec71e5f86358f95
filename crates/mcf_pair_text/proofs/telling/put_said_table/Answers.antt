use Rattle.std.proofs.Common.{rules}
use Rattle.mcf_answer_rows.proofs.RowTexts.{two_put}
use Rattle.mcf_pair_text.specs.DoneRows.{done_rows}
use Rattle.mcf_pair_text.specs.PairTexts.{table_rows}
use Rattle.mcf_pair_text.proofs.telling.put_said_table.Goals as goal

pub returns : goal.returns
returns c =
    let said = c.args.said.now in
    two_put c.put_done.result c.args.out.now.items c.put_table_answer.new.out.items c.put_done.new.out.items
    (table_rows c.args.options said.rows said.answer) (done_rows said.rows said.done) (search rules) (search rules)
