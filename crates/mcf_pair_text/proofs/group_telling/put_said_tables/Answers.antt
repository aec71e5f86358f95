use Rattle.std.proofs.Common.{rules}
use Rattle.mcf_answer_rows.proofs.RowTexts.{two_put}
use Rattle.mcf_pair_text.specs.GroupTexts.{both_done, table_rows}
use Rattle.mcf_pair_text.proofs.group_telling.put_said_tables.Goals as goal

pub returns : goal.returns
returns c =
    let said = c.args.said.now in
    two_put c.put_both_done.result c.args.out.now.items c.put_table_answer.new.out.items c.put_both_done.new.out.items
    (table_rows c.args.options said.costs said.groups said.answer) (both_done said) (search rules) (search rules)
