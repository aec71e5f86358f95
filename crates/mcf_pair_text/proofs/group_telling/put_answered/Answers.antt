use Rattle.std.proofs.Common.{rules}
use Rattle.mcf_answer_rows.proofs.RowTexts.{two_put}
use Rattle.mcf_pair_text.specs.GroupRows.{book_in}
use Rattle.mcf_pair_text.specs.GroupTexts.{closing_rows, grouped_rows}
use Rattle.mcf_pair_text.proofs.group_telling.put_answered.Goals as goal

pub returns : goal.returns
returns c =
    let b = book_in c.args.tables in
    two_put c.put_closing.result c.args.out.now.items c.put_grouped.new.out.items c.put_closing.new.out.items
    (grouped_rows c.args.maximise b c.args.answer.now)
    (closing_rows b.sheet.rows b.rows b.said.mark) (search rules) (search rules)
