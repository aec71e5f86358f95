use Rattle.std.proofs.Common.{rules}
use Rattle.mcf_answer_rows.proofs.RowTexts.{two_put}
use Rattle.mcf_pair_text.specs.PairPlaces.{sheet_in}
use Rattle.mcf_pair_text.specs.PairTexts.{closing_rows, said_rows}
use Rattle.mcf_pair_text.proofs.telling.put_answered.Goals as goal

pub returns : goal.returns
returns c =
    let s = sheet_in c.args.page in
    let said = c.args.table.now in
    two_put c.put_closing.result c.args.out.now.items c.put_said.new.out.items c.put_closing.new.out.items
    (said_rows c.args.maximise s said c.args.answer.now) (closing_rows s said.mark) (search rules) (search rules)
