use Rattle.std.proofs.Common.{rules, map}
use Rattle.mcf_answer_rows.proofs.RowTexts.{two_put}
use Rattle.mcf_answer_rows.specs.FormRows.{filled_row}
use Rattle.mcf_pair_text.specs.DoneRows.{done_rows}
use Rattle.mcf_pair_text.specs.GroupFaultRows.{groups_word}
use Rattle.mcf_pair_text.proofs.group_telling.put_both_done.Goals as goal

pub returns : goal.returns
returns c =
    let said = c.args.said.now in
    two_put c.put_filled.result c.args.out.now.items c.put_done.new.out.items c.put_filled.new.out.items
    (done_rows said.costs said.done) (map (filled_row groups_word said.groups) said.filled.items) (search rules) (search rules)
