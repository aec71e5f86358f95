use Rattle.std.proofs.Common.{rules, map}
use Rattle.mcf_answer_rows.proofs.RowTexts.{two_put}
use Rattle.mcf_answer_rows.specs.FormRows.{filled_row, left_out_rows}
use Rattle.mcf_pair_text.specs.PairFaultRows.{costs_word}
use Rattle.mcf_pair_text.proofs.done.put_changed.Goals as goal

pub returns : goal.returns
returns c =
    let done = c.args.done.now in
    two_put c.put_filled.result c.args.out.now.items c.put_told.new.out.items c.put_filled.new.out.items
    (left_out_rows costs_word done.total) (map (filled_row costs_word c.args.rows.now) done.filled.items) (search rules) (search rules)
