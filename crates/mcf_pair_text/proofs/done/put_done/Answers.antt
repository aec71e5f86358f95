use Rattle.std.proofs.Common.{rules}
use Rattle.mcf_answer_rows.proofs.RowTexts.{two_put}
use Rattle.mcf_answer_rows.specs.FormRows.{wish_rows}
use Rattle.mcf_pair_text.specs.DoneRows.{changed_rows}
use Rattle.mcf_pair_text.specs.PairFaultRows.{costs_word}
use Rattle.mcf_pair_text.proofs.done.put_done.Goals as goal

pub returns : goal.returns
returns c =
    let done = c.args.done.now in
    two_put c.put_changed.result c.args.out.now.items c.put_wishes.new.out.items c.put_changed.new.out.items
    (wish_rows costs_word done.wishes done.needs.items) (changed_rows c.args.rows.now done) (search rules) (search rules)
