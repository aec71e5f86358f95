use Rattle.std.proofs.Common.{map, rules}
use Rattle.mcf_answer_rows.proofs.RowTexts.{two_put}
use Rattle.mcf_pair_text.specs.GroupRows.{book_in, bound_row, crossing_row}
use Rattle.mcf_pair_text.proofs.group_telling.put_group_bounds.Goals as goal

pub returns : goal.returns
returns c =
    let b = book_in c.args.tables in
    two_put c.put_crossings.result c.args.out.now.items c.put_bounds.new.out.items c.put_crossings.new.out.items
    (map (bound_row b) c.args.found.now.bounds.items)
    (map (crossing_row b) c.args.crossings.now) (search rules) (search rules)
