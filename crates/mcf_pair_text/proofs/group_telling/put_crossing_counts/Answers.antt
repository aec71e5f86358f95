use Rattle.std.proofs.Common.{codes, map, rules}
use Rattle.mcf_answer_rows.proofs.RowTexts.{two_put}
use Rattle.mcf_pair_text.specs.GroupRows.{book_in, count_row, crossing_row}
use Rattle.mcf_pair_text.proofs.group_telling.put_crossing_counts.Goals as goal

pub returns : goal.returns
returns c =
    let b = book_in c.args.tables in
    two_put c.put_counts.result c.args.out.now.items c.put_crossings.new.out.items c.put_counts.new.out.items
    (map (crossing_row b) c.args.crossings.now)
    (map (count_row b (codes "broken")) c.args.found.now.broken.items) (search rules) (search rules)
