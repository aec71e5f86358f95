use Rattle.std.proofs.Common.{codes, map, rules}
use Rattle.mcf_answer_rows.proofs.RowTexts.{two_put}
use Rattle.mcf_pair_text.specs.GroupRows.{book_in, count_row}
use Rattle.mcf_pair_text.specs.GroupTexts.{crossings_told}
use Rattle.mcf_pair_text.proofs.group_telling.put_group_counts.Goals as goal

pub returns : goal.returns
returns c =
    let b = book_in c.args.tables in
    two_put c.put_crossing_counts.result c.args.out.now.items c.put_counts.new.out.items c.put_crossing_counts.new.out.items
    (map (count_row b (codes "group")) c.args.found.now.counts.items)
    (crossings_told b c.args.crossings.now c.args.found.now) (search rules) (search rules)
