use Rattle.std.proofs.Common.{rules}
use Rattle.mcf_answer_rows.proofs.RowTexts.{two_put}
use Rattle.mcf_pair_text.specs.GroupRows.{book_in}
use Rattle.mcf_pair_text.specs.GroupTexts.{competing_bounds}
use Rattle.mcf_pair_text.specs.PairRows.{competition_rows}
use Rattle.mcf_pair_text.proofs.group_telling.put_competing_groups.Goals as goal

pub returns : goal.returns
returns c =
    let b = book_in c.args.tables in
    two_put c.put_group_bounds.result c.args.out.now.items c.put_competition.new.out.items c.put_group_bounds.new.out.items
    (competition_rows b.sheet b.said c.args.found.now.found)
    (competing_bounds b c.args.crossings.now c.args.found.now) (search rules) (search rules)
