use Rattle.std.proofs.Common.{rules}
use Rattle.mcf_answer_rows.proofs.RowTexts.{two_put}
use Rattle.mcf_pair_text.specs.GroupRows.{book_in}
use Rattle.mcf_pair_text.specs.GroupTexts.{chosen_groups}
use Rattle.mcf_pair_text.specs.PairRows.{choice_rows}
use Rattle.mcf_pair_text.proofs.group_telling.put_group_choice.Goals as goal

pub returns : goal.returns
returns c =
    let b = book_in c.args.tables in
    two_put c.put_group_counts.result c.args.out.now.items c.put_choice.new.out.items c.put_group_counts.new.out.items
    (choice_rows c.args.unit.maximise b.sheet b.said c.args.unit.scale c.args.found.now.choice)
    (chosen_groups b c.args.crossings.now c.args.found.now) (search rules) (search rules)
