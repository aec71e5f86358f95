use Rattle.std.proofs.Common.{rules}
use Rattle.mcf_answer_rows.proofs.RowTexts.{two_put}
use Rattle.mcf_pair_text.specs.GroupFaultRows.{broken_rows, groups_word}
use Rattle.mcf_pair_text.specs.PairFaultRows.{costs_word}
use Rattle.mcf_pair_text.proofs.group_telling.put_broken_both.Goals as goal

pub returns : goal.returns
returns c =
    two_put c.put_broken-2.result c.args.out.now.items c.put_broken.new.out.items c.put_broken-2.new.out.items
    (broken_rows costs_word c.args.broken.costs)
    (broken_rows groups_word c.args.broken.groups) (search rules) (search rules)
