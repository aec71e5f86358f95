use Rattle.std.proofs.Common.{rules}
use Rattle.mcf_answer_rows.proofs.RowTexts.{headed_put}
use Rattle.mcf_answer_rows.specs.TableRows.{mark_row}
use Rattle.mcf_pair_text.specs.GroupTexts.{both_tables}
use Rattle.mcf_pair_text.proofs.group_telling.put_closing.Goals as goal

pub returns : goal.returns
returns c =
    headed_put c.put_tables.result c.args.out.now.items c.put_mark.new.out.items c.put_tables.new.out.items (mark_row c.args.mark)
    (both_tables c.args.costs.now c.args.groups.now) (search rules) (search rules)
