use Rattle.std.proofs.Common.{rules}
use Rattle.mcf_answer_rows.proofs.RowTexts.{two_put}
use Rattle.mcf_answer_rows.specs.TableRows.{repeated_rows}
use Rattle.mcf_pair_text.specs.GroupFaultRows.{groups_word}
use Rattle.mcf_pair_text.specs.PairFaultRows.{costs_word}
use Rattle.mcf_pair_text.proofs.group_telling.put_tables.Goals as goal

pub returns : goal.returns
returns c =
    two_put c.put_table-2.result c.args.out.now.items c.put_table.new.out.items c.put_table-2.new.out.items
    (repeated_rows costs_word c.args.costs.now)
    (repeated_rows groups_word c.args.groups.now) (search rules) (search rules)
