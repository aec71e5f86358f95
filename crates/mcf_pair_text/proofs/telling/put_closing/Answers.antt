use Rattle.std.proofs.Common.{rules}
use Rattle.mcf_answer_rows.proofs.RowTexts.{headed_put}
use Rattle.mcf_answer_rows.specs.TableRows.{mark_row, repeated_rows}
use Rattle.mcf_pair_text.specs.PairFaultRows.{costs_word}
use Rattle.mcf_pair_text.proofs.telling.put_closing.Goals as goal

pub returns : goal.returns
returns c =
    headed_put c.put_table.result c.args.out.now.items c.put_mark.new.out.items c.put_table.new.out.items (mark_row c.args.mark)
    (repeated_rows costs_word c.args.page.records.now) (search rules) (search rules)
