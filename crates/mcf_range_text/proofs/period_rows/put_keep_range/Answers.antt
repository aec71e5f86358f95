use Rattle.std.proofs.Common.{rules, ◌≡◌, ◌++◌, subst}
use Rattle.std.specs.Prelude.{OnOk}
use Rattle.mcf_answer_rows.specs.Lines.{row_line}
use Rattle.mcf_period_text.specs.TimedTables.{timed_in}
use Rattle.mcf_range_text.specs.PeriodRangeTexts.{keep_range_row}
use Rattle.mcf_range_text.proofs.ToldRows.{told_text}
use Rattle.mcf_range_text.proofs.period_rows.put_keep_range.Goals as goal

pub returns : goal.returns
returns c =
    let row = keep_range_row (timed_in c.args.timed) c.args.scales c.args.store in
    let put : OnOk c.put_line.result (c.put_line.new.out.items ≡ c.args.out.now.items ++ row_line (row c.in-Some.range)) = search rules in
    subst (λ text. OnOk c.put_line.result (c.put_line.new.out.items ≡ c.args.out.now.items ++ text)) (told_text row c.args.told c.in-Some.range c.in-Some.is) put
