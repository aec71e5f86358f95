use Rattle.mcf_answer_rows.proofs.RowTexts.{two_put}
use Rattle.mcf_period_text.specs.TimedTables.{timed_in}
use Rattle.mcf_range_text.specs.PeriodRangeTexts.{departure_range_rows, keep_range_rows}
use Rattle.mcf_range_text.proofs.period_rows.put_all_over.Goals as goal

pub returns : goal.returns
returns c =
    let t = timed_in c.args.timed in
    two_put c.put_keep_ranges.result c.args.out.now.items c.put_departure_ranges.new.out.items c.put_keep_ranges.new.out.items
    (departure_range_rows t c.args.scales c.args.ranges.now) (keep_range_rows t c.args.scales c.args.ranges.now) c.in_ok-put_departure_ranges.ensures
    c.put_keep_ranges.ensures
