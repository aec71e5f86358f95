use Rattle.mcf_range_text.proofs.PeriodRangeLaws.{told_ranges_lem}
use Rattle.mcf_range_text.proofs.laws.told_ranges_are_period_ranges.Goals as goal

pub returns : goal.returns
returns c = told_ranges_lem c.flat_ranges_are_period_ranges.ensures
