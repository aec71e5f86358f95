use Rattle.mcf_range_text.proofs.PeriodRangeLaws.{flat_ranges_lem}
use Rattle.mcf_range_text.proofs.laws.flat_ranges_are_period_ranges.Goals as goal

pub returns : goal.returns
returns c = flat_ranges_lem c.period_plans_are_flat.ensures c.least_flat_plans_are_least.ensures
