use Rattle.mcf_periods.proofs.ProperPeriods.{proper_periods_are_timely_lem}
use Rattle.mcf_periods.proofs.laws.proper_periods_are_timely.Goals as goal

pub returns : goal.returns
returns c = proper_periods_are_timely_lem
