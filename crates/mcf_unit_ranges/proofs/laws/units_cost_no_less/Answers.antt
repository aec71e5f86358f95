use Rattle.mcf_unit_ranges.proofs.Holding.{units_cost_no_less_lem}
use Rattle.mcf_unit_ranges.proofs.laws.units_cost_no_less.Goals as goal

pub returns : goal.returns
returns c = units_cost_no_less_lem
