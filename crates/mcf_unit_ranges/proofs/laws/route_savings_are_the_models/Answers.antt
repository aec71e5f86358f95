use Rattle.mcf_unit_ranges.proofs.PlannerLaws.{route_savings_lem}
use Rattle.mcf_unit_ranges.proofs.laws.route_savings_are_the_models.Goals as goal

pub returns : goal.returns
returns c = route_savings_lem c.planners_are_models.ensures
