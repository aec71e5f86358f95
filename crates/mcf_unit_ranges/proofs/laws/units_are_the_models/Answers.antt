use Rattle.mcf_unit_ranges.proofs.PlannerLaws.{units_lem}
use Rattle.mcf_unit_ranges.proofs.laws.units_are_the_models.Goals as goal

pub returns : goal.returns
returns c = units_lem c.planners_are_models.ensures c.sound_planners_have_sound_models.ensures
