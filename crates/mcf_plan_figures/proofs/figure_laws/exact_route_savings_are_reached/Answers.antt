use Rattle.mcf_plan_figures.proofs.RouteRooms.{exact_route_savings_are_reached_lem}
use Rattle.mcf_plan_figures.proofs.figure_laws.exact_route_savings_are_reached.Goals as goal

pub returns : goal.returns
returns c = exact_route_savings_are_reached_lem c.planners_are_models.ensures c.sound_planners_have_sound_models.ensures c.exact_savings_are_reached.ensures
