use Rattle.mcf_places.proofs.Exchange.{planners_are_models_lem}
use Rattle.mcf_places.proofs.laws.planners_are_models.Goals as goal

pub returns : goal.returns
returns c = planners_are_models_lem
