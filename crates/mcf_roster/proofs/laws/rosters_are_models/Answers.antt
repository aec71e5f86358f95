use Rattle.mcf_roster.proofs.Exchange.{rosters_are_models_lem}
use Rattle.mcf_roster.proofs.laws.rosters_are_models.Goals as goal

pub returns : goal.returns
returns c = rosters_are_models_lem
