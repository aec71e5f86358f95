use Rattle.mcf_engine.proofs.NearLaws.{optimal_near}
use Rattle.mcf_engine.proofs.pricer.optimal_prices_are_near.Goals as goal

pub returns : goal.returns
returns c = optimal_near
