use Rattle.mcf_engine.proofs.NearLaws.{shown_near}
use Rattle.mcf_engine.proofs.pricer.shown_prices_are_near.Goals as goal

pub returns : goal.returns
returns c = shown_near
