use Rattle.mcf_engine.proofs.PriceFloors.{greatest_are_small, small_within}
use Rattle.mcf_engine.proofs.laws.greatest_prices_are_small.Goals as goal

pub returns : goal.returns
returns c = λ s prices ok greatest. (
  greatest_are_small s prices ok greatest,
  small_within s.net prices ok.of_net (greatest_are_small s prices ok greatest),
)
