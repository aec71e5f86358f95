use Rattle.mcf_network.proofs.RestoringLaws.{greatest_prices_carry_over_lem}
use Rattle.mcf_network.proofs.laws.greatest_prices_carry_over.Goals as goal

pub returns : goal.returns
returns c = greatest_prices_carry_over_lem
