use Rattle.mcf_matrix.proofs.MatchingDuality.{shown_matchings_cost_the_prices_lem}
use Rattle.mcf_matrix.proofs.laws.shown_matchings_cost_the_prices.Goals as goal

pub returns : goal.returns
returns c = shown_matchings_cost_the_prices_lem
