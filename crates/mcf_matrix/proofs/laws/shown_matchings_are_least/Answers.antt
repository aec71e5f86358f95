use Rattle.mcf_matrix.proofs.MatchingDuality.{shown_matchings_are_least_lem}
use Rattle.mcf_matrix.proofs.laws.shown_matchings_are_least.Goals as goal

pub returns : goal.returns
returns c = shown_matchings_are_least_lem
