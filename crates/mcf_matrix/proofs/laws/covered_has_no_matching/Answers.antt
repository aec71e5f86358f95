use Rattle.mcf_matrix.proofs.CoverDuality.{covered_has_no_matching_lem}
use Rattle.mcf_matrix.proofs.laws.covered_has_no_matching.Goals as goal

pub returns : goal.returns
returns c = covered_has_no_matching_lem
