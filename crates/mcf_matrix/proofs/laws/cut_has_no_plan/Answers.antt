use Rattle.mcf_matrix.proofs.CutDuality.{cut_has_no_plan_lem}
use Rattle.mcf_matrix.proofs.laws.cut_has_no_plan.Goals as goal

pub returns : goal.returns
returns c = cut_has_no_plan_lem
