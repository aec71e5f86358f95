use Rattle.std.proofs.Common.{subst}
use Rattle.mcf_matching.specs.Extending.{IsShownMatching}
use Rattle.mcf_matching.proofs.Kept.{shown_kept}
use Rattle.mcf_matching.proofs.partial.Partial.settled.Goals as goal

pub returns-clause-shown : goal.returns-clause-shown
returns-clause-shown g c = subst IsShownMatching c.self.view_is (shown_kept c.self.invariant.0)
