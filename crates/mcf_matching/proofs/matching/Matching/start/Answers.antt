use Rattle.std.proofs.Common.{subst, sym}
use Rattle.mcf_matching.specs.Extending.{IsShownMatching}
use Rattle.mcf_matching.specs.Private.Cores.{assigned_in}
use Rattle.mcf_matching.proofs.Near.{is_wide}
use Rattle.mcf_matching.proofs.matching.Matching.start.Goals as goal
use Rattle.mcf_matching.proofs.matching.Matching.start.Goals.{then-is_narrow+in_ok-start, else-is_narrow+in_ok-start-2}

pub start-requires-else-is_narrow-clause-width : goal.start-requires-else-is_narrow-clause-width
start-requires-else-is_narrow-clause-width c = is_wide c.args.net.now c.greatest_cost-greatest.ensures.of_net

pub returns-clause-shown : goal.returns-clause-shown
returns-clause-shown c =
    elim c.if-is_narrow.branch [
      | then-is_narrow+in_ok-start w ↦ subst (λ x. IsShownMatching (assigned_in x)) (sym w.core-is) w.in_ok-start.ensures.shown
      | else-is_narrow+in_ok-start-2 w ↦ subst (λ x. IsShownMatching (assigned_in x)) (sym w.core-is) w.in_ok-start-2.ensures.shown
    ]
