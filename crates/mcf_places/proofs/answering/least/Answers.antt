use Rattle.std.proofs.Common.{subst, sym}
use Rattle.mcf_places.specs.PlannerFaults.{HasLimits}
use Rattle.mcf_places.proofs.LimitedCuts.{answers_limited}
use Rattle.mcf_places.proofs.ProperLimits.{has_limits, limits_if_none, unlimited_same}
use Rattle.mcf_places.proofs.answering.least.Goals as goal

pub staged-requires-clause-limits : goal.staged-requires-clause-limits
staged-requires-clause-limits g c = subst HasLimits (sym c.in_ok-limited-in-Some.ensures) (has_limits c.args.planner.now c.limit_for.ensures.proper.bounded)

pub staged-requires-in-None-clause-limits : goal.staged-requires-in-None-clause-limits
staged-requires-in-None-clause-limits g c = limits_if_none c.args.planner.now c.limit_for.ensures.proper (sym c.in-None.ensures.value)

pub returns-in_ok-limited-in-Some : goal.returns-in_ok-limited-in-Some
returns-in_ok-limited-in-Some g c =
    answers_limited c.args.planner.now c.in_ok-limited-in-Some.limited c.staged.result c.in_ok-limited-in-Some.ensures c.staged.ensures

pub returns-in-None : goal.returns-in-None
returns-in-None g c =
    answers_limited c.args.planner.now c.args.planner.now c.staged-in-None.result (sym (unlimited_same c.args.planner.now (sym c.in-None.ensures.value)))
    c.staged-in-None.ensures
