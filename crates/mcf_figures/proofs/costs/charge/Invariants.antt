use Rattle.mcf_figures.proofs.StepCosts.{IsCharged}
use Rattle.mcf_figures.proofs.costs.charge.Given as goal

abbrev pub invariant-loop-place : goal.invariant-loop-place
invariant-loop-place l = IsCharged l.own l.last_cost l.amount l.place l.rest l.total
