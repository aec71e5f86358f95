use Rattle.std.proofs.Common.{◌≡◌, drop}
use Rattle.mcf_figures.specs.Private.Units.{unit_cost}
use Rattle.mcf_figures.proofs.loose.unit_cost.Given as goal

abbrev pub invariant-loop-place : goal.invariant-loop-place
invariant-loop-place l = unit_cost (drop l.place l.own) l.last_cost l.rest ≡ unit_cost l.own l.last_cost l.amount
