use Rattle.std.proofs.Common.{◌≡◌, drop, pos, ◌+ℤ◌, ◌-ℤ◌}
use Rattle.mcf_model.specs.Model.{charge}
use Rattle.mcf_plan_ranges.proofs.units.unit_cost.Given as goal

abbrev pub invariant-loop-place : goal.invariant-loop-place
invariant-loop-place l =
    charge (drop l.place l.own) l.last_cost (l.rest +ℤ pos 1) -ℤ charge (drop l.place l.own) l.last_cost l.rest
    ≡ charge l.own l.last_cost (l.amount +ℤ pos 1) -ℤ charge l.own l.last_cost l.amount
