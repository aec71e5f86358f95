use Rattle.std.proofs.Common.{◌≡◌, drop}
use Rattle.mcf_model.specs.Faults.{falls}
use Rattle.mcf_model.proofs.faults.falls.Given as goal

abbrev pub invariant-loop-place : goal.invariant-loop-place
invariant-loop-place l = falls (drop l.place l.own) l.last_cost ≡ falls l.own l.last_cost
