use Rattle.std.proofs.Common.{◌≡◌, map, take}
use Rattle.mcf_places.specs.Shortage.{free_step}
use Rattle.mcf_places.proofs.shortage.free_steps.Given as goal

abbrev pub invariant-loop-place : goal.invariant-loop-place
invariant-loop-place l = l.made.items ≡ map free_step (take l.place l.steps)
