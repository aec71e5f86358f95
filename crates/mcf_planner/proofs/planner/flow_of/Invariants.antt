use Rattle.std.proofs.Common.{◌≡◌, take}
use Rattle.mcf_checker.specs.Correct.{amounts}
use Rattle.mcf_planner.proofs.planner.flow_of.Given as goal

abbrev pub invariant-loop-place : goal.invariant-loop-place
invariant-loop-place l = l.flow.items ≡ amounts (take l.place l.sent)
