use Rattle.std.proofs.Common.{◌≡◌, ◌++◌, drop, length, map, pos}
use Rattle.mcf_model.specs.Arcs.{arcs_of, plan_of}
use Rattle.mcf_model.specs.Tables.{route_of}
use Rattle.mcf_model.proofs.carried.amounts.Given as goal

abbrev pub invariant-loop-place : goal.invariant-loop-place
invariant-loop-place l = record {
  same : l.plan.items ++ plan_of (drop l.place (map (route_of l.steps) l.rows)) l.rest ≡ plan_of (map (route_of l.steps) l.rows) l.flow;
  long : length l.rest ≡ length (arcs_of (pos 0) (drop l.place (map (route_of l.steps) l.rows)));
}
