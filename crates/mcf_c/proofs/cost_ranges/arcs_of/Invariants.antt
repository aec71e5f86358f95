use Rattle.std.proofs.Common.{◌≡◌, take}
use Rattle.std.specs.List.{All}
use Rattle.mcf_flows.specs.Network.{IsArcNumber}
use Rattle.mcf_c.proofs.cost_ranges.arcs_of.Given as goal

abbrev pub invariant-loop-place : goal.invariant-loop-place
invariant-loop-place l = record {
  same : l.arcs.items ≡ take l.place l.numbers;
  are : All (IsArcNumber l.instance) (take l.place l.numbers);
}
