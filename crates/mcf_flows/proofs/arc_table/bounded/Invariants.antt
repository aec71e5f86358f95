use Rattle.std.proofs.Common.{◌≡◌, ◌+◌, ◌≤◌, length, map, take, vec_capacity, vec_len}
use Rattle.mcf_flows.specs.Private.StoredArcs.{of_unit}
use Rattle.mcf_flows.proofs.arc_table.bounded.Given as goal

abbrev pub invariant-loop-unit : goal.invariant-loop-unit
invariant-loop-unit l = record {
  arcs : l.arcs.items ≡ map of_unit (take l.unit-index l.units.items);
  size : vec_len l.arcs ≡ l.unit-index;
  room : length l.units.items + 1 ≤ vec_capacity l.arcs;
}
