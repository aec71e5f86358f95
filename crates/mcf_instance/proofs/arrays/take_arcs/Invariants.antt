use Rattle.std.proofs.Common.{◌≡◌, Some, [], map, take}
use Rattle.mcf_instance.specs.Arrays.{arc_of_numbers}
use Rattle.mcf_flows.specs.Network.{Network}
use Rattle.mcf_instance.specs.Private.ArrayStates.{HoldsArcs}
use Rattle.mcf_instance.proofs.arrays.take_arcs.Given as goal

abbrev pub invariant-loop-place : goal.invariant-loop-place
invariant-loop-place l = record {
  header : l.state.header ≡ Some l.header;
  taken : (g : Network) → g.arcs ≡ map arc_of_numbers l.arcs → HoldsArcs g [] l.initial.state → HoldsArcs g (take l.place g.arcs) l.state;
}
