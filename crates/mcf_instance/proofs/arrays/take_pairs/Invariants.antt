use Rattle.std.proofs.Common.{◌≡◌, Some, [], map, take}
use Rattle.mcf_instance.specs.Arrays.{arc_of_pair}
use Rattle.mcf_flows.specs.Network.{Network}
use Rattle.mcf_instance.specs.Private.ArrayStates.{HoldsArcs}
use Rattle.mcf_instance.proofs.arrays.take_pairs.Given as goal

abbrev pub invariant-loop-place : goal.invariant-loop-place
invariant-loop-place l = record {
  header : l.state.header ≡ Some l.header;
  taken : (g : Network) → g.arcs ≡ map (arc_of_pair l.rows) l.pairs → HoldsArcs g [] l.initial.state → HoldsArcs g (take l.place g.arcs) l.state;
}
