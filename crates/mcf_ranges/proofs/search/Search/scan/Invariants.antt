use Rattle.std.specs.Prelude.{length}
use Rattle.mcf_network.specs.Removal.{net_of}
use Rattle.mcf_ranges.proofs.Tasks.{IsScanning}
use Rattle.mcf_ranges.proofs.search.Search.scan.Given as goal

abbrev pub invariant-arcs : goal.invariant-arcs
invariant-arcs l = IsScanning l.fn.self (net_of l.fn.self.network) l.heap l.settled l.fn.v l.base l.leaving

abbrev pub decreases-arcs : goal.decreases-arcs
decreases-arcs l = length l.leaving
