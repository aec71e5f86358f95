use Rattle.std.proofs.Common.{◌≡◌, take}
use Rattle.mcf_network.specs.Nets.{greatest_cost}
use Rattle.mcf_network.proofs.net.Net.greatest_cost.Given as goal

abbrev pub invariant-arcs : goal.invariant-arcs
invariant-arcs l = l.greatest ≡ greatest_cost (take l.number l.self.arcs)
