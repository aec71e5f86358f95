use Rattle.std.proofs.Common.{◌+ℤ◌, ◌≤ℤ◌, take}
use Rattle.std.specs.List.{All}
use Rattle.mcf_flows.specs.Network.{at_node}
use Rattle.mcf_matching.specs.declared.rows.RowArc.{RowArc}
use Rattle.mcf_matching.proofs.judging.least_offer.Given as goal

abbrev pub invariant-arcs : goal.invariant-arcs
invariant-arcs l = All (λ (a : RowArc). l.least ≤ℤ (a.cost +ℤ at_node l.prices a.column)) (take l.a-index l.arcs)
