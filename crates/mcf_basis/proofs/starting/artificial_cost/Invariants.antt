use Rattle.std.proofs.Common.{◌≡◌, ◌+◌, map, take}
use Rattle.std.specs.Prelude.{sum}
use Rattle.mcf_flows.specs.WellFormed.{weight}
use Rattle.mcf_basis.proofs.starting.artificial_cost.Given as goal

abbrev pub invariant-loop-i : goal.invariant-loop-i
invariant-loop-i l = l.total ≡ 1 + sum (map weight (take l.i l.net.arcs))
