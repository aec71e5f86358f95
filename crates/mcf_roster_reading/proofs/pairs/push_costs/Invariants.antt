use Rattle.std.proofs.Common.{◌≡◌, ◌++◌, take}
use Rattle.std.specs.List.{flat_map}
use Rattle.mcf_roster_reading.specs.Pairs.{cost_fault}
use Rattle.mcf_roster_reading.proofs.pairs.push_costs.Given as goal

abbrev pub invariant-loop-pair : goal.invariant-loop-pair
invariant-loop-pair l = l.faults.items ≡ l.initial.faults.items ++ flat_map (cost_fault l.mark l.records) (take l.pair-index l.pairs)
