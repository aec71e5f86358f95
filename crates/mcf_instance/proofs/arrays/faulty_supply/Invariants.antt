use Rattle.std.proofs.Common.{◌≡◌, None, take}
use Rattle.mcf_instance.specs.Arrays.{first_found, supply_fault}
use Rattle.mcf_flows.specs.Limits.{limits}
use Rattle.mcf_instance.proofs.arrays.faulty_supply.Given as goal

abbrev pub invariant-loop-place : goal.invariant-loop-place
invariant-loop-place l = first_found (supply_fault limits) (take l.place l.supplies) ≡ None
