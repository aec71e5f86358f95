use Rattle.std.proofs.Common.{arith, get_or, pos, rules}
use Rattle.std.specs.Int.{w64, w128}
use Rattle.std.specs.Prelude.{FitsSigned}
use Rattle.std.proofs.lemmas.Int.{ints, to_z-of_z}
use Rattle.mcf_flows.specs.Blocking.{in_table}
use Rattle.mcf_flows.proofs.Bounds.{supply_up_to}
use Rattle.mcf_flows.proofs.NodeSums.{supply_next}
use Rattle.mcf_flows.proofs.blocking.supply_within.Goals as goal

pub add_when-total-requires-clause-total : goal.add_when-total-requires-clause-total
add_when-total-requires-clause-total c =
    let small = supply_up_to c.args.supplies.now (in_table c.args.table.now) c.loop-place.place c.requires.small c.requires.count (omega arith) in
    omega (arith, ints, small, c.loop-place.invariant)

pub returns-clause-small : goal.returns-clause-small
returns-clause-small c =
    let small = supply_up_to c.args.supplies.now (in_table c.args.table.now) c.loop-place.place c.requires.small c.requires.count (omega arith) in
    omega (arith, ints, small, c.loop-place.invariant)

pub loop-place-preserved : goal.loop-place-preserved
loop-place-preserved c =
    let total_fits : FitsSigned w128 c.add_when-total.result = search rules in
    let supply_fits : FitsSigned w64 (get_or c.args.supplies.now c.loop-place.place (pos 0)) = search rules in
    simp (supply_next, to_z-of_z) (simp (to_z-of_z, c.loop-place.invariant) at c.add_when-total.ensures)
