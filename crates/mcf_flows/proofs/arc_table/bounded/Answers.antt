use Rattle.std.proofs.Common.{arith}
use Rattle.mcf_flows.proofs.arc_table.bounded.Goals as goal

pub bounds-unit-items-unit-index : goal.bounds-unit-items-unit-index
bounds-unit-items-unit-index c = c.loop-unit-test.true

pub push_reserved-requires : goal.push_reserved-requires
push_reserved-requires c = omega (arith, c.loop-unit-test.true, c.deref-unit-items.ensures.len, c.loop-unit.invariant.size, c.loop-unit.invariant.room)
