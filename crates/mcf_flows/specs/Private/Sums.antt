-- How far from 0 the sums over an instance lie.
use Rattle.std.specs.Prelude.{ℕ, ◌*◌}
use Rattle.mcf_flows.specs.Limits.{limits, node_limit, arc_limit}

-- a bound or a flow of each arc, summed
abbrev pub sum_limit : ℕ
sum_limit = arc_limit * limits.bound

-- the supplies of some nodes, summed
abbrev pub supply_sum_limit : ℕ
supply_sum_limit = node_limit * limits.supply
