use Rattle.std.proofs.Common.{◌*◌}
use Rattle.mcf_flows.specs.Network.{node_count}
use Rattle.mcf_engine.specs.Respecting.{cost_limit}
use Rattle.mcf_cancel.specs.Private.Rounds.{IsReady}
use Rattle.mcf_cancel.proofs.Cycles.{height}
use Rattle.mcf_cancel.proofs.recovered.lower_all.Given as goal

abbrev pub invariant-rounds : goal.invariant-rounds
invariant-rounds l = IsReady l.fn.state l.search l.waiting l.fallen

abbrev pub decreases-rounds : goal.decreases-rounds
decreases-rounds l = height (cost_limit * node_count l.fn.state.net) l.search.prices
