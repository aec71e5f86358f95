use Rattle.std.proofs.Common.{◌≡◌}
use Rattle.mcf_flows.specs.Flow.{AreGreatestPrices}
use Rattle.mcf_flows.specs.Network.{node_count}
use Rattle.mcf_bench.proofs.raising.raise_times.Given as goal

abbrev pub invariant-loop : goal.invariant-loop
invariant-loop l =
    (l.pricer ≡ node_count l.state.net) × AreGreatestPrices l.state.net l.prices l.state.amounts
