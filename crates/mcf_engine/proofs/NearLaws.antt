-- Prices that nearly show a flow: those that show it, and those of a flow that is 1-optimal at
-- costs times one more than the number of nodes.
use Rattle.std.proofs.Common.{arith}
use Rattle.std.proofs.lemmas.Int.{ints}
use Rattle.mcf_flows.proofs.IntLaws.{mul-one}
use Rattle.mcf_network.specs.Residual.{unit_cost}
use Rattle.mcf_engine.specs.NearPrices.{OptimalPricesAreNear, ShownPricesAreNear}
use Rattle.mcf_engine.proofs.Showing.{respects_from_shows}

pub shown_near : ShownPricesAreNear
shown_near s prices flow count small shown =
    record {
      one_per_node = count;
      small = small;
      scale_small = omega arith;
      slack_small = omega arith;
      near = λ r room.
          let respects = respects_from_shows s prices r.arc r.back flow shown room in
          omega (arith, ints, respects, mul-one (unit_cost s.net r));
    }

pub optimal_near : OptimalPricesAreNear
optimal_near s prices flow count small optimal =
    record {
      one_per_node = count;
      small = small;
      scale_small = let nodes = flow.of_net.nodes in omega (arith, nodes);
      slack_small = omega arith;
      near = optimal;
    }
