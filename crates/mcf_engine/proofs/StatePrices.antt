-- Greatest prices of a state without surplus: it is least, and they are small.
use Rattle.std.proofs.Common.{List, ℤ, subst}
use Rattle.mcf_flows.specs.Flow.{AreGreatestPrices, IsLeast}
use Rattle.mcf_flows.specs.Network.{Network}
use Rattle.mcf_flows.proofs.Duality.{shown_flows_are_least_lem}
use Rattle.mcf_network.specs.States.{IsFeasibleState, Pseudoflow}
use Rattle.mcf_network.proofs.StuckLaws.{feasible_of_state}
use Rattle.mcf_engine.specs.Outcomes.{AreStatePrices, IsLeastState}
use Rattle.mcf_engine.specs.SmallPrices.{AreSmallPrices}
use Rattle.mcf_engine.proofs.PriceFloors.{greatest_are_small}

-- prices that show the amounts of a state without surplus
pub least_from_prices : (g : Network) (s : Pseudoflow) (ys : List ℤ) → IsFeasibleState g s → AreGreatestPrices s.net ys s.amounts → IsLeastState g s
least_from_prices g s ys ok prices =
    record {
      feasible = ok;
      least = subst (λ n. IsLeast n s.amounts) ok.of_net (shown_flows_are_least_lem s.net ys s.amounts ok.flow.of_net.ends
          (feasible_of_state s ok.flow ok.no_surplus) prices.low.show_flow);
    }

pub state_prices : (g : Network) (s : Pseudoflow) (ys : List ℤ) → IsFeasibleState g s → AreGreatestPrices s.net ys s.amounts → AreStatePrices g s ys
state_prices g s ys ok greatest =
    record {
      greatest = subst (λ n. AreGreatestPrices n ys s.amounts) ok.of_net greatest;
      small = subst (λ n. AreSmallPrices n ys) ok.of_net (greatest_are_small s ys ok.flow greatest);
    }
