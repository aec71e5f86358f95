-- A net without nodes: a state of it is least, and has no prices.
use Rattle.std.proofs.Common.{◌≡◌, refl, sym, arith, []}
use Rattle.mcf_flows.specs.Flow.{AreGreatestPrices}
use Rattle.mcf_flows.specs.Network.{node_count}
use Rattle.mcf_network.specs.States.{IsFeasibleState, IsPseudoflow, Pseudoflow}
use Rattle.mcf_network.proofs.ArcLaws.{tail_is_node}
use Rattle.mcf_engine.specs.Outcomes.{AreStatePrices, IsLeastState}
use Rattle.mcf_engine.proofs.Showing.{shows_from_respects}
use Rattle.mcf_engine.proofs.StatePrices.{least_from_prices, state_prices}

module _ (s : Pseudoflow) (ok : IsPseudoflow s) (none : node_count s.net ≡ 0) where
  feasible : IsFeasibleState s.net s
  feasible = record { of_net = refl; flow = ok; no_surplus = λ v h. absurd (omega (arith, h, none)) }

  greatest : AreGreatestPrices s.net [] s.amounts
  greatest =
      record {
        low = record {
          one_per_node = sym none;
          not_above_zero = λ k d h. absurd (omega arith);
          show_flow = shows_from_respects s [] ok (λ r room.
              let node = tail_is_node s.net r.arc r.back ok.of_net room.arc in
              absurd (omega (arith, node, none)));
        };
        greatest = λ others low v h. absurd (omega (arith, h, none));
      }

  pub nodeless_least : IsLeastState s.net s
  nodeless_least = least_from_prices s.net s [] feasible greatest

  pub nodeless_prices : AreStatePrices s.net s []
  nodeless_prices = state_prices s.net s [] feasible greatest
