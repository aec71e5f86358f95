-- The flow that a least state of the net stands for.
use Rattle.std.proofs.Common.{◌≡◌, List, sym, ◌∙◌, ℤ, arith}
use Rattle.std.specs.List.{All, AllZip}
use Rattle.std.proofs.lemmas.Int.{ints}
use Rattle.mcf_answer.specs.Ranges.{IsAmount}
use Rattle.mcf_checker.specs.Correct.{IsRightFlow}
use Rattle.mcf_network.specs.States.{IsFeasibleState, Pseudoflow}
use Rattle.mcf_flows.specs.Flow.{AreGreatestPrices, CanCarry, IsWithinBounds, cost}
use Rattle.mcf_flows.specs.Limits.{limits}
use Rattle.mcf_flows.specs.Network.{Network}
use Rattle.mcf_flows.specs.WellFormed.{IsUpTo, IsWellFormed}
use Rattle.mcf_flows.proofs.AllZips.{length-AllZip}
use Rattle.mcf_network.specs.Laws.{GreatestPricesCarryOver, RestoredLeastFlowsAreLeast}
use Rattle.mcf_network.specs.Removal.{net_of}
use Rattle.mcf_network.specs.Restoring.{restored}
use Rattle.mcf_network.proofs.RestoringLaws.{net_of-arc_count, restored_all}
use Rattle.mcf_engine.specs.Outcomes.{IsLeastState}
use Rattle.mcf_engine.specs.SmallPrices.{price_limit}
use Rattle.mcf_solver.specs.Answering.{IsLeastFlow}
use Rattle.mcf_solver.specs.ChosenSolutions.{IsLoopAtBound}
use Rattle.mcf_solver.proofs.LoopFlows.{loops_at_bounds}

-- prices within their limit are amounts
pub amounts_from_prices : (prices : List ℤ) → All (IsUpTo price_limit) prices → All IsAmount prices
amounts_from_prices prices small k d h = let here = small k d h in (omega (arith, ints, here), omega (arith, ints, here))

-- the flow that a feasible state stands for keeps the bounds of its arcs
pub restored_bounds : (g : Network) (s : Pseudoflow) → IsWellFormed limits g → IsFeasibleState (net_of g) s → IsWithinBounds g.arcs (restored g.arcs s.amounts)
restored_bounds g s ok state = (restored_all g s ok state.of_net state.flow state.no_surplus).feasible.within_bounds

-- a flow of an instance with its cost and prices, made of a least state
pub record IsMadeOf (g : Network) (s : Pseudoflow) (total : ℤ) (prices flow : List ℤ) : Type 0 where
  pub restored_is : flow ≡ restored g.arcs s.amounts
  pub greatest : AreGreatestPrices (net_of g) prices s.amounts
  pub cost_is : total ≡ cost g.arcs flow

-- such a flow is right, and least
pub record IsRightAndLeast (g : Network) (total : ℤ) (prices flow : List ℤ) : Type 0 where
  pub right : IsRightFlow g total prices flow
  pub least : IsLeastFlow g prices flow

module _ (g : Network) (s : Pseudoflow) (total : ℤ) (prices flow : List ℤ) (state : IsLeastState (net_of g) s) (made : IsMadeOf g s total prices flow) where
  prices_of : GreatestPricesCarryOver → AreGreatestPrices g prices (restored g.arcs s.amounts)
  prices_of carry_over =
      (carry_over g prices s.amounts state.least.feasible).0 made.greatest

  loops_of : AllZip IsLoopAtBound g.arcs (restored g.arcs s.amounts)
  loops_of =
      loops_at_bounds g.arcs s.amounts (sym (net_of-arc_count g) ∙ length-AllZip CanCarry (net_of g).arcs s.amounts state.least.feasible.within_bounds)

  pub is_right_and_least : RestoredLeastFlowsAreLeast → GreatestPricesCarryOver → IsWellFormed limits g → IsRightAndLeast g total prices flow
  is_right_and_least stays_least carry_over ok =
      let least = stays_least g s.amounts (λ k d l. (ok.within.arcs k d l).ordered) state.least in
      let great = prices_of carry_over in
      record {
        right = record {
          one_price_each = great.low.one_per_node;
          feasible = rw made.restored_is least.feasible;
          shown = rw made.restored_is great.low.show_flow;
          cost_is = made.cost_is;
        };
        least = record {
          least = rw made.restored_is least;
          chosen = record {
            greatest = rw made.restored_is great;
            loops = rw made.restored_is loops_of;
          };
        };
      }
