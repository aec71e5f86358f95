use Rattle.std.proofs.Common.{◌≡◌, List, ℤ, ap, rules, subst, sym, ◌∙◌, lit<, to_z, of_z}
use Rattle.std.specs.List.{All}
use Rattle.std.specs.Int.{w128}
use Rattle.mcf_answer.specs.Ranges.{IsAmount, amount_limit}
use Rattle.mcf_checker.specs.Correct.{amounts, sent_ends}
use Rattle.mcf_flows.specs.Flow.{AreGreatestPrices, cost}
use Rattle.mcf_flows.specs.Network.{Network}
use Rattle.mcf_flows.proofs.Bounds.{read_back}
use Rattle.mcf_network.specs.Removal.{net_of}
use Rattle.mcf_network.specs.Restoring.{restored}
use Rattle.mcf_solver.proofs.LeastSolutions.{IsMadeOf, amounts_from_prices, is_right_and_least}
use Rattle.mcf_solver.proofs.flow.flow_answer.Goals as goal

pub invariant_of-result : goal.invariant_of-result
invariant_of-result c =
    let s = c.args.state.now in
    let net = sym c.requires.least.feasible.of_net in
    let greatest = subst (λ (g : Network). AreGreatestPrices g c.args.prices.items s.amounts) net c.requires.shown.greatest in
    let small = (c.greatest_prices_are_small.ensures s c.args.prices.items c.requires.least.feasible.flow greatest).1 in
    let prices : All IsAmount c.new-2.result = subst (λ (ys : List ℤ). All IsAmount ys) (sym c.new-2.ensures) (amounts_from_prices c.args.prices.items small) in
    search rules

pub returns-clause-solution : goal.returns-clause-solution
returns-clause-solution c =
    let g = c.args.instance.now in
    let s = c.args.state.now in
    let total = to_z w128 (of_z w128 c.in_ok-carried.carried.cost) in
    let carried : amounts c.new.result ≡ restored g.arcs s.amounts = ap amounts c.new.ensures ∙ c.in_ok-carried.ensures.flow in
    let made : IsMadeOf g s total c.new-2.result (amounts c.new.result) = record {
      restored_is = carried;
      greatest = subst (λ (prices : List ℤ). AreGreatestPrices (net_of g) prices s.amounts) (sym c.new-2.ensures) c.requires.shown.greatest;
      cost_is = read_back c.in_ok-carried.carried.cost amount_limit c.in_ok-carried.ensures.small (lit< tt)
          ∙ c.in_ok-carried.ensures.value
          ∙ ap (cost g.arcs) (sym carried);
    } in
    let both = is_right_and_least g s total c.new-2.result (amounts c.new.result) c.requires.least made c.restored_least_flows_are_least.ensures
    c.greatest_prices_carry_over.ensures c.carried_along.ensures.well_formed in
    record {
      right = record { same_ends = ap sent_ends c.new.ensures ∙ c.in_ok-carried.ensures.ends; right = both.right };
      least = both.least;
    }
