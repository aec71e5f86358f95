use Rattle.std.proofs.Common.{◌≡◌, List, ℤ, ap, rules, subst, sym, ◌∙◌, lit<, to_z, of_z}
use Rattle.std.specs.List.{All}
use Rattle.std.specs.Int.{w128}
use Rattle.mcf_answer.specs.Ranges.{IsAmount, amount_limit}
use Rattle.mcf_checker.specs.Correct.{spread}
use Rattle.mcf_flows.specs.Flow.{AreGreatestPrices, CanCarry, cost}
use Rattle.mcf_flows.specs.Network.{Network}
use Rattle.mcf_flows.proofs.AllZips.{length-AllZip}
use Rattle.mcf_flows.proofs.Bounds.{read_back}
use Rattle.mcf_network.specs.Removal.{net_of}
use Rattle.mcf_network.specs.Restoring.{restored}
use Rattle.mcf_solver.specs.Forms.{moved_of}
use Rattle.mcf_solver.specs.Private.MovedArcs.{AreMovedOf}
use Rattle.mcf_solver.proofs.LeastSolutions.{IsMadeOf, amounts_from_prices, is_right_and_least, restored_bounds}
use Rattle.mcf_solver.proofs.MovedLists.{spread_of_moved}
use Rattle.mcf_solver.proofs.sparse.sparse_answer.Goals as goal

pub invariant_of-result : goal.invariant_of-result
invariant_of-result c =
    let s = c.args.state.now in
    let net = sym c.requires.least.feasible.of_net in
    let greatest = subst (λ (g : Network). AreGreatestPrices g c.args.prices.items s.amounts) net c.requires.shown.greatest in
    let small = (c.greatest_prices_are_small.ensures s c.args.prices.items c.requires.least.feasible.flow greatest).1 in
    let prices : All IsAmount c.new-2.result = subst (λ (ys : List ℤ). All IsAmount ys) (sym c.new-2.ensures) (amounts_from_prices c.args.prices.items small) in
    let moved : AreMovedOf c.args.instance.now c.new.result = subst (AreMovedOf c.args.instance.now) (sym c.new.ensures) c.in_ok-stated.ensures.are_moved in
    let fit = moved.fit in
    let ascending = moved.ascending in
    search rules

pub returns-clause-restores : goal.returns-clause-restores
returns-clause-restores c =
    let g = c.args.instance.now in
    let flow = restored g.arcs c.args.state.now.amounts in
    let listed : c.new.result ≡ moved_of g.arcs flow = c.new.ensures ∙ c.in_ok-stated.ensures.moved in
    let each = length-AllZip CanCarry g.arcs flow
    (restored_bounds g c.args.state.now c.stated_along.ensures.well_formed c.requires.least.feasible) in
    let given : spread g.arcs c.new.result ≡ flow = ap (spread g.arcs) listed ∙ spread_of_moved g.arcs flow each in
    given

pub returns-clause-listed : goal.returns-clause-listed
returns-clause-listed c =
    let g = c.args.instance.now in
    let flow = restored g.arcs c.args.state.now.amounts in
    let listed : c.new.result ≡ moved_of g.arcs flow = c.new.ensures ∙ c.in_ok-stated.ensures.moved in
    let each = length-AllZip CanCarry g.arcs flow
    (restored_bounds g c.args.state.now c.stated_along.ensures.well_formed c.requires.least.feasible) in
    let given : spread g.arcs c.new.result ≡ flow = ap (spread g.arcs) listed ∙ spread_of_moved g.arcs flow each in
    listed ∙ ap (moved_of g.arcs) (sym given)

pub returns-clause-solution : goal.returns-clause-solution
returns-clause-solution c =
    let g = c.args.instance.now in
    let s = c.args.state.now in
    let flow = restored g.arcs s.amounts in
    let total = to_z w128 (of_z w128 c.in_ok-stated.stated.cost) in
    let listed : c.new.result ≡ moved_of g.arcs flow = c.new.ensures ∙ c.in_ok-stated.ensures.moved in
    let each = length-AllZip CanCarry g.arcs flow (restored_bounds g s c.stated_along.ensures.well_formed c.requires.least.feasible) in
    let given : spread g.arcs c.new.result ≡ flow = ap (spread g.arcs) listed ∙ spread_of_moved g.arcs flow each in
    let made : IsMadeOf g s total c.new-2.result (spread g.arcs c.new.result) = record {
      restored_is = given;
      greatest = subst (λ (prices : List ℤ). AreGreatestPrices (net_of g) prices s.amounts) (sym c.new-2.ensures) c.requires.shown.greatest;
      cost_is = read_back c.in_ok-stated.stated.cost amount_limit c.in_ok-stated.ensures.small (lit< tt)
          ∙ c.in_ok-stated.ensures.value
          ∙ ap (cost g.arcs) (sym given);
    } in
    let both = is_right_and_least g s total c.new-2.result (spread g.arcs c.new.result) c.requires.least made c.restored_least_flows_are_least.ensures
    c.greatest_prices_carry_over.ensures c.stated_along.ensures.well_formed in
    let moved : AreMovedOf g c.new.result = subst (AreMovedOf g) (sym c.new.ensures) c.in_ok-stated.ensures.are_moved in
    record {
      right = record { of_instance = moved.of_instance; right = both.right };
      least = both.least;
    }
