use Rattle.std.proofs.Common.{◌≡◌, ◌∙◌, ◌*ℤ◌, pos, ap, arith, rules, to_z, of_z}
use mir.Syntax.{w128}
use Rattle.std.proofs.lemmas.Int.{ints, to_z-of_z}
use Rattle.mcf_flows.specs.Network.{Network}
use Rattle.mcf_network.specs.Residual.{unit_cost}
use Rattle.mcf_engine.proofs.Showing.{cost_small}
use Rattle.mcf_engine.proofs.near_state.NearState.step.Goals as goal

pub scaled-requires-clause-cost : goal.scaled-requires-clause-cost
scaled-requires-clause-cost c =
    let is = c.unit_cost.ensures.value ∙ ap (λ (g : Network). unit_cost g c.args.r) c.net.ensures.value in
    let small = cost_small c.args.self.now.state.now.net c.args.r.arc c.args.r.back c.net.ensures.valid.of_net c.requires in
    let t : to_z w128 (of_z w128 c.unit_cost.result) ≡ c.unit_cost.result = search (rules, to_z-of_z) in
    (omega (arith, ints, is, small, t), omega (arith, ints, is, small, t))

pub returns-clause-value : goal.returns-clause-value
returns-clause-value c =
    let is = c.unit_cost.ensures.value ∙ ap (λ (g : Network). unit_cost g c.args.r) c.net.ensures.value in
    let t : to_z w128 (of_z w128 c.unit_cost.result) ≡ c.unit_cost.result = search (rules, to_z-of_z) in
    let value = c.scaled.ensures.value ∙ ap (λ x. x *ℤ pos c.args.self.now.scale) (t ∙ is) in
    let small = c.scaled.ensures.small in
    let slack = c.from.ensures in
    let fits = c.fits-self in
    let a : to_z w128 (of_z w128 c.scaled.result) ≡ c.scaled.result = search (rules, to_z-of_z) in
    let b : to_z w128 (of_z w128 c.from.result) ≡ c.from.result = search (rules, to_z-of_z) in
    rw (a, b) (omega (arith, ints, value, small, slack, fits))
