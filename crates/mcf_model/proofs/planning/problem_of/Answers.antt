use Rattle.std.proofs.Common.{rules, ◌≡◌, ◌≤◌, ◌∙◌, ap, arith, length, to_z, of_z, refl}
use Rattle.std.specs.Int.{int_min, w64, w128}
use Rattle.std.proofs.lemmas.Int.{ints}
use Rattle.mcf_instance.specs.Arrays.{flow_problem}
use Rattle.mcf_model.specs.Arcs.{reach_of}
use Rattle.mcf_model.specs.Planning.{beyond_bounds}
use Rattle.mcf_model.proofs.Capped.{each_capped}
use Rattle.mcf_model.proofs.Planners.{has_places, made_network, on_err}
use Rattle.mcf_model.proofs.Unlimited.{reach_above_zero}
use Rattle.mcf_model.proofs.planning.problem_of.Goals as goal

pub cap_of-reach-requires : goal.cap_of-reach-requires
cap_of-reach-requires c =
    let read : to_z w128 (of_z w128 c.reach_of.result) ≡ c.reach_of.result = search rules in
    omega (arith, ints, read, c.reach_of.ensures, reach_above_zero c.args.model.now)

pub returns-in_err-arcs-clause-wants : goal.returns-in_err-arcs-clause-wants
returns-in_err-arcs-clause-wants c =
    on_err c.from_residual.result (1 ≤ length c.args.model.now.supplies) (has_places c.args.model.now c.supplies-supplies.ensures.proper c.in_err-arcs.ensures.wants)

pub returns-clause-value : goal.returns-clause-value
returns-clause-value c =
    let m = c.args.model.now in
    let cap = to_z w64 (of_z w64 c.cap_of-reach.result) in
    let read : to_z w128 (of_z w128 c.reach_of.result) ≡ c.reach_of.result = search rules in
    let kept : cap ≡ c.cap_of-reach.result = search rules in
    let low : cap ≡ int_min (reach_of m) beyond_bounds =
    kept ∙ c.cap_of-reach.ensures ∙ ap (λ z. int_min z beyond_bounds) (read ∙ c.reach_of.ensures) in
    each_capped m cap (reach_of m) (flow_problem c.supplies-supplies.result.now c.deref.result.now) c.flow_problem.result low
    (made_network m cap m.supplies c.supplies-supplies.result.now c.in_ok-arcs.arcs.items c.deref.result.now c.supplies-supplies.ensures.value refl
    c.deref.ensures.value c.in_ok-arcs.ensures.value) c.flow_problem.ensures.exact c.flow_problem.ensures.well_formed
