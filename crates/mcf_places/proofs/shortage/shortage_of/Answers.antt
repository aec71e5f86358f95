use Rattle.mcf_places.proofs.Shortages.{makes_shortage, same_shortage}
use Rattle.mcf_places.proofs.shortage.shortage_of.Goals as goal

pub invariant_of-result : goal.invariant_of-result
invariant_of-result c =
    let parts = c.parts-parts.result in
    makes_shortage c.args.planner.now parts.places.now c.in_ok-places.places.items parts.steps.now c.in_ok-steps.steps.items parts.rows.now
    c.in_ok-rows.rows.items parts.returning.now c.in_ok-returning.returning.items parts.policy c.counting-policy.result c.parts-parts.ensures.places c.parts-parts.ensures.routes c.parts-parts.ensures.returning c.parts-parts.ensures.policy
    c.in_ok-places.ensures c.in_ok-steps.ensures c.in_ok-rows.ensures c.in_ok-returning.ensures c.counting-policy.ensures c.parts-parts.ensures.proper c.parts-parts.ensures.listed

pub returns : goal.returns
returns c =
    let parts = c.parts-parts.result in
    same_shortage c.args.planner.now parts.places.now c.in_ok-places.places.items parts.steps.now c.in_ok-steps.steps.items parts.rows.now
    c.in_ok-rows.rows.items parts.returning.now c.in_ok-returning.returning.items parts.policy c.counting-policy.result c.parts-parts.ensures.places c.parts-parts.ensures.routes c.parts-parts.ensures.returning c.parts-parts.ensures.policy
    c.in_ok-places.ensures c.in_ok-steps.ensures c.in_ok-rows.ensures c.in_ok-returning.ensures c.counting-policy.ensures
