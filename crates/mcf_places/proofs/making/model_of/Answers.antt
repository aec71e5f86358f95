use Rattle.std.proofs.Common.{◌≡◌, rules, subst, sym, to_z, of_z, w64}
use Rattle.std.specs.Prelude.{IfOk}
use Rattle.mcf_places.specs.Models.{model_of}
use Rattle.mcf_places.specs.PlannerFaults.{HasLimits}
use Rattle.mcf_places.proofs.ProperLimits.{has_limits, limits_if_none, unlimited_same}
use Rattle.mcf_places.proofs.making.model_of.Goals as goal

pub limited_model_of-requires : goal.limited_model_of-requires
limited_model_of-requires c = subst HasLimits (sym c.in_ok-limited-in-Some.ensures) (has_limits c.args.planner.now c.limit_for.ensures.proper.bounded)

pub limited_model_of-requires-in-None : goal.limited_model_of-requires-in-None
limited_model_of-requires-in-None c = limits_if_none c.args.planner.now c.limit_for.ensures.proper (sym c.in-None.ensures.value)

pub returns-in-None : goal.returns-in-None
returns-in-None c =
    let P = c.args.planner.now in
    let kept : to_z w64 (of_z w64 c.args.most) ≡ c.args.most = search rules in
    subst (λ Q. IfOk c.limited_model_of-in-None.result (λ made. made ≡ model_of c.args.most Q)) (sym (unlimited_same P (sym c.in-None.ensures.value)))
    (subst (λ z. IfOk c.limited_model_of-in-None.result (λ made. made ≡ model_of z P)) kept c.limited_model_of-in-None.ensures)
