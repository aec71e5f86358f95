use Rattle.std.proofs.Common.{◌∙◌, ap, length, pos, sym}
use Rattle.std.specs.Prelude.{replicate}
use Rattle.mcf_model.specs.Faults.{model_fault}
use Rattle.mcf_roster.proofs.ProperModels.{made_model, makes_model, no_error, same_model}
use Rattle.mcf_roster.proofs.RowSteps.{hub_is}
use Rattle.mcf_roster.proofs.making.model_of.Goals as goal

pub unreachable-requires : goal.unreachable-requires
unreachable-requires c =
    let R = c.args.roster.now in
    let hub = hub_is R c.takes.result.now c.needs.result.now c.hub_of-hub.result c.takes.ensures.value c.needs.ensures.value c.hub_of-hub.ensures in
    no_error c.of.result c.in-Err.field-0 c.in-Err.is
    (c.of.ensures.proper.1
    (makes_model R c.in_ok-supplies.supplies.items c.new-steps.result.items c.in_ok-rows.rows.items
    (c.in_ok-supplies.ensures.value ∙ ap (λ n. replicate n (pos 0)) hub) c.new-steps.ensures.items c.in_ok-rows.ensures c.takes.ensures.sound))

pub returns : goal.returns
returns c =
    let R = c.args.roster.now in
    let hub = hub_is R c.takes.result.now c.needs.result.now c.hub_of-hub.result c.takes.ensures.value c.needs.ensures.value c.hub_of-hub.ensures in
    made_model (model_fault (length c.in_ok-supplies.supplies.items) c.new-steps.result.items c.in_ok-rows.rows.items) _ c.in-Ok.model
    (sym c.of.ensures.exact ∙ c.in-Ok.is)
    ∙ same_model R c.in_ok-supplies.supplies.items c.new-steps.result.items c.in_ok-rows.rows.items
    (c.in_ok-supplies.ensures.value ∙ ap (λ n. replicate n (pos 0)) hub) c.new-steps.ensures.items c.in_ok-rows.ensures
