use Rattle.std.proofs.Common.{◌∙◌, length, sym}
use Rattle.mcf_model.specs.Faults.{model_fault}
use Rattle.mcf_roster.proofs.ProperModels.{made_model, no_error}
use Rattle.mcf_groups.specs.Nests.{nest_in}
use Rattle.mcf_groups.proofs.Made.{few_grown, no_fault_grown, rows_grown, sound_grown, supplies_grown}
use Rattle.mcf_groups.proofs.Models.{makes_model, same_model}
use Rattle.mcf_groups.proofs.making.group_model.Goals as goal

pub rows_with-requires-clause-sound : goal.rows_with-requires-clause-sound
rows_with-requires-clause-sound c =
    sound_grown c.args.roster.now c.args.groups.now c.in_ok-nest.ensures.sound (nest_in c.in_ok-nest.nest) (nest_in c.grow.new.nest) c.new-links.result.items
    c.grow.new.rows.items c.in_ok-fault.field-0 c.in_ok-nest.ensures.value c.new-links.ensures.items c.in_default.is c.in_ok-fault.ensures

pub rows_with-requires-clause-few : goal.rows_with-requires-clause-few
rows_with-requires-clause-few c =
    few_grown c.args.roster.now c.args.groups.now c.in_ok-nest.ensures.sound (nest_in c.in_ok-nest.nest) (nest_in c.grow.new.nest) c.new-links.result.items
    c.grow.new.rows.items c.in_ok-fault.field-0 c.in_ok-nest.ensures.value c.new-links.ensures.items c.in_default.is c.in_ok-fault.ensures

pub unreachable-requires : goal.unreachable-requires
unreachable-requires c =
    let R = c.args.roster.now in
    let gs = c.args.groups.now in
    let S = nest_in c.in_ok-nest.nest in
    let T = nest_in c.grow.new.nest in
    let l = c.new-links.result.items in
    let m = c.grow.new.rows.items in
    no_error c.of.result c.in-Err.field-0 c.in-Err.is
    (c.of.ensures.proper.1
    (makes_model R c.in_ok-nest.ensures.sound gs c.in_ok-supplies.supplies.items c.new-steps.result.items c.in_ok-rows.rows.items
    (supplies_grown R gs c.in_ok-nest.ensures.sound S T l m c.in_ok-fault.field-0 c.in_ok-nest.ensures.value c.new-links.ensures.items c.in_default.is
    c.in_ok-fault.ensures c.in_ok-supplies.supplies.items c.in_ok-supplies.ensures.value)
    c.new-steps.ensures.items
    (rows_grown R gs c.in_ok-nest.ensures.sound S T l m c.in_ok-fault.field-0 c.in_ok-nest.ensures.value c.new-links.ensures.items c.in_default.is
    c.in_ok-fault.ensures c.in_ok-rows.rows.items c.deref.result.now c.deref.ensures.value c.in_ok-rows.ensures)))

pub returns-clause-value : goal.returns-clause-value
returns-clause-value c =
    let R = c.args.roster.now in
    let gs = c.args.groups.now in
    let S = nest_in c.in_ok-nest.nest in
    let T = nest_in c.grow.new.nest in
    let l = c.new-links.result.items in
    let m = c.grow.new.rows.items in (
      no_fault_grown R gs c.in_ok-nest.ensures.sound S T l m c.in_ok-fault.field-0 c.in_ok-nest.ensures.value c.new-links.ensures.items c.in_default.is
          c.in_ok-fault.ensures,
      made_model (model_fault (length c.in_ok-supplies.supplies.items) c.new-steps.result.items c.in_ok-rows.rows.items) _ c.in-Ok.model
          (sym c.of.ensures.exact ∙ c.in-Ok.is)
          ∙ same_model R c.in_ok-nest.ensures.sound gs c.in_ok-supplies.supplies.items c.new-steps.result.items c.in_ok-rows.rows.items
          (supplies_grown R gs c.in_ok-nest.ensures.sound S T l m c.in_ok-fault.field-0 c.in_ok-nest.ensures.value c.new-links.ensures.items c.in_default.is
          c.in_ok-fault.ensures c.in_ok-supplies.supplies.items c.in_ok-supplies.ensures.value)
          c.new-steps.ensures.items
          (rows_grown R gs c.in_ok-nest.ensures.sound S T l m c.in_ok-fault.field-0 c.in_ok-nest.ensures.value c.new-links.ensures.items c.in_default.is
          c.in_ok-fault.ensures c.in_ok-rows.rows.items c.deref.result.now c.deref.ensures.value c.in_ok-rows.ensures),
    )
