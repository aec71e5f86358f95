use Rattle.std.proofs.Common.{rules, ◌≡◌, ◌∙◌, ap, to_z, of_z}
use Rattle.std.specs.Int.{w128}
use Rattle.mcf_roster.specs.Models.{choice_of}
use Rattle.mcf_roster.proofs.ToldAnswers.{planned_of}
use Rattle.mcf_groups.specs.GroupModels.{group_model}
use Rattle.mcf_groups.proofs.ToldAnswers.{best_group_choice}
use Rattle.mcf_groups.proofs.answering.from_model.Goals as goal

pub returns-in_ok-chosen-in-Plan : goal.returns-in_ok-chosen-in-Plan
returns-in_ok-chosen-in-Plan g c =
    let R = c.args.roster.now in
    let gs = c.args.groups.now in
    let found = c.in-Plan.found in
    let cost : to_z w128 (of_z w128 found.cost) ≡ found.cost = search rules in
    best_group_choice R gs c.requires.sound c.requires.fine found (record { chosen = c.in_ok-chosen-in-Plan.chosen; value = to_z w128 (of_z w128 found.cost) })
    (planned_of c.args.model.now (group_model R gs) c.in_ok-planned.planned _ c.requires.model c.in-Plan.is c.in_ok-planned.ensures.planned)
    (c.in_ok-chosen-in-Plan.ensures.value ∙ ap (choice_of R) c.deref.ensures.value) cost
