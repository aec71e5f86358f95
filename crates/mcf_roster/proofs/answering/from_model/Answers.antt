use Rattle.std.proofs.Common.{rules, ◌≡◌, ◌∙◌, ap, to_z, of_z}
use Rattle.std.specs.Int.{w128}
use Rattle.mcf_roster.specs.Models.{choice_of, model_of}
use Rattle.mcf_roster.proofs.ToldAnswers.{best_choice, found_places, no_choice, planned_of}
use Rattle.mcf_roster.proofs.answering.from_model.Goals as goal

pub returns-in-Plan : goal.returns-in-Plan
returns-in-Plan g c =
    let R = c.args.roster.now in
    let found = c.in-Plan.found in
    let cost : to_z w128 (of_z w128 found.cost) ≡ found.cost = search rules in
    best_choice R found (record { chosen = c.in_ok-chosen-in-Plan.chosen; value = to_z w128 (of_z w128 found.cost) }) c.requires.sound
    (planned_of c.in_ok-model.model (model_of R) c.in_ok-planned.planned _ c.in_ok-model.ensures c.in-Plan.is c.in_ok-planned.ensures.planned)
    (c.in_ok-chosen-in-Plan.ensures.value ∙ ap (choice_of R) c.deref.ensures.value) cost

pub told-requires : goal.told-requires
told-requires g c =
    let R = c.args.roster.now in
    record {
      nodes = found_places R c.in-NoPlan.found
          (planned_of c.in_ok-model.model (model_of R) c.in_ok-planned.planned _ c.in_ok-model.ensures c.in-NoPlan.is c.in_ok-planned.ensures.planned);
    }

pub returns-in-NoPlan : goal.returns-in-NoPlan
returns-in-NoPlan g c =
    let R = c.args.roster.now in
    no_choice R c.in-NoPlan.found c.in_ok-competition-in-NoPlan.competition c.requires.sound
    (planned_of c.in_ok-model.model (model_of R) c.in_ok-planned.planned _ c.in_ok-model.ensures c.in-NoPlan.is c.in_ok-planned.ensures.planned)
    c.in_ok-competition-in-NoPlan.ensures
