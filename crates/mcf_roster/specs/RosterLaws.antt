-- The laws between rosters and their models.
-- Source: own
use Rattle.std.specs.Prelude.{◌≡◌, ℕ, Bool, List, ℤ}
use Rattle.mcf_flows.specs.declared.problem.Side.{Side}
use Rattle.mcf_model.specs.Model.{IsLeastPlan, IsPlan, plan_cost}
use Rattle.mcf_roster.specs.Competitions.{IsCompetition}
use Rattle.mcf_roster.specs.Models.{choice_of, model_of, plan_of}
use Rattle.mcf_roster.specs.RosterFaults.{IsSoundRoster}
use Rattle.mcf_roster.specs.Rosters.{IsChoice, IsLeastChoice, Roster, value}

-- a plan of the model that stands for a choice
pub record IsPlanOf (R : Roster) (chosen : List Bool) (plan : List ℤ) : Type 0 where
  pub is_plan : IsPlan (model_of R) plan
  pub same_cost : plan_cost (model_of R) plan ≡ value R chosen
  pub back_again : choice_of R plan ≡ chosen

-- a choice that stands for a plan of the model
pub record IsChoiceOf (R : Roster) (plan : List ℤ) (chosen : List Bool) : Type 0 where
  pub is_choice : IsChoice R chosen
  pub same_value : value R chosen ≡ plan_cost (model_of R) plan
  pub back_again : plan_of R chosen ≡ plan

-- each choice is a plan of the model, at the same cost, and each plan of the model is a choice
pub record RostersAreModels : Type 0 where
  pub choices_are_plans : (R : Roster) (chosen : List Bool) → IsSoundRoster R → IsChoice R chosen → IsPlanOf R chosen (plan_of R chosen)
  pub plans_are_choices : (R : Roster) (plan : List ℤ) → IsSoundRoster R → IsPlan (model_of R) plan → IsChoiceOf R plan (choice_of R plan)

-- a least plan of the model is a least choice
abbrev pub LeastPlansAreLeastChoices : Type 0
LeastPlansAreLeastChoices =
    (R : Roster) (plan : List ℤ) → IsSoundRoster R → IsLeastPlan (model_of R) plan → IsLeastChoice R (choice_of R plan)

-- if some persons and things compete, there is no choice
abbrev pub CompetitionsHaveNoChoice : Type 0
CompetitionsHaveNoChoice =
    (R : Roster) (persons things : ℕ → Bool) (side : Side) (chosen : List Bool) → IsSoundRoster R
    → IsCompetition R persons things side → ¬ IsChoice R chosen
