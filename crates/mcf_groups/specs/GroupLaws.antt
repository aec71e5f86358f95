-- The laws between rosters with groups and their models.
-- Source: own
use Rattle.std.specs.Prelude.{◌≡◌, Bool, List, ℤ, None}
use Rattle.mcf_groups.specs.declared.groups.Group.{Group}
use Rattle.mcf_model.specs.Model.{IsLeastPlan, IsPlan, plan_cost}
use Rattle.mcf_roster.specs.Models.{choice_of}
use Rattle.mcf_roster.specs.RosterFaults.{IsSoundRoster}
use Rattle.mcf_roster.specs.Rosters.{Roster, value}
use Rattle.mcf_groups.specs.GroupFaults.{group_fault}
use Rattle.mcf_groups.specs.GroupModels.{group_model, group_plan}
use Rattle.mcf_groups.specs.Groups.{IsGroupChoice, IsLeastGroupChoice}

-- a plan of the model that stands for a choice
pub record IsGroupPlanOf (R : Roster) (groups : List Group) (chosen : List Bool) (plan : List ℤ) : Type 0 where
  pub is_plan : IsPlan (group_model R groups) plan
  pub same_cost : plan_cost (group_model R groups) plan ≡ value R chosen

-- a choice that stands for a plan of the model
pub record IsGroupChoiceOf (R : Roster) (groups : List Group) (plan : List ℤ) (chosen : List Bool) : Type 0 where
  pub is_choice : IsGroupChoice R groups chosen
  pub same_value : value R chosen ≡ plan_cost (group_model R groups) plan

-- if groups have no fault, each choice is a plan of the model, at the same cost, and each plan of
-- the model is a choice
pub record GroupsAreModels : Type 0 where
  pub choices_are_plans : (R : Roster) (groups : List Group) (chosen : List Bool) → IsSoundRoster R → group_fault R groups ≡ None
      → IsGroupChoice R groups chosen → IsGroupPlanOf R groups chosen (group_plan R groups chosen)
  pub plans_are_choices : (R : Roster) (groups : List Group) (plan : List ℤ) → IsSoundRoster R → group_fault R groups ≡ None
      → IsPlan (group_model R groups) plan → IsGroupChoiceOf R groups plan (choice_of R plan)

-- a least plan of the model is a least choice
abbrev pub LeastPlansAreLeastGroupChoices : Type 0
LeastPlansAreLeastGroupChoices =
    (R : Roster) (groups : List Group) (plan : List ℤ) → IsSoundRoster R → group_fault R groups ≡ None
    → IsLeastPlan (group_model R groups) plan → IsLeastGroupChoice R groups (choice_of R plan)
