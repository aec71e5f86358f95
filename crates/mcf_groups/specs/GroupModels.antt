-- The model of a roster with groups: that of the roster, in which each group in turn splits places.
-- Source: own
use Rattle.std.specs.Prelude.{◌≡◌, Bool, List, [], ◌∷◌, ℤ, Some, None, Result, Ok, Err}
use Rattle.mcf_groups.specs.declared.faults.GroupFault.{GroupFault}
use Rattle.mcf_groups.specs.declared.groups.Group.{Group}
use Rattle.mcf_model.specs.Model.{Model}
use Rattle.mcf_roster.specs.Models.{model_of, plan_of}
use Rattle.mcf_roster.specs.Rosters.{Roster}
use Rattle.mcf_groups.specs.GroupFaults.{group_fault}
use Rattle.mcf_groups.specs.Nests.{Nest, after, split_of, start_of}
use Rattle.mcf_groups.specs.Splits.{split, split_plan}

-- a model after the splits of groups
abbrev pub split_by : Roster → Nest → List Group → Model → Model
split_by R S [] m = m
split_by R S (g ∷ groups) m = split_by R (after R S g) groups (split m (split_of R S g))

-- the model of a roster with groups
abbrev pub group_model : Roster → List Group → Model
group_model R groups = split_by R (start_of R) groups (model_of R)

-- a plan after the splits of groups
abbrev pub plan_by : Roster → Nest → List Group → List ℤ → List ℤ
plan_by R S [] plan = plan
plan_by R S (g ∷ groups) plan = plan_by R (after R S g) groups (split_plan (split_of R S g) plan)

-- the model's plan of a choice
abbrev pub group_plan : Roster → List Group → List Bool → List ℤ
group_plan R groups chosen = plan_by R (start_of R) groups (plan_of R chosen)

-- the model, or the first fault of the groups
abbrev pub IsModelOf : Roster → List Group → Result Model GroupFault → Type 0
IsModelOf R groups (Err fault) = group_fault R groups ≡ Some fault
IsModelOf R groups (Ok m) = (group_fault R groups ≡ None) × (m ≡ group_model R groups)
