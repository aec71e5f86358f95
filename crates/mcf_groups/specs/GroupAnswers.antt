-- The answers for a roster with groups.
-- Source: own
use Rattle.std.specs.Prelude.{◌≡◌, Bool, false, List, length, Some, None, Result, Ok, Err}
use Rattle.mcf_flows.specs.Blocking.{in_table}
use Rattle.mcf_flows.specs.Limits.{limits}
use Rattle.mcf_instance.specs.Arrays.{array_fault}
use Rattle.mcf_groups.specs.declared.answering.GroupAnswer.{GroupAnswer}
use Rattle.mcf_groups.specs.declared.answering.GroupAnswer.TheVariants.{Least, NoChoice, Beyond}
use Rattle.mcf_groups.specs.declared.answering.GroupCompetition.{GroupCompetition}
use Rattle.mcf_groups.specs.declared.faults.GroupFault.{GroupFault}
use Rattle.mcf_groups.specs.declared.groups.Group.{Group}
use Rattle.mcf_model.specs.Arcs.{network_of, reach_of}
use Rattle.mcf_model.specs.Bottlenecks.{IsBottleneck}
use Rattle.mcf_roster.specs.declared.answering.LeastChoice.{LeastChoice}
use Rattle.mcf_roster.specs.Models.{hub_of}
use Rattle.mcf_roster.specs.Rosters.{Roster, value}
use Rattle.mcf_groups.specs.GroupFaults.{group_fault}
use Rattle.mcf_groups.specs.GroupModels.{group_model}
use Rattle.mcf_groups.specs.Groups.{IsGroupChoice, IsLeastGroupChoice}

-- a least choice that keeps to all groups, and what it costs
pub record IsBestGroupChoice (R : Roster) (groups : List Group) (c : LeastChoice) : Type 0 where
  pub least : IsLeastGroupChoice R groups c.chosen.items
  pub value_is : c.value ≡ value R c.chosen.items

-- marked places of the model, without the hub, that must send, or take, more than they can, and so
-- no choice
pub record HasNoGroupChoice (R : Roster) (groups : List Group) (c : GroupCompetition) : Type 0 where
  pub without_hub : in_table c.places.items (hub_of R) ≡ false
  pub one_by_place : length c.places.items ≡ length (group_model R groups).supplies
  pub is_bottleneck : IsBottleneck (group_model R groups) (in_table c.places.items) c.side
  pub none : (chosen : List Bool) → ¬ IsGroupChoice R groups chosen

-- a least choice; or places that are a bottleneck; or the first number beyond the limits
abbrev pub IsGroupAnswer : Roster → List Group → GroupAnswer → Type 0
IsGroupAnswer R groups (Least c) = IsBestGroupChoice R groups c
IsGroupAnswer R groups (NoChoice c) = HasNoGroupChoice R groups c
IsGroupAnswer R groups (Beyond fault) =
    array_fault limits (network_of (reach_of (group_model R groups)) (group_model R groups)) ≡ Some fault

-- the answer, or the first fault of the groups
abbrev pub IsGroupResult : Roster → List Group → Result GroupAnswer GroupFault → Type 0
IsGroupResult R groups (Err fault) = group_fault R groups ≡ Some fault
IsGroupResult R groups (Ok answer) = (group_fault R groups ≡ None) × IsGroupAnswer R groups answer
