-- What persons, things and groups that compete add up to, by the numbers that are told of them.
-- Source: own, after AMO 6.7
use Rattle.std.specs.Prelude.{ℕ, ◌+◌, ◌<◌, if◌then◌else◌, List, [], ◌∷◌}
use Rattle.mcf_flows.specs.declared.problem.Side.{Side}
use Rattle.mcf_flows.specs.declared.problem.Side.TheVariants.{Send, Take}
use Rattle.mcf_groups.specs.declared.answering.GroupCompetition.{GroupCompetition}
use Rattle.mcf_groups.specs.declared.bounds.GroupBound.{GroupBound}
use Rattle.mcf_groups.specs.declared.groups.Group.{Group}
use Rattle.mcf_groups.specs.declared.telling.ToldGroups.{ToldGroups}
use Rattle.mcf_roster.specs.RosterFaults.{IsSoundRoster}
use Rattle.mcf_roster.specs.Rosters.{Roster}
use Rattle.mcf_roster.specs.ToldSums.{told_count, told_sum}
use Rattle.mcf_roster.specs.declared.told.Competition.{Competition}
use Rattle.mcf_groups.specs.GroupAnswers.{HasNoGroupChoice}
use Rattle.mcf_groups.specs.MarkedPlaces.{IsToldOf}

-- the leasts among what is told of groups, summed
abbrev pub leasts_told : List GroupBound → ℕ
leasts_told [] = 0
leasts_told (b ∷ bounds) = (if b.is_least then b.amount else 0) + leasts_told bounds

-- the mosts, summed
abbrev pub mosts_told : List GroupBound → ℕ
mosts_told [] = 0
mosts_told (b ∷ bounds) = (if b.is_least then 0 else b.amount) + mosts_told bounds

-- the leasts of those who must have more, with those of groups, are greater than the mosts of the
-- others, with those of groups and the number of the pairs that count one more
abbrev pub IsMoreWith : Competition → List GroupBound → Side → Type 0
IsMoreWith c bounds Send =
    ((told_sum c.things.items c.amounts.things.items + told_count c.amounts.pairs.items) + mosts_told bounds)
    < (told_sum c.persons.items c.amounts.persons.items + leasts_told bounds)
IsMoreWith c bounds Take =
    ((told_sum c.persons.items c.amounts.persons.items + told_count c.amounts.pairs.items) + mosts_told bounds)
    < (told_sum c.things.items c.amounts.things.items + leasts_told bounds)

-- so it is for each answer that there is no choice
abbrev pub GroupsAddToMore : Type 0
GroupsAddToMore =
    (R : Roster) (groups : List Group) (found : GroupCompetition) (made : ToldGroups) → IsSoundRoster R → HasNoGroupChoice R groups found
    → IsToldOf R groups found made → IsMoreWith made.found made.bounds.items made.found.side
