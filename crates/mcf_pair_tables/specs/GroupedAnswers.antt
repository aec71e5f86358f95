-- The answer to a table of persons and things and a table of groups. No network is named here but
-- that of a number beyond the limits.
-- Source: own
use Rattle.std.specs.Prelude.{◌≡◌, ℕ, ◌-◌, Bool, true, false, not, ◌==◌, List, [], ◌∷◌, codes, length, map, slice_index_or, Option, Some, None, Ok, Err}
use Rattle.mcf_flow_tables.specs.TableTexts.{IsBrokenText, IsTableOf}
use Rattle.mcf_group_reading.specs.GroupReading.{Entries as Groups, read_groups}
use Rattle.mcf_group_reading.specs.GroupRows.{Rosters}
use Rattle.mcf_groups.specs.Counts.{broken_of, counts_of}
use Rattle.mcf_groups.specs.GroupAnswers.{HasNoGroupChoice, IsBestGroupChoice, IsGroupAnswer}
use Rattle.mcf_groups.specs.GroupFaults.{group_fault}
use Rattle.mcf_groups.specs.MarkedPlaces.{IsToldOf}
use Rattle.mcf_groups.specs.declared.answering.GroupAnswer.TheVariants.{Beyond as BeyondLimits}
use Rattle.mcf_groups.specs.declared.answering.GroupCompetition.{GroupCompetition}
use Rattle.mcf_groups.specs.declared.bounds.GroupBound.{GroupBound}
use Rattle.mcf_groups.specs.declared.faults.GroupFault.{GroupFault}
use Rattle.mcf_groups.specs.declared.ordering.Crossing.{Crossing}
use Rattle.mcf_groups.specs.declared.telling.ToldGroups.{ToldGroups}
use Rattle.mcf_roster.specs.Origins.{origin_of}
use Rattle.mcf_roster.specs.RosterFaults.{IsSoundRoster}
use Rattle.mcf_roster.specs.Rosters.{Roster}
use Rattle.mcf_roster_reading.specs.Reading.{Entries, read_roster}
use Rattle.mcf_table.specs.Texts.{Record}
use Rattle.mcf_pair_tables.specs.GroupSets.{AreSetsOf}
use Rattle.mcf_pair_tables.specs.PairAnswers.{great_in}
use Rattle.mcf_pair_tables.specs.PairCosts.{scale_of_pairs}
use Rattle.mcf_pair_tables.specs.PairRosters.{made_in}
use Rattle.mcf_pair_tables.specs.declared.group_options.AtCrossing.{AtCrossing}
use Rattle.mcf_pair_tables.specs.declared.group_options.AtCrossing.TheVariants.{Check, Refuse}
use Rattle.mcf_pair_tables.specs.declared.group_sets.GroupSets.{GroupSets}
use Rattle.mcf_pair_tables.specs.declared.grouped.Asked.{Asked}
use Rattle.mcf_pair_tables.specs.declared.grouped.ChosenGroups.{ChosenGroups}
use Rattle.mcf_pair_tables.specs.declared.grouped.CompetingGroups.{CompetingGroups}
use Rattle.mcf_pair_tables.specs.declared.grouped.GroupTableAnswer.{GroupTableAnswer}
use Rattle.mcf_pair_tables.specs.declared.grouped.GroupTableAnswer.TheVariants.{Choice, Faults, GroupFaults}
use Rattle.mcf_pair_tables.specs.declared.grouped.GroupedChoice.{GroupedChoice}
use Rattle.mcf_pair_tables.specs.declared.grouped.GroupedChoice.TheVariants.{Grouped, Improper, TooGreat}
use Rattle.mcf_pair_tables.specs.declared.grouped.GroupedRoster.{GroupedRoster}
use Rattle.mcf_pair_tables.specs.declared.grouped.SetsAnswer.{SetsAnswer}
use Rattle.mcf_pair_tables.specs.declared.grouped.SetsAnswer.TheVariants as sets
use Rattle.mcf_pair_tables.specs.declared.grouped.SolvedGroups.{SolvedGroups}
use Rattle.mcf_pair_tables.specs.declared.grouped.SolvedGroups.TheVariants.{Beyond, Least, NoChoice}

-- ---- the groups that are kept

-- the number at a place, from 1; 0 beyond the end
abbrev pub number_at : List ℕ → ℕ → ℕ
number_at numbers place = slice_index_or numbers (place - 1) 0

-- what counts of a group, by the number of the group in the table, where these groups are kept
abbrev pub named_bound : List ℕ → GroupBound → GroupBound
named_bound kept b = record { group = number_at kept b.group; owner = b.owner; is_least = b.is_least; amount = b.amount }

-- all of that
abbrev pub named_bounds : List ℕ → List GroupBound → List GroupBound
named_bounds kept bounds = map (named_bound kept) bounds

-- the fault of a group by its number in the table
abbrev pub named_fault : List ℕ → GroupFault → GroupFault
named_fault kept fault = record { group = number_at kept fault.group; what = fault.what }

-- a least choice that keeps to the groups that are kept; for each group of the table how many
-- members each has; and for each that is left out who has too few or too many
pub record IsCountedChoice (R : Roster) (s : GroupSets) (c : ChosenGroups) : Type 0 where
  pub best : IsBestGroupChoice R s.groups.items c.choice
  pub counts_are : c.counts.items ≡ counts_of R s.all.items c.choice.chosen.items
  pub broken_are : c.broken.items ≡ broken_of R s.all.items s.crossings.items c.choice.chosen.items

-- no choice keeps to the groups that are kept: marked places of their model compete, and are told
-- of persons, of things and of groups
pub record IsCompeting (R : Roster) (s : GroupSets) (c : CompetingGroups) : Type 0 where
  pub marked : GroupCompetition
  pub none : HasNoGroupChoice R s.groups.items marked
  pub told : ToldGroups
  pub is_told : IsToldOf R s.groups.items marked told
  pub found_is : c.found ≡ told.found
  pub bounds_are : c.bounds.items ≡ named_bounds s.kept.items told.bounds.items

-- a least choice; or places that compete; or the first number beyond the limits, and where it comes
-- from
abbrev pub IsSolvedGroups : Roster → GroupSets → SolvedGroups → Type 0
IsSolvedGroups R s (Least c) = IsCountedChoice R s c
IsSolvedGroups R s (NoChoice c) = IsCompeting R s c
IsSolvedGroups R s (Beyond b) = IsGroupAnswer R s.groups.items (BeyondLimits b.fault) × (b.origin ≡ origin_of R b.fault)

-- some groups cross, and that is refused
abbrev pub refuses : AtCrossing → List Crossing → Bool
refuses Refuse crossings = not (length crossings == 0)
refuses Check crossings = false

-- that groups cross, if that is refused; or else the first fault of the groups that are kept; or,
-- if they have none, the answer for them
abbrev pub IsSetsAnswer : Roster → GroupSets → AtCrossing → SetsAnswer → Type 0
IsSetsAnswer R s crossing sets.Crossing = refuses crossing s.crossings.items ≡ true
IsSetsAnswer R s crossing (sets.Improper fault) =
    (refuses crossing s.crossings.items ≡ false)
    × ((first : GroupFault) × (group_fault R s.groups.items ≡ Some first) × (fault ≡ named_fault s.kept.items first))
IsSetsAnswer R s crossing (sets.Solved solved) =
    (refuses crossing s.crossings.items ≡ false) × (group_fault R s.groups.items ≡ None) × IsSolvedGroups R s solved

-- the answer for a roster and the groups that a table says, with those that cross
pub record IsGroupedRoster (scale : ℕ) (R : Roster) (said : Groups) (crossing : AtCrossing) (made : GroupedRoster) : Type 0 where
  pub sets : GroupSets
  pub are_sets : AreSetsOf said sets
  pub scale_is : made.scale ≡ scale
  pub crossings_are : made.crossings.items ≡ sets.crossings.items
  pub answer_is : IsSetsAnswer R sets crossing made.answer

-- ---- tables

-- The answer to what two tables say: the cells of all costs that are too great; or, if there are
-- none, the first fault of the roster; or, if that has none, the answer for the roster with groups,
-- in the unit of the table. For values, costs have their signs turned.
abbrev pub IsGroupedChoice : Entries → Groups → Asked → GroupedChoice → Type 0
IsGroupedChoice said groups asked (TooGreat cells) = (cells.items ≡ great_in said asked.options) × ¬ (cells.items ≡ [])
IsGroupedChoice said groups asked (Improper fault) =
    (great_in said asked.options ≡ []) × (made_in (scale_of_pairs said.pairs) said asked.options ≡ Err fault)
IsGroupedChoice said groups asked (Grouped made) =
    (R : Roster) × (great_in said asked.options ≡ []) × (made_in (scale_of_pairs said.pairs) said asked.options ≡ Ok R)
    × IsSoundRoster R × IsGroupedRoster (scale_of_pairs said.pairs) R groups asked.crossing made

-- the names of persons and things that members of groups are
abbrev pub known_in : Entries → Rosters
known_in said = record { persons = said.persons; things = said.things }

-- the answer to a table of persons and things, and the rows of a table of groups: all faults of the
-- latter; or, if there are none, the answer to what both say
abbrev pub IsGroupsAnswer : Entries → List Record → Asked → GroupTableAnswer → Type 0
IsGroupsAnswer said groups asked (Faults faults) = ⊥
IsGroupsAnswer said groups asked (GroupFaults faults) = read_groups (known_in said) groups ≡ Err faults
IsGroupsAnswer said groups asked (Choice answer) =
    (read : Groups) × (read_groups (known_in said) groups ≡ Ok read) × IsGroupedChoice said read asked answer

-- The answer to the rows of two tables: all faults of the heads and cells of persons and things;
-- or, if there are none, the answer to what they and the groups say.
abbrev pub IsGroupTableAnswer : List Record → List Record → Asked → GroupTableAnswer → Type 0
IsGroupTableAnswer costs groups asked (Faults faults) = read_roster asked.options.mark costs ≡ Err faults
IsGroupTableAnswer costs groups asked (GroupFaults faults) =
    (said : Entries) × (read_roster asked.options.mark costs ≡ Ok said) × IsGroupsAnswer said groups asked (GroupFaults faults)
IsGroupTableAnswer costs groups asked (Choice answer) =
    (said : Entries) × (read_roster asked.options.mark costs ≡ Ok said) × IsGroupsAnswer said groups asked (Choice answer)
