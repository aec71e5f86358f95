-- The answers for a roster.
-- Source: own
use Rattle.std.specs.Prelude.{◌≡◌, ℕ, ◌+◌, Bool, List, length, Some}
use Rattle.mcf_flows.specs.Blocking.{in_list, in_table}
use Rattle.mcf_flows.specs.Limits.{limits}
use Rattle.mcf_flows.specs.Network.{IsNode}
use Rattle.mcf_instance.specs.Arrays.{array_fault}
use Rattle.mcf_model.specs.declared.planning.Bottleneck.{Bottleneck}
use Rattle.mcf_model.specs.Arcs.{network_of, reach_of}
use Rattle.mcf_roster.specs.declared.answering.LeastChoice.{LeastChoice}
use Rattle.mcf_roster.specs.declared.answering.RosterAnswer.{RosterAnswer}
use Rattle.mcf_roster.specs.declared.answering.RosterAnswer.TheVariants.{Least, NoChoice, Beyond}
use Rattle.mcf_roster.specs.declared.told.Competition.{Competition}
use Rattle.mcf_roster.specs.Amounts.{AreAmounts}
use Rattle.mcf_roster.specs.Competitions.{IsCompetition}
use Rattle.mcf_roster.specs.Models.{hub_of, model_of}
use Rattle.mcf_roster.specs.Rosters.{IsChoice, IsLeastChoice, Roster, value}
use Rattle.mcf_model.specs.Complements.{side_told, turned_if}

-- a least choice, and what it costs
pub record IsBestChoice (R : Roster) (c : LeastChoice) : Type 0 where
  pub least : IsLeastChoice R c.chosen.items
  pub value_is : c.value ≡ value R c.chosen.items

-- persons and things that compete, with their numbers, and so no choice
pub record HasNoChoice (R : Roster) (c : Competition) : Type 0 where
  pub one_by_person : length c.persons.items ≡ length R.takes
  pub one_by_thing : length c.things.items ≡ length R.needs
  pub is_competition : IsCompetition R (in_table c.persons.items) (in_table c.things.items) c.side
  pub are_amounts : AreAmounts R (in_table c.persons.items) (in_table c.things.items) c.side c.amounts
  pub none : (chosen : List Bool) → ¬ IsChoice R chosen

-- a least choice; or persons and things that compete; or the first number beyond the limits
abbrev pub IsRosterAnswer : Roster → RosterAnswer → Type 0
IsRosterAnswer R (Least c) = IsBestChoice R c
IsRosterAnswer R (NoChoice c) = HasNoChoice R c
IsRosterAnswer R (Beyond fault) = array_fault limits (network_of (reach_of (model_of R)) (model_of R)) ≡ Some fault

-- a bottleneck of the model, told of persons and things: where the hub is one of its places, all
-- others are meant, and the other side; with their numbers
pub record IsToldCompetition (R : Roster) (found : Bottleneck) (made : Competition) : Type 0 where
  pub one_by_person : length made.persons.items ≡ length R.takes
  pub one_by_thing : length made.things.items ≡ length R.needs
  pub persons : (v : ℕ) → IsNode (length R.takes) v
      → in_table made.persons.items v ≡ turned_if (in_list found.places.items (hub_of R)) (in_list found.places.items v)
  pub things : (v : ℕ) → IsNode (length R.needs) v
      → in_table made.things.items v ≡ turned_if (in_list found.places.items (hub_of R)) (in_list found.places.items (length R.takes + v))
  pub side : made.side ≡ side_told (in_list found.places.items (hub_of R)) found.side
  pub are_amounts : AreAmounts R (in_table made.persons.items) (in_table made.things.items) made.side made.amounts
