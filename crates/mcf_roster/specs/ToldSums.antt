-- What persons and things that compete add up to, by the numbers that are told of them.
-- Source: own
use Rattle.std.specs.Prelude.{ℕ, ◌+◌, ◌<◌, Bool, if◌then◌else◌, List, [], ◌∷◌, length}
use Rattle.std.specs.List.{filter}
use Rattle.mcf_flows.specs.declared.problem.Side.{Side}
use Rattle.mcf_flows.specs.declared.problem.Side.TheVariants.{Send, Take}
use Rattle.mcf_roster.specs.declared.amounts.Amounts.{Amounts}
use Rattle.mcf_roster.specs.declared.told.Competition.{Competition}
use Rattle.mcf_roster.specs.RosterAnswers.{HasNoChoice}
use Rattle.mcf_roster.specs.Rosters.{Roster}

-- the numbers of those that a table marks, summed
abbrev pub told_sum : List Bool → List ℕ → ℕ
told_sum [] amounts = 0
told_sum (m ∷ marks) [] = 0
told_sum (m ∷ marks) (a ∷ amounts) = (if m then a else 0) + told_sum marks amounts

-- how many places a table marks
abbrev pub told_count : List Bool → ℕ
told_count marks = length (filter (λ m. m) marks)

-- the leasts of those who must have more are greater than the mosts of the others with the number
-- of the pairs that count one more
abbrev pub IsMore : List Bool → List Bool → Amounts → Side → Type 0
IsMore persons things a Send = (told_sum things a.things.items + told_count a.pairs.items) < told_sum persons a.persons.items
IsMore persons things a Take = (told_sum persons a.persons.items + told_count a.pairs.items) < told_sum things a.things.items

-- so it is for each competition that is an answer
abbrev pub CompetitionsAddToMore : Type 0
CompetitionsAddToMore = (R : Roster) (c : Competition) → HasNoChoice R c → IsMore c.persons.items c.things.items c.amounts c.side
