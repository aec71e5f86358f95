-- Choices, and persons and things that compete, as rows of a table.
-- Source: own
use Rattle.std.specs.Prelude.{ℕ, ◌^◌, Bool, false, if◌then◌else◌, int_le, List, [], ◌∷◌, ◌++◌, codes, decimal, length, ℤ, pos, neg_ℤ, slice_get, slice_index_or, Option, Some, None}
use Rattle.std.specs.List.{flat_map, range_with_len}
use Rattle.mcf_answer_rows.specs.AnswerRows.{answer_row, line_at, number_row}
use Rattle.mcf_decimal.specs.Written.{decimal_text}
use Rattle.mcf_flows.specs.declared.problem.Side.{Side}
use Rattle.mcf_flows.specs.declared.problem.Side.TheVariants.{Send, Take}
use Rattle.mcf_roster.specs.declared.answering.LeastChoice.{LeastChoice}
use Rattle.mcf_roster.specs.declared.told.Competition.{Competition}
use Rattle.mcf_roster_reading.specs.Reading.{Entries}
use Rattle.mcf_roster_reading.specs.declared.pairs.PairEntry.{PairEntry}
use Rattle.mcf_pair_text.specs.MemberRows.{member_lists, named_lists}
use Rattle.mcf_pair_text.specs.PairPlaces.{Sheet, numbered, pair_column}

-- ---- choices

-- a pair: `pair`, its line, the number of its column in a matrix, the person, the thing, and what
-- it costs
abbrev pub pair_row : Sheet → Entries → PairEntry → List (List ℕ)
pair_row s said p =
    codes "pair" ∷ decimal (line_at s.rows p.at.row) ∷ pair_column s p.at ∷ numbered said.persons p.who ∷ numbered said.things p.what
    ∷ decimal_text p.cost.mantissa p.cost.places ∷ []

-- the row of a pair, if there is such a one
abbrev pub told_pair : Sheet → Entries → Option PairEntry → List (List (List ℕ))
told_pair s said None = []
told_pair s said (Some p) = pair_row s said p ∷ []

-- the pair at a place, if it is chosen
abbrev pub chosen_rows : Sheet → Entries → List Bool → ℕ → List (List (List ℕ))
chosen_rows s said chosen place = if slice_index_or chosen place false then told_pair s said (slice_get said.pairs place) else []

-- the pairs that are marked
abbrev pub all_chosen : Sheet → Entries → List Bool → List (List (List ℕ))
all_chosen s said chosen = flat_map (chosen_rows s said chosen) (range_with_len 0 (length chosen))

-- how many persons and things the table names
abbrev pub count_rows : Entries → List (List (List ℕ))
count_rows said =
    number_row (codes "persons") (decimal (length said.persons)) ∷ number_row (codes "things") (decimal (length said.things)) ∷ []

-- a number with its sign turned; 0 if that has more than 128 bits, which no sum of costs has
abbrev pub opposite : ℤ → ℤ
opposite z = if int_le z (neg_ℤ (pos (2 ^ 127))) then pos 0 else neg_ℤ z

-- what a choice costs; or what it is worth, where costs are values, whose signs were turned
abbrev pub total : Bool → ℤ → ℤ
total maximise cost = if maximise then opposite cost else cost

-- what kind of answer a choice is, what it costs, in the unit of the table, and how many persons
-- and things there are
abbrev pub choice_heading : Bool → Entries → ℕ → ℤ → List (List (List ℕ))
choice_heading maximise said scale cost =
    answer_row (codes "plan") ∷ number_row (codes "cost") (decimal_text (total maximise cost) scale) ∷ count_rows said

-- a least choice: its heading, its pairs, and all persons and things
abbrev pub choice_rows : Bool → Sheet → Entries → ℕ → LeastChoice → List (List (List ℕ))
choice_rows maximise s said scale c =
    choice_heading maximise said scale c.value ++ (all_chosen s said c.chosen.items ++ named_lists s said)

-- ---- persons and things that compete

-- the word of a side
abbrev pub side_word : Side → List ℕ
side_word Send = codes "send"
side_word Take = codes "take"

-- what kind of answer a competition is, its side, and how many persons and things there are
abbrev pub competition_heading : Entries → Side → List (List (List ℕ))
competition_heading said side =
    answer_row (codes "no plan") ∷ number_row (codes "side") (side_word side) ∷ count_rows said

-- persons and things that compete: their heading, they themselves, and the pairs that count one
-- more
abbrev pub competition_rows : Sheet → Entries → Competition → List (List (List ℕ))
competition_rows s said c =
    competition_heading said c.side ++ (member_lists s said c ++ all_chosen s said c.amounts.pairs.items)
