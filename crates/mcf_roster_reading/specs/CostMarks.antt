-- The mark before decimals that the costs show.
-- Source: own
use Rattle.std.specs.Prelude.{ℕ, List, map, slice_index_or, Option, Some, None, Result, Ok, Err}
use Rattle.mcf_decimal.specs.Settled.{marks_of, settled}
use Rattle.mcf_decimal.specs.declared.mark.Mark.{Mark}
use Rattle.mcf_decimal.specs.declared.settled.Settled.{Settled}
use Rattle.mcf_decimal.specs.declared.settled.Settled.TheVariants.{Open, One, Both}
use Rattle.mcf_table.specs.Texts.{Record}
use Rattle.mcf_roster_reading.specs.Cells.{at_place, cell_in}
use Rattle.mcf_roster_reading.specs.declared.kinds.Fault.{Fault}
use Rattle.mcf_roster_reading.specs.declared.kinds.FaultKind.TheVariants.{BothMarks}
use Rattle.mcf_roster_reading.specs.declared.kinds.Location.TheVariants.{Cell}
use Rattle.mcf_roster_reading.specs.declared.layouts.PairAt.{PairAt}

-- the costs of pairs, as cells
abbrev pub cost_cells : List Record → List PairAt → List (List ℕ)
cost_cells records pairs = map (λ p. cell_in records p.cost) pairs

-- no pair, for places beyond the last
abbrev pub no_pair : PairAt
no_pair = record { who = at_place 0 0; what = at_place 0 0; cost = at_place 0 0 }

-- the pair at a place, from 0
abbrev pub pair_at : List PairAt → ℕ → PairAt
pair_at pairs place = slice_index_or pairs place no_pair

-- the mark that is settled; none if no cost shows one; the fault of the first cost that shows a
-- second one
abbrev pub mark_by : List PairAt → Settled → Result (Option Mark) Fault
mark_by pairs Open = Ok None
mark_by pairs (One mark) = Ok (Some mark)
mark_by pairs (Both first second) = Err (record { at = Cell ((pair_at pairs second).cost); kind = BothMarks })

-- the mark that is named, or else the one that the costs show
abbrev pub settled_mark : Option Mark → List Record → List PairAt → Result (Option Mark) Fault
settled_mark named records pairs = mark_by pairs (settled named (marks_of (cost_cells records pairs)))
