-- What pairs cost in whole units.
-- Source: own
use Rattle.std.specs.Prelude.{ℕ, Bool, not, ◌&&◌, ◌||◌, if◌then◌else◌, List, [], ◌∷◌, map, ℤ, pos, neg_ℤ}
use Rattle.std.specs.List.{flat_map}
use Rattle.mcf_decimal.specs.declared.decimal.Decimal.{Decimal}
use Rattle.mcf_roster.specs.declared.pairs.Pair.{Pair}
use Rattle.mcf_roster_reading.specs.declared.pairs.PairEntry.{PairEntry}
use Rattle.mcf_table.specs.declared.heads.CellPlace.{CellPlace}
use Rattle.mcf_units.specs.Scales.{scale_of}
use Rattle.mcf_units.specs.Wholes.{fits, is_whole, place_number, whole}

-- the most decimals that any cost has: a unit is 10 to the power of minus that
abbrev pub scale_of_pairs : List PairEntry → ℕ
scale_of_pairs pairs = scale_of (map (λ p. p.cost) pairs)

-- a number of 64 bits still fits them with its sign turned
abbrev pub is_turnable : ℤ → Bool
is_turnable z = fits (neg_ℤ z)

-- a number with its sign turned; 0 if that doesn't fit
abbrev pub turned : ℤ → ℤ
turned z = if fits (neg_ℤ z) then neg_ℤ z else pos 0

-- the cost is a whole number of units, which fits 64 bits, also with its sign turned for values
abbrev pub is_cost : Bool → ℕ → Decimal → Bool
is_cost maximise scale d = is_whole scale d && (not maximise || is_turnable (whole scale d))

-- a cost in units, with its sign turned for values; 0 if it isn't one that fits
abbrev pub cost_in : Bool → ℕ → Decimal → ℤ
cost_in maximise scale d = if maximise then turned (whole scale d) else whole scale d

-- a pair in units
unfoldable pub pair_in : Bool → ℕ → PairEntry → Pair
pair_in maximise scale p = record { who = place_number p.who; what = place_number p.what; cost = cost_in maximise scale p.cost }

-- the cell of a pair's cost, if it is too great
abbrev pub great_cell : Bool → ℕ → PairEntry → List CellPlace
great_cell maximise scale p = if is_cost maximise scale p.cost then [] else p.at ∷ []

-- the cells of the costs that are too great
abbrev pub great_cells : Bool → ℕ → List PairEntry → List CellPlace
great_cells maximise scale pairs = flat_map (great_cell maximise scale) pairs
