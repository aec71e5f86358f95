-- The units of two tables: powers of ten of which all their amounts, and all their costs, are whole
-- multiples.
-- Source: own
use Rattle.std.specs.Prelude.{ℕ, max, List, [], ◌∷◌, ◌++◌, map, Option, Some, None}
use Rattle.std.specs.List.{flat_map}
use Rattle.mcf_decimal.specs.declared.decimal.Decimal.{Decimal}
use Rattle.mcf_reading.specs.declared.place_rows.BoundsEntry.{BoundsEntry}
use Rattle.mcf_reading.specs.declared.place_rows.PlaceEntry.{PlaceEntry}
use Rattle.mcf_reading.specs.declared.steps.StepEntry.{StepEntry}
use Rattle.mcf_reading.specs.Reading.{Entries}
use Rattle.mcf_reading.specs.RouteRows.{Route}
use Rattle.mcf_units.specs.declared.scales.Scales.{Scales}

-- a number, if there is one
abbrev pub given_number : Option Decimal → List Decimal
given_number None = []
given_number (Some number) = number ∷ []

-- the amounts of bounds
abbrev pub bounds_amounts : Option BoundsEntry → List Decimal
bounds_amounts None = []
bounds_amounts (Some b) = b.least ∷ given_number b.most

-- the cost of bounds
abbrev pub bounds_costs : Option BoundsEntry → List Decimal
bounds_costs None = []
bounds_costs (Some b) = b.cost ∷ []

-- the amounts of a place
abbrev pub place_amounts : PlaceEntry → List Decimal
place_amounts e = e.supply ∷ bounds_amounts e.through

-- the costs of a place, with its penalty
abbrev pub place_costs : PlaceEntry → List Decimal
place_costs e = bounds_costs e.through ++ given_number e.penalty

-- the amounts of steps
abbrev pub step_amounts : List StepEntry → List Decimal
step_amounts steps = flat_map (λ s. given_number s.most) steps

-- the costs of steps
abbrev pub step_costs : List StepEntry → List Decimal
step_costs steps = map (λ s. s.cost) steps

-- the amounts of a route
abbrev pub route_amounts : Route → List Decimal
route_amounts r = r.least ∷ step_amounts r.steps

-- the costs of a route
abbrev pub route_costs : Route → List Decimal
route_costs r = step_costs r.steps

-- all amounts of the tables
abbrev pub amounts : Entries → List Decimal
amounts said = flat_map place_amounts said.places ++ flat_map route_amounts said.routes

-- all costs of the tables, and the penalty, if one is named
abbrev pub costs : Entries → Option Decimal → List Decimal
costs said penalty = given_number penalty ++ (flat_map place_costs said.places ++ flat_map route_costs said.routes)

-- the most decimals that any of these numbers has
abbrev pub scale_of : List Decimal → ℕ
scale_of [] = 0
scale_of (d ∷ ds) = max d.places (scale_of ds)

-- the scales of amounts and of costs: a unit of an amount is 10 to the power of minus its scale
abbrev pub scales_of : Entries → Option Decimal → Scales
scales_of said penalty = record { amounts = scale_of (amounts said); costs = scale_of (costs said penalty) }
