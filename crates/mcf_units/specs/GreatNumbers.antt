-- Numbers that are too great in whole units.
-- Source: own
use Rattle.std.specs.Prelude.{ℕ, suc, ◌+◌, nat_lt, if◌then◌else◌, List, [], ◌∷◌, ◌++◌, Option, Some, None}
use Rattle.mcf_decimal.specs.declared.decimal.Decimal.{Decimal}
use Rattle.mcf_reading.specs.declared.locations.Head.{Head}
use Rattle.mcf_reading.specs.declared.locations.Head.TheVariants.{Supply, Least, Most, Cost, Penalty as HeadPenalty}
use Rattle.mcf_reading.specs.declared.locations.Table.{Table}
use Rattle.mcf_reading.specs.declared.locations.Table.TheVariants.{Places, Routes}
use Rattle.mcf_reading.specs.declared.place_rows.BoundsEntry.{BoundsEntry}
use Rattle.mcf_reading.specs.declared.place_rows.PlaceEntry.{PlaceEntry}
use Rattle.mcf_reading.specs.declared.steps.StepEntry.{StepEntry}
use Rattle.mcf_reading.specs.Faults.{under}
use Rattle.mcf_reading.specs.Reading.{Entries}
use Rattle.mcf_reading.specs.RouteRows.{Route}
use Rattle.mcf_units.specs.declared.scales.Scales.{Scales}
use Rattle.mcf_units.specs.declared.terms.Terms.{Terms}
use Rattle.mcf_units.specs.declared.great.GreatFault.{GreatFault}
use Rattle.mcf_units.specs.declared.great.GreatFault.TheVariants.{Cell, Penalty, Steps}
use Rattle.mcf_units.specs.declared.great.TheConstants.{STEP_LIMIT}
use Rattle.mcf_units.specs.Wholes.{earlier_count, is_whole}

-- a fault, unless the number is a whole number of units that fits 64 bits
abbrev pub unless_whole : ℕ → Decimal → GreatFault → List GreatFault
unless_whole scale d fault = if is_whole scale d then [] else fault ∷ []

-- the same for a limit
abbrev pub unless_whole_limit : ℕ → Option Decimal → GreatFault → List GreatFault
unless_whole_limit scale None fault = []
unless_whole_limit scale (Some d) fault = unless_whole scale d fault

-- the cell of a row under a head
abbrev pub great_at : Table → ℕ → Head → GreatFault
great_at table row head = Cell (under table row head)

-- the numbers of bounds that are too great
abbrev pub great_bounds : Scales → ℕ → Option BoundsEntry → List GreatFault
great_bounds s row None = []
great_bounds s row (Some b) =
    unless_whole s.amounts b.least (great_at Places row Least)
    ++ (unless_whole_limit s.amounts b.most (great_at Places row (Most 1))
    ++ unless_whole s.costs b.cost (great_at Places row (Cost 1)))

-- the numbers of a place that are too great
abbrev pub great_place : Scales → ℕ → PlaceEntry → List GreatFault
great_place s row e =
    unless_whole s.amounts e.supply (great_at Places row Supply)
    ++ (great_bounds s row e.through ++ unless_whole_limit s.costs e.penalty (great_at Places row HeadPenalty))

-- the numbers of a step, counted from 1, that are too great
abbrev pub great_step : Scales → ℕ → ℕ → StepEntry → List GreatFault
great_step s row step e =
    unless_whole_limit s.amounts e.most (great_at Routes row (Most step)) ++ unless_whole s.costs e.cost (great_at Routes row (Cost step))

-- those of elements in turn, of which the first has a given number
abbrev pub great_in_turn : {X : Type 0} → (ℕ → X → List GreatFault) → ℕ → List X → List GreatFault
great_in_turn great number [] = []
great_in_turn great number (x ∷ xs) = great number x ++ great_in_turn great (suc number) xs

-- the numbers of a route that are too great
abbrev pub great_route : Scales → ℕ → Route → List GreatFault
great_route s row r = unless_whole s.amounts r.least (great_at Routes row Least) ++ great_in_turn (great_step s row) 1 r.steps

-- how many steps stand before the last of their routes
abbrev pub step_total : List Route → ℕ
step_total [] = 0
step_total (r ∷ routes) = earlier_count r + step_total routes

-- all numbers that are too great: the penalty, those of places, those of routes
abbrev pub great_numbers : Scales → Entries → Terms → List GreatFault
great_numbers s said terms =
    unless_whole_limit s.costs terms.penalty Penalty
    ++ (great_in_turn (great_place s) 1 said.places ++ great_in_turn (great_route s) 1 said.routes)

-- that there are too many steps; or all numbers that are too great
abbrev pub great_faults : Scales → Entries → Terms → List GreatFault
great_faults s said terms =
    if nat_lt STEP_LIMIT (step_total said.routes) then Steps ∷ [] else great_numbers s said terms
