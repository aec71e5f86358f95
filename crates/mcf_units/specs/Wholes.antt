-- What the tables say, in whole units.
-- Source: own
use Rattle.std.specs.Prelude.{ℕ, ◌+◌, ◌-◌, ◌^◌, nat_le, nat_lt, Bool, not, ◌&&◌, if◌then◌else◌, List, [], ◌∷◌, length, map, take, slice_index_or, ℤ, pos, neg_ℤ, int_lt, Option, Some, option_map}
use Rattle.std.specs.List.{flat_map}
use Rattle.mcf_decimal.specs.Decimals.{at_scale}
use Rattle.mcf_decimal.specs.declared.decimal.Decimal.{Decimal}
use Rattle.mcf_model.specs.declared.rows.RouteRow.{RouteRow}
use Rattle.mcf_model.specs.declared.rows.Step.{Step}
use Rattle.mcf_places.specs.declared.places.Bounds.{Bounds}
use Rattle.mcf_places.specs.declared.places.Place.{Place}
use Rattle.mcf_places.specs.declared.places.Policy.{Policy}
use Rattle.mcf_model.specs.Bottlenecks.{limit_or_zero}
use Rattle.mcf_model.specs.Model.{Route as ModelRoute}
use Rattle.mcf_places.specs.Planners.{Planner}
use Rattle.mcf_places.specs.Ways.{problem_of}
use Rattle.mcf_reading.specs.Cells.{zero_decimal}
use Rattle.mcf_reading.specs.declared.place_rows.BoundsEntry.{BoundsEntry}
use Rattle.mcf_reading.specs.declared.place_rows.PlaceEntry.{PlaceEntry}
use Rattle.mcf_reading.specs.declared.steps.StepEntry.{StepEntry}
use Rattle.mcf_reading.specs.Reading.{Entries}
use Rattle.mcf_reading.specs.RouteRows.{Route}
use Rattle.mcf_units.specs.declared.scales.Scales.{Scales}
use Rattle.mcf_units.specs.declared.terms.Terms.{Terms}

-- a whole number fits 64 bits
abbrev pub fits : ℤ → Bool
fits z = not (int_lt z (neg_ℤ (pos (2 ^ 63)))) && int_lt z (pos (2 ^ 63))

-- the decimal is a whole number of units, which fits 64 bits
abbrev pub is_whole : ℕ → Decimal → Bool
is_whole scale d = nat_le d.places scale && fits (at_scale scale d)

-- the decimal as a whole number of units; 0 if it isn't one that fits
abbrev pub whole : ℕ → Decimal → ℤ
whole scale d = if is_whole scale d then at_scale scale d else pos 0

-- a limit in units
abbrev pub whole_limit : ℕ → Option Decimal → Option ℤ
whole_limit scale most = option_map (whole scale) most

-- bounds in units
abbrev pub bounds_in : Scales → BoundsEntry → Bounds
bounds_in s b = record { least = whole s.amounts b.least; most = whole_limit s.amounts b.most; cost = whole s.costs b.cost }

-- a place in units
abbrev pub place_in : Scales → PlaceEntry → Place
place_in s e = record { supply = whole s.amounts e.supply; through = option_map (bounds_in s) e.through; penalty = whole_limit s.costs e.penalty }

-- a step before the last, in units
abbrev pub step_in : Scales → StepEntry → Step
step_in s e = record { most = limit_or_zero (whole_limit s.amounts e.most); cost = whole s.costs e.cost }

-- the steps before the last
abbrev pub earlier : List StepEntry → List StepEntry
earlier steps = take (length steps - 1) steps

-- a step that carries nothing
abbrev pub no_step : StepEntry
no_step = record { most = Some zero_decimal; cost = zero_decimal }

-- the last step; one that carries nothing if there is none
abbrev pub last_step : List StepEntry → StepEntry
last_step steps = slice_index_or steps (length steps - 1) no_step

-- the number of a place in 32 bits; 0, which is no place's, if it doesn't fit
abbrev pub place_number : ℕ → ℕ
place_number n = if nat_lt n (2 ^ 32) then n else 0

-- a route in units
abbrev pub route_in : Scales → Route → ModelRoute
route_in s r = record {
  tail = place_number r.tail;
  head = place_number r.head;
  least = whole s.amounts r.least;
  steps = map (step_in s) (earlier r.steps);
  last_most = whole_limit s.amounts ((last_step r.steps).most);
  last_cost = whole s.costs ((last_step r.steps).cost);
  both = r.both;
}

-- whether supplies may stay and demands may be missing, with the penalty in units
abbrev pub policy_in : Scales → Terms → Policy
policy_in s terms = record { unused = terms.unused; short = terms.short; penalty = whole_limit s.costs terms.penalty }

-- the planner's problem of the tables, in units
abbrev pub planner_in : Scales → Entries → Terms → Planner
planner_in s said terms = problem_of (map (place_in s) said.places) (map (route_in s) said.routes) (policy_in s terms)

-- ---- the same as tables of numbers

-- the steps before the last, of all routes
abbrev pub steps_in : Scales → List Route → List Step
steps_in s routes = flat_map (λ r. map (step_in s) (earlier r.steps)) routes

-- how many steps stand before the last
abbrev pub earlier_count : Route → ℕ
earlier_count r = length r.steps - 1

-- the row of a route whose steps begin at this place
abbrev pub row_in : Scales → ℕ → Route → RouteRow
row_in s first r = record {
  tail = place_number r.tail;
  head = place_number r.head;
  first_step = first;
  step_count = earlier_count r;
  least = whole s.amounts r.least;
  last_most = whole_limit s.amounts ((last_step r.steps).most);
  last_cost = whole s.costs ((last_step r.steps).cost);
  both = r.both;
}

-- the rows of routes whose steps begin at this place
abbrev pub rows_in : Scales → ℕ → List Route → List RouteRow
rows_in s first [] = []
rows_in s first (r ∷ routes) = row_in s first r ∷ rows_in s (first + earlier_count r) routes
