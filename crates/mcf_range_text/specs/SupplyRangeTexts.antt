-- What one more unit of a supply or of a demand costs where supplies may stay, or demands may be
-- missing at penalties, and for how many units that holds, as rows of a table.
-- Source: own
use Rattle.std.specs.Prelude.{◌≡◌, ℕ, suc, ◌<◌, Bool, true, false, ◌&&◌, not, if◌then◌else◌, int_lt, List, [], ◌∷◌, codes, decimal, length, ℤ, pos, ◌-ℤ◌, Option, None, IfNone, IfSome, slice_index_or, ◌⊎◌}
use Rattle.std.specs.List.{flat_map, range_with_len}
use Rattle.mcf_answer_rows.specs.AnswerRows.{cell_under, line_at}
use Rattle.mcf_flows.specs.Network.{at_node}
use Rattle.mcf_places.specs.declared.answering.LeastPlannerPlan.{LeastPlannerPlan}
use Rattle.mcf_places.specs.declared.answering.ShownModel.{ShownModel}
use Rattle.mcf_places.specs.declared.places.Place.{Place}
use Rattle.mcf_places.specs.declared.places.Policy.{Policy}
use Rattle.mcf_places.specs.Models.{hub_of, place_at}
use Rattle.mcf_places.specs.Planners.{Planner, misses_least, missing_cost}
use Rattle.mcf_plan_figures.specs.PlannerFigures.{home_of}
use Rattle.mcf_plan_rows.specs.Cells.{amount_text, rate_text, text_if}
use Rattle.mcf_range_text.specs.PeriodRangeTexts.{row_if_told}
use Rattle.mcf_range_text.specs.declared.supplies.SupplyRange.{SupplyRange}
use Rattle.mcf_table.specs.Texts.{Record}
use Rattle.mcf_unit_ranges.specs.declared.ranging.UnitsRange.{UnitsRange}
use Rattle.mcf_unit_ranges.specs.Told.{IsUntold}
use Rattle.mcf_unit_ranges.specs.UnitRanges.{IsUnitsRange}
use Rattle.mcf_units.specs.declared.scales.Scales.{Scales}

-- ---- ranges

-- what the place with a number gives, or wants if it is below 0
abbrev pub supply_at : Planner → ℕ → ℤ
supply_at P v = (place_at P.places v).supply

-- where one more unit of the place's supply, or of its demand, comes in: at the place if it gives,
-- and otherwise at the hub, where one unit less stays
abbrev pub supply_from : Planner → ℕ → ℕ
supply_from P v = if int_lt (pos 0) (supply_at P v) then home_of P v else hub_of P.places

-- where it is taken out: at the hub, where it stays, if the place gives, and otherwise at the place
abbrev pub supply_to : Planner → ℕ → ℕ
supply_to P v = if int_lt (pos 0) (supply_at P v) then hub_of P.places else home_of P v

-- what a unit from one place of the model to another costs, by the prices
abbrev pub unit_cost : ShownModel → ℕ → ℕ → ℤ
unit_cost s u w = at_node s.prices.items u -ℤ at_node s.prices.items w

-- each of so many units from one place of the model to another costs what the prices say
pub record IsCostedRange (s : ShownModel) (u w : ℕ) (range : SupplyRange) : Type 0 where
  pub cost_is : range.cost ≡ unit_cost s u w
  pub exact : IsUnitsRange s.model s.prices.items s.carries.items u w range.most

-- what one more unit costs, and for how many units that holds
abbrev pub costed : ℤ → UnitsRange → SupplyRange
costed cost range = record { cost = cost; most = range.most }

-- the test of a supply of which a unit more costs something else than to stay: it saves something
-- if supplies may stay, and else less is missing with it
abbrev pub tells_supply : Policy → ℤ → Bool
tells_supply policy cost = if policy.unused then int_lt cost (pos 0) else policy.short

-- the test of a demand of which a unit more costs something else than to be missing: to bring it
-- costs less than its penalty if demands may be missing, and else less stays with it
abbrev pub tells_demand : Policy → ℤ → ℤ → Bool
tells_demand policy cost penalty = if policy.short then int_lt cost penalty else policy.unused

-- the test of a place that gives or wants something, by what one more unit of it costs
abbrev pub tells_units : Policy → Place → ℤ → Bool
tells_units policy p cost =
    if int_lt (pos 0) p.supply then tells_supply policy cost
    else (int_lt p.supply (pos 0) && tells_demand policy cost (missing_cost policy p))

-- the test of a place of whose units something is told; nothing is, if as little as possible is to
-- be missing
abbrev pub has_supply_range : Planner → ShownModel → ℕ → Bool
has_supply_range P s v =
    not (misses_least P) && tells_units P.policy (place_at P.places v) (unit_cost s (supply_from P v) (supply_to P v))

-- what is told of the supply, or of the demand, of a place: what one more unit costs, and for how
-- many units that holds
pub record IsSupplyRange (P : Planner) (s : ShownModel) (v : ℕ) (told : Option SupplyRange) : Type 0 where
  pub asked : IfSome told (λ range. has_supply_range P s v ≡ true)
  pub exact : IfSome told (IsCostedRange s (supply_from P v) (supply_to P v))
  pub none : IfNone told ((has_supply_range P s v ≡ false) ⊎ IsUntold s.model s.prices.items (supply_from P v) (supply_to P v))

-- what is told of all places, in order
pub record AreSupplyRanges (P : Planner) (p : LeastPlannerPlan) (ranges : List (Option SupplyRange)) : Type 0 where
  pub by_place : length ranges ≡ length P.places
  pub each : (place : ℕ) → place < length P.places → IsSupplyRange P p.shown (suc place) (slice_index_or ranges place None)

-- ---- their rows

-- the range of the supply, or of the demand, of the place of a row: `supply range`, its line, its
-- name, what one more unit costs, which saves something if it is below 0, and for how many units
-- that holds; a cell is empty without a limit
abbrev pub supply_range_row : Scales → List Record → ℕ → SupplyRange → List (List ℕ)
supply_range_row scales places row range =
    codes "supply range" ∷ decimal (line_at places row) ∷ cell_under (codes "name") places row ∷ rate_text scales range.cost
    ∷ text_if (amount_text scales) range.most ∷ []

-- that of the place at a place of the list, if it is told
abbrev pub supply_range_at : Scales → List Record → List (Option SupplyRange) → ℕ → List (List (List ℕ))
supply_range_at scales places ranges place = row_if_told (supply_range_row scales places (suc place)) (slice_index_or ranges place None)

-- those of all places
abbrev pub supply_range_rows : Scales → List Record → List (Option SupplyRange) → List (List (List ℕ))
supply_range_rows scales places ranges = flat_map (supply_range_at scales places ranges) (range_with_len 0 (length ranges))
