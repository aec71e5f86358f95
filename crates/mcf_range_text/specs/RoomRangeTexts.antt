-- For how many units more room on a route saves what the prices of a least plan say, as rows of a
-- table.
-- Source: own
use Rattle.std.specs.Prelude.{◌≡◌, ◌==◌, ℕ, suc, ◌<◌, ◌-◌, Bool, true, false, List, [], ◌∷◌, codes, decimal, length, ℤ, pos, ◌≤ℤ◌, ◌<ℤ◌, Option, None, IfNone, IfSome, slice_index_or, ◌⊎◌}
use Rattle.std.specs.List.{flat_map, range_with_len}
use Rattle.mcf_answer_rows.specs.AnswerRows.{cell_under, line_at}
use Rattle.mcf_figures.specs.Figures.{saving}
use Rattle.mcf_figures.specs.Told.{HasFigures}
use Rattle.mcf_model.specs.Tables.{route_at}
use Rattle.mcf_places.specs.declared.answering.LeastPlannerPlan.{LeastPlannerPlan}
use Rattle.mcf_places.specs.declared.answering.ShownModel.{ShownModel}
use Rattle.mcf_places.specs.Planners.{Planner, row_count}
use Rattle.mcf_plan_figures.specs.Changes.{route_in}
use Rattle.mcf_plan_rows.specs.Cells.{amount_text, text_if}
use Rattle.mcf_range_text.specs.PeriodRangeTexts.{row_if_told}
use Rattle.mcf_table.specs.Texts.{Record}
use Rattle.mcf_unit_ranges.specs.declared.ranging.UnitsRange.{UnitsRange}
use Rattle.mcf_unit_ranges.specs.Spans.{directed}
use Rattle.mcf_unit_ranges.specs.Told.{IsUntold}
use Rattle.mcf_unit_ranges.specs.UnitRanges as units
use Rattle.mcf_units.specs.declared.scales.Scales.{Scales}

-- ---- ranges

-- what one more unit of room on route k of the model saves, by the prices
abbrev pub saving_in : ShownModel → ℕ → ℤ
saving_in s k = saving s.prices.items (route_at s.model k)

-- why no range is told of route k: it has no figures, or room on it saves nothing; or no range is
-- told of units from its head to its tail, which it carries back
abbrev pub HasNoRoomRange : ShownModel → ℕ → Type 0
HasNoRoomRange s k =
    (¬ HasFigures s.model s.prices.items s.carries.items (k - 1))
    ⊎ ((saving_in s k ≤ℤ pos 0)
    ⊎ IsUntold s.model s.prices.items (directed s.prices.items (route_at s.model k)).head (directed s.prices.items (route_at s.model k)).tail)

-- what is told of the room on route k of the model: for how many units each saves what the prices
-- say, if that is above 0
pub record IsRoomRange (s : ShownModel) (k : ℕ) (told : Option UnitsRange) : Type 0 where
  pub saves : IfSome told (λ range. pos 0 <ℤ saving_in s k)
  pub exact : IfSome told (λ range. units.IsRoomRange s.model s.prices.items s.carries.items k range.most)
  pub none : IfNone told (HasNoRoomRange s k)

-- route k leads from a place back to it
abbrev pub is_loop : Planner → ℕ → Bool
is_loop P k = (route_in P k).tail == (route_in P k).head

-- what is told of a route of the model, unless it is a loop
abbrev pub IsRoomUnless : Bool → ShownModel → ℕ → Option UnitsRange → Type 0
IsRoomUnless true s k told = told ≡ None
IsRoomUnless false s k told = IsRoomRange s k told

-- what is told of the room on the route of row k: none of a loop, since the limit of what passes
-- through its place in the model would count as the end of the range
abbrev pub IsRowRoom : Planner → ShownModel → ℕ → Option UnitsRange → Type 0
IsRowRoom P s k told = IsRoomUnless (is_loop P k) s k told

-- what is told of all rows, in order: the model's routes begin with theirs
pub record AreRoomRanges (P : Planner) (p : LeastPlannerPlan) (ranges : List (Option UnitsRange)) : Type 0 where
  pub by_row : length ranges ≡ row_count P
  pub each : (place : ℕ) → place < row_count P → IsRowRoom P p.shown (suc place) (slice_index_or ranges place None)

-- ---- their rows

-- the range of the room on the route of a row: `room range`, its line, its ends, and for how many
-- units more room saves what it says; a cell is empty without a limit
abbrev pub room_range_row : Scales → List Record → ℕ → UnitsRange → List (List ℕ)
room_range_row scales routes row range =
    codes "room range" ∷ decimal (line_at routes row) ∷ cell_under (codes "from") routes row ∷ cell_under (codes "to") routes row
    ∷ text_if (amount_text scales) range.most ∷ []

-- that of the row at a place, if it is told
abbrev pub room_range_at : Scales → List Record → List (Option UnitsRange) → ℕ → List (List (List ℕ))
room_range_at scales routes ranges place = row_if_told (room_range_row scales routes (suc place)) (slice_index_or ranges place None)

-- those of all rows
abbrev pub room_range_rows : Scales → List Record → List (Option UnitsRange) → List (List (List ℕ))
room_range_rows scales routes ranges = flat_map (room_range_at scales routes ranges) (range_with_len 0 (length ranges))
