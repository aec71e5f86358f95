-- For how many units one more that may pass through a place saves what the prices of a least plan
-- say, as rows of a table.
-- Source: own
use Rattle.std.specs.Prelude.{◌≡◌, ℕ, suc, ◌<◌, List, [], ◌∷◌, codes, decimal, length, Option, Some, None, slice_index_or}
use Rattle.std.specs.List.{flat_map, range_with_len}
use Rattle.mcf_answer_rows.specs.AnswerRows.{cell_under, line_at}
use Rattle.mcf_places.specs.declared.answering.LeastPlannerPlan.{LeastPlannerPlan}
use Rattle.mcf_places.specs.declared.answering.ShownModel.{ShownModel}
use Rattle.mcf_places.specs.declared.places.Bounds.{Bounds}
use Rattle.mcf_places.specs.Models.{place_at}
use Rattle.mcf_places.specs.Planners.{Planner}
use Rattle.mcf_plan_figures.specs.PlannerFigures.{through_number}
use Rattle.mcf_plan_rows.specs.Cells.{amount_text, text_if}
use Rattle.mcf_range_text.specs.PeriodRangeTexts.{row_if_told}
use Rattle.mcf_range_text.specs.RoomRangeTexts.{IsRoomRange}
use Rattle.mcf_table.specs.Texts.{Record}
use Rattle.mcf_unit_ranges.specs.declared.ranging.UnitsRange.{UnitsRange}
use Rattle.mcf_units.specs.declared.scales.Scales.{Scales}

-- ---- ranges

-- what is told of a place: that of the room on the model's route k, which carries what passes
-- through it, if the place has bounds
abbrev pub IsPassRange : ShownModel → ℕ → Option Bounds → Option UnitsRange → Type 0
IsPassRange s k (Some bounds) told = IsRoomRange s k told
IsPassRange s k None told = told ≡ None

-- of the place with a number
abbrev pub IsPassRangeAt : Planner → ShownModel → ℕ → Option UnitsRange → Type 0
IsPassRangeAt P s v told = IsPassRange s (through_number P v) (place_at P.places v).through told

-- what is told of all places, in order
pub record ArePassRanges (P : Planner) (p : LeastPlannerPlan) (ranges : List (Option UnitsRange)) : Type 0 where
  pub by_place : length ranges ≡ length P.places
  pub each : (place : ℕ) → place < length P.places → IsPassRangeAt P p.shown (suc place) (slice_index_or ranges place None)

-- ---- their rows

-- the range of the place of a row: `pass range`, its line, its name, and for how many units that
-- may pass more each saves what it says; a cell is empty without a limit
abbrev pub pass_range_row : Scales → List Record → ℕ → UnitsRange → List (List ℕ)
pass_range_row scales places row range =
    codes "pass range" ∷ decimal (line_at places row) ∷ cell_under (codes "name") places row ∷ text_if (amount_text scales) range.most ∷ []

-- that of the place at a place of the list, if it is told
abbrev pub pass_range_at : Scales → List Record → List (Option UnitsRange) → ℕ → List (List (List ℕ))
pass_range_at scales places ranges place = row_if_told (pass_range_row scales places (suc place)) (slice_index_or ranges place None)

-- those of all places
abbrev pub pass_range_rows : Scales → List Record → List (Option UnitsRange) → List (List (List ℕ))
pass_range_rows scales places ranges = flat_map (pass_range_at scales places ranges) (range_with_len 0 (length ranges))
