-- For how many units more room saves what the prices say.
use Rattle.std.proofs.Common.{◌≡◌, ℕ, List, subst, ◌∙◌, ℤ, pos, ◌<ℤ◌, ◌≤ℤ◌, inl, inr, Result, Ok, Err}
use Rattle.std.specs.Prelude.{IfOk, IfNone, IfSome, Option, Some, None, ◌⊎◌, ◌-◌}
use Rattle.mcf_figures.specs.FigureLaws.{IsPriced}
use Rattle.mcf_figures.specs.Told.{HasFigures}
use Rattle.mcf_model.specs.Model.{Model, Route}
use Rattle.mcf_model.specs.Tables.{route_at}
use Rattle.mcf_places.specs.declared.answering.LeastPlannerPlan.{LeastPlannerPlan}
use Rattle.mcf_places.specs.declared.answering.ShownModel.{ShownModel}
use Rattle.mcf_places.specs.Planners.{Planner, row_count}
use Rattle.mcf_range_text.proofs.AreFirsts.{AreFirst}
use Rattle.mcf_range_text.specs.RoomRangeTexts.{AreRoomRanges, IsRoomRange, IsRowRoom, saving_in}
use Rattle.mcf_unit_ranges.specs.declared.ranging.UnitsRange.{UnitsRange}
use Rattle.mcf_unit_ranges.specs.Spans.{directed}
use Rattle.mcf_unit_ranges.specs.Told.{IsRoomRangeAt, IsUntold}

-- ---- one route

module _ (s : ShownModel) (k : ℕ) where
  abbrev m : Model
  m = s.model

  abbrev prices : List ℤ
  prices = s.prices.items

  abbrev there : Route
  there = directed prices (route_at m k)

  pub no_saving : (¬ HasFigures m prices s.carries.items (k - 1)) ⊎ (saving_in s k ≤ℤ pos 0) → IsRoomRange s k None
  no_saving (inl none) = record { saves = tt; exact = tt; none = inl none }
  no_saving (inr low) = record { saves = tt; exact = tt; none = inr (inl low) }

  pub room_told : {E : Type 0} (result : Result (Option UnitsRange) E) → IsPriced m prices s.carries.items → pos 0 <ℤ saving_in s k
      → IfOk result (λ told. IfSome told (λ range. IsRoomRangeAt m prices k range.most))
      → IfOk result (λ told. IfNone told (IsUntold m prices there.head there.tail)) → IfOk result (IsRoomRange s k)
  room_told (Ok (Some range)) priced saves exact none = record { saves = saves; exact = exact s.carries.items priced; none = tt }
  room_told (Ok None) priced saves exact none = record { saves = tt; exact = tt; none = inr (inr none) }
  room_told (Err e) priced saves exact none = tt

-- ---- all rows

pub all_rooms_told : (P : Planner) (p : LeastPlannerPlan) (count : ℕ) (ranges : List (Option UnitsRange)) (place : ℕ) → AreFirst (IsRowRoom P p.shown) place ranges
    → count ≡ row_count P → place ≡ count → AreRoomRanges P p ranges
all_rooms_told P p count ranges place first e f =
    let g : place ≡ row_count P = f ∙ e in
    let all = subst (λ n. AreFirst (IsRowRoom P p.shown) n ranges) g first in
    record { by_row = all.long; each = all.each }
