-- Which changes of the cost of a unit on a route keep a plan least beside the plans that carry more
-- on this route, and beside those that carry less.
use Rattle.std.specs.Prelude.{ℕ, Bool, true, false, ◌&&◌, ◌||◌, not, int_lt, List, length, ℤ, pos, ◌≤ℤ◌, Option, Some, None, ◌↔◌}
use Rattle.std.specs.Int.{int_min}
use Rattle.mcf_figures.specs.Figures.{amount_at}
use Rattle.mcf_model.specs.Model.{IsLeastPlan, IsPlan, IsSoundRoute, Model, Route, plan_cost}
use Rattle.mcf_model.specs.Tables.{route_at}
use Rattle.mcf_plan_ranges.specs.Changes.{dearer, with_dearer}
use Rattle.mcf_ranges.specs.declared.range.CostRange.{CostRange}
use Rattle.mcf_ranges.specs.Ranges.{IsInRange}

-- y is as much as x, or more; or it is as much, or less
abbrev pub IsOnSide : Bool → ℤ → ℤ → Type 0
IsOnSide false x y = x ≤ℤ y
IsOnSide true x y = y ≤ℤ x

-- changes in the range keep the plan least beside the plans on that side; no others keep it least
pub record IsSideRange (m : Model) (plan : List ℤ) (k : ℕ) (less : Bool) (range : CostRange) : Type 0 where
  pub kept : (d : ℤ) (other : List ℤ) → IsInRange (pos 0) range d → IsSoundRoute (length m.supplies) (dearer d (route_at m k)) → IsPlan m other
      → IsOnSide less (amount_at plan k) (amount_at other k) → plan_cost (with_dearer m k d) plan ≤ℤ plan_cost (with_dearer m k d) other
  pub least : (d : ℤ) → IsLeastPlan (with_dearer m k d) plan → IsInRange (pos 0) range d

-- exactly the changes in the range keep the route sound
abbrev pub IsFloor : ℕ → Route → CostRange → Type 0
IsFloor places r range = (d : ℤ) → IsInRange (pos 0) range d ↔ IsSoundRoute places (dearer d r)

-- a unit more, or a unit less, is charged as a unit more: on a route both ways a unit less is so
-- where something goes back
abbrev pub grows : Bool → Bool → ℤ → Bool
grows both false x = not both || not (int_lt x (pos 0))
grows both true x = both && not (int_lt (pos 0) x)

-- the range of changes of which no unit costs more than so much less, or gains more
abbrev pub one_sided : Bool → Option ℤ → CostRange
one_sided true slack = record { down = slack; up = None }
one_sided false slack = record { down = None; up = slack }

-- the changes that keep a route both ways from costs below 0, where its first unit costs so much
abbrev pub floor_of : Bool → ℤ → CostRange
floor_of true first = record { down = Some first; up = None }
floor_of false first = record { down = None; up = None }

-- the lesser of two limits
abbrev pub lesser : Option ℤ → Option ℤ → Option ℤ
lesser None b = b
lesser (Some x) None = Some x
lesser (Some x) (Some y) = Some (int_min x y)

-- the changes in both ranges
abbrev pub meet : CostRange → CostRange → CostRange
meet a b = record { down = lesser a.down b.down; up = lesser a.up b.up }
