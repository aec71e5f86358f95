-- Tests of a route that carries an amount, by the cost of one unit more.
-- Source: own
use Rattle.std.specs.Prelude.{◌≡◌, Bool, true, ◌&&◌, List, [], ◌∷◌, if◌then◌else◌, int_lt, ℤ, pos, neg_ℤ, ◌-ℤ◌, Option, Some, None}
use Rattle.std.specs.Ordering.{int_eq}
use Rattle.mcf_model.specs.declared.rows.Step.{Step}
use Rattle.mcf_model.specs.Model.{Route, charged, room}
use Rattle.mcf_figures.specs.declared.figures.RouteFigures.{RouteFigures}
use Rattle.mcf_figures.specs.Figures.{free, saving_if}

-- the cost of one unit more than x
abbrev pub unit_cost : List Step → ℤ → ℤ → ℤ
unit_cost [] last_cost x = last_cost
unit_cost (s ∷ steps) last_cost x = if int_lt x s.most then s.cost else unit_cost steps last_cost (x -ℤ s.most)

-- one unit more than x fits the steps
abbrev pub fits_more : List Step → Option ℤ → ℤ → Bool
fits_more steps (Some most) x = int_lt x (room steps most)
fits_more steps None x = true

-- all four
abbrev pub all_four : Bool → Bool → Bool → Bool → Bool
all_four a b c d = ((a && b) && c) && d

-- one unit more than x, and the last of x, cost so much, and there may be one more and one less
abbrev pub is_between : List Step → Option ℤ → ℤ → ℤ → ℤ → ℤ → Bool
is_between steps most c least x slope =
    all_four (int_lt least x) (fits_more steps most x) (int_eq (unit_cost steps c x) slope) (int_eq (unit_cost steps c (x -ℤ pos 1)) slope)

-- there may be a first unit either way, which costs nothing, as the price doesn't drop
abbrev pub is_still : List Step → Option ℤ → ℤ → ℤ → Bool
is_still steps most c drop = all_four true (fits_more steps most (pos 0)) (int_eq (unit_cost steps c (pos 0)) (pos 0)) (int_eq drop (pos 0))

-- either of both, of a route both ways
abbrev pub is_between_both : List Step → Option ℤ → ℤ → ℤ → ℤ → Bool
is_between_both steps most c x drop =
    if int_eq x (pos 0) then is_still steps most c drop
    else (if int_lt x (pos 0) then is_between steps most c (pos 0) (neg_ℤ x) (neg_ℤ drop) else is_between steps most c (pos 0) x drop)

-- the route is loose where it carries x, if the price drops by so much
abbrev pub is_loose : Route → ℤ → ℤ → Bool
is_loose r drop x =
    if r.both then is_between_both r.steps r.last_most r.last_cost x drop else is_between r.steps r.last_most r.last_cost r.least x drop

-- how far the cost of one unit more than x is above the price drop, if it fits
abbrev pub dearer_by : Route → ℤ → ℤ → Option ℤ
dearer_by r drop x =
    if fits_more r.steps r.last_most (charged r.both x) then Some (unit_cost r.steps r.last_cost (charged r.both x) -ℤ charged r.both drop) else None

-- the figures of a route on which the price drops by so much
pub record AreNumbers (r : Route) (x drop : ℤ) (f : RouteFigures) : Type 0 where
  pub free_is : f.free ≡ free r x
  pub saves_is : f.saves ≡ saving_if r.last_most (charged r.both drop -ℤ r.last_cost)
  pub loose_is : f.loose ≡ is_loose r drop x
  pub dearer_is : f.dearer ≡ dearer_by r drop x
