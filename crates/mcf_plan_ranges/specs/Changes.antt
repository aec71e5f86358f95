-- Models in which each unit on a route costs more or less, whatever step it is in.
-- Source: own
use Rattle.std.specs.Prelude.{ℕ, ◌-◌, map, ℤ, ◌+ℤ◌, slice_set}
use Rattle.mcf_model.specs.declared.rows.Step.{Step}
use Rattle.mcf_model.specs.Model.{Model, Route}
use Rattle.mcf_model.specs.Tables.{route_at}

-- the step, each unit of which costs d more
abbrev pub dearer_step : ℤ → Step → Step
dearer_step d s = record s { cost = s.cost +ℤ d }

-- the route, each unit of which costs d more
abbrev pub dearer : ℤ → Route → Route
dearer d r = record r { steps = map (dearer_step d) r.steps; last_cost = r.last_cost +ℤ d }

-- the model in which each unit on route k costs d more
abbrev pub with_dearer : Model → ℕ → ℤ → Model
with_dearer m k d = record m { routes = slice_set m.routes (k - 1) (dearer d (route_at m k)) }
