-- Rows of routes that have one step each.
use Rattle.std.specs.Prelude.{List, [], map, ℤ}
use Rattle.mcf_model.specs.declared.rows.RouteRow.{RouteRow}
use Rattle.mcf_model.specs.Model.{Model, Route}
use Rattle.mcf_model.specs.Tables.{route_with}

-- the route of a row, with its last step alone
abbrev pub plain : RouteRow → Route
plain row = route_with row []

-- the model of such rows
abbrev pub plain_model : List ℤ → List RouteRow → Model
plain_model supplies rows = record { supplies = supplies; routes = map plain rows }
