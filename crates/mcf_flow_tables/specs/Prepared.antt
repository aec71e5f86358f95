-- The rows of two tables as they are read: a matrix of the costs of routes as a list, no row of
-- totals, and columns filled down.
-- Source: own
use Rattle.std.specs.Prelude.{◌≡◌, ℕ, ◌-◌, List, length, Option, option_map, unwrap_or}
use Rattle.mcf_forms.specs.Filled.{filled_columns, fillings}
use Rattle.mcf_forms.specs.Matrices.{routes_of}
use Rattle.mcf_forms.specs.Totals.{total_line, without_total}
use Rattle.mcf_table.specs.Texts.{Record}
use Rattle.mcf_flow_tables.specs.declared.prepared.Done.{Done}
use Rattle.mcf_flow_tables.specs.declared.prepared.Filled.{Filled}

-- the routes, as a list if they are a matrix
abbrev pub as_list : List Record → List Record → List Record
as_list places routes = unwrap_or (routes_of places routes) routes

-- how many routes the list has that a matrix became; none if the routes are no matrix
abbrev pub listed_count : List Record → List Record → Option ℕ
listed_count places routes = option_map (λ list. length list - 1) (routes_of places routes)

-- the rows of places that are read, with the columns of these heads filled down
abbrev pub prepared_places : List (List ℕ) → List Record → List Record
prepared_places heads places = filled_columns heads (without_total places)

-- the rows of routes that are read, with the columns of these heads filled down
abbrev pub prepared_routes : List (List ℕ) → List Record → List Record → List Record
prepared_routes heads places routes = filled_columns heads (without_total (as_list places routes))

-- what is done to the rows
abbrev pub done_to : List Record → List Record → Done
done_to places routes = record {
  list = listed_count places routes;
  place_total = total_line places;
  route_total = total_line (as_list places routes);
}

-- the columns of these heads that are filled down
pub record AreFilled (heads : List (List ℕ)) (places routes : List Record) (filled : Filled) : Type 0 where
  pub of_places : filled.places.items ≡ fillings heads (without_total places)
  pub of_routes : filled.routes.items ≡ fillings heads (without_total (as_list places routes))
