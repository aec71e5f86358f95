-- A matrix of the costs of routes, from the places on the left to those above.
-- Source: own
use Rattle.std.specs.Prelude.{ℕ, ◌-◌, nat_le, Bool, not, ◌&&◌, if◌then◌else◌, List, [], ◌∷◌, length, count_by, codes, Option, Some, None}
use Rattle.std.specs.List.{flat_map, list_any, range_with_len}
use Rattle.std.specs.Option.{is_some}
use Rattle.std.specs.Str.{bytes_eq}
use Rattle.mcf_names.specs.Names.{number_of}
use Rattle.mcf_table.specs.Heads.{column_of, head_at, heads, only_place}
use Rattle.mcf_table.specs.Texts.{Record, is_filled}
use Rattle.mcf_forms.specs.Cells.{cell_at, cells_in, is_nothing, is_word, line_of, rows_above}

-- the heads that a matrix doesn't have after its first one
abbrev pub list_heads : List (List ℕ)
list_heads =
    codes "from" ∷ codes "to" ∷ codes "supply" ∷ codes "least" ∷ codes "most" ∷ codes "cost" ∷ []

-- the names of the places
abbrev pub place_names : List Record → List (List ℕ)
place_names places = cells_in places (only_place (column_of (codes "name") places))

-- the places of the columns after the first
abbrev pub further : List Record → List ℕ
further routes = range_with_len 1 (length (heads routes) - 1)

-- the column has the head of a list
unfoldable pub is_listed : List Record → ℕ → Bool
is_listed routes place = is_word list_heads (head_at routes place)

-- the head of the column is one of these names
unfoldable pub is_named : List (List ℕ) → List Record → ℕ → Bool
is_named names routes place = is_filled (head_at routes place) && is_some (number_of (head_at routes place) names)

-- how many columns after the first have one of these names as their head
unfoldable pub named_count : List (List ℕ) → List Record → ℕ
named_count names routes = count_by (is_named names routes) (further routes)

-- The routes are a matrix: it has two columns or more after the first, none of them with the head
-- of a list, and no fewer of them have the name of a place than have none.
unfoldable pub is_matrix : List (List ℕ) → List Record → Bool
is_matrix names routes =
    nat_le 3 (length (heads routes))
    && (not (list_any (is_listed routes) (further routes))
    && nat_le (length (heads routes) - 1 - named_count names routes) (named_count names routes))

-- the row has a route in this column: its cell stands for one, to another place than its own
unfoldable pub is_route : List Record → ℕ → ℕ → Bool
is_route routes row place =
    not (is_nothing (cell_at routes row place)) && not (bytes_eq (cell_at routes row 0) (head_at routes place))

-- this route as a row of a list: from the place on the left to the one above, without a limit
abbrev pub route_row : List Record → ℕ → ℕ → Record
route_row routes row place = record {
  line = line_of routes row;
  cells = cell_at routes row 0 ∷ head_at routes place ∷ [] ∷ cell_at routes row place ∷ [];
}

-- the row of a list for this row and column, if there is a route
abbrev pub route_in : List Record → ℕ → ℕ → List Record
route_in routes row place = if is_route routes row place then route_row routes row place ∷ [] else []

-- the routes of a row
abbrev pub row_routes : List Record → ℕ → List Record
row_routes routes row = flat_map (route_in routes row) (further routes)

-- the heads of the list
abbrev pub heads_row : List Record → Record
heads_row routes = record {
  line = line_of routes 0;
  cells = codes "from" ∷ codes "to" ∷ codes "most" ∷ codes "cost" ∷ [];
}

-- the matrix as a list: its heads, and then the routes of each row below those of the matrix
abbrev pub listed : List Record → List Record
listed routes = heads_row routes ∷ flat_map (row_routes routes) (rows_above (length routes))

-- the routes as a list, if they are a matrix
abbrev pub routes_of : List Record → List Record → Option (List Record)
routes_of places routes = if is_matrix (place_names places) routes then Some (listed routes) else None
