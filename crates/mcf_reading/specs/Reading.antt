-- What the two tables say.
-- Source: own
use Rattle.std.specs.Prelude.{ℕ, false, List, [], ◌∷◌, ◌++◌, slice_index_or, Option, Result, Ok, Err}
use Rattle.mcf_reading.specs.Cells.{zero_decimal}
use Rattle.mcf_decimal.specs.declared.mark.Mark.{Mark}
use Rattle.mcf_table.specs.Texts.{Record}
use Rattle.mcf_reading.specs.Columns.{all_step_columns, place_columns, route_columns}
use Rattle.mcf_reading.specs.Faults.{beyond_faults, column_faults}
use Rattle.mcf_reading.specs.NearHeads.{near_faults}
use Rattle.mcf_reading.specs.ShownMarks.{number_cells, settled_mark}
use Rattle.mcf_reading.specs.PlaceRows.{all_place_faults, place_entries, place_names}
use Rattle.mcf_reading.specs.RouteRows.{Route, all_route_faults, route_entries}
use Rattle.mcf_reading.specs.declared.kinds.Fault.{Fault}
use Rattle.mcf_reading.specs.declared.locations.Table.TheVariants.{Places, Routes}
use Rattle.mcf_reading.specs.declared.place_rows.PlaceEntry.{PlaceEntry}

-- the mark before decimals, if one is named or shown, the places and the routes
pub record Entries : Type 0 where
  pub mark : Option Mark
  pub places : List PlaceEntry
  pub routes : List Route

-- the names of the places
abbrev pub names : List Record → List (List ℕ)
names places = place_names (place_columns places) places

-- what the rows say
abbrev pub entries : Option Mark → List Record → List Record → Entries
entries mark places routes = record {
  mark = mark;
  places = place_entries mark (place_columns places) places;
  routes = route_entries mark (route_columns routes) (all_step_columns routes) (names places) routes;
}

-- The faults of the heads of both tables, in order: those of the heads that are looked for, and
-- those of columns that aren't read because their heads are only nearly these.
abbrev pub head_faults : List Record → List Record → List Fault
head_faults places routes =
    column_faults Places places ++ column_faults Routes routes ++ near_faults Places places ++ near_faults Routes routes

-- The faults of cells, in order: those beyond the last head of each table, those of the rows of
-- places, and those of the rows of routes.
abbrev pub cell_faults : Option Mark → List Record → List Record → List Fault
cell_faults mark places routes =
    beyond_faults Places places ++ beyond_faults Routes routes
    ++ all_place_faults mark (place_columns places) (names places) places
    ++ all_route_faults mark (route_columns routes) (all_step_columns routes) (names places) routes

-- these faults, or what is said if there are none
abbrev pub unless : {A : Type 0} → List Fault → Result A (List Fault) → Result A (List Fault)
unless [] said = said
unless (fault ∷ faults) said = Err (fault ∷ faults)

-- the mark that was settled, or the fault of a second one alone
abbrev pub mark_or_fault : Result (Option Mark) Fault → Result (Option Mark) (List Fault)
mark_or_fault (Ok mark) = Ok mark
mark_or_fault (Err fault) = Err (fault ∷ [])

-- The mark before decimals that is named, or else the one that cells show, if one does; or the
-- faults of heads, if there are some; or else the fault of a second mark, if cells show both.
abbrev pub read_heads : Option Mark → List Record → List Record → Result (Option Mark) (List Fault)
read_heads named places routes =
    unless (head_faults places routes) (mark_or_fault (settled_mark named (number_cells places routes)))

-- what the rows say under a mark; or the faults of cells, if there are some
abbrev pub read_rows : Option Mark → List Record → List Record → Result Entries (List Fault)
read_rows mark places routes = unless (cell_faults mark places routes) (Ok (entries mark places routes))

-- what the rows say under the mark that was read
abbrev pub read_under : Result (Option Mark) (List Fault) → List Record → List Record → Result Entries (List Fault)
read_under (Ok mark) places routes = read_rows mark places routes
read_under (Err faults) places routes = Err faults

-- What the tables say: the faults of their heads, if there are some; or the fault of a second mark,
-- if none is named and cells show both; or the faults of cells, if there are some; or else places
-- and routes.
abbrev pub read_tables : Option Mark → List Record → List Record → Result Entries (List Fault)
read_tables named places routes = read_under (read_heads named places routes) places routes

-- a route without steps, for places beyond the last
abbrev pub no_route : Route
no_route = record { tail = 0; head = 0; least = zero_decimal; steps = []; both = false }

-- the route at this place, from 0
abbrev pub route_at : Entries → ℕ → Route
route_at said place = slice_index_or said.routes place no_route
