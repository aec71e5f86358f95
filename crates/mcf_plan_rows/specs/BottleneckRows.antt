-- Bottlenecks as rows of a table.
-- Source: own
use Rattle.std.specs.Prelude.{ℕ, suc, ◌-◌, nat_lt, Bool, not, None, true, false, if◌then◌else◌, ◌||◌, List, [], ◌∷◌, ◌++◌, codes, decimal, length, ℤ, pos, slice_index_or}
use Rattle.std.specs.List.{flat_map, range_with_len}
use Rattle.mcf_flows.specs.declared.problem.Side.{Side}
use Rattle.mcf_flows.specs.declared.problem.Side.TheVariants.{Send, Take}
use Rattle.mcf_model.specs.Bottlenecks.{route_room}
use Rattle.mcf_model.specs.Model.{Route}
use Rattle.mcf_model.specs.Tables.{no_route}
use Rattle.mcf_places.specs.Crossings.{crossing, passing}
use Rattle.mcf_places.specs.PlannerBottlenecks.{through_least, through_most}
use Rattle.mcf_places.specs.Planners.{Planner, given, row_count, wanted}
use Rattle.mcf_places.specs.declared.crossings.Crossing.{Crossing}
use Rattle.mcf_places.specs.declared.crossings.Crossing.TheVariants.{Away, Here, Apart}
use Rattle.mcf_places.specs.declared.places.Place.{Place}
use Rattle.mcf_places.specs.declared.told.PlannerBottleneck.{PlannerBottleneck}
use Rattle.mcf_table.specs.Texts.{Record}
use Rattle.mcf_units.specs.declared.scales.Scales.{Scales}
use Rattle.mcf_answer_rows.specs.AnswerRows.{answer_row, cell_under, line_at, number_row}
use Rattle.mcf_plan_rows.specs.Cells.{amount_text, yes_or_no}
use Rattle.mcf_plan_rows.specs.FaultRows.{TwoTables}
use Rattle.mcf_plan_rows.specs.PlanRows.{balance_rows}
use Rattle.mcf_plan_rows.specs.declared.bottleneck_rows.Led.{Led}

-- the word of a side
abbrev pub side_word : Side → List ℕ
side_word Send = codes "send"
side_word Take = codes "take"

-- an amount, if it counts
abbrev pub amount_if : Bool → Scales → ℤ → List ℕ
amount_if true scales amount = amount_text scales amount
amount_if false scales amount = []

-- whether something leads away
abbrev pub is_away : Crossing → Bool
is_away Away = true
is_away Here = false
is_away Apart = false

-- whether something leads here
abbrev pub is_here : Crossing → Bool
is_here Away = false
is_here Here = true
is_here Apart = false

-- whether something leads away or here
abbrev pub is_led : Crossing → Bool
is_led crossing = is_away crossing || is_here crossing

-- ---- places

-- a place that is read past the end
abbrev pub no_place : Place
no_place = record { supply = pos 0; through = None; penalty = None }

-- of the place with a number: whether its entry is one of the bottleneck's and whether its exit is,
-- what it gives at its entry, what it wants at its exit, and the least that has to pass through it
-- here, or the most that may pass away
abbrev pub set_cells : Scales → PlannerBottleneck → Place → ℕ → List (List ℕ)
set_cells scales b p number =
    let entry = slice_index_or b.entries.items (number - 1) false in
    let exit = slice_index_or b.exits.items (number - 1) false in
    yes_or_no entry ∷ yes_or_no exit
    ∷ amount_if entry scales (given p) ∷ amount_if exit scales (wanted p)
    ∷ amount_if (is_here (passing b number)) scales (through_least p.through)
    ∷ amount_if (is_away (passing b number)) scales (through_most p.through) ∷ []

-- the place of a row: `place`, its line, its name, and these cells
abbrev pub set_row : List Record → Scales → PlannerBottleneck → Place → ℕ → List (List ℕ)
set_row places scales b p row =
    codes "place" ∷ decimal (line_at places row) ∷ cell_under (codes "name") places row ∷ set_cells scales b p row

-- ---- routes

-- the word of a route, and of what goes back on it
abbrev pub way_word : Bool → List ℕ
way_word false = codes "route"
way_word true = codes "back"

-- a route in one direction: `route` or `back`, its line, its ends, and the least that it has to
-- bring here, or the most that it can carry away
abbrev pub led_row : TwoTables → Scales → Led → List (List ℕ)
led_row two scales l =
    way_word l.back ∷ decimal (line_at two.routes l.row) ∷ cell_under (codes "name") two.places l.tail
    ∷ cell_under (codes "name") two.places l.head ∷ amount_if (is_here l.leads) scales l.least ∷ amount_if (is_away l.leads) scales l.most ∷ []

-- this route, if it leads away or here
abbrev pub led_rows : TwoTables → Scales → Led → List (List (List ℕ))
led_rows two scales l = if is_led l.leads then led_row two scales l ∷ [] else []

-- a route in its direction
abbrev pub there : PlannerBottleneck → Bool → ℕ → Route → Led
there b back row r =
    record { back = back; row = row; tail = r.tail; head = r.head; leads = crossing b r.tail r.head; least = r.least; most = route_room r }

-- a route both ways, in the other direction
abbrev pub other_way : PlannerBottleneck → ℕ → Route → Led
other_way b row r =
    record { back = true; row = row; tail = r.head; head = r.tail; leads = crossing b r.head r.tail; least = pos 0; most = route_room r }

-- the route at a place
abbrev pub route_at : Planner → ℕ → Route
route_at P place = slice_index_or P.routes place no_route

-- whether it is a way back of its own
abbrev pub is_way_back : Planner → ℕ → Bool
is_way_back P place = not (nat_lt place (row_count P))

-- its row
abbrev pub row_of : Planner → ℕ → ℕ
row_of P place = if nat_lt place (row_count P) then suc place else slice_index_or P.returning (place - row_count P) 0

-- the rows of the route at a place
abbrev pub route_led_rows : TwoTables → Planner → Scales → PlannerBottleneck → ℕ → List (List (List ℕ))
route_led_rows two P scales b place =
    let r = route_at P place in
    led_rows two scales (there b (is_way_back P place) (row_of P place) r)
    ++ (if r.both then led_rows two scales (other_way b (row_of P place) r) else [])

-- ---- all

-- the place of a row, if its entry or its exit is one of the bottleneck's
abbrev pub set_rows : List Record → Planner → Scales → PlannerBottleneck → ℕ → List (List (List ℕ))
set_rows places P scales b place =
    let entry = slice_index_or b.entries.items place false in
    let exit = slice_index_or b.exits.items place false in
    if entry || exit then set_row places scales b (slice_index_or P.places place no_place) (suc place) ∷ [] else []

-- the kind, the side, and all supplies and demands
abbrev pub side_rows : Planner → Scales → PlannerBottleneck → List (List (List ℕ))
side_rows P scales b = answer_row (codes "no plan") ∷ number_row (codes "side") (side_word b.side) ∷ balance_rows P scales

-- A bottleneck: whether its places must send, or take, more than they can; all supplies and all
-- demands; the places; and the routes that lead away or here. What these places give, less what
-- they want, and the least that comes here are more than the most that can go away, with what may
-- stay; or so with demands, where the places must take.
abbrev pub bottleneck_rows : TwoTables → Planner → Scales → PlannerBottleneck → List (List (List ℕ))
bottleneck_rows two P scales b =
    side_rows P scales b
    ++ (flat_map (set_rows two.places P scales b) (range_with_len 0 (length b.entries.items))
    ++ flat_map (route_led_rows two P scales b) (range_with_len 0 (length P.routes)))
