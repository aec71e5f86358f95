-- The places in all periods, and what they may keep.
-- Source: own
use Rattle.std.specs.Prelude.{ℕ, ◌-◌, ◌==◌, Bool, if◌then◌else◌, List, [], ◌∷◌, length, map, Option, Some, None}
use Rattle.std.specs.List.{flat_map, range_with_len}
use Rattle.mcf_period_reading.specs.Spots.{row_in}
use Rattle.mcf_period_reading.specs.declared.spots.Spot.{Spot}
use Rattle.mcf_periods.specs.declared.rows.Store.{Store}
use Rattle.mcf_places.specs.declared.places.Place.{Place}
use Rattle.mcf_units.specs.Wholes.{place_number}
use Rattle.mcf_units.specs.declared.scales.Scales.{Scales}
use Rattle.mcf_period_units.specs.Numbering.{first_row_of, place_rows, spots_of}
use Rattle.mcf_period_units.specs.PeriodEntries.{PeriodEntries}
use Rattle.mcf_period_units.specs.Spans.{named, period_count, span_of, told_in}
use Rattle.mcf_period_units.specs.UnitRows.{earning_in, keep_over, place_over, row_at, unit_rows}
use Rattle.mcf_period_units.specs.declared.origins.PlaceOrigin.{PlaceOrigin}
use Rattle.mcf_period_units.specs.declared.origins.StoreOrigin.{StoreOrigin}
use Rattle.mcf_period_units.specs.declared.spans.Span.{Span}
use Rattle.mcf_period_units.specs.declared.unit_rows.UnitKeep.{UnitKeep}
use Rattle.mcf_period_units.specs.declared.unit_rows.UnitRow.{UnitRow}

-- the row that holds for place v in a period; 0 if none does
abbrev pub holder : List Spot → List ℕ → ℕ → ℕ → ℕ
holder spots firsts period v = row_in spots (first_row_of firsts v) period

-- the row by which place v is told in a period of the problem
abbrev pub teller : Span → List Spot → List ℕ → ℕ → ℕ → ℕ
teller span spots firsts period v = holder spots firsts (told_in span.last (named span period)) v

-- place v in a period of the problem: as the row says that tells it; it gives and wants nothing,
-- and has no bounds, if none does
abbrev pub place_in_period : Span → List UnitRow → List Spot → List ℕ → ℕ → ℕ → Place
place_in_period span rows spots firsts period v =
    place_over span.last (row_at rows (teller span spots firsts period v)) (named span period)

-- where it comes from
abbrev pub place_origin : Span → List Spot → List ℕ → ℕ → ℕ → PlaceOrigin
place_origin span spots firsts period v = record {
  first = place_number (first_row_of firsts v);
  row = place_number (teller span spots firsts period v);
  period = place_number (named span period);
}

-- all places in a period
abbrev pub period_places : Span → List UnitRow → List Spot → List ℕ → ℕ → List Place
period_places span rows spots firsts period =
    map (place_in_period span rows spots firsts period) (range_with_len 1 (length firsts))

-- where they come from
abbrev pub period_origins : Span → List Spot → List ℕ → ℕ → List PlaceOrigin
period_origins span spots firsts period = map (place_origin span spots firsts period) (range_with_len 1 (length firsts))

-- the places in the first period of the problem, then those in the second, and so on
abbrev pub all_places : Span → List UnitRow → List Spot → List ℕ → List Place
all_places span rows spots firsts = flat_map (period_places span rows spots firsts) (range_with_len 1 (period_count span))

-- where they come from
abbrev pub all_origins : Span → List Spot → List ℕ → List PlaceOrigin
all_origins span spots firsts = flat_map (period_origins span spots firsts) (range_with_len 1 (period_count span))

-- those of the tables
abbrev pub places_over : Scales → PeriodEntries → List Place
places_over s E = all_places (span_of E) (unit_rows s E) (spots_of E.places) (place_rows E.places)

-- where they come from
abbrev pub origins_over : PeriodEntries → List PlaceOrigin
origins_over E = all_origins (span_of E) (spots_of E.places) (place_rows E.places)

-- ---- stores

-- what place v may keep after a period of the problem, if it may keep something
abbrev pub store_by : Option UnitKeep → ℕ → ℕ → List Store
store_by None period v = []
store_by (Some keep) period v = record { place = place_number v; period = place_number period; most = keep.most; cost = keep.cost } ∷ []

-- where that comes from
abbrev pub store_origin_by : Option UnitKeep → ℕ → ℕ → List StoreOrigin
store_origin_by None row period = []
store_origin_by (Some keep) row period = record { row = place_number row; period = place_number period } ∷ []

-- what place v may keep after a period
abbrev pub place_keep : Bool → Span → List UnitRow → List Spot → List ℕ → ℕ → ℕ → Option UnitKeep
place_keep limited span rows spots firsts period v =
    keep_over limited span.last (row_at rows (teller span spots firsts period v)) (named span period)

-- the same as a list
abbrev pub place_store : Bool → Span → List UnitRow → List Spot → List ℕ → ℕ → ℕ → List Store
place_store limited span rows spots firsts period v = store_by (place_keep limited span rows spots firsts period v) period v

-- the row of which a place is told: the one that holds, or else the one that names it first
abbrev pub row_or_first : ℕ → ℕ → ℕ
row_or_first row first = if row == 0 then first else row

-- where that comes from
abbrev pub place_store_origin : Bool → Span → List UnitRow → List Spot → List ℕ → ℕ → ℕ → List StoreOrigin
place_store_origin limited span rows spots firsts period v =
    store_origin_by (place_keep limited span rows spots firsts period v)
    (row_or_first (teller span spots firsts period v) (first_row_of firsts v)) (named span period)

-- what all places may keep after a period
abbrev pub period_stores : Bool → Span → List UnitRow → List Spot → List ℕ → ℕ → List Store
period_stores limited span rows spots firsts period =
    flat_map (place_store limited span rows spots firsts period) (range_with_len 1 (length firsts))

-- where that comes from
abbrev pub period_store_origins : Bool → Span → List UnitRow → List Spot → List ℕ → ℕ → List StoreOrigin
period_store_origins limited span rows spots firsts period =
    flat_map (place_store_origin limited span rows spots firsts period) (range_with_len 1 (length firsts))

-- what places may keep after each period but the last
abbrev pub all_stores : Bool → Span → List UnitRow → List Spot → List ℕ → List Store
all_stores limited span rows spots firsts =
    flat_map (period_stores limited span rows spots firsts) (range_with_len 1 (period_count span - 1))

-- where that comes from
abbrev pub all_store_origins : Bool → Span → List UnitRow → List Spot → List ℕ → List StoreOrigin
all_store_origins limited span rows spots firsts =
    flat_map (period_store_origins limited span rows spots firsts) (range_with_len 1 (period_count span - 1))

-- what the places of the tables may keep
abbrev pub stores_over : Scales → PeriodEntries → List Store
stores_over s E = all_stores (earning_in s E) (span_of E) (unit_rows s E) (spots_of E.places) (place_rows E.places)

-- where that comes from
abbrev pub store_origins_over : Scales → PeriodEntries → List StoreOrigin
store_origins_over s E = all_store_origins (earning_in s E) (span_of E) (unit_rows s E) (spots_of E.places) (place_rows E.places)
