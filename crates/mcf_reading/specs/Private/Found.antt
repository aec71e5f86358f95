-- What loops over rows and cells have read so far.
use Rattle.std.specs.Prelude.{ℕ, ◌+◌, ◌≤◌, if◌then◌else◌, List, length, take, drop, fold, Option, Some, None, Result, Ok}
use Rattle.mcf_decimal.specs.Marks.{other}
use Rattle.mcf_decimal.specs.Numbers.{mark_in}
use Rattle.mcf_decimal.specs.Settled.{is_the}
use Rattle.mcf_decimal.specs.declared.mark.Mark.{Mark}
use Rattle.mcf_reading.specs.ShownMarks.{Located, unless_both}
use Rattle.mcf_reading.specs.declared.kinds.Fault.{Fault}
use Rattle.mcf_reading.specs.declared.locations.Location.{Location}
use Rattle.mcf_reading.specs.declared.marks.Shown.{Shown}
use Rattle.mcf_reading.specs.declared.route_rows.RouteRead.{RouteRead}
use Rattle.mcf_reading.specs.declared.route_rows.RouteRow.{RouteRow}
use Rattle.mcf_reading.specs.Cells.{amount}
use Rattle.mcf_reading.specs.declared.steps.StepEntry.{StepEntry}
use Rattle.mcf_reading.specs.RouteRows.{Route}

-- no mark yet
abbrev pub none_shown : Shown
none_shown = record { mark = None; other = None }

-- the location of a cell that shows the other mark than the first
abbrev pub other_at : Mark → Location → Option Mark → Option Location
other_at first location shown = if is_the (other first) shown then Some location else None

-- the marks of the cells before, and of one that shows this mark
abbrev pub with_mark : Option Mark → Option Location → Location → Option Mark → Shown
with_mark None found location shown = record { mark = shown; other = None }
with_mark (Some first) (Some found) location shown = record { mark = Some first; other = Some found }
with_mark (Some first) None location shown = record { mark = Some first; other = other_at first location shown }

-- the marks of the cells before, and of one more
abbrev pub with_cell : Shown → Located → Shown
with_cell shown cell = with_mark shown.mark shown.other cell.at (mark_in cell.cell)

-- the marks of the cells before, and of more
unfoldable pub with_cells : Shown → List Located → Shown
with_cells shown cells = fold with_cell shown cells

-- the mark that is settled
abbrev pub settled_by : Option Mark → Option Location → Result (Option Mark) Fault
settled_by None found = Ok None
settled_by (Some mark) found = unless_both mark found

-- the route of a row of numbers, in the table of all steps
abbrev pub route_in : List StepEntry → RouteRow → Route
route_in steps row = record {
  tail = row.tail;
  head = row.head;
  least = row.least;
  steps = take row.count (drop row.first steps);
  both = row.both;
}

-- the steps of the row are among so many
abbrev pub IsWithin : List StepEntry → RouteRow → Type 0
IsWithin steps row = row.first + row.count ≤ length steps

-- the row of a route with so many steps, from this one on
abbrev pub route_row : RouteRead → ℕ → ℕ → RouteRow
route_row read first count = record {
  tail = read.tail.place;
  head = read.head.place;
  least = amount read.least;
  first = first;
  count = count;
  both = read.both;
}
