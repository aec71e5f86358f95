-- Which mark the cells of tables show.
-- Source: own
use Rattle.std.specs.Prelude.{ℕ, Bool, true, false, if◌then◌else◌, List, length, position, min, max, Option, Some, None}
use Rattle.mcf_decimal.specs.Numbers.{mark_in}
use Rattle.mcf_decimal.specs.declared.mark.Mark.{Mark}
use Rattle.mcf_decimal.specs.declared.mark.Mark.TheVariants.{Point, Comma}
use Rattle.mcf_decimal.specs.declared.settled.Marks.{Marks}
use Rattle.mcf_decimal.specs.declared.settled.Settled.{Settled}
use Rattle.mcf_decimal.specs.declared.settled.Settled.TheVariants.{Open, One, Both}

-- it is this mark
abbrev pub is_the : Mark → Option Mark → Bool
is_the Point (Some Point) = true
is_the Comma (Some Comma) = true
is_the mark shown = false

-- the cell shows this mark
unfoldable pub shows : Mark → List ℕ → Bool
shows mark cell = is_the mark (mark_in cell)

-- how many cells there are, and the places of the first that show a point and a comma, from 0
unfoldable pub marks_of : List (List ℕ) → Marks
marks_of cells = record {
  seen = length cells;
  point = position (shows Point) cells;
  comma = position (shows Comma) cells;
}

-- the place that was found before, or else this one, if the mark is shown here
abbrev pub first_place : Option ℕ → Bool → ℕ → Option ℕ
first_place (Some found) is_shown place = Some found
first_place None is_shown place = if is_shown then Some place else None

-- the mark of the places of the first cells that show one; both, in the order of these cells
abbrev pub shown_mark : Option ℕ → Option ℕ → Settled
shown_mark None None = Open
shown_mark (Some point) None = One Point
shown_mark None (Some comma) = One Comma
shown_mark (Some point) (Some comma) = Both (min point comma) (max point comma)

-- the mark that is named, or else the one that the cells show
abbrev pub settled : Option Mark → Marks → Settled
settled (Some mark) marks = One mark
settled None marks = shown_mark marks.point marks.comma
