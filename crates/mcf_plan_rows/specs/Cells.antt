-- Amounts, costs and figures as cells.
-- Source: own
use Rattle.std.specs.Prelude.{ℕ, ◌+◌, ◌-◌, ◌^◌, min, Bool, if◌then◌else◌, List, [], ◌∷◌, codes, decimal, ℤ, Option, Some, None}
use Rattle.mcf_decimal.specs.Written.{decimal_text}
use Rattle.mcf_figures.specs.declared.rows.RowFigures.{RowFigures}
use Rattle.mcf_plan_figures.specs.declared.figures.PassFigures.{PassFigures}
use Rattle.mcf_plan_figures.specs.declared.figures.PlaceFigures.{PlaceFigures}
use Rattle.mcf_units.specs.declared.scales.Scales.{Scales}

-- an amount in the units of the tables
abbrev pub amount_text : Scales → ℤ → List ℕ
amount_text scales amount = decimal_text amount scales.amounts

-- a cost in the units of the tables, whose decimals are those of amounts and of costs together; no
-- text has as many as 2 ^ 32
abbrev pub cost_text : Scales → ℤ → List ℕ
cost_text scales cost = decimal_text cost (min (scales.amounts + scales.costs) (2 ^ 32 - 1))

-- what one unit costs or saves, in the units of the tables
abbrev pub rate_text : Scales → ℤ → List ℕ
rate_text scales rate = decimal_text rate scales.costs

-- yes or no
abbrev pub yes_or_no : Bool → List ℕ
yes_or_no given = if given then codes "yes" else codes "no"

-- a number as a cell, which is empty if there is none
abbrev pub text_if : (ℤ → List ℕ) → Option ℤ → List ℕ
text_if text (Some number) = text number
text_if text None = []

-- ---- figures; a cell is empty if they don't say what it tells

-- the cost of what is carried
abbrev pub cost_cell : Scales → Option RowFigures → List ℕ
cost_cell scales (Some told) = text_if (cost_text scales) told.cost
cost_cell scales None = []

-- how much more may be carried
abbrev pub free_cell : Scales → Option RowFigures → List ℕ
free_cell scales (Some told) = text_if (amount_text scales) told.free
free_cell scales None = []

-- what one more unit of room saves at most
abbrev pub saves_cell : Scales → Option RowFigures → List ℕ
saves_cell scales (Some told) = rate_text scales told.saves
saves_cell scales None = []

-- whether it saves just that
abbrev pub exact_cell : Option RowFigures → List ℕ
exact_cell (Some told) = yes_or_no told.exact
exact_cell None = []

-- what it costs at least to carry one more unit
abbrev pub dearer_cell : Scales → Option RowFigures → List ℕ
dearer_cell scales (Some told) = text_if (rate_text scales) told.dearer
dearer_cell scales None = []

-- the cost of what is carried, how much more may be, what one more unit of room saves at most,
-- whether it saves just that, and what it costs at least to carry one more unit
abbrev pub figure_cells : Scales → Option RowFigures → List (List ℕ)
figure_cells scales told =
    cost_cell scales told ∷ free_cell scales told ∷ saves_cell scales told ∷ exact_cell told ∷ dearer_cell scales told ∷ []

-- what one more unit of demand costs at a place
abbrev pub demand_cell : Scales → Option PlaceFigures → List ℕ
demand_cell scales (Some told) = rate_text scales told.costs
demand_cell scales None = []

-- the number of the place's group
abbrev pub group_cell : Option PlaceFigures → List ℕ
group_cell (Some told) = decimal told.group
group_cell None = []

-- what is told of what passes through a place, if anything is
abbrev pub passes_in : Option PlaceFigures → Option PassFigures
passes_in (Some told) = told.passes
passes_in None = None

-- how much passes
abbrev pub passes_cell : Scales → Option PassFigures → List ℕ
passes_cell scales (Some told) = amount_text scales told.amount
passes_cell scales None = []

-- its figures
abbrev pub row_in : Option PassFigures → Option RowFigures
row_in (Some told) = Some told.row
row_in None = None

-- what one more unit of demand costs, the group, how much passes, and its figures
abbrev pub place_cells : Scales → Option PlaceFigures → List (List ℕ)
place_cells scales told =
    demand_cell scales told ∷ group_cell told ∷ passes_cell scales (passes_in told) ∷ figure_cells scales (row_in (passes_in told))
