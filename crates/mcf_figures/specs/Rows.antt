-- What is told of each route of a plan.
-- Source: own
use Rattle.std.specs.Prelude.{ℕ, ◌-◌, List, ℤ}
use Rattle.mcf_model.specs.Model.{Model}
use Rattle.mcf_model.specs.Tables.{route_at}
use Rattle.mcf_figures.specs.declared.rows.RowFigures.{RowFigures}
use Rattle.mcf_figures.specs.Figures.{amount_at, dearer, free, saving}
use Rattle.mcf_figures.specs.Groups.{is_exact_by}
use Rattle.mcf_figures.specs.Told.{cost_told}

-- what is told of route k: the cost of what it carries, how much more it may carry, what one more
-- unit of room saves, whether it saves just that, by the groups of places, and what it costs at
-- least to carry one more unit
abbrev pub row_told : Model → List ℤ → List ℤ → List ℕ → ℕ → RowFigures
row_told m prices plan groups k =
    record {
      cost = cost_told (route_at m k) (amount_at plan k);
      free = free (route_at m k) (amount_at plan k);
      saves = saving prices (route_at m k);
      exact = is_exact_by m groups (k - 1) (saving prices (route_at m k));
      dearer = dearer prices (route_at m k) (amount_at plan k);
    }
