-- A model in finer units: each amount is k times as great, and the cost of a unit stays the same.
-- Source: own
use Rattle.std.specs.Prelude.{map, ℤ, ◌*ℤ◌, option_map}
use Rattle.mcf_model.specs.declared.rows.Step.{Step}
use Rattle.mcf_model.specs.Model.{Model, Route}

-- the step in finer units
abbrev pub scaled_step : ℤ → Step → Step
scaled_step k s = record { most = k *ℤ s.most; cost = s.cost }

-- the route in finer units
abbrev pub scaled_route : ℤ → Route → Route
scaled_route k r =
    record {
      tail = r.tail;
      head = r.head;
      least = k *ℤ r.least;
      steps = map (scaled_step k) r.steps;
      last_most = option_map (λ m. k *ℤ m) r.last_most;
      last_cost = r.last_cost;
      both = r.both;
    }

-- the model in units that are k times as fine
abbrev pub scaled : ℤ → Model → Model
scaled k m = record { supplies = map (λ z. k *ℤ z) m.supplies; routes = map (scaled_route k) m.routes }
