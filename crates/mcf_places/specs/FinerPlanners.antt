-- A problem in finer units: each amount is k times as great, and the cost of a unit stays the same.
-- Source: own
use Rattle.std.specs.Prelude.{map, ℤ, ◌*ℤ◌, option_map}
use Rattle.mcf_model.specs.Scaling.{scaled_route}
use Rattle.mcf_places.specs.declared.places.Bounds.{Bounds}
use Rattle.mcf_places.specs.declared.places.Place.{Place}
use Rattle.mcf_places.specs.Planners.{Plan, Planner}

-- the bounds in finer units
abbrev pub finer_bounds : ℤ → Bounds → Bounds
finer_bounds k b = record { least = k *ℤ b.least; most = option_map (λ m. k *ℤ m) b.most; cost = b.cost }

-- the place in finer units
abbrev pub finer_place : ℤ → Place → Place
finer_place k p = record p { supply = k *ℤ p.supply; through = option_map (finer_bounds k) p.through }

-- the problem in units that are k times as fine
abbrev pub finer : ℤ → Planner → Planner
finer k P =
    record {
      places = map (finer_place k) P.places;
      routes = map (scaled_route k) P.routes;
      returning = P.returning;
      policy = P.policy;
    }

-- the plan in units that are k times as fine
abbrev pub finer_plan : ℤ → Plan → Plan
finer_plan k x =
    record {
      carries = map (λ z. k *ℤ z) x.carries;
      stays = map (λ z. k *ℤ z) x.stays;
      missing = map (λ z. k *ℤ z) x.missing;
    }
