-- A problem over periods in finer units: each amount is k times as great, and the cost of a unit
-- stays the same.
-- Source: own
use Rattle.std.specs.Prelude.{map, ℤ, ◌*ℤ◌, option_map}
use Rattle.mcf_model.specs.Scaling.{scaled_route}
use Rattle.mcf_places.specs.FinerPlanners.{finer_place}
use Rattle.mcf_periods.specs.declared.rows.Store.{Store}
use Rattle.mcf_periods.specs.Periods.{Departure, PeriodPlan, Periods}

-- the store in finer units
abbrev pub finer_store : ℤ → Store → Store
finer_store k s = record { place = s.place; period = s.period; most = option_map (λ m. k *ℤ m) s.most; cost = s.cost }

-- the departure in finer units
abbrev pub finer_departure : ℤ → Departure → Departure
finer_departure k d = record { route = scaled_route k d.route; period = d.period; lead = d.lead }

-- the problem in units that are k times as fine
abbrev pub finer_periods : ℤ → Periods → Periods
finer_periods k P = record {
  count = P.count;
  last = P.last;
  places = map (finer_place k) P.places;
  stores = map (finer_store k) P.stores;
  departures = map (finer_departure k) P.departures;
  policy = P.policy;
}

-- the plan in units that are k times as fine
abbrev pub finer_period_plan : ℤ → PeriodPlan → PeriodPlan
finer_period_plan k x = record {
  carries = map (λ z. k *ℤ z) x.carries;
  kept = map (λ z. k *ℤ z) x.kept;
  stays = map (λ z. k *ℤ z) x.stays;
  missing = map (λ z. k *ℤ z) x.missing;
}
