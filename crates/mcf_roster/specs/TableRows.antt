-- The routes of a roster's model, as rows.
-- Source: own
use Rattle.std.specs.Prelude.{ℕ, ◌+◌, List, ◌++◌, length, map, ℤ, pos, Some, false}
use Rattle.std.specs.List.{range_with_len}
use Rattle.mcf_model.specs.declared.rows.RouteRow.{RouteRow}
use Rattle.mcf_roster.specs.declared.pairs.Pair.{Pair}
use Rattle.mcf_roster.specs.declared.pairs.Range.{Range}
use Rattle.mcf_roster.specs.Models.{hub_of, one_or_none}
use Rattle.mcf_roster.specs.Rosters.{Roster, range_at}

-- the row of a route one way, for a number of units within a range
abbrev pub plain_row : ℕ → ℕ → Range → ℤ → RouteRow
plain_row tail head r cost =
    record {
      tail = tail;
      head = head;
      first_step = 0;
      step_count = 0;
      least = pos r.least;
      last_most = Some (pos r.most);
      last_cost = cost;
      both = false;
    }

-- the row of a pair, after so many persons
abbrev pub pair_row : ℕ → Pair → RouteRow
pair_row persons p = plain_row p.who (persons + p.what) one_or_none p.cost

-- the row of a person
abbrev pub person_row : ℕ → List Range → ℕ → RouteRow
person_row hub takes v = plain_row hub v (range_at takes v) (pos 0)

-- the row of a thing, after so many persons
abbrev pub thing_row : ℕ → ℕ → List Range → ℕ → RouteRow
thing_row persons hub needs v = plain_row (persons + v) hub (range_at needs v) (pos 0)

-- the rows of the model
abbrev pub rows_of : Roster → List RouteRow
rows_of R =
    map (pair_row (length R.takes)) R.pairs
    ++ (map (person_row (hub_of R) R.takes) (range_with_len 1 (length R.takes))
    ++ map (thing_row (length R.takes) (hub_of R) R.needs) (range_with_len 1 (length R.needs)))
