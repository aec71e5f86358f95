-- The span of a route at given prices: the amounts of least reduced cost, which lie side by side.
-- Source: own, after AMO 9.3 (complementary slackness)
use Rattle.std.specs.Prelude.{Bool, ◌&&◌, List, [], ◌∷◌, if◌then◌else◌, int_le, int_lt, ℤ, pos, ◌+ℤ◌, Option, Some, option_map}
use Rattle.std.specs.Int.{int_max}
use Rattle.std.specs.Ordering.{int_eq}
use Rattle.mcf_model.specs.declared.rows.Step.{Step}
use Rattle.mcf_model.specs.Bottlenecks.{limit_or_zero}
use Rattle.mcf_model.specs.Faults.{first_cost}
use Rattle.mcf_model.specs.Model.{Route}
use Rattle.mcf_model.specs.Prices.{price_drop}

-- the room of the first steps, as far as a unit of them costs less than z
abbrev pub room_below : ℤ → List Step → ℤ → Option ℤ → ℤ
room_below z [] last_cost last_most = if int_lt last_cost z then limit_or_zero last_most else pos 0
room_below z (s ∷ steps) last_cost last_most =
    if int_lt s.cost z then s.most +ℤ room_below z steps last_cost last_most else pos 0

-- the room of the first steps, as far as a unit of them costs no more than z; none is no limit
abbrev pub room_up_to : ℤ → List Step → ℤ → Option ℤ → Option ℤ
room_up_to z [] last_cost last_most = if int_le last_cost z then last_most else Some (pos 0)
room_up_to z (s ∷ steps) last_cost last_most =
    if int_le s.cost z then option_map (λ x. s.most +ℤ x) (room_up_to z steps last_cost last_most) else Some (pos 0)

-- the lowest amount of least reduced cost, if the price drops by z: at least the least amount, and
-- all units that cost less than the drop
abbrev pub lowest : ℤ → Route → ℤ
lowest z r =
    if int_lt (first_cost r.steps r.last_cost) z then int_max r.least (room_below z r.steps r.last_cost r.last_most) else r.least

-- the highest one: at least the least amount, and all units that cost no more than the drop
abbrev pub highest : ℤ → Route → Option ℤ
highest z r =
    if int_le (first_cost r.steps r.last_cost) z then option_map (λ x. int_max r.least x) (room_up_to z r.steps r.last_cost r.last_most)
    else Some r.least

-- a route both ways is used in the direction in which the price drops: here, back
abbrev pub goes_back : List ℤ → Route → Bool
goes_back prices r = r.both && int_lt (price_drop prices r) (pos 0)

-- the route in its other direction
abbrev pub turned : Route → Route
turned r = record r { tail = r.head; head = r.tail }

-- the route in the direction in which the price drops
abbrev pub directed : List ℤ → Route → Route
directed prices r = if goes_back prices r then turned r else r

-- the route that carries, at no cost, what a route whose price drops carries at least reduced cost;
-- if the price stays, a route both ways carries it both ways
abbrev pub span_of : List ℤ → Route → Route
span_of prices r =
    record {
      tail = r.tail;
      head = r.head;
      least = lowest (price_drop prices r) r;
      steps = [];
      last_most = highest (price_drop prices r) r;
      last_cost = pos 0;
      both = r.both && int_eq (price_drop prices r) (pos 0);
    }

-- the span of a route
abbrev pub span : List ℤ → Route → Route
span prices r = span_of prices (directed prices r)
