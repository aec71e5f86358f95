-- What leads away from the places of a bottleneck, and what leads here: out of places that must
-- send, and into them; for places that must take, the other way round.
-- Source: own, after AMO 6.7
use Rattle.std.specs.Prelude.{ℕ, Bool, if◌then◌else◌}
use Rattle.mcf_flows.specs.declared.problem.Side.{Side}
use Rattle.mcf_flows.specs.declared.problem.Side.TheVariants.{Send, Take}
use Rattle.mcf_places.specs.Answers.{set_in}
use Rattle.mcf_places.specs.PlannerBottlenecks.{PlaceSet, leads_in, leads_out, passes_in, passes_out}
use Rattle.mcf_places.specs.declared.crossings.Crossing.{Crossing}
use Rattle.mcf_places.specs.declared.crossings.Crossing.TheVariants.{Away, Here, Apart}
use Rattle.mcf_places.specs.declared.told.PlannerBottleneck.{PlannerBottleneck}

-- away, here, or neither
abbrev pub crossing_by : Bool → Bool → Crossing
crossing_by away here = if away then Away else if here then Here else Apart

-- where a route between two places leads
abbrev pub crossing_of : PlaceSet → Side → ℕ → ℕ → Crossing
crossing_of set Send tail head = crossing_by (leads_out set tail head) (leads_in set tail head)
crossing_of set Take tail head = crossing_by (leads_in set tail head) (leads_out set tail head)

-- where it leads, by the places of a bottleneck
abbrev pub crossing : PlannerBottleneck → ℕ → ℕ → Crossing
crossing b tail head = crossing_of (set_in b) b.side tail head

-- where that leads which passes through a place
abbrev pub passing_of : PlaceSet → Side → ℕ → Crossing
passing_of set Send v = crossing_by (passes_out set v) (passes_in set v)
passing_of set Take v = crossing_by (passes_in set v) (passes_out set v)

-- where it leads, by the places of a bottleneck
abbrev pub passing : PlannerBottleneck → ℕ → Crossing
passing b v = passing_of (set_in b) b.side v
