-- The routes that are made for places, by their kinds.
-- Source: own
use Rattle.std.specs.Prelude.{ℕ, Bool, ◌&&◌, List, pos, int_lt, Option}
use Rattle.std.specs.Option.{is_some}
use Rattle.mcf_model.specs.Model.{Route}
use Rattle.mcf_places.specs.declared.rows.Kind.{Kind}
use Rattle.mcf_places.specs.declared.rows.Kind.TheVariants.{Through, Stay, Missing}
use Rattle.mcf_places.specs.declared.places.Place.{Place}
use Rattle.mcf_places.specs.declared.places.Policy.{Policy}
use Rattle.mcf_places.specs.Models.{hub_of, missing_route, stay_route, through_route}

-- the route that is made for a place
abbrev pub kind_route : Kind → List Place → Policy → ℕ → Place → Option Route
kind_route Through places policy = through_route places
kind_route Stay places policy = stay_route policy.unused (hub_of places)
kind_route Missing places policy = missing_route policy places

-- whether a route of a kind is made for a place
abbrev pub kind_has : Kind → Policy → Place → Bool
kind_has Through policy p = is_some p.through
kind_has Stay policy p = policy.unused && int_lt (pos 0) p.supply
kind_has Missing policy p = policy.short && int_lt p.supply (pos 0)
