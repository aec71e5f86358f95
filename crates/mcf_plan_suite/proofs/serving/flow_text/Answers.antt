use Rattle.std.proofs.Common.{ap}
use Rattle.mcf_plan_asking.specs.PlanAsking.{word_text}
use Rattle.mcf_plan_suite.proofs.serving.flow_text.Goals as goal

pub returns : goal.returns
returns g c = record {
  penalty = c.in_ok-penalty.penalty;
  penalty_is = c.in_ok-penalty.ensures;
  places = c.in_ok-places.places;
  routes = c.in_ok-routes.routes;
  tables = record {
    place_file = c.in-Some-Some.place_file.now;
    route_file = c.in-Some-Some.route_file.now;
    between = c.read_file.new.read;
    names_places = ap word_text c.in-Some-Some.is-0;
    names_routes = ap word_text c.in-Some-Some.is-1;
    places_read = c.in_ok-places.ensures;
    routes_read = c.in_ok-routes.ensures;
  };
  answers = rw (c.word_bytes.ensures, c.deref.ensures.value, c.deref-2.ensures.value) at c.in_ok-text.ensures;
}
