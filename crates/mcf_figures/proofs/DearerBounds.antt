-- A plan in which a route carries more costs more by at least what is told of the route, and where
-- loose routes join its ends, some plan costs just that.
use Rattle.std.proofs.Common.{◌≡◌, ◌≢◌, ℕ, zero, suc, ◌-◌, ◌<◌, Bool, true, false, List, [], ◌∷◌, length, set, get_or, refl, ap, sym, ◌∙◌, subst, arith, ℤ, pos, ◌+ℤ◌, ◌-ℤ◌, ◌≤ℤ◌, if◌then◌else◌}
use Rattle.std.specs.Prelude.{Some}
use Rattle.std.specs.List.{AllZip}
use Rattle.std.proofs.Math.IntN.{◌*ℤ◌}
use Rattle.std.proofs.lemmas.Int.{ints}
use Rattle.std.proofs.lemmas.Grind.{get_or-set_at}
use Rattle.mcf_flows.specs.Network.{IsNode, at_node}
use Rattle.mcf_flows.proofs.AllZips.{AllZip-at, AllZip-set, AllZip-weaken, length-AllZip}
use Rattle.mcf_model.specs.Model.{IsSound, MayCarry, Model, Route, arriving, charged, leaving, plan_cost, plan_sum}
use Rattle.mcf_model.specs.Prices.{IsBestAt, reduced_route_cost}
use Rattle.mcf_model.specs.Tables.{IsRouteNumber, no_route, route_at}
use Rattle.mcf_figures.specs.Figures.{AreJoined, IsLoose, IsLooseLink, Link, amount_at, dearer}
use Rattle.mcf_figures.specs.FigureLaws.{DearerIsABound, HasPlanWithMore, IsPriced, JoinedDearerIsReached}
use Rattle.mcf_figures.proofs.Chains.{joined_back, made_simple, one_moved, sent}
use Rattle.mcf_figures.proofs.NextUnits.{IsRiseTo, dearer_is_the_least_rise_lem, rise_to}
use Rattle.mcf_figures.proofs.PlanSums.{have_places, plan_sum-le, plan_sum-set, reduced_total}
use Rattle.mcf_figures.proofs.Wider.{moved}

-- sums of which each term is no less, and one is greater by z at least
sum_at : (prices : List ℤ) (routes : List Route) (plan other : List ℤ) (i : ℕ) (z : ℤ) → AllZip (IsBestAt prices) routes plan → AllZip MayCarry routes other
    → i < length routes
    → (reduced_route_cost prices (get_or routes i no_route) (get_or plan i (pos 0)) +ℤ z) ≤ℤ reduced_route_cost prices (get_or routes i no_route) (get_or other i (pos 0))
    → (plan_sum (reduced_route_cost prices) routes plan +ℤ z) ≤ℤ plan_sum (reduced_route_cost prices) routes other
sum_at prices [] plan other i z best may h more = absurd (omega arith)
sum_at prices (r ∷ routes) [] other i z best may h more = absurd best
sum_at prices (r ∷ routes) (x ∷ plan) [] i z best may h more = absurd may
sum_at prices (r ∷ routes) (x ∷ plan) (y ∷ other) zero z best may h more =
    omega (
      arith,
      ints,
      more,
      plan_sum-le (IsBestAt prices) MayCarry (reduced_route_cost prices) (reduced_route_cost prices) (λ r x y b q. b.best y q) routes plan other best.1 may.1,
    )
sum_at prices (r ∷ routes) (x ∷ plan) (y ∷ other) (suc i) z best may h more =
    omega (arith, ints, (best.0).best y may.0, sum_at prices routes plan other i z best.1 may.1 (omega arith) more)

pub dearer_is_a_bound_lem : DearerIsABound
dearer_is_a_bound_lem m prices plan other k sound priced hk is above =
    let n = length m.supplies in
    let r = route_at m k in
    let x = amount_at plan k in
    let y = amount_at other k in
    let inside : k - 1 < length m.routes = omega (arith, hk.0, hk.1) in
    let best = AllZip-at (IsBestAt prices) m.routes plan (k - 1) no_route (pos 0) priced.shown inside in
    let may = AllZip-at MayCarry m.routes other (k - 1) no_route (pos 0) is.may_carry inside in
    let law = dearer_is_the_least_rise_lem in
    let told = law.told prices r x y may above in
    let rise = law.least_rise n prices r x told.0 (sound (k - 1) no_route inside) best told.1 in
    let more = sum_at prices m.routes plan other (k - 1) (told.0 *ℤ (charged r.both y -ℤ charged r.both x)) priced.shown is.may_carry inside (rise.least y may above) in
    let places = have_places n m.routes sound in
    let mine = reduced_total n m.supplies prices m.routes plan places priced.is_plan.meets_supplies in
    let its = reduced_total n m.supplies prices m.routes other places is.meets_supplies in
    (told.0, told.1, omega (arith, ints, more, mine, its))

module _ (m : Model) (prices plan : List ℤ) (k : ℕ) (z : ℤ) (sound : IsSound m) (priced : IsPriced m prices plan) (hk : IsRouteNumber m k) where
  abbrev r : Route
  r = route_at m k

  inside : k - 1 < length m.routes
  inside = omega (arith, hk.0, hk.1)

  may : AllZip MayCarry m.routes plan
  may = AllZip-weaken (IsBestAt prices) MayCarry (λ r x b. b.may_carry) m.routes plan priced.shown

  -- the route takes one unit more, which comes back by other loose routes
  one_round : (back : Bool) → AreJoined prices m plan (if back then r.tail else r.head) (if back then r.head else r.tail) → IsRiseTo prices r (amount_at plan k) z back
      → ((l : Link) → IsLooseLink prices m plan l → l.route ≢ k) → HasPlanWithMore m plan k (plan_cost m plan +ℤ z)
  one_round back joined rise apart =
      let n = length m.supplies in
      let to = if back then r.tail else r.head in
      let from = if back then r.head else r.tail in
      let simple = made_simple m (IsLooseLink prices m plan) to from joined.links joined.loose joined.chain in
      let found = sent prices m plan may to from simple.links simple.each simple.simple in
      let old = found.0 in
      let s = found.1 in
      let kept : amount_at old k ≡ amount_at plan k = s.others k hk.0 (λ j d h. apart (get_or simple.links j d) (simple.each j d h)) in
      let within : k - 1 < length old = omega (arith, inside, length-AllZip MayCarry m.routes old s.may) in
      let x = amount_at old k in
      let new = set old (k - 1) (moved back x) in
      let rise' : IsRiseTo prices r x z back = subst (λ y. IsRiseTo prices r y z back) (sym kept) rise in
      let meets : (v : ℕ) → IsNode n v → leaving m.routes new v -ℤ arriving m.routes new v ≡ at_node m.supplies v = λ v h. omega (arith, ints, one_moved m.routes old (k - 1) back v inside within, s.moves v, priced.is_plan.meets_supplies v h) in
      let sums = plan_sum-set (reduced_route_cost prices) m.routes old (k - 1) (moved back x) inside within in
      let places = have_places n m.routes sound in
      let mine = reduced_total n m.supplies prices m.routes plan places priced.is_plan.meets_supplies in
      let its = reduced_total n m.supplies prices m.routes new places meets in
      let now : amount_at new k ≡ moved back x = get_or-set_at old (k - 1) (k - 1) (moved back x) (pos 0) refl within in
      record {
        other = new;
        is_plan = record {
          may_carry = AllZip-set MayCarry m.routes old (k - 1) no_route (moved back x) inside s.may rise'.may;
          meets_supplies = meets;
        };
        one_more = ap (charged r.both) now ∙ rise'.one_more ∙ ap (λ y. charged r.both y +ℤ pos 1) kept;
        cost_is = omega (arith, ints, mine, its, sums, rise'.rises, s.same_cost);
      }

  reached : dearer prices r (amount_at plan k) ≡ Some z → ¬ IsLoose prices r (amount_at plan k) → AreJoined prices m plan r.tail r.head
      → HasPlanWithMore m plan k (plan_cost m plan +ℤ z)
  reached told tight joined =
      let best = AllZip-at (IsBestAt prices) m.routes plan (k - 1) no_route (pos 0) priced.shown inside in
      let found = rise_to (length m.supplies) prices r (amount_at plan k) (sound (k - 1) no_route inside) best z told in
      one_round found.0 (ends found.0) found.1 (λ l loose e. tight (subst (λ j. IsLoose prices (route_at m j) (amount_at plan j)) e loose.loose))
    where
      ends : (back : Bool) → AreJoined prices m plan (if back then r.tail else r.head) (if back then r.head else r.tail)
      ends true = joined
      ends false = joined_back prices m plan r.tail r.head joined

pub joined_dearer_is_reached_lem : JoinedDearerIsReached
joined_dearer_is_reached_lem m prices plan k z sound priced hk told around = reached m prices plan k z sound priced hk told around.not_loose around.joined
