-- The numbers of the routes of the model that carry what passes through places.
use Rattle.std.proofs.Common.{◌≡◌, ℕ, zero, suc, ◌+◌, ◌-◌, ◌<◌, ◌≤◌, List, [], ◌∷◌, ◌++◌, length, length-append, map, get_or, take, refl, ap, arith, subst, sym, ◌∙◌, ℤ, pos}
use Rattle.std.specs.Prelude.{Option, Some, None, option_map}
use Rattle.std.specs.Option.{option_to_list}
use Rattle.std.proofs.lemmas.List.{length-map}
use Rattle.mcf_flows.proofs.AllZips.{length-AllZip}
use Rattle.mcf_flows.specs.Network.{IsNode}
use Rattle.mcf_model.specs.Model.{MayCarry, Model, Route}
use Rattle.mcf_model.specs.Tables.{IsRouteNumber, no_route, route_at}
use Rattle.mcf_places.specs.declared.answering.LeastPlannerPlan.{LeastPlannerPlan}
use Rattle.mcf_places.specs.declared.places.Bounds.{Bounds}
use Rattle.mcf_places.specs.declared.places.Place.{Place}
use Rattle.mcf_places.specs.Answers.{IsShownIn}
use Rattle.mcf_places.specs.LimitedPlanners.{limit_for, limited, limited_bounds, limited_place}
use Rattle.mcf_places.specs.Models.{from_exit, gate_route, missings, model_of, stayings, throughs, place_at, plain_route, routes_by, through_route, with_first}
use Rattle.mcf_places.specs.Planners.{Planner}
use Rattle.mcf_plan_figures.specs.PlannerFigures.{through_number}
use Rattle.mcf_plan_figures.specs.Told.{ToldFiguresAreThePlanners}
use Rattle.mcf_range_text.proofs.AreFirsts.{AreFirst}
use Rattle.mcf_range_text.specs.PassRangeTexts.{ArePassRanges, IsPassRangeAt}
use Rattle.mcf_unit_ranges.specs.declared.ranging.UnitsRange.{UnitsRange}

abbrev no_place : Place
no_place = record { supply = pos 0; through = None; penalty = None }

-- ---- a route with a place as its tail is one of the model

inside : (rs : List Route) (i : ℕ) → 1 ≤ (get_or rs i no_route).tail → i < length rs
inside [] i h = absurd (omega (arith, h))
inside (r ∷ rs) zero h = omega arith
inside (r ∷ rs) (suc i) h = omega (arith, inside rs i h)

limited_at : (limit : Option ℤ) (ps : List Place) (i : ℕ) → get_or (map (limited_place limit) ps) i no_place ≡ limited_place limit (get_or ps i no_place)
limited_at limit [] i = refl
limited_at limit (p ∷ ps) zero = refl
limited_at limit (p ∷ ps) (suc i) = limited_at limit ps i

pub is_number : (law : ToldFiguresAreThePlanners) (P : Planner) (p : LeastPlannerPlan) → IsShownIn (limited P) p → (v : ℕ) → IsNode (length P.places) v
    → (b : Bounds) → (place_at P.places v).through ≡ Some b → IsRouteNumber p.shown.model (through_number P v)
is_number law P p shown v hv b e =
    let limit = limit_for P in
    let there : IsNode (length (limited P).places) v = (hv.0, omega (arith, hv.1, length-map P.places (limited_place limit))) in
    let bounds : (place_at (limited P).places v).through ≡ Some (limited_bounds limit b) =
    ap (λ (q : Place). q.through) (limited_at limit P.places (v - 1)) ∙ ap (option_map (limited_bounds limit)) e in
    let route = law.through_is shown.most (limited P) v (limited_bounds limit b) there bounds in
    let tail : (route_at p.shown.model (through_number P v)).tail ≡ v =
    ap (λ (m : Model). (route_at m (through_number P v)).tail) shown.model_is
    ∙ ap (λ k. (route_at (model_of shown.most (limited P)) k).tail) (sym (law.same_number P v)) ∙ ap (λ (r : Route). r.tail) route in
    (omega arith, omega (arith, inside p.shown.model.routes (through_number P v - 1) (omega (arith, tail, hv.0))))

-- ---- the next number

first_length : (o : Option Bounds) (make : Bounds → Route) (rs : List Route) → length (with_first (option_map make o) rs) ≡ length (option_to_list o) + length rs
first_length (Some b) make rs = omega arith
first_length None make rs = omega arith

pub no_more : (o : Option Bounds) → length (option_to_list o) ≤ 1
no_more (Some b) = omega arith
no_more None = omega arith

counted : (places : List Place) (v : ℕ) (ps : List Place) (i : ℕ) → i < length ps
    → length (routes_by (through_route places) v (take (suc i) ps)) ≡ length (routes_by (through_route places) v (take i ps)) + length (option_to_list (get_or ps i no_place).through)
counted places v [] i h = absurd (omega (arith, h))
counted places v (p ∷ ps) zero h =
    omega (arith, first_length p.through (λ (b : Bounds). plain_route v (length places + 2 + v) b.least b.most b.cost) [])
counted places v (p ∷ ps) (suc i) h =
    let make : Bounds → Route = λ (b : Bounds). plain_route v (length places + 2 + v) b.least b.most b.cost in
    omega (
      arith,
      first_length p.through make (routes_by (through_route places) (suc v) (take (suc i) ps)),
      first_length p.through make (routes_by (through_route places) (suc v) (take i ps)),
      counted places (suc v) ps i (omega (arith, h)),
    )

pub next_is : (P : Planner) (place number next : ℕ) → place < length P.places → number ≡ through_number P (place + 1)
    → next ≡ number + length (option_to_list (get_or P.places place no_place).through) → next ≡ through_number P (place + 1 + 1)
next_is P place number next h e f =
    let here : place + 1 - 1 ≡ place = omega arith in
    let there : place + 1 + 1 - 1 ≡ suc place = omega arith in
    let a = ap (λ i. length (routes_by (through_route P.places) 1 (take i P.places))) here in
    let b = ap (λ i. length (routes_by (through_route P.places) 1 (take i P.places))) there in
    omega (arith, e, f, a, b, counted P.places 1 P.places place h)

-- the planner's routes are routes of the model, each of which carries an amount
pub few_routes : (P : Planner) (p : LeastPlannerPlan) → IsShownIn (limited P) p → length P.routes ≤ length p.shown.carries.items
few_routes P p shown =
    let L = limited P in
    let own = map (from_exit L.places) P.routes in
    let rest = throughs L ++ (stayings L ++ (missings L ++ gate_route shown.most L ∷ [])) in
    omega (
      arith,
      ap (λ (m : Model). length m.routes) shown.model_is,
      length-append own rest,
      length-map P.routes (from_exit L.places),
      length-AllZip MayCarry p.shown.model.routes p.shown.carries.items shown.is_plan.may_carry,
    )

-- ---- all places

pub all_passes_told : (P : Planner) (p : LeastPlannerPlan) (count : ℕ) (ranges : List (Option UnitsRange)) (place : ℕ)
    → AreFirst (IsPassRangeAt P p.shown) place ranges → count ≡ length P.places → place ≡ count → ArePassRanges P p ranges
all_passes_told P p count ranges place first e f =
    let g : place ≡ length P.places = f ∙ e in
    let all = subst (λ k. AreFirst (IsPassRangeAt P p.shown) k ranges) g first in
    record { by_place = all.long; each = all.each }
