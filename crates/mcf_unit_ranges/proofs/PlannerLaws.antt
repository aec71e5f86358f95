-- What holds in a planner's problem for how many units is what holds in its model.
use Rattle.std.proofs.Common.{◌≡◌, ℕ, ◌-◌, ◌<◌, eqb, List, [], ◌∷◌, ◌++◌, length, map, set, refl, ap, sym, ◌∙◌, subst, arith, ℤ, pos, neg_ℤ, ◌+ℤ◌, ◌-ℤ◌, ◌≤ℤ◌, length-append}
use Rattle.std.proofs.Math.IntN.{◌*ℤ◌}
use Rattle.std.proofs.lemmas.Int.{ints}
use Rattle.std.proofs.lemmas.List.{get_or-map, get_or_append_left, length-map, map-set, set-append_left}
use Rattle.std.proofs.lemmas.List.Elements.{All-cons, All-set}
use Rattle.mcf_flows.specs.Network.{IsNode, at_node, when}
use Rattle.mcf_flows.proofs.IntLaws.{mul-add, zero-mul}
use Rattle.mcf_model.specs.Model.{IsPlan as IsModelPlan, IsSoundRoute, Model, Route, plan_cost}
use Rattle.mcf_model.specs.Scaling.{scaled, scaled_route}
use Rattle.mcf_model.specs.Tables.{no_route, route_at}
use Rattle.mcf_figures.specs.FigureLaws.{HasPlanAt as HasModelPlanAt, IsPriced}
use Rattle.mcf_figures.specs.Figures.{saving}
use Rattle.mcf_places.specs.declared.places.Place.{Place}
use Rattle.mcf_places.specs.FinerPlanners.{finer}
use Rattle.mcf_places.specs.Models.{entry_supply, exit_of, exit_supply, from_exit, gate_route, hub_supply, missings, model_of, plan_of, routes_of, some_bounds, stayings, supplies_of, throughs, with_exits}
use Rattle.mcf_places.specs.PlannerLaws.{IsSound, PlannersAreModels, ReturnsFreely, SoundPlannersHaveSoundModels}
use Rattle.mcf_places.specs.Planners.{Planner, cost}
use Rattle.mcf_plan_figures.specs.Changes.{route_in}
use Rattle.mcf_plan_figures.specs.PlannerFigureLaws.{HasPlanAt}
use Rattle.mcf_plan_figures.specs.PlannerFigures.{route_saves}
use Rattle.mcf_unit_ranges.specs.Changes.{wider, with_room, with_units}
use Rattle.mcf_unit_ranges.specs.PlannerUnits.{RouteSavingHoldsFor, RouteSavingsAreTheModels, UnitsAreTheModels, UnitsHoldFor, just_units, with_route_rooms, with_units_between}
use Rattle.mcf_unit_ranges.specs.UnitRanges.{HoldsFor, SavingHoldsFor, told_cost}
use Rattle.mcf_places.proofs.FinerModels.{model_finer, sound_finer}
use Rattle.mcf_unit_ranges.proofs.Products.{mul-assoc}
use Rattle.mcf_unit_ranges.proofs.RoomUnits.{wider_sound}
use Rattle.mcf_unit_ranges.proofs.Supplies.{as_long_finer, finer_at, finer_supply, unit_at, units_at}

-- ---- plans of a problem and of its model

module _ (law : PlannersAreModels) (most : ℤ) (P : Planner) (m : Model) (total : ℤ) (sound : IsSound P) (e : model_of most P ≡ m) where
  plan_to : HasPlanAt most P total → HasModelPlanAt m total
  plan_to h =
      let its = law.plans_are_model_plans most P h.plan sound h.is_plan.is_plan h.is_plan.misses_no_more in
      record {
        plan = routes_of P h.plan;
        is_plan = subst (λ k. IsModelPlan k (routes_of P h.plan)) e its.is_plan;
        cost_is = ap (λ k. plan_cost k (routes_of P h.plan)) (sym e) ∙ its.same_cost ∙ h.cost_is;
      }

  plan_from : HasModelPlanAt m total → HasPlanAt most P total
  plan_from h =
      let its = law.model_plans_are_plans most P h.plan sound (subst (λ k. IsModelPlan k h.plan) (sym e) h.is_plan) in
      record {
        plan = plan_of P h.plan;
        is_plan = record { is_plan = its.is_plan; misses_no_more = its.misses_no_more };
        cost_is = its.same_cost ∙ ap (λ k. plan_cost k h.plan) e ∙ h.cost_is;
      }

-- ---- room on a route

module _ (law : PlannersAreModels) (most : ℤ) (P : Planner) (prices carries : List ℤ) (k : ℕ) (d : ℤ) (sound : IsSound P) (priced : IsPriced (model_of most P) prices carries)
    (hk : IsNode (length P.routes) k) (d0 : pos 0 ≤ℤ d) where
  inside : k - 1 < length P.routes
  inside = omega (arith, hk.0, hk.1)

  abbrev own : List Route
  own = map (from_exit P.places) P.routes

  abbrev others : List Route
  others = throughs P ++ (stayings P ++ (missings P ++ gate_route most P ∷ []))

  within : k - 1 < length own
  within = omega (arith, inside, length-map P.routes (from_exit P.places))

  route_is : route_at (model_of most P) k ≡ from_exit P.places (route_in P k)
  route_is = get_or_append_left own others no_route (k - 1) within ∙ get_or-map (from_exit P.places) P.routes (k - 1) no_route no_route inside

  model_wider : model_of most (with_route_rooms P k d) ≡ with_room (model_of most P) k d
  model_wider = ap (λ (rs : List Route). record { supplies = supplies_of P.places; routes = rs }) (
      ap (λ rs. rs ++ others) (map-set (from_exit P.places) P.routes (k - 1) (wider d (route_in P k)))
      ∙ sym (set-append_left own others (k - 1) (wider d (from_exit P.places (route_in P k))) within)
      ∙ ap (λ r. set (own ++ others) (k - 1) (wider d r)) (sym route_is)
      )

  sound_wider : IsSound (with_route_rooms P k d)
  sound_wider =
      record {
        routes = All-set (IsSoundRoute (length P.places)) P.routes (k - 1) (wider d (route_in P k))
            (wider_sound d d0 (length P.places) (route_in P k) (sound.routes (k - 1) no_route inside)) sound.routes;
        return_freely = All-set (ReturnsFreely P.places) P.routes (k - 1) (wider d (route_in P k)) (sound.return_freely (k - 1) no_route inside) sound.return_freely;
      }

  same_total : cost P (plan_of P carries) -ℤ d *ℤ route_saves prices P k ≡ plan_cost (model_of most P) carries -ℤ d *ℤ saving prices (route_at (model_of most P) k)
  same_total =
      omega (
        arith,
        ints,
        (law.model_plans_are_plans most P carries sound priced.is_plan).same_cost,
        ap (λ r. d *ℤ saving prices r) route_is,
      )

  module _ (q : ℤ) (q1 : pos 1 ≤ℤ q) where
    finer_wider : model_of (q *ℤ most) (finer q (with_route_rooms P k d)) ≡ scaled q (with_room (model_of most P) k d)
    finer_wider = model_finer q q1 (with_route_rooms P k d) most ∙ ap (scaled q) model_wider

    finer_sound : IsSound (finer q (with_route_rooms P k d))
    finer_sound = sound_finer q q1 (with_route_rooms P k d) sound_wider

  room_to : RouteSavingHoldsFor most P prices carries k d → SavingHoldsFor (model_of most P) prices carries k d
  room_to h =
      let q = h.parts in
      record {
        finer = q;
        is_finer = h.some_parts;
        reached = subst (HasModelPlanAt (scaled q (with_room (model_of most P) k d))) (ap (λ z. q *ℤ z) same_total)
            (plan_to law (q *ℤ most) (finer q (with_route_rooms P k d)) (scaled q (with_room (model_of most P) k d))
            (q *ℤ (cost P (plan_of P carries) -ℤ d *ℤ route_saves prices P k)) (finer_sound q h.some_parts) (finer_wider q h.some_parts) h.reached);
      }

  room_from : SavingHoldsFor (model_of most P) prices carries k d → RouteSavingHoldsFor most P prices carries k d
  room_from h =
      let q = h.finer in
      record {
        parts = q;
        some_parts = h.is_finer;
        reached = plan_from law (q *ℤ most) (finer q (with_route_rooms P k d)) (scaled q (with_room (model_of most P) k d))
            (q *ℤ (cost P (plan_of P carries) -ℤ d *ℤ route_saves prices P k)) (finer_sound q h.is_finer) (finer_wider q h.is_finer)
            (subst (HasModelPlanAt (scaled q (with_room (model_of most P) k d))) (sym (ap (λ z. q *ℤ z) same_total)) h.reached);
      }

pub route_savings_lem : PlannersAreModels → RouteSavingsAreTheModels
route_savings_lem law most P prices carries k d sound priced hk d0 =
    (room_to law most P prices carries k d sound priced hk d0, room_from law most P prices carries k d sound priced hk d0)

-- ---- units from one place to another

module _ (law : PlannersAreModels) (most : ℤ) (P : Planner) (prices carries : List ℤ) (u w : ℕ) (d : ℤ) (sound : IsSound P) (priced : IsPriced (model_of most P) prices carries)
    (hu : IsNode (length P.places) u) (hw : IsNode (length P.places) w) (hx : IsNode (length (supplies_of P.places)) (exit_of P.places w)) where
  abbrev m : Model
  m = model_of most P

  abbrev exit : ℕ
  exit = exit_of P.places w

  abbrev between : Planner
  between = with_units_between P u w d

  sound_between : IsSound between
  sound_between =
      record {
        routes = All-cons (IsSoundRoute (length P.places)) (just_units w u d) P.routes
            (record { tail_is_place = hw; head_is_place = hu; rises = tt; adds = tt; may_be_both = tt }) sound.routes;
        return_freely = All-cons (ReturnsFreely P.places) (just_units w u d) P.routes refl sound.return_freely;
      }

  entered : IsNode (length m.supplies) u
  entered = (
    hu.0,
    omega (
      arith,
      hu.1,
      length-map P.places (λ (p : Place). entry_supply p.through p),
      length-append (map (λ (p : Place). entry_supply p.through p) P.places)
          (hub_supply P.places ∷ pos 0 ∷ map (λ (p : Place). exit_supply p.through p) (with_exits (some_bounds P.places) P.places)),
    ),
  )

  same_cost : told_cost m prices carries u exit d ≡ cost P (plan_of P carries) +ℤ d *ℤ (at_node prices u -ℤ at_node prices exit)
  same_cost = omega (arith, ints, (law.model_plans_are_plans most P carries sound priced.is_plan).same_cost)

  module _ (q : ℤ) where
    abbrev routed : Model
    routed = scaled q (model_of most between)

    abbrev moved : Model
    moved = scaled q (with_units m u exit d)

    abbrev brings : Route
    brings = scaled_route q (from_exit P.places (just_units w u d))

    long_moved : length moved.supplies ≡ length m.supplies
    long_moved = as_long_finer m u exit d entered hx q

    long_routed : length routed.supplies ≡ length m.supplies
    long_routed = length-map m.supplies (λ z. q *ℤ z)

    -- what the route brings, at a place
    brought : (v : ℕ) → when (eqb exit v) (q *ℤ d) -ℤ when (eqb u v) (q *ℤ d) ≡ neg_ℤ (q *ℤ (d *ℤ unit_at u exit v))
    brought v = omega (arith, ints, units_at u exit v (q *ℤ d), mul-assoc q d (unit_at u exit v))

    moved_supply : (v : ℕ) → IsNode (length m.supplies) v → at_node moved.supplies v ≡ at_node routed.supplies v +ℤ q *ℤ (d *ℤ unit_at u exit v)
    moved_supply v hv =
        omega (
          arith,
          ints,
          finer_supply m u exit d entered hx q v hv,
          finer_at m u exit d entered hx q m.supplies (v - 1),
          mul-add q (at_node m.supplies v) (d *ℤ unit_at u exit v),
        )

    units_off : (y : ℤ) (ys : List ℤ) → IsModelPlan routed (y ∷ ys) → IsModelPlan moved ys
    units_off y ys h =
        let low = h.may_carry.0.enough in
        let high = h.may_carry.0.fits in
        let y_is : y ≡ q *ℤ d = omega (arith, ints, low, high) in
        record {
          may_carry = h.may_carry.1;
          meets_supplies = λ v hv.
              let here : IsNode (length m.supplies) v = (hv.0, omega (arith, hv.1, long_moved)) in
              omega (
                arith,
                ints,
                h.meets_supplies v (hv.0, omega (arith, hv.1, long_moved, long_routed)),
                ap (λ z. when (eqb exit v) z) y_is,
                ap (λ z. when (eqb u v) z) y_is,
                brought v,
                moved_supply v here,
              );
        }

    units_on : (ys : List ℤ) → IsModelPlan moved ys → IsModelPlan routed ((q *ℤ d) ∷ ys)
    units_on ys h =
        record {
          may_carry = (record { enough = omega (arith, ints); fits = omega (arith, ints) }, h.may_carry);
          meets_supplies = λ v hv.
              let here : IsNode (length m.supplies) v = (hv.0, omega (arith, hv.1, long_routed)) in
              omega (
                arith,
                ints,
                h.meets_supplies v (hv.0, omega (arith, hv.1, long_moved, long_routed)),
                brought v,
                moved_supply v here,
              );
        }

    -- the route costs nothing
    cost_off : (y : ℤ) (ys : List ℤ) → plan_cost routed (y ∷ ys) ≡ plan_cost moved ys
    cost_off y ys = omega (arith, ints, zero-mul y)

    plan_off : (total : ℤ) → HasModelPlanAt routed total → HasModelPlanAt moved total
    plan_off total h = go h.plan h.is_plan h.cost_is
      where
        go : (plan : List ℤ) → IsModelPlan routed plan → plan_cost routed plan ≡ total → HasModelPlanAt moved total
        go [] is e = absurd is.may_carry
        go (y ∷ ys) is e = record { plan = ys; is_plan = units_off y ys is; cost_is = sym (cost_off y ys) ∙ e }

    plan_on : (total : ℤ) → HasModelPlanAt moved total → HasModelPlanAt routed total
    plan_on total h = record { plan = (q *ℤ d) ∷ h.plan; is_plan = units_on h.plan h.is_plan; cost_is = cost_off (q *ℤ d) h.plan ∙ h.cost_is }

  units_to : UnitsHoldFor most P prices carries u w d → HoldsFor m prices carries u exit d
  units_to h =
      let q = h.parts in
      let total = q *ℤ (cost P (plan_of P carries) +ℤ d *ℤ (at_node prices u -ℤ at_node prices exit)) in
      record {
        finer = q;
        is_finer = h.some_parts;
        reached = subst (HasModelPlanAt (moved q)) (ap (λ z. q *ℤ z) (sym same_cost))
            (plan_off q total (plan_to law (q *ℤ most) (finer q between) (routed q) total (sound_finer q h.some_parts between sound_between) (model_finer q h.some_parts between most) h.reached));
      }

  units_from : HoldsFor m prices carries u exit d → UnitsHoldFor most P prices carries u w d
  units_from h =
      let q = h.finer in
      let total = q *ℤ (cost P (plan_of P carries) +ℤ d *ℤ (at_node prices u -ℤ at_node prices exit)) in
      record {
        parts = q;
        some_parts = h.is_finer;
        reached = plan_from law (q *ℤ most) (finer q between) (routed q) total (sound_finer q h.is_finer between sound_between) (model_finer q h.is_finer between most)
            (plan_on q total (subst (HasModelPlanAt (moved q)) (ap (λ z. q *ℤ z) same_cost) h.reached));
      }

pub units_lem : PlannersAreModels → SoundPlannersHaveSoundModels → UnitsAreTheModels
units_lem law models most P prices carries u w d sound priced hu hw =
    let hx = models.exit_is_place most P w hw in
    (units_to law most P prices carries u w d sound priced hu hw hx, units_from law most P prices carries u w d sound priced hu hw hx)
