-- One unit more from a place to another is one unit more of supply at one place of the model, and
-- one less at another.
use Rattle.std.proofs.Common.{◌≡◌, ℕ, ◌-◌, eqb, Bool, true, false, List, [], ◌∷◌, length, map, refl, ap, ◌∙◌, arith, ℤ, pos, negsuc, ◌+ℤ◌, ◌-ℤ◌, ◌≤ℤ◌, inl, inr, length-append}
use Rattle.std.proofs.lemmas.Bool.{cases_eq, eq-eqb, ne_eqb}
use Rattle.std.proofs.lemmas.Grind.{get_or-set_at}
use Rattle.std.proofs.lemmas.Int.{ints}
use Rattle.std.proofs.lemmas.List.{get_or-set_other, length-map, length-set}
use Rattle.std.proofs.lemmas.List.Elements.{All-cons}
use Rattle.mcf_flows.specs.Network.{IsNode, at_node, when}
use Rattle.mcf_model.specs.Model.{IsPlan as IsModelPlan, IsSound as IsSoundModel, IsSoundRoute, MayCarry, Model, Route, plan_cost}
use Rattle.mcf_figures.specs.Changes.{with_more_at, with_unit as with_model_unit}
use Rattle.mcf_figures.specs.FigureLaws.{HasPlanAt as HasModelPlanAt, IsPriced, JoinedPricesAreReached, PricesAreBounds}
use Rattle.mcf_figures.specs.Figures.{AreJoined}
use Rattle.mcf_places.specs.declared.places.Place.{Place}
use Rattle.mcf_places.specs.Models.{entry_supply, exit_of, exit_supply, from_exit, hub_supply, model_of, plan_of, routes_of, some_bounds, supplies_of, with_exits}
use Rattle.mcf_places.specs.PlannerLaws.{IsSound, PlannersAreModels, ReturnsFreely, SoundPlannersHaveSoundModels}
use Rattle.mcf_places.specs.Planners.{Plan, Planner, cost}
use Rattle.mcf_plan_figures.specs.Changes.{one_unit, with_unit}
use Rattle.mcf_plan_figures.specs.PlannerFigureLaws.{IsPlanWithin, JoinedUnitsCostThat, UnitsCostNoLess}
use Rattle.mcf_plan_figures.proofs.ChangedModels.{reached_of, read_cost}

-- ---- supplies with one unit more and one less

more_at : (supplies : List ℤ) (u : ℕ) (z : ℤ) (v : ℕ) → IsNode (length supplies) u → IsNode (length supplies) v
    → at_node (with_more_at supplies u z) v ≡ at_node supplies v +ℤ when (eqb u v) z
more_at supplies u z v hu hv =
    elim (cases_eq u v) [
      | inl e ↦ rw (eq-eqb u v e)
          (get_or-set_at supplies (u - 1) (v - 1) (at_node supplies u +ℤ z) (pos 0) (omega (arith, e)) (omega (arith, hu.0, hu.1)) ∙ ap (λ j. at_node supplies j +ℤ z) e)
      | inr ne ↦ rw (ne_eqb u v ne)
          (get_or-set_other supplies (u - 1) (v - 1) (at_node supplies u +ℤ z) (pos 0) (λ e. ne (omega (arith, e, hu.0, hv.0))) ∙ omega (arith, ints))
    ]

when_minus : (t : Bool) → when t (negsuc 0) ≡ pos 0 -ℤ when t (pos 1)
when_minus true = refl
when_minus false = refl

module _ (m : Model) (u w : ℕ) (hu : IsNode (length m.supplies) u) (hw : IsNode (length m.supplies) w) where
  abbrev first : List ℤ
  first = with_more_at m.supplies u (pos 1)

  as_long : length first ≡ length m.supplies
  as_long = length-set m.supplies (u - 1) (at_node m.supplies u +ℤ pos 1)

  as_long_both : length (with_model_unit m u w).supplies ≡ length m.supplies
  as_long_both = length-set first (w - 1) (at_node first w +ℤ negsuc 0) ∙ as_long

  unit_supply : (v : ℕ) → IsNode (length m.supplies) v
      → at_node (with_model_unit m u w).supplies v ≡ at_node m.supplies v +ℤ when (eqb u v) (pos 1) -ℤ when (eqb w v) (pos 1)
  unit_supply v hv =
      omega (
        arith,
        ints,
        more_at first w (negsuc 0) v (hw.0, omega (arith, hw.1, as_long)) (hv.0, omega (arith, hv.1, as_long)),
        more_at m.supplies u (pos 1) v hu hv,
        when_minus (eqb w v),
      )

-- ---- a route that brings one unit

module _ (most : ℤ) (P : Planner) (u w : ℕ) (hu : IsNode (length P.places) u) (hw : IsNode (length P.places) w) where
  abbrev m : Model
  m = model_of most P

  abbrev one : Route
  one = from_exit P.places (one_unit w u)

  just_one : (x : ℤ) → MayCarry one x → x ≡ pos 1
  just_one x h = omega (arith, ints, h.enough, h.fits)

  may_one : MayCarry one (pos 1)
  may_one = record { enough = omega (arith, ints); fits = omega (arith, ints) }

  pub sound_unit : IsSound P → IsSound (with_unit P u w)
  sound_unit s =
      record {
        routes = All-cons (IsSoundRoute (length P.places)) (one_unit w u) P.routes
            (record { tail_is_place = hw; head_is_place = hu; rises = tt; adds = tt; may_be_both = tt }) s.routes;
        return_freely = All-cons (ReturnsFreely P.places) (one_unit w u) P.routes refl s.return_freely;
      }

  entry_is_place : (v : ℕ) → IsNode (length P.places) v → IsNode (length (supplies_of P.places)) v
  entry_is_place v h = (
    h.0,
    omega (
      arith,
      h.1,
      length-map P.places (λ (p : Place). entry_supply p.through p),
      length-append (map (λ (p : Place). entry_supply p.through p) P.places)
          (hub_supply P.places ∷ pos 0 ∷ map (λ (p : Place). exit_supply p.through p) (with_exits (some_bounds P.places) P.places)),
    ),
  )

  module _ (hx : IsNode (length (supplies_of P.places)) (exit_of P.places w)) where
    abbrev exit : ℕ
    exit = exit_of P.places w

    abbrev entered : IsNode (length (supplies_of P.places)) u
    entered = entry_is_place u hu

    -- without the route, its unit comes from a supply
    unit_off : (x : ℤ) (plan : List ℤ) → IsModelPlan (model_of most (with_unit P u w)) (x ∷ plan) → IsModelPlan (with_model_unit m u exit) plan
    unit_off x plan h =
        let x1 = just_one x (h.may_carry).0 in
        record {
          may_carry = (h.may_carry).1;
          meets_supplies = λ v hv.
              let at : IsNode (length (supplies_of P.places)) v = (hv.0, omega (arith, hv.1, as_long_both m u exit entered hx)) in
              omega (
                arith,
                ints,
                h.meets_supplies v at,
                unit_supply m u exit entered hx v at,
                ap (λ z. when (eqb exit v) z) x1,
                ap (λ z. when (eqb u v) z) x1,
              );
        }

    unit_on : (plan : List ℤ) → IsModelPlan (with_model_unit m u exit) plan → IsModelPlan (model_of most (with_unit P u w)) (pos 1 ∷ plan)
    unit_on plan h =
        record {
          may_carry = (may_one, h.may_carry);
          meets_supplies = λ v hv.
              omega (
                arith,
                ints,
                h.meets_supplies v (hv.0, omega (arith, hv.1, as_long_both m u exit entered hx)),
                unit_supply m u exit entered hx v hv,
              );
        }

    module _ (law : PlannersAreModels) (prices carries : List ℤ) (sound : IsSound P) (made : IsSoundModel m) (priced : IsPriced m prices carries) where
      unit_bound : PricesAreBounds → (x : Plan) → IsPlanWithin most (with_unit P u w) x
          → (cost P (plan_of P carries) +ℤ (at_node prices u -ℤ at_node prices exit)) ≤ℤ cost (with_unit P u w) x
      unit_bound bounds x within =
          let its = law.plans_are_model_plans most (with_unit P u w) x (sound_unit sound) within.is_plan within.misses_no_more in
          go (routes_of (with_unit P u w) x) its.is_plan its.same_cost
        where
          go : (plan : List ℤ) → IsModelPlan (model_of most (with_unit P u w)) plan → plan_cost (model_of most (with_unit P u w)) plan ≡ cost (with_unit P u w) x
              → (cost P (plan_of P carries) +ℤ (at_node prices u -ℤ at_node prices exit)) ≤ℤ cost (with_unit P u w) x
          go [] h same = absurd h.may_carry
          go (y ∷ plan) h same =
              omega (
                arith,
                ints,
                bounds m prices carries plan u exit made priced entered hx (unit_off y plan h),
                same,
                read_cost law most P carries sound priced.is_plan,
              )

      unit_reached : JoinedPricesAreReached → AreJoined prices m carries u exit → HasModelPlanAt (model_of most (with_unit P u w)) (cost P (plan_of P carries) +ℤ (at_node prices u -ℤ at_node prices exit))
      unit_reached reached joined =
          let found = reached m prices carries u exit made priced entered hx joined in
          record {
            plan = pos 1 ∷ found.plan;
            is_plan = unit_on found.plan found.is_plan;
            cost_is = omega (arith, ints, found.cost_is, read_cost law most P carries sound priced.is_plan);
          }

pub units_cost_no_less_lem : PlannersAreModels → SoundPlannersHaveSoundModels → PricesAreBounds → UnitsCostNoLess
units_cost_no_less_lem law models bounds most P prices carries u w sound priced hu hw x within =
    unit_bound most P u w hu hw (models.exit_is_place most P w hw) law prices carries sound (models.sound_model most P sound) priced bounds x within

pub joined_units_cost_that_lem : PlannersAreModels → SoundPlannersHaveSoundModels → JoinedPricesAreReached → JoinedUnitsCostThat
joined_units_cost_that_lem law models reached most P prices carries u w sound priced hu hw joined =
    reached_of law most (with_unit P u w) (model_of most (with_unit P u w)) (cost P (plan_of P carries) +ℤ (at_node prices u -ℤ at_node prices (exit_of P.places w)))
    (sound_unit most P u w hu hw sound) refl
    (unit_reached most P u w hu hw (models.exit_is_place most P w hw) law prices carries sound (models.sound_model most P sound) priced reached joined)
