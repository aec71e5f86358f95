-- Problems with a dearer route: they have the plans of the problem, and their models are its model
-- with a dearer route.
use Rattle.std.proofs.Common.{◌≡◌, ℕ, suc, ◌-◌, ◌<◌, List, [], ◌∷◌, ◌++◌, length, length-append, length-set, map, set, get_or, take, drop, ap, sym, ◌∙◌, subst, refl, arith, ℤ, pos, ◌+ℤ◌}
use Rattle.std.proofs.Math.IntN.{◌*ℤ◌}
use Rattle.std.proofs.lemmas.Int.{ints}
use Rattle.std.proofs.lemmas.List.{get_or-map, get_or_append_left, length-map, map-set, set-append_left}
use Rattle.std.proofs.lemmas.List.Elements.{All-set}
use Rattle.mcf_flows.specs.Network.{IsNode}
use Rattle.mcf_flows.proofs.AllZips.{length-AllZip}
use Rattle.mcf_model.specs.Model.{IsSoundRoute, MayCarry, Route, charged}
use Rattle.mcf_model.specs.Tables.{IsRouteNumber, no_route, route_at}
use Rattle.mcf_places.specs.declared.places.Place.{Place}
use Rattle.mcf_places.specs.Models.{by_place, from_exit, gate_route, hub_of, missing_route, missings, model_of, plan_of, stay_route, stayings, supplies_of, throughs}
use Rattle.mcf_places.specs.PlannerLaws.{IsSound, ReturnsFreely}
use Rattle.mcf_places.specs.Planners.{EachPlace, IsBalancedAt, IsPlan, KeepsBounds, Plan, Planner, cost, passes, place_sum, through_cost}
use Rattle.mcf_plan_ranges.specs.Changes.{dearer, with_dearer as model_with_dearer}
use Rattle.mcf_plan_ranges.proofs.DearerModels.{arriving_still, dearer_costs, dearer_may, leaving_still, may_without}
use Rattle.mcf_planner_ranges.specs.PlannerRanges.{with_dearer}

-- ---- sums and facts of places

place_sum-same : (s t : ℕ → Place → ℤ) → ((v : ℕ) (p : Place) → s v p ≡ t v p) → (v : ℕ) (places : List Place) → place_sum s v places ≡ place_sum t v places
place_sum-same s t e v [] = refl
place_sum-same s t e v (p ∷ places) = omega (arith, ints, e v p, place_sum-same s t e (suc v) places)

each_place : (P Q : ℕ → Place → Type 0) → ((v : ℕ) (p : Place) → P v p → Q v p) → (v : ℕ) (places : List Place) → EachPlace P v places → EachPlace Q v places
each_place P Q e v [] h = tt
each_place P Q e v (p ∷ places) h = (e v p h.0, each_place P Q e (suc v) places h.1)

module _ (P : Planner) (k : ℕ) (d : ℤ) where
  abbrev i : ℕ
  i = k - 1

  abbrev r : Route
  r = get_or P.routes i no_route

  abbrev Q : Planner
  Q = with_dearer P k d

  -- ---- it has the same plans

  passes_still : (x : Plan) (v : ℕ) (p : Place) → passes Q x v p ≡ passes P x v p
  passes_still x v p = let a = arriving_still P.routes x.carries i d v in omega (arith, ints, a)

  balanced_still : (x : Plan) (v : ℕ) (p : Place) → IsBalancedAt P x v p → IsBalancedAt Q x v p
  balanced_still x v p h =
      let a = passes_still x v p in
      let b = leaving_still P.routes x.carries i d v in
      let e = h.balances in
      record {
        stays_some = h.stays_some;
        stays_no_more = h.stays_no_more;
        misses_some = h.misses_some;
        misses_no_more = h.misses_no_more;
        balances = omega (arith, ints, a, b, e);
        keeps_bounds = subst (KeepsBounds p.through) (sym a) h.keeps_bounds;
      }

  balanced_before : (x : Plan) (v : ℕ) (p : Place) → IsBalancedAt Q x v p → IsBalancedAt P x v p
  balanced_before x v p h =
      let a = passes_still x v p in
      let b = leaving_still P.routes x.carries i d v in
      let e = h.balances in
      record {
        stays_some = h.stays_some;
        stays_no_more = h.stays_no_more;
        misses_some = h.misses_some;
        misses_no_more = h.misses_no_more;
        balances = omega (arith, ints, a, b, e);
        keeps_bounds = subst (KeepsBounds p.through) a h.keeps_bounds;
      }

  pub dearer_plan : (x : Plan) → IsPlan P x → IsPlan Q x
  dearer_plan x h =
      record {
        may_carry = dearer_may P.routes x.carries i d h.may_carry;
        stays_by_place = h.stays_by_place;
        missing_by_place = h.missing_by_place;
        balanced = each_place (IsBalancedAt P x) (IsBalancedAt Q x) (balanced_still x) 1 P.places h.balanced;
      }

  pub plan_before : (x : Plan) → IsPlan Q x → IsPlan P x
  plan_before x h =
      record {
        may_carry = may_without P.routes x.carries i d h.may_carry;
        stays_by_place = h.stays_by_place;
        missing_by_place = h.missing_by_place;
        balanced = each_place (IsBalancedAt Q x) (IsBalancedAt P x) (balanced_before x) 1 P.places h.balanced;
      }

  -- ---- what plans cost

  module _ (hk : IsNode (length P.routes) k) where
    inside : i < length P.routes
    inside = omega (arith, hk.0, hk.1)

    pub dearer_cost : (x : Plan) → IsPlan P x → cost Q x ≡ cost P x +ℤ d *ℤ charged r.both (get_or x.carries i (pos 0))
    dearer_cost x h =
        let long = length-AllZip MayCarry P.routes x.carries h.may_carry in
        let routes = dearer_costs P.routes x.carries i d inside (omega (arith, inside, long)) in
        let places = place_sum-same (λ v p. through_cost p.through (passes Q x v p)) (λ v p. through_cost p.through (passes P x v p))
        (λ v p. ap (through_cost p.through) (passes_still x v p)) 1 P.places in
        omega (arith, ints, routes, places)

    -- ---- it is sound if its route is

    pub dearer_sound : IsSound P → IsSoundRoute (length P.places) (dearer d r) → IsSound Q
    dearer_sound s h =
        record {
          routes = All-set (IsSoundRoute (length P.places)) P.routes i (dearer d r) h s.routes;
          return_freely = All-set (ReturnsFreely P.places) P.routes i (dearer d r) (s.return_freely i no_route inside) s.return_freely;
        }

    -- ---- its model

    module _ (most : ℤ) where
      abbrev own : List Route
      own = map (from_exit P.places) P.routes

      abbrev sides : List Route
      sides = throughs P ++ (stayings P ++ (missings P ++ gate_route most P ∷ []))

      within : i < length own
      within = omega (arith, inside, length-map P.routes (from_exit P.places))

      pub route_is : route_at (model_of most P) k ≡ from_exit P.places r
      route_is = get_or_append_left own sides no_route i within ∙ get_or-map (from_exit P.places) P.routes i no_route no_route inside

      pub is_number : IsRouteNumber (model_of most P) k
      is_number = (hk.0, omega (arith, hk.1, length-append own sides, length-map P.routes (from_exit P.places)))

      pub model_dearer : model_of most Q ≡ model_with_dearer (model_of most P) k d
      model_dearer = ap (λ (rs : List Route). record { supplies = supplies_of P.places; routes = rs }) (
          ap (λ rs. rs ++ sides) (map-set (from_exit P.places) P.routes i (dearer d r))
          ∙ sym (set-append_left own sides i (dearer d (from_exit P.places r)) within)
          ∙ ap (λ s. set (own ++ sides) i (dearer d s)) (sym route_is)
          )

  -- ---- its plans are read from those of the model as before

  planned : List ℤ → ℕ → Plan
  planned carries n =
      record {
        carries = take n carries;
        stays = by_place (stay_route P.policy.unused (hub_of P.places)) 1 P.places (drop (length (throughs P)) (drop n carries));
        missing = by_place (missing_route P.policy P.places) 1 P.places (drop (length (stayings P)) (drop (length (throughs P)) (drop n carries)));
      }

  pub read_still : (carries : List ℤ) → plan_of Q carries ≡ plan_of P carries
  unfolding planned
  read_still carries = ap (planned carries) (length-set P.routes i (dearer d r))
