-- Answers for the problem without periods are answers for the problem over periods.
use Rattle.std.proofs.Common.{◌≡◌, ℕ, suc, List, [], ◌∷◌, ◌++◌, length, map, take, drop, refl, ap, sym, ◌∙◌, subst, ℤ, pos, ◌≤◌, ◌≤ℤ◌}
use Rattle.std.specs.Prelude.{filter, option_map}
use Rattle.std.proofs.Math.IntN.{◌*ℤ◌}
use Rattle.std.proofs.lemmas.List.{drop-map, length-map, take-map}
use Rattle.std.specs.List.{All}
use Rattle.std.proofs.lemmas.List.Elements.{All-map}
use Rattle.mcf_flows.proofs.IntLaws.{mul-zero}
use Rattle.mcf_model.specs.Model.{Route}
use Rattle.mcf_model.specs.Scaling.{scaled_route}
use Rattle.mcf_model.proofs.FaultTests.{all_of}
use Rattle.mcf_places.specs.declared.answering.PlannerAnswer.{PlannerAnswer}
use Rattle.mcf_places.specs.declared.answering.PlannerAnswer.TheVariants.{Beyond, Least, NoPlan}
use Rattle.mcf_places.specs.declared.faults.TheConstants.{PLACE_LIMIT}
use Rattle.mcf_places.specs.declared.places.Place.{Place}
use Rattle.mcf_places.specs.Answers.{IsPlannerAnswer}
use Rattle.mcf_places.specs.FinerPlanners.{finer, finer_place, finer_plan}
use Rattle.mcf_places.specs.Planners.{IsLeastPlan, IsPlan, Plan, Planner}
use Rattle.mcf_places.specs.Planning.{plan_in}
use Rattle.mcf_places.specs.Ways.{is_returning, numbers_of}
use Rattle.mcf_periods.specs.declared.rows.Store.{Store}
use Rattle.mcf_periods.specs.FinerPeriods.{finer_departure, finer_period_plan, finer_periods, finer_store}
use Rattle.mcf_periods.specs.Flat.{flat, flat_plan, flat_route, flat_routes, period_plan, stock_route}
use Rattle.mcf_periods.specs.PeriodAnswers.{FlatAnswersArePeriodAnswers, IsPeriodAnswer, plan_over}
use Rattle.mcf_periods.specs.PeriodLaws.{IsInTime, IsOnTime, IsTimely}
use Rattle.mcf_periods.specs.Periods.{Departure, IsLeastPeriodPlan, PeriodPlan, Periods}
use Rattle.mcf_periods.proofs.FlatPlans.{flat_of, least_flat_plans_are_least_lem, period_of, routes_are}

-- ---- the problem in finer units

none_numbered : (ps : List Place) (n j : ℕ) (ss : List Store) (ds : List Departure)
    → numbers_of (is_returning ps) j (map (stock_route n) ss ++ map (flat_route n) ds) ≡ []
none_numbered ps n j [] [] = refl
none_numbered ps n j [] (d ∷ ds) = none_numbered ps n (suc j) [] ds
none_numbered ps n j (s ∷ ss) ds = none_numbered ps n (suc j) ss ds

abbrev with_least : Route → ℤ → Route
with_least r z = record {
  tail = r.tail;
  head = r.head;
  least = z;
  steps = r.steps;
  last_most = r.last_most;
  last_cost = r.last_cost;
  both = r.both;
}

finer_routes : (k : ℤ) (n : ℕ) (ss : List Store) (ds : List Departure)
    → map (stock_route n) (map (finer_store k) ss) ++ map (flat_route n) (map (finer_departure k) ds)
    ≡ map (scaled_route k) (map (stock_route n) ss ++ map (flat_route n) ds)
finer_routes k n [] [] = refl
finer_routes k n [] (d ∷ ds) = ap (λ (rs : List Route). flat_route n (finer_departure k d) ∷ rs) (finer_routes k n [] ds)
finer_routes k n (s ∷ ss) ds =
    let rest = map (stock_route n) (map (finer_store k) ss) ++ map (flat_route n) (map (finer_departure k) ds) in
    ap (λ (z : ℤ). with_least (stock_route n (finer_store k s)) z ∷ rest) (sym (mul-zero k))
    ∙ ap (λ (rs : List Route). scaled_route k (stock_route n s) ∷ rs) (finer_routes k n ss ds)

flat_finer : (k : ℤ) (P : Periods) → flat (finer_periods k P) ≡ finer k (flat P)
flat_finer k P =
    let ps = map (finer_place k) P.places in
    let routes : (flat (finer_periods k P)).routes ≡ map (scaled_route k) (flat P).routes =
    routes_are (finer_periods k P) ∙ finer_routes k P.count P.stores P.departures ∙ ap (λ (rs : List Route). map (scaled_route k) rs) (sym (routes_are P)) in
    ap (λ (rs : List Route). record { places = ps; routes = rs; returning = (flat (finer_periods k P)).returning; policy = P.policy }) routes
    ∙ ap (λ (ns : List ℕ). record { places = ps; routes = map (scaled_route k) (flat P).routes; returning = ns; policy = P.policy })
    (none_numbered ps P.count 1 (map (finer_store k) P.stores) (map (finer_departure k) P.departures)
    ∙ sym (none_numbered P.places P.count 1 P.stores P.departures))

finer_timely : (k : ℤ) (P : Periods) → IsTimely P → IsTimely (finer_periods k P)
finer_timely k P t =
    record {
      listed = length-map P.places (finer_place k) ∙ t.listed;
      few = subst (λ n. n ≤ PLACE_LIMIT) (sym (length-map P.places (finer_place k))) t.few;
      departures = All-map (IsOnTime (finer_periods k P)) (finer_departure k) P.departures
          (all_of (IsOnTime P) (λ d. IsOnTime (finer_periods k P) (finer_departure k d)) P.departures on_time t.departures);
      stores = All-map (IsInTime (finer_periods k P)) (finer_store k) P.stores
          (all_of (IsInTime P) (λ s. IsInTime (finer_periods k P) (finer_store k s)) P.stores in_time t.stores);
    }
  where
    on_time : (d : Departure) → IsOnTime P d → IsOnTime (finer_periods k P) (finer_departure k d)
    on_time d h = record { leaves = h.leaves; enters = h.enters; departs = h.departs; arrives = h.arrives }

    in_time : (s : Store) → IsInTime P s → IsInTime (finer_periods k P) (finer_store k s)
    in_time s h = record { keeps_at = h.keeps_at; begins = h.begins; ends = h.ends }

finer_read : (k : ℤ) (P : Periods) (y : Plan) → period_plan (finer_periods k P) (finer_plan k y) ≡ finer_period_plan k (period_plan P y)
finer_read k P y =
    let f = λ (z : ℤ). k *ℤ z in
    let n = length P.stores in
    ap (λ m. record { carries = drop m (map f y.carries); kept = take m (map f y.carries); stays = map f y.stays; missing = map f y.missing })
    (length-map P.stores (finer_store k))
    ∙ ap (λ (c : List ℤ). record { carries = c; kept = take n (map f y.carries); stays = map f y.stays; missing = map f y.missing }) (drop-map f n y.carries)
    ∙ ap (λ (c : List ℤ). record { carries = map f (drop n y.carries); kept = c; stays = map f y.stays; missing = map f y.missing }) (take-map f n y.carries)

-- ---- answers

pub flat_answers_lem : FlatAnswersArePeriodAnswers
flat_answers_lem P (Least p) timely h =
    let y = plan_in p.plan in
    let same = period_of P y timely (((h.0).least).is_plan) in
    record {
      least = least_flat_plans_are_least_lem P y timely (h.0).least;
      cost_is = (h.0).cost_is ∙ sym same.same_cost;
      missing_is = (h.0).missing_is ∙ sym same.same_missing;
      least_in_finer_units = λ k one.
          subst (IsLeastPeriodPlan (finer_periods k P)) (finer_read k P y)
          (least_flat_plans_are_least_lem (finer_periods k P) (finer_plan k y) (finer_timely k P timely)
          (subst (λ (Q : Planner). IsLeastPlan Q (finer_plan k y)) (sym (flat_finer k P)) ((h.0).least_in_finer_units k one)));
    }
flat_answers_lem P (NoPlan b) timely h =
    record {
      none = λ x k. h.none (flat_plan x) (flat_of P x timely k).is_plan;
      none_in_finer_units = λ k x one i.
          h.none_in_finer_units k (flat_plan x) one
          (subst (λ (Q : Planner). IsPlan Q (flat_plan x)) (flat_finer k P) (flat_of (finer_periods k P) x (finer_timely k P timely) i).is_plan);
    }
flat_answers_lem P (Beyond fault) timely h = h
