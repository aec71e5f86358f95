-- Ranges of a problem's model are ranges of the problem.
use Rattle.std.proofs.Common.{◌≡◌, ℕ, zero, suc, ◌-◌, Bool, true, false, List, [], ◌∷◌, length, map, get_or, ap, sym, ◌∙◌, subst, refl, arith, ℤ, pos, ◌≤ℤ◌, inl, inr}
use Rattle.std.specs.Prelude.{Option, Some, None, Result, Ok, Err, IfOk, IfSome, option_map, not, ◌&&◌, ◌||◌}
use Rattle.std.specs.List.{All}
use Rattle.std.specs.Option.{is_some}
use Rattle.std.proofs.lemmas.Grind.{get_or-set_at}
use Rattle.std.proofs.lemmas.Int.{ints}
use Rattle.std.proofs.lemmas.List.{length-map, length-set}
use Rattle.mcf_flows.specs.Network.{IsNode, when}
use Rattle.mcf_model.specs.Model.{IsLeastPlan as IsLeastModelPlan, IsPlan as IsModelPlan, IsSound as IsSoundModel, IsSoundRoute, Route, plan_cost}
use Rattle.mcf_model.specs.Tables.{IsRouteNumber, no_route, route_at}
use Rattle.mcf_places.specs.declared.places.Bounds.{Bounds}
use Rattle.mcf_places.specs.declared.places.Place.{Place}
use Rattle.mcf_places.specs.declared.answering.LeastPlannerPlan.{LeastPlannerPlan}
use Rattle.mcf_places.specs.Answers.{IsAllowed, IsShownIn}
use Rattle.mcf_places.specs.Planning.{plan_in}
use Rattle.mcf_places.specs.LimitedPlanners.{LimitsChangeNoPlan, limit_for, limited, limited_bounds, limited_place}
use Rattle.mcf_places.specs.Models.{from_exit, model_of, place_at, plan_of}
use Rattle.mcf_places.specs.PlannerLaws.{IsSound, LeastModelPlansAreLeast, LeavesEnough, PlannersAreModels, PlansMissNoMore, ReturnsFreely, SoundPlannersHaveSoundModels, has_bounds}
use Rattle.mcf_places.specs.Planners.{IsLeastPlan, IsNoWorse, IsPlan, Plan, Planner, all_wanted, cost, has_penalties, misses_least, total_missing}
use Rattle.mcf_plan_ranges.specs.Changes.{dearer, with_dearer as model_with_dearer}
use Rattle.mcf_plan_ranges.specs.PlanRanges.{IsPlanRange}
use Rattle.mcf_plan_ranges.proofs.DearerModels.{dearer_plan as dearer_model_plan}
use Rattle.mcf_planner_ranges.specs.PlannerRanges.{IsPlannerRange, LimitsChangeNoRange, ModelRangesAreThePlanners, with_dearer}
use Rattle.mcf_planner_ranges.proofs.DearerPlanners.{dearer_cost, dearer_plan, dearer_sound, is_number, model_dearer, plan_before, read_still, route_is}
use Rattle.mcf_ranges.specs.declared.range.CostRange.{CostRange}
use Rattle.mcf_ranges.specs.Ranges.{IsInRange}

-- ---- what has to be missing

-- the problem leaves as much room as the model that is solved last
enough : (most : ℤ) (P Q : Planner) (least : Bool) → IsAllowed least most P → ((x : Plan) → IsPlan Q x → IsPlan P x)
    → ((x : Plan) → total_missing Q x ≡ total_missing P x)
    → ((x : Plan) → IsPlan P x → total_missing P x ≤ℤ when P.policy.short (all_wanted P.places)) → LeavesEnough most Q least
enough most P Q true allowed back same misses = λ x h. let le = allowed.least x (back x h) in omega (arith, ints, le, same x)
enough most P Q false allowed back same misses = λ x h. omega (arith, ints, misses x (back x h), same x, allowed)

-- of two plans that miss no more than that, the one that is no worse costs no more
costs_no_more : (most : ℤ) (P : Planner) (least : Bool) (x y : Plan) → LeavesEnough most P least → IsPlan P x → total_missing P y ≤ℤ most
    → IsNoWorse P least x y → cost P x ≤ℤ cost P y
costs_no_more most P true x y leaves px few worse =
    elim worse [
      | inl less ↦ absurd (omega (arith, ints, leaves x px, few, less))
      | inr both ↦ both.1
    ]
costs_no_more most P false x y leaves px few worse = worse

-- ---- from the model to the problem

-- a route that is sound in the model is sound in the problem
sound_back : (n places : ℕ) (d : ℤ) (ps : List Place) (r : Route) → IsSoundRoute places r → IsSoundRoute n (dearer d (from_exit ps r)) → IsSoundRoute places (dearer d r)
sound_back n places d ps r s h =
    record {
      tail_is_place = s.tail_is_place;
      head_is_place = s.head_is_place;
      rises = h.rises;
      adds = h.adds;
      may_be_both = h.may_be_both;
    }

module _ (models : PlannersAreModels) (sounds : SoundPlannersHaveSoundModels) (leasts : LeastModelPlansAreLeast) (misses : PlansMissNoMore) where
  module _ (most : ℤ) (P : Planner) (carries : List ℤ) (k : ℕ) (range : CostRange) (sound : IsSound P)
      (allowed : IsAllowed (misses_least P) most P) (is_plan : IsModelPlan (model_of most P) carries)
      (hk : IsNode (length P.routes) k) (exact : IsPlanRange (model_of most P) carries k range) (d : ℤ) where
    abbrev Q : Planner
    Q = with_dearer P k d

    abbrev r : Route
    r = get_or P.routes (k - 1) no_route

    e : model_of most Q ≡ model_with_dearer (model_of most P) k d
    e = model_dearer P k d hk most

    leaves : LeavesEnough most Q (misses_least P)
    leaves = enough most P Q (misses_least P) allowed (λ x h. plan_before P k d x h) (λ x. refl) (λ x h. misses P x h)

    go : IsInRange (pos 0) range d → IsSound Q × IsLeastPlan Q (plan_of P carries)
    go h =
        let both = (exact d).0 h in
        let number = is_number P k d hk most in
        let here : IsSoundRoute (length (model_of most P).supplies) (dearer d (route_at (model_of most P) k)) =
        subst (IsSoundRoute (length (model_of most P).supplies))
        (get_or-set_at (model_of most P).routes (k - 1) (k - 1) (dearer d (route_at (model_of most P) k)) no_route refl (omega (arith, number.0, number.1)))
        (both.0 (k - 1) no_route (omega (arith, number.0, number.1, length-set (model_of most P).routes (k - 1) (dearer d (route_at (model_of most P) k)))))
        in
        let there = subst (λ (s : Route). IsSoundRoute (length (model_of most P).supplies) (dearer d s)) (route_is P k d hk most) here in
        let sound_q = dearer_sound P k d hk sound
        (sound_back (length (model_of most P).supplies) (length P.places) d P.places r (sound.routes (k - 1) no_route (omega (arith, hk.0, hk.1))) there) in
        let least = leasts most Q carries sound_q leaves (subst (λ m. IsLeastModelPlan m carries) (sym e) both.1) in
        (sound_q, subst (IsLeastPlan Q) (read_still P k d carries) least)

    back : IsSound Q × IsLeastPlan Q (plan_of P carries) → IsInRange (pos 0) range d
    back h =
        let dear : IsModelPlan (model_of most Q) carries =
        subst (λ m. IsModelPlan m carries) (sym e) (dearer_model_plan (model_of most P) k d carries (is_number P k d hk most) is_plan) in
        let mine = models.model_plans_are_plans most Q carries h.0 dear in
        let same : cost Q (plan_of P carries) ≡ plan_cost (model_of most Q) carries = sym (ap (cost Q) (read_still P k d carries)) ∙ mine.same_cost in
        let least : IsLeastModelPlan (model_of most Q) carries = record {
          is_plan = dear;
          least = λ other po.
              let its = models.model_plans_are_plans most Q other h.0 po in
              let le = costs_no_more most Q (misses_least P) (plan_of P carries) (plan_of Q other) leaves h.1.is_plan its.misses_no_more
              (h.1.least (plan_of Q other) its.is_plan) in
              omega (arith, ints, le, same, its.same_cost);
        } in
        (exact d).1 (subst IsSoundModel e (sounds.sound_model most Q h.0), subst (λ m. IsLeastModelPlan m carries) e least)

  pub model_ranges_lem : ModelRangesAreThePlanners
  model_ranges_lem most P carries k range sound allowed is_plan hk exact d =
      ((λ h. go most P carries k range sound allowed is_plan hk exact d h), (λ h. back most P carries k range sound allowed is_plan hk exact d h))

-- ---- limits

-- the place with a number, among places that are mapped
mapped : (f : Place → Place) (p : Place) (places : List Place) (i : ℕ) → f p ≡ p → get_or (map f places) i p ≡ f (get_or places i p)
mapped f p [] i e = sym e
mapped f p (q ∷ places) zero e = refl
mapped f p (q ∷ places) (suc i) e = mapped f p places i e

limited_some : (limit : Option ℤ) (o : Option Bounds) → is_some (option_map (limited_bounds limit) o) ≡ is_some o
limited_some limit (Some b) = refl
limited_some limit None = refl

bounds_still : (limit : Option ℤ) (places : List Place) (v : ℕ) → has_bounds (map (limited_place limit) places) v ≡ has_bounds places v
bounds_still limit places v =
    ap (λ (p : Place). is_some p.through) (mapped (limited_place limit) (record { supply = pos 0; through = None; penalty = None }) places (v - 1) refl)
    ∙ limited_some limit (place_at places v).through

freely_still : (limit : Option ℤ) (places : List Place) (r : Route) → ReturnsFreely places r ≡ ReturnsFreely (map (limited_place limit) places) r
freely_still limit places r =
    ap (λ b. (r.both && (b || has_bounds places r.head)) ≡ false) (sym (bounds_still limit places r.tail))
    ∙ ap (λ b. (r.both && (has_bounds (map (limited_place limit) places) r.tail || b)) ≡ false) (sym (bounds_still limit places r.head))

-- routes are sound with either places
sound_with : (limit : Option ℤ) (P Q : Planner) → Q.routes ≡ P.routes → Q.places ≡ map (limited_place limit) P.places → IsSound P → IsSound Q
sound_with limit P Q er ep h =
    record {
      routes = subst (λ n. All (IsSoundRoute n) Q.routes) (sym (ap length ep ∙ length-map P.places (limited_place limit)))
          (subst (All (IsSoundRoute (length P.places))) (sym er) h.routes);
      return_freely = subst (λ ps. All (ReturnsFreely ps) Q.routes) (sym ep)
          (subst (All (ReturnsFreely (map (limited_place limit) P.places))) (sym er)
          (λ i d k. subst (λ (T : Type 0). T) (freely_still limit P.places (get_or P.routes i d)) (h.return_freely i d k)));
    }

sound_without : (limit : Option ℤ) (P Q : Planner) → Q.routes ≡ P.routes → Q.places ≡ map (limited_place limit) P.places → IsSound Q → IsSound P
sound_without limit P Q er ep h =
    record {
      routes = subst (All (IsSoundRoute (length P.places))) er
          (subst (λ n. All (IsSoundRoute n) Q.routes) (ap length ep ∙ length-map P.places (limited_place limit)) h.routes);
      return_freely = λ i d k. subst (λ (T : Type 0). T) (sym (freely_still limit P.places (get_or P.routes i d)))
          (subst (All (ReturnsFreely (map (limited_place limit) P.places))) er (subst (λ ps. All (ReturnsFreely ps) Q.routes) ep h.return_freely) i d k);
    }

-- a plan is no worse in one problem where it is no worse in another with the same costs and the
-- same missing
no_worse : (P Q : Planner) (least : Bool) (x y : Plan) → cost P x ≡ cost Q x → cost P y ≡ cost Q y → total_missing P x ≡ total_missing Q x
    → total_missing P y ≡ total_missing Q y → IsNoWorse P least x y → IsNoWorse Q least x y
no_worse P Q true x y cx cy mx my worse =
    elim worse [
      | inl less ↦ inl (omega (arith, ints, less, mx, my))
      | inr both ↦ (let a = both.0 in let b = both.1 in inr (omega (arith, ints, a, mx, my), omega (arith, ints, b, cx, cy)))
    ]
no_worse P Q false x y cx cy mx my worse = omega (arith, ints, worse, cx, cy)

-- the same penalties are named
penalties_still : (limit : Option ℤ) (places : List Place) → has_penalties (map (limited_place limit) places) ≡ has_penalties places
penalties_still limit [] = refl
penalties_still limit (p ∷ places) = ap (λ b. is_some p.penalty || b) (penalties_still limit places)

module _ (law : LimitsChangeNoPlan) (P : Planner) (k : ℕ) (hk : IsNode (length P.routes) k) (d : ℤ) where
  abbrev tight : Planner
  tight = with_dearer (limited P) k d

  abbrev loose : Planner
  loose = with_dearer P k d

  least_still : misses_least tight ≡ misses_least loose
  least_still = ap (λ b. P.policy.short && not (is_some P.policy.penalty || b)) (penalties_still (limit_for P) P.places)

  kept : (x : Plan) → IsPlan loose x → IsPlan tight x
  kept x h = dearer_plan (limited P) k d x ((law.same P x).kept (plan_before P k d x h))

  freed : (x : Plan) → IsPlan tight x → IsPlan loose x
  freed x h = dearer_plan P k d x ((law.same P x).back (plan_before (limited P) k d x h))

  same_cost : (x : Plan) → IsPlan loose x → cost tight x ≡ cost loose x
  same_cost x h =
      let p = plan_before P k d x h in
      let a = dearer_cost P k d hk x p in
      let b = dearer_cost (limited P) k d hk x ((law.same P x).kept p) in
      omega (arith, ints, a, b, (law.same P x).same_cost)

  pub least_freed : (x : Plan) → IsLeastPlan tight x → IsLeastPlan loose x
  least_freed x h =
      let px = freed x h.is_plan in
      record {
        is_plan = px;
        least = λ other po.
            no_worse tight loose (misses_least loose) x other (same_cost x px) (same_cost other po) (law.same P x).same_missing (law.same P other).same_missing
            (subst (λ b. IsNoWorse tight b x other) least_still (h.least other (kept other po)));
      }

  pub least_kept : (x : Plan) → IsLeastPlan loose x → IsLeastPlan tight x
  least_kept x h =
      record {
        is_plan = kept x h.is_plan;
        least = λ other po.
            let free = freed other po in
            no_worse loose tight (misses_least tight) x other (sym (same_cost x h.is_plan)) (sym (same_cost other free)) (sym (law.same P x).same_missing)
            (sym (law.same P other).same_missing) (subst (λ b. IsNoWorse loose b x other) (sym least_still) (h.least other free));
      }

pub limits_change_no_range_lem : LimitsChangeNoPlan → LimitsChangeNoRange
limits_change_no_range_lem law P x k range sound hk exact d = (
  (λ h. let both = (exact d).0 h in
      (sound_without (limit_for P) (with_dearer P k d) (with_dearer (limited P) k d) refl refl both.0, least_freed law P k hk d x both.1)),
  (λ h. (exact d).1 (sound_with (limit_for P) (with_dearer P k d) (with_dearer (limited P) k d) refl refl h.0, least_kept law P k hk d x h.1)),
)

-- a sound problem is sound with limits
pub sound_limited : (P : Planner) → IsSound P → IsSound (limited P)
sound_limited P h = sound_with (limit_for P) P (limited P) refl refl h

-- ---- the code

-- what is told of a range
pub told_as : {E : Type 0} (result : Result (Option CostRange) E) (A B : CostRange → Type 0) → ((range : CostRange) → A range → B range)
    → IfOk result (λ told. IfSome told A) → IfOk result (λ told. IfSome told B)
told_as (Ok None) A B f h = tt
told_as (Ok (Some range)) A B f h = f range h
told_as (Err e) A B f h = tt

pub planner_range : ModelRangesAreThePlanners → LimitsChangeNoRange → (P : Planner) (p : LeastPlannerPlan) (k : ℕ) (range : CostRange) → IsSound P
    → IsShownIn (limited P) p → IsNode (length P.routes) k → IsPlanRange p.shown.model p.shown.carries.items k range → IsPlannerRange P (plan_in p.plan) k range
planner_range models limits P p k range sound shown hk exact =
    let L = limited P in
    let carries = p.shown.carries.items in
    let there = models shown.most L carries k range (sound_limited P sound) shown.allowed (subst (λ m. IsModelPlan m carries) shown.model_is shown.is_plan) hk
    (subst (λ m. IsPlanRange m carries k range) shown.model_is exact) in
    subst (λ x. IsPlannerRange P x k range) (sym shown.plan_is) (limits P (plan_of L carries) k range sound hk there)

-- the route is one of the model
pub number_in_model : (P : Planner) (p : LeastPlannerPlan) (k : ℕ) → IsShownIn (limited P) p → IsNode (length P.routes) k → IsRouteNumber p.shown.model k
number_in_model P p k shown hk = subst (λ m. IsRouteNumber m k) (sym shown.model_is) (is_number (limited P) k (pos 0) hk shown.most)
