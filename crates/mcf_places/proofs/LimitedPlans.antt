-- The problem in which each place with bounds has a limit has the plans of the problem.
use Rattle.std.proofs.Common.{◌≡◌, ℕ, Bool, true, false, ◌&&◌, List, [], ◌∷◌, map, refl, ap, sym, ◌∙◌, subst, arith, ℤ, pos, neg_ℤ, ◌+ℤ◌, ◌≤ℤ◌, ◌<ℤ◌, inl, inr}
use Rattle.std.specs.Prelude.{◌||◌, if◌then◌else◌, not, Option, Some, None, option_map}
use Rattle.std.specs.List.{All, list_any}
use Rattle.std.specs.Option.{is_none, is_some, option_or}
use Rattle.std.proofs.Math.IntN.{◌*ℤ◌}
use Rattle.std.proofs.lemmas.Int.{by_lt_z, clamps, ints}
use Rattle.std.proofs.lemmas.List.{length-map}
use Rattle.std.proofs.lemmas.List.Elements.{All-map}
use Rattle.mcf_flows.specs.Network.{at_node, when}
use Rattle.mcf_flows.proofs.IntLaws.{mul-add, mul-mono, mul-neg, mul-zero, mul_at_least_zero}
use Rattle.mcf_model.specs.declared.rows.Step.{Step}
use Rattle.mcf_model.specs.Bottlenecks.{limit_or_zero, route_sum}
use Rattle.mcf_model.specs.Model.{IsLimited, Route, size}
use Rattle.mcf_model.specs.Scaling.{scaled_route, scaled_step}
use Rattle.mcf_model.proofs.FaultTests.{all_of, and_true, any_none, limited_from}
use Rattle.mcf_places.specs.declared.places.Bounds.{Bounds}
use Rattle.mcf_places.specs.declared.places.Place.{Place}
use Rattle.mcf_places.specs.FinerPlanners.{finer, finer_bounds, finer_place}
use Rattle.mcf_places.specs.LimitedPlanners.{IsBelow, IsSamePlan, LimitsChangeNoPlan, PlansFillNoLimit, lacks_limits, limit_for, limited, limited_bounds, limited_place}
use Rattle.mcf_places.specs.Planners.{EachPlace, IsAtMost, IsBalancedAt, IsLeastPlan, IsNoWorse, IsPlan, KeepsBounds, Plan, Planner, cost, has_penalties, misses_least, missing_cost, passes, place_sum, through_cost, total_missing}
use Rattle.mcf_places.specs.Throughput.{ample_limit, bounds_span, place_span, route_span, steps_span, throughput, ways_span}
use Rattle.mcf_places.proofs.FinerCuts.{limit_times, places_times, sum_times, when_times}
use Rattle.mcf_places.proofs.PlaceSums.{each_all, each_map, place_sum-same}
use Rattle.mcf_places.proofs.Shortages.{each_mapped, each_unmapped, place_sum-map}
use Rattle.mcf_places.proofs.Throughputs.{each_both, passes_high}

-- ---- bounds with a limit

at_most_or : (o limit : Option ℤ) (z : ℤ) → IsAtMost o z → IsAtMost limit z → IsAtMost (option_or o limit) z
at_most_or (Some m) limit z h k = h
at_most_or None limit z h k = k

at_most_own : (o limit : Option ℤ) (z : ℤ) → IsAtMost (option_or o limit) z → IsAtMost o z
at_most_own (Some m) limit z h = h
at_most_own None limit z h = tt

keeps_more : (limit : Option ℤ) (o : Option Bounds) (z : ℤ) → KeepsBounds o z → IsAtMost limit z → KeepsBounds (option_map (limited_bounds limit) o) z
keeps_more limit (Some b) z h k = (h.0, at_most_or b.most limit z h.1 k)
keeps_more limit None z h k = tt

keeps_less : (limit : Option ℤ) (o : Option Bounds) (z : ℤ) → KeepsBounds (option_map (limited_bounds limit) o) z → KeepsBounds o z
keeps_less limit (Some b) z h = (h.0, at_most_own b.most limit z h.1)
keeps_less limit None z h = tt

through_same : (limit : Option ℤ) (o : Option Bounds) (z : ℤ) → through_cost (option_map (limited_bounds limit) o) z ≡ through_cost o z
through_same limit (Some b) z = refl
through_same limit None z = refl

-- ---- plans

not_so : (b : Bool) → not b ≡ true → b ≡ false
not_so true e = cc e
not_so false e = refl

routes_limited : (rs : List Route) → list_any (λ r. is_none r.last_most) rs ≡ false → All (λ r. IsLimited r.last_most) rs
routes_limited rs e =
    all_of (λ r. is_none r.last_most ≡ false) (λ r. IsLimited r.last_most) rs (λ r k. limited_from r.last_most k) (any_none (λ r. is_none r.last_most) rs e)

-- no plan of the problem brings more to a place than this limit, if there is one
abbrev IsAmple : Planner → Option ℤ → Type 0
IsAmple P (Some m) = All (λ r. IsLimited r.last_most) P.routes × (throughput P.places P.routes ≤ℤ m)
IsAmple P None = Unit {0}

-- the problem in which bounds without a limit have this one
abbrev pub limited_by : Option ℤ → Planner → Planner
limited_by limit P =
    record { places = map (limited_place limit) P.places; routes = P.routes; returning = P.returning; policy = P.policy }

module _ (P : Planner) (limit : Option ℤ) (ample : IsAmple P limit) (x : Plan) where
  within : IsPlan P x → EachPlace (λ v p. IsAtMost limit (passes P x v p)) 1 P.places
  within h = go limit ample
    where
      go : (limit : Option ℤ) → IsAmple P limit → EachPlace (λ v p. IsAtMost limit (passes P x v p)) 1 P.places
      go (Some m) k =
          each_map (λ v p. passes P x v p ≤ℤ throughput P.places P.routes) (λ v p. passes P x v p ≤ℤ m) (λ v p a. omega (arith, ints, a, k.1)) 1 P.places
          (passes_high P x k.0 h)
      go None k = each_all (λ v p. Unit {0}) 1 P.places (λ v p a b. tt)

  balanced_more : (v : ℕ) (p : Place) → IsBalancedAt P x v p × IsAtMost limit (passes P x v p) → IsBalancedAt (limited_by limit P) x v (limited_place limit p)
  balanced_more v p h =
      record {
        stays_some = (h.0).stays_some;
        stays_no_more = (h.0).stays_no_more;
        misses_some = (h.0).misses_some;
        misses_no_more = (h.0).misses_no_more;
        balances = (h.0).balances;
        keeps_bounds = keeps_more limit p.through (passes P x v p) (h.0).keeps_bounds h.1;
      }

  balanced_less : (v : ℕ) (p : Place) → IsBalancedAt (limited_by limit P) x v (limited_place limit p) → IsBalancedAt P x v p
  balanced_less v p h =
      record {
        stays_some = h.stays_some;
        stays_no_more = h.stays_no_more;
        misses_some = h.misses_some;
        misses_no_more = h.misses_no_more;
        balances = h.balances;
        keeps_bounds = keeps_less limit p.through (passes P x v p) h.keeps_bounds;
      }

  kept_by : IsPlan P x → IsPlan (limited_by limit P) x
  kept_by h =
      record {
        may_carry = h.may_carry;
        stays_by_place = h.stays_by_place ∙ sym (length-map P.places (limited_place limit));
        missing_by_place = h.missing_by_place ∙ sym (length-map P.places (limited_place limit));
        balanced = each_mapped (λ v p. IsBalancedAt P x v p × IsAtMost limit (passes P x v p)) (IsBalancedAt (limited_by limit P) x)
            (limited_place limit) balanced_more 1 P.places
            (each_both (IsBalancedAt P x) (λ v p. IsAtMost limit (passes P x v p))
            (λ v p. IsBalancedAt P x v p × IsAtMost limit (passes P x v p)) (λ v p a b. (a, b)) 1 P.places h.balanced (within h));
      }

  back_by : IsPlan (limited_by limit P) x → IsPlan P x
  back_by h =
      record {
        may_carry = h.may_carry;
        stays_by_place = h.stays_by_place ∙ length-map P.places (limited_place limit);
        missing_by_place = h.missing_by_place ∙ length-map P.places (limited_place limit);
        balanced = each_unmapped (IsBalancedAt P x) (IsBalancedAt (limited_by limit P) x) (limited_place limit) balanced_less 1 P.places h.balanced;
      }

  missing_by : total_missing (limited_by limit P) x ≡ total_missing P x
  missing_by = place_sum-map (λ v p. at_node x.missing v) (limited_place limit) 1 P.places

  cost_by : cost (limited_by limit P) x ≡ cost P x
  cost_by =
      let places = place_sum-map (λ v p. through_cost p.through (passes (limited_by limit P) x v p)) (limited_place limit) 1 P.places
      ∙ place_sum-same (λ v p. through_cost (option_map (limited_bounds limit) p.through) (passes P x v p))
      (λ v p. through_cost p.through (passes P x v p)) 1 P.places
      (each_all (λ v p. through_cost (option_map (limited_bounds limit) p.through) (passes P x v p) ≡ through_cost p.through (passes P x v p)) 1 P.places
      (λ v p a b. through_same limit p.through (passes P x v p))) in
      omega (arith, ints, places, place_sum-map (λ v p. missing_cost P.policy p *ℤ at_node x.missing v) (limited_place limit) 1 P.places)

  same_by : IsSamePlan P (limited_by limit P) x
  same_by = record { kept = kept_by; back = back_by; same_cost = cost_by; same_missing = missing_by }

pub any_map : {X Y : Type 0} (f : X → Y) (p : X → Bool) (q : Y → Bool) → ((x : X) → q (f x) ≡ p x) → (xs : List X) → list_any q (map f xs) ≡ list_any p xs
any_map f p q e [] = refl
any_map f p q e (x ∷ xs) = ap (λ b. b || list_any q (map f xs)) (e x) ∙ ap (λ b. p x || b) (any_map f p q e xs)

-- the same penalties are named
pub has_penalties_limited : (limit : Option ℤ) (ps : List Place) → has_penalties (map (limited_place limit) ps) ≡ has_penalties ps
has_penalties_limited limit ps = any_map (limited_place limit) (λ p. is_some p.penalty) (λ p. is_some p.penalty) (λ p. refl) ps

penalties_by : (P : Planner) (limit : Option ℤ) → misses_least (limited_by limit P) ≡ misses_least P
penalties_by P limit = ap (λ b. P.policy.short && not (is_some P.policy.penalty || b)) (has_penalties_limited limit P.places)

least_by : (P : Planner) (limit : Option ℤ) → IsAmple P limit → (x : Plan) → IsLeastPlan (limited_by limit P) x → IsLeastPlan P x
least_by P limit ample x h =
    record {
      is_plan = back_by P limit ample x h.is_plan;
      least = λ other is. go (misses_least P) other
          (subst (λ b. IsNoWorse (limited_by limit P) b x other) (penalties_by P limit) (h.least other (kept_by P limit ample other is)));
    }
  where
    go : (b : Bool) (other : Plan) → IsNoWorse (limited_by limit P) b x other → IsNoWorse P b x other
    go true other (inl less) = inl (omega (arith, ints, less, missing_by P limit ample x, missing_by P limit ample other))
    go true other (inr same) =
        inr (
          sym (missing_by P limit ample x) ∙ same.0 ∙ missing_by P limit ample other,
          omega (arith, ints, same.1, cost_by P limit ample x, cost_by P limit ample other),
        )
    go false other k = omega (arith, ints, k, cost_by P limit ample x, cost_by P limit ample other)

-- ---- the limit that is missing

module _ (P : Planner) where
  lacking_limited : lacks_limits P.places P.routes ≡ true → All (λ r. IsLimited r.last_most) P.routes
  lacking_limited e =
      let parts = and_true _ _ (and_true _ _ e).1 in
      routes_limited P.routes (not_so (list_any (λ r. is_none r.last_most) P.routes) parts.0)

  pub limit_ample : IsAmple P (limit_for P)
  limit_ample = go (lacks_limits P.places P.routes) refl
    where
      go : (b : Bool) → lacks_limits P.places P.routes ≡ b → IsAmple P (if b then Some (ample_limit P.places P.routes) else None)
      go true e = (lacking_limited e, omega (arith, ints))
      go false e = tt

  pub below_limit : (x : Plan) → IsPlan P x → EachPlace (λ v p. IsBelow (limit_for P) (passes P x v p)) 1 P.places
  below_limit x h = go (lacks_limits P.places P.routes) refl
    where
      go : (b : Bool) → lacks_limits P.places P.routes ≡ b
          → EachPlace (λ v p. IsBelow (if b then Some (ample_limit P.places P.routes) else None) (passes P x v p)) 1 P.places
      go true e =
          each_map (λ v p. passes P x v p ≤ℤ throughput P.places P.routes) (λ v p. passes P x v p <ℤ ample_limit P.places P.routes)
          (λ v p a. omega (arith, ints, a)) 1 P.places (passes_high P x (lacking_limited e) h)
      go false e = each_all (λ v p. Unit {0}) 1 P.places (λ v p a b. tt)

  pub kept_limited : (x : Plan) → IsPlan P x → IsPlan (limited P) x
  kept_limited x = kept_by P (limit_for P) limit_ample x

  pub missing_limited : (x : Plan) → total_missing (limited P) x ≡ total_missing P x
  missing_limited x = missing_by P (limit_for P) limit_ample x

  pub cost_limited : (x : Plan) → cost (limited P) x ≡ cost P x
  cost_limited x = cost_by P (limit_for P) limit_ample x

  pub least_limited : (x : Plan) → IsLeastPlan (limited P) x → IsLeastPlan P x
  least_limited x = least_by P (limit_for P) limit_ample x

pub plans_fill_no_limit_lem : PlansFillNoLimit
plans_fill_no_limit_lem P x = below_limit P x

-- ---- finer units

pub misses_least_finer : (k : ℤ) (P : Planner) → misses_least (finer k P) ≡ misses_least P
misses_least_finer k P =
    ap (λ b. P.policy.short && not (is_some P.policy.penalty || b))
    (any_map (finer_place k) (λ p. is_some p.penalty) (λ p. is_some p.penalty) (λ p. refl) P.places)

module _ (k : ℤ) (k1 : pos 1 ≤ℤ k) where
  size_finer : (x : ℤ) → size (k *ℤ x) ≡ k *ℤ size x
  size_finer x =
      let low : pos 0 ≤ℤ k = omega (arith, ints, k1) in
      by_lt_z x (pos 0) (λ below. negative (mul-mono k x (pos 0) low (omega (arith, ints, below))) below)
      (λ above. let up : pos 0 ≤ℤ (k *ℤ x) = mul_at_least_zero k x low (omega (arith, ints, above)) in
      let here : size (k *ℤ x) ≡ k *ℤ x = omega (arith, ints, clamps, up) in
      let there : size x ≡ x = omega (arith, ints, clamps, above) in here ∙ ap (λ z. k *ℤ z) (sym there))
    where
      negative : (k *ℤ x) ≤ℤ (k *ℤ pos 0) → x <ℤ pos 0 → size (k *ℤ x) ≡ k *ℤ size x
      negative h below =
          let here : size (k *ℤ x) ≡ neg_ℤ (k *ℤ x) = omega (arith, ints, clamps, h, mul-zero k) in
          let there : size x ≡ neg_ℤ x = omega (arith, ints, clamps, below) in
          here ∙ sym (mul-neg k x) ∙ ap (λ z. k *ℤ z) (sym there)

  steps_finer : (steps : List Step) → steps_span (map (scaled_step k) steps) ≡ k *ℤ steps_span steps
  steps_finer [] = sym (mul-zero k)
  steps_finer (s ∷ steps) = omega (arith, ints, size_finer s.most, steps_finer steps, mul-add k (size s.most) (steps_span steps))

  route_finer : (r : Route) → route_span (scaled_route k r) ≡ k *ℤ route_span r
  route_finer r =
      omega (
        arith,
        ints,
        size_finer r.least,
        ap size (limit_times k k1 r.last_most),
        size_finer (limit_or_zero r.last_most),
        steps_finer r.steps,
        mul-add k (size r.least) (size (limit_or_zero r.last_most) +ℤ steps_span r.steps),
        mul-add k (size (limit_or_zero r.last_most)) (steps_span r.steps),
      )

  ways_finer : (r : Route) → ways_span (scaled_route k r) ≡ k *ℤ ways_span r
  ways_finer r =
      omega (
        arith,
        ints,
        route_finer r,
        ap (when r.both) (route_finer r),
        when_times k k1 r.both (route_span r),
        mul-add k (route_span r) (when r.both (route_span r)),
      )

  bounds_finer : (o : Option Bounds) → bounds_span (option_map (finer_bounds k) o) ≡ k *ℤ bounds_span o
  bounds_finer (Some b) =
      omega (
        arith,
        ints,
        size_finer b.least,
        ap size (limit_times k k1 b.most),
        size_finer (limit_or_zero b.most),
        mul-add k (size b.least) (size (limit_or_zero b.most)),
      )
  bounds_finer None = sym (mul-zero k)

  place_finer : (p : Place) → place_span (finer_place k p) ≡ k *ℤ place_span p
  place_finer p = omega (arith, ints, size_finer p.supply, bounds_finer p.through, mul-add k (size p.supply) (bounds_span p.through))

  throughput_finer : (ps : List Place) (rs : List Route) → throughput (map (finer_place k) ps) (map (scaled_route k) rs) ≡ k *ℤ throughput ps rs
  throughput_finer ps rs =
      omega (
        arith,
        ints,
        places_times k k1 (λ v p. place_span p) (λ v p. place_span p) (λ v p. place_finer p) 1 ps,
        sum_times k k1 ways_span ways_span ways_finer rs,
        mul-add k (place_sum (λ v p. place_span p) 1 ps) (route_sum ways_span rs),
      )

  limited_still : (o : Option ℤ) → IsLimited o → IsLimited (option_map (λ m. k *ℤ m) o)
  limited_still (Some m) h = tt
  limited_still None h = absurd h

  -- a limit that no plan brings more than is one in finer units
  ample_finer : (P : Planner) (limit : Option ℤ) → IsAmple P limit → IsAmple (finer k P) (option_map (λ m. k *ℤ m) limit)
  ample_finer P (Some m) h = (
    All-map (λ r. IsLimited r.last_most) (scaled_route k) P.routes
        (all_of (λ r. IsLimited r.last_most) (λ r. IsLimited (option_map (λ m. k *ℤ m) r.last_most)) P.routes (λ r l. limited_still r.last_most l) h.0),
    omega (arith, ints, throughput_finer P.places P.routes, mul-mono k (throughput P.places P.routes) m (omega (arith, ints, k1)) h.1),
  )
  ample_finer P None h = tt

  or_finer : (o limit : Option ℤ) → option_map (λ m. k *ℤ m) (option_or o limit) ≡ option_or (option_map (λ m. k *ℤ m) o) (option_map (λ m. k *ℤ m) limit)
  or_finer (Some m) limit = refl
  or_finer None limit = refl

  through_finer : (limit : Option ℤ) (o : Option Bounds)
      → option_map (finer_bounds k) (option_map (limited_bounds limit) o)
      ≡ option_map (limited_bounds (option_map (λ m. k *ℤ m) limit)) (option_map (finer_bounds k) o)
  through_finer limit (Some b) =
      ap (λ (o : Option ℤ). Some (record { least = k *ℤ b.least; most = o; cost = b.cost })) (or_finer b.most limit)
  through_finer limit None = refl

  places_finer : (limit : Option ℤ) (ps : List Place)
      → map (finer_place k) (map (limited_place limit) ps) ≡ map (limited_place (option_map (λ m. k *ℤ m) limit)) (map (finer_place k) ps)
  places_finer limit [] = refl
  places_finer limit (p ∷ ps) =
      ap (λ (o : Option Bounds). record { supply = k *ℤ p.supply; through = o; penalty = p.penalty } ∷ map (finer_place k) (map (limited_place limit) ps))
      (through_finer limit p.through)
      ∙ ap (λ (qs : List Place). limited_place (option_map (λ m. k *ℤ m) limit) (finer_place k p) ∷ qs) (places_finer limit ps)

  limited_finer : (P : Planner) (limit : Option ℤ) → finer k (limited_by limit P) ≡ limited_by (option_map (λ m. k *ℤ m) limit) (finer k P)
  limited_finer P limit =
      ap (λ (ps : List Place). record { places = ps; routes = map (scaled_route k) P.routes; returning = P.returning; policy = P.policy })
      (places_finer limit P.places)

  pub least_finer : (P : Planner) (x : Plan) → IsLeastPlan (finer k (limited P)) x → IsLeastPlan (finer k P) x
  least_finer P x h =
      least_by (finer k P) (option_map (λ m. k *ℤ m) (limit_for P)) (ample_finer P (limit_for P) (limit_ample P)) x
      (subst (λ R. IsLeastPlan R x) (limited_finer P (limit_for P)) h)

  pub same_finer : (P : Planner) (x : Plan) → IsSamePlan (finer k P) (finer k (limited P)) x
  same_finer P x =
      subst (λ R. IsSamePlan (finer k P) R x) (sym (limited_finer P (limit_for P)))
      (same_by (finer k P) (option_map (λ m. k *ℤ m) (limit_for P)) (ample_finer P (limit_for P) (limit_ample P)) x)

pub limits_change_no_plan_lem : LimitsChangeNoPlan
limits_change_no_plan_lem =
    record { same = λ P x. same_by P (limit_for P) (limit_ample P) x; same_in_finer_units = λ k P x k1. same_finer k k1 P x }
