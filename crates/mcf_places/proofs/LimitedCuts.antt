-- A bottleneck of the problem in which each place with bounds has a limit is one of the problem.
use Rattle.std.proofs.Common.{◌≡◌, ℕ, suc, Bool, true, false, ◌&&◌, List, [], ◌∷◌, IsTrue, map, refl, ap, sym, ◌∙◌, subst, arith, ℤ, pos, neg_ℤ, ◌+ℤ◌, ◌-ℤ◌, ◌≤ℤ◌, ◌<ℤ◌}
use Rattle.std.specs.Prelude.{IfOk, if◌then◌else◌, Err, Ok, Option, Result, Some, None, option_map}
use Rattle.std.specs.Option.{option_or}
use Rattle.std.proofs.lemmas.Int.{clamps, ints}
use Rattle.std.proofs.lemmas.List.{length-map}
use Rattle.mcf_flows.specs.declared.problem.Side.{Side}
use Rattle.mcf_flows.specs.declared.problem.Side.TheVariants.{Send, Take}
use Rattle.mcf_flows.specs.Network.{when}
use Rattle.mcf_model.specs.Bottlenecks.{least_across, limit_or_zero, most_across, route_room, route_sum}
use Rattle.mcf_model.specs.Model.{IsLimited, Route, size}
use Rattle.mcf_places.specs.declared.answering.LeastPlannerPlan.{LeastPlannerPlan}
use Rattle.mcf_places.specs.declared.answering.PlannerAnswer.{PlannerAnswer}
use Rattle.mcf_places.specs.declared.answering.PlannerAnswer.TheVariants.{Beyond, Least, NoPlan}
use Rattle.mcf_places.specs.declared.places.Bounds.{Bounds}
use Rattle.mcf_places.specs.declared.places.Place.{Place}
use Rattle.mcf_places.specs.declared.told.PlannerBottleneck.{PlannerBottleneck}
use Rattle.mcf_places.specs.Answers.{HasNoPlannerPlan, IsBestPlannerPlan, IsPlannerAnswer, IsStagedAnswer, set_in}
use Rattle.mcf_places.specs.FinerPlanners.{finer_plan}
use Rattle.mcf_places.specs.LimitedPlanners.{lacks_limits, limit_for, limited, limited_bounds, limited_place}
use Rattle.mcf_places.specs.PlannerBottlenecks.{IsPlannerBottleneck, IsStuck, IsWhole, PlaceSet, given_in, leads_in, leads_out, passes_in, passes_out, through_least, through_most, wanted_in}
use Rattle.mcf_places.specs.PlannerFaults.{IsLimitedThrough}
use Rattle.mcf_places.specs.Planners.{EachPlace, Planner, given, place_sum, wanted}
use Rattle.mcf_places.specs.Planning.{plan_in}
use Rattle.mcf_places.specs.Throughput.{ample_limit, bounds_span, route_span, throughput, ways_span}
use Rattle.mcf_places.proofs.LimitedPlans.{cost_limited, kept_limited, least_finer, least_limited, missing_limited, same_finer}
use Rattle.mcf_places.proofs.PlaceCuts.{when-none}
use Rattle.mcf_places.proofs.PlaceSums.{place_sum-add}
use Rattle.mcf_places.proofs.Shortages.{each_unmapped, place_sum-map}
use Rattle.mcf_places.proofs.Throughputs.{room_high, room_low, route_low, size_low, throughput_low, way_low, when_high}

-- ---- routes

when_low : (b : Bool) (x z : ℤ) → neg_ℤ z ≤ℤ x → pos 0 ≤ℤ z → neg_ℤ z ≤ℤ when b x
when_low true x z h k = h
when_low false x z h k = omega (arith, ints, k)

back_low : (b c : Bool) (x z : ℤ) → neg_ℤ z ≤ℤ x → pos 0 ≤ℤ z → neg_ℤ (when b z) ≤ℤ when (b && c) x
back_low true true x z h k = h
back_low true false x z h k = omega (arith, ints, k)
back_low false c x z h k = omega (arith, ints)

least_high : (b : Bool) (x : ℤ) → when b x ≤ℤ size x
least_high true x = omega (arith, ints, clamps)
least_high false x = omega (arith, ints, size_low x)

module _ (away here : ℕ → ℕ → Bool) where
  route_cut : (r : Route) → neg_ℤ (ways_span r) ≤ℤ (most_across away r -ℤ least_across here r)
  route_cut r =
      let low : neg_ℤ (route_span r -ℤ size r.least) ≤ℤ route_room r = omega (arith, ints, room_low r.steps (limit_or_zero r.last_most)) in
      let more : neg_ℤ (route_span r) ≤ℤ route_room r = omega (arith, ints, low, size_low r.least) in
      let some : pos 0 ≤ℤ (route_span r -ℤ size r.least) = omega (arith, ints, low, room_high r.steps (limit_or_zero r.last_most)) in
      omega (
        arith,
        ints,
        when_low (away r.tail r.head) (route_room r) (route_span r -ℤ size r.least) low some,
        back_low r.both (away r.head r.tail) (route_room r) (route_span r) more (route_low r),
        least_high (here r.tail r.head) r.least,
      )

  routes_cut : (rs : List Route) → neg_ℤ (route_sum ways_span rs) ≤ℤ (route_sum (most_across away) rs -ℤ route_sum (least_across here) rs)
  routes_cut [] = omega (arith, ints)
  routes_cut (r ∷ rs) = omega (arith, ints, route_cut r, routes_cut rs)

-- ---- places

module _ (limit : ℤ) (some : pos 0 ≤ℤ limit) (away here : ℕ → Bool) where
  -- what the cut has at a place, where bounds without a limit get this one
  abbrev cut_at : ℕ → Option Bounds → ℤ
  cut_at v o =
      when (away v) (through_most (option_map (limited_bounds (Some limit)) o)) -ℤ when (here v) (through_least (option_map (limited_bounds (Some limit)) o))

  most_low : (o : Option ℤ) → neg_ℤ (size (limit_or_zero o)) ≤ℤ limit_or_zero (option_or o (Some limit))
  most_low (Some m) = omega (arith, ints, clamps)
  most_low None = omega (arith, ints, clamps, some)

  cut_low : (v : ℕ) (o : Option Bounds) → neg_ℤ (bounds_span o) ≤ℤ cut_at v o
  cut_low v (Some b) =
      omega (
        arith,
        ints,
        when_low (away v) (limit_or_zero (option_or b.most (Some limit))) (size (limit_or_zero b.most)) (most_low b.most) (size_low (limit_or_zero b.most)),
        least_high (here v) b.least,
      )
  cut_low v None = omega (arith, ints, when-none (away v), when-none (here v))

  cut_open : (v : ℕ) (b : Bounds) → b.most ≡ None → away v ≡ true → (limit -ℤ bounds_span (Some b)) ≤ℤ cut_at v (Some b)
  cut_open v b e t =
      let one : when (away v) (limit_or_zero (option_or b.most (Some limit))) ≡ limit =
      ap (λ c. when c (limit_or_zero (option_or b.most (Some limit)))) t ∙ ap (λ o. limit_or_zero (option_or o (Some limit))) e in
      omega (arith, ints, one, least_high (here v) b.least, size_low (limit_or_zero b.most))

  -- if the cut is narrow, none of its places gets this limit
  each_limited : (v : ℕ) (ps : List Place)
      → place_sum (λ j p. cut_at j p.through) v ps <ℤ (limit -ℤ place_sum (λ j p. bounds_span p.through) v ps)
      → EachPlace (λ v p. IsTrue (away v) → IsLimitedThrough p.through) v ps
  each_limited v [] h = tt
  each_limited v (p ∷ ps) h = (
    λ t. first p.through h t,
    each_limited (suc v) ps (omega (arith, ints, h, cut_low v p.through)),
  )
    where
      rest_low : (w : ℕ) (qs : List Place) → neg_ℤ (place_sum (λ j p. bounds_span p.through) w qs) ≤ℤ place_sum (λ j p. cut_at j p.through) w qs
      rest_low w [] = omega (arith, ints)
      rest_low w (q ∷ qs) = omega (arith, ints, cut_low w q.through, rest_low (suc w) qs)

      open_bounds : (b : Bounds) → (o : Option ℤ) → b.most ≡ o
          → (cut_at v (Some b) +ℤ place_sum (λ j p. cut_at j p.through) (suc v) ps)
          <ℤ (limit -ℤ (bounds_span (Some b) +ℤ place_sum (λ j p. bounds_span p.through) (suc v) ps))
          → IsTrue (away v) → IsLimitedThrough (Some b)
      open_bounds b (Some m) e k t = subst IsLimited (sym e) tt
      open_bounds b None e k t = absurd (omega (arith, ints, k, cut_open v b e t, rest_low (suc v) ps))

      first : (o : Option Bounds)
          → (cut_at v o +ℤ place_sum (λ j p. cut_at j p.through) (suc v) ps) <ℤ (limit -ℤ (bounds_span o +ℤ place_sum (λ j p. bounds_span p.through) (suc v) ps))
          → IsTrue (away v) → IsLimitedThrough o
      first (Some b) k t = open_bounds b b.most refl k t
      first None k t = tt

-- ---- the cut of the problem

-- no limit is below 0
abbrev IsLow : Option ℤ → Type 0
IsLow (Some m) = pos 0 ≤ℤ m
IsLow None = Unit {0}

-- a limit is no less than all amounts
abbrev IsEnough : Planner → Option ℤ → Type 0
IsEnough P (Some m) = throughput P.places P.routes ≤ℤ m
IsEnough P None = Unit {0}

most_less : (limit : Option ℤ) → IsLow limit → (b : Bool) (o : Option Bounds)
    → when b (through_most o) ≤ℤ when b (through_most (option_map (limited_bounds limit) o))
most_less limit low false o = omega (arith, ints)
most_less limit low true None = omega (arith, ints)
most_less limit low true (Some b) = go b.most limit low
  where
    go : (o limit : Option ℤ) → IsLow limit → limit_or_zero o ≤ℤ limit_or_zero (option_or o limit)
    go (Some m) limit low = omega (arith, ints)
    go None (Some m) low = low
    go None None low = omega (arith, ints)

least_same : (limit : Option ℤ) (o : Option Bounds) → through_least (option_map (limited_bounds limit) o) ≡ through_least o
least_same limit (Some b) = refl
least_same limit None = refl

limited_less : (o : Option Bounds) → IsLimitedThrough (option_map (limited_bounds None) o) → IsLimitedThrough o
limited_less (Some b) h = go b.most h
  where
    go : (o : Option ℤ) → IsLimited (option_or o None) → IsLimited o
    go (Some m) h = tt
    go None h = h
limited_less None h = tt

module _ (limit : Option ℤ) (low : IsLow limit) (ta th : ℕ → Bool) where
  most_sum : (v : ℕ) (ps : List Place) → place_sum (λ j p. when (ta j) (through_most p.through)) v ps
      ≤ℤ place_sum (λ j p. when (ta j) (through_most p.through)) v (map (limited_place limit) ps)
  most_sum v [] = omega (arith, ints)
  most_sum v (p ∷ ps) = omega (arith, ints, most_less limit low (ta v) p.through, most_sum (suc v) ps)

  least_sum : (v : ℕ) (ps : List Place) → place_sum (λ j p. when (th j) (through_least p.through)) v (map (limited_place limit) ps)
      ≡ place_sum (λ j p. when (th j) (through_least p.through)) v ps
  least_sum v [] = refl
  least_sum v (p ∷ ps) = omega (arith, ints, ap (when (th v)) (least_same limit p.through), least_sum (suc v) ps)

cut_sum : (m : ℤ) (some : pos 0 ≤ℤ m) (ta th : ℕ → Bool) (v : ℕ) (ps : List Place) → place_sum (λ j p. cut_at m some ta th j p.through) v ps
    ≡ place_sum (λ j p. when (ta j) (through_most p.through)) v (map (limited_place (Some m)) ps)
    -ℤ place_sum (λ j p. when (th j) (through_least p.through)) v (map (limited_place (Some m)) ps)
cut_sum m some ta th v [] = refl
cut_sum m some ta th v (p ∷ ps) = omega (arith, ints, cut_sum m some ta th (suc v) ps)

module _ (P : Planner) (s : PlaceSet) (limit : Option ℤ) (low : IsLow limit) (enough : IsEnough P limit) where
  abbrev Q : Planner
  Q = record { places = map (limited_place limit) P.places; routes = P.routes; returning = P.returning; policy = P.policy }

  whole_less : (v : ℕ) (o : Option Bounds) → IsWhole s v (option_map (limited_bounds limit) o) → IsWhole s v o
  whole_less v (Some b) h = h
  whole_less v None h = h

  -- what has to go away is no more than all supplies
  abbrev IsNarrow : ℤ → ℤ → Type 0
  IsNarrow must may = (must -ℤ may) ≤ℤ place_sum (λ v p. size p.supply) 1 P.places

  module _ (away here : ℕ → ℕ → Bool) (ta th : ℕ → Bool) (must may : ℤ) (narrow : IsNarrow must may) (h : IsStuck Q s away here ta th must may) where
    places_less : EachPlace (λ v p. IsTrue (ta v) → IsLimitedThrough p.through) 1 P.places
    places_less = go limit low enough h.places_limited h.short
      where
        go : (limit : Option ℤ) → IsLow limit → IsEnough P limit
            → EachPlace (λ v p. IsTrue (ta v) → IsLimitedThrough p.through) 1 (map (limited_place limit) P.places)
            → (route_sum (most_across away) P.routes
            +ℤ (place_sum (λ v p. when (ta v) (through_most p.through)) 1 (map (limited_place limit) P.places) +ℤ may))
            <ℤ (must
            +ℤ (route_sum (least_across here) P.routes
            +ℤ place_sum (λ v p. when (th v) (through_least p.through)) 1 (map (limited_place limit) P.places)))
            → EachPlace (λ v p. IsTrue (ta v) → IsLimitedThrough p.through) 1 P.places
        go None low enough each short =
            each_unmapped (λ v p. IsTrue (ta v) → IsLimitedThrough p.through) (λ v p. IsTrue (ta v) → IsLimitedThrough p.through) (limited_place None)
            (λ v p k t. limited_less p.through (k t)) 1 P.places each
        go (Some m) low enough each short =
            each_limited m low ta th 1 P.places
            (omega (
              arith,
              ints,
              short,
              narrow,
              enough,
              cut_sum m low ta th 1 P.places,
              routes_cut away here P.routes,
              place_sum-add (λ v p. size p.supply) (λ v p. bounds_span p.through) 1 P.places,
            ))

    stuck_less : IsStuck P s away here ta th must may
    stuck_less =
        record {
          whole = each_unmapped (λ v p. IsWhole s v p.through) (λ v p. IsWhole s v p.through) (limited_place limit) (λ v p k. whole_less v p.through k) 1
              P.places h.whole;
          routes_limited = h.routes_limited;
          places_limited = places_less;
          short = omega (arith, ints, h.short, most_sum limit low ta th 1 P.places, least_sum limit low ta th 1 P.places);
        }

  stuck_as : (away here : ℕ → ℕ → Bool) (ta th : ℕ → Bool) (must must' may may' : ℤ) → must ≡ must' → may ≡ may'
      → IsStuck Q s away here ta th must may → IsStuck Q s away here ta th must' may'
  stuck_as away here ta th must must' may may' e f h =
      subst (λ z. IsStuck Q s away here ta th z may') e (subst (λ z. IsStuck Q s away here ta th must z) f h)

  part_low : (b : ℕ → Bool) (t : Place → ℤ) → ((p : Place) → pos 0 ≤ℤ t p) → (v : ℕ) (ps : List Place)
      → pos 0 ≤ℤ place_sum (λ j p. when (b j) (t p)) v ps
  part_low b t f v [] = omega (arith, ints)
  part_low b t f v (p ∷ ps) = omega (arith, ints, way_low (b v) (t p) (f p), part_low b t f (suc v) ps)

  part_high : (b : ℕ → Bool) (t : Place → ℤ) → ((p : Place) → t p ≤ℤ size p.supply) → (v : ℕ) (ps : List Place)
      → place_sum (λ j p. when (b j) (t p)) v ps ≤ℤ place_sum (λ j p. size p.supply) v ps
  part_high b t f v [] = omega (arith, ints)
  part_high b t f v (p ∷ ps) = omega (arith, ints, when_high (b v) (t p) (size p.supply) (f p) (size_low p.supply), part_high b t f (suc v) ps)

  pub bottleneck_less : (side : Side) → IsPlannerBottleneck Q s side → IsPlannerBottleneck P s side
  bottleneck_less side h =
      let g = place_sum-map (λ v p. when (s.entries v) (given p)) (limited_place limit) 1 P.places in
      let w = place_sum-map (λ v p. when (s.exits v) (wanted p)) (limited_place limit) 1 P.places in
      go side h g w
    where
      given_low : (p : Place) → pos 0 ≤ℤ given p
      given_low p = omega (arith, ints, clamps)

      wanted_low : (p : Place) → pos 0 ≤ℤ wanted p
      wanted_low p = omega (arith, ints, clamps)

      given_high : (p : Place) → given p ≤ℤ size p.supply
      given_high p = omega (arith, ints, clamps)

      wanted_high : (p : Place) → wanted p ≤ℤ size p.supply
      wanted_high p = omega (arith, ints, clamps)

      sends : IsNarrow (given_in s P.places -ℤ wanted_in s P.places) (when P.policy.unused (given_in s P.places))
      sends =
          omega (
            arith,
            ints,
            part_high s.entries given given_high 1 P.places,
            part_low s.exits wanted wanted_low 1 P.places,
            way_low P.policy.unused (given_in s P.places) (part_low s.entries given given_low 1 P.places),
          )

      takes : IsNarrow (wanted_in s P.places -ℤ given_in s P.places) (when P.policy.short (wanted_in s P.places))
      takes =
          omega (
            arith,
            ints,
            part_high s.exits wanted wanted_high 1 P.places,
            part_low s.entries given given_low 1 P.places,
            way_low P.policy.short (wanted_in s P.places) (part_low s.exits wanted wanted_low 1 P.places),
          )

      go : (side : Side) → IsPlannerBottleneck Q s side → given_in s Q.places ≡ given_in s P.places → wanted_in s Q.places ≡ wanted_in s P.places
          → IsPlannerBottleneck P s side
      go Send h g w =
          stuck_less (leads_out s) (leads_in s) (passes_out s) (passes_in s) (given_in s P.places -ℤ wanted_in s P.places)
          (when P.policy.unused (given_in s P.places)) sends
          (stuck_as (leads_out s) (leads_in s) (passes_out s) (passes_in s) _ _ _ _ (omega (arith, ints, g, w)) (ap (when P.policy.unused) g) h)
      go Take h g w =
          stuck_less (leads_in s) (leads_out s) (passes_in s) (passes_out s) (wanted_in s P.places -ℤ given_in s P.places)
          (when P.policy.short (wanted_in s P.places)) takes
          (stuck_as (leads_in s) (leads_out s) (passes_in s) (passes_out s) _ _ _ _ (omega (arith, ints, g, w)) (ap (when P.policy.short) w) h)

-- ---- answers

module _ (P : Planner) where
  limit_low : IsLow (limit_for P)
  limit_low = go (lacks_limits P.places P.routes)
    where
      go : (b : Bool) → IsLow (if b then Some (ample_limit P.places P.routes) else None)
      go true = omega (arith, ints, throughput_low P.places P.routes)
      go false = tt

  limit_enough : IsEnough P (limit_for P)
  limit_enough = go (lacks_limits P.places P.routes)
    where
      go : (b : Bool) → IsEnough P (if b then Some (ample_limit P.places P.routes) else None)
      go true = omega (arith, ints)
      go false = tt

  best_limited : (p : LeastPlannerPlan) → IsBestPlannerPlan (limited P) p → IsBestPlannerPlan P p
  best_limited p h =
      record {
        least = least_limited P (plan_in p.plan) h.least;
        cost_is = h.cost_is ∙ cost_limited P (plan_in p.plan);
        missing_is = h.missing_is ∙ missing_limited P (plan_in p.plan);
        least_in_finer_units = λ k k1. least_finer k k1 P (finer_plan k (plan_in p.plan)) (h.least_in_finer_units k k1);
      }

  none_limited : (b : PlannerBottleneck) → HasNoPlannerPlan (limited P) b → HasNoPlannerPlan P b
  none_limited b h =
      record {
        entry_by_place = h.entry_by_place ∙ length-map P.places (limited_place (limit_for P));
        exit_by_place = h.exit_by_place ∙ length-map P.places (limited_place (limit_for P));
        is_bottleneck = bottleneck_less P (set_in b) (limit_for P) limit_low limit_enough b.side h.is_bottleneck;
        none = λ x is. h.none x (kept_limited P x is);
        none_in_finer_units = λ k x k1 is. h.none_in_finer_units k x k1 ((same_finer k k1 P x).kept is);
      }

  pub answer_limited : (a : PlannerAnswer) → IsStagedAnswer (limited P) a → IsPlannerAnswer P a
  answer_limited (Least p) h = (best_limited p h.0, h.1)
  answer_limited (NoPlan b) h = none_limited b h
  answer_limited (Beyond fault) h = h

pub answers_limited : {E : Type 0} (P Q : Planner) (r : Result PlannerAnswer E) → Q ≡ limited P → IfOk r (IsStagedAnswer Q) → IfOk r (IsPlannerAnswer P)
answers_limited P Q (Ok a) e h = answer_limited P a (subst (λ R. IsStagedAnswer R a) e h)
answers_limited P Q (Err e) is h = h
