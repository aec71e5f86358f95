-- Plans over periods are plans of the problem without periods.
use Rattle.std.proofs.Common.{◌≡◌, ℕ, suc, ◌+◌, ◌-◌, ◌*◌, ◌≤◌, eqb, Bool, true, false, ◌&&◌, List, [], ◌∷◌, ◌++◌, length, map, take, drop, refl, ap, sym, ◌∙◌, subst, arith, ℤ, pos, ◌+ℤ◌, ◌-ℤ◌, ◌≤ℤ◌, inl, inr}
use Rattle.std.specs.Prelude.{filter, Option, Some, None}
use Rattle.std.specs.List.{All, AllZip}
use Rattle.std.proofs.Math.IntN.{◌*ℤ◌}
use Rattle.std.proofs.lemmas.Int.{ints}
use Rattle.std.proofs.lemmas.List.{append-nil, length-take-le, take-append-drop}
use Rattle.std.proofs.lemmas.List.Elements.{All-head, All-tail}
use Rattle.std.proofs.Math.Seq.{drop-append_seam, take-append_seam}
use Rattle.mcf_flows.specs.Network.{IsNode, at_node, node_sum, when}
use Rattle.mcf_flows.proofs.AllZips.{length-AllZip}
use Rattle.mcf_flows.proofs.NodeSums.{node_sum-same}
use Rattle.mcf_model.specs.Model.{Fits, MayCarry, Route, arriving, leaving, plan_sum, route_cost}
use Rattle.mcf_places.specs.declared.faults.TheConstants.{PLACE_LIMIT}
use Rattle.mcf_places.specs.declared.places.Place.{Place}
use Rattle.mcf_places.specs.Models.{place_at}
use Rattle.mcf_places.specs.Planners.{EachPlace, IsAtMost, IsBalancedAt, IsLeastPlan, IsNoWorse, IsPlan, KeepsBounds, Plan, Planner, cost, given, misses_least, missing_cost, passes, place_sum, through_cost, total_missing, wanted}
use Rattle.mcf_places.specs.Ways.{is_returning, way_back, way_there, ways_of}
use Rattle.mcf_periods.specs.declared.rows.Store.{Store}
use Rattle.mcf_periods.specs.Flat.{flat, flat_plan, flat_route, flat_routes, number_in, period_plan, stock_route}
use Rattle.mcf_periods.specs.PeriodLaws.{IsFlatPlanOf, IsInTime, IsOnTime, IsPeriodPlanOf, IsTimely, LeastFlatPlansAreLeast, PeriodPlansAreFlat}
use Rattle.mcf_periods.specs.Periods.{Departure, IsBalancedIn, IsLeastPeriodPlan, IsNoWorseIn, IsPeriodPlan, MayKeep, PeriodPlan, Periods, all_missing, amount_sum, arrived, kept_after, kept_until, missing_in, misses_least_in, number, passes_in, period_cost, period_sum, place_in, sent, stays_in, way}
use Rattle.mcf_periods.proofs.Grids.{each_from_spots, each_spot, number_fits, place_sum_spots, test_number}

-- ---- the routes of the problem without periods are used one way

there_same : (ps : List Place) (n : ℕ) (ss : List Store) (ds : List Departure)
    → map (way_there ps) (map (stock_route n) ss ++ map (flat_route n) ds) ≡ map (stock_route n) ss ++ map (flat_route n) ds
there_same ps n [] [] = refl
there_same ps n [] (d ∷ ds) = ap (λ (rs : List Route). flat_route n d ∷ rs) (there_same ps n [] ds)
there_same ps n (s ∷ ss) ds = ap (λ (rs : List Route). stock_route n s ∷ rs) (there_same ps n ss ds)

none_return : (ps : List Place) (n : ℕ) (ss : List Store) (ds : List Departure)
    → filter (is_returning ps) (map (stock_route n) ss ++ map (flat_route n) ds) ≡ []
none_return ps n [] [] = refl
none_return ps n [] (d ∷ ds) = none_return ps n [] ds
none_return ps n (s ∷ ss) ds = none_return ps n ss ds

pub routes_are : (P : Periods) → (flat P).routes ≡ flat_routes P
routes_are P =
    ap (λ (rs : List Route). rs ++ map way_back (filter (is_returning P.places) (flat_routes P))) (there_same P.places P.count P.stores P.departures)
    ∙ ap (λ (rs : List Route). flat_routes P ++ map way_back rs) (none_return P.places P.count P.stores P.departures)
    ∙ append-nil (flat_routes P)

-- ---- sums

sum_flat : (t : Route → ℤ → ℤ) (n : ℕ) (ds : List Departure) (cs : List ℤ)
    → plan_sum t (map (flat_route n) ds) cs ≡ amount_sum (λ d z. t (flat_route n d) z) ds cs
sum_flat t n [] cs = refl
sum_flat t n (d ∷ ds) [] = refl
sum_flat t n (d ∷ ds) (c ∷ cs) = ap (λ z. t (flat_route n d) c +ℤ z) (sum_flat t n ds cs)

sum_split : (t : Route → ℤ → ℤ) (n : ℕ) (ss : List Store) (ds : List Departure) (ks cs : List ℤ) → length ss ≡ length ks
    → plan_sum t (map (stock_route n) ss ++ map (flat_route n) ds) (ks ++ cs)
    ≡ amount_sum (λ s z. t (stock_route n s) z) ss ks +ℤ amount_sum (λ d z. t (flat_route n d) z) ds cs
sum_split t n [] ds [] cs e = omega (arith, ints, sum_flat t n ds cs)
sum_split t n [] ds (k ∷ ks) cs e = absurd (omega (arith, e))
sum_split t n (s ∷ ss) ds [] cs e = absurd (omega (arith, e))
sum_split t n (s ∷ ss) ds (k ∷ ks) cs e = omega (arith, ints, sum_split t n ss ds ks cs (omega (arith, e)))

sum-same : {X : Type 0} (R : X → Type 0) (t u : X → ℤ → ℤ) → ((x : X) (z : ℤ) → R x → t x z ≡ u x z) → (xs : List X) → All R xs → (zs : List ℤ)
    → amount_sum t xs zs ≡ amount_sum u xs zs
sum-same R t u e [] h zs = refl
sum-same R t u e (x ∷ xs) h [] = refl
sum-same R t u e (x ∷ xs) h (z ∷ zs) = omega (arith, ints, e x z (All-head R x xs h), sum-same R t u e xs (All-tail R x xs h) zs)

-- ---- what routes may carry

keeps : (o : Option ℤ) (z : ℤ) → IsAtMost o z → Fits [] o z
keeps (Some m) z h = h
keeps None z h = tt

kept : (o : Option ℤ) (z : ℤ) → Fits [] o z → IsAtMost o z
kept (Some m) z h = h
kept None z h = tt

carry_all : (n : ℕ) (ss : List Store) (ds : List Departure) (ks cs : List ℤ) → AllZip MayKeep ss ks → AllZip (λ d z. MayCarry (way d) z) ds cs
    → AllZip MayCarry (map (stock_route n) ss ++ map (flat_route n) ds) (ks ++ cs)
carry_all n [] [] [] [] h k = tt
carry_all n [] [] [] (c ∷ cs) h k = k
carry_all n [] (d ∷ ds) [] [] h k = k
carry_all n [] (d ∷ ds) [] (c ∷ cs) h k = (record { enough = (k.0).enough; fits = (k.0).fits }, carry_all n [] ds [] cs h k.1)
carry_all n [] ds (z ∷ ks) cs h k = absurd h
carry_all n (s ∷ ss) ds [] cs h k = absurd h
carry_all n (s ∷ ss) ds (z ∷ ks) cs h k =
    (record { enough = (h.0).some; fits = keeps s.most z (h.0).no_more }, carry_all n ss ds ks cs h.1 k)

carried : (n : ℕ) (ds : List Departure) (cs : List ℤ) → AllZip MayCarry (map (flat_route n) ds) cs → AllZip (λ d z. MayCarry (way d) z) ds cs
carried n [] [] h = h
carried n [] (c ∷ cs) h = h
carried n (d ∷ ds) [] h = h
carried n (d ∷ ds) (c ∷ cs) h = (record { enough = (h.0).enough; fits = (h.0).fits }, carried n ds cs h.1)

carry_split : (n : ℕ) (ss : List Store) (ds : List Departure) (zs : List ℤ) → AllZip MayCarry (map (stock_route n) ss ++ map (flat_route n) ds) zs
    → AllZip MayKeep ss (take (length ss) zs) × AllZip (λ d z. MayCarry (way d) z) ds (drop (length ss) zs)
carry_split n [] ds zs h = (tt, carried n ds zs h)
carry_split n (s ∷ ss) ds [] h = absurd h
carry_split n (s ∷ ss) ds (z ∷ zs) h =
    let rest = carry_split n ss ds zs h.1 in
    ((record { some = (h.0).enough; no_more = kept s.most z (h.0).fits }, rest.0), rest.1)

-- ---- a plan over periods, and its amounts without periods

module _ (P : Periods) (timely : IsTimely P) (x : PeriodPlan) (long : length P.stores ≡ length x.kept) where
  abbrev F : Planner
  F = flat P

  abbrev y : Plan
  y = flat_plan x

  abbrev all : List ℤ
  all = x.kept ++ x.carries

  few : P.count * P.last ≤ PLACE_LIMIT
  few = omega (arith, timely.listed, timely.few)

  module _ (v t : ℕ) (h : IsNode P.count v) (k : IsNode P.last t) where
    abbrev w : ℕ
    w = number P.count v t

    stock_leaves : (s : Store) (z : ℤ) → IsInTime P s → when (eqb (number_in P.count s.place s.period) w) z ≡ when (eqb s.place v && eqb s.period t) z
    stock_leaves s z i =
        ap (λ b. when b z) (test_number P.count P.last s.place s.period v t few i.keeps_at (i.begins, omega (arith, i.ends)) h k)

    stock_comes : (s : Store) (z : ℤ) → IsInTime P s → when (eqb (number_in P.count s.place (suc s.period)) w) z ≡ when (eqb s.place v && eqb (suc s.period) t) z
    stock_comes s z i =
        ap (λ b. when b z) (test_number P.count P.last s.place (suc s.period) v t few i.keeps_at (omega arith, i.ends) h k)

    route_leaves : (d : Departure) (z : ℤ) → IsOnTime P d → when (eqb (number_in P.count d.route.tail d.period) w) z ≡ when (eqb d.route.tail v && eqb d.period t) z
    route_leaves d z i =
        ap (λ b. when b z) (test_number P.count P.last d.route.tail d.period v t few i.leaves (i.departs, omega (arith, i.arrives)) h k)

    route_comes : (d : Departure) (z : ℤ) → IsOnTime P d
        → when (eqb (number_in P.count d.route.head (d.period + d.lead)) w) z ≡ when (eqb d.route.head v && eqb (d.period + d.lead) t) z
    route_comes d z i =
        ap (λ b. when b z) (test_number P.count P.last d.route.head (d.period + d.lead) v t few i.enters (omega (arith, i.departs), i.arrives) h k)

    pub leaves : leaving F.routes all w ≡ kept_after P x v t +ℤ sent P x v t
    leaves =
        ap (λ (rs : List Route). leaving rs all w) (routes_are P)
        ∙ sum_split (λ r z. when (eqb r.tail w) z) P.count P.stores P.departures x.kept x.carries long
        ∙ ap (λ z. z +ℤ amount_sum (λ (d : Departure) z. when (eqb (number_in P.count d.route.tail d.period) w) z) P.departures x.carries)
        (sum-same (IsInTime P) (λ s z. when (eqb (number_in P.count s.place s.period) w) z) (λ s z. when (eqb s.place v && eqb s.period t) z) stock_leaves P.stores timely.stores x.kept)
        ∙ ap (λ z. kept_after P x v t +ℤ z)
        (sum-same (IsOnTime P) (λ d z. when (eqb (number_in P.count d.route.tail d.period) w) z) (λ d z. when (eqb d.route.tail v && eqb d.period t) z) route_leaves P.departures timely.departures x.carries)

    pub comes : arriving F.routes all w ≡ kept_until P x v t +ℤ arrived P x v t
    comes =
        ap (λ (rs : List Route). arriving rs all w) (routes_are P)
        ∙ sum_split (λ r z. when (eqb r.head w) z) P.count P.stores P.departures x.kept x.carries long
        ∙ ap (λ z. z +ℤ amount_sum (λ (d : Departure) z. when (eqb (number_in P.count d.route.head (d.period + d.lead)) w) z) P.departures x.carries)
        (sum-same (IsInTime P) (λ s z. when (eqb (number_in P.count s.place (suc s.period)) w) z) (λ s z. when (eqb s.place v && eqb (suc s.period) t) z) stock_comes P.stores timely.stores x.kept)
        ∙ ap (λ z. kept_until P x v t +ℤ z)
        (sum-same (IsOnTime P) (λ d z. when (eqb (number_in P.count d.route.head (d.period + d.lead)) w) z) (λ d z. when (eqb d.route.head v && eqb (d.period + d.lead) t) z) route_comes P.departures timely.departures x.carries)

    pub passes_same : passes F y w (place_at P.places w) ≡ passes_in P x v t
    passes_same = ap (λ z. z +ℤ (given (place_in P v t) -ℤ stays_in P x v t)) comes

    pub balanced_flat : IsBalancedIn P x v t → IsBalancedAt F y w (place_at P.places w)
    balanced_flat b =
        record {
          stays_some = b.stays_some;
          stays_no_more = b.stays_no_more;
          misses_some = b.misses_some;
          misses_no_more = b.misses_no_more;
          balances = omega (arith, ints, passes_same, leaves, b.balances);
          keeps_bounds = subst (KeepsBounds (place_in P v t).through) (sym passes_same) b.keeps_bounds;
        }

    pub balanced_in : IsBalancedAt F y w (place_at P.places w) → IsBalancedIn P x v t
    balanced_in b =
        record {
          stays_some = b.stays_some;
          stays_no_more = b.stays_no_more;
          misses_some = b.misses_some;
          misses_no_more = b.misses_no_more;
          balances = omega (arith, ints, passes_same, leaves, b.balances);
          keeps_bounds = subst (KeepsBounds (place_in P v t).through) passes_same b.keeps_bounds;
        }

  pub plan_flat : IsPeriodPlan P x → IsPlan F y
  plan_flat h =
      record {
        may_carry = subst (λ (rs : List Route). AllZip MayCarry rs all) (sym (routes_are P))
            (carry_all P.count P.stores P.departures x.kept x.carries h.may_keep h.may_carry);
        stays_by_place = h.stays_by_place;
        missing_by_place = h.missing_by_place;
        balanced = each_from_spots (IsBalancedAt F y) P.count P.last P.places timely.listed (λ v t i k. balanced_flat v t i k (h.balanced t k v i));
      }

  pub missing_same : total_missing F y ≡ all_missing P x
  missing_same = place_sum_spots (λ w p. at_node x.missing w) P.count P.last P.places timely.listed

  throughs : place_sum (λ w p. through_cost p.through (passes F y w p)) 1 P.places ≡ period_sum P (λ v t. through_cost (place_in P v t).through (passes_in P x v t))
  throughs =
      place_sum_spots (λ w p. through_cost p.through (passes F y w p)) P.count P.last P.places timely.listed
      ∙ node_sum-same (λ t. node_sum (λ v. through_cost (place_in P v t).through (passes F y (number P.count v t) (place_in P v t))) P.count)
      (λ t. node_sum (λ v. through_cost (place_in P v t).through (passes_in P x v t)) P.count) P.last
      (λ t k. node_sum-same (λ v. through_cost (place_in P v t).through (passes F y (number P.count v t) (place_in P v t)))
      (λ v. through_cost (place_in P v t).through (passes_in P x v t)) P.count
      (λ v h. ap (through_cost (place_in P v t).through) (passes_same v t h k)))

  pub cost_same : cost F y ≡ period_cost P x
  cost_same =
      let routes = ap (λ (rs : List Route). plan_sum route_cost rs all) (routes_are P)
      ∙ sum_split route_cost P.count P.stores P.departures x.kept x.carries long in
      let missed = place_sum_spots (λ w p. missing_cost P.policy p *ℤ at_node x.missing w) P.count P.last P.places timely.listed in
      omega (arith, ints, routes, throughs, missed)

  pub plan_back : IsPlan F y → AllZip MayKeep P.stores x.kept → AllZip (λ d z. MayCarry (way d) z) P.departures x.carries → IsPeriodPlan P x
  plan_back h keep carry =
      record {
        may_carry = carry;
        may_keep = keep;
        stays_by_place = h.stays_by_place;
        missing_by_place = h.missing_by_place;
        balanced = λ t k v i. balanced_in v t i k (each_spot (IsBalancedAt F y) P.count P.last P.places timely.listed h.balanced v t i k);
      }

-- ---- the laws

pub flat_of : (P : Periods) (x : PeriodPlan) → IsTimely P → IsPeriodPlan P x → IsFlatPlanOf P x (flat_plan x)
flat_of P x timely h =
    let long = length-AllZip MayKeep P.stores x.kept h.may_keep in
    record {
      is_plan = plan_flat P timely x long h;
      same_cost = cost_same P timely x long;
      same_missing = missing_same P timely x long;
      back_again =
          ap (λ n. record { carries = drop n (x.kept ++ x.carries); kept = take n (x.kept ++ x.carries); stays = x.stays; missing = x.missing }) long
          ∙ ap (λ c. record { carries = c; kept = take (length x.kept) (x.kept ++ x.carries); stays = x.stays; missing = x.missing }) (drop-append_seam x.kept x.carries)
          ∙ ap (λ k. record { carries = x.carries; kept = k; stays = x.stays; missing = x.missing }) (take-append_seam x.kept x.carries);
    }

pub period_of : (P : Periods) (y : Plan) → IsTimely P → IsPlan (flat P) y → IsPeriodPlanOf P y (period_plan P y)
period_of P y timely h =
    let x = period_plan P y in
    let split = carry_split P.count P.stores P.departures y.carries (subst (λ (rs : List Route). AllZip MayCarry rs y.carries) (routes_are P) h.may_carry) in
    let long = length-AllZip MayKeep P.stores x.kept split.0 in
    let same : flat_plan x ≡ y =
    ap (λ c. record { carries = c; stays = y.stays; missing = y.missing }) (take-append-drop (length P.stores) y.carries) in
    record {
      is_plan = plan_back P timely x long (subst (IsPlan (flat P)) (sym same) h) split.0 split.1;
      same_cost = sym (cost_same P timely x long) ∙ ap (cost (flat P)) same;
      same_missing = sym (missing_same P timely x long) ∙ ap (total_missing (flat P)) same;
      back_again = same;
    }

pub period_plans_are_flat_lem : PeriodPlansAreFlat
period_plans_are_flat_lem = record { period_plans_are_flat = flat_of; flat_plans_are_period_plans = period_of }

no_worse : (b : Bool) (P : Periods) (y z : Plan) (x o : PeriodPlan) → period_cost P x ≡ cost (flat P) y → all_missing P x ≡ total_missing (flat P) y
    → cost (flat P) z ≡ period_cost P o → total_missing (flat P) z ≡ all_missing P o → IsNoWorse (flat P) b y z → IsNoWorseIn P b x o
no_worse true P y z x o c m d n h =
    elim h [
      | inl less ↦ inl (omega (arith, ints, m, n, less))
      | inr as_much ↦ inr (omega (arith, ints, m, n, as_much.0), omega (arith, ints, c, d, as_much.1))
    ]
no_worse false P y z x o c m d n h = omega (arith, ints, c, d, h)

pub least_flat_plans_are_least_lem : LeastFlatPlansAreLeast
least_flat_plans_are_least_lem P y timely h =
    let mine = period_of P y timely h.is_plan in
    record {
      is_plan = mine.is_plan;
      least = λ other k.
          let theirs = flat_of P other timely k in
          no_worse (misses_least_in P) P y (flat_plan other) (period_plan P y) other mine.same_cost mine.same_missing theirs.same_cost theirs.same_missing
          (h.least (flat_plan other) theirs.is_plan);
    }
