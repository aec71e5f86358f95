-- What the model of a problem whose bounds got limits tells of a plan is what the model of the
-- problem itself tells.
use Rattle.std.proofs.Common.{◌≡◌, ℕ, zero, suc, ◌+◌, ◌-◌, ◌<◌, ◌≤◌, Bool, true, false, List, [], ◌∷◌, length, map, get_or, not, is_some, refl, ap, ap₂, sym, ◌∙◌, subst, arith, ℤ, ◌+ℤ◌, ◌≤ℤ◌, if◌then◌else◌}
use Rattle.std.specs.Prelude.{◌↔◌, ◌&&◌, ◌||◌, Option, Some, None, option_map}
use Rattle.std.specs.List.{All, AllZip, range_with_len}
use Rattle.std.specs.Option.{option_or}
use Rattle.std.proofs.Math.IntN.{◌*ℤ◌}
use Rattle.std.proofs.lemmas.Int.{ints}
use Rattle.std.proofs.lemmas.List.{length-map}
use Rattle.mcf_flows.proofs.AllZips.{length-AllZip}
use Rattle.mcf_flows.specs.Network.{IsNode, at_node, when}
use Rattle.mcf_model.specs.Model.{IsSoundRoute, MayCarry, Model, Route}
use Rattle.mcf_model.specs.Prices.{IsBestAt, ShowsPlan}
use Rattle.mcf_model.specs.Tables.{route_at}
use Rattle.mcf_figures.specs.declared.rows.RowFigures.{RowFigures}
use Rattle.mcf_figures.specs.FigureLaws.{IsPriced}
use Rattle.mcf_figures.specs.Figures.{AreJoined, IsExact, amount_at, dearer, free, saving}
use Rattle.mcf_figures.specs.Groups.{AreGroups, groups_by, is_exact_between}
use Rattle.mcf_figures.specs.Told.{cost_told}
use Rattle.mcf_places.specs.declared.answering.ShownModel.{ShownModel}
use Rattle.mcf_places.specs.declared.places.Bounds.{Bounds}
use Rattle.mcf_places.specs.declared.places.Place.{Place}
use Rattle.mcf_places.specs.Answers.{IsAllowed, IsLeastMissing}
use Rattle.mcf_places.specs.LimitedPlanners.{LimitsChangeNoPlan, PlansFillNoLimit, limit_for, limited, limited_bounds, limited_place}
use Rattle.mcf_places.specs.Models.{model_of, place_at, plain_route, plan_of, supplies_of}
use Rattle.mcf_places.specs.PlannerLaws.{IsPlanOf, IsSound, PlannersAreModels, has_bounds}
use Rattle.mcf_places.specs.Planners.{IsPlan, Plan, Planner, has_penalties, misses_least, place_sum, wanted}
use Rattle.mcf_plan_figures.specs.declared.figures.PassFigures.{PassFigures}
use Rattle.mcf_plan_figures.specs.declared.figures.PlaceFigures.{PlaceFigures}
use Rattle.mcf_plan_figures.specs.Changes.{route_in}
use Rattle.mcf_plan_figures.specs.OwnFigures.{HasOwnFigures, LimitsChangeNoFigure, in_model}
use Rattle.mcf_plan_figures.specs.PlannerFigures.{through_number}
use Rattle.mcf_plan_figures.specs.Told.{by_own_limit, groups_in, has_figures, pass_told, place_told, places_told, routes_told, way_told}
use Rattle.mcf_plan_figures.proofs.LimitedModels.{limited_at, model_eased, same_exit, same_plan, same_supplies, some_same}
use Rattle.mcf_plan_figures.proofs.RouteRooms.{route_is}
use Rattle.mcf_plan_figures.proofs.ThroughRooms.{through_route_is}
use Rattle.mcf_plan_figures.proofs.ToldLaws.{same_number}
use Rattle.mcf_plan_figures.proofs.UnfilledRoutes.{AreEased, arrives_same, dearer_at, exact_same, groups_same, joined_same, leaves_same, saving_at, shown_without}

-- ---- what is told of one route

abbrev row_by : List ℤ → List ℕ → Route → ℤ → RowFigures
row_by prices groups r x =
    record {
      cost = cost_told r x;
      free = free r x;
      saves = saving prices r;
      exact = is_exact_between groups r.tail r.head (saving prices r);
      dearer = dearer prices r x;
    }

module _ (prices : List ℤ) (groups : List ℕ) (tail head : ℕ) (least cost x : ℤ) where
  abbrev passing : Option ℤ → Route
  passing most = plain_route tail head least most cost

  row_without : (own limit : Option ℤ) → saving prices (passing (option_or own limit)) ≡ saving prices (passing own)
      → dearer prices (passing (option_or own limit)) x ≡ dearer prices (passing own) x
      → by_own_limit own (row_by prices groups (passing (option_or own limit)) x) ≡ row_by prices groups (passing own) x
  row_without (Some m) limit e more = refl
  row_without None limit e more =
      ap₂ (λ z (next : Option ℤ). record { cost = cost_told (passing None) x; free = None; saves = z; exact = is_exact_between groups tail head z; dearer = next })
      e more

  row_still : (own : Option ℤ) → by_own_limit own (row_by prices groups (passing own) x) ≡ row_by prices groups (passing own) x
  row_still (Some m) = refl
  row_still None = refl

-- ---- lists

best_may : (prices : List ℤ) (rs : List Route) (xs : List ℤ) → AllZip (IsBestAt prices) rs xs → AllZip MayCarry rs xs
best_may prices [] [] h = tt
best_may prices [] (x ∷ xs) h = absurd h
best_may prices (r ∷ rs) [] h = absurd h
best_may prices (r ∷ rs) (x ∷ xs) h = ((h.0).may_carry, best_may prices rs xs h.1)

same_range : {X : Type 0} (f g : ℕ → X) (first n : ℕ) → ((k : ℕ) → first ≤ k → k < first + n → f k ≡ g k)
    → map f (range_with_len first n) ≡ map g (range_with_len first n)
same_range f g first zero e = refl
same_range f g first (suc n) e =
    ap (λ x. x ∷ map f (range_with_len (first + 1) n)) (e first (omega arith) (omega arith))
    ∙ ap (λ xs. g first ∷ xs) (same_range f g (first + 1) n (λ k low high. e k (omega (arith, low)) (omega (arith, high))))

-- ---- the plan and its model

sound_limited : (P : Planner) → IsSound P → IsSound (limited P)
sound_limited P sound =
    let ps = P.places in
    let qs = (limited P).places in
    record {
      routes = subst (λ n. All (IsSoundRoute n) P.routes) (sym (length-map ps (limited_place (limit_for P)))) sound.routes;
      return_freely = λ k d h.
          let r = get_or P.routes k d in
          ap (λ b. r.both && (b || has_bounds qs r.head)) (some_same P r.tail) ∙ ap (λ b. r.both && (has_bounds ps r.tail || b)) (some_same P r.head)
          ∙ sound.return_freely k d h;
    }

module _ (law : PlannersAreModels) (fills : PlansFillNoLimit) (back : (P : Planner) (x : Plan) → IsPlan (limited P) x → IsPlan P x) (most : ℤ) (P : Planner)
    (sound : IsSound P) (prices carries : List ℤ) (priced : IsPriced (model_of most (limited P)) prices carries) where
  abbrev limited_routes : List Route
  limited_routes = (model_of most (limited P)).routes

  abbrev own_routes : List Route
  own_routes = (model_of most P).routes

  eased : AreEased limited_routes own_routes carries
  eased =
      let x : Plan = plan_of (limited P) carries in
      let of : IsPlanOf most (limited P) carries x = law.model_plans_are_plans most (limited P) carries (sound_limited P sound) priced.is_plan in
      let long : length P.routes ≡ length x.carries = omega (arith, length-AllZip MayCarry P.routes x.carries of.is_plan.may_carry) in
      subst (AreEased limited_routes own_routes) of.back_again (model_eased P most x long (fills P x (back P x of.is_plan)))

  own_shown : ShowsPlan own_routes prices carries
  own_shown = shown_without prices limited_routes own_routes carries eased priced.shown

  own_priced : IsPriced (model_of most P) prices carries
  own_priced =
      record {
        is_plan = record {
          may_carry = best_may prices own_routes carries own_shown;
          meets_supplies = λ v h.
              let e = same_supplies P in
              let there : IsNode (length (supplies_of (limited P).places)) v = subst (λ s. IsNode (length s) v) (sym e) h in
              omega (
                arith,
                ints,
                priced.is_plan.meets_supplies v there,
                ap (λ s. at_node s v) e,
                leaves_same v limited_routes own_routes carries eased,
                arrives_same v limited_routes own_routes carries eased,
              );
        };
        shown = own_shown;
      }

  -- the model with limits, and with the supplies of the problem
  with_supplies : model_of most (limited P) ≡ record { supplies = supplies_of P.places; routes = limited_routes }
  with_supplies = ap (λ (s : List ℤ). record { supplies = s; routes = limited_routes }) (same_supplies P)

  groups_are : groups_by prices (model_of most (limited P)) carries ≡ groups_by prices (model_of most P) carries
  groups_are = ap (λ m. groups_by prices m carries) with_supplies ∙ groups_same prices (supplies_of P.places) limited_routes own_routes carries eased

  joined_are : (u w : ℕ) → AreJoined prices (model_of most (limited P)) carries u w ↔ AreJoined prices (model_of most P) carries u w
  joined_are u w =
      subst (λ m. AreJoined prices m carries u w ↔ AreJoined prices (model_of most P) carries u w) (sym with_supplies)
      (joined_same prices (supplies_of P.places) limited_routes own_routes carries eased u w)

  exact_are : (k : ℕ) → IsExact prices (model_of most (limited P)) carries k ↔ IsExact prices (model_of most P) carries k
  exact_are k =
      subst (λ m. IsExact prices m carries k ↔ IsExact prices (model_of most P) carries k) (sym with_supplies)
      (exact_same prices (supplies_of P.places) limited_routes own_routes carries eased priced.shown k)

  groups_too : (a b : Model) → a.supplies ≡ b.supplies → ((u w : ℕ) → AreJoined prices a carries u w ↔ AreJoined prices b carries u w) → (numbers : List ℕ)
      → AreGroups prices a carries numbers → AreGroups prices b carries numbers
  groups_too a b e joined numbers g =
      record {
        by_place = g.by_place ∙ ap length e;
        same_where_joined = λ u w hu hw.
            let same = g.same_where_joined u w (subst (λ s. IsNode (length s) u) (sym e) hu) (subst (λ s. IsNode (length s) w) (sym e) hw) in
            (λ is. (joined u w).0 (same.0 is), λ j. same.1 ((joined u w).1 j));
        in_order = g.in_order;
      }

  are_groups : (numbers : List ℕ) → AreGroups prices (model_of most (limited P)) carries numbers ↔ AreGroups prices (model_of most P) carries numbers
  are_groups numbers = (
    groups_too (model_of most (limited P)) (model_of most P) (same_supplies P) joined_are numbers,
    groups_too (model_of most P) (model_of most (limited P)) (sym (same_supplies P)) (λ u w. ((joined_are u w).1, (joined_are u w).0)) numbers,
  )

  route_same : (k : ℕ) → IsNode (length P.routes) k → route_at (model_of most (limited P)) k ≡ route_at (model_of most P) k
  route_same k h =
      let r = route_in P k in
      route_is most (limited P) k h
      ∙ ap (λ (t : ℕ). record { tail = t; head = r.head; least = r.least; steps = r.steps; last_most = r.last_most; last_cost = r.last_cost; both = r.both })
      (same_exit P r.tail)
      ∙ sym (route_is most P k h)

  row_same : (groups : List ℕ) (k : ℕ) → IsNode (length P.routes) k
      → row_by prices groups (route_at (model_of most (limited P)) k) (amount_at carries k) ≡ row_by prices groups (route_at (model_of most P) k) (amount_at carries k)
  row_same groups k h = ap (λ r. row_by prices groups r (amount_at carries k)) (route_same k h)

  module _ (groups : List ℕ) (v : ℕ) (b : Bounds) (hv : IsNode (length P.places) v) (has : (place_at P.places v).through ≡ Some b) where
    abbrev number : ℕ
    number = through_number P v

    own_route : route_at (model_of most P) number ≡ plain_route v (length P.places + 2 + v) b.least b.most b.cost
    own_route = through_route_is most P v hv b has

    limited_route : route_at (model_of most (limited P)) number ≡ plain_route v (length P.places + 2 + v) b.least (option_or b.most (limit_for P)) b.cost
    limited_route =
        let as_many = length-map P.places (limited_place (limit_for P)) in
        let there : IsNode (length (limited P).places) v = subst (λ n. IsNode n v) (sym as_many) hv in
        let through = ap (λ (p : Place). p.through) (limited_at (limit_for P) P.places (v - 1)) ∙ ap (option_map (limited_bounds (limit_for P))) has in
        ap (route_at (model_of most (limited P))) (sym (same_number P v))
        ∙ through_route_is most (limited P) v there (limited_bounds (limit_for P) b) through
        ∙ ap (λ n. plain_route v (n + 2 + v) b.least (option_or b.most (limit_for P)) b.cost) as_many

    passes_row : by_own_limit b.most (row_by prices groups (route_at (model_of most (limited P)) number) (amount_at carries number))
        ≡ row_by prices groups (route_at (model_of most P) number) (amount_at carries number)
    passes_row =
        let x = amount_at carries number in
        let saves = saving_at prices limited_routes own_routes carries eased priced.shown (number - 1) in
        let more = dearer_at prices limited_routes own_routes carries eased (number - 1) in
        ap (λ r. by_own_limit b.most (row_by prices groups r x)) limited_route
        ∙ row_without prices groups v (length P.places + 2 + v) b.least b.cost x b.most (limit_for P)
        (sym (ap (saving prices) limited_route) ∙ saves ∙ ap (saving prices) own_route)
        (sym (ap (λ r. dearer prices r x) limited_route) ∙ more ∙ ap (λ r. dearer prices r x) own_route)
        ∙ sym (ap (λ r. row_by prices groups r x) own_route)

    own_row : by_own_limit b.most (row_by prices groups (route_at (model_of most P) number) (amount_at carries number))
        ≡ row_by prices groups (route_at (model_of most P) number) (amount_at carries number)
    own_row =
        let x = amount_at carries number in
        ap (λ r. by_own_limit b.most (row_by prices groups r x)) own_route ∙ row_still prices groups v (length P.places + 2 + v) b.least b.cost x b.most
        ∙ sym (ap (λ r. row_by prices groups r x) own_route)

-- ---- all that is told

module _ (law : PlannersAreModels) (fills : PlansFillNoLimit) (back : (P : Planner) (x : Plan) → IsPlan (limited P) x → IsPlan P x) (most : ℤ) (P : Planner)
    (sound : IsSound P) (s : ShownModel) (is : s.model ≡ model_of most (limited P))
    (priced : IsPriced (model_of most (limited P)) s.prices.items s.carries.items) where
  abbrev own : ShownModel
  own = in_model (model_of most P) s

  same_groups : groups_in s ≡ groups_in own
  same_groups = ap (λ m. groups_by s.prices.items m s.carries.items) is ∙ groups_are law fills back most P sound s.prices.items s.carries.items priced

  way_same : (groups : List ℕ) (k : ℕ) → IsNode (length P.routes) k → way_told s groups k ≡ way_told own groups k
  way_same groups k h =
      ap (λ m. row_by s.prices.items groups (route_at m k) (amount_at s.carries.items k)) is
      ∙ row_same law fills back most P sound s.prices.items s.carries.items priced groups k h

  same_routes : routes_told P s ≡ routes_told P own
  same_routes =
      ap (λ (xs : List RowFigures). if has_figures s then xs else [])
      (ap (λ groups. map (way_told s groups) (range_with_len 1 (length P.routes))) same_groups
      ∙ same_range (way_told s (groups_in own)) (way_told own (groups_in own)) 1 (length P.routes)
      (λ k low high. way_same (groups_in own) k (low, omega (arith, high))))

  same_passes : (groups : List ℕ) (v : ℕ) (b : Bounds) → IsNode (length P.places) v → (place_at P.places v).through ≡ Some b
      → by_own_limit b.most (way_told s groups (through_number P v)) ≡ way_told own groups (through_number P v)
  same_passes groups v b hv has =
      ap (λ m. by_own_limit b.most (row_by s.prices.items groups (route_at m (through_number P v)) (amount_at s.carries.items (through_number P v)))) is
      ∙ passes_row law fills back most P sound s.prices.items s.carries.items priced groups v b hv has

  pass_same : (groups : List ℕ) (v : ℕ) → IsNode (length P.places) v → (o : Option Bounds) → (place_at P.places v).through ≡ o
      → pass_told s groups (through_number P v) o ≡ pass_told own groups (through_number P v) o
  pass_same groups v hv None has = refl
  pass_same groups v hv (Some b) has =
      ap (λ (row : RowFigures). Some (record { amount = amount_at s.carries.items (through_number P v); row = row }))
      (same_passes groups v b hv has ∙ sym (own_row law fills back most P sound s.prices.items s.carries.items priced groups v b hv has))

  place_same : (groups : List ℕ) (v : ℕ) → IsNode (length P.places) v → place_told P s groups v ≡ place_told P own groups v
  place_same groups v hv =
      ap (λ (o : Option PassFigures). record { costs = (place_told P own groups v).costs; group = (place_told P own groups v).group; passes = o })
      (pass_same groups v hv (place_at P.places v).through refl)

  same_places : places_told P s ≡ places_told P own
  same_places =
      ap (λ (xs : List PlaceFigures). if has_figures s then xs else [])
      (ap (λ groups. map (place_told P s groups) (range_with_len 1 (length P.places))) same_groups
      ∙ same_range (place_told P s (groups_in own)) (place_told P own (groups_in own)) 1 (length P.places)
      (λ v low high. place_same (groups_in own) v (low, omega (arith, high))))

  own_figures : HasOwnFigures most P s
  own_figures =
      record {
        priced = own_priced law fills back most P sound s.prices.items s.carries.items priced;
        routes = same_routes;
        places = same_places;
        passes = same_passes;
        groups = same_groups;
        are_groups = λ numbers.
            subst (λ m. AreGroups s.prices.items m s.carries.items numbers ↔ AreGroups s.prices.items (model_of most P) s.carries.items numbers) (sym is)
            (are_groups law fills back most P sound s.prices.items s.carries.items priced numbers);
        exact = λ k.
            subst (λ m. IsExact s.prices.items m s.carries.items k ↔ IsExact s.prices.items (model_of most P) s.carries.items k) (sym is)
            (exact_are law fills back most P sound s.prices.items s.carries.items priced k);
        joined = λ u w.
            subst (λ m. AreJoined s.prices.items m s.carries.items u w ↔ AreJoined s.prices.items (model_of most P) s.carries.items u w) (sym is)
            (joined_are law fills back most P sound s.prices.items s.carries.items priced u w);
      }

-- ---- the answer

-- the least that is missing is the same
least_missing : LimitsChangeNoPlan → (P : Planner) (most : ℤ) → IsLeastMissing most (limited P) → IsLeastMissing most P
least_missing same P most h =
    record {
      plan = h.plan;
      is_plan = (same.same P h.plan).back h.is_plan;
      misses = sym ((same.same P h.plan).same_missing) ∙ h.misses;
      least = λ x is. subst (λ z. most ≤ℤ z) ((same.same P x).same_missing) (h.least x ((same.same P x).kept is));
      least_in_finer_units = λ k x k1 is.
          let finer = same.same_in_finer_units k P x k1 in
          subst (λ z. (k *ℤ most) ≤ℤ z) finer.same_missing (h.least_in_finer_units k x k1 (finer.kept is));
    }

allowed_too : LimitsChangeNoPlan → (P : Planner) (most : ℤ) (staged : Bool) → IsAllowed staged most (limited P) → IsAllowed staged most P
allowed_too same P most true h = least_missing same P most h
allowed_too same P most false h = h ∙ ap (when P.policy.short) (all_wanted_same (limit_for P) 1 P.places)
  where
    all_wanted_same : (limit : Option ℤ) (v : ℕ) (ps : List Place)
        → place_sum (λ v p. wanted p) v (map (limited_place limit) ps) ≡ place_sum (λ v p. wanted p) v ps
    all_wanted_same limit v [] = refl
    all_wanted_same limit v (p ∷ ps) = ap (λ z. wanted p +ℤ z) (all_wanted_same limit (suc v) ps)

-- the same penalties are named
has_penalties_same : (limit : Option ℤ) (ps : List Place) → has_penalties (map (limited_place limit) ps) ≡ has_penalties ps
has_penalties_same limit [] = refl
has_penalties_same limit (p ∷ ps) = ap (λ b. is_some p.penalty || b) (has_penalties_same limit ps)

penalties_same : (P : Planner) → misses_least (limited P) ≡ misses_least P
penalties_same P = ap (λ b. P.policy.short && not (is_some P.policy.penalty || b)) (has_penalties_same (limit_for P) P.places)

pub limits_change_no_figure_lem : PlannersAreModels → LimitsChangeNoPlan → PlansFillNoLimit → LimitsChangeNoFigure
limits_change_no_figure_lem law same fills P p sound shown =
    let priced : IsPriced p.shown.model p.shown.prices.items p.shown.carries.items = record { is_plan = shown.is_plan; shown = shown.shown } in
    record {
      most = shown.most;
      allowed = subst (λ (b : Bool). IsAllowed b shown.most P) (penalties_same P) (allowed_too same P shown.most (misses_least (limited P)) shown.allowed);
      plan_is = shown.plan_is ∙ same_plan P p.shown.carries.items;
      figures = own_figures law fills (λ P x. (same.same P x).back) shown.most P sound p.shown shown.model_is
          (subst (λ m. IsPriced m p.shown.prices.items p.shown.carries.items) shown.model_is priced);
    }
