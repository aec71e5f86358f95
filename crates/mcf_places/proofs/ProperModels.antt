-- The model of a problem without faults has no fault.
use Rattle.std.proofs.Common.{◌≡◌, ℕ, suc, ◌+◌, ◌-◌, ◌<◌, ◌≤◌, true, List, [], ◌∷◌, ◌++◌, length, map, refl, ap, sym, ◌∙◌, subst, arith, ℤ, pos, ◌≤ℤ◌, inl, inr}
use Rattle.std.specs.Prelude.{◌⊎◌, Option, Some, None, Result, Err, is_ok, option_map}
use Rattle.std.specs.List.{All}
use Rattle.std.specs.Option.{is_some, option_or}
use Rattle.std.proofs.lemmas.Int.{ints}
use Rattle.std.proofs.lemmas.List.Elements.{All-append, All-cons, All-head, All-tail}
use Rattle.mcf_flows.specs.Network.{IsNode}
use Rattle.mcf_model.specs.Laws.{IsBounded, IsProper, StepsTake}
use Rattle.mcf_model.specs.Model.{CostAtLeast, IsLimited, IsSound as IsSoundModel, IsSoundRoute, Route}
use Rattle.mcf_model.specs.declared.rows.RouteRow.{RouteRow}
use Rattle.mcf_model.specs.declared.rows.Step.{Step}
use Rattle.mcf_model.specs.Faults.{AreListed}
use Rattle.mcf_model.specs.Tables.{model_of as tables_of, route_of}
use Rattle.mcf_model.proofs.FaultTests.{all_of}
use Rattle.mcf_model.proofs.Proper.{unmap}
use Rattle.mcf_places.specs.declared.faults.TheConstants.{SUM_LIMIT}
use Rattle.mcf_places.specs.declared.places.Bounds.{Bounds}
use Rattle.mcf_places.specs.declared.places.Policy.{Policy}
use Rattle.mcf_places.specs.declared.places.Place.{Place}
use Rattle.mcf_places.specs.Models.{exit_by, exit_of, from_exit, gate_of, gate_route, hub_of, missings, model_of, place_at, plain_route, routes_by, some_bounds, stayings, supplies_of, throughs, with_exits, with_first}
use Rattle.mcf_places.specs.PlannerFaults.{CostsThrough, EarnsNothing, HasLimits, IsLimitedPlanner, IsLimitedThrough, IsProperPlanner, IsSmallPlace}
use Rattle.mcf_places.specs.PlannerLaws.{AreSoundRoutes}
use Rattle.mcf_places.specs.Planners.{EachPlace, Planner, missing_cost, unit_penalty}
use Rattle.mcf_places.specs.Ways.{with_tables}
use Rattle.mcf_places.proofs.PlaceSums.{each_from}
use Rattle.mcf_places.proofs.PlaceSteps.{each_small}
use Rattle.mcf_places.proofs.MadeRoutes.{IfRoute}
use Rattle.mcf_places.proofs.Ends.{M, S, T, if_route}
use Rattle.mcf_places.proofs.Sides.{has_exit, supplies_long}

abbrev no_place : Place
no_place = record { supply = pos 0; through = None; penalty = None }

-- a fact of all made routes
all_made : (Q : Route → Type 0) (make : ℕ → Place → Option Route) (v : ℕ) (ps : List Place) → EachPlace (λ j p. IfRoute (make j p) Q) v ps
    → All Q (routes_by make v ps)
all_made Q make v [] h = λ k d l. absurd (omega arith)
all_made Q make v (p ∷ ps) h = go (make v p) h.0 (all_made Q make (suc v) ps h.1)
  where
    go : (o : Option Route) → IfRoute o Q → All Q (routes_by make (suc v) ps) → All Q (with_first o (routes_by make (suc v) ps))
    go (Some r) k later = All-cons Q r (routes_by make (suc v) ps) k later
    go None k later = later

mapped : (Q : Route → Type 0) (f : Route → Route) (R : Route → Type 0) → ((r : Route) → R r → Q (f r)) → (rs : List Route) → All R rs → All Q (map f rs)
mapped Q f R g [] h = λ k d l. absurd (omega arith)
mapped Q f R g (r ∷ rs) h = All-cons Q (f r) (map f rs) (g r (All-head R r rs h)) (mapped Q f R g rs (All-tail R r rs h))

-- what is missing at a place costs no less than 0
missing_low : (policy : Policy) (p : Place) → pos 0 ≤ℤ unit_penalty policy.penalty → pos 0 ≤ℤ unit_penalty p.penalty → pos 0 ≤ℤ missing_cost policy p
missing_low policy p all own = go p.penalty own
  where
    go : (o : Option ℤ) → pos 0 ≤ℤ unit_penalty o → pos 0 ≤ℤ unit_penalty (option_or o policy.penalty)
    go (Some penalty) h = h
    go None h = all

module _ (most : ℤ) (P : Planner) where
  -- a fact of all routes of the model, from one of each kind
  pub all_routes : (Q R : Route → Type 0) → ((r : Route) → R r → Q (from_exit P.places r)) → All R P.routes
      → ((w : ℕ) → 1 ≤ w → w < 1 + length P.places → IfRoute (T P w (place_at P.places w)) Q)
      → ((w : ℕ) → 1 ≤ w → w < 1 + length P.places → IfRoute (S P w (place_at P.places w)) Q)
      → ((w : ℕ) → 1 ≤ w → w < 1 + length P.places → IfRoute (M P w (place_at P.places w)) Q)
      → Q (gate_route most P) → All Q (model_of most P).routes
  all_routes Q R own h t s m g =
      All-append Q (map (from_exit P.places) P.routes) (throughs P ++ (stayings P ++ (missings P ++ gate_route most P ∷ [])))
      (mapped Q (from_exit P.places) R own P.routes h)
      (All-append Q (throughs P) (stayings P ++ (missings P ++ gate_route most P ∷ []))
      (all_made Q (T P) 1 P.places (each_from (λ j p. IfRoute (T P j p) Q) 1 P.places no_place t))
      (All-append Q (stayings P) (missings P ++ gate_route most P ∷ [])
      (all_made Q (S P) 1 P.places (each_from (λ j p. IfRoute (S P j p) Q) 1 P.places no_place s))
      (All-append Q (missings P) (gate_route most P ∷ [])
      (all_made Q (M P) 1 P.places (each_from (λ j p. IfRoute (M P j p) Q) 1 P.places no_place m))
      (All-cons Q (gate_route most P) [] g (λ k d l. absurd (omega arith))))))

  pub exit_is_place : (w : ℕ) → IsNode (length P.places) w → IsNode (length (supplies_of P.places)) (exit_of P.places w)
  exit_is_place w n = go (place_at P.places w).through (has_exit P.places w n)
    where
      go : (o : Option Bounds) → (is_some o ≡ true → length (with_exits (some_bounds P.places) P.places) ≡ length P.places)
          → IsNode (length (supplies_of P.places)) (exit_by (length P.places) w o)
      go (Some b) f = let has = f refl in (omega (arith, n), omega (arith, n, has, supplies_long P.places))
      go None f = (n.0, omega (arith, n, supplies_long P.places))

  abbrev Sound : Route → Type 0
  Sound = IsSoundRoute (length (supplies_of P.places))

  plain_sound : (tail head : ℕ) (least cost : ℤ) (o : Option ℤ) → IsNode (length (supplies_of P.places)) tail → IsNode (length (supplies_of P.places)) head
      → Sound (plain_route tail head least o cost)
  plain_sound tail head least cost o a b = record { tail_is_place = a; head_is_place = b; rises = tt; adds = tt; may_be_both = tt }

  entry_is_place : (w : ℕ) → 1 ≤ w → w < 1 + length P.places → IsNode (length (supplies_of P.places)) w
  entry_is_place w a b = (a, omega (arith, b, supplies_long P.places))

  hub_is_place : IsNode (length (supplies_of P.places)) (hub_of P.places)
  hub_is_place = (omega arith, omega (arith, supplies_long P.places))

  gate_is_place : IsNode (length (supplies_of P.places)) (gate_of P.places)
  gate_is_place = (omega arith, omega (arith, supplies_long P.places))

  pub sound_model : AreSoundRoutes P → IsSoundModel (model_of most P)
  sound_model sound =
      all_routes Sound (IsSoundRoute (length P.places))
      (λ r s. record {
        tail_is_place = exit_is_place r.tail s.tail_is_place;
        head_is_place = entry_is_place r.head s.head_is_place.0 (omega (arith, s.head_is_place));
        rises = s.rises;
        adds = s.adds;
        may_be_both = s.may_be_both;
      }) sound
      (λ w a b. through w a b (place_at P.places w).through (has_exit P.places w (a, omega (arith, b))))
      (λ w a b. if_route _ _ Sound (plain_sound w (hub_of P.places) _ _ _ (entry_is_place w a b) hub_is_place))
      (λ w a b. if_route _ _ Sound (plain_sound (gate_of P.places) (exit_of P.places w) _ _ _ gate_is_place (exit_is_place w (a, omega (arith, b)))))
      (plain_sound (hub_of P.places) (gate_of P.places) _ _ _ hub_is_place gate_is_place)
    where
      through : (w : ℕ) → 1 ≤ w → w < 1 + length P.places → (o : Option Bounds)
          → (is_some o ≡ true → length (with_exits (some_bounds P.places) P.places) ≡ length P.places)
          → IfRoute (option_map (λ (b : Bounds). plain_route w (length P.places + 2 + w) b.least b.most b.cost) o) Sound
      through w a b (Some c) f =
          let has = f refl in
          plain_sound w (length P.places + 2 + w) c.least c.cost c.most (entry_is_place w a b) (omega (arith, a), omega (arith, b, has, supplies_long P.places))
      through w a b None f = tt

  through_all : (Q : Route → Type 0) (w : ℕ) → ((b : Bounds) → Q (plain_route w (length P.places + 2 + w) b.least b.most b.cost)) → (o : Option Bounds)
      → IfRoute (option_map (λ (b : Bounds). plain_route w (length P.places + 2 + w) b.least b.most b.cost) o) Q
  through_all Q w h (Some b) = h b
  through_all Q w h None = tt

  limited_model : All (λ r. IsLimited r.last_most) P.routes → All (λ p. IsLimitedThrough p.through) P.places
      → All (λ r. IsLimited r.last_most) (model_of most P).routes
  limited_model routes places =
      all_routes (λ r. IsLimited r.last_most) (λ r. IsLimited r.last_most) (λ r k. k) routes
      (λ w a b. through w (place_at P.places w).through (places (w - 1) no_place (omega (arith, a, b))))
      (λ w a b. if_route _ _ (λ r. IsLimited r.last_most) tt) (λ w a b. if_route _ _ (λ r. IsLimited r.last_most) tt) tt
    where
      through : (w : ℕ) (o : Option Bounds) → IsLimitedThrough o
          → IfRoute (option_map (λ (b : Bounds). plain_route w (length P.places + 2 + w) b.least b.most b.cost) o) (λ r. IsLimited r.last_most)
      through w (Some c) k = k
      through w None k = tt

  free_model : pos 0 ≤ℤ unit_penalty P.policy.penalty → All (λ p. pos 0 ≤ℤ unit_penalty p.penalty) P.places → EarnsNothing P
      → All (λ r. CostAtLeast (pos 0) r.steps r.last_cost) (model_of most P).routes
  free_model penalty own h =
      let none : pos 0 ≤ℤ pos 0 = omega (arith, ints) in
      all_routes (λ r. CostAtLeast (pos 0) r.steps r.last_cost) (λ r. CostAtLeast (pos 0) r.steps r.last_cost) (λ r k. k) h.routes
      (λ w a b. through w (place_at P.places w).through (h.places (w - 1) no_place (omega (arith, a, b))))
      (λ w a b. if_route _ _ (λ r. CostAtLeast (pos 0) r.steps r.last_cost) none)
      (λ w a b. if_route _ _ (λ r. CostAtLeast (pos 0) r.steps r.last_cost)
      (missing_low P.policy (place_at P.places w) penalty (own (w - 1) no_place (omega (arith, a, b))))) none
    where
      through : (w : ℕ) (o : Option Bounds) → CostsThrough o
          → IfRoute (option_map (λ (b : Bounds). plain_route w (length P.places + 2 + w) b.least b.most b.cost) o)
          (λ r. CostAtLeast (pos 0) r.steps r.last_cost)
      through w (Some c) k = k
      through w None k = tt

  pub proper_model : IsProperPlanner P → HasLimits P → IsProper (model_of most P)
  proper_model h limits =
      record {
        sound = sound_model h.sound.routes;
        bounded = bounded h.bounded limits;
        steps_take = all_routes StepsTake StepsTake (λ r k. k) h.steps_take
            (λ w a b. through_all StepsTake w (λ c k d l. absurd (omega arith)) (place_at P.places w).through)
            (λ w a b. if_route _ _ StepsTake (λ k d l. absurd (omega arith))) (λ w a b. if_route _ _ StepsTake (λ k d l. absurd (omega arith)))
            (λ k d l. absurd (omega arith));
      }
    where
      bounded : IsLimitedPlanner P ⊎ EarnsNothing P → HasLimits P → IsBounded (model_of most P)
      bounded (inl k) (inl all) = inl (limited_model k.routes all)
      bounded (inl k) (inr none) = inr (free_model h.penalty h.penalties none)
      bounded (inr none) l = inr (free_model h.penalty h.penalties none)

-- ---- the model that is made of lists

pub planner_is : (P : Planner) (places : List Place) (routes : List Route) (returning : List ℕ) (policy : Policy) → places ≡ P.places → routes ≡ P.routes
    → returning ≡ P.returning → policy ≡ P.policy → record { places = places; routes = routes; returning = returning; policy = policy } ≡ P
planner_is P places routes returning policy e f b g =
    ap (λ (z : List Place). record { places = z; routes = routes; returning = returning; policy = policy }) e
    ∙ ap (λ (z : List Route). record { places = P.places; routes = z; returning = returning; policy = policy }) f
    ∙ ap (λ (z : List ℕ). record { places = P.places; routes = P.routes; returning = z; policy = policy }) b
    ∙ ap (λ (z : Policy). record { places = P.places; routes = P.routes; returning = P.returning; policy = z }) g

module _ (most : ℤ) (P : Planner) (places : List Place) (steps : List Step) (rows : List RouteRow) (returning : List ℕ) (policy : Policy) (e : places ≡ P.places)
    (f : map (route_of steps) rows ≡ P.routes) (b : returning ≡ P.returning) (g : policy ≡ P.policy) (supplies : List ℤ) (made_steps : List Step) (made_rows : List RouteRow)
    (supplies_are : supplies ≡ supplies_of places) (steps_are : made_steps ≡ steps)
    (rows_are : map (route_of steps) made_rows ≡ (model_of most (with_tables places steps rows returning policy)).routes) where
  same_planner : with_tables places steps rows returning policy ≡ P
  same_planner = planner_is P places (map (route_of steps) rows) returning policy e f b g

  pub same_model : tables_of supplies made_steps made_rows ≡ model_of most P
  same_model =
      ap (λ (s : List ℤ). record { supplies = s; routes = map (route_of made_steps) made_rows }) (supplies_are ∙ ap supplies_of e)
      ∙ ap (λ (r : List Route). record { supplies = supplies_of P.places; routes = r })
      (ap (λ t. map (route_of t) made_rows) steps_are ∙ rows_are ∙ ap (λ Q. (model_of most Q).routes) same_planner)

  pub makes_model : IsProperPlanner P → HasLimits P → AreListed steps rows → (AreListed steps rows → AreListed steps made_rows)
      → IsProper (tables_of supplies made_steps made_rows) × AreListed made_steps made_rows
  makes_model proper limits listed keep =
      (subst IsProper (sym same_model) (proper_model most P proper limits), subst (λ t. AreListed t made_rows) (sym steps_are) (keep listed))

-- the ends of the routes of a problem without faults are places
pub tails_inside : (P : Planner) (places : List Place) (steps : List Step) (rows : List RouteRow) → places ≡ P.places → map (route_of steps) rows ≡ P.routes
    → IsProperPlanner P → All (λ row. IsNode (length places) row.tail) rows
tails_inside P places steps rows e f proper =
    all_of (λ row. IsSoundRoute (length P.places) (route_of steps row)) (λ row. IsNode (length places) row.tail) rows
    (λ row s. subst (λ ps. IsNode (length ps) row.tail) (sym e) s.tail_is_place)
    (unmap [] steps rows (IsSoundRoute (length P.places)) rows (subst (All (IsSoundRoute (length P.places))) (sym f) proper.sound.routes))

pub places_small : (P : Planner) (places : List Place) → places ≡ P.places → IsProperPlanner P → All IsSmallPlace places
places_small P places e proper = subst (All IsSmallPlace) (sym e) (each_small P.places (pos SUM_LIMIT) proper.small)

pub no_error : {X E : Type 0} (r : Result X E) (fault : E) → r ≡ Err fault → is_ok r ≡ true → ⊥
no_error r fault e h = cc (sym (ap is_ok e) ∙ h)
