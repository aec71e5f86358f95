-- Problems over periods with a dearer store or departure: the problems without periods that stand
-- for them are the problem without periods with a dearer route.
use Rattle.std.proofs.Common.{◌≡◌, ℕ, zero, suc, ◌+◌, ◌-◌, ◌≤◌, ◌<◌, false, List, [], ◌∷◌, ◌++◌, length, length-append, map, set, get_or, ap, sym, ◌∙◌, subst, refl, arith, ℤ, pos}
use Rattle.std.specs.Prelude.{filter}
use Rattle.std.proofs.lemmas.List.{append-nil, get_or-append_right, get_or-map, get_or_append_left, length-map, map-set, set-append_left, set-append_right}
use Rattle.std.proofs.lemmas.List.Elements.{All-set}
use Rattle.mcf_flows.specs.Network.{IsNode}
use Rattle.mcf_model.specs.Faults.{first_cost}
use Rattle.mcf_model.specs.Model.{IsSoundRoute, Route}
use Rattle.mcf_model.specs.Tables.{no_route}
use Rattle.mcf_model.proofs.FaultTests.{all_of}
use Rattle.mcf_periods.specs.declared.rows.Store.{Store}
use Rattle.mcf_periods.specs.Flat.{flat, flat_route, flat_routes, stock_route}
use Rattle.mcf_periods.specs.PeriodLaws.{IsInTime, IsOnTime, IsTimely}
use Rattle.mcf_periods.specs.Periods.{Departure, Periods}
use Rattle.mcf_places.specs.declared.places.Place.{Place}
use Rattle.mcf_places.specs.PlannerLaws.{IsSound, ReturnsFreely}
use Rattle.mcf_places.specs.Planners.{Planner}
use Rattle.mcf_places.specs.Ways.{is_returning, numbers_of, way_back, way_there}
use Rattle.mcf_plan_ranges.specs.Changes.{dearer}
use Rattle.mcf_plan_ranges.specs.Private.Sides.{floor_of}
use Rattle.mcf_plan_ranges.proofs.Dearer.{sound_still}
use Rattle.mcf_planner_ranges.specs.PlannerRanges.{with_dearer}
use Rattle.mcf_ranges.specs.Ranges.{IsInRange}
use Rattle.mcf_range_text.specs.PeriodRanges.{dearer_departure, dearer_store, no_departure, no_store, with_dearer_departure, with_dearer_store}

-- ---- the routes without periods are used one way

module _ (ps : List Place) (n : ℕ) where
  all_there : (ss : List Store) (ds : List Departure)
      → map (way_there ps) (map (stock_route n) ss ++ map (flat_route n) ds) ≡ map (stock_route n) ss ++ map (flat_route n) ds
  all_there [] [] = refl
  all_there [] (d ∷ ds) = ap (λ (rs : List Route). flat_route n d ∷ rs) (all_there [] ds)
  all_there (s ∷ ss) ds = ap (λ (rs : List Route). stock_route n s ∷ rs) (all_there ss ds)

  none_back : (ss : List Store) (ds : List Departure) → filter (is_returning ps) (map (stock_route n) ss ++ map (flat_route n) ds) ≡ []
  none_back [] [] = refl
  none_back [] (d ∷ ds) = none_back [] ds
  none_back (s ∷ ss) ds = none_back ss ds

routes_are : (P : Periods) → (flat P).routes ≡ flat_routes P
routes_are P =
    ap (λ (rs : List Route). rs ++ map way_back (filter (is_returning P.places) (flat_routes P))) (all_there P.places P.count P.stores P.departures)
    ∙ ap (λ (rs : List Route). flat_routes P ++ map way_back rs) (none_back P.places P.count P.stores P.departures)
    ∙ append-nil (flat_routes P)

none_numbered : (ps : List Place) (n j : ℕ) (ss : List Store) (ds : List Departure)
    → numbers_of (is_returning ps) j (map (stock_route n) ss ++ map (flat_route n) ds) ≡ []
none_numbered ps n j [] [] = refl
none_numbered ps n j [] (d ∷ ds) = none_numbered ps n (suc j) [] ds
none_numbered ps n j (s ∷ ss) ds = none_numbered ps n (suc j) ss ds

one_way : (n i : ℕ) (ss : List Store) (ds : List Departure) → i < length (map (stock_route n) ss ++ map (flat_route n) ds)
    → (get_or (map (stock_route n) ss ++ map (flat_route n) ds) i no_route).both ≡ false
one_way n i [] [] h = absurd (omega arith)
one_way n zero [] (d ∷ ds) h = refl
one_way n (suc i) [] (d ∷ ds) h = one_way n i [] ds (omega arith)
one_way n zero (s ∷ ss) ds h = refl
one_way n (suc i) (s ∷ ss) ds h = one_way n i ss ds (omega arith)

abbrev flat_with : Periods → List Route → List ℕ → Planner
flat_with P rs ns = record { places = P.places; routes = rs; returning = ns; policy = P.policy }

same_flat : (P : Periods) (rs ss : List Route) (ms ns : List ℕ) → rs ≡ ss → ms ≡ ns → flat_with P rs ms ≡ flat_with P ss ns
same_flat P rs ss ms ns e f = ap (λ (xs : List Route). flat_with P xs ms) e ∙ ap (λ (xs : List ℕ). flat_with P ss xs) f

module _ (P : Periods) (k : ℕ) (d : ℤ) where
  abbrev i : ℕ
  i = k - 1

  abbrev own : List Route
  own = map (stock_route P.count) P.stores

  abbrev sent : List Route
  sent = map (flat_route P.count) P.departures

  -- ---- a dearer store

  module _ (hk : IsNode (length P.stores) k) where
    abbrev S : Periods
    S = with_dearer_store P k d

    abbrev s : Store
    s = get_or P.stores i no_store

    inside : i < length P.stores
    inside = omega (arith, hk.0, hk.1)

    store_route : get_or (own ++ sent) i no_route ≡ stock_route P.count s
    store_route =
        get_or_append_left own sent no_route i (omega (arith, inside, length-map P.stores (stock_route P.count)))
        ∙ get_or-map (stock_route P.count) P.stores i no_store no_route inside

    store_routes : flat_routes S ≡ set (flat_routes P) i (dearer d (get_or (flat_routes P) i no_route))
    store_routes =
        ap (λ (rs : List Route). rs ++ sent) (map-set (stock_route P.count) P.stores i (dearer_store d s))
        ∙ sym (set-append_left own sent i (dearer d (stock_route P.count s)) (omega (arith, inside, length-map P.stores (stock_route P.count))))
        ∙ ap (λ (r : Route). set (own ++ sent) i (dearer d r)) (sym store_route)

    pub store_flat : flat S ≡ with_dearer (flat P) k d
    store_flat =
        same_flat P (flat S).routes (with_dearer (flat P) k d).routes (flat S).returning (flat P).returning
        (routes_are S ∙ store_routes ∙ ap (λ (rs : List Route). set rs i (dearer d (get_or rs i no_route))) (sym (routes_are P)))
        (none_numbered P.places P.count 1 S.stores P.departures ∙ sym (none_numbered P.places P.count 1 P.stores P.departures))

    pub store_timely : IsTimely P → IsTimely S
    store_timely t =
        record {
          listed = t.listed;
          few = t.few;
          departures = all_of (IsOnTime P) (IsOnTime S) P.departures
              (λ x h. record { leaves = h.leaves; enters = h.enters; departs = h.departs; arrives = h.arrives }) t.departures;
          stores = All-set (IsInTime S) P.stores i (dearer_store d s)
              (let h = t.stores i no_store inside in record { keeps_at = h.keeps_at; begins = h.begins; ends = h.ends })
              (all_of (IsInTime P) (IsInTime S) P.stores (λ x h. record { keeps_at = h.keeps_at; begins = h.begins; ends = h.ends }) t.stores);
        }

    pub store_number : IsNode (length (flat P).routes) k
    store_number =
        let e = ap (λ (rs : List Route). length rs) (routes_are P) in
        (hk.0, omega (arith, hk.1, e, length-append own sent, length-map P.stores (stock_route P.count)))

  -- ---- a dearer departure

  module _ (hk : IsNode (length P.departures) k) where
    abbrev D : Periods
    D = with_dearer_departure P k d

    abbrev x : Departure
    x = get_or P.departures i no_departure

    abbrev n : ℕ
    n = length P.stores

    abbrev j : ℕ
    j = n + k - 1

    own_place : i < length P.departures
    own_place = omega (arith, hk.0, hk.1)

    after : n ≤ j
    after = omega (arith, hk.0)

    place : j - n ≡ i
    place = omega (arith, hk.0)

    departure_route : get_or (own ++ sent) j no_route ≡ flat_route P.count x
    departure_route =
        get_or-append_right own sent n j no_route (length-map P.stores (stock_route P.count)) after
        ∙ ap (λ m. get_or sent m no_route) place
        ∙ get_or-map (flat_route P.count) P.departures i no_departure no_route own_place

    departure_routes : flat_routes D ≡ set (flat_routes P) j (dearer d (get_or (flat_routes P) j no_route))
    departure_routes =
        ap (λ (rs : List Route). own ++ rs) (map-set (flat_route P.count) P.departures i (dearer_departure d x))
        ∙ ap (λ m. own ++ set sent m (dearer d (flat_route P.count x))) (sym place)
        ∙ sym (set-append_right own sent n j (dearer d (flat_route P.count x)) (length-map P.stores (stock_route P.count)) after)
        ∙ ap (λ (r : Route). set (own ++ sent) j (dearer d r)) (sym departure_route)

    pub departure_flat : flat D ≡ with_dearer (flat P) (n + k) d
    departure_flat =
        same_flat P (flat D).routes (with_dearer (flat P) (n + k) d).routes (flat D).returning (flat P).returning
        (routes_are D ∙ departure_routes ∙ ap (λ (rs : List Route). set rs j (dearer d (get_or rs j no_route))) (sym (routes_are P)))
        (none_numbered P.places P.count 1 P.stores D.departures ∙ sym (none_numbered P.places P.count 1 P.stores P.departures))

    pub departure_timely : IsTimely P → IsTimely D
    departure_timely t =
        record {
          listed = t.listed;
          few = t.few;
          departures = All-set (IsOnTime D) P.departures i (dearer_departure d x)
              (let h = t.departures i no_departure own_place in record { leaves = h.leaves; enters = h.enters; departs = h.departs; arrives = h.arrives })
              (all_of (IsOnTime P) (IsOnTime D) P.departures
              (λ x h. record { leaves = h.leaves; enters = h.enters; departs = h.departs; arrives = h.arrives }) t.departures);
          stores = all_of (IsInTime P) (IsInTime D) P.stores (λ x h. record { keeps_at = h.keeps_at; begins = h.begins; ends = h.ends }) t.stores;
        }

    pub departure_number : IsNode (length (flat P).routes) (n + k)
    departure_number =
        let e = ap (λ (rs : List Route). length rs) (routes_are P) in (
          omega (arith, hk.0),
          omega (arith, hk.1, e, length-append own sent, length-map P.stores (stock_route P.count), length-map P.departures (flat_route P.count)),
        )

-- ---- it is sound

-- a route that is used one way is sound whatever its units cost
still_sound : (places : ℕ) (d : ℤ) (r : Route) → r.both ≡ false → IsSoundRoute places r → IsSoundRoute places (dearer d r)
still_sound places d r e h =
    sound_still d places r h (subst (λ b. IsInRange (pos 0) (floor_of b (first_cost r.steps r.last_cost)) d) (sym e) (tt, tt))

pub dearer_flat_sound : (P : Periods) (k : ℕ) (d : ℤ) → IsSound (flat P) → IsNode (length (flat P).routes) k → IsSound (with_dearer (flat P) k d)
dearer_flat_sound P k d sound hk =
    let rs = (flat P).routes in
    let r = get_or rs (k - 1) no_route in
    let inside : k - 1 < length rs = omega (arith, hk.0, hk.1) in
    let both : r.both ≡ false =
    ap (λ (ts : List Route). (get_or ts (k - 1) no_route).both) (routes_are P)
    ∙ one_way P.count (k - 1) P.stores P.departures (subst (λ (ts : List Route). k - 1 < length ts) (routes_are P) inside) in
    record {
      routes = All-set (IsSoundRoute (length P.places)) rs (k - 1) (dearer d r)
          (still_sound (length P.places) d r both (sound.routes (k - 1) no_route inside)) sound.routes;
      return_freely = All-set (ReturnsFreely P.places) rs (k - 1) (dearer d r) (sound.return_freely (k - 1) no_route inside) sound.return_freely;
    }
