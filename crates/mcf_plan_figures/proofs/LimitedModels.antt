-- The model of a problem whose bounds got limits is the model of the problem, but for these limits.
use Rattle.std.proofs.Common.{◌≡◌, ℕ, zero, suc, ◌+◌, ◌-◌, Bool, true, false, ◌&&◌, List, [], ◌∷◌, ◌++◌, length, map, get_or, drop, refl, ap, sym, ◌∙◌, subst, arith, ℤ, pos, neg_ℤ, ◌+ℤ◌, int_lt, inl, length-append}
use Rattle.std.specs.Prelude.{◌||◌, Option, Some, None, option_map}
use Rattle.std.specs.Option.{is_some, option_or, option_to_list}
use Rattle.std.proofs.lemmas.List.{length-map}
use Rattle.mcf_flows.specs.Network.{at_node}
use Rattle.mcf_model.specs.Model.{Route}
use Rattle.mcf_places.specs.declared.places.Bounds.{Bounds}
use Rattle.mcf_places.specs.declared.places.Place.{Place}
use Rattle.mcf_places.specs.LimitedPlanners.{IsBelow, limit_for, limited, limited_bounds, limited_place}
use Rattle.mcf_places.specs.Models.{amounts_by, by_place, entry_supply, exit_by, exit_of, exit_supply, first_amount, from_exit, gate_of, gate_route, hub_of, hub_supply, later_amounts, missing_route, missings, model_of, place_at, plain_route, plan_of, route_if, routes_by, routes_of, side_amounts, some_bounds, stay_route, stayings, supplies_of, through_route, throughs, with_exits, with_first}
use Rattle.mcf_places.specs.Planners.{EachPlace, Plan, Planner, passes, place_sum, total_missing, missing_cost, wanted}
use Rattle.mcf_plan_figures.proofs.ThroughRooms.{T, exit_by_some}
use Rattle.mcf_plan_figures.proofs.ToldFigures.{first_length}
use Rattle.mcf_plan_figures.proofs.UnfilledRoutes.{AreEased, IsEased, eased_none, unfilled}

abbrev no_place : Place
no_place = record { supply = pos 0; through = None; penalty = None }

pub still_some : (limit : Option ℤ) (o : Option Bounds) → is_some (option_map (limited_bounds limit) o) ≡ is_some o
still_some limit (Some b) = refl
still_some limit None = refl

pub limited_at : (limit : Option ℤ) (ps : List Place) (i : ℕ) → get_or (map (limited_place limit) ps) i no_place ≡ limited_place limit (get_or ps i no_place)
limited_at limit [] i = refl
limited_at limit (p ∷ ps) zero = refl
limited_at limit (p ∷ ps) (suc i) = limited_at limit ps i

-- ---- lists made for places

module _ (limit : Option ℤ) where
  map_limited : (f : Place → ℤ) → ((p : Place) → f (limited_place limit p) ≡ f p) → (ps : List Place) → map f (map (limited_place limit) ps) ≡ map f ps
  map_limited f e [] = refl
  map_limited f e (p ∷ ps) = ap (λ z. z ∷ map f (map (limited_place limit) ps)) (e p) ∙ ap (λ zs. f p ∷ zs) (map_limited f e ps)

  any_limited : (ps : List Place) → some_bounds (map (limited_place limit) ps) ≡ some_bounds ps
  any_limited [] = refl
  any_limited (p ∷ ps) =
      ap (λ b. b || some_bounds (map (limited_place limit) ps)) (still_some limit p.through) ∙ ap (λ b. is_some p.through || b) (any_limited ps)

  hub_limited : (v : ℕ) (ps : List Place) → place_sum (λ v p. neg_ℤ p.supply) v (map (limited_place limit) ps) ≡ place_sum (λ v p. neg_ℤ p.supply) v ps
  hub_limited v [] = refl
  hub_limited v (p ∷ ps) = ap (λ z. neg_ℤ p.supply +ℤ z) (hub_limited (suc v) ps)

  module _ (make own : ℕ → Place → Option Route) (e : (v : ℕ) (p : Place) → make v (limited_place limit p) ≡ own v p) where
    made_limited : (v : ℕ) (ps : List Place) → routes_by make v (map (limited_place limit) ps) ≡ routes_by own v ps
    made_limited v [] = refl
    made_limited v (p ∷ ps) =
        ap (λ o. with_first o (routes_by make (suc v) (map (limited_place limit) ps))) (e v p) ∙ ap (with_first (own v p)) (made_limited (suc v) ps)

    by_limited : (v : ℕ) (ps : List Place) (xs : List ℤ) → by_place make v (map (limited_place limit) ps) xs ≡ by_place own v ps xs
    by_limited v [] xs = refl
    by_limited v (p ∷ ps) xs =
        ap (λ o. first_amount o xs ∷ by_place make (suc v) (map (limited_place limit) ps) (later_amounts o xs)) (e v p)
        ∙ ap (λ zs. first_amount (own v p) xs ∷ zs) (by_limited (suc v) ps (later_amounts (own v p) xs))

  made_length : (make : ℕ → Place → Option Route) (amount : ℕ → Place → ℤ) (v : ℕ) (ps : List Place)
      → length (routes_by make v ps) ≡ length (amounts_by make amount v ps)
  made_length make amount v [] = refl
  made_length make amount v (p ∷ ps) = go (make v p) (made_length make amount (suc v) ps)
    where
      go : (o : Option Route) → length (routes_by make (suc v) ps) ≡ length (amounts_by make amount (suc v) ps)
          → length (with_first o (routes_by make (suc v) ps)) ≡ length (with_first (option_map (λ (r : Route). amount v p) o) (amounts_by make amount (suc v) ps))
      go (Some r) k = ap suc k
      go None k = k

-- ---- the routes for what passes through places

module _ (limit : Option ℤ) (n : ℕ) (amount : ℕ → Place → ℤ) (same : (v : ℕ) (p : Place) → amount v (limited_place limit p) ≡ amount v p) where
  abbrev through_of : ℕ → Option Bounds → Option Route
  through_of v o = option_map (λ (b : Bounds). plain_route v (n + 2 + v) b.least b.most b.cost) o

  pub through_eased : (v : ℕ) (ps : List Place) → EachPlace (λ v p. IsBelow limit (amount v p)) v ps
      → AreEased (routes_by (T n) v (map (limited_place limit) ps)) (routes_by (T n) v ps) (amounts_by (T n) amount v (map (limited_place limit) ps))
  through_eased v [] h = tt
  through_eased v (p ∷ ps) h = go p.through (through_eased (suc v) ps h.1)
    where
      one : (b : Bounds) (x : ℤ) → IsBelow limit x → IsEased (plain_route v (n + 2 + v) b.least (option_or b.most limit) b.cost)
          (plain_route v (n + 2 + v) b.least b.most b.cost) x
      one b x below = by_most b.most limit below
        where
          by_most : (o limit : Option ℤ) → IsBelow limit x → IsEased (plain_route v (n + 2 + v) b.least (option_or o limit) b.cost)
              (plain_route v (n + 2 + v) b.least o b.cost) x
          by_most (Some m) limit below = inl refl
          by_most None None below = inl refl
          by_most None (Some m) below = unfilled v (n + 2 + v) b.least b.cost m x below

      go : (o : Option Bounds) → AreEased (routes_by (T n) (suc v) (map (limited_place limit) ps)) (routes_by (T n) (suc v) ps)
          (amounts_by (T n) amount (suc v) (map (limited_place limit) ps))
          → AreEased (with_first (through_of v (option_map (limited_bounds limit) o)) (routes_by (T n) (suc v) (map (limited_place limit) ps)))
          (with_first (through_of v o) (routes_by (T n) (suc v) ps))
          (with_first (option_map (λ (r : Route). amount v (limited_place limit p)) (through_of v (option_map (limited_bounds limit) o)))
          (amounts_by (T n) amount (suc v) (map (limited_place limit) ps)))
      go (Some b) rest = (one b (amount v (limited_place limit p)) (subst (IsBelow limit) (sym (same v p)) h.0), rest)
      go None rest = rest

pub eased_append : (qs rs : List Route) (xs : List ℤ) (qs' rs' : List Route) (xs' : List ℤ) → AreEased qs rs xs → AreEased qs' rs' xs'
    → AreEased (qs ++ qs') (rs ++ rs') (xs ++ xs')
eased_append [] [] [] qs' rs' xs' h k = k
eased_append [] [] (x ∷ xs) qs' rs' xs' h k = absurd h
eased_append [] (r ∷ rs) xs qs' rs' xs' h k = absurd h
eased_append (q ∷ qs) [] xs qs' rs' xs' h k = absurd h
eased_append (q ∷ qs) (r ∷ rs) [] qs' rs' xs' h k = absurd h
eased_append (q ∷ qs) (r ∷ rs) (x ∷ xs) qs' rs' xs' h k = (h.0, eased_append qs rs xs qs' rs' xs' h.1 k)

as_many_bounds : (limit : Option ℤ) (o : Option Bounds) → length (option_to_list (option_map (limited_bounds limit) o)) ≡ length (option_to_list o)
as_many_bounds limit (Some b) = refl
as_many_bounds limit None = refl

-- as many routes are made for what passes through places
pub same_count : (qs rs : List Place) (limit : Option ℤ) (v : ℕ) (ps : List Place)
    → length (routes_by (through_route qs) v (map (limited_place limit) ps)) ≡ length (routes_by (through_route rs) v ps)
same_count qs rs limit v [] = refl
same_count qs rs limit v (p ∷ ps) =
    omega (
      arith,
      first_length (option_map (limited_bounds limit) p.through) (λ (b : Bounds). plain_route v (length qs + 2 + v) b.least b.most b.cost)
          (routes_by (through_route qs) (suc v) (map (limited_place limit) ps)),
      first_length p.through (λ (b : Bounds). plain_route v (length rs + 2 + v) b.least b.most b.cost) (routes_by (through_route rs) (suc v) ps),
      as_many_bounds limit p.through,
      same_count qs rs limit (suc v) ps,
    )

-- ---- the model

module _ (P : Planner) where
  abbrev limit : Option ℤ
  limit = limit_for P

  abbrev qs : List Place
  qs = map (limited_place (limit_for P)) P.places

  as_many : length qs ≡ length P.places
  as_many = length-map P.places (limited_place (limit_for P))

  pub some_same : (v : ℕ) → is_some (place_at qs v).through ≡ is_some (place_at P.places v).through
  some_same v =
      ap (λ (p : Place). is_some p.through) (limited_at (limit_for P) P.places (v - 1)) ∙ still_some (limit_for P) (place_at P.places v).through

  pub same_exit : (v : ℕ) → exit_of qs v ≡ exit_of P.places v
  same_exit v = exit_by_some (length qs) (length P.places) v (place_at qs v).through (place_at P.places v).through as_many (some_same v)

  pub same_supplies : supplies_of qs ≡ supplies_of P.places
  same_supplies =
      let ps = P.places in
      let entries = map_limited (limit_for P) (λ p. entry_supply p.through p) (λ p. entry p.through p) P.places in
      let hub = hub_limited (limit_for P) 1 ps in
      ap (λ xs. xs ++ (hub_supply qs ∷ pos 0 ∷ map (λ (p : Place). exit_supply p.through p) (with_exits (some_bounds qs) qs))) entries
      ∙ ap (λ z. map (λ (p : Place). entry_supply p.through p) ps ++ (z ∷ pos 0 ∷ map (λ (p : Place). exit_supply p.through p) (with_exits (some_bounds qs) qs))) hub
      ∙ ap (λ xs. map (λ (p : Place). entry_supply p.through p) ps ++ (hub_supply ps ∷ pos 0 ∷ xs))
      (ap (λ b. map (λ (p : Place). exit_supply p.through p) (with_exits b qs)) (any_limited (limit_for P) ps) ∙ exits (some_bounds ps))
    where
      entry : (o : Option Bounds) (p : Place) → entry_supply (option_map (limited_bounds (limit_for P)) o) (limited_place (limit_for P) p) ≡ entry_supply o p
      entry (Some b) p = refl
      entry None p = refl

      exit : (o : Option Bounds) (p : Place) → exit_supply (option_map (limited_bounds (limit_for P)) o) (limited_place (limit_for P) p) ≡ exit_supply o p
      exit (Some b) p = refl
      exit None p = refl

      exits : (b : Bool) → map (λ (p : Place). exit_supply p.through p) (with_exits b qs) ≡ map (λ (p : Place). exit_supply p.through p) (with_exits b P.places)
      exits false = refl
      exits true = map_limited (limit_for P) (λ p. exit_supply p.through p) (λ p. exit p.through p) P.places

  same_exits : (rs : List Route) → map (from_exit qs) rs ≡ map (from_exit P.places) rs
  same_exits [] = refl
  same_exits (r ∷ rs) =
      ap (λ (t : ℕ). record { tail = t; head = r.head; least = r.least; steps = r.steps; last_most = r.last_most; last_cost = r.last_cost; both = r.both } ∷ map (from_exit qs) rs)
      (same_exit r.tail)
      ∙ ap (λ xs. from_exit P.places r ∷ xs) (same_exits rs)

  stay_same : (v : ℕ) (p : Place) → stay_route P.policy.unused (hub_of qs) v (limited_place (limit_for P) p) ≡ stay_route P.policy.unused (hub_of P.places) v p
  stay_same v p = ap (λ n. stay_route P.policy.unused (n + 1) v p) as_many

  missing_same : (v : ℕ) (p : Place) → missing_route P.policy qs v (limited_place (limit_for P) p) ≡ missing_route P.policy P.places v p
  missing_same v p =
      ap (λ n. route_if (P.policy.short && int_lt p.supply (pos 0))
      (plain_route (n + 2) (exit_by (length qs) v (option_map (limited_bounds (limit_for P)) p.through)) (pos 0) (Some (wanted p)) (missing_cost P.policy p))) as_many
      ∙ ap (λ x. route_if (P.policy.short && int_lt p.supply (pos 0)) (plain_route (gate_of P.places) x (pos 0) (Some (wanted p)) (missing_cost P.policy p)))
      (exit_by_some (length qs) (length P.places) v (option_map (limited_bounds (limit_for P)) p.through) p.through as_many (still_some (limit_for P) p.through))

  same_throughs : length (throughs (limited P)) ≡ length (throughs P)
  same_throughs = same_count qs P.places (limit_for P) 1 P.places

  same_stayings : stayings (limited P) ≡ stayings P
  same_stayings = made_limited (limit_for P) (stay_route P.policy.unused (hub_of qs)) (stay_route P.policy.unused (hub_of P.places)) stay_same 1 P.places

  same_missings : missings (limited P) ≡ missings P
  same_missings = made_limited (limit_for P) (missing_route P.policy qs) (missing_route P.policy P.places) missing_same 1 P.places

  gate_same : (most : ℤ) → gate_route most (limited P) ≡ gate_route most P
  gate_same most = ap (λ n. gate_route_of n) as_many
    where
      gate_route_of : ℕ → Route
      gate_route_of n = plain_route (n + 1) (n + 2) (pos 0) (Some most) (pos 0)

  -- the routes of the model, where bounds have limits: only those for what passes differ
  abbrev others : ℤ → List Route
  others most = stayings P ++ (missings P ++ gate_route most P ∷ [])

  same_routes : (most : ℤ) → (model_of most (limited P)).routes ≡ map (from_exit P.places) P.routes ++ (throughs (limited P) ++ others most)
  same_routes most =
      let thr = throughs (limited P) in
      ap (λ xs. xs ++ (thr ++ (stayings (limited P) ++ (missings (limited P) ++ gate_route most (limited P) ∷ [])))) (same_exits P.routes)
      ∙ ap (λ xs. map (from_exit P.places) P.routes ++ (thr ++ (xs ++ (missings (limited P) ++ gate_route most (limited P) ∷ [])))) same_stayings
      ∙ ap (λ xs. map (from_exit P.places) P.routes ++ (thr ++ (stayings P ++ (xs ++ gate_route most (limited P) ∷ [])))) same_missings
      ∙ ap (λ r. map (from_exit P.places) P.routes ++ (thr ++ (stayings P ++ (missings P ++ r ∷ [])))) (gate_same most)

  -- the plan that is read from a plan of either model
  pub same_plan : (plan : List ℤ) → plan_of (limited P) plan ≡ plan_of P plan
  same_plan plan =
      let ps = P.places in
      let sides : side_amounts (limited P) plan ≡ side_amounts P plan = ap (λ n. drop n (drop (length P.routes) plan)) same_throughs in
      let stays = by_limited (limit_for P) (stay_route P.policy.unused (hub_of qs)) (stay_route P.policy.unused (hub_of ps)) stay_same 1 ps (side_amounts (limited P) plan)
      ∙ ap (by_place (stay_route P.policy.unused (hub_of ps)) 1 ps) sides in
      let left : drop (length (stayings (limited P))) (side_amounts (limited P) plan) ≡ drop (length (stayings P)) (side_amounts P plan) =
      ap (λ rs. drop (length rs) (side_amounts (limited P) plan)) same_stayings ∙ ap (drop (length (stayings P))) sides in
      let missing = by_limited (limit_for P) (missing_route P.policy qs) (missing_route P.policy ps) missing_same 1 ps
      (drop (length (stayings (limited P))) (side_amounts (limited P) plan)) ∙ ap (by_place (missing_route P.policy ps) 1 ps) left in
      ap (λ (xs : List ℤ). record { carries = (plan_of P plan).carries; stays = xs; missing = (plan_of (limited P) plan).missing }) stays
      ∙ ap (λ (xs : List ℤ). record { carries = (plan_of P plan).carries; stays = (plan_of P plan).stays; missing = xs }) missing

  module _ (most : ℤ) (x : Plan) (own : length P.routes ≡ length x.carries) (below : EachPlace (λ v p. IsBelow (limit_for P) (passes P x v p)) 1 P.places) where
    abbrev through_amounts : List ℤ
    through_amounts = amounts_by (through_route qs) (passes (limited P) x) 1 qs

    abbrev other_amounts : List ℤ
    other_amounts = amounts_by (stay_route P.policy.unused (hub_of qs)) (λ v p. at_node x.stays v) 1 qs
        ++ (amounts_by (missing_route P.policy qs) (λ v p. at_node x.missing v) 1 qs ++ total_missing (limited P) x ∷ [])

    throughs_eased : AreEased (throughs (limited P)) (throughs P) through_amounts
    throughs_eased =
        subst (λ n. AreEased (routes_by (T (length qs)) 1 qs) (routes_by (T n) 1 P.places) (amounts_by (T (length qs)) (passes P x) 1 qs)) as_many
        (through_eased (limit_for P) (length qs) (passes P x) (λ v p. refl) 1 P.places below)

    other_length : length (others most) ≡ length other_amounts
    other_length =
        let stay = stay_route P.policy.unused (hub_of qs) in
        let miss = missing_route P.policy qs in
        omega (
          arith,
          ap length same_stayings,
          ap length same_missings,
          made_length (limit_for P) stay (λ v p. at_node x.stays v) 1 qs,
          made_length (limit_for P) miss (λ v p. at_node x.missing v) 1 qs,
          length-append (stayings P) (missings P ++ gate_route most P ∷ []),
          length-append (missings P) (gate_route most P ∷ []),
          length-append (amounts_by stay (λ v p. at_node x.stays v) 1 qs) (amounts_by miss (λ v p. at_node x.missing v) 1 qs ++ total_missing (limited P) x ∷ []),
          length-append (amounts_by miss (λ v p. at_node x.missing v) 1 qs) (total_missing (limited P) x ∷ []),
        )

    pub model_eased : AreEased (model_of most (limited P)).routes (model_of most P).routes (routes_of (limited P) x)
    model_eased =
        let ways = map (from_exit P.places) P.routes in
        subst (λ rs. AreEased rs (model_of most P).routes (routes_of (limited P) x)) (sym (same_routes most))
        (eased_append ways ways x.carries (throughs (limited P) ++ others most) (throughs P ++ others most) (through_amounts ++ other_amounts)
        (eased_none ways x.carries (omega (arith, length-map P.routes (from_exit P.places), own)))
        (eased_append (throughs (limited P)) (throughs P) through_amounts (others most) (others most) other_amounts throughs_eased
        (eased_none (others most) other_amounts other_length)))
