-- If one unit more may pass through a place, a route of the model has one unit more room.
use Rattle.std.proofs.Common.{◌≡◌, ℕ, zero, suc, ◌+◌, ◌-◌, ◌<◌, Bool, true, false, ◌&&◌, List, [], ◌∷◌, ◌++◌, length, map, set, get_or, take, refl, ap, sym, ◌∙◌, subst, arith, ℤ, pos, neg_ℤ, ◌+ℤ◌, int_lt, inl, inr, length-append}
use Rattle.std.specs.Prelude.{◌||◌, Option, Some, None, option_map}
use Rattle.std.specs.List.{All, list_any}
use Rattle.std.specs.Option.{is_some}
use Rattle.std.proofs.Math.Seq.{map-set_same}
use Rattle.std.proofs.lemmas.Bool.{cases_eq}
use Rattle.std.proofs.lemmas.Grind.{get_or-set_at}
use Rattle.std.proofs.lemmas.List.{get_or-append_right, get_or-set_other, get_or_append_left, length-map, length-set, set-append_left, set-append_right}
use Rattle.mcf_flows.specs.Network.{IsNode}
use Rattle.mcf_model.specs.Model.{IsSoundRoute, Route}
use Rattle.mcf_model.specs.Tables.{IsRouteNumber, no_route, route_at}
use Rattle.mcf_figures.specs.Changes.{widened, with_more_room}
use Rattle.mcf_figures.specs.FigureLaws.{ExactSavingsAreReached, SavingsAreBounds}
use Rattle.mcf_figures.specs.Figures.{saving}
use Rattle.mcf_places.specs.declared.places.Bounds.{Bounds}
use Rattle.mcf_places.specs.declared.places.Place.{Place}
use Rattle.mcf_places.specs.declared.places.Policy.{Policy}
use Rattle.mcf_places.specs.Models.{entry_supply, exit_by, exit_of, exit_supply, from_exit, hub_supply, model_of, place_at, plain_route, route_if, routes_by, some_bounds, supplies_of, with_exits, with_first}
use Rattle.mcf_places.specs.PlannerLaws.{IsSound, PlannersAreModels, SoundPlannersHaveSoundModels, has_bounds}
use Rattle.mcf_places.specs.Planners.{Planner, given, missing_cost, place_sum, wanted}
use Rattle.mcf_plan_figures.specs.Changes.{eased, eased_bounds, with_through_room}
use Rattle.mcf_plan_figures.specs.PlannerFigureLaws.{ExactThroughSavingsAreReached, ThroughSavingsAreBounds}
use Rattle.mcf_plan_figures.specs.PlannerFigures.{through_number, through_saves}
use Rattle.mcf_plan_figures.proofs.ChangedModels.{room_bound, room_reached}

abbrev no_place : Place
no_place = record { supply = pos 0; through = None; penalty = None }

-- ---- what doesn't see how much bounds let through

still_some : (o : Option Bounds) → is_some (option_map eased_bounds o) ≡ is_some o
still_some (Some b) = refl
still_some None = refl

same_entry : (o : Option Bounds) (p : Place) → entry_supply (option_map eased_bounds o) (eased p) ≡ entry_supply o p
same_entry (Some b) p = refl
same_entry None p = refl

same_exit_supply : (o : Option Bounds) (p : Place) → exit_supply (option_map eased_bounds o) (eased p) ≡ exit_supply o p
same_exit_supply (Some b) p = refl
same_exit_supply None p = refl

pub exit_by_some : (n m v : ℕ) (o q : Option Bounds) → n ≡ m → is_some o ≡ is_some q → exit_by n v o ≡ exit_by m v q
exit_by_some n m v (Some b) (Some c) e f = ap (λ k. k + 2 + v) e
exit_by_some n m v (Some b) None e f = cc f
exit_by_some n m v None (Some c) e f = cc f
exit_by_some n m v None None e f = refl

any_set : (ps : List Place) (i : ℕ) (q : Place) → is_some q.through ≡ is_some (get_or ps i no_place).through → some_bounds (set ps i q) ≡ some_bounds ps
any_set [] i q e = refl
any_set (p ∷ ps) zero q e = ap (λ b. b || list_any (λ p. is_some p.through) ps) e
any_set (p ∷ ps) (suc i) q e = ap (λ b. is_some p.through || b) (any_set ps i q e)

sum_set : (v : ℕ) (ps : List Place) (i : ℕ) (q : Place) → q.supply ≡ (get_or ps i no_place).supply
    → place_sum (λ v p. neg_ℤ p.supply) v (set ps i q) ≡ place_sum (λ v p. neg_ℤ p.supply) v ps
sum_set v [] i q e = refl
sum_set v (p ∷ ps) zero q e = ap (λ z. neg_ℤ z +ℤ place_sum (λ v p. neg_ℤ p.supply) (suc v) ps) e
sum_set v (p ∷ ps) (suc i) q e = ap (λ z. neg_ℤ p.supply +ℤ z) (sum_set (suc v) ps i q e)

made_set : (make : ℕ → Place → Option Route) (v : ℕ) (ps : List Place) (i : ℕ) (q : Place) → ((j : ℕ) → make j q ≡ make j (get_or ps i no_place))
    → routes_by make v (set ps i q) ≡ routes_by make v ps
made_set make v [] i q e = refl
made_set make v (p ∷ ps) zero q e = ap (λ o. with_first o (routes_by make (suc v) ps)) (e v)
made_set make v (p ∷ ps) (suc i) q e = ap (with_first (make v p)) (made_set make (suc v) ps i q e)

map_same : (f g : Route → Route) (rs : List Route) → ((r : Route) → f r ≡ g r) → map f rs ≡ map g rs
map_same f g [] e = refl
map_same f g (r ∷ rs) e = ap (λ x. x ∷ map f rs) (e r) ∙ ap (λ xs. g r ∷ xs) (map_same f g rs e)

-- ---- the routes made for places, by the number of places

abbrev pub T : ℕ → ℕ → Place → Option Route
T n v p = option_map (λ (b : Bounds). plain_route v (n + 2 + v) b.least b.most b.cost) p.through

abbrev S : Bool → ℕ → ℕ → Place → Option Route
S unused n v p = route_if (unused && int_lt (pos 0) p.supply) (plain_route v (n + 1) (pos 0) (Some (given p)) (pos 0))

abbrev M : Policy → ℕ → ℕ → Place → Option Route
M policy n v p =
    route_if (policy.short && int_lt p.supply (pos 0)) (plain_route (n + 2) (exit_by n v p.through) (pos 0) (Some (wanted p)) (missing_cost policy p))

abbrev G : ℤ → ℕ → Route
G most n = plain_route (n + 1) (n + 2) (pos 0) (Some most) (pos 0)

-- those after the routes of bounds
abbrev rest_of : ℤ → Policy → ℕ → List Place → List Route
rest_of most policy n ps = routes_by (S policy.unused n) 1 ps ++ (routes_by (M policy n) 1 ps ++ G most n ∷ [])

rest_set : (most : ℤ) (policy : Policy) (n : ℕ) (ps : List Place) (i : ℕ) → rest_of most policy n (set ps i (eased (get_or ps i no_place))) ≡ rest_of most policy n ps
rest_set most policy n ps i =
    let p = get_or ps i no_place in
    ap (λ xs. xs ++ (routes_by (M policy n) 1 (set ps i (eased p)) ++ G most n ∷ [])) (made_set (S policy.unused n) 1 ps i (eased p) (λ j. refl))
    ∙ ap (λ xs. routes_by (S policy.unused n) 1 ps ++ (xs ++ G most n ∷ []))
    (made_set (M policy n) 1 ps i (eased p)
    (λ j. ap (λ x. route_if (policy.short && int_lt p.supply (pos 0)) (plain_route (n + 2) x (pos 0) (Some (wanted p)) (missing_cost policy p)))
    (exit_by_some n n j (option_map eased_bounds p.through) p.through refl (still_some p.through))))

-- the place where the route of some bounds is, the route, and the routes after one unit more may
-- pass through
record HasThrough (n v : ℕ) (ps : List Place) (i : ℕ) (r : Route) : Type 0 where
  inside : length (routes_by (T n) v (take i ps)) < length (routes_by (T n) v ps)
  route : get_or (routes_by (T n) v ps) (length (routes_by (T n) v (take i ps))) no_route ≡ r
  changed : routes_by (T n) v (set ps i (eased (get_or ps i no_place))) ≡ set (routes_by (T n) v ps) (length (routes_by (T n) v (take i ps))) (widened r)

has_through : (n v : ℕ) (ps : List Place) (i w : ℕ) (b : Bounds) → i < length ps → v + i ≡ w → (get_or ps i no_place).through ≡ Some b
    → HasThrough n v ps i (plain_route w (n + 2 + w) b.least b.most b.cost)
has_through n v [] i w b h at e = absurd (omega (arith, h))
has_through n v (p ∷ ps) zero w b h at e =
    let here : v ≡ w = omega (arith, at) in
    let r = plain_route w (n + 2 + w) b.least b.most b.cost in
    let made : T n v p ≡ Some r = ap (option_map (λ (b : Bounds). plain_route v (n + 2 + v) b.least b.most b.cost)) e ∙ ap (λ k. Some (plain_route k (n + 2 + k) b.least b.most b.cost)) here in
    let more : T n v (eased p) ≡ Some (widened r) = ap (λ o. option_map (λ (b : Bounds). plain_route v (n + 2 + v) b.least b.most b.cost) (option_map eased_bounds o)) e ∙ ap (λ k. Some (plain_route k (n + 2 + k) b.least (eased_bounds b).most b.cost)) here in
    let all : routes_by (T n) v (p ∷ ps) ≡ r ∷ routes_by (T n) (suc v) ps = ap (λ o. with_first o (routes_by (T n) (suc v) ps)) made in
    record {
      inside = omega (arith, ap length all);
      route = ap (λ xs. get_or xs 0 no_route) all;
      changed = ap (λ o. with_first o (routes_by (T n) (suc v) ps)) more ∙ sym (ap (λ xs. set xs 0 (widened r)) all);
    }
has_through n v (p ∷ ps) (suc i) w b h at e =
    let k = go (T n v p) (has_through n (suc v) ps i w b (omega (arith, h)) (omega (arith, at)) e) in
    record { inside = k.0; route = k.1; changed = k.2 }
  where
    r : Route
    r = plain_route w (n + 2 + w) b.least b.most b.cost

    go : (o : Option Route) → HasThrough n (suc v) ps i (plain_route w (n + 2 + w) b.least b.most b.cost)
        → (length (with_first o (routes_by (T n) (suc v) (take i ps))) < length (with_first o (routes_by (T n) (suc v) ps)))
        × (get_or (with_first o (routes_by (T n) (suc v) ps)) (length (with_first o (routes_by (T n) (suc v) (take i ps)))) no_route ≡ r)
        × (with_first o (routes_by (T n) (suc v) (set ps i (eased (get_or ps i no_place))))
        ≡ set (with_first o (routes_by (T n) (suc v) ps)) (length (with_first o (routes_by (T n) (suc v) (take i ps)))) (widened r))
    go (Some q) k = (omega (arith, k.inside), k.route, ap (λ xs. q ∷ xs) k.changed)
    go None k = (k.inside, k.route, k.changed)

-- ---- the model

module _ (most : ℤ) (P : Planner) (v : ℕ) (hv : IsNode (length P.places) v) (b : Bounds) (has : (place_at P.places v).through ≡ Some b) where
  abbrev i : ℕ
  i = v - 1

  abbrev ps : List Place
  ps = P.places

  abbrev n : ℕ
  n = length P.places

  abbrev q : Place
  q = eased (get_or P.places (v - 1) no_place)

  abbrev qs : List Place
  qs = set P.places (v - 1) (eased (get_or P.places (v - 1) no_place))

  place_inside : v - 1 < length P.places
  place_inside = omega (arith, hv.0, hv.1)

  as_many : length qs ≡ n
  as_many = length-set P.places (v - 1) q

  some_at : (w : ℕ) → is_some (place_at qs w).through ≡ is_some (place_at ps w).through
  some_at w =
      elim (cases_eq (w - 1) (v - 1)) [
        | inl e ↦
            ap (λ (p : Place). is_some p.through) (get_or-set_at P.places (v - 1) (w - 1) q no_place e place_inside)
            ∙ still_some (get_or P.places (v - 1) no_place).through ∙ ap (λ j. is_some (get_or P.places j no_place).through) (sym e)
        | inr ne ↦ ap (λ (p : Place). is_some p.through) (get_or-set_other P.places (v - 1) (w - 1) q no_place ne)
      ]

  same_exit : (w : ℕ) → exit_of qs w ≡ exit_of ps w
  same_exit w = exit_by_some (length qs) n w (place_at qs w).through (place_at ps w).through as_many (some_at w)

  same_supplies : supplies_of qs ≡ supplies_of ps
  same_supplies =
      let p = get_or P.places (v - 1) no_place in
      let entries : map (λ (p : Place). entry_supply p.through p) qs ≡ map (λ (p : Place). entry_supply p.through p) ps =
      map-set_same (λ (p : Place). entry_supply p.through p) P.places (v - 1) q no_place (same_entry p.through p) in
      let hub : hub_supply qs ≡ hub_supply ps = sum_set 1 P.places (v - 1) q refl in
      let some : some_bounds qs ≡ some_bounds ps = any_set P.places (v - 1) q (still_some p.through) in
      ap (λ xs. xs ++ (hub_supply qs ∷ pos 0 ∷ map (λ (p : Place). exit_supply p.through p) (with_exits (some_bounds qs) qs))) entries
      ∙ ap (λ z. map (λ (p : Place). entry_supply p.through p) ps ++ (z ∷ pos 0 ∷ map (λ (p : Place). exit_supply p.through p) (with_exits (some_bounds qs) qs))) hub
      ∙ ap (λ xs. map (λ (p : Place). entry_supply p.through p) ps ++ (hub_supply ps ∷ pos 0 ∷ xs))
      (ap (λ b. map (λ (p : Place). exit_supply p.through p) (with_exits b qs)) some ∙ exits (some_bounds ps))
    where
      exits : (b : Bool) → map (λ (p : Place). exit_supply p.through p) (with_exits b qs) ≡ map (λ (p : Place). exit_supply p.through p) (with_exits b ps)
      exits false = refl
      exits true =
          map-set_same (λ (p : Place). exit_supply p.through p) P.places (v - 1) q no_place
          (same_exit_supply (get_or P.places (v - 1) no_place).through (get_or P.places (v - 1) no_place))

  same_own : map (from_exit qs) P.routes ≡ map (from_exit ps) P.routes
  same_own =
      map_same (from_exit qs) (from_exit ps) P.routes
      (λ r. ap (λ (t : ℕ). record { tail = t; head = r.head; least = r.least; steps = r.steps; last_most = r.last_most; last_cost = r.last_cost; both = r.both })
      (same_exit r.tail))

  abbrev own : List Route
  own = map (from_exit P.places) P.routes

  abbrev thr : List Route
  thr = routes_by (T n) 1 P.places

  abbrev rest : List Route
  rest = rest_of most P.policy n P.places

  abbrev j : ℕ
  j = length (routes_by (T n) 1 (take (v - 1) P.places))

  abbrev r : Route
  r = plain_route v (n + 2 + v) b.least b.most b.cost

  there : HasThrough n 1 P.places (v - 1) r
  there = has_through n 1 P.places (v - 1) v b place_inside (omega (arith, hv.0)) has

  at_number : through_number P v - 1 ≡ length own + j
  at_number = omega (arith, length-map P.routes (from_exit P.places))

  pub through_route_is : route_at (model_of most P) (through_number P v) ≡ r
  through_route_is =
      ap (λ k. get_or (own ++ (thr ++ rest)) k no_route) at_number
      ∙ get_or-append_right own (thr ++ rest) (length own) (length own + j) no_route refl (omega arith)
      ∙ ap (λ k. get_or (thr ++ rest) k no_route) more ∙ get_or_append_left thr rest no_route j there.inside ∙ there.route
    where
      more : length own + j - length own ≡ j
      more = omega arith

  pub through_is_number : IsRouteNumber (model_of most P) (through_number P v)
  through_is_number = (
    omega arith,
    omega (arith, length-append own (thr ++ rest), length-append thr rest, length-map P.routes (from_exit P.places), there.inside),
  )

  pub model_eased : model_of most (with_through_room P v) ≡ with_more_room (model_of most P) (through_number P v)
  model_eased =
      let late : length own + j - length own ≡ j = omega arith in
      let routes : map (from_exit qs) P.routes ++ (routes_by (T (length qs)) 1 qs ++ rest_of most P.policy (length qs) qs) ≡ own ++ (set thr j (widened r) ++ rest) =
      ap (λ xs. xs ++ (routes_by (T (length qs)) 1 qs ++ rest_of most P.policy (length qs) qs)) same_own
      ∙ ap (λ k. own ++ (routes_by (T k) 1 qs ++ rest_of most P.policy k qs)) as_many
      ∙ ap (λ xs. own ++ (xs ++ rest_of most P.policy n qs)) there.changed
      ∙ ap (λ xs. own ++ (set thr j (widened r) ++ xs)) (rest_set most P.policy n P.places (v - 1)) in
      let changed : set (own ++ (thr ++ rest)) (through_number P v - 1) (widened (route_at (model_of most P) (through_number P v))) ≡ own ++ (set thr j (widened r) ++ rest) =
      ap (λ k. set (own ++ (thr ++ rest)) k (widened (route_at (model_of most P) (through_number P v)))) at_number
      ∙ ap (λ q. set (own ++ (thr ++ rest)) (length own + j) (widened q)) through_route_is
      ∙ set-append_right own (thr ++ rest) (length own) (length own + j) (widened r) refl (omega arith)
      ∙ ap (λ k. own ++ set (thr ++ rest) k (widened r)) late ∙ ap (λ xs. own ++ xs) (set-append_left thr rest j (widened r) there.inside) in
      ap (λ (s : List ℤ). record { supplies = s; routes = map (from_exit qs) P.routes ++ (routes_by (T (length qs)) 1 qs ++ rest_of most P.policy (length qs) qs) }) same_supplies
      ∙ ap (λ (rs : List Route). record { supplies = supplies_of ps; routes = rs }) (routes ∙ sym changed)

  pub sound_eased : IsSound P → IsSound (with_through_room P v)
  sound_eased s =
      record {
        routes = subst (λ k. All (IsSoundRoute k) P.routes) (sym as_many) s.routes;
        return_freely = λ k d h.
            let a = get_or P.routes k d in
            ap (λ b. a.both && (b || has_bounds qs a.head)) (some_at a.tail) ∙ ap (λ b. a.both && (has_bounds ps a.tail || b)) (some_at a.head) ∙ s.return_freely k d h;
      }

-- the bounds of a place that has some
pub bounds_of : (o : Option Bounds) → is_some o ≡ true → (b : Bounds) × (o ≡ Some b)
bounds_of (Some b) h = (b, refl)
bounds_of None h = cc h

module _ (law : PlannersAreModels) (models : SoundPlannersHaveSoundModels) where
  pub through_savings_are_bounds_lem : SavingsAreBounds → ThroughSavingsAreBounds
  through_savings_are_bounds_lem savings most P prices carries v sound priced hv has =
      let found = bounds_of (place_at P.places v).through has in
      let b = found.0 in
      room_bound law most P (with_through_room P v) prices carries (through_number P v) sound (models.sound_model most P sound)
      (sound_eased most P v hv b found.1 sound) (model_eased most P v hv b found.1) priced (through_is_number most P v hv b found.1) savings
      (through_saves prices (length P.places) v (place_at P.places v).through)
      (ap (saving prices) (through_route_is most P v hv b found.1) ∙ sym (ap (through_saves prices (length P.places) v) found.1))

  pub exact_through_savings_are_reached_lem : ExactSavingsAreReached → ExactThroughSavingsAreReached
  exact_through_savings_are_reached_lem savings most P prices carries v sound priced hv has exact =
      let found = bounds_of (place_at P.places v).through has in
      let b = found.0 in
      room_reached law most P (with_through_room P v) prices carries (through_number P v) sound (models.sound_model most P sound)
      (sound_eased most P v hv b found.1 sound) (model_eased most P v hv b found.1) priced (through_is_number most P v hv b found.1) savings
      (through_saves prices (length P.places) v (place_at P.places v).through)
      (ap (saving prices) (through_route_is most P v hv b found.1) ∙ sym (ap (through_saves prices (length P.places) v) found.1)) exact
