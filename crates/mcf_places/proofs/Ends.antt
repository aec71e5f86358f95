-- What leaves and enters each place of a planner's model.
use Rattle.std.proofs.Common.{◌≡◌, ℕ, ◌+◌, ◌<◌, ◌≤◌, eqb, Bool, true, false, ◌&&◌, List, [], ◌∷◌, ◌++◌, length, map, refl, ap, sym, ◌∙◌, arith, ℤ, pos, ◌+ℤ◌, ◌-ℤ◌, inl, inr}
use Rattle.std.specs.Prelude.{Option, Some, None, option_map, int_lt}
use Rattle.std.specs.List.{All}
use Rattle.std.proofs.lemmas.Int.{ints}
use Rattle.std.proofs.lemmas.Bool.{eq-eqb, ne_eqb, cases_eq}
use Rattle.std.proofs.lemmas.List.{length-map}
use Rattle.std.proofs.lemmas.List.Elements.{All-head, All-tail}
use Rattle.mcf_flows.specs.Network.{IsNode, when}
use Rattle.mcf_model.specs.Model.{IsSoundRoute, Route, arriving, leaving, plan_sum}
use Rattle.mcf_places.specs.declared.places.Bounds.{Bounds}
use Rattle.mcf_places.specs.declared.places.Place.{Place}
use Rattle.mcf_places.specs.PlannerLaws.{AreSoundRoutes}
use Rattle.mcf_places.specs.Models.{amounts_by, exit_by, exit_of, from_exit, gate_of, gate_route, hub_of, missing_route, model_of, place_at, plain_route, route_if, routes_by, stay_route, through_route}
use Rattle.mcf_places.specs.Planners.{EachPlace, Planner, missing_cost, place_sum, wanted}
use Rattle.mcf_places.proofs.PlaceSums.{each_all, each_at}
use Rattle.mcf_places.proofs.MadeRoutes.{IfRoute, NoneElse, all_at, end_term, length_by, none_at, one_at, only_at, sum_by, term_if, when_is, when_not, whole}

-- ---- sums over routes

pub plan_sum-append : (t : Route → ℤ → ℤ) (rs more : List Route) (xs ys : List ℤ) → length rs ≡ length xs
    → plan_sum t (rs ++ more) (xs ++ ys) ≡ plan_sum t rs xs +ℤ plan_sum t more ys
plan_sum-append t [] more [] ys e = omega (arith, ints)
plan_sum-append t [] more (x ∷ xs) ys e = absurd (omega arith)
plan_sum-append t (r ∷ rs) more [] ys e = absurd (omega arith)
plan_sum-append t (r ∷ rs) more (x ∷ xs) ys e = omega (arith, ints, plan_sum-append t rs more xs ys (omega arith))

pub plan_sum-map : (t : Route → ℤ → ℤ) (h : Route → Route) (rs : List Route) (xs : List ℤ) → plan_sum t (map h rs) xs ≡ plan_sum (λ r x. t (h r) x) rs xs
plan_sum-map t h [] xs = refl
plan_sum-map t h (r ∷ rs) [] = refl
plan_sum-map t h (r ∷ rs) (x ∷ xs) = ap (λ z. t (h r) x +ℤ z) (plan_sum-map t h rs xs)

pub plan_sum-same : (R : Route → Type 0) (s t : Route → ℤ → ℤ) → ((r : Route) (x : ℤ) → R r → s r x ≡ t r x) → (rs : List Route) (xs : List ℤ) → All R rs
    → plan_sum s rs xs ≡ plan_sum t rs xs
plan_sum-same R s t e [] xs h = refl
plan_sum-same R s t e (r ∷ rs) [] h = refl
plan_sum-same R s t e (r ∷ rs) (x ∷ xs) h =
    omega (arith, ints, e r x (All-head R r rs h), plan_sum-same R s t e rs xs (All-tail R r rs h))

pub plan_sum-zero : (rs : List Route) (xs : List ℤ) → plan_sum (λ r x. pos 0) rs xs ≡ pos 0
plan_sum-zero [] xs = refl
plan_sum-zero (r ∷ rs) [] = refl
plan_sum-zero (r ∷ rs) (x ∷ xs) = omega (arith, ints, plan_sum-zero rs xs)

-- ---- what depends on whether a place has bounds

abbrev pub if_bounds : Option Bounds → ℤ → ℤ
if_bounds (Some b) z = z
if_bounds None z = pos 0

abbrev pub if_none : Option Bounds → ℤ → ℤ
if_none (Some b) z = pos 0
if_none None z = z

-- one test for another
same_test : (a b c d : ℕ) → (a ≡ b → c ≡ d) → (c ≡ d → a ≡ b) → eqb a b ≡ eqb c d
same_test a b c d f g =
    elim (cases_eq a b) [
      | inl same ↦ eq-eqb a b same ∙ sym (eq-eqb c d (f same))
      | inr other ↦ ne_eqb a b other ∙ sym (ne_eqb c d (λ bad. other (g bad)))
    ]

pub if_route : (b : Bool) (r : Route) (Q : Route → Type 0) → Q r → IfRoute (route_if b r) Q
if_route true r Q h = h
if_route false r Q h = tt

module _ (P : Planner) where
  abbrev pub ps : List Place
  ps = P.places

  abbrev pub T : ℕ → Place → Option Route
  T = through_route P.places

  abbrev pub S : ℕ → Place → Option Route
  S = stay_route P.policy.unused (hub_of P.places)

  abbrev pub M : ℕ → Place → Option Route
  M = missing_route P.policy P.places

  -- the model's plan of what routes, bounds and hub carry
  abbrev pub joined : List ℤ → (ℕ → Place → ℤ) → (ℕ → ℤ) → (ℕ → ℤ) → ℤ → List ℤ
  joined xs thr st ms g =
      xs ++ (amounts_by (T) thr 1 P.places ++ (amounts_by (S) (λ j p. st j) 1 P.places ++ (amounts_by (M) (λ j p. ms j) 1 P.places ++ g ∷ [])))

  through_if : (j : ℕ) (p : Place) (Q : Route → Type 0)
      → ((b : Bounds) → Q (plain_route j (length P.places + 2 + j) b.least b.most b.cost)) → IfRoute (T j p) Q
  through_if j p Q h = go p.through
    where
      go : (o : Option Bounds) → IfRoute (option_map (λ (b : Bounds). plain_route j (length P.places + 2 + j) b.least b.most b.cost) o) Q
      go (Some b) = h b
      go None = tt

  pub through_term : (j : ℕ) (p : Place) (z : ℤ) → term_if (T j p) (λ r. z) ≡ if_bounds p.through z
  through_term j p z = go p.through
    where
      go : (o : Option Bounds) → term_if (option_map (λ (b : Bounds). plain_route j (length P.places + 2 + j) b.least b.most b.cost) o) (λ r. z) ≡ if_bounds o z
      go (Some b) = refl
      go None = refl

  -- ---- the exits of routes

  exit_apart : (j w : ℕ) (o : Option Bounds) → (j ≡ w → ⊥) → w ≤ length P.places → exit_by (length P.places) j o ≡ w → ⊥
  exit_apart j w (Some b) other h e = absurd (omega arith)
  exit_apart j w None other h e = other e

  exit_apart_too : (j w : ℕ) (o : Option Bounds) → (j ≡ w → ⊥) → j ≤ length P.places → exit_by (length P.places) j o ≡ length P.places + 2 + w → ⊥
  exit_apart_too j w (Some b) other h e = other (omega arith)
  exit_apart_too j w None other h e = absurd (omega arith)

  exit_no_middle : (j w : ℕ) (o : Option Bounds) → 1 ≤ j → j ≤ length P.places → length P.places < w → w ≤ length P.places + 2
      → exit_by (length P.places) j o ≡ w → ⊥
  exit_no_middle j w (Some b) a c h k e = absurd (omega arith)
  exit_no_middle j w None a c h k e = absurd (omega arith)

  -- ---- the planner's routes

  module _ (sound : AreSoundRoutes P) (xs : List ℤ) where
    abbrev pub out_at : ℕ → ℤ
    out_at w = plan_sum (λ r x. when (eqb (exit_of P.places r.tail) w) x) P.routes xs

    abbrev Sound : Route → Type 0
    Sound = IsSoundRoute (length P.places)

    abbrev through_at : ℕ → Option Bounds
    through_at v = (place_at P.places v).through

    pub out_at_entry : (w : ℕ) → IsNode (length P.places) w → out_at w ≡ if_none (through_at w) (leaving P.routes xs w)
    out_at_entry w n = go (through_at w) refl
      where
        go : (o : Option Bounds) → through_at w ≡ o → out_at w ≡ if_none o (leaving P.routes xs w)
        go (Some b) e =
            plan_sum-same Sound (λ r x. when (eqb (exit_of P.places r.tail) w) x) (λ r x. pos 0)
            (λ r x s. when_not (exit_of P.places r.tail) w x
            (λ bad. elim (cases_eq r.tail w) [
              | inl same ↦ let here : exit_of P.places r.tail ≡ length P.places + 2 + w = ap (λ v. exit_of P.places v) same ∙ ap (exit_by (length P.places) w) e in
                  absurd (omega (arith, here, bad, n))
              | inr other ↦ exit_apart r.tail w (through_at r.tail) other n.1 bad
            ])) P.routes xs sound
            ∙ plan_sum-zero P.routes xs
        go None e =
            plan_sum-same Sound (λ r x. when (eqb (exit_of P.places r.tail) w) x) (λ r x. when (eqb r.tail w) x)
            (λ r x s. ap (λ t. when t x) (same_test (exit_of P.places r.tail) w r.tail w
            (λ bad. elim (cases_eq r.tail w) [
              | inl same ↦ same
              | inr other ↦ absurd (exit_apart r.tail w (through_at r.tail) other n.1 bad)
            ])
            (λ same. ap (λ v. exit_of P.places v) same ∙ ap (exit_by (length P.places) w) e))) P.routes xs sound

    pub out_at_exit : (w : ℕ) → IsNode (length P.places) w → out_at (length P.places + 2 + w) ≡ if_bounds (through_at w) (leaving P.routes xs w)
    out_at_exit w n = go (through_at w) refl
      where
        go : (o : Option Bounds) → through_at w ≡ o → out_at (length P.places + 2 + w) ≡ if_bounds o (leaving P.routes xs w)
        go None e =
            plan_sum-same Sound (λ r x. when (eqb (exit_of P.places r.tail) (length P.places + 2 + w)) x) (λ r x. pos 0)
            (λ r x s. when_not (exit_of P.places r.tail) (length P.places + 2 + w) x
            (λ bad. elim (cases_eq r.tail w) [
              | inl same ↦ let here : exit_of P.places r.tail ≡ w = ap (λ v. exit_of P.places v) same ∙ ap (exit_by (length P.places) w) e in
                  absurd (omega (arith, here, bad, n))
              | inr other ↦ exit_apart_too r.tail w (through_at r.tail) other s.tail_is_place.1 bad
            ])) P.routes xs sound
            ∙ plan_sum-zero P.routes xs
        go (Some b) e =
            plan_sum-same Sound (λ r x. when (eqb (exit_of P.places r.tail) (length P.places + 2 + w)) x) (λ r x. when (eqb r.tail w) x)
            (λ r x s. ap (λ t. when t x) (same_test (exit_of P.places r.tail) (length P.places + 2 + w) r.tail w
            (λ bad. elim (cases_eq r.tail w) [
              | inl same ↦ same
              | inr other ↦ absurd (exit_apart_too r.tail w (through_at r.tail) other s.tail_is_place.1 bad)
            ])
            (λ same. ap (λ v. exit_of P.places v) same ∙ ap (exit_by (length P.places) w) e))) P.routes xs sound

    pub out_at_middle : (w : ℕ) → length P.places < w → w ≤ length P.places + 2 → out_at w ≡ pos 0
    out_at_middle w a b =
        plan_sum-same Sound (λ r x. when (eqb (exit_of P.places r.tail) w) x) (λ r x. pos 0)
        (λ r x s. when_not (exit_of P.places r.tail) w x (exit_no_middle r.tail w (through_at r.tail) s.tail_is_place.0 s.tail_is_place.1 a b))
        P.routes xs sound
        ∙ plan_sum-zero P.routes xs

    pub in_beyond : (w : ℕ) → length P.places < w → arriving P.routes xs w ≡ pos 0
    in_beyond w a =
        plan_sum-same Sound (λ r x. when (eqb r.head w) x) (λ r x. pos 0)
        (λ r x s. when_not r.head w x (λ bad. absurd (omega (arith, bad, a, s.head_is_place.1)))) P.routes xs sound
        ∙ plan_sum-zero P.routes xs

  -- ---- the model's routes

  module _ (xs : List ℤ) (long : length P.routes ≡ length xs) (thr : ℕ → Place → ℤ) (st ms : ℕ → ℤ) (g most : ℤ) where
    abbrev flow : List ℤ
    flow = joined xs thr st ms g

    pub whole_sum : (t : Route → ℤ → ℤ) → plan_sum t (model_of most P).routes (joined xs thr st ms g)
        ≡ plan_sum (λ r x. t (from_exit P.places r) x) P.routes xs
        +ℤ (place_sum (λ j p. term_if (T j p) (λ r. t r (thr j p))) 1 P.places
        +ℤ (place_sum (λ j p. term_if (S j p) (λ r. t r (st j))) 1 P.places
        +ℤ (place_sum (λ j p. term_if (M j p) (λ r. t r (ms j))) 1 P.places +ℤ t (gate_route most P) g)))
    whole_sum t =
        let rT = routes_by (T) 1 P.places in
        let rS = routes_by (S) 1 P.places in
        let rM = routes_by (M) 1 P.places in
        let aT = amounts_by (T) thr 1 P.places in
        let aS = amounts_by (S) (λ j p. st j) 1 P.places in
        let aM = amounts_by (M) (λ j p. ms j) 1 P.places in
        let G = gate_route most P ∷ [] in
        omega (
          arith,
          ints,
          plan_sum-append t (map (from_exit P.places) P.routes) (rT ++ (rS ++ (rM ++ G))) xs (aT ++ (aS ++ (aM ++ g ∷ [])))
              (length-map P.routes (from_exit P.places) ∙ long),
          plan_sum-map t (from_exit P.places) P.routes xs,
          plan_sum-append t rT (rS ++ (rM ++ G)) aT (aS ++ (aM ++ g ∷ [])) (length_by (T) thr 1 P.places),
          plan_sum-append t rS (rM ++ G) aS (aM ++ g ∷ []) (length_by (S) (λ j p. st j) 1 P.places),
          plan_sum-append t rM G aM (g ∷ []) (length_by (M) (λ j p. ms j) 1 P.places),
          sum_by (T) t thr 1 P.places,
          sum_by (S) t (λ j p. st j) 1 P.places,
          sum_by (M) t (λ j p. ms j) 1 P.places,
        )

    module _ (sound : AreSoundRoutes P) (sNone : EachPlace (λ j p. NoneElse (S j p) (st j)) 1 P.places)
        (mNone : EachPlace (λ j p. NoneElse (M j p) (ms j)) 1 P.places) where
      abbrev no_place : Place
      no_place = record { supply = pos 0; through = None; penalty = None }

      abbrev Off : (ℕ → Place → Option Route) → (Route → ℕ) → ℕ → Type 0
      Off make end w = EachPlace (λ j p. IfRoute (make j p) (λ r. end r ≡ w → ⊥)) 1 P.places

      -- where no made route ends
      t_tail_off : (w : ℕ) → length P.places < w → Off (T) (λ r. r.tail) w
      t_tail_off w h =
          each_all (λ j p. IfRoute (T j p) (λ r. r.tail ≡ w → ⊥)) 1 P.places
          (λ j p a b. through_if j p (λ r. r.tail ≡ w → ⊥) (λ bounds bad. absurd (omega (arith, a, b, bad, h))))

      t_head_off : (w : ℕ) → w ≤ length P.places + 2 → Off (T) (λ r. r.head) w
      t_head_off w h =
          each_all (λ j p. IfRoute (T j p) (λ r. r.head ≡ w → ⊥)) 1 P.places
          (λ j p a b. through_if j p (λ r. r.head ≡ w → ⊥) (λ bounds bad. absurd (omega (arith, a, b, bad, h))))

      s_tail_off : (w : ℕ) → length P.places < w → Off (S) (λ r. r.tail) w
      s_tail_off w h =
          each_all (λ j p. IfRoute (S j p) (λ r. r.tail ≡ w → ⊥)) 1 P.places
          (λ j p a b. if_route _ _ (λ r. r.tail ≡ w → ⊥) (λ bad. absurd (omega (arith, a, b, bad, h))))

      s_head_off : (w : ℕ) → (hub_of P.places ≡ w → ⊥) → Off (S) (λ r. r.head) w
      s_head_off w h =
          each_all (λ j p. IfRoute (S j p) (λ r. r.head ≡ w → ⊥)) 1 P.places (λ j p a b. if_route _ _ (λ r. r.head ≡ w → ⊥) h)

      m_tail_off : (w : ℕ) → (gate_of P.places ≡ w → ⊥) → Off (M) (λ r. r.tail) w
      m_tail_off w h =
          each_all (λ j p. IfRoute (M j p) (λ r. r.tail ≡ w → ⊥)) 1 P.places (λ j p a b. if_route _ _ (λ r. r.tail ≡ w → ⊥) h)

      m_head_off : (w : ℕ) → length P.places < w → w ≤ length P.places + 2 → Off (M) (λ r. r.head) w
      m_head_off w h k =
          each_all (λ j p. IfRoute (M j p) (λ r. r.head ≡ w → ⊥)) 1 P.places
          (λ j p a b. if_route _ _ (λ r. r.head ≡ w → ⊥) (exit_no_middle j w p.through a (omega (arith, b)) h k))

      -- the route of what is missing, at an entry and at an exit
      m_head_entry : (w : ℕ) → IsNode (length P.places) w
          → place_sum (end_term (M) (λ r. r.head) w (λ j p. ms j)) 1 P.places ≡ if_none (place_at P.places w).through (ms w)
      m_head_entry w n =
          only_at (M) (λ r. r.head) w (λ j p. ms j) 1 P.places w no_place n.0 (omega (arith, n))
          (each_all (λ j p. (j ≡ w → ⊥) → IfRoute (M j p) (λ r. r.head ≡ w → ⊥)) 1 P.places
          (λ j p a b other. if_route _ _ (λ r. r.head ≡ w → ⊥) (exit_apart j w p.through other n.1)))
          ∙ go (place_at P.places w).through (P.policy.short && int_lt (place_at P.places w).supply (pos 0)) (wanted (place_at P.places w))
          (each_at (λ j p. NoneElse (M j p) (ms j)) 1 P.places w no_place mNone n.0 (omega (arith, n)))
        where
          made : Option Bounds → Bool → ℤ → Option Route
          made o b m = route_if b (plain_route (gate_of P.places) (exit_by (length P.places) w o) (pos 0) (Some m) (missing_cost P.policy (place_at P.places w)))

          go : (o : Option Bounds) (b : Bool) (m : ℤ) → NoneElse (made o b m) (ms w) → term_if (made o b m) (λ r. when (eqb r.head w) (ms w)) ≡ if_none o (ms w)
          go (Some bounds) true m k = when_not (length P.places + 2 + w) w (ms w) (λ bad. absurd (omega (arith, bad)))
          go (Some bounds) false m k = refl
          go None true m k = when_is w w (ms w) refl
          go None false m k = sym k

      m_head_exit : (w : ℕ) → IsNode (length P.places) w
          → place_sum (end_term (M) (λ r. r.head) (length P.places + 2 + w) (λ j p. ms j)) 1 P.places ≡ if_bounds (place_at P.places w).through (ms w)
      m_head_exit w n =
          only_at (M) (λ r. r.head) (length P.places + 2 + w) (λ j p. ms j) 1 P.places w no_place n.0 (omega (arith, n))
          (each_all (λ j p. (j ≡ w → ⊥) → IfRoute (M j p) (λ r. r.head ≡ length P.places + 2 + w → ⊥)) 1 P.places
          (λ j p a b other. if_route _ _ (λ r. r.head ≡ length P.places + 2 + w → ⊥) (exit_apart_too j w p.through other (omega (arith, b)))))
          ∙ go (place_at P.places w).through (P.policy.short && int_lt (place_at P.places w).supply (pos 0)) (wanted (place_at P.places w))
          (each_at (λ j p. NoneElse (M j p) (ms j)) 1 P.places w no_place mNone n.0 (omega (arith, n)))
        where
          made : Option Bounds → Bool → ℤ → Option Route
          made o b m = route_if b (plain_route (gate_of P.places) (exit_by (length P.places) w o) (pos 0) (Some m) (missing_cost P.policy (place_at P.places w)))

          go : (o : Option Bounds) (b : Bool) (m : ℤ) → NoneElse (made o b m) (ms w)
              → term_if (made o b m) (λ r. when (eqb r.head (length P.places + 2 + w)) (ms w)) ≡ if_bounds o (ms w)
          go (Some bounds) true m k = when_is (length P.places + 2 + w) (length P.places + 2 + w) (ms w) refl
          go (Some bounds) false m k = sym k
          go None true m k = when_not w (length P.places + 2 + w) (ms w) (λ bad. absurd (omega (arith, bad)))
          go None false m k = refl

      t_tail_entry : (w : ℕ) → IsNode (length P.places) w
          → place_sum (end_term (T) (λ r. r.tail) w thr) 1 P.places ≡ if_bounds (place_at P.places w).through (thr w (place_at P.places w))
      t_tail_entry w n =
          one_at (T) (λ r. r.tail) w thr 1 P.places w no_place n.0 (omega (arith, n))
          (each_all (λ j p. (j ≡ w → ⊥) → IfRoute (T j p) (λ r. r.tail ≡ w → ⊥)) 1 P.places
          (λ j p a b other. through_if j p (λ r. r.tail ≡ w → ⊥) (λ bounds. other)))
          (through_if w (place_at P.places w) (λ r. r.tail ≡ w) (λ bounds. refl))
          ∙ through_term w (place_at P.places w) (thr w (place_at P.places w))

      t_head_exit : (w : ℕ) → IsNode (length P.places) w
          → place_sum (end_term (T) (λ r. r.head) (length P.places + 2 + w) thr) 1 P.places
          ≡ if_bounds (place_at P.places w).through (thr w (place_at P.places w))
      t_head_exit w n =
          one_at (T) (λ r. r.head) (length P.places + 2 + w) thr 1 P.places w no_place n.0 (omega (arith, n))
          (each_all (λ j p. (j ≡ w → ⊥) → IfRoute (T j p) (λ r. r.head ≡ length P.places + 2 + w → ⊥)) 1 P.places
          (λ j p a b other. through_if j p (λ r. r.head ≡ length P.places + 2 + w → ⊥) (λ bounds bad. other (omega (arith, bad)))))
          (through_if w (place_at P.places w) (λ r. r.head ≡ length P.places + 2 + w) (λ bounds. refl))
          ∙ through_term w (place_at P.places w) (thr w (place_at P.places w))

      s_tail_entry : (w : ℕ) → IsNode (length P.places) w → place_sum (end_term (S) (λ r. r.tail) w (λ j p. st j)) 1 P.places ≡ st w
      s_tail_entry w n =
          one_at (S) (λ r. r.tail) w (λ j p. st j) 1 P.places w no_place n.0 (omega (arith, n))
          (each_all (λ j p. (j ≡ w → ⊥) → IfRoute (S j p) (λ r. r.tail ≡ w → ⊥)) 1 P.places
          (λ j p a b other. if_route _ _ (λ r. r.tail ≡ w → ⊥) other))
          (if_route _ _ (λ r. r.tail ≡ w) refl)
          ∙ whole (S) (S w (place_at P.places w)) (st w) (each_at (λ j p. NoneElse (S j p) (st j)) 1 P.places w no_place sNone n.0 (omega (arith, n)))

      -- what the routes that are made see of each place of the model
      abbrev net : ℕ → ℤ
      net w = leaving (model_of most P).routes (joined xs thr st ms g) w -ℤ arriving (model_of most P).routes (joined xs thr st ms g) w

      pub at_entry : (w : ℕ) → IsNode (length P.places) w
          → leaving (model_of most P).routes (joined xs thr st ms g) w -ℤ arriving (model_of most P).routes (joined xs thr st ms g) w
          ≡ (if_none (place_at P.places w).through (leaving P.routes xs w)
          +ℤ (if_bounds (place_at P.places w).through (thr w (place_at P.places w)) +ℤ st w))
          -ℤ (arriving P.routes xs w +ℤ if_none (place_at P.places w).through (ms w))
      at_entry w n =
          omega (
            arith,
            ints,
            whole_sum (λ r x. when (eqb r.tail w) x),
            whole_sum (λ r x. when (eqb r.head w) x),
            out_at_entry sound xs w n,
            t_tail_entry w n,
            s_tail_entry w n,
            none_at (M) (λ r. r.tail) w (λ j p. ms j) 1 P.places (m_tail_off w (λ bad. absurd (omega (arith, bad, n)))),
            when_not (hub_of P.places) w g (λ bad. absurd (omega (arith, bad, n))),
            none_at (T) (λ r. r.head) w thr 1 P.places (t_head_off w (omega (arith, n))),
            none_at (S) (λ r. r.head) w (λ j p. st j) 1 P.places (s_head_off w (λ bad. absurd (omega (arith, bad, n)))),
            m_head_entry w n,
            when_not (gate_of P.places) w g (λ bad. absurd (omega (arith, bad, n))),
          )

      pub at_exit : (w : ℕ) → IsNode (length P.places) w
          → leaving (model_of most P).routes (joined xs thr st ms g) (length P.places + 2 + w)
          -ℤ arriving (model_of most P).routes (joined xs thr st ms g) (length P.places + 2 + w)
          ≡ if_bounds (place_at P.places w).through (leaving P.routes xs w)
          -ℤ (if_bounds (place_at P.places w).through (thr w (place_at P.places w)) +ℤ if_bounds (place_at P.places w).through (ms w))
      at_exit w n =
          omega (
            arith,
            ints,
            whole_sum (λ r x. when (eqb r.tail (length P.places + 2 + w)) x),
            whole_sum (λ r x. when (eqb r.head (length P.places + 2 + w)) x),
            out_at_exit sound xs w n,
            in_beyond sound xs (length P.places + 2 + w) (omega (arith, n)),
            none_at (T) (λ r. r.tail) (length P.places + 2 + w) thr 1 P.places (t_tail_off (length P.places + 2 + w) (omega (arith, n))),
            none_at (S) (λ r. r.tail) (length P.places + 2 + w) (λ j p. st j) 1 P.places (s_tail_off (length P.places + 2 + w) (omega (arith, n))),
            none_at (M) (λ r. r.tail) (length P.places + 2 + w) (λ j p. ms j) 1 P.places
                (m_tail_off (length P.places + 2 + w) (λ bad. absurd (omega (arith, bad, n)))),
            when_not (hub_of P.places) (length P.places + 2 + w) g (λ bad. absurd (omega (arith, bad, n))),
            t_head_exit w n,
            none_at (S) (λ r. r.head) (length P.places + 2 + w) (λ j p. st j) 1 P.places
                (s_head_off (length P.places + 2 + w) (λ bad. absurd (omega (arith, bad, n)))),
            m_head_exit w n,
            when_not (gate_of P.places) (length P.places + 2 + w) g (λ bad. absurd (omega (arith, bad, n))),
          )

      pub at_hub : leaving (model_of most P).routes (joined xs thr st ms g) (hub_of P.places)
          -ℤ arriving (model_of most P).routes (joined xs thr st ms g) (hub_of P.places) ≡ g -ℤ place_sum (λ j p. st j) 1 P.places
      at_hub =
          let h : length P.places < hub_of P.places = omega arith in
          let k : hub_of P.places ≤ length P.places + 2 = omega arith in
          omega (
            arith,
            ints,
            whole_sum (λ r x. when (eqb r.tail (hub_of P.places)) x),
            whole_sum (λ r x. when (eqb r.head (hub_of P.places)) x),
            out_at_middle sound xs (hub_of P.places) h k,
            in_beyond sound xs (hub_of P.places) h,
            none_at (T) (λ r. r.tail) (hub_of P.places) thr 1 P.places (t_tail_off (hub_of P.places) h),
            none_at (S) (λ r. r.tail) (hub_of P.places) (λ j p. st j) 1 P.places (s_tail_off (hub_of P.places) h),
            none_at (M) (λ r. r.tail) (hub_of P.places) (λ j p. ms j) 1 P.places (m_tail_off (hub_of P.places) (λ bad. absurd (omega (arith, bad)))),
            when_is (hub_of P.places) (hub_of P.places) g refl,
            none_at (T) (λ r. r.head) (hub_of P.places) thr 1 P.places (t_head_off (hub_of P.places) k),
            all_at (S) (λ r. r.head) (hub_of P.places) (λ j p. st j) 1 P.places
                (each_all (λ j p. IfRoute (S j p) (λ r. r.head ≡ hub_of P.places)) 1 P.places (λ j p a b. if_route _ _ (λ r. r.head ≡ hub_of P.places) refl)) sNone,
            none_at (M) (λ r. r.head) (hub_of P.places) (λ j p. ms j) 1 P.places (m_head_off (hub_of P.places) h k),
            when_not (gate_of P.places) (hub_of P.places) g (λ bad. absurd (omega (arith, bad))),
          )

      pub at_gate : leaving (model_of most P).routes (joined xs thr st ms g) (gate_of P.places)
          -ℤ arriving (model_of most P).routes (joined xs thr st ms g) (gate_of P.places) ≡ place_sum (λ j p. ms j) 1 P.places -ℤ g
      at_gate =
          let h : length P.places < gate_of P.places = omega arith in
          let k : gate_of P.places ≤ length P.places + 2 = omega arith in
          omega (
            arith,
            ints,
            whole_sum (λ r x. when (eqb r.tail (gate_of P.places)) x),
            whole_sum (λ r x. when (eqb r.head (gate_of P.places)) x),
            out_at_middle sound xs (gate_of P.places) h k,
            in_beyond sound xs (gate_of P.places) h,
            none_at (T) (λ r. r.tail) (gate_of P.places) thr 1 P.places (t_tail_off (gate_of P.places) h),
            none_at (S) (λ r. r.tail) (gate_of P.places) (λ j p. st j) 1 P.places (s_tail_off (gate_of P.places) h),
            all_at (M) (λ r. r.tail) (gate_of P.places) (λ j p. ms j) 1 P.places
                (each_all (λ j p. IfRoute (M j p) (λ r. r.tail ≡ gate_of P.places)) 1 P.places (λ j p a b. if_route _ _ (λ r. r.tail ≡ gate_of P.places) refl)) mNone,
            when_not (hub_of P.places) (gate_of P.places) g (λ bad. absurd (omega (arith, bad))),
            none_at (T) (λ r. r.head) (gate_of P.places) thr 1 P.places (t_head_off (gate_of P.places) k),
            none_at (S) (λ r. r.head) (gate_of P.places) (λ j p. st j) 1 P.places (s_head_off (gate_of P.places) (λ bad. absurd (omega (arith, bad)))),
            none_at (M) (λ r. r.head) (gate_of P.places) (λ j p. ms j) 1 P.places (m_head_off (gate_of P.places) h k),
            when_is (gate_of P.places) (gate_of P.places) g refl,
          )
