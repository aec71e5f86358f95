-- Plans of planners' problems are plans of their models.
use Rattle.std.proofs.Common.{◌≡◌, ℕ, zero, suc, ◌+◌, ◌-◌, ◌<◌, ◌≤◌, eqb, Bool, true, false, List, [], ◌∷◌, ◌++◌, length, map, take, drop, refl, ap, sym, ◌∙◌, subst, arith, ℤ, pos, neg_ℤ, ◌+ℤ◌, ◌-ℤ◌, ◌≤ℤ◌, inl, inr}
use Rattle.std.specs.Prelude.{◌⊎◌, Option, Some, None, option_map, int_lt}
use Rattle.std.specs.List.{All, AllZip}
use Rattle.std.specs.Option.{is_some}
use Rattle.std.proofs.lemmas.Int.{ints, clamps}
use Rattle.std.proofs.lemmas.Bool.{cases_eq}
use Rattle.std.proofs.lemmas.List.{length-map, take-append-drop}
use Rattle.std.proofs.lemmas.List.Elements.{All-head, All-tail}
use Rattle.std.proofs.Math.IntN.{◌*ℤ◌}
use Rattle.std.proofs.Math.Seq.{drop-append_seam, take-append_seam}
use Rattle.mcf_flows.specs.Network.{IsNode, at_node, when}
use Rattle.mcf_flows.proofs.AllZips.{length-AllZip}
use Rattle.mcf_flows.proofs.IntLaws.{mul-zero, zero-mul}
use Rattle.mcf_model.specs.Model.{IsPlan as IsModelPlan, IsSoundRoute, MayCarry, Route, arriving, leaving, plan_cost, plan_sum, route_cost}
use Rattle.mcf_model.proofs.Lists.{join_zip, split_zip}
use Rattle.mcf_places.specs.declared.places.Bounds.{Bounds}
use Rattle.mcf_places.specs.declared.places.Place.{Place}
use Rattle.mcf_places.specs.PlannerLaws.{IsModelPlanOf, IsPlanOf, AreSoundRoutes, PlannersAreModels}
use Rattle.mcf_places.specs.Models.{amounts_by, by_place, entry_supply, exit_supply, from_exit, gate_of, gate_route, hub_of, hub_supply, missings, model_of, place_at, plain_route, plan_of, route_if, routes_of, side_amounts, some_bounds, stayings, supplies_of, throughs, with_exits}
use Rattle.mcf_places.specs.Planners.{EachPlace, IsBalancedAt, IsPlan, KeepsBounds, Plan, Planner, given, missing_cost, passes, place_sum, through_cost, total_missing, wanted}
use Rattle.mcf_places.proofs.PlaceSums.{each_all, each_at, each_from, each_map, place_sum-add, place_sum-one, place_sum-same, place_sum-sub, place_sum-zero}
use Rattle.mcf_places.proofs.MadeRoutes.{IfRoute, IsReadBy, NoneElse, length_by, length_places, read_by, same_by, term_if, there_again, when_is, when_not, zip_by}
use Rattle.mcf_places.proofs.Ends.{M, S, T, at_entry, at_exit, at_gate, at_hub, if_bounds, if_none, joined, whole_sum}
use Rattle.mcf_places.proofs.Sides.{exits_carried, exits_carry, exits_few, gives_none, has_exit, side_carried, side_carries, supplies_long, supply_of_entry, supply_of_exit, supply_of_gate, supply_of_hub, through_carried, through_carries, wants_none}

-- ---- what leaves all places is what arrives at all places

ends_once : (v : ℕ) (ps : List Place) (end : ℕ) (x : ℤ) → v ≤ end → end < v + length ps → place_sum (λ j p. when (eqb end j) x) v ps ≡ x
ends_once v ps end x a b =
    place_sum-one (λ j p. when (eqb end j) x) v ps end (record { supply = pos 0; through = None; penalty = None }) a b
    (each_all (λ j p. (j ≡ end → ⊥) → when (eqb end j) x ≡ pos 0) v ps (λ j p c d other. when_not end j x (λ bad. other (sym bad))))
    ∙ when_is end end x refl

no_net : (ps : List Place) (rs : List Route) (xs : List ℤ) → All (IsSoundRoute (length ps)) rs
    → place_sum (λ j p. leaving rs xs j -ℤ arriving rs xs j) 1 ps ≡ pos 0
no_net ps [] xs sound = place_sum-zero (λ j p. pos 0 -ℤ pos 0) 1 ps (each_all (λ j p. (pos 0 -ℤ pos 0) ≡ pos 0) 1 ps (λ j p a b. refl))
no_net ps (r ∷ rs) [] sound = place_sum-zero (λ j p. pos 0 -ℤ pos 0) 1 ps (each_all (λ j p. (pos 0 -ℤ pos 0) ≡ pos 0) 1 ps (λ j p a b. refl))
no_net ps (r ∷ rs) (x ∷ xs) sound =
    let first = All-head (IsSoundRoute (length ps)) r rs sound in
    let apart = place_sum-same (λ j p. (when (eqb r.tail j) x +ℤ leaving rs xs j) -ℤ (when (eqb r.head j) x +ℤ arriving rs xs j))
    (λ j p. (when (eqb r.tail j) x -ℤ when (eqb r.head j) x) +ℤ (leaving rs xs j -ℤ arriving rs xs j)) 1 ps
    (each_all
    (λ j p. ((when (eqb r.tail j) x +ℤ leaving rs xs j) -ℤ (when (eqb r.head j) x +ℤ arriving rs xs j))
    ≡ (when (eqb r.tail j) x -ℤ when (eqb r.head j) x) +ℤ (leaving rs xs j -ℤ arriving rs xs j)) 1 ps (λ j p a b. omega (arith, ints))) in
    omega (
      arith,
      ints,
      apart,
      place_sum-add (λ j p. when (eqb r.tail j) x -ℤ when (eqb r.head j) x) (λ j p. leaving rs xs j -ℤ arriving rs xs j) 1 ps,
      place_sum-sub (λ j p. when (eqb r.tail j) x) (λ j p. when (eqb r.head j) x) 1 ps,
      ends_once 1 ps r.tail x first.tail_is_place.0 (omega (arith, first.tail_is_place)),
      ends_once 1 ps r.head x first.head_is_place.0 (omega (arith, first.head_is_place)),
      no_net ps rs xs (All-tail (IsSoundRoute (length ps)) r rs sound),
    )

-- ---- one place

abbrev no_place : Place
no_place = record { supply = pos 0; through = None; penalty = None }

-- what is given less what is wanted is the supply
supply_parts : (p : Place) → p.supply ≡ given p -ℤ wanted p
supply_parts p = omega (arith, ints, clamps)

entry_balance : (o : Option Bounds) (p : Place) (out into stays miss thr : ℤ) → thr ≡ into +ℤ (given p -ℤ stays) → thr ≡ out +ℤ (wanted p -ℤ miss)
    → (if_none o out +ℤ (if_bounds o thr +ℤ stays)) -ℤ (into +ℤ if_none o miss) ≡ entry_supply o p
entry_balance (Some b) p out into stays miss thr e f = omega (arith, ints, e)
entry_balance None p out into stays miss thr e f = omega (arith, ints, e, f, supply_parts p)

exit_balance : (o : Option Bounds) (p : Place) (out miss thr : ℤ) → thr ≡ out +ℤ (wanted p -ℤ miss)
    → if_bounds o out -ℤ (if_bounds o thr +ℤ if_bounds o miss) ≡ exit_supply o p
exit_balance (Some b) p out miss thr f = omega (arith, ints, f)
exit_balance None p out miss thr f = refl

-- a route of bounds carries what passes, and this is what leaves and is wanted
balances_back : (o : Option Bounds) (p : Place) (out into stays miss thr : ℤ)
    → (if_none o out +ℤ (if_bounds o thr +ℤ stays)) -ℤ (into +ℤ if_none o miss) ≡ entry_supply o p
    → (is_some o ≡ true → if_bounds o out -ℤ (if_bounds o thr +ℤ if_bounds o miss) ≡ exit_supply o p)
    → (into +ℤ (given p -ℤ stays) ≡ out +ℤ (wanted p -ℤ miss)) × (is_some o ≡ true → thr ≡ into +ℤ (given p -ℤ stays))
balances_back (Some b) p out into stays miss thr e f =
    let g = f refl in (omega (arith, ints, e, g), λ h. omega (arith, ints, e))
balances_back None p out into stays miss thr e f =
    (omega (arith, ints, e, supply_parts p), λ h. cc h)

-- ---- costs

module _ (P : Planner) where
  through_term_cost : (j : ℕ) (p : Place) (z : ℤ) → term_if (T P j p) (λ r. route_cost r z) ≡ through_cost p.through z
  through_term_cost j p z = go p.through
    where
      go : (o : Option Bounds)
          → term_if (option_map (λ (b : Bounds). plain_route j (length P.places + 2 + j) b.least b.most b.cost) o) (λ r. route_cost r z) ≡ through_cost o z
      go (Some b) = refl
      go None = refl

  free_term : (b : Bool) (tail head : ℕ) (high z : ℤ) → term_if (route_if b (plain_route tail head (pos 0) (Some high) (pos 0))) (λ r. route_cost r z) ≡ pos 0
  free_term true tail head high z = zero-mul z
  free_term false tail head high z = refl

  missing_term : (b : Bool) (tail head : ℕ) (high cost z : ℤ) → NoneElse (route_if b (plain_route tail head (pos 0) (Some high) cost)) z
      → term_if (route_if b (plain_route tail head (pos 0) (Some high) cost)) (λ r. route_cost r z) ≡ cost *ℤ z
  missing_term true tail head high cost z h = refl
  missing_term false tail head high cost z h = sym (ap (λ y. cost *ℤ y) h ∙ mul-zero cost)

  pub whole_cost : (xs : List ℤ) → length P.routes ≡ length xs → (thr : ℕ → Place → ℤ) (st ms : ℕ → ℤ) (g most : ℤ)
      → EachPlace (λ j p. NoneElse (M P j p) (ms j)) 1 P.places
      → plan_cost (model_of most P) (joined P xs thr st ms g)
      ≡ plan_sum route_cost P.routes xs
      +ℤ (place_sum (λ j p. through_cost p.through (thr j p)) 1 P.places +ℤ place_sum (λ j p. missing_cost P.policy p *ℤ ms j) 1 P.places)
  whole_cost xs long thr st ms g most none =
      omega (
        arith,
        ints,
        whole_sum P xs long thr st ms g most route_cost,
        place_sum-same (λ j p. term_if (T P j p) (λ r. route_cost r (thr j p))) (λ j p. through_cost p.through (thr j p)) 1 P.places
            (each_all (λ j p. term_if (T P j p) (λ r. route_cost r (thr j p)) ≡ through_cost p.through (thr j p)) 1 P.places
            (λ j p a b. through_term_cost j p (thr j p))),
        place_sum-zero (λ j p. term_if (S P j p) (λ r. route_cost r (st j))) 1 P.places
            (each_all (λ j p. term_if (S P j p) (λ r. route_cost r (st j)) ≡ pos 0) 1 P.places (λ j p a b. free_term _ _ _ _ (st j))),
        place_sum-same (λ j p. term_if (M P j p) (λ r. route_cost r (ms j))) (λ j p. missing_cost P.policy p *ℤ ms j) 1 P.places
            (each_map (λ j p. NoneElse (M P j p) (ms j)) (λ j p. term_if (M P j p) (λ r. route_cost r (ms j)) ≡ missing_cost P.policy p *ℤ ms j)
            (λ j p k. missing_term _ _ _ _ _ (ms j) k) 1 P.places none),
        zero-mul g,
      )

-- ---- from a plan to one of the model

-- a number that is neither of two is below both or above both
apart : (m v : ℕ) → (v ≡ m + 1 → ⊥) → (v ≡ m + 2 → ⊥) → (v ≤ m) ⊎ (m + 2 < v)
apart zero zero a b = inl (omega arith)
apart zero (suc v) a b = inr (above v (λ e. a (omega (arith, e))) (λ e. b (omega (arith, e))))
  where
    above : (v : ℕ) → (v ≡ 0 → ⊥) → (v ≡ 1 → ⊥) → 2 < suc v
    above zero a b = absurd (a refl)
    above (suc zero) a b = absurd (b refl)
    above (suc (suc v)) a b = omega arith
apart (suc m) zero a b = inl (omega arith)
apart (suc m) (suc v) a b =
    elim (apart m v (λ e. a (omega (arith, e))) (λ e. b (omega (arith, e)))) [
      | inl k ↦ inl (omega (arith, k))
      | inr k ↦ inr (omega (arith, k))
    ]

module _ (most : ℤ) (P : Planner) (x : Plan) (sound : AreSoundRoutes P) (h : IsPlan P x) (few : total_missing P x ≤ℤ most) where
  abbrev st : ℕ → ℤ
  st j = at_node x.stays j

  abbrev ms : ℕ → ℤ
  ms j = at_node x.missing j

  long : length P.routes ≡ length x.carries
  long = length-AllZip MayCarry P.routes x.carries h.may_carry

  at : (w : ℕ) → IsNode (length P.places) w → IsBalancedAt P x w (place_at P.places w)
  at w n = each_at (IsBalancedAt P x) 1 P.places w no_place h.balanced n.0 (omega (arith, n))

  staying : EachPlace (λ j p. IfRoute (S P j p) (λ r. MayCarry r (st j)) × NoneElse (S P j p) (st j)) 1 P.places
  staying =
      each_map (IsBalancedAt P x) (λ j p. IfRoute (S P j p) (λ r. MayCarry r (st j)) × NoneElse (S P j p) (st j))
      (λ j p b. side_carries P.policy.unused (int_lt (pos 0) p.supply) j (hub_of P.places) (given p) (pos 0) (st j) b.stays_some b.stays_no_more (gives_none p))
      1 P.places h.balanced

  missed : EachPlace (λ j p. IfRoute (M P j p) (λ r. MayCarry r (ms j)) × NoneElse (M P j p) (ms j)) 1 P.places
  missed =
      each_map (IsBalancedAt P x) (λ j p. IfRoute (M P j p) (λ r. MayCarry r (ms j)) × NoneElse (M P j p) (ms j))
      (λ j p b. side_carries P.policy.short (int_lt p.supply (pos 0)) _ _ (wanted p) (missing_cost P.policy p) (ms j) b.misses_some b.misses_no_more (wants_none p))
      1 P.places h.balanced

  s_none : EachPlace (λ j p. NoneElse (S P j p) (st j)) 1 P.places
  s_none = each_map _ (λ j p. NoneElse (S P j p) (st j)) (λ j p b. b.1) 1 P.places staying

  m_none : EachPlace (λ j p. NoneElse (M P j p) (ms j)) 1 P.places
  m_none = each_map _ (λ j p. NoneElse (M P j p) (ms j)) (λ j p b. b.1) 1 P.places missed

  no_less : pos 0 ≤ℤ total_missing P x
  no_less = go 1 P.places h.balanced
    where
      go : (v : ℕ) (ps : List Place) → EachPlace (IsBalancedAt P x) v ps → pos 0 ≤ℤ place_sum (λ j p. ms j) v ps
      go v [] k = omega (arith, ints)
      go v (p ∷ ps) k = omega (arith, ints, (k.0).misses_some, go (suc v) ps k.1)

  carry_all : AllZip MayCarry (model_of most P).routes (routes_of P x)
  carry_all =
      join_zip MayCarry (map (from_exit P.places) P.routes) (throughs P ++ (stayings P ++ (missings P ++ gate_route most P ∷ []))) x.carries _
      (exits_carry P.places P.routes x.carries h.may_carry)
      (join_zip MayCarry (throughs P) (stayings P ++ (missings P ++ gate_route most P ∷ [])) (amounts_by (T P) (passes P x) 1 P.places) _
      (zip_by (T P) (passes P x) 1 P.places
      (each_map (IsBalancedAt P x) (λ j p. IfRoute (T P j p) (λ r. MayCarry r (passes P x j p)))
      (λ j p b. through_carries P.places j (passes P x j p) p.through b.keeps_bounds) 1 P.places h.balanced))
      (join_zip MayCarry (stayings P) (missings P ++ gate_route most P ∷ []) (amounts_by (S P) (λ j p. st j) 1 P.places) _
      (zip_by (S P) (λ j p. st j) 1 P.places (each_map _ (λ j p. IfRoute (S P j p) (λ r. MayCarry r (st j))) (λ j p b. b.0) 1 P.places staying))
      (join_zip MayCarry (missings P) (gate_route most P ∷ []) (amounts_by (M P) (λ j p. ms j) 1 P.places) (total_missing P x ∷ [])
      (zip_by (M P) (λ j p. ms j) 1 P.places (each_map _ (λ j p. IfRoute (M P j p) (λ r. MayCarry r (ms j))) (λ j p b. b.0) 1 P.places missed))
      (record { enough = no_less; fits = few }, tt))))

  hub_balances : total_missing P x -ℤ place_sum (λ j p. st j) 1 P.places ≡ hub_supply P.places
  hub_balances =
      omega (
        arith,
        ints,
        no_net P.places P.routes x.carries sound,
        place_sum-same (λ j p. leaving P.routes x.carries j -ℤ arriving P.routes x.carries j) (λ j p. (ms j -ℤ st j) -ℤ neg_ℤ p.supply) 1 P.places
            (each_map (IsBalancedAt P x) (λ j p. (leaving P.routes x.carries j -ℤ arriving P.routes x.carries j) ≡ (ms j -ℤ st j) -ℤ neg_ℤ p.supply)
            (λ j p b. omega (arith, ints, b.balances, supply_parts p)) 1 P.places h.balanced),
        place_sum-sub (λ j p. ms j -ℤ st j) (λ j p. neg_ℤ p.supply) 1 P.places,
        place_sum-sub (λ j p. ms j) (λ j p. st j) 1 P.places,
      )

  meets : (w : ℕ) → IsNode (length (supplies_of P.places)) w
      → leaving (model_of most P).routes (routes_of P x) w -ℤ arriving (model_of most P).routes (routes_of P x) w ≡ at_node (supplies_of P.places) w
  meets w n = go (cases_eq w (hub_of P.places)) (cases_eq w (gate_of P.places))
    where
      entry : IsNode (length P.places) w
          → leaving (model_of most P).routes (routes_of P x) w -ℤ arriving (model_of most P).routes (routes_of P x) w ≡ at_node (supplies_of P.places) w
      entry k =
          at_entry P x.carries long (passes P x) st ms (total_missing P x) most sound s_none m_none w k
          ∙ entry_balance (place_at P.places w).through (place_at P.places w) (leaving P.routes x.carries w) (arriving P.routes x.carries w) (st w) (ms w)
          (passes P x w (place_at P.places w)) refl (at w k).balances
          ∙ sym (supply_of_entry P.places w k)

      exit : (u : ℕ) → w ≡ length P.places + 2 + u → 1 ≤ u → u ≤ length (with_exits (some_bounds P.places) P.places)
          → leaving (model_of most P).routes (routes_of P x) w -ℤ arriving (model_of most P).routes (routes_of P x) w ≡ at_node (supplies_of P.places) w
      exit u e a b =
          let k : IsNode (length P.places) u = (a, omega (arith, b, exits_few P.places)) in
          subst
          (λ v. leaving (model_of most P).routes (routes_of P x) v -ℤ arriving (model_of most P).routes (routes_of P x) v ≡ at_node (supplies_of P.places) v)
          (sym e)
          (at_exit P x.carries long (passes P x) st ms (total_missing P x) most sound s_none m_none u k
          ∙ exit_balance (place_at P.places u).through (place_at P.places u) (leaving P.routes x.carries u) (ms u) (passes P x u (place_at P.places u))
          (at u k).balances
          ∙ sym (supply_of_exit P.places u a b))

      go : (w ≡ hub_of P.places) ⊎ (w ≡ hub_of P.places → ⊥) → (w ≡ gate_of P.places) ⊎ (w ≡ gate_of P.places → ⊥)
          → leaving (model_of most P).routes (routes_of P x) w -ℤ arriving (model_of most P).routes (routes_of P x) w ≡ at_node (supplies_of P.places) w
      go (inl e) k =
          subst
          (λ v. leaving (model_of most P).routes (routes_of P x) v -ℤ arriving (model_of most P).routes (routes_of P x) v ≡ at_node (supplies_of P.places) v)
          (sym e)
          (at_hub P x.carries long (passes P x) st ms (total_missing P x) most sound s_none m_none ∙ hub_balances ∙ sym (supply_of_hub P.places))
      go (inr a) (inl e) =
          subst
          (λ v. leaving (model_of most P).routes (routes_of P x) v -ℤ arriving (model_of most P).routes (routes_of P x) v ≡ at_node (supplies_of P.places) v)
          (sym e)
          (at_gate P x.carries long (passes P x) st ms (total_missing P x) most sound s_none m_none
          ∙ (let same : total_missing P x -ℤ total_missing P x ≡ pos 0 = omega (arith, ints) in same)
          ∙ sym (supply_of_gate P.places))
      go (inr a) (inr b) =
          elim (apart (length P.places) w a b) [
            | inl k ↦ entry (n.0, k)
            | inr k ↦ exit (w - (length P.places + 2)) (omega (arith, k)) (omega (arith, k)) (omega (arith, k, n, supplies_long P.places))
          ]

pub plans_are_model_plans_lem : (most : ℤ) (P : Planner) (x : Plan) → AreSoundRoutes P → IsPlan P x → total_missing P x ≤ℤ most → IsModelPlanOf most P x (routes_of P x)
plans_are_model_plans_lem most P x sound h few =
    let st : ℕ → ℤ = λ j. at_node x.stays j in
    let ms : ℕ → ℤ = λ j. at_node x.missing j in
    let e = long most P x sound h few in
    let tail = amounts_by (M P) (λ j p. at_node x.missing j) 1 P.places ++ total_missing P x ∷ [] in
    let later = amounts_by (S P) (λ j p. at_node x.stays j) 1 P.places ++ tail in
    let middle = amounts_by (T P) (passes P x) 1 P.places ++ later in
    let first : drop (length P.routes) (routes_of P x) ≡ middle = ap (λ k. drop k (routes_of P x)) e ∙ drop-append_seam x.carries middle in
    let second : side_amounts P (routes_of P x) ≡ later =
    ap (drop (length (throughs P))) first
    ∙ ap (λ k. drop k middle) (length_by (T P) (passes P x) 1 P.places) ∙ drop-append_seam (amounts_by (T P) (passes P x) 1 P.places) later in
    let third : drop (length (stayings P)) (side_amounts P (routes_of P x)) ≡ tail =
    ap (drop (length (stayings P))) second
    ∙ ap (λ k. drop k later) (length_by (S P) (λ j p. at_node x.stays j) 1 P.places)
    ∙ drop-append_seam (amounts_by (S P) (λ j p. at_node x.stays j) 1 P.places) tail in
    record {
      is_plan = record { may_carry = carry_all most P x sound h few; meets_supplies = meets most P x sound h few };
      same_cost = whole_cost P x.carries e (passes P x) st ms (total_missing P x) most (m_none most P x sound h few);
      back_again = same_plan (plan_of P (routes_of P x)).carries (plan_of P (routes_of P x)).stays (plan_of P (routes_of P x)).missing
          (ap (λ k. take k (routes_of P x)) e ∙ take-append_seam x.carries middle)
          (ap (by_place (S P) 1 P.places) second
          ∙ there_again (S P) st tail 1 P.places x.stays h.stays_by_place (λ w a b. refl) (s_none most P x sound h few))
          (ap (by_place (M P) 1 P.places) third
          ∙ there_again (M P) ms (total_missing P x ∷ []) 1 P.places x.missing h.missing_by_place (λ w a b. refl) (m_none most P x sound h few));
    }
  where
    same_plan : (c s m : List ℤ) → c ≡ x.carries → s ≡ x.stays → m ≡ x.missing → record { carries = c; stays = s; missing = m } ≡ x
    same_plan c s m e f g =
        ap (λ z. record { carries = z; stays = s; missing = m }) e
        ∙ ap (λ z. record { carries = x.carries; stays = z; missing = m }) f
        ∙ ap (λ z. record { carries = x.carries; stays = x.stays; missing = z }) g

-- ---- from a plan of the model to a plan

module _ (most : ℤ) (P : Planner) (plan : List ℤ) (sound : AreSoundRoutes P) (h : IsModelPlan (model_of most P) plan) where
  abbrev x : Plan
  x = plan_of P plan

  abbrev stays_at : ℕ → ℤ
  stays_at j = at_node (plan_of P plan).stays j

  abbrev missing_at : ℕ → ℤ
  missing_at j = at_node (plan_of P plan).missing j

  abbrev after_routes : List ℤ
  after_routes = drop (length P.routes) plan

  -- what the routes of bounds carry
  abbrev through_at : ℕ → ℤ
  through_at j = at_node (by_place (T P) 1 P.places (drop (length P.routes) plan)) j

  cut : AllZip MayCarry (map (from_exit P.places) P.routes) (take (length P.routes) plan)
      × AllZip MayCarry (throughs P ++ (stayings P ++ (missings P ++ gate_route most P ∷ []))) (drop (length P.routes) plan)
  cut =
      split_zip MayCarry (length P.routes) (map (from_exit P.places) P.routes) (throughs P ++ (stayings P ++ (missings P ++ gate_route most P ∷ []))) plan
      (length-map P.routes (from_exit P.places)) h.may_carry

  read_t : IsReadBy (T P) (stayings P ++ (missings P ++ gate_route most P ∷ [])) through_at 1 P.places (drop (length P.routes) plan)
  read_t =
      read_by (T P) (stayings P ++ (missings P ++ gate_route most P ∷ [])) through_at 1 P.places (drop (length P.routes) plan) cut.1 (λ w a b. refl)

  read_s : IsReadBy (S P) (missings P ++ gate_route most P ∷ []) stays_at 1 P.places (side_amounts P plan)
  read_s = read_by (S P) (missings P ++ gate_route most P ∷ []) stays_at 1 P.places (side_amounts P plan) read_t.others (λ w a b. refl)

  read_m : IsReadBy (M P) (gate_route most P ∷ []) missing_at 1 P.places (drop (length (stayings P)) (side_amounts P plan))
  read_m =
      read_by (M P) (gate_route most P ∷ []) missing_at 1 P.places (drop (length (stayings P)) (side_amounts P plan)) read_s.others (λ w a b. refl)

  -- what goes to the gate
  abbrev last : List ℤ
  last = drop (length (missings P)) (drop (length (stayings P)) (side_amounts P plan))

  record IsLast (ys : List ℤ) : Type 0 where
    gate : ℤ
    alone : ys ≡ gate ∷ []
    enough : pos 0 ≤ℤ gate
    no_more : gate ≤ℤ most

  to_gate : IsLast (drop (length (missings P)) (drop (length (stayings P)) (side_amounts P plan)))
  to_gate = go (drop (length (missings P)) (drop (length (stayings P)) (side_amounts P plan))) read_m.others
    where
      go : (ys : List ℤ) → AllZip MayCarry (gate_route most P ∷ []) ys → IsLast ys
      go [] k = absurd k
      go (y ∷ []) k = record { gate = y; alone = refl; enough = (k.0).enough; no_more = (k.0).fits }
      go (y ∷ (z ∷ ys)) k = absurd k.1

  long_back : length P.routes ≡ length (take (length P.routes) plan)
  long_back = sym (length-map P.routes (from_exit P.places)) ∙ length-AllZip MayCarry (map (from_exit P.places) P.routes) (take (length P.routes) plan) cut.0

  -- the plan, as it is read
  as_read : joined P (take (length P.routes) plan) (λ j p. through_at j) stays_at missing_at to_gate.gate ≡ plan
  as_read =
      ap
      (λ zs. take (length P.routes) plan ++ (amounts_by (T P) (λ j p. through_at j) 1 P.places
      ++ (amounts_by (S P) (λ j p. stays_at j) 1 P.places ++ (amounts_by (M P) (λ j p. missing_at j) 1 P.places ++ zs)))) (sym to_gate.alone)
      ∙ ap (λ zs. take (length P.routes) plan ++ (amounts_by (T P) (λ j p. through_at j) 1 P.places ++ (amounts_by (S P) (λ j p. stays_at j) 1 P.places ++ zs)))
      read_m.again
      ∙ ap (λ zs. take (length P.routes) plan ++ (amounts_by (T P) (λ j p. through_at j) 1 P.places ++ zs)) read_s.again
      ∙ ap (λ zs. take (length P.routes) plan ++ zs) read_t.again
      ∙ take-append-drop (length P.routes) plan

  meets_joined : (w : ℕ) → IsNode (length (supplies_of P.places)) w
      → leaving (model_of most P).routes (joined P (take (length P.routes) plan) (λ j p. through_at j) stays_at missing_at to_gate.gate) w
      -ℤ arriving (model_of most P).routes (joined P (take (length P.routes) plan) (λ j p. through_at j) stays_at missing_at to_gate.gate) w
      ≡ at_node (supplies_of P.places) w
  meets_joined w n =
      subst (λ ys. leaving (model_of most P).routes ys w -ℤ arriving (model_of most P).routes ys w ≡ at_node (supplies_of P.places) w) (sym as_read)
      (h.meets_supplies w n)

  at_place : (w : ℕ) → IsNode (length P.places) w
      → ((arriving P.routes (take (length P.routes) plan) w +ℤ (given (place_at P.places w) -ℤ stays_at w))
      ≡ leaving P.routes (take (length P.routes) plan) w +ℤ (wanted (place_at P.places w) -ℤ missing_at w))
      × (is_some (place_at P.places w).through ≡ true
      → through_at w ≡ arriving P.routes (take (length P.routes) plan) w +ℤ (given (place_at P.places w) -ℤ stays_at w))
  at_place w n =
      balances_back (place_at P.places w).through (place_at P.places w) (leaving P.routes (take (length P.routes) plan) w)
      (arriving P.routes (take (length P.routes) plan) w) (stays_at w) (missing_at w) (through_at w)
      (sym (at_entry P (take (length P.routes) plan) long_back (λ j p. through_at j) stays_at missing_at to_gate.gate most sound read_s.none_else read_m.none_else w n)
      ∙ meets_joined w (n.0, omega (arith, n, supplies_long P.places)) ∙ supply_of_entry P.places w n)
      (λ some. let has = has_exit P.places w n some in
      sym (at_exit P (take (length P.routes) plan) long_back (λ j p. through_at j) stays_at missing_at to_gate.gate most sound read_s.none_else read_m.none_else w n)
      ∙ meets_joined (length P.places + 2 + w) (omega (arith, n), omega (arith, n, has, supplies_long P.places))
      ∙ supply_of_exit P.places w n.0 (omega (arith, n, has)))

  gate_is : total_missing P (plan_of P plan) ≡ to_gate.gate
  gate_is =
      omega (
        arith,
        ints,
        at_gate P (take (length P.routes) plan) long_back (λ j p. through_at j) stays_at missing_at to_gate.gate most sound read_s.none_else read_m.none_else,
        meets_joined (gate_of P.places) (omega arith, omega (arith, supplies_long P.places)),
        supply_of_gate P.places,
      )

  -- the routes of bounds carry what passes
  passing : (w : ℕ) → 1 ≤ w → w < 1 + length P.places → IfRoute (T P w (place_at P.places w)) (λ r. through_at w ≡ passes P (plan_of P plan) w (place_at P.places w))
  passing w a b = go (place_at P.places w).through (at_place w (a, omega (arith, b))).1
    where
      go : (o : Option Bounds) → (is_some o ≡ true → through_at w ≡ passes P (plan_of P plan) w (place_at P.places w))
          → IfRoute (option_map (λ (b : Bounds). plain_route w (length P.places + 2 + w) b.least b.most b.cost) o)
          (λ r. through_at w ≡ passes P (plan_of P plan) w (place_at P.places w))
      go (Some bounds) f = f refl
      go None f = tt

  keeps : (w : ℕ) → 1 ≤ w → w < 1 + length P.places → KeepsBounds (place_at P.places w).through (passes P (plan_of P plan) w (place_at P.places w))
  keeps w a b =
      go (place_at P.places w).through (at_place w (a, omega (arith, b))).1
      (through_carried P.places w (through_at w) (place_at P.places w).through
      (each_at (λ j p. IfRoute (T P j p) (λ r. MayCarry r (through_at j))) 1 P.places w no_place read_t.may_carry a b))
    where
      go : (o : Option Bounds) → (is_some o ≡ true → through_at w ≡ passes P (plan_of P plan) w (place_at P.places w)) → KeepsBounds o (through_at w)
          → KeepsBounds o (passes P (plan_of P plan) w (place_at P.places w))
      go (Some bounds) f k = subst (KeepsBounds (Some bounds)) (f refl) k
      go None f k = tt

  balanced_back : EachPlace (IsBalancedAt P (plan_of P plan)) 1 P.places
  balanced_back =
      each_from (IsBalancedAt P (plan_of P plan)) 1 P.places no_place
      (λ w a b. let p = place_at P.places w in
      let s = side_carried P.policy.unused (int_lt (pos 0) p.supply) w (hub_of P.places) (given p) (pos 0) (stays_at w) (omega (arith, ints, clamps))
      (each_at (λ j p. IfRoute (S P j p) (λ r. MayCarry r (stays_at j))) 1 P.places w no_place read_s.may_carry a b)
      (each_at (λ j p. NoneElse (S P j p) (stays_at j)) 1 P.places w no_place read_s.none_else a b) in
      let m = side_carried P.policy.short (int_lt p.supply (pos 0)) _ _ (wanted p) (missing_cost P.policy p) (missing_at w) (omega (arith, ints, clamps))
      (each_at (λ j p. IfRoute (M P j p) (λ r. MayCarry r (missing_at j))) 1 P.places w no_place read_m.may_carry a b)
      (each_at (λ j p. NoneElse (M P j p) (missing_at j)) 1 P.places w no_place read_m.none_else a b) in
      record {
        stays_some = s.0;
        stays_no_more = s.1;
        misses_some = m.0;
        misses_no_more = m.1;
        balances = (at_place w (a, omega (arith, b))).0;
        keeps_bounds = keeps w a b;
      })

  -- the same plan of the model, by what passes
  by_passes : routes_of P (plan_of P plan) ≡ joined P (take (length P.routes) plan) (λ j p. through_at j) stays_at missing_at to_gate.gate
  by_passes =
      ap
      (λ zs. take (length P.routes) plan ++ (zs ++ (amounts_by (S P) (λ j p. stays_at j) 1 P.places
      ++ (amounts_by (M P) (λ j p. missing_at j) 1 P.places ++ total_missing P (plan_of P plan) ∷ []))))
      (same_by (T P) (passes P (plan_of P plan)) (λ j p. through_at j) 1 P.places
      (each_from (λ j p. IfRoute (T P j p) (λ r. passes P (plan_of P plan) j p ≡ through_at j)) 1 P.places no_place
      (λ w a b. turned w (T P w (place_at P.places w)) (passing w a b))))
      ∙ ap
      (λ g. take (length P.routes) plan ++ (amounts_by (T P) (λ j p. through_at j) 1 P.places ++ (amounts_by (S P) (λ j p. stays_at j) 1 P.places
      ++ (amounts_by (M P) (λ j p. missing_at j) 1 P.places ++ g ∷ [])))) gate_is
    where
      turned : (w : ℕ) (o : Option Route) → IfRoute o (λ r. through_at w ≡ passes P (plan_of P plan) w (place_at P.places w))
          → IfRoute o (λ r. passes P (plan_of P plan) w (place_at P.places w) ≡ through_at w)
      turned w (Some r) e = sym e
      turned w None e = tt

  its_plan : IsPlan P (plan_of P plan)
  its_plan =
      record {
        may_carry = exits_carried P.places P.routes (take (length P.routes) plan) cut.0;
        stays_by_place = length_places (S P) 1 P.places (side_amounts P plan);
        missing_by_place = length_places (M P) 1 P.places (drop (length (stayings P)) (side_amounts P plan));
        balanced = balanced_back;
      }

  pub model_plan_is_plan : IsPlanOf most P plan (plan_of P plan)
  model_plan_is_plan =
      let e = by_passes ∙ as_read in
      record {
        is_plan = its_plan;
        misses_no_more = omega (arith, ints, gate_is, to_gate.no_more);
        same_cost = sym (plans_are_model_plans_lem most P (plan_of P plan) sound its_plan (omega (arith, ints, gate_is, to_gate.no_more))).same_cost
            ∙ ap (plan_cost (model_of most P)) e;
        back_again = e;
      }

pub planners_are_models_lem : PlannersAreModels
planners_are_models_lem =
    record {
      plans_are_model_plans = λ most P x sound h few. plans_are_model_plans_lem most P x sound.routes h few;
      model_plans_are_plans = λ most P plan sound h. model_plan_is_plan most P plan sound.routes h;
    }
