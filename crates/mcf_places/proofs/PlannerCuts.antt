-- Bottlenecks of a problem's model are bottlenecks of the problem, and the other way round.
use Rattle.std.proofs.Common.{◌≡◌, ℕ, suc, ◌+◌, ◌-◌, ◌<◌, ◌≤◌, Bool, true, false, ◌&&◌, List, [], ◌∷◌, ◌++◌, IsTrue, get_or, length, map, refl, ap, sym, ◌∙◌, subst, arith, ℤ, pos, ◌+ℤ◌, ◌-ℤ◌, ◌≤ℤ◌}
use Rattle.std.specs.Prelude.{◌||◌, Option, Some, None, not, nat_le, if◌then◌else◌, option_map}
use Rattle.std.specs.List.{All}
use Rattle.std.specs.Option.{is_some}
use Rattle.std.proofs.lemmas.Int.{ints, clamps}
use Rattle.std.proofs.lemmas.Bool.{le-leb}
use Rattle.std.proofs.lemmas.List.Elements.{All-cons, All-head, All-tail}
use Rattle.mcf_flows.specs.declared.problem.Side.{Side}
use Rattle.mcf_flows.specs.declared.problem.Side.TheVariants.{Send, Take}
use Rattle.mcf_flows.specs.Blocking.{supply_in}
use Rattle.mcf_flows.specs.Network.{IsNode, when}
use Rattle.mcf_model.specs.Bottlenecks.{IsBottleneck, IsLimitedAcross, into, least_across, most_across, out_of, route_room, route_sum}
use Rattle.mcf_model.specs.Model.{Route}
use Rattle.mcf_model.specs.Laws.{BottlenecksHaveNoPlan}
use Rattle.mcf_places.specs.declared.places.Bounds.{Bounds}
use Rattle.mcf_places.specs.declared.places.Place.{Place}
use Rattle.mcf_places.specs.Models.{exit_by, from_exit, gate_of, gate_route, hub_of, missings, model_of, place_at, plain_route, routes_by, routes_of, stayings, supplies_of, throughs, with_first}
use Rattle.mcf_places.specs.PlannerBottlenecks.{IsPlannerBottleneck, IsWhole, PlaceSet, PlannerBottlenecksHaveNoPlan, given_in, leads_in, leads_out, passes_in, passes_out, wanted_in}
use Rattle.mcf_places.specs.PlannerFaults.{IsLimitedThrough}
use Rattle.mcf_places.specs.PlannerLaws.{IsSound}
use Rattle.mcf_places.specs.Planners.{EachPlace, Planner, all_wanted, place_sum, wanted}
use Rattle.mcf_places.proofs.Ends.{M, T, if_route}
use Rattle.mcf_places.proofs.Exchange.{plans_are_model_plans_lem}
use Rattle.mcf_places.proofs.LeastPlans.{misses_no_more}
use Rattle.mcf_places.proofs.MadeRoutes.{IfRoute, term_if}
use Rattle.mcf_places.proofs.PlaceCuts.{supply_told, turned_supply, whole_routes}
use Rattle.mcf_places.proofs.PlaceSums.{each_all, each_at, each_from, place_sum-le}
use Rattle.mcf_places.proofs.ProperModels.{all_routes, sound_model}
use Rattle.mcf_places.proofs.ToldSets.{Agrees, and_true, IsOwn, IsTold, agrees_in, agrees_out, all_own, in_through, least_of, missing_in, missing_in_some, missing_out, missing_out_none, out_through, own_limited, own_limited_back, own_most_of, stays_in, stays_out, throughs_most}

-- ---- facts of parts of a list

prefix : (Q : Route → Type 0) (xs ys : List Route) → All Q (xs ++ ys) → All Q xs
prefix Q [] ys h = λ k d l. absurd (omega arith)
prefix Q (x ∷ xs) ys h = All-cons Q x xs (All-head Q x (xs ++ ys) h) (prefix Q xs ys (All-tail Q x (xs ++ ys) h))

suffix : (Q : Route → Type 0) (xs ys : List Route) → All Q (xs ++ ys) → All Q ys
suffix Q [] ys h = h
suffix Q (x ∷ xs) ys h = suffix Q xs ys (All-tail Q x (xs ++ ys) h)

pub unmapped : (Q : Route → Type 0) (f : Route → Route) (rs : List Route) → All Q (map f rs) → All (λ r. Q (f r)) rs
unmapped Q f [] h = λ k d l. absurd (omega arith)
unmapped Q f (r ∷ rs) h =
    All-cons (λ r. Q (f r)) r rs (All-head Q (f r) (map f rs) h) (unmapped Q f rs (All-tail Q (f r) (map f rs) h))

each_made : (Q : Route → Type 0) (make : ℕ → Place → Option Route) (v : ℕ) (ps : List Place) → All Q (routes_by make v ps)
    → EachPlace (λ j p. IfRoute (make j p) Q) v ps
each_made Q make v [] h = tt
each_made Q make v (p ∷ ps) h = let both = go (make v p) h in (both.0, each_made Q make (suc v) ps both.1)
  where
    go : (o : Option Route) → All Q (with_first o (routes_by make (suc v) ps)) → IfRoute o Q × All Q (routes_by make (suc v) ps)
    go (Some r) k = (All-head Q r (routes_by make (suc v) ps) k, All-tail Q r (routes_by make (suc v) ps) k)
    go None k = (tt, k)

both_all : (Q R : Route → Type 0) (rs : List Route) → All Q rs → All R rs → All (λ r. Q r × R r) rs
both_all Q R rs h k = λ i d l. (h i d l, k i d l)

-- ---- limits

or_left : (a x : Bool) → IsTrue a → IsTrue (a || x)
or_left true x h = refl
or_left false x h = cc h

or_none : (a : Bool) → IsTrue (a || false) → IsTrue a
or_none true h = refl
or_none false h = cc h

module _ (n w : ℕ) (b : Bool) (c : ℕ → ℕ → Bool) where
  through_limited : (o : Option Bounds) → (is_some o ≡ true → c w (n + 2 + w) ≡ b)
      → IfRoute (option_map (λ (b : Bounds). plain_route w (n + 2 + w) b.least b.most b.cost) o) (IsLimitedAcross c) → IsTrue b → IsLimitedThrough o
  through_limited (Some z) f h k = h (or_left (c w (n + 2 + w)) (false && c (n + 2 + w) w) (subst IsTrue (sym (f refl)) k))
  through_limited None f h k = tt

  through_limited_back : (o : Option Bounds) → (is_some o ≡ true → c w (n + 2 + w) ≡ b) → (IsTrue b → IsLimitedThrough o)
      → IfRoute (option_map (λ (b : Bounds). plain_route w (n + 2 + w) b.least b.most b.cost) o) (IsLimitedAcross c)
  through_limited_back (Some z) f h = λ k. h (subst IsTrue (f refl) (or_none (c w (n + 2 + w)) k))
  through_limited_back None f h = tt

abbrev no_place : Place
no_place = record { supply = pos 0; through = None; penalty = None }

module _ (most : ℤ) (P : Planner) (sound : IsSound P) (set : ℕ → Bool) (s : PlaceSet) (told : IsTold P set s) where
  module _ (d c : ℕ → ℕ → Bool) (b : ℕ → Bool) (agrees : (r : Route) → IsOwn P sound set s told r → Agrees P.places d c r)
      (is : (w : ℕ) → IsNode (length P.places) w → is_some (place_at P.places w).through ≡ true → c w (length P.places + 2 + w) ≡ b w) where
    limits_told : All (IsLimitedAcross c) (model_of most P).routes
        → All (IsLimitedAcross d) P.routes × EachPlace (λ v p. IsTrue (b v) → IsLimitedThrough p.through) 1 P.places
    limits_told h =
        let own = map (from_exit P.places) P.routes in
        let rest = throughs P ++ (stayings P ++ (missings P ++ gate_route most P ∷ [])) in
        let mine = unmapped (IsLimitedAcross c) (from_exit P.places) P.routes (prefix (IsLimitedAcross c) own rest h) in
        let through = each_made (IsLimitedAcross c) (T P) 1 P.places
        (prefix (IsLimitedAcross c) (throughs P) (stayings P ++ (missings P ++ gate_route most P ∷ [])) (suffix (IsLimitedAcross c) own rest h)) in (
          (λ k x l. own_limited P.places d c (get_or P.routes k x) (agrees (get_or P.routes k x) (all_own P sound set s told k x l)) (mine k x l)),
          each_from (λ v p. IsTrue (b v) → IsLimitedThrough p.through) 1 P.places no_place
              (λ w x y. through_limited (length P.places) w (b w) c (place_at P.places w).through (is w (x, omega (arith, y)))
              (each_at (λ j p. IfRoute (T P j p) (IsLimitedAcross c)) 1 P.places w no_place through x y)),
        )

    limits_back : All (IsLimitedAcross d) P.routes → EachPlace (λ v p. IsTrue (b v) → IsLimitedThrough p.through) 1 P.places
        → All (IsLimitedAcross c) (model_of most P).routes
    limits_back own through =
        all_routes most P (IsLimitedAcross c) (λ r. IsOwn P sound set s told r × IsLimitedAcross d r)
        (λ r k. own_limited_back P.places d c r (agrees r k.0) k.1)
        (both_all (IsOwn P sound set s told) (IsLimitedAcross d) P.routes (all_own P sound set s told) own)
        (λ w x y. through_limited_back (length P.places) w (b w) c (place_at P.places w).through (is w (x, omega (arith, y)))
        (each_at (λ v p. IsTrue (b v) → IsLimitedThrough p.through) 1 P.places w no_place through x y))
        (λ w x y. if_route _ _ (IsLimitedAcross c) (λ k. tt)) (λ w x y. if_route _ _ (IsLimitedAcross c) (λ k. tt)) (λ k. tt)

  whole_told : EachPlace (λ v p. IsWhole s v p.through) 1 P.places
  whole_told =
      each_from (λ v p. IsWhole s v p.through) 1 P.places no_place
      (λ w x y. go w (place_at P.places w).through (told.entries w (x, omega (arith, y))) (told.exits w (x, omega (arith, y))))
    where
      go : (w : ℕ) (o : Option Bounds) → s.entries w ≡ set w → s.exits w ≡ set (exit_by (length P.places) w o) → IsWhole s w o
      go w (Some b) e f = tt
      go w None e f = f ∙ sym e

  supply_is : supply_in (supplies_of P.places) set ≡ given_in s P.places -ℤ wanted_in s P.places
  supply_is = supply_told P.places set s.entries s.exits told.hub told.entries told.exits

  -- what the gate carries across
  gate_out : most_across (out_of set) (gate_route most P) ≡ pos 0
  gate_out = omega (arith, ints, ap (λ b. when (b && not (set (gate_of P.places))) most) told.hub)

  gate_in : most_across (into set) (gate_route most P) ≡ when (set (gate_of P.places)) most
  gate_in = omega (arith, ints, ap (λ b. when (set (gate_of P.places) && not b) most) told.hub, ap (λ b. when b most) (and_true (set (gate_of P.places))))

  wanted_few : wanted_in s P.places ≤ℤ all_wanted P.places
  wanted_few =
      place_sum-le (λ v p. when (s.exits v) (wanted p)) (λ v p. wanted p) 1 P.places
      (each_all (λ v p. when (s.exits v) (wanted p) ≤ℤ wanted p) 1 P.places
      (λ v p a b. let low : pos 0 ≤ℤ wanted p = omega (arith, ints, clamps) in less (s.exits v) (wanted p) low))
    where
      less : (b : Bool) (z : ℤ) → pos 0 ≤ℤ z → when b z ≤ℤ z
      less true z h = omega (arith, ints)
      less false z h = h

  -- ---- from the model

  pub told_send : IsBottleneck (model_of most P) set Send → IsPlannerBottleneck P s Send
  told_send h =
      let limits = limits_told (leads_out s) (out_of set) (passes_out s) (agrees_out P sound set s told) (out_through P sound set s told) h.limited in
      record {
        whole = whole_told;
        routes_limited = limits.0;
        places_limited = limits.1;
        short = omega (
          arith,
          ints,
          h.short,
          whole_routes (most_across (out_of set)) most P,
          own_most_of P sound set s told (leads_out s) (out_of set) (agrees_out P sound set s told),
          throughs_most P sound set s told (out_of set) (passes_out s) (out_through P sound set s told),
          stays_out P sound set s told,
          missing_out P sound set s told,
          gate_out,
          least_of P sound set s told (leads_in s) (into set) (passes_in s) most (agrees_in P sound set s told) (in_through P sound set s told),
          supply_is,
        );
      }

  -- what may be missing is no more than what comes in from the gate and to it
  take_room : most ≡ when P.policy.short (all_wanted P.places)
      → when P.policy.short (wanted_in s P.places)
      ≤ℤ (place_sum (λ j p. term_if (M P j p) (most_across (into set))) 1 P.places +ℤ most_across (into set) (gate_route most P))
  take_room e = go (set (gate_of P.places)) refl
    where
      less : (b : Bool) → when b (wanted_in s P.places) ≤ℤ when b (all_wanted P.places)
      less true = wanted_few
      less false = omega (arith, ints)

      go : (b : Bool) → set (gate_of P.places) ≡ b
          → when P.policy.short (wanted_in s P.places)
          ≤ℤ (place_sum (λ j p. term_if (M P j p) (most_across (into set))) 1 P.places +ℤ most_across (into set) (gate_route most P))
      go true is =
          omega (arith, ints, less P.policy.short, e, gate_in, ap (λ b. when b most) is, missing_in_some P sound set s told)
      go false is =
          omega (arith, ints, missing_in P sound set s told is, gate_in, ap (λ b. when b most) is)

  pub told_take : most ≡ when P.policy.short (all_wanted P.places) → IsBottleneck (model_of most P) set Take → IsPlannerBottleneck P s Take
  told_take e h =
      let limits = limits_told (leads_in s) (into set) (passes_in s) (agrees_in P sound set s told) (in_through P sound set s told) h.limited in
      record {
        whole = whole_told;
        routes_limited = limits.0;
        places_limited = limits.1;
        short = omega (
          arith,
          ints,
          h.short,
          whole_routes (most_across (into set)) most P,
          own_most_of P sound set s told (leads_in s) (into set) (agrees_in P sound set s told),
          throughs_most P sound set s told (into set) (passes_in s) (in_through P sound set s told),
          stays_in P sound set s told,
          take_room e,
          least_of P sound set s told (leads_out s) (out_of set) (passes_out s) most (agrees_out P sound set s told) (out_through P sound set s told),
          supply_is,
        );
      }

  -- ---- to the model

  module _ (no_gate : set (gate_of P.places) ≡ false) where
    pub back_send : IsPlannerBottleneck P s Send → IsBottleneck (model_of most P) set Send
    back_send h =
        record {
          limited = limits_back (leads_out s) (out_of set) (passes_out s) (agrees_out P sound set s told) (out_through P sound set s told) h.routes_limited
              h.places_limited;
          short = omega (
            arith,
            ints,
            h.short,
            whole_routes (most_across (out_of set)) most P,
            own_most_of P sound set s told (leads_out s) (out_of set) (agrees_out P sound set s told),
            throughs_most P sound set s told (out_of set) (passes_out s) (out_through P sound set s told),
            stays_out P sound set s told,
            missing_out_none P sound set s told no_gate,
            gate_out,
            least_of P sound set s told (leads_in s) (into set) (passes_in s) most (agrees_in P sound set s told) (in_through P sound set s told),
            supply_is,
          );
        }

    pub back_take : IsPlannerBottleneck P s Take → IsBottleneck (model_of most P) set Take
    back_take h =
        record {
          limited = limits_back (leads_in s) (into set) (passes_in s) (agrees_in P sound set s told) (in_through P sound set s told) h.routes_limited
              h.places_limited;
          short = omega (
            arith,
            ints,
            h.short,
            whole_routes (most_across (into set)) most P,
            own_most_of P sound set s told (leads_in s) (into set) (agrees_in P sound set s told),
            throughs_most P sound set s told (into set) (passes_in s) (in_through P sound set s told),
            stays_in P sound set s told,
            missing_in P sound set s told no_gate,
            gate_in,
            ap (λ b. when b most) no_gate,
            least_of P sound set s told (leads_out s) (out_of set) (passes_out s) most (agrees_out P sound set s told) (out_through P sound set s told),
            supply_is,
          );
        }

-- ---- the law

-- the same set of the model's places
abbrev pub set_of : ℕ → PlaceSet → ℕ → Bool
set_of n s v = if nat_le v n then s.entries v else (nat_le (n + 3) v && s.exits (v - (n + 2)))

set_of_entry : (n : ℕ) (s : PlaceSet) (v : ℕ) → v ≤ n → set_of n s v ≡ s.entries v
set_of_entry n s v h = ap (λ b. if b then s.entries v else (nat_le (n + 3) v && s.exits (v - (n + 2)))) (le-leb v n h)

set_of_beyond : (n : ℕ) (s : PlaceSet) (v : ℕ) → n < v → set_of n s v ≡ (nat_le (n + 3) v && s.exits (v - (n + 2)))
set_of_beyond n s v h = ap (λ b. if b then s.entries v else (nat_le (n + 3) v && s.exits (v - (n + 2)))) (not_le v n h)
  where
    not_le : (a b : ℕ) → b < a → nat_le a b ≡ false
    not_le a b k = grind arith

set_of_middle : (n : ℕ) (s : PlaceSet) (v : ℕ) → n < v → v ≤ n + 2 → set_of n s v ≡ false
set_of_middle n s v h k = set_of_beyond n s v h ∙ ap (λ b. b && s.exits (v - (n + 2))) (not_le (n + 3) v (omega (arith, k)))
  where
    not_le : (a b : ℕ) → b < a → nat_le a b ≡ false
    not_le a b k = grind arith

set_of_exit : (n : ℕ) (s : PlaceSet) (v : ℕ) → 1 ≤ v → set_of n s (n + 2 + v) ≡ s.exits v
set_of_exit n s v h =
    let e : n + 2 + v - (n + 2) ≡ v = omega arith in
    set_of_beyond n s (n + 2 + v) (omega arith) ∙ ap (λ b. b && s.exits (n + 2 + v - (n + 2))) (le-leb (n + 3) (n + 2 + v) (omega (arith, h)))
    ∙ ap s.exits e

pub tells_itself : (P : Planner) (s : PlaceSet) → EachPlace (λ v p. IsWhole s v p.through) 1 P.places → IsTold P (set_of (length P.places) s) s
tells_itself P s whole =
    record {
      hub = set_of_middle (length P.places) s (hub_of P.places) (omega arith) (omega arith);
      entries = λ v k. sym (set_of_entry (length P.places) s v k.1);
      exits = λ v k. exit v (place_at P.places v).through k (each_at (λ v p. IsWhole s v p.through) 1 P.places v no_place whole k.0 (omega (arith, k)));
    }
  where
    exit : (v : ℕ) (o : Option Bounds) → IsNode (length P.places) v → IsWhole s v o → s.exits v ≡ set_of (length P.places) s (exit_by (length P.places) v o)
    exit v (Some b) k h = sym (set_of_exit (length P.places) s v k.0)
    exit v None k h = h ∙ sym (set_of_entry (length P.places) s v k.1)

pub planner_bottlenecks_have_no_plan_lem : BottlenecksHaveNoPlan → PlannerBottlenecksHaveNoPlan
planner_bottlenecks_have_no_plan_lem law P s side x sound h is =
    let most = when P.policy.short (all_wanted P.places) in
    law (model_of most P) (set_of (length P.places) s) side (routes_of P x) (sound_model most P sound.routes) (back side h)
    (plans_are_model_plans_lem most P x sound.routes is (misses_no_more P x is)).is_plan
  where
    no_gate : set_of (length P.places) s (gate_of P.places) ≡ false
    no_gate = set_of_middle (length P.places) s (gate_of P.places) (omega arith) (omega arith)

    back : (side : Side) → IsPlannerBottleneck P s side
        → IsBottleneck (model_of (when P.policy.short (all_wanted P.places)) P) (set_of (length P.places) s) side
    back Send k = back_send _ P sound (set_of (length P.places) s) s (tells_itself P s k.whole) no_gate k
    back Take k = back_take _ P sound (set_of (length P.places) s) s (tells_itself P s k.whole) no_gate k

-- ---- the places that aren't in a set

flipped : (a b : Bool) → (not b && not (not a)) ≡ (a && not b)
flipped true true = refl
flipped true false = refl
flipped false true = refl
flipped false false = refl

flipped_too : (a b : Bool) → (not a && not (not b)) ≡ (b && not a)
flipped_too a b = flipped b a

module _ (c d : ℕ → ℕ → Bool) (same : (u v : ℕ) → d u v ≡ c u v) where
  same_most : (rs : List Route) → route_sum (most_across d) rs ≡ route_sum (most_across c) rs
  same_most [] = refl
  same_most (r ∷ rs) =
      omega (
        arith,
        ints,
        ap (λ b. when b (route_room r)) (same r.tail r.head),
        ap (λ b. when (r.both && b) (route_room r)) (same r.head r.tail),
        same_most rs,
      )

  same_least : (rs : List Route) → route_sum (least_across d) rs ≡ route_sum (least_across c) rs
  same_least [] = refl
  same_least (r ∷ rs) = omega (arith, ints, ap (λ b. when b r.least) (same r.tail r.head), same_least rs)

  same_limited : (rs : List Route) → All (IsLimitedAcross c) rs → All (IsLimitedAcross d) rs
  same_limited rs h = λ k x l. one (get_or rs k x) (h k x l)
    where
      one : (r : Route) → IsLimitedAcross c r → IsLimitedAcross d r
      one r f k =
          f (subst IsTrue (ap (λ b. b || (r.both && d r.head r.tail)) (same r.tail r.head) ∙ ap (λ b. c r.tail r.head || (r.both && b)) (same r.head r.tail)) k)

module _ (most : ℤ) (P : Planner) (set : ℕ → Bool) where
  pub turned_send : IsBottleneck (model_of most P) set Send → IsBottleneck (model_of most P) (λ v. not (set v)) Take
  turned_send h =
      let rs = (model_of most P).routes in
      record {
        limited = same_limited (out_of set) (into (λ v. not (set v))) (λ u v. flipped (set u) (set v)) rs h.limited;
        short = omega (
          arith,
          ints,
          h.short,
          same_most (out_of set) (into (λ v. not (set v))) (λ u v. flipped (set u) (set v)) rs,
          same_least (into set) (out_of (λ v. not (set v))) (λ u v. flipped_too (set u) (set v)) rs,
          turned_supply P.places set,
        );
      }

  pub turned_take : IsBottleneck (model_of most P) set Take → IsBottleneck (model_of most P) (λ v. not (set v)) Send
  turned_take h =
      let rs = (model_of most P).routes in
      record {
        limited = same_limited (into set) (out_of (λ v. not (set v))) (λ u v. flipped_too (set u) (set v)) rs h.limited;
        short = omega (
          arith,
          ints,
          h.short,
          same_most (into set) (out_of (λ v. not (set v))) (λ u v. flipped_too (set u) (set v)) rs,
          same_least (out_of set) (into (λ v. not (set v))) (λ u v. flipped (set u) (set v)) rs,
          turned_supply P.places set,
        );
      }
