-- The laws of the figures: what one unit more saves or costs at most, and where it is just that.
use Rattle.std.proofs.Common.{◌≡◌, ◌≢◌, ℕ, zero, suc, ◌-◌, ◌<◌, eqb, Bool, true, false, List, [], ◌∷◌, length, set, get_or, refl, ap, sym, ◌∙◌, subst, arith, ℤ, pos, negsuc, ◌+ℤ◌, ◌-ℤ◌, ◌≤ℤ◌, ◌<ℤ◌, if◌then◌else◌, inl, inr}
use Rattle.std.specs.List.{All, AllZip}
use Rattle.std.proofs.Math.IntN.{◌*ℤ◌}
use Rattle.std.proofs.lemmas.Int.{ints, by_lt_z}
use Rattle.std.proofs.lemmas.Bool.{cases_eq, eq-eqb, ne_eqb}
use Rattle.std.proofs.lemmas.Grind.{get_or-set_at}
use Rattle.std.proofs.lemmas.List.{get_or-set_other, length-set}
use Rattle.std.proofs.lemmas.List.Elements.{All-head, All-set, All-tail}
use Rattle.mcf_flows.specs.Network.{IsNode, at_node, when}
use Rattle.mcf_flows.proofs.AllZips.{AllZip-at, AllZip-weaken, length-AllZip}
use Rattle.mcf_flows.proofs.IntLaws.{mul-add}
use Rattle.mcf_flows.proofs.NodeSums.{node_sum-add, node_sum-at, node_sum-same}
use Rattle.mcf_model.specs.Model.{IsSound, IsSoundRoute, MayCarry, Model, Route, arriving, leaving, plan_cost, plan_sum, route_cost}
use Rattle.mcf_model.specs.Prices.{IsBestAt, reduced_route_cost}
use Rattle.mcf_model.specs.Tables.{IsRouteNumber, no_route, route_at}
use Rattle.mcf_figures.specs.Changes.{widened, with_more_at, with_more_room, with_unit}
use Rattle.mcf_figures.specs.Figures.{AreJoined, IsLoose, IsLooseLink, Link, amount_at, gain, saving}
use Rattle.mcf_figures.specs.FigureLaws.{ExactSavingsAreReached, HasPlanAt, IsPriced, JoinedPricesAreReached, PricesAreBounds, SavingsAreBounds}
use Rattle.mcf_figures.proofs.Chains.{joined_back, made_simple, one_moved, sent}
use Rattle.mcf_figures.proofs.PlanSums.{HasPlaces, have_places, plan_sum-le, plan_sum-set, plan_sum-set_route, reduced_total, worth}
use Rattle.mcf_figures.proofs.Wider.{at_limit, moved, one_wider, saving_zero, still_may}

-- ---- lists of which one element changes

AllZip-set_both : {X Y : Type 0} (R : X → Y → Type 0) (xs : List X) (ys : List Y) (i : ℕ) (x : X) (y : Y) → AllZip R xs ys → R x y → AllZip R (set xs i x) (set ys i y)
AllZip-set_both R [] [] i x y h here = h
AllZip-set_both R [] (b ∷ ys) i x y h here = absurd h
AllZip-set_both R (a ∷ xs) [] i x y h here = absurd h
AllZip-set_both R (a ∷ xs) (b ∷ ys) zero x y h here = (here, h.1)
AllZip-set_both R (a ∷ xs) (b ∷ ys) (suc i) x y h here = (h.0, AllZip-set_both R xs ys i x y h.1 here)

AllZip-set_first : {X Y : Type 0} (R : X → Y → Type 0) (xs : List X) (ys : List Y) (i : ℕ) (x : X) (y : Y) → AllZip R xs ys → R x (get_or ys i y)
    → AllZip R (set xs i x) ys
AllZip-set_first R [] ys i x y h here = h
AllZip-set_first R (a ∷ xs) [] i x y h here = absurd h
AllZip-set_first R (a ∷ xs) (b ∷ ys) zero x y h here = (here, h.1)
AllZip-set_first R (a ∷ xs) (b ∷ ys) (suc i) x y h here = (h.0, AllZip-set_first R xs ys i x y h.1 here)

-- ---- more room

module _ (m : Model) (prices : List ℤ) (k : ℕ) (sound : IsSound m) (hk : IsRouteNumber m k) where
  abbrev n : ℕ
  n = length m.supplies

  abbrev i : ℕ
  i = k - 1

  abbrev wide : List Route
  wide = (with_more_room m k).routes

  wide_places : All (HasPlaces n) wide
  wide_places =
      let s = sound i no_route (omega (arith, hk.0, hk.1)) in
      All-set (HasPlaces n) m.routes i (widened (route_at m k)) (record { tail_is_place = s.tail_is_place; head_is_place = s.head_is_place })
      (have_places n m.routes sound)

  -- a term that doesn't see the room
  same_sum : (t : Route → ℤ → ℤ) → ((x : ℤ) → t (widened (route_at m k)) x ≡ t (route_at m k) x) → (plan : List ℤ) → plan_sum t wide plan ≡ plan_sum t m.routes plan
  same_sum t e plan = plan_sum-set_route t m.routes plan i (widened (route_at m k)) e

  same_balance : (plan : List ℤ) (v : ℕ) → leaving wide plan v -ℤ arriving wide plan v ≡ leaving m.routes plan v -ℤ arriving m.routes plan v
  same_balance plan v =
      ap (λ z. z -ℤ arriving wide plan v) (same_sum (λ r x. when (eqb r.tail v) x) (λ x. refl) plan)
      ∙ ap (λ z. leaving m.routes plan v -ℤ z) (same_sum (λ r x. when (eqb r.head v) x) (λ x. refl) plan)

sum_bound : (places : ℕ) (prices : List ℤ) (routes : List Route) (plan other : List ℤ) (i : ℕ) → All (IsSoundRoute places) routes → AllZip (IsBestAt prices) routes plan
    → i < length routes → AllZip MayCarry (set routes i (widened (get_or routes i no_route))) other
    → plan_sum (reduced_route_cost prices) routes plan
    ≤ℤ (plan_sum (reduced_route_cost prices) (set routes i (widened (get_or routes i no_route))) other +ℤ saving prices (get_or routes i no_route))
sum_bound places prices [] plan other i sound best h may = absurd (omega arith)
sum_bound places prices (r ∷ routes) [] other i sound best h may = absurd best
sum_bound places prices (r ∷ routes) (x ∷ plan) [] zero sound best h may = absurd may
sum_bound places prices (r ∷ routes) (x ∷ plan) [] (suc i) sound best h may = absurd may
sum_bound places prices (r ∷ routes) (x ∷ plan) (y ∷ other) zero sound best h may =
    omega (
      arith,
      ints,
      one_wider places prices r (All-head (IsSoundRoute places) r routes sound) x best.0 y may.0,
      plan_sum-le (IsBestAt prices) MayCarry (reduced_route_cost prices) (reduced_route_cost prices) (λ r x y b q. b.best y q) routes plan other best.1 may.1,
    )
sum_bound places prices (r ∷ routes) (x ∷ plan) (y ∷ other) (suc i) sound best h may =
    omega (
      arith,
      ints,
      (best.0).best y may.0,
      sum_bound places prices routes plan other i (All-tail (IsSoundRoute places) r routes sound) best.1 (omega arith) may.1,
    )

pub savings_are_bounds_lem : SavingsAreBounds
savings_are_bounds_lem m prices plan other k sound priced hk is =
    let n = length m.supplies in
    let mine = reduced_total n m.supplies prices m.routes plan (have_places n m.routes sound) priced.is_plan.meets_supplies in
    let its = reduced_total n m.supplies prices (with_more_room m k).routes other (wide_places m prices k sound hk) is.meets_supplies in
    let le = sum_bound n prices m.routes plan other (k - 1) sound priced.shown (omega (arith, hk.0, hk.1)) is.may_carry in
    omega (arith, ints, mine, its, le)

module _ (m : Model) (prices plan : List ℤ) (k : ℕ) (sound : IsSound m) (priced : IsPriced m prices plan) (hk : IsRouteNumber m k) where
  abbrev r : Route
  r = route_at m k

  inside : k - 1 < length m.routes
  inside = omega (arith, hk.0, hk.1)

  may : AllZip MayCarry m.routes plan
  may = AllZip-weaken (IsBestAt prices) MayCarry (λ r x b. b.may_carry) m.routes plan priced.shown

  nothing_saved : saving prices r ≡ pos 0 → HasPlanAt (with_more_room m k) (plan_cost m plan -ℤ saving prices r)
  nothing_saved none =
      record {
        plan = plan;
        is_plan = record {
          may_carry = AllZip-set_first MayCarry m.routes plan (k - 1) (widened r) (pos 0) may
              (still_may r (amount_at plan k) (AllZip-at MayCarry m.routes plan (k - 1) no_route (pos 0) may inside));
          meets_supplies = λ v h. same_balance m prices k sound hk plan v ∙ priced.is_plan.meets_supplies v h;
        };
        cost_is = same_sum m prices k sound hk route_cost (λ x. refl) plan ∙ omega (arith, ints, none);
      }

  -- the route takes one unit more, which comes back by loose routes
  one_round : (back : Bool) → (AreJoined prices m plan (if back then r.tail else r.head) (if back then r.head else r.tail)) → MayCarry (widened r) (moved back (amount_at plan k))
      → reduced_route_cost prices r (moved back (amount_at plan k)) ≡ reduced_route_cost prices r (amount_at plan k) -ℤ saving prices r
      → ((l : Link) → IsLooseLink prices m plan l → l.route ≢ k) → HasPlanAt (with_more_room m k) (plan_cost m plan -ℤ saving prices r)
  one_round back joined may_more saves apart =
      let n = length m.supplies in
      let to = if back then r.tail else r.head in
      let from = if back then r.head else r.tail in
      let simple = made_simple m (IsLooseLink prices m plan) to from joined.links joined.loose joined.chain in
      let found = sent prices m plan may to from simple.links simple.each simple.simple in
      let old = found.0 in
      let s = found.1 in
      let kept : amount_at old k ≡ amount_at plan k = s.others k hk.0 (λ j d h. apart (get_or simple.links j d) (simple.each j d h)) in
      let within : k - 1 < length old = omega (arith, inside, length-AllZip MayCarry m.routes old s.may) in
      let x = amount_at old k in
      let new = set old (k - 1) (moved back x) in
      let balance : (v : ℕ) → leaving m.routes new v -ℤ arriving m.routes new v ≡ leaving m.routes plan v -ℤ arriving m.routes plan v =
      λ v. omega (arith, ints, one_moved m.routes old (k - 1) back v inside within, s.moves v) in
      let meets : (v : ℕ) → IsNode n v → leaving (wide m prices k sound hk) new v -ℤ arriving (wide m prices k sound hk) new v ≡ at_node m.supplies v = λ v h. same_balance m prices k sound hk new v ∙ balance v ∙ priced.is_plan.meets_supplies v h in
      let sums = plan_sum-set (reduced_route_cost prices) m.routes old (k - 1) (moved back x) inside within in
      let saves' : reduced_route_cost prices r (moved back x) ≡ reduced_route_cost prices r x -ℤ saving prices r =
      subst (λ z. reduced_route_cost prices r (moved back z) ≡ reduced_route_cost prices r z -ℤ saving prices r) (sym kept) saves in
      let mine = reduced_total n m.supplies prices m.routes plan (have_places n m.routes sound) priced.is_plan.meets_supplies in
      let its = reduced_total n m.supplies prices (with_more_room m k).routes new (wide_places m prices k sound hk) meets in
      let same = same_sum m prices k sound hk (reduced_route_cost prices) (λ x. refl) new in
      record {
        plan = new;
        is_plan = record {
          may_carry = AllZip-set_both MayCarry m.routes old (k - 1) (widened r) (moved back x) s.may (subst (λ z. MayCarry (widened r) (moved back z)) (sym kept) may_more);
          meets_supplies = meets;
        };
        cost_is = omega (arith, ints, mine, its, same, sums, saves', s.same_cost);
      }

  some_saved : AreJoined prices m plan r.tail r.head → pos 0 <ℤ saving prices r → HasPlanAt (with_more_room m k) (plan_cost m plan -ℤ saving prices r)
  some_saved joined saves =
      let best = AllZip-at (IsBestAt prices) m.routes plan (k - 1) no_route (pos 0) priced.shown inside in
      let found = at_limit (length m.supplies) prices r (amount_at plan k) (sound (k - 1) no_route inside) best saves in
      let lim = found.1 in
      let apart : (l : Link) → IsLooseLink prices m plan l → l.route ≢ k =
      λ l loose e. lim.not_loose (subst (λ j. IsLoose prices (route_at m j) (amount_at plan j)) e loose.loose) in
      one_round found.0 (ends found.0) lim.may lim.saves apart
    where
      ends : (back : Bool) → AreJoined prices m plan (if back then r.tail else r.head) (if back then r.head else r.tail)
      ends true = joined
      ends false = joined_back prices m plan r.tail r.head joined

pub exact_savings_are_reached_lem : ExactSavingsAreReached
exact_savings_are_reached_lem m prices plan k sound priced hk (inl none) = nothing_saved m prices plan k sound priced hk none
exact_savings_are_reached_lem m prices plan k sound priced hk (inr joined) =
    by_lt_z (pos 0) (saving prices (route_at m k))
    (λ saves. some_saved m prices plan k sound priced hk joined saves)
    (λ none. nothing_saved m prices plan k sound priced hk (omega (arith, ints, none, saving_zero (route_at m k).last_most (gain prices (route_at m k)))))

-- ---- more supply

more_at : (supplies : List ℤ) (u : ℕ) (z : ℤ) (v : ℕ) → IsNode (length supplies) u → IsNode (length supplies) v
    → at_node (with_more_at supplies u z) v ≡ at_node supplies v +ℤ when (eqb u v) z
more_at supplies u z v hu hv =
    elim (cases_eq u v) [
      | inl e ↦ rw (eq-eqb u v e)
          (get_or-set_at supplies (u - 1) (v - 1) (at_node supplies u +ℤ z) (pos 0) (omega (arith, e)) (omega (arith, hu.0, hu.1)) ∙ ap (λ j. at_node supplies j +ℤ z) e)
      | inr ne ↦ rw (ne_eqb u v ne)
          (get_or-set_other supplies (u - 1) (v - 1) (at_node supplies u +ℤ z) (pos 0) (λ e. ne (omega (arith, e, hu.0, hv.0))) ∙ omega (arith, ints))
    ]

more_worth : (prices supplies : List ℤ) (u : ℕ) (z : ℤ) → IsNode (length supplies) u
    → worth prices (with_more_at supplies u z) (length supplies) ≡ worth prices supplies (length supplies) +ℤ at_node prices u *ℤ z
more_worth prices supplies u z hu =
    let n = length supplies in
    node_sum-same (λ v. at_node prices v *ℤ at_node (with_more_at supplies u z) v) (λ v. at_node prices v *ℤ at_node supplies v +ℤ at_node prices v *ℤ when (eqb u v) z) n
    (λ v hv. ap (λ y. at_node prices v *ℤ y) (more_at supplies u z v hu hv) ∙ mul-add (at_node prices v) (at_node supplies v) (when (eqb u v) z))
    ∙ node_sum-add (λ v. at_node prices v *ℤ at_node supplies v) (λ v. at_node prices v *ℤ when (eqb u v) z) n
    ∙ ap (λ y. worth prices supplies n +ℤ y) (node_sum-at (at_node prices) u z n hu)

when_minus : (t : Bool) → when t (negsuc 0) ≡ pos 0 -ℤ when t (pos 1)
when_minus true = refl
when_minus false = refl

module _ (m : Model) (prices : List ℤ) (u w : ℕ) (hu : IsNode (length m.supplies) u) (hw : IsNode (length m.supplies) w) where
  abbrev first : List ℤ
  first = with_more_at m.supplies u (pos 1)

  as_long : length first ≡ length m.supplies
  as_long = length-set m.supplies (u - 1) (at_node m.supplies u +ℤ pos 1)

  as_long_both : length (with_unit m u w).supplies ≡ length m.supplies
  as_long_both = length-set first (w - 1) (at_node first w +ℤ negsuc 0) ∙ as_long

  hw' : IsNode (length first) w
  hw' = (hw.0, omega (arith, hw.1, as_long))

  unit_worth : worth prices (with_unit m u w).supplies (length m.supplies) ≡ worth prices m.supplies (length m.supplies) +ℤ (at_node prices u -ℤ at_node prices w)
  unit_worth =
      let second = subst (λ n. worth prices (with_unit m u w).supplies n ≡ worth prices first n +ℤ at_node prices w *ℤ negsuc 0) as_long (more_worth prices first w (negsuc 0) hw') in
      omega (arith, ints, more_worth prices m.supplies u (pos 1) hu, second)

  unit_supply : (v : ℕ) → IsNode (length m.supplies) v
      → at_node (with_unit m u w).supplies v ≡ at_node m.supplies v +ℤ when (eqb u v) (pos 1) -ℤ when (eqb w v) (pos 1)
  unit_supply v hv =
      omega (
        arith,
        ints,
        more_at first w (negsuc 0) v hw' (hv.0, omega (arith, hv.1, as_long)),
        more_at m.supplies u (pos 1) v hu hv,
        when_minus (eqb w v),
      )

pub prices_are_bounds_lem : PricesAreBounds
prices_are_bounds_lem m prices plan other u w sound priced hu hw is =
    let n = length m.supplies in
    let places = have_places n m.routes sound in
    let mine = reduced_total n m.supplies prices m.routes plan places priced.is_plan.meets_supplies in
    let its = reduced_total n (with_unit m u w).supplies prices m.routes other places
    (λ v h. is.meets_supplies v (h.0, omega (arith, h.1, as_long_both m prices u w hu hw))) in
    let le = plan_sum-le (IsBestAt prices) MayCarry (reduced_route_cost prices) (reduced_route_cost prices) (λ r x y b q. b.best y q) m.routes plan other priced.shown is.may_carry in
    omega (arith, ints, mine, its, le, unit_worth m prices u w hu hw)

pub joined_prices_are_reached_lem : JoinedPricesAreReached
joined_prices_are_reached_lem m prices plan u w sound priced hu hw joined =
    let n = length m.supplies in
    let places = have_places n m.routes sound in
    let may = AllZip-weaken (IsBestAt prices) MayCarry (λ r x b. b.may_carry) m.routes plan priced.shown in
    let simple = made_simple m (IsLooseLink prices m plan) u w joined.links joined.loose joined.chain in
    let found = sent prices m plan may u w simple.links simple.each simple.simple in
    let new = found.0 in
    let s = found.1 in
    let meets : (v : ℕ) → IsNode n v → leaving m.routes new v -ℤ arriving m.routes new v ≡ at_node (with_unit m u w).supplies v =
    λ v h. omega (arith, ints, s.moves v, priced.is_plan.meets_supplies v h, unit_supply m prices u w hu hw v h) in
    let mine = reduced_total n m.supplies prices m.routes plan places priced.is_plan.meets_supplies in
    let its = reduced_total n (with_unit m u w).supplies prices m.routes new places meets in
    record {
      plan = new;
      is_plan = record {
        may_carry = s.may;
        meets_supplies = λ v h. meets v (h.0, omega (arith, h.1, as_long_both m prices u w hu hw));
      };
      cost_is = omega (arith, ints, mine, its, s.same_cost, unit_worth m prices u w hu hw);
    }
