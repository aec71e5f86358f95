-- What distances in the residual network of a plan say of a dearer route.
use Rattle.std.proofs.Common.{◌≡◌, ℕ, zero, suc, ◌-◌, ◌<◌, Bool, true, false, eqb, List, [], ◌∷◌, length, length-set, set, get_or, ap, sym, ◌∙◌, subst, refl, arith, ℤ, pos, ◌+ℤ◌, ◌-ℤ◌, ◌≤ℤ◌, ◌<ℤ◌, inl, inr}
use Rattle.std.specs.Prelude.{Option, Some, None, IfSome, replicate}
use Rattle.std.specs.List.{All}
use Rattle.std.proofs.Math.IntN.{◌*ℤ◌}
use Rattle.std.proofs.lemmas.Grind.{get_or-set_at}
use Rattle.std.proofs.lemmas.Int.{ints, by_lt_z}
use Rattle.std.proofs.lemmas.List.{length-replicate}
use Rattle.std.proofs.lemmas.List.Elements.{All-cons, All-set}
use Rattle.mcf_flows.specs.declared.arc.Arc.{Arc}
use Rattle.mcf_flows.specs.Flow.{IsComplementary, IsFeasible, IsLeast, Shows, cost, reduced_cost}
use Rattle.mcf_flows.specs.Network.{IsNode, Network, node_count, when}
use Rattle.mcf_flows.specs.WellFormed.{HasEnds}
use Rattle.mcf_flows.proofs.AllZips.{AllZip-at, length-AllZip}
use Rattle.mcf_flows.proofs.Duality.{shown_flows_are_least_lem}
use Rattle.mcf_flows.proofs.IntLaws.{mul-one, mul-zero}
use Rattle.mcf_network.proofs.StateLaws.{when-sub, when-zero}
use Rattle.mcf_figures.specs.Figures.{amount_at, may_carry}
use Rattle.mcf_figures.proofs.PlanSums.{HasPlaces, have_places, reduced_total}
use Rattle.mcf_model.specs.Model.{IsLeastPlan, IsPlan, IsSound, IsSoundRoute, MayCarry, Model, Route, plan_cost, route_cost}
use Rattle.mcf_model.specs.Prices.{IsBestAt, ShowsPlan, reduced_route_cost}
use Rattle.mcf_model.specs.Tables.{IsRouteNumber, no_route, route_at}
use Rattle.mcf_plan_ranges.specs.Changes.{dearer, with_dearer}
use Rattle.mcf_plan_ranges.specs.PlanRanges.{IsPlanRange}
use Rattle.mcf_plan_ranges.specs.Private.Sides.{IsFloor, IsOnSide, IsSideRange, grows, meet, one_sided}
use Rattle.mcf_plan_ranges.specs.Private.Units.{begins, ends, next, others, residual, still, unit_arc}
use Rattle.mcf_plan_ranges.proofs.Convex.{may_between, no_less_above, no_less_below, reduced_convex}
use Rattle.mcf_plan_ranges.proofs.Dearer.{both_in, in_both, may_still, next_cost, one_sided_from, one_sided_to, shifted}
use Rattle.mcf_plan_ranges.proofs.DearerModels.{dearer_plan, plan_before}
use Rattle.mcf_plan_ranges.proofs.UnitLaws.{it_may, may_passes, moved_others, none_flows, next_no_less, others_all, others_moved, others_no_less, others_still, shown_costs, shown_others, shown_unit, still_sum, unit_flow, unit_reduced}
use Rattle.mcf_ranges.specs.declared.range.CostRange.{CostRange}
use Rattle.mcf_ranges.specs.Ranges.{IsCostRange, IsInRange, IsShownInRange, with_cost}

-- ---- lists

zeros_at : (n j : ℕ) → get_or (replicate n (pos 0)) j (pos 0) ≡ pos 0
zeros_at zero j = refl
zeros_at (suc n) zero = refl
zeros_at (suc n) (suc j) = zeros_at n j

unit_ends : (n : ℕ) (r : Route) (x : ℤ) (less : Bool) → IsSoundRoute n r → HasEnds n (unit_arc less r x)
unit_ends n r x false h = record { src_is_node = h.tail_is_place; dst_is_node = h.head_is_place }
unit_ends n r x true h = record { src_is_node = h.head_is_place; dst_is_node = h.tail_is_place }

if_weaker : (o : Option ℤ) (P Q : ℤ → Type 0) → ((z : ℤ) → P z → Q z) → IfSome o P → IfSome o Q
if_weaker None P Q e h = tt
if_weaker (Some z) P Q e h = e z h

-- ---- one unit on a route

-- the amount with a part of a unit more, or less
abbrev along : Bool → ℤ → ℤ → ℤ
along false x z = x +ℤ z
along true x z = x -ℤ z

along_none : (less : Bool) (x z : ℤ) → z ≡ pos 0 → along less x z ≡ x
along_none false x z e = omega (arith, ints, e)
along_none true x z e = omega (arith, ints, e)

along_one : (less : Bool) (x z : ℤ) → z ≡ pos 1 → along less x z ≡ next less x
along_one false x z e = omega (arith, ints, e)
along_one true x z e = omega (arith, ints, e)

-- what that does at a place
along_nets : (less : Bool) (r : Route) (x z : ℤ) (v : ℕ)
    → when (eqb r.tail v) (along less x z -ℤ x) -ℤ when (eqb r.head v) (along less x z -ℤ x) ≡ when (eqb (begins less r) v) z -ℤ when (eqb (ends less r) v) z
along_nets false r x z v =
    let e : (x +ℤ z) -ℤ x ≡ z = omega (arith, ints) in
    omega (arith, ints, ap (when (eqb r.tail v)) e, ap (when (eqb r.head v)) e)
along_nets true r x z v =
    let e : (x -ℤ z) -ℤ x ≡ pos 0 -ℤ z = omega (arith, ints) in
    let a = ap (when (eqb r.tail v)) e ∙ when-sub (eqb r.tail v) (pos 0) z in
    let b = ap (when (eqb r.head v)) e ∙ when-sub (eqb r.head v) (pos 0) z in
    omega (arith, ints, a, b, when-zero (eqb r.tail v), when-zero (eqb r.head v))

-- the arc of a unit at the cost of another route between the same ends
abbrev repriced : Bool → Route → ℤ → ℤ → Arc
repriced less r x c = record (unit_arc less r x) { cost = c }

repriced_reduced : (q : List ℤ) (d : ℤ) (r : Route) (x : ℤ) (less : Bool)
    → reduced_cost q (repriced less r x (route_cost (dearer d r) (next less x) -ℤ route_cost (dearer d r) x))
    ≡ reduced_route_cost q (dearer d r) (next less x) -ℤ reduced_route_cost q (dearer d r) x
repriced_reduced q d r x false = unit_reduced q (dearer d r) x false
repriced_reduced q d r x true = unit_reduced q (dearer d r) x true

module _ (m : Model) (plan p : List ℤ) (k : ℕ) (sound : IsSound m) (is_plan : IsPlan m plan) (shown : ShowsPlan m.routes p plan) (hk : IsRouteNumber m k) where
  abbrev n : ℕ
  n = length m.supplies

  abbrev i : ℕ
  i = k - 1

  abbrev r : Route
  r = route_at m k

  abbrev x : ℤ
  x = amount_at plan k

  inside : i < length m.routes
  inside = omega (arith, hk.0, hk.1)

  long : length m.routes ≡ length plan
  long = length-AllZip MayCarry m.routes plan is_plan.may_carry

  sound_r : IsSoundRoute n r
  sound_r = sound i no_route inside

  may_x : MayCarry r x
  may_x = AllZip-at MayCarry m.routes plan i no_route (pos 0) is_plan.may_carry inside

  -- ---- the model with a dearer route

  abbrev dear : ℤ → List Route
  dear d = set m.routes i (dearer d r)

  places_of : (d : ℤ) → All (HasPlaces n) (dear d)
  places_of d =
      All-set (HasPlaces n) m.routes i (dearer d r) (record { tail_is_place = sound_r.tail_is_place; head_is_place = sound_r.head_is_place })
      (have_places n m.routes sound)

  -- prices that show the other routes, and one unit on this route, show the plan beside all plans
  -- on that side
  abbrev ShowsUnit : Bool → List ℤ → ℤ → Type 0
  ShowsUnit less q d = MayCarry r (next less x) → reduced_route_cost q (dearer d r) x ≤ℤ reduced_route_cost q (dearer d r) (next less x)

  best_here : (less : Bool) (q : List ℤ) (d y : ℤ) → IsSoundRoute n (dearer d r) → MayCarry r y → IsOnSide less x y → ShowsUnit less q d
      → reduced_route_cost q (dearer d r) x ≤ℤ reduced_route_cost q (dearer d r) y
  best_here false q d y sd my on unit =
      no_less_above (reduced_route_cost q (dearer d r)) (reduced_convex q n (dearer d r) sd) x y on
      (λ h. unit (may_between n r x (x +ℤ pos 1) y sound_r (omega (arith, ints)) (omega (arith, ints, h)) may_x my))
  best_here true q d y sd my on unit =
      no_less_below (reduced_route_cost q (dearer d r)) (reduced_convex q n (dearer d r) sd) x y on
      (λ h. unit (may_between n r y (x -ℤ pos 1) x sound_r (omega (arith, ints, h)) (omega (arith, ints)) my may_x))

  no_dearer : (less : Bool) (q : List ℤ) (d : ℤ) (other : List ℤ) → Shows (others i m.routes plan) q (still (others i m.routes plan)) → ShowsUnit less q d
      → IsSoundRoute n (dearer d r) → IsPlan m other → IsOnSide less x (amount_at other k)
      → plan_cost (with_dearer m k d) plan ≤ℤ plan_cost (with_dearer m k d) other
  no_dearer less q d other shows unit sd po on =
      let my = AllZip-at MayCarry m.routes other i no_route (pos 0) po.may_carry inside in
      let le = others_no_less q n i (dearer d r) m.routes plan other inside sound is_plan.may_carry po.may_carry shows
      (best_here less q d (amount_at other k) sd my on unit) in
      let mine = reduced_total n m.supplies q (dear d) plan (places_of d) (dearer_plan m k d plan hk is_plan).meets_supplies in
      let its = reduced_total n m.supplies q (dear d) other (places_of d) (dearer_plan m k d other hk po).meets_supplies in
      omega (arith, ints, le, mine, its)

  -- by the plan's own prices
  own_shows : Shows (others i m.routes plan) p (still (others i m.routes plan))
  own_shows = shown_others p i m.routes plan inside shown

  own_unit : (less : Bool) → IsComplementary p (unit_arc less r x) (pos 0)
  own_unit less = shown_unit p r x less (AllZip-at (IsBestAt p) m.routes plan i no_route (pos 0) shown inside)

  -- ---- the residual network

  module _ (less : Bool) where
    abbrev g : Network
    g = residual m plan k less

    abbrev c : ℤ
    c = (unit_arc less r x).cost

    -- the cost of the unit on the dearer route
    abbrev c' : ℤ → ℤ
    c' d = route_cost (dearer d r) (next less x) -ℤ route_cost (dearer d r) x

    c'_is : (d : ℤ) → c' d ≡ shifted (grows r.both less x) c d
    c'_is d = next_cost d r less x

    pub still_feasible : IsFeasible g (still g.arcs)
    still_feasible =
        record {
          within_bounds = (none_flows (unit_arc less r x) refl (may_carry r (next less x)) refl, others_still i m.routes plan inside long);
          meets_supplies = λ v h.
              let out = still_sum (λ a f. when (eqb a.src v) f) (λ a. when-zero (eqb a.src v)) g.arcs in
              let into = still_sum (λ a f. when (eqb a.dst v) f) (λ a. when-zero (eqb a.dst v)) g.arcs in
              omega (arith, ints, out, into, zeros_at n (v - 1));
        }

    pub own_shown : Shows g.arcs p (still g.arcs)
    own_shown = (own_unit less, own_shows)

    pub residual_ends : All (HasEnds (node_count g)) g.arcs
    residual_ends =
        subst (λ count. All (HasEnds count) g.arcs) (sym (length-replicate n (pos 0)))
        (All-cons (HasEnds n) (unit_arc less r x) (others i m.routes plan) (unit_ends n r x less sound_r)
        (others_all (IsSoundRoute n) (HasEnds n) (λ s y l h. unit_ends n s y l h) i m.routes plan inside long sound))

    own_least : IsLeast g (still g.arcs)
    own_least = shown_flows_are_least_lem g p (still g.arcs) residual_ends still_feasible own_shown

    -- a flow of 1 at most on the route's arc makes another plan
    module _ (d : ℤ) (least : IsLeastPlan (with_dearer m k d) plan) where
      abbrev priced : Network
      priced = with_cost g 1 (c' d)

      zero_cost : (f : ℤ) → f ≡ pos 0 → route_cost (dearer d r) (along less x f) ≤ℤ (route_cost (dearer d r) x +ℤ c' d *ℤ f)
      zero_cost f e =
          let a = ap (route_cost (dearer d r)) (along_none less x f e) in
          let b = ap (λ z. c' d *ℤ z) e ∙ mul-zero (c' d) in
          omega (arith, ints, a, b)

      one_cost : (f : ℤ) → f ≡ pos 1 → route_cost (dearer d r) (along less x f) ≤ℤ (route_cost (dearer d r) x +ℤ c' d *ℤ f)
      one_cost f e =
          let a = ap (route_cost (dearer d r)) (along_one less x f e) in
          let b = ap (λ z. c' d *ℤ z) e ∙ mul-one (c' d) in
          omega (arith, ints, a, b)

      costs_no_less : (f : ℤ) (flow : List ℤ) → MayCarry r (along less x f)
          → route_cost (dearer d r) (along less x f) ≤ℤ (route_cost (dearer d r) x +ℤ c' d *ℤ f) → IsFeasible priced (f ∷ flow)
          → pos 0 ≤ℤ (c' d *ℤ f +ℤ cost (others i m.routes plan) flow)
      costs_no_less f flow may le feasible =
          let w = along less x f in
          let turned = others_moved n i (dearer d r) w (c' d *ℤ f) m.routes plan flow inside sound is_plan.may_carry feasible.within_bounds.1
          (may_still d r w may) le in
          let other = moved_others i w plan flow in
          let its : IsPlan (with_dearer m k d) other = record {
            may_carry = turned.may;
            meets_supplies = λ v h.
                let before = least.is_plan.meets_supplies v h in
                let nets = turned.nets v in
                let here = along_nets less r x f v in
                let node : IsNode (node_count priced) v = (h.0, omega (arith, h.1, length-replicate n (pos 0))) in
                let none = feasible.meets_supplies v node in
                omega (arith, ints, before, nets, here, none, zeros_at n (v - 1));
          } in
          let no_less = least.least other its in
          let costs = turned.costs in
          omega (arith, ints, no_less, costs)

      still_cost : cost priced.arcs (still g.arcs) ≡ pos 0
      still_cost = still_sum (λ a f. a.cost *ℤ f) (λ a. mul-zero a.cost) priced.arcs

      priced_least : IsLeast priced (still g.arcs)
      priced_least =
          record {
            feasible = record { within_bounds = still_feasible.within_bounds; meets_supplies = still_feasible.meets_supplies };
            least = λ flow feasible. go flow feasible;
          }
        where
          go : (flow : List ℤ) → IsFeasible priced flow → cost priced.arcs (still g.arcs) ≤ℤ cost priced.arcs flow
          go [] feasible = absurd feasible.within_bounds
          go (f ∷ flow) feasible =
              let here = feasible.within_bounds.0 in
              elim (unit_flow (may_carry r (next less x)) f here.0 here.1) [
                | inl e ↦
                    (let le = costs_no_less f flow (subst (MayCarry r) (sym (along_none less x f e)) may_x) (zero_cost f e) feasible in
                    omega (arith, ints, le, still_cost))
                | inr (e, t) ↦
                    (let le = costs_no_less f flow (subst (MayCarry r) (sym (along_one less x f e)) (it_may r (next less x) t)) (one_cost f e) feasible in
                    omega (arith, ints, le, still_cost))
              ]

    -- ---- the side

    -- where the route may not carry the unit, each change keeps the plan least
    pub free_side : ¬ MayCarry r (next less x) → IsSideRange m plan k less (record { down = None; up = None })
    free_side never =
        record {
          kept = λ d other h sd po on. no_dearer less p d other own_shows (λ may. absurd (never may)) sd po on;
          least = λ d least. (tt, tt);
        }

    pub shown_side : (range : CostRange) → MayCarry r (next less x) → IsCostRange g (still g.arcs) 1 range → IsShownInRange g (still g.arcs) 1 range
        → IsSideRange m plan k less (one_sided (grows r.both less x) range.down)
    shown_side range may exact in_range =
        record {
          kept = λ d other h sd po on. keeps d other (one_sided_to (grows r.both less x) range.down c d h) sd po on;
          least = λ d least.
              let is = ((exact (c' d)).1 (priced_least d least)).0 in
              one_sided_from (grows r.both less x) range.down c d (subst (λ z. IfSome range.down (λ y. (c -ℤ y) ≤ℤ z)) (c'_is d) is);
        }
      where
        -- the cost of the unit falls
        falls : (d : ℤ) → IfSome range.down (λ z. (c -ℤ z) ≤ℤ c' d) → c' d <ℤ c → IsInRange c range (c' d)
        falls d down less_ =
            (down, if_weaker range.up (λ u. c ≤ℤ (c +ℤ u)) (λ u. c' d ≤ℤ (c +ℤ u)) (λ u h. omega (arith, ints, h, less_)) ((exact c).1 own_least).1)

        keeps : (d : ℤ) (other : List ℤ) → IfSome range.down (λ z. (c -ℤ z) ≤ℤ shifted (grows r.both less x) c d) → IsSoundRoute n (dearer d r) → IsPlan m other
            → IsOnSide less x (amount_at other k) → plan_cost (with_dearer m k d) plan ≤ℤ plan_cost (with_dearer m k d) other
        keeps d other down sd po on =
            by_lt_z (c' d) c
            (λ fallen.
            let prices = in_range (c' d) (falls d (subst (λ z. IfSome range.down (λ y. (c -ℤ y) ≤ℤ z)) (sym (c'_is d)) down) fallen) in
            let q = prices.0 in
            let shows = prices.1 in
            no_dearer less q d other shows.1
            (λ its.
            let le = shown_costs q (repriced less r x (c' d)) (may_carry r (next less x)) refl shows.0 (may_passes r (next less x) its) in
            omega (arith, ints, le, repriced_reduced q d r x less)) sd po on)
            (λ risen.
            no_dearer less p d other own_shows
            (λ its.
            let le = next_no_less p r x less (own_unit less) its in
            let a = unit_reduced p r x less in
            let b = repriced_reduced p d r x less in
            omega (arith, ints, le, a, b, risen)) sd po on)

  -- ---- both sides

  sound_of : (d : ℤ) → IsSoundRoute n (dearer d r) → IsSound (with_dearer m k d)
  sound_of d h = All-set (IsSoundRoute n) m.routes i (dearer d r) h sound

  sound_from : (d : ℤ) → IsSound (with_dearer m k d) → IsSoundRoute n (dearer d r)
  sound_from d h =
      subst (IsSoundRoute n) (get_or-set_at m.routes i i (dearer d r) no_route refl inside)
      (h i no_route (omega (arith, inside, length-set m.routes i (dearer d r))))

  pub is_plan_range : (more less floor : CostRange) → IsSideRange m plan k false more → IsSideRange m plan k true less → IsFloor n r floor
      → IsPlanRange m plan k (meet (meet more less) floor)
  is_plan_range more less floor on_more on_less is_floor d = ((λ h. go h), (λ h. back h))
    where
      go : IsInRange (pos 0) (meet (meet more less) floor) d → IsSound (with_dearer m k d) × IsLeastPlan (with_dearer m k d) plan
      go h =
          let outer = in_both (meet more less) floor d h in
          let sides = in_both more less d outer.0 in
          let sd = (is_floor d).0 outer.1 in (
            sound_of d sd,
            record {
              is_plan = dearer_plan m k d plan hk is_plan;
              least = λ other po.
                  let its = plan_before m k d other hk po in
                  by_lt_z x (amount_at other k)
                  (λ above. on_more.kept d other sides.0 sd its (omega (arith, ints, above)))
                  (λ below. on_less.kept d other sides.1 sd its below);
            },
          )

      back : IsSound (with_dearer m k d) × IsLeastPlan (with_dearer m k d) plan → IsInRange (pos 0) (meet (meet more less) floor) d
      back h =
          both_in (meet more less) floor d (both_in more less d (on_more.least d h.1) (on_less.least d h.1)) ((is_floor d).1 (sound_from d h.0))
