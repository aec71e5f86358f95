-- From what is told of units between the ends of a route to what is told of its room.
use Rattle.std.proofs.Common.{◌≡◌, ℕ, zero, suc, ◌-◌, ◌<◌, eqb, List, [], ◌∷◌, length, map, set, get_or, refl, ap, sym, ◌∙◌, subst, arith, ℤ, pos, ◌+ℤ◌, ◌-ℤ◌, ◌≤ℤ◌, ◌<ℤ◌}
use Rattle.std.specs.Prelude.{Option, Some, None, IfOk, IfSome, Result, Ok, Err, ◌↔◌, option_map}
use Rattle.std.specs.List.{AllZip}
use Rattle.std.proofs.Math.IntN.{◌*ℤ◌}
use Rattle.std.proofs.lemmas.Int.{ints, clamps, by_lt_z}
use Rattle.mcf_flows.specs.Network.{IsNode, when}
use Rattle.mcf_flows.proofs.AllZips.{AllZip-at}
use Rattle.mcf_flows.proofs.IntLaws.{mul-zero, one-mul}
use Rattle.mcf_model.specs.declared.rows.Step.{Step}
use Rattle.mcf_model.specs.Model.{Fits, IsSound, MayCarry, Model, Route, charged, plan_cost, route_cost}
use Rattle.mcf_model.specs.Scaling.{scaled, scaled_route, scaled_step}
use Rattle.mcf_model.specs.Tables.{IsRouteNumber, no_route, route_at}
use Rattle.mcf_figures.specs.Figures.{gain, saving, saving_if}
use Rattle.mcf_figures.specs.FigureLaws.{HasPlanAt, IsPriced}
use Rattle.mcf_figures.proofs.PlanSums.{plan_sum-set_route}
use Rattle.mcf_unit_ranges.specs.declared.ranging.UnitsRange.{UnitsRange}
use Rattle.mcf_unit_ranges.specs.Changes.{wider, with_room}
use Rattle.mcf_unit_ranges.specs.Spans.{directed}
use Rattle.mcf_unit_ranges.specs.Told.{IsRangeAt, IsRoomRangeAt}
use Rattle.mcf_unit_ranges.proofs.RoomUnits.{room_is_units_lem, room_more}
use Rattle.mcf_unit_ranges.proofs.SpanPlans.{net_self, span_sound}

-- ---- units of size 1 are the units

steps_one : (steps : List Step) → map (scaled_step (pos 1)) steps ≡ steps
steps_one [] = refl
steps_one (s ∷ steps) =
    ap (λ (z : ℤ). record { most = z; cost = s.cost } ∷ map (scaled_step (pos 1)) steps) (one-mul s.most) ∙ ap (λ ss. s ∷ ss) (steps_one steps)

limit_one : (o : Option ℤ) → option_map (λ m. pos 1 *ℤ m) o ≡ o
limit_one (Some m) = ap Some (one-mul m)
limit_one None = refl

route_one : (r : Route) → scaled_route (pos 1) r ≡ r
route_one r =
    ap (λ l. record r { least = l; steps = map (scaled_step (pos 1)) r.steps; last_most = option_map (λ m. pos 1 *ℤ m) r.last_most }) (one-mul r.least)
    ∙ ap (λ ss. record r { steps = ss; last_most = option_map (λ m. pos 1 *ℤ m) r.last_most }) (steps_one r.steps)
    ∙ ap (λ o. record r { last_most = o }) (limit_one r.last_most)

routes_one : (routes : List Route) → map (scaled_route (pos 1)) routes ≡ routes
routes_one [] = refl
routes_one (r ∷ routes) = ap (λ q. q ∷ map (scaled_route (pos 1)) routes) (route_one r) ∙ ap (λ rs. r ∷ rs) (routes_one routes)

supplies_one : (xs : List ℤ) → map (λ z. pos 1 *ℤ z) xs ≡ xs
supplies_one [] = refl
supplies_one (x ∷ xs) = ap (λ z. z ∷ map (λ z. pos 1 *ℤ z) xs) (one-mul x) ∙ ap (λ zs. x ∷ zs) (supplies_one xs)

scaled_one : (m : Model) → scaled (pos 1) m ≡ m
scaled_one m =
    ap (λ (xs : List ℤ). record { supplies = xs; routes = map (scaled_route (pos 1)) m.routes }) (supplies_one m.supplies)
    ∙ ap (λ (rs : List Route). record { supplies = m.supplies; routes = rs }) (routes_one m.routes)

-- ---- room that saves nothing

AllZip-set_first : {X Y : Type 0} (R : X → Y → Type 0) (xs : List X) (ys : List Y) (i : ℕ) (x : X) (y : Y) → AllZip R xs ys → R x (get_or ys i y)
    → AllZip R (set xs i x) ys
AllZip-set_first R [] ys i x y h here = h
AllZip-set_first R (a ∷ xs) [] i x y h here = absurd h
AllZip-set_first R (a ∷ xs) (b ∷ ys) zero x y h here = (here, h.1)
AllZip-set_first R (a ∷ xs) (b ∷ ys) (suc i) x y h here = (h.0, AllZip-set_first R xs ys i x y h.1 here)

still_fits : (d : ℤ) (steps : List Step) (o : Option ℤ) (x : ℤ) → pos 0 ≤ℤ d → Fits steps o x → Fits steps (option_map (λ y. y +ℤ d) o) x
still_fits d steps (Some m) x d0 h = omega (arith, ints, h, d0, room_more steps m d)
still_fits d steps None x d0 h = tt

saving_at_least : (o : Option ℤ) (z : ℤ) → pos 0 ≤ℤ saving_if o z
saving_at_least (Some m) z = omega (arith, ints, clamps)
saving_at_least None z = omega (arith, ints)

module _ (m : Model) (prices : List ℤ) (k : ℕ) (hk : IsRouteNumber m k) where
  abbrev r : Route
  r = route_at m k

  inside : k - 1 < length m.routes
  inside = omega (arith, hk.0, hk.1)

  same_plan : (plan : List ℤ) (d : ℤ) → IsPriced m prices plan → pos 0 ≤ℤ d → HasPlanAt (with_room m k d) (plan_cost m plan)
  same_plan plan d priced d0 =
      let may = priced.is_plan.may_carry in
      let here = AllZip-at MayCarry m.routes plan (k - 1) no_route (pos 0) may inside in
      let x = get_or plan (k - 1) (pos 0) in
      let routes = (with_room m k d).routes in
      record {
        plan = plan;
        is_plan = record {
          may_carry = AllZip-set_first MayCarry m.routes plan (k - 1) (wider d r) (pos 0) may
              (record { enough = here.enough; fits = still_fits d r.steps r.last_most (charged r.both x) d0 here.fits });
          meets_supplies = λ v h.
              net_self routes plan v
              ∙ plan_sum-set_route (λ q y. when (eqb q.tail v) y -ℤ when (eqb q.head v) y) m.routes plan (k - 1) (wider d r) (λ y. refl)
              ∙ sym (net_self m.routes plan v) ∙ priced.is_plan.meets_supplies v h;
        };
        cost_is = plan_sum-set_route route_cost m.routes plan (k - 1) (wider d r) (λ y. refl);
      }

  pub nothing_saved : ¬ (pos 0 <ℤ saving prices r) → IsRoomRangeAt m prices k None
  nothing_saved none plan priced d d0 =
      let zero_saving : saving prices r ≡ pos 0 = go (by_lt_z (pos 0) (saving prices r) (λ some. absurd (none some)) (λ low. low)) in
      let total : pos 1 *ℤ (plan_cost m plan -ℤ d *ℤ saving prices r) ≡ plan_cost m plan =
      omega (arith, ints, one-mul (plan_cost m plan -ℤ d *ℤ saving prices r), ap (λ z. d *ℤ z) zero_saving, mul-zero d) in (
        (λ h. tt),
        (λ t. record {
          finer = pos 1;
          is_finer = omega (arith, ints);
          reached = subst (λ c. HasPlanAt (scaled (pos 1) (with_room m k d)) c) (sym total)
              (subst (λ w. HasPlanAt w (plan_cost m plan)) (sym (scaled_one (with_room m k d))) (same_plan plan d priced d0));
        }),
      )
    where
      go : saving prices r ≤ℤ pos 0 → saving prices r ≡ pos 0
      go low = omega (arith, ints, low, saving_at_least r.last_most (gain prices r))

  -- ---- room that saves something

  module _ (sound : IsSound m) where
    pub head_node : IsNode (length m.supplies) (directed prices r).head
    head_node = (span_sound (length m.supplies) prices r (sound (k - 1) no_route inside)).head_is_place

    pub tail_node : IsNode (length m.supplies) (directed prices r).tail
    tail_node = (span_sound (length m.supplies) prices r (sound (k - 1) no_route inside)).tail_is_place

    pub units_saved : (o : Option ℤ) → pos 0 <ℤ saving prices r → IsRangeAt m prices (directed prices r).head (directed prices r).tail o → IsRoomRangeAt m prices k o
    units_saved o some range plan priced d d0 =
        let law = room_is_units_lem m prices plan k d sound priced hk some d0 in
        let its = range plan priced d d0 in ((λ s. its.0 (law.0 s)), (λ le. law.1 (its.1 le)))

-- ---- as the code has it

pub saves_iff : (o : Option ℤ) (top z : ℤ) (A : Type 0) → o ≡ Some top → A ↔ (pos 0 <ℤ z) → A ↔ (pos 0 <ℤ saving_if o z)
saves_iff o top z A e h = subst (λ p. A ↔ (pos 0 <ℤ saving_if p z)) (sym e) (
  (λ a. let some = h.0 a in omega (arith, ints, clamps, some)),
  (λ some. h.1 (omega (arith, ints, clamps, some))),
)

pub range_ok : {E : Type 0} (found : Result (Option UnitsRange) E) (P Q : Option ℤ → Type 0) → ((o : Option ℤ) → P o → Q o)
    → IfOk found (λ told. IfSome told (λ range. P range.most)) → IfOk found (λ told. IfSome told (λ range. Q range.most))
range_ok (Ok (Some range)) P Q f h = f range.most h
range_ok (Ok None) P Q f h = tt
range_ok (Err e) P Q f h = tt
