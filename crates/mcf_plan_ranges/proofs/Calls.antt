-- What the calls of this crate say, put together.
use Rattle.std.proofs.Common.{◌≡◌, ℕ, ◌-◌, Bool, true, false, List, length, map, ap, sym, ◌∙◌, subst, arith, ℤ, pos, Option, Some, None, Result, Ok, Err, is_ok}
use Rattle.std.specs.Prelude.{replicate}
use Rattle.std.proofs.lemmas.List.{length-replicate}
use Rattle.mcf_flows.specs.Flow.{IsFeasible, Shows}
use Rattle.mcf_flows.specs.Limits.{limits}
use Rattle.mcf_flows.specs.Network.{Network, node_count}
use Rattle.mcf_flows.specs.WellFormed.{IsUpTo, IsWellFormed}
use Rattle.mcf_flows.proofs.AllZips.{length-AllZip}
use Rattle.mcf_figures.specs.Figures.{amount_at, figure_limit, may_carry}
use Rattle.mcf_instance.specs.declared.arrays.ArrayFault.{ArrayFault}
use Rattle.mcf_instance.specs.declared.arrays.RawArc.{RawArc}
use Rattle.mcf_instance.specs.Arrays.{arc_of_numbers, flow_problem, made_of_arrays, made_unless}
use Rattle.mcf_model.specs.Model.{IsPlan, IsSound, MayCarry, Model, Route}
use Rattle.mcf_model.specs.Prices.{ShowsPlan}
use Rattle.mcf_model.specs.Tables.{IsRouteNumber, route_at}
use Rattle.mcf_plan_ranges.specs.PlanRanges.{AreWithinLimits}
use Rattle.mcf_plan_ranges.specs.Private.Sides.{IsSideRange, grows, one_sided}
use Rattle.mcf_plan_ranges.specs.Private.Units.{next, residual, still}
use Rattle.mcf_plan_ranges.proofs.Making.{residual_well_formed}
use Rattle.mcf_plan_ranges.proofs.SideLaws.{free_side, own_shown, residual_ends, shown_side, still_feasible}
use Rattle.mcf_plan_ranges.proofs.UnitLaws.{it_may, may_passes}
use Rattle.mcf_ranges.specs.declared.range.CostRange.{CostRange}
use Rattle.mcf_ranges.specs.Ranges.{IsCostRange, IsShownInRange}

-- a plan has an amount for each route
pub one_each : (m : Model) (plan : List ℤ) → IsPlan m plan → length plan ≡ length m.routes
one_each m plan h = sym (length-AllZip MayCarry m.routes plan h.may_carry)

pub small_amount : (m : Model) (prices plan : List ℤ) (k : ℕ) → IsPlan m plan → AreWithinLimits m prices plan → IsRouteNumber m k
    → IsUpTo figure_limit (amount_at plan k)
small_amount m prices plan k is_plan within hk =
    within.amounts_small (k - 1) (pos 0) (omega (arith, hk.0, hk.1, one_each m plan is_plan))

-- ---- the instance

made_is : (o : Option ArrayFault) (g made : Network) → Ok made ≡ made_unless o g → made ≡ g
made_is None g made e = cc e
made_is (Some fault) g made e = cc e

module _ (m : Model) (prices plan : List ℤ) (k : ℕ) (less : Bool) where
  abbrev g : Network
  g = residual m plan k less

  pub problem_is : (arcs : List RawArc) (supplies : List ℤ) → map arc_of_numbers arcs ≡ g.arcs → supplies ≡ replicate (length m.supplies) (pos 0)
      → flow_problem supplies arcs ≡ g
  problem_is arcs supplies are zeros = ap (λ s. flow_problem s arcs) zeros ∙ ap (λ a. record g { arcs = a }) are

  pub instance_is : (instance : Network) → Ok instance ≡ made_of_arrays limits g → instance ≡ g
  instance_is instance made = made_is _ g instance made

  module _ (sound : IsSound m) (within : AreWithinLimits m prices plan) (is_plan : IsPlan m plan) (shown : ShowsPlan m.routes prices plan) (hk : IsRouteNumber m k) where
    pub well_formed : IsWellFormed limits g
    well_formed = residual_well_formed m prices plan k less hk (sym (one_each m plan is_plan)) within (residual_ends m plan prices k sound is_plan shown hk less)

    pub never_beyond : (made : Result Network ArrayFault) (fault : ArrayFault) → made ≡ Err fault → (IsWellFormed limits g → is_ok made ≡ true) → ⊥
    never_beyond made fault e h = let t : is_ok made ≡ true = h well_formed in cc (sym (ap is_ok e) ∙ t)

    pub feasible_here : (instance : Network) → instance ≡ g → IsFeasible instance (still instance.arcs)
    feasible_here instance is = subst (λ n. IsFeasible n (still n.arcs)) (sym is) (still_feasible m plan prices k sound is_plan shown hk less)

    pub shown_here : (instance : Network) → instance ≡ g → Shows instance.arcs prices (still instance.arcs)
    shown_here instance is = subst (λ n. Shows n.arcs prices (still n.arcs)) (sym is) (own_shown m plan prices k sound is_plan shown hk less)

    pub one_price_each : (instance : Network) → instance ≡ g → length prices ≡ node_count instance
    one_price_each instance is =
        subst (λ n. length prices ≡ node_count n) (sym is) (let e = within.one_per_place in e ∙ sym (length-replicate (length m.supplies) (pos 0)))

-- ---- the sides

module _ (m : Model) (plan prices : List ℤ) (k : ℕ) (less : Bool) (sound : IsSound m) (is_plan : IsPlan m plan) (shown : ShowsPlan m.routes prices plan) (hk : IsRouteNumber m k)
    (r : Route) (x : ℤ) (route : r ≡ route_at m k) (amount : x ≡ amount_at plan k) (may : Bool) (test : may ≡ may_carry r (next less x)) where
  at_route : may ≡ may_carry (route_at m k) (next less (amount_at plan k))
  at_route = test ∙ ap (λ s. may_carry s (next less x)) route ∙ ap (λ y. may_carry (route_at m k) (next less y)) amount

  pub free_here : may ≡ false → IsSideRange m plan k less (record { down = None; up = None })
  free_here shut =
      free_side m plan prices k sound is_plan shown hk less
      (λ h. cc (sym shut ∙ at_route ∙ may_passes (route_at m k) (next less (amount_at plan k)) h))

  pub shown_side_here : may ≡ true → (range made : CostRange) (falls : Bool)
      → IsCostRange (residual m plan k less) (still (residual m plan k less).arcs) 1 range
      → IsShownInRange (residual m plan k less) (still (residual m plan k less).arcs) 1 range
      → falls ≡ grows r.both less x → made ≡ one_sided falls range.down → IsSideRange m plan k less made
  shown_side_here open_ range made falls exact in_range e is =
      let its : MayCarry (route_at m k) (next less (amount_at plan k)) = it_may (route_at m k) (next less (amount_at plan k)) (sym at_route ∙ open_) in
      let f : falls ≡ grows (route_at m k).both less (amount_at plan k) =
      e ∙ ap (λ s. grows s.both less x) route ∙ ap (grows (route_at m k).both less) amount in
      subst (IsSideRange m plan k less) (sym (is ∙ ap (λ b. one_sided b range.down) f))
      (shown_side m plan prices k sound is_plan shown hk less range its exact in_range)
