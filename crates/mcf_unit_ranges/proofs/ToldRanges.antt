-- From least plans of the models of spans to what is told.
use Rattle.std.proofs.Common.{◌≡◌, ℕ, ◌≤◌, List, [], ◌∷◌, length, map, sym, ◌∙◌, subst, arith, ℤ, pos, ◌-ℤ◌, ◌≤ℤ◌, ◌<ℤ◌, inl, inr}
use Rattle.std.specs.Prelude.{Option, Some, None, IfNone, IfSome, slice_index_or, ◌⊎◌}
use Rattle.std.proofs.Math.IntN.{◌*ℤ◌}
use Rattle.std.proofs.lemmas.Int.{ints}
use Rattle.mcf_flows.specs.Limits.{limits}
use Rattle.mcf_flows.specs.Network.{IsNode}
use Rattle.mcf_flows.proofs.AllZips.{length-AllZip}
use Rattle.mcf_instance.specs.declared.arrays.ArrayFault.{ArrayFault}
use Rattle.mcf_instance.specs.Arrays.{array_fault}
use Rattle.mcf_model.specs.declared.planning.Bottleneck.{Bottleneck}
use Rattle.mcf_model.specs.declared.planning.LeastPlan.{LeastPlan}
use Rattle.mcf_model.specs.Arcs.{network_of, reach_of}
use Rattle.mcf_model.specs.Model.{IsLeastPlan, IsPlan, IsSound, MayCarry, Model}
use Rattle.mcf_model.specs.Planning.{HasNoPlan, IsBestPlan}
use Rattle.mcf_model.specs.Scaling.{scaled}
use Rattle.mcf_unit_ranges.specs.declared.limits.TheConstants.{UNITS_LIMIT}
use Rattle.mcf_unit_ranges.specs.declared.ranging.UnitsRange.{UnitsRange}
use Rattle.mcf_unit_ranges.specs.Private.Plans.{CarriesFirst, HasPlan}
use Rattle.mcf_unit_ranges.specs.SpanModels.{free_model, span_model}
use Rattle.mcf_unit_ranges.specs.Told.{FitsLimits, IsClosed, IsRangeAt, IsUntold}
use Rattle.mcf_unit_ranges.proofs.SpareUnits.{here, holds_all, range_is, range_is_free, some_plan, spare_at_most}

pub no_fit : (m : Model) (fault : ArrayFault) → array_fault limits (network_of (reach_of m) m) ≡ Some fault → ¬ FitsLimits m
no_fit m fault e f = cc (sym e ∙ f)

pub some_has : (m : Model) (p : LeastPlan) → IsBestPlan m p → HasPlan m
some_has m p best = (p.carries.items, best.least.is_plan)

pub none_has : (m : Model) (b : Bottleneck) → HasNoPlan m b → ¬ HasPlan m
none_has m b none h = none.none h.0 h.1

pub carries_first : (m : Model) (p : LeastPlan) (x : ℤ) → 1 ≤ length m.routes → IsBestPlan m p → x ≡ slice_index_or p.carries.items 0 (pos 0) → CarriesFirst m x
carries_first m p x some best is = go p.carries.items best.least.is_plan best.least_in_finer_units is
  where
    go : (xs : List ℤ) → IsPlan m xs → ((k : ℤ) → pos 1 ≤ℤ k → IsLeastPlan (scaled k m) (map (λ y. k *ℤ y) xs)) → x ≡ slice_index_or xs 0 (pos 0) → CarriesFirst m x
    go [] plan least e = absurd (omega (arith, some, length-AllZip MayCarry m.routes [] plan.may_carry))
    go (y ∷ xs) plan least e =
        subst (CarriesFirst m) (sym e) (record { rest = xs; is_plan = plan; least = least })

module _ (m : Model) (prices : List ℤ) (u w : ℕ) (sound : IsSound m) (hu : IsNode (length m.supplies) u) (hw : IsNode (length m.supplies) w) where
  abbrev most : ℤ
  most = pos UNITS_LIMIT

  most0 : pos 0 ≤ℤ most
  most0 = omega (arith, ints)

  abbrev spans : Model
  spans = span_model prices m u w most

  pub range_free : (made : Model) → made ≡ free_model prices m u w → HasPlan made → IsRangeAt m prices u w None
  range_free made e has plan priced =
      let there = subst HasPlan e has in range_is_free m prices plan u w sound priced hu hw there.0 there.1

  pub range_most : (made : Model) (b : ℤ) → made ≡ spans → CarriesFirst made b → pos 0 <ℤ b → IsRangeAt m prices u w (Some (most -ℤ b))
  range_most made b e first some plan priced =
      let f = subst (λ s. CarriesFirst s b) e first in range_is m prices plan u w sound priced hu hw most most0 b f.rest f.is_plan f.least some

  pub untold_free : (made : Model) → made ≡ free_model prices m u w → ¬ FitsLimits made → IsUntold m prices u w
  untold_free made e unfit = inl (λ within. unfit (subst FitsLimits (sym e) within.free_fits))

  pub untold_spans : (made : Model) → IsClosed m prices u w → made ≡ spans → (¬ FitsLimits made) ⊎ (¬ HasPlan made) → IsUntold m prices u w
  untold_spans made closed e (inl unfit) = inl (λ within. unfit (subst FitsLimits (sym e) within.spans_fit))
  untold_spans made closed e (inr none) =
      inr (
        closed,
        λ plan priced. absurd (none (subst HasPlan (sym e)
            (most ∷ here m prices plan u w sound priced hu hw, some_plan m prices plan u w sound priced hu hw most most0))),
      )

  pub untold_beside : (made : Model) (b : ℤ) → IsClosed m prices u w → made ≡ spans → CarriesFirst made b → (b ≤ℤ pos 0) ⊎ (most <ℤ b) → IsUntold m prices u w
  untold_beside made b closed e first (inl none) =
      let f = subst (λ s. CarriesFirst s b) e first in
      let enough = f.is_plan.may_carry.0.enough in
      inr (
        closed,
        λ plan priced. holds_all m prices plan u w sound priced hu hw most most0 b f.rest f.is_plan f.least (omega (arith, ints, none, enough)),
      )
  untold_beside made b closed e first (inr above) =
      let f = subst (λ s. CarriesFirst s b) e first in
      inr (
        closed,
        λ plan priced. absurd (omega (arith, ints, above, spare_at_most m prices plan u w sound priced hu hw most most0 b f.rest f.is_plan f.least)),
      )

  -- where the code finds no plan, there is none
  pub is_closed : (made : Model) → made ≡ free_model prices m u w → ¬ HasPlan made → IsClosed m prices u w
  is_closed made e none plan is = none (plan, subst (λ s. IsPlan s plan) (sym e) is)

-- ---- cases of options

pub some_range : (P : Option ℤ → Type 0) (A : Type 0) (told : Option ℤ) (o : Option UnitsRange) → IfSome o (λ r. A × (r.most ≡ told)) → (A → P told) → IfSome o (λ r. P r.most)
some_range P A told (Some r) h f = subst P (sym h.1) (f h.0)
some_range P A told None h f = tt

pub none_from : {X : Type 0} (o : Option X) (A P : Type 0) → IfNone o A → (A → P) → IfNone o P
none_from (Some x) A P h f = tt
none_from None A P h f = f h
