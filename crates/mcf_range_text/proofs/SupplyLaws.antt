-- What one more unit of a supply or of a demand costs, and for how many units.
use Rattle.std.proofs.Common.{◌≡◌, ℕ, ◌+◌, ◌≤◌, Bool, true, false, if◌then◌else◌, int_lt, List, ◌∷◌, length, length-append, map, ap, arith, subst, sym, ◌∙◌, ℤ, pos, ◌-ℤ◌, inl, inr, Result, Ok, Err}
use Rattle.std.proofs.lemmas.List.{length-map}
use Rattle.std.specs.Prelude.{IfOk, IfNone, IfSome, Option, Some, None, option_map}
use Rattle.mcf_figures.specs.FigureLaws.{IsPriced}
use Rattle.mcf_flows.specs.Network.{IsNode, at_node}
use Rattle.mcf_places.specs.declared.answering.LeastPlannerPlan.{LeastPlannerPlan}
use Rattle.mcf_places.specs.declared.answering.ShownModel.{ShownModel}
use Rattle.mcf_places.specs.declared.places.Place.{Place}
use Rattle.mcf_places.specs.Answers.{IsShownIn}
use Rattle.mcf_places.specs.LimitedPlanners.{limit_for, limited, limited_place}
use Rattle.mcf_places.specs.Models.{entry_supply, exit_of, exit_supply, hub_of, hub_supply, place_at, some_bounds, supplies_of, with_exits}
use Rattle.mcf_places.specs.PlannerLaws.{SoundPlannersHaveSoundModels}
use Rattle.mcf_places.specs.Planners.{Planner}
use Rattle.mcf_plan_figures.specs.PlannerFigures.{home_of}
use Rattle.mcf_plan_figures.specs.Told.{ToldFiguresAreThePlanners}
use Rattle.mcf_range_text.proofs.AreFirsts.{AreFirst}
use Rattle.mcf_range_text.specs.SupplyRangeTexts.{AreSupplyRanges, IsCostedRange, IsSupplyRange, costed, has_supply_range, supply_at, supply_from, supply_to, unit_cost}
use Rattle.mcf_range_text.specs.declared.supplies.SupplyRange.{SupplyRange}
use Rattle.mcf_unit_ranges.specs.declared.ranging.UnitsRange.{UnitsRange}
use Rattle.mcf_unit_ranges.specs.Told.{IsRangeAt, IsUntold}

-- ---- the cost of a unit

module _ (s : ShownModel) (u w : ℕ) (told : Option UnitsRange) where
  pub costed_told : (made : Option SupplyRange) (xs ys : List ℤ) (cost : ℤ) → xs ≡ s.prices.items → ys ≡ s.prices.items → made ≡ option_map (costed cost) told
      → cost ≡ at_node xs u -ℤ at_node xs w → IsPriced s.model s.prices.items s.carries.items
      → IfSome told (λ range. IsRangeAt s.model ys u w range.most) → IfSome made (IsCostedRange s u w)
  costed_told made xs ys cost e f is at priced exact =
      let there = subst (λ (ps : List ℤ). IfSome told (λ range. IsRangeAt s.model ps u w range.most)) f exact in
      let costs : cost ≡ unit_cost s u w = at ∙ ap (λ (ps : List ℤ). at_node ps u -ℤ at_node ps w) e in
      subst (λ o. IfSome o (IsCostedRange s u w)) (sym is) (go told there costs)
    where
      go : (o : Option UnitsRange) → IfSome o (λ range. IsRangeAt s.model s.prices.items u w range.most) → cost ≡ unit_cost s u w
          → IfSome (option_map (costed cost) o) (IsCostedRange s u w)
      go (Some range) h k = record { cost_is = k; exact = h s.carries.items priced }
      go None h k = tt

  pub costed_untold : (made : Option SupplyRange) (ys : List ℤ) (cost : ℤ) → ys ≡ s.prices.items → made ≡ option_map (costed cost) told
      → IfNone told (IsUntold s.model ys u w) → IfNone made (IsUntold s.model s.prices.items u w)
  costed_untold made ys cost f is none =
      let there = subst (λ (ps : List ℤ). IfNone told (IsUntold s.model ps u w)) f none in
      subst (λ o. IfNone o (IsUntold s.model s.prices.items u w)) (sym is) (go told there)
    where
      go : (o : Option UnitsRange) → IfNone o (IsUntold s.model s.prices.items u w) → IfNone (option_map (costed cost) o) (IsUntold s.model s.prices.items u w)
      go (Some range) h = tt
      go None h = h

-- ---- places

module _ (P : Planner) (p : LeastPlannerPlan) where
  abbrev s : ShownModel
  s = p.shown

  abbrev n : ℕ
  n = length p.shown.model.supplies

  -- ---- the ends are places of the model

  module _ (law : SoundPlannersHaveSoundModels) (figures : ToldFiguresAreThePlanners) (shown : IsShownIn (limited P) p) (v : ℕ) (hv : IsNode (length P.places) v) where
    abbrev places : List Place
    places = (limited P).places

    -- a problem whose bounds got limits has as many places
    as_many : length places ≡ length P.places
    as_many = length-map P.places (limited_place (limit_for P))

    there : IsNode (length places) v
    there = (hv.0, omega (arith, hv.1, as_many))

    long : n ≡ length (supplies_of places)
    long = ap (λ m. length m.supplies) shown.model_is

    -- the hub comes after the places
    enough : length P.places + 2 ≤ n
    enough =
        let entries = map (λ (q : Place). entry_supply q.through q) places in
        let exits = map (λ (q : Place). exit_supply q.through q) (with_exits (some_bounds places) places) in
        omega (arith, long, as_many, length-append entries (hub_supply places ∷ pos 0 ∷ exits), length-map places (λ (q : Place). entry_supply q.through q))

    limited_there : (b : Bool) → IsNode n (if b then v else exit_of places v)
    limited_there true = (hv.0, omega (arith, hv.1, enough))
    limited_there false = let exit = law.exit_is_place (pos 0) (limited P) v there in (exit.0, omega (arith, exit.1, long))

    home_there : IsNode n (home_of P v)
    home_there = subst (IsNode n) (figures.same_home P v) (limited_there (int_lt (pos 0) (place_at places v).supply))

    hub_there : IsNode n (hub_of P.places)
    hub_there = (omega arith, omega (arith, enough))

    from_there : (b : Bool) → IsNode n (if b then home_of P v else hub_of P.places)
    from_there true = home_there
    from_there false = hub_there

    to_there : (b : Bool) → IsNode n (if b then hub_of P.places else home_of P v)
    to_there true = hub_there
    to_there false = home_there

    pub from_is_node : (u : ℕ) → u ≡ supply_from P v → IsNode n u
    from_is_node u e = subst (IsNode n) (sym e) (from_there (int_lt (pos 0) (supply_at P v)))

    pub to_is_node : (u : ℕ) → u ≡ supply_to P v → IsNode n u
    to_is_node u e = subst (IsNode n) (sym e) (to_there (int_lt (pos 0) (supply_at P v)))

  -- ---- what is told

  module _ (v : ℕ) where
    pub no_supply : has_supply_range P s v ≡ false → IsSupplyRange P s v None
    no_supply none = record { asked = tt; exact = tt; none = inl none }

    pub supply_told : {E : Type 0} (result : Result (Option SupplyRange) E) (u w : ℕ) → u ≡ supply_from P v → w ≡ supply_to P v
        → has_supply_range P s v ≡ true → IfOk result (λ told. IfSome told (IsCostedRange s u w))
        → IfOk result (λ told. IfNone told (IsUntold s.model s.prices.items u w)) → IfOk result (IsSupplyRange P s v)
    supply_told (Ok (Some range)) u w e f has exact none =
        record {
          asked = has;
          exact = subst (λ y. IsCostedRange s (supply_from P v) y range) f (subst (λ x. IsCostedRange s x w range) e exact);
          none = tt;
        }
    supply_told (Ok None) u w e f has exact none =
        let there = subst (λ y. IsUntold s.model s.prices.items (supply_from P v) y) f (subst (λ x. IsUntold s.model s.prices.items x w) e none) in
        record { asked = tt; exact = tt; none = inr there }
    supply_told (Err e) u w f g has exact none = tt

  pub all_supplies_told : (count : ℕ) (ranges : List (Option SupplyRange)) (place : ℕ) → AreFirst (IsSupplyRange P p.shown) place ranges
      → count ≡ length P.places → place ≡ count → AreSupplyRanges P p ranges
  all_supplies_told count ranges place first e f =
      let g : place ≡ length P.places = f ∙ e in
      let all = subst (λ k. AreFirst (IsSupplyRange P p.shown) k ranges) g first in
      record { by_place = all.long; each = all.each }
