-- Ranges of routes of the problem without periods are ranges of stores and of departures.
use Rattle.std.proofs.Common.{◌≡◌, ℕ, suc, ◌+◌, ◌-◌, Bool, true, false, List, length, take, drop, get_or, ap, sym, ◌∙◌, subst, refl, arith, ℤ, pos, inl, inr}
use Rattle.std.specs.Prelude.{Option, Some, None, IfSome}
use Rattle.std.proofs.lemmas.Int.{ints}
use Rattle.std.proofs.lemmas.List.{length-set, take-append-drop}
use Rattle.mcf_flow_tables.specs.declared.period_answer.SolvedPeriods.{SolvedPeriods}
use Rattle.mcf_flows.specs.Network.{IsNode}
use Rattle.mcf_period_units.specs.Made.{ComeFrom, periods_in}
use Rattle.mcf_period_units.specs.PeriodEntries.{PeriodEntries}
use Rattle.mcf_periods.specs.Flat.{flat, flat_plan, period_plan}
use Rattle.mcf_periods.specs.PeriodAnswers.{plan_over}
use Rattle.mcf_periods.specs.PeriodLaws.{IsTimely, LeastFlatPlansAreLeast, PeriodPlansAreFlat}
use Rattle.mcf_periods.specs.Periods.{IsLeastPeriodPlan, IsNoWorseIn, PeriodPlan, Periods, all_missing, misses_least_in, period_cost}
use Rattle.mcf_places.specs.declared.answering.LeastPlannerPlan.{LeastPlannerPlan}
use Rattle.mcf_places.specs.PlannerFaults.{IsProperPlanner}
use Rattle.mcf_places.specs.PlannerLaws.{IsSound}
use Rattle.mcf_places.specs.Planners.{IsLeastPlan, IsNoWorse, IsPlan, Plan, Planner, cost, total_missing}
use Rattle.mcf_places.specs.Planning.{plan_in}
use Rattle.mcf_planner_ranges.specs.PlannerRanges.{IsPlannerRange, with_dearer}
use Rattle.mcf_range_text.specs.PeriodRangeTexts.{AreFlatRanges, AreRouteRanges}
use Rattle.mcf_range_text.specs.PeriodRanges.{AreRangesOver, FlatRangesArePeriodRanges, HaveOrigins, IsDepartureRange, IsStoreRange, ToldRangesArePeriodRanges, dearer_store, no_store, with_dearer_departure, with_dearer_store}
use Rattle.mcf_range_text.proofs.DearerPeriods.{dearer_flat_sound, departure_flat, departure_number, departure_timely, store_flat, store_number, store_timely}
use Rattle.mcf_range_text.proofs.OriginsOver.{have_origins}
use Rattle.mcf_ranges.specs.declared.range.CostRange.{CostRange}
use Rattle.mcf_ranges.specs.Ranges.{IsInRange}
use Rattle.mcf_units.specs.declared.scales.Scales.{Scales}
use Rattle.mcf_units.specs.declared.terms.Terms.{Terms}

-- ---- least plans

no_worse : (b : Bool) (P : Periods) (y z : Plan) (x o : PeriodPlan) → cost (flat P) y ≡ period_cost P x → total_missing (flat P) y ≡ all_missing P x
    → period_cost P o ≡ cost (flat P) z → all_missing P o ≡ total_missing (flat P) z → IsNoWorseIn P b x o → IsNoWorse (flat P) b y z
no_worse true P y z x o c m d n h =
    elim h [
      | inl less ↦ inl (omega (arith, ints, m, n, less))
      | inr as_much ↦ inr (omega (arith, ints, m, n, as_much.0), omega (arith, ints, c, d, as_much.1))
    ]
no_worse false P y z x o c m d n h = omega (arith, ints, c, d, h)

module _ (flats : PeriodPlansAreFlat) (leasts : LeastFlatPlansAreLeast) where
  -- a plan that is least over periods is least without them
  least_flat : (Q : Periods) (y : Plan) → IsTimely Q → IsLeastPeriodPlan Q (period_plan Q y) → IsLeastPlan (flat Q) y
  least_flat Q y timely h =
      let x = period_plan Q y in
      let mine = flats.period_plans_are_flat Q x timely h.is_plan in
      let same : flat_plan x ≡ y = ap (λ c. record { carries = c; stays = y.stays; missing = y.missing }) (take-append-drop (length Q.stores) y.carries) in
      record {
        is_plan = subst (IsPlan (flat Q)) same mine.is_plan;
        least = λ other k.
            let theirs = flats.flat_plans_are_period_plans Q other timely k in
            no_worse (misses_least_in Q) Q y other x (period_plan Q other) (sym (ap (cost (flat Q)) same) ∙ mine.same_cost)
            (sym (ap (total_missing (flat Q)) same) ∙ mine.same_missing) theirs.same_cost theirs.same_missing
            (h.least (period_plan Q other) theirs.is_plan);
      }

  -- a range of a route is one of the problem over periods that stands for the dearer one
  range_over : (P Q : Periods) (y : Plan) (k : ℕ) (range : CostRange) (d : ℤ) → IsTimely Q → IsSound (flat P) → IsNode (length (flat P).routes) k
      → flat Q ≡ with_dearer (flat P) k d → period_plan Q y ≡ period_plan P y → IsPlannerRange (flat P) y k range
      → (IsInRange (pos 0) range d → IsLeastPeriodPlan Q (period_plan P y)) × (IsLeastPeriodPlan Q (period_plan P y) → IsInRange (pos 0) range d)
  range_over P Q y k range d timely sound hk dear same exact = (
    (λ h. subst (IsLeastPeriodPlan Q) same (leasts Q y timely (subst (λ (F : Planner). IsLeastPlan F y) (sym dear) ((exact d).0 h).1))),
    (λ h. (exact d).1 (
      dearer_flat_sound P k d sound hk,
      subst (λ (F : Planner). IsLeastPlan F y) dear (least_flat Q y timely (subst (IsLeastPeriodPlan Q) (sym same) h)),
    )),
  )

  pub flat_ranges_lem : FlatRangesArePeriodRanges
  flat_ranges_lem =
      record {
        stores = λ P y k range timely sound hk exact d.
            range_over P (with_dearer_store P k d) y k range d (store_timely P k d hk timely) sound (store_number P k d hk) (store_flat P k d hk)
            (read_still P k d y) exact;
        departures = λ P y k range timely sound hk exact d.
            range_over P (with_dearer_departure P k d) y (length P.stores + k) range d (departure_timely P k d hk timely) sound
            (departure_number P k d hk) (departure_flat P k d hk) refl exact;
      }
    where
      read_still : (P : Periods) (k : ℕ) (d : ℤ) (y : Plan) → period_plan (with_dearer_store P k d) y ≡ period_plan P y
      read_still P k d y =
          ap (λ n. record { carries = drop n y.carries; kept = take n y.carries; stays = y.stays; missing = y.missing })
          (length-set P.stores (k - 1) (dearer_store d (get_or P.stores (k - 1) no_store)))

-- ---- what is told

told_over : (told : Option CostRange) (A B : CostRange → Type 0) → ((range : CostRange) → A range → B range) → IfSome told A → IfSome told B
told_over (Some range) A B f h = f range h
told_over None A B f h = tt

module _ (law : FlatRangesArePeriodRanges) (P : Periods) (p : LeastPlannerPlan) (ranges : List (Option CostRange)) (timely : IsTimely P)
    (sound : IsSound (flat P)) (told : AreRouteRanges (flat P) p ranges) where
  abbrev x : PeriodPlan
  x = plan_over P p

  abbrev y : Plan
  y = plan_in p.plan

  store_told : (k : ℕ) → IsNode (length P.stores) k → IfSome (get_or ranges (k - 1) None) (IsStoreRange P x k)
  store_told k hk =
      let number = store_number P k (pos 0) hk in
      let e : suc (k - 1) ≡ k = omega (arith, hk.0) in
      let here = told.each (k - 1) (omega (arith, number.0, number.1)) in
      told_over (get_or ranges (k - 1) None) (IsPlannerRange (flat P) y k) (IsStoreRange P x k) (λ range h. law.stores P y k range timely sound hk h)
      (subst (λ m. IfSome (get_or ranges (k - 1) None) (IsPlannerRange (flat P) y m)) e here.exact)

  departure_told : (k : ℕ) → IsNode (length P.departures) k → IfSome (get_or ranges (length P.stores + k - 1) None) (IsDepartureRange P x k)
  departure_told k hk =
      let j = length P.stores + k in
      let number = departure_number P k (pos 0) hk in
      let e : suc (j - 1) ≡ j = omega (arith, hk.0) in
      let here = told.each (j - 1) (omega (arith, number.0, number.1)) in
      told_over (get_or ranges (j - 1) None) (IsPlannerRange (flat P) y j) (IsDepartureRange P x k) (λ range h. law.departures P y k range timely sound hk h)
      (subst (λ m. IfSome (get_or ranges (j - 1) None) (IsPlannerRange (flat P) y m)) e here.exact)

  are_over : AreRangesOver P x ranges
  are_over = record { stores = store_told; departures = departure_told }

module _ (law : FlatRangesArePeriodRanges) where
  over_tables : (E : PeriodEntries) (terms : Terms) (s : SolvedPeriods) (p : LeastPlannerPlan) (ranges : List (Option CostRange)) (t : Scales)
      → ComeFrom t E s.origins → s.planner ≡ flat (periods_in t E terms) → IsProperPlanner s.planner → AreRouteRanges s.planner p ranges
      → IsTimely (periods_in t E terms)
      → HaveOrigins (periods_in t E terms) s.origins × AreRangesOver (periods_in t E terms) (plan_over (periods_in t E terms) p) ranges
  over_tables E terms s p ranges t come is proper told timely =
      let P = periods_in t E terms in
      let sound = (subst IsProperPlanner is proper).sound in
      (have_origins t E terms s.origins come, are_over law P p ranges timely sound (subst (λ (F : Planner). AreRouteRanges F p ranges) is told))

  pub told_ranges_lem : ToldRangesArePeriodRanges
  told_ranges_lem E terms s p ranges h least told =
      let scaled = sym h.1 in
      over_tables E terms s p ranges s.scales (subst (λ t. ComeFrom t E s.origins) scaled h.3)
      (h.4 ∙ ap (λ t. flat (periods_in t E terms)) scaled) h.5 (subst (λ a. AreFlatRanges s.planner a ranges) least told)
      (subst (λ t. IsTimely (periods_in t E terms)) scaled h.9)
