-- Problems without faults are proper.
use Rattle.std.proofs.Common.{◌≡◌, ℕ, suc, ◌+◌, ◌≤◌, Bool, true, false, ◌&&◌, List, [], ◌∷◌, length, map, refl, sym, ◌∙◌, subst, arith, pos, ◌+ℤ◌, ◌≤ℤ◌, inl, inr, int_lt}
use Rattle.std.specs.Prelude.{◌⊎◌, Option, Some, None, nat_lt, if◌then◌else◌}
use Rattle.std.specs.List.{All, list_any}
use Rattle.std.specs.Option.{is_none}
use Rattle.std.proofs.lemmas.List.{nil_from_length}
use Rattle.std.proofs.lemmas.List.Elements.{All-cons, All-map}
use Rattle.mcf_model.specs.declared.rows.RouteRow.{RouteRow}
use Rattle.mcf_model.specs.declared.rows.Step.{Step}
use Rattle.mcf_model.specs.Faults.{AreListed, earns, faults_from, row_fault, some_earn}
use Rattle.mcf_model.specs.Laws.{StepsTake}
use Rattle.mcf_model.specs.Model.{CostAtLeast, IsLimited, IsSoundRoute}
use Rattle.mcf_model.specs.Tables.{own_steps, route_of}
use Rattle.mcf_model.proofs.FaultTests.{all_of, any_none, limited_from, no_earnings, not_below, or_false}
use Rattle.mcf_model.proofs.Proper.{IsFaultless, each_clear, faultless, neither}
use Rattle.mcf_places.specs.declared.faults.PlannerFault.{PlannerFault}
use Rattle.mcf_places.specs.declared.faults.PlannerFault.TheVariants.{Size, Total, Penalty, NoLimit, Routes}
use Rattle.mcf_places.specs.declared.faults.PenaltyFlaw.{PenaltyFlaw}
use Rattle.mcf_places.specs.declared.faults.PenaltyFlaw.TheVariants.{Below, Idle, Lacking}
use Rattle.mcf_places.specs.declared.faults.TheConstants.{PLACE_LIMIT, SUM_LIMIT}
use Rattle.mcf_places.specs.declared.limits.TheConstants.{THROUGHPUT_LIMIT}
use Rattle.mcf_places.specs.declared.places.Bounds.{Bounds}
use Rattle.mcf_places.specs.declared.places.Place.{Place}
use Rattle.mcf_places.specs.declared.places.Policy.{Policy}
use Rattle.mcf_places.specs.PlannerFaults.{CostsThrough, EarnsNothing, IsLimitedPlanner, IsLimitedThrough, IsProperPlanner, earning, fault_if, flaw_fault, flaw_faults, has_flaw, is_open, lacking_faults, needs_penalties, open_faults, penalty_faults, place_earns, planner_faults, planner_of}
use Rattle.mcf_places.specs.Planners.{all_given, all_wanted, unit_penalty}
use Rattle.mcf_places.specs.Throughput.{ample_limit, is_beyond}
use Rattle.mcf_places.specs.Ways.{numbers_of, row_returns, way_rows, ways_of, with_tables}
use Rattle.mcf_places.proofs.Throughputs.{ways_throughput}
use Rattle.mcf_places.proofs.MadeWays.{all_ways, few_ways, planner_same, rows_inside, ways_free, ways_listed, ways_same, ways_sound}

not_so : (b : Bool) (f : PlannerFault) → fault_if b f ≡ [] → b ≡ false
not_so true f e = cc e
not_so false f e = refl

unmapped : {X Y : Type 0} (f : X → Y) (xs : List X) → map f xs ≡ [] → xs ≡ []
unmapped f [] e = refl
unmapped f (x ∷ xs) e = cc e

none_of : {X : Type 0} (test : X → Bool) (number : ℕ) (xs : List X) → numbers_of test number xs ≡ [] → All (λ x. test x ≡ false) xs
none_of test number [] e = λ k d l. absurd (omega arith)
none_of test number (x ∷ xs) e = go (test x) refl e (none_of test (suc number) xs)
  where
    go : (b : Bool) → test x ≡ b → (if b then number ∷ numbers_of test (suc number) xs else numbers_of test (suc number) xs) ≡ []
        → (numbers_of test (suc number) xs ≡ [] → All (λ x. test x ≡ false) xs) → All (λ x. test x ≡ false) (x ∷ xs)
    go true is e later = cc e
    go false is e later = All-cons (λ x. test x ≡ false) x xs is (later e)

pub limited_through : (o : Option Bounds) → is_open o ≡ false → IsLimitedThrough o
limited_through (Some b) e = limited_from b.most e
limited_through None e = tt

pub costs_through : (o : Option Bounds) → place_earns o ≡ false → CostsThrough o
costs_through (Some b) e = not_below b.cost (pos 0) e
costs_through None e = tt

module _ (places : List Place) (steps : List Step) (rows : List RouteRow) (policy : Policy) where
  pub proper_planner : planner_faults places steps rows policy ≡ [] → IsProperPlanner (planner_of places steps rows policy) × AreListed steps (way_rows places rows)
  proper_planner e =
      let n = length places in
      let earns = earning places steps rows in
      let a = neither (fault_if (nat_lt PLACE_LIMIT n) Size) _ e in
      let b = neither (fault_if (int_lt (pos SUM_LIMIT) (all_given places +ℤ all_wanted places)) Total) _ a.1 in
      let c = neither (penalty_faults policy places) _ b.1 in
      let of_all = neither (fault_if (int_lt (unit_penalty policy.penalty) (pos 0)) Penalty) _ c.0 in
      let below = neither (flaw_faults Below policy places) _ of_all.1 in
      let idle = neither (flaw_faults Idle policy places) _ below.1 in
      let d = neither (open_faults (earns && is_beyond places (map (route_of steps) rows)) places) _ c.1 in
      let clear = each_clear n steps earns 1 rows (unmapped Routes (faults_from n steps earns 1 rows) d.1) in
      let routes = map (route_of steps) rows in
      let F = IsFaultless n steps (earning places steps rows) in
      let each : All F rows = all_of (λ row. row_fault n steps (earning places steps rows) row ≡ None) F rows
      (λ row k. faultless n steps (earning places steps rows) row k) clear in (
        record {
          few = few PLACE_LIMIT n (not_so (nat_lt PLACE_LIMIT n) Size a.0);
          small = not_below (pos SUM_LIMIT) (all_given places +ℤ all_wanted places)
              (not_so (int_lt (pos SUM_LIMIT) (all_given places +ℤ all_wanted places)) Total b.0);
          penalty = not_below (unit_penalty policy.penalty) (pos 0) (not_so (int_lt (unit_penalty policy.penalty) (pos 0)) Penalty of_all.0);
          penalties = all_of (λ p. has_flaw Below policy p ≡ false) (λ p. pos 0 ≤ℤ unit_penalty p.penalty) places
              (λ p k. not_below (unit_penalty p.penalty) (pos 0) k) (no_flaws Below below.0);
          weighed = λ needed. weighed (needs_penalties policy places) needed idle.1;
          sound = record {
            routes = ways_sound places n routes
                (All-map (IsSoundRoute n) (route_of steps) rows (all_of F (λ row. IsSoundRoute n (route_of steps row)) rows (λ row k. k.sound) each));
            return_freely = ways_free places routes;
          };
          steps_take = all_ways places StepsTake StepsTake (λ r k. k) (λ r k. k) routes
              (All-map StepsTake (route_of steps) rows (all_of F (λ row. StepsTake (route_of steps row)) rows (λ row k. k.takes) each));
          few_returning = few_ways places routes;
          returning_rows = rows_inside places routes;
          bounded = bounded (earning places steps rows) (is_beyond places (map (route_of steps) rows)) refl refl d.0
              (all_of F (λ row. (earning places steps rows && is_none row.last_most) ≡ false) rows (λ row k. k.limited) each);
        },
        ways_listed places steps rows (all_of F (λ row. (row.first_step + row.step_count) ≤ length steps) rows (λ row k. k.listed) each),
      )
    where
      no_flaws : (flaw : PenaltyFlaw) → flaw_faults flaw policy places ≡ [] → All (λ p. has_flaw flaw policy p ≡ false) places
      no_flaws flaw o =
          none_of (has_flaw flaw policy) 1 places (unmapped (flaw_fault flaw) (numbers_of (has_flaw flaw policy) 1 places) o)

      weighed : (b : Bool) → b ≡ true → lacking_faults b policy places ≡ [] → All (λ p. has_flaw Lacking policy p ≡ false) places
      weighed true needed o = no_flaws Lacking o
      weighed false needed o = cc needed

      few : (x y : ℕ) → nat_lt x y ≡ false → y ≤ x
      few x y h = grind arith

      places_bounded : (c : Bool) → is_beyond places (map (route_of steps) rows) ≡ c → open_faults c places ≡ []
          → All (λ p. IsLimitedThrough p.through) places ⊎ (ample_limit places (ways_of places (map (route_of steps) rows)) ≤ℤ pos THROUGHPUT_LIMIT)
      places_bounded true f o =
          inl (all_of (λ p. is_open p.through ≡ false) (λ p. IsLimitedThrough p.through) places (λ p k. limited_through p.through k)
          (none_of (λ p. is_open p.through) 1 places (unmapped NoLimit (numbers_of (λ p. is_open p.through) 1 places) o)))
      places_bounded false f o =
          inr (subst (λ z. (pos 1 +ℤ z) ≤ℤ pos THROUGHPUT_LIMIT) (sym (ways_throughput places (map (route_of steps) rows)))
          (not_below (pos THROUGHPUT_LIMIT) (ample_limit places (map (route_of steps) rows)) f))

      bounded : (b c : Bool) → earning places steps rows ≡ b → is_beyond places (map (route_of steps) rows) ≡ c → open_faults (b && c) places ≡ []
          → All (λ row. (b && is_none row.last_most) ≡ false) rows
          → IsLimitedPlanner (planner_of places steps rows policy) ⊎ EarnsNothing (planner_of places steps rows policy)
      bounded true c e f o l =
          inl (record {
            routes = all_ways places (λ r. IsLimited r.last_most) (λ r. IsLimited r.last_most) (λ r k. k) (λ r k. k) (map (route_of steps) rows)
                (All-map (λ r. IsLimited r.last_most) (route_of steps) rows
                (all_of (λ row. is_none row.last_most ≡ false) (λ row. IsLimited row.last_most) rows (λ row k. limited_from row.last_most k) l));
            places = places_bounded c f o;
          })
      bounded false c e f o l =
          let both = or_false (list_any (λ p. place_earns p.through) places) (some_earn steps rows) e in
          inr (record {
            routes = all_ways places (λ r. CostAtLeast (pos 0) r.steps r.last_cost) (λ r. CostAtLeast (pos 0) r.steps r.last_cost) (λ r k. k) (λ r k. k)
                (map (route_of steps) rows)
                (All-map (λ r. CostAtLeast (pos 0) r.steps r.last_cost) (route_of steps) rows
                (all_of (λ row. earns (own_steps steps row) row.last_cost ≡ false) (λ row. CostAtLeast (pos 0) (own_steps steps row) row.last_cost) rows
                (λ row k. no_earnings (own_steps steps row) row.last_cost k)
                (any_none (λ row. earns (own_steps steps row) row.last_cost) rows both.1)));
            places = all_of (λ p. place_earns p.through ≡ false) (λ p. CostsThrough p.through) places (λ p k. costs_through p.through k)
                (any_none (λ p. place_earns p.through) places both.0);
          })

-- the problem that the code makes
module _ (places : List Place) (steps : List Step) (rows : List RouteRow) (policy : Policy) (seen : List Place) (ways : List RouteRow) (returning : List ℕ)
    (found : List PlannerFault) (e : seen ≡ places) (ways_are : ways ≡ way_rows seen rows) (returning_are : returning ≡ numbers_of (row_returns seen) 1 rows)
    (found_are : found ≡ planner_faults places steps rows policy) (few : length found ≡ 0) where
  pub no_faults : planner_faults places steps rows policy ≡ []
  no_faults = sym found_are ∙ nil_from_length found few

  pub made_is : with_tables places steps ways returning policy ≡ planner_of places steps rows policy
  made_is = planner_same places steps rows policy seen ways returning e ways_are returning_are

  pub made_proper : IsProperPlanner (with_tables places steps ways returning policy)
  made_proper = subst IsProperPlanner (sym made_is) (proper_planner places steps rows policy no_faults).0

  pub made_listed : AreListed steps ways
  made_listed =
      subst (AreListed steps) (sym (ways_same places steps rows policy seen ways returning e ways_are returning_are))
      (proper_planner places steps rows policy no_faults).1
