-- The problem in which only what is missing costs something has the plans of the problem.
use Rattle.std.proofs.Common.{◌≡◌, ℕ, zero, suc, ◌+◌, ◌-◌, ◌≤◌, eqb, Bool, true, false, ◌&&◌, List, [], ◌∷◌, length, map, refl, ap, sym, ◌∙◌, subst, arith, ℤ, pos, ◌+ℤ◌, ◌-ℤ◌, ◌≤ℤ◌, inr}
use Rattle.std.specs.Prelude.{◌||◌, Option, Some, None, int_lt, take, drop, option_map, slice_index_or}
use Rattle.std.specs.Option.{is_some}
use Rattle.std.specs.Int.{int_min}
use Rattle.std.specs.List.{All, AllZip}
use Rattle.std.proofs.lemmas.Int.{ints}
use Rattle.std.proofs.lemmas.List.{length-map, take-map, drop-map}
use Rattle.std.proofs.lemmas.List.Elements.{All-cons, All-map}
use Rattle.mcf_flows.specs.Network.{IsNode, at_node, when}
use Rattle.mcf_flows.proofs.IntLaws.{one-mul, zero-mul}
use Rattle.mcf_model.specs.declared.rows.RouteRow.{RouteRow}
use Rattle.mcf_model.specs.declared.rows.Step.{Step}
use Rattle.mcf_model.specs.Faults.{AreListed}
use Rattle.mcf_model.specs.Laws.{StepsTake}
use Rattle.mcf_model.specs.Model.{Adds, AreRooms, CostAtLeast, Fits, IsSoundRoute, MayBeBoth, MayCarry, Rises, Route, arriving, charge, charged, leaving, plan_sum, room, route_cost}
use Rattle.mcf_model.specs.Tables.{route_of}
use Rattle.mcf_model.proofs.FaultTests.{all_of}
use Rattle.mcf_places.specs.declared.places.Bounds.{Bounds}
use Rattle.mcf_places.specs.declared.places.Place.{Place}
use Rattle.mcf_places.specs.declared.places.Policy.{Policy}
use Rattle.mcf_places.specs.PlannerFaults.{CostsThrough, EarnsNothing, IsProperPlanner, has_flaw}
use Rattle.mcf_places.specs.declared.faults.PenaltyFlaw.TheVariants.{Lacking}
use Rattle.mcf_places.specs.PlannerLaws.{ReturnsFreely, has_bounds}
use Rattle.mcf_places.specs.Planners.{EachPlace, IsBalancedAt, IsLeastPlan, IsNoWorse, IsPlan, KeepsBounds, Plan, Planner, all_wanted, cost, given, missing_cost, passes, place_sum, through_cost, total_missing, unit_penalty, wanted}
use Rattle.mcf_places.specs.Shortage.{counting, free_bounds, free_place, free_route, free_row, free_step, shortage_of}
use Rattle.mcf_places.specs.Ways.{with_tables}
use Rattle.mcf_places.proofs.Ends.{plan_sum-map}
use Rattle.mcf_places.proofs.ProperModels.{planner_is}
use Rattle.std.proofs.Math.IntN.{◌*ℤ◌}

-- ---- lists

pub place_sum-map : (t : ℕ → Place → ℤ) (f : Place → Place) (v : ℕ) (ps : List Place) → place_sum t v (map f ps) ≡ place_sum (λ j p. t j (f p)) v ps
place_sum-map t f v [] = refl
place_sum-map t f v (p ∷ ps) = ap (λ z. t v (f p) +ℤ z) (place_sum-map t f (suc v) ps)

pub each_mapped : (R S : ℕ → Place → Type 0) (f : Place → Place) → ((j : ℕ) (p : Place) → R j p → S j (f p)) → (v : ℕ) (ps : List Place)
    → EachPlace R v ps → EachPlace S v (map f ps)
each_mapped R S f g v [] h = tt
each_mapped R S f g v (p ∷ ps) h = (g v p h.0, each_mapped R S f g (suc v) ps h.1)

pub each_unmapped : (R S : ℕ → Place → Type 0) (f : Place → Place) → ((j : ℕ) (p : Place) → S j (f p) → R j p) → (v : ℕ) (ps : List Place)
    → EachPlace S v (map f ps) → EachPlace R v ps
each_unmapped R S f g v [] h = tt
each_unmapped R S f g v (p ∷ ps) h = (g v p h.0, each_unmapped R S f g (suc v) ps h.1)

pub zip_mapped : (f : Route → Route) → ((r : Route) (x : ℤ) → MayCarry r x → MayCarry (f r) x) → (rs : List Route) (xs : List ℤ)
    → AllZip MayCarry rs xs → AllZip MayCarry (map f rs) xs
zip_mapped f g [] [] h = h
zip_mapped f g [] (x ∷ xs) h = h
zip_mapped f g (r ∷ rs) [] h = h
zip_mapped f g (r ∷ rs) (x ∷ xs) h = (g r x h.0, zip_mapped f g rs xs h.1)

pub zip_unmapped : (f : Route → Route) → ((r : Route) (x : ℤ) → MayCarry (f r) x → MayCarry r x) → (rs : List Route) (xs : List ℤ)
    → AllZip MayCarry (map f rs) xs → AllZip MayCarry rs xs
zip_unmapped f g [] [] h = h
zip_unmapped f g [] (x ∷ xs) h = h
zip_unmapped f g (r ∷ rs) [] h = h
zip_unmapped f g (r ∷ rs) (x ∷ xs) h = (g r x h.0, zip_unmapped f g rs xs h.1)

-- ---- routes

pub free_room : (steps : List Step) (m : ℤ) → room (map free_step steps) m ≡ room steps m
free_room [] m = refl
free_room (s ∷ steps) m = ap (λ z. s.most +ℤ z) (free_room steps m)

free_charge : (steps : List Step) (x : ℤ) → charge (map free_step steps) (pos 0) x ≡ pos 0
free_charge [] x = zero-mul x
free_charge (s ∷ steps) x =
    omega (arith, ints, zero-mul (int_min x s.most), free_charge steps (x -ℤ int_min x s.most))

fits_free : (steps : List Step) (o : Option ℤ) (x : ℤ) → Fits steps o x → Fits (map free_step steps) o x
fits_free steps (Some m) x h = subst (λ z. x ≤ℤ z) (sym (free_room steps m)) h
fits_free steps None x h = tt

fits_unfree : (steps : List Step) (o : Option ℤ) (x : ℤ) → Fits (map free_step steps) o x → Fits steps o x
fits_unfree steps (Some m) x h = subst (λ z. x ≤ℤ z) (free_room steps m) h
fits_unfree steps None x h = tt

carry_free : (r : Route) (x : ℤ) → MayCarry r x → MayCarry (free_route r) x
carry_free r x h = record { enough = h.enough; fits = fits_free r.steps r.last_most (charged r.both x) h.fits }

carry_unfree : (r : Route) (x : ℤ) → MayCarry (free_route r) x → MayCarry r x
carry_unfree r x h = record { enough = h.enough; fits = fits_unfree r.steps r.last_most (charged r.both x) h.fits }

free_costs : (rs : List Route) (xs : List ℤ) → plan_sum route_cost (map free_route rs) xs ≡ pos 0
free_costs [] xs = refl
free_costs (r ∷ rs) [] = refl
free_costs (r ∷ rs) (x ∷ xs) = omega (arith, ints, free_charge r.steps (charged r.both x), free_costs rs xs)

-- ---- bounds

keeps_free : (o : Option Bounds) (z : ℤ) → KeepsBounds o z → KeepsBounds (option_map free_bounds o) z
keeps_free (Some b) z h = h
keeps_free None z h = h

keeps_unfree : (o : Option Bounds) (z : ℤ) → KeepsBounds (option_map free_bounds o) z → KeepsBounds o z
keeps_unfree (Some b) z h = h
keeps_unfree None z h = h

through_free : (o : Option Bounds) (z : ℤ) → through_cost (option_map free_bounds o) z ≡ pos 0
through_free (Some b) z = zero-mul z
through_free None z = refl

-- ---- plans

module _ (P : Planner) (x : Plan) where
  free_arriving : (v : ℕ) → arriving (map free_route P.routes) x.carries v ≡ arriving P.routes x.carries v
  free_arriving v = plan_sum-map (λ r x. when (eqb r.head v) x) free_route P.routes x.carries

  free_leaving : (v : ℕ) → leaving (map free_route P.routes) x.carries v ≡ leaving P.routes x.carries v
  free_leaving v = plan_sum-map (λ r x. when (eqb r.tail v) x) free_route P.routes x.carries

  free_passes : (v : ℕ) (p : Place) → passes (shortage_of P) x v (free_place p) ≡ passes P x v p
  free_passes v p = omega (arith, ints, free_arriving v)

  balanced_free : (v : ℕ) (p : Place) → IsBalancedAt P x v p → IsBalancedAt (shortage_of P) x v (free_place p)
  balanced_free v p h =
      record {
        stays_some = h.stays_some;
        stays_no_more = h.stays_no_more;
        misses_some = h.misses_some;
        misses_no_more = h.misses_no_more;
        balances = omega (arith, ints, free_passes v p, free_leaving v, h.balances);
        keeps_bounds = subst (KeepsBounds (option_map free_bounds p.through)) (sym (free_passes v p)) (keeps_free p.through (passes P x v p) h.keeps_bounds);
      }

  balanced_unfree : (v : ℕ) (p : Place) → IsBalancedAt (shortage_of P) x v (free_place p) → IsBalancedAt P x v p
  balanced_unfree v p h =
      record {
        stays_some = h.stays_some;
        stays_no_more = h.stays_no_more;
        misses_some = h.misses_some;
        misses_no_more = h.misses_no_more;
        balances = omega (arith, ints, free_passes v p, free_leaving v, h.balances);
        keeps_bounds = keeps_unfree p.through (passes P x v p) (subst (KeepsBounds (option_map free_bounds p.through)) (free_passes v p) h.keeps_bounds);
      }

  pub plan_free : IsPlan P x → IsPlan (shortage_of P) x
  plan_free h =
      record {
        may_carry = zip_mapped free_route carry_free P.routes x.carries h.may_carry;
        stays_by_place = h.stays_by_place ∙ sym (length-map P.places free_place);
        missing_by_place = h.missing_by_place ∙ sym (length-map P.places free_place);
        balanced = each_mapped (IsBalancedAt P x) (IsBalancedAt (shortage_of P) x) free_place balanced_free 1 P.places h.balanced;
      }

  pub plan_unfree : IsPlan (shortage_of P) x → IsPlan P x
  plan_unfree h =
      record {
        may_carry = zip_unmapped free_route carry_unfree P.routes x.carries h.may_carry;
        stays_by_place = h.stays_by_place ∙ length-map P.places free_place;
        missing_by_place = h.missing_by_place ∙ length-map P.places free_place;
        balanced = each_unmapped (IsBalancedAt P x) (IsBalancedAt (shortage_of P) x) free_place balanced_unfree 1 P.places h.balanced;
      }

  pub free_missing : total_missing (shortage_of P) x ≡ total_missing P x
  free_missing = place_sum-map (λ v p. at_node x.missing v) free_place 1 P.places

  free_through : (v : ℕ) (ps : List Place) → place_sum (λ j p. through_cost p.through (passes (shortage_of P) x j p)) v (map free_place ps) ≡ pos 0
  free_through v [] = refl
  free_through v (p ∷ ps) = omega (arith, ints, through_free p.through (passes (shortage_of P) x v (free_place p)), free_through (suc v) ps)

  free_penalties : (v : ℕ) (ps : List Place)
      → place_sum (λ j p. missing_cost (counting P.policy) p *ℤ at_node x.missing j) v (map free_place ps) ≡ place_sum (λ j p. at_node x.missing j) v ps
  free_penalties v [] = refl
  free_penalties v (p ∷ ps) = omega (arith, ints, one-mul (at_node x.missing v), free_penalties (suc v) ps)

  -- it costs what is missing
  pub free_cost : cost (shortage_of P) x ≡ total_missing P x
  free_cost =
      omega (arith, ints, free_costs P.routes x.carries, free_through 1 P.places, free_penalties 1 P.places)

-- a least plan of it misses the least
pub misses_the_least : (P : Planner) (x : Plan) → IsLeastPlan (shortage_of P) x → (other : Plan) → IsPlan P other → total_missing P x ≤ℤ total_missing P other
misses_the_least P x h other is = go P.policy.short (h.least other (plan_free P other is))
  where
    go : (b : Bool) → IsNoWorse (shortage_of P) (b && false) x other → total_missing P x ≤ℤ total_missing P other
    go true k = omega (arith, ints, free_cost P x, free_cost P other, k)
    go false k = omega (arith, ints, free_cost P x, free_cost P other, k)

-- ---- it has no fault

free_at_least : (steps : List Step) → CostAtLeast (pos 0) (map free_step steps) (pos 0)
free_at_least [] = omega (arith, ints)
free_at_least (s ∷ steps) = (omega (arith, ints), free_at_least steps)

free_rises : (steps : List Step) → Rises (map free_step steps) (pos 0)
free_rises [] = tt
free_rises (s ∷ steps) = (free_at_least steps, free_rises steps)

rooms_free : (steps : List Step) (o : Option ℤ) → AreRooms steps o → AreRooms (map free_step steps) o
rooms_free [] o h = h
rooms_free (s ∷ steps) o h = (h.0, rooms_free steps o h.1)

adds_free : (steps : List Step) (o : Option ℤ) → Adds steps o → Adds (map free_step steps) o
adds_free [] o h = h
adds_free (s ∷ steps) o h = rooms_free steps o h

both_free : (b : Bool) (least : ℤ) (steps : List Step) (o : Option ℤ) (c : ℤ) → MayBeBoth b least steps o c → MayBeBoth b least (map free_step steps) o (pos 0)
both_free true least steps o c h = (h.0, free_at_least steps, rooms_free steps o h.2)
both_free false least steps o c h = tt

route_free : (n : ℕ) (r : Route) → IsSoundRoute n r → IsSoundRoute n (free_route r)
route_free n r h =
    record {
      tail_is_place = h.tail_is_place;
      head_is_place = h.head_is_place;
      rises = free_rises r.steps;
      adds = adds_free r.steps r.last_most h.adds;
      may_be_both = both_free r.both r.least r.steps r.last_most r.last_cost h.may_be_both;
    }

bounds_free : (o : Option Bounds) → is_some (option_map free_bounds o) ≡ is_some o
bounds_free (Some b) = refl
bounds_free None = refl

at_free : (ps : List Place) (v : ℕ) → has_bounds (map free_place ps) v ≡ has_bounds ps v
at_free ps v = go ps (v - 1)
  where
    go : (ps : List Place) (i : ℕ) → is_some (slice_index_or (map free_place ps) i (record { supply = pos 0; through = None; penalty = None })).through
        ≡ is_some (slice_index_or ps i (record { supply = pos 0; through = None; penalty = None })).through
    go [] i = refl
    go (p ∷ ps) zero = bounds_free p.through
    go (p ∷ ps) (suc i) = go ps i

returns_free : (ps : List Place) (r : Route) → ReturnsFreely ps r → ReturnsFreely (map free_place ps) (free_route r)
returns_free ps r h =
    ap (λ a. r.both && (a || has_bounds (map free_place ps) r.head)) (at_free ps r.tail)
    ∙ ap (λ b. r.both && (has_bounds ps r.tail || b)) (at_free ps r.head) ∙ h

steps_free : (steps : List Step) → All (λ s. pos 0 ≤ℤ s.most) steps → All (λ s. pos 0 ≤ℤ s.most) (map free_step steps)
steps_free steps h = All-map (λ s. pos 0 ≤ℤ s.most) free_step steps h

through_costs : (o : Option Bounds) → CostsThrough (option_map free_bounds o)
through_costs (Some b) = omega (arith, ints)
through_costs None = tt

any_all : {X : Type 0} (Q : X → Type 0) → ((x : X) → Q x) → (xs : List X) → All Q xs
any_all Q h [] = λ k d l. absurd (omega arith)
any_all Q h (x ∷ xs) = All-cons Q x xs (h x) (any_all Q h xs)

sum_free : (t : Place → ℤ) → ((p : Place) → t (free_place p) ≡ t p) → (v : ℕ) (ps : List Place)
    → place_sum (λ j p. t p) v (map free_place ps) ≡ place_sum (λ j p. t p) v ps
sum_free t e v [] = refl
sum_free t e v (p ∷ ps) = omega (arith, ints, e p, sum_free t e (suc v) ps)

pub wanted_free : (ps : List Place) → all_wanted (map free_place ps) ≡ all_wanted ps
wanted_free ps = sum_free wanted (λ p. refl) 1 ps

pub earns_nothing_free : (P : Planner) → EarnsNothing (shortage_of P)
earns_nothing_free P =
    record {
      routes = All-map (λ r. CostAtLeast (pos 0) r.steps r.last_cost) free_route P.routes
          (any_all (λ r. CostAtLeast (pos 0) (map free_step r.steps) (pos 0)) (λ r. free_at_least r.steps) P.routes);
      places = All-map (λ p. CostsThrough p.through) free_place P.places
          (any_all (λ p. CostsThrough (option_map free_bounds p.through)) (λ p. through_costs p.through) P.places);
    }

and_none : (b : Bool) → (b && false) ≡ false
and_none true = refl
and_none false = refl

pub proper_free : (P : Planner) → IsProperPlanner P → IsProperPlanner (shortage_of P)
proper_free P h =
    record {
      few = omega (arith, h.few, length-map P.places free_place);
      small = omega (arith, ints, h.small, sum_free given (λ p. refl) 1 P.places, wanted_free P.places);
      penalty = omega (arith, ints);
      penalties = All-map (λ p. pos 0 ≤ℤ unit_penalty p.penalty) free_place P.places
          (any_all (λ p. pos 0 ≤ℤ unit_penalty (free_place p).penalty) (λ p. omega (arith, ints)) P.places);
      weighed = λ needed.
          All-map (λ p. has_flaw Lacking (counting P.policy) p ≡ false) free_place P.places
          (any_all (λ p. has_flaw Lacking (counting P.policy) (free_place p) ≡ false) (λ p. and_none (int_lt p.supply (pos 0))) P.places);
      sound = record {
        routes = subst (λ n. All (IsSoundRoute n) (map free_route P.routes)) (sym (length-map P.places free_place))
            (All-map (IsSoundRoute (length P.places)) free_route P.routes
            (all_of (IsSoundRoute (length P.places)) (λ r. IsSoundRoute (length P.places) (free_route r)) P.routes (λ r k. route_free (length P.places) r k)
            h.sound.routes));
        return_freely = All-map (ReturnsFreely (map free_place P.places)) free_route P.routes
            (all_of (ReturnsFreely P.places) (λ r. ReturnsFreely (map free_place P.places) (free_route r)) P.routes (λ r k. returns_free P.places r k)
            h.sound.return_freely);
      };
      steps_take = All-map StepsTake free_route P.routes
          (all_of StepsTake (λ r. StepsTake (free_route r)) P.routes (λ r k. steps_free r.steps k) h.steps_take);
      few_returning = omega (arith, h.few_returning, length-map P.routes free_route);
      returning_rows = subst (λ n. All (IsNode (n - length P.returning)) P.returning) (sym (length-map P.routes free_route)) h.returning_rows;
      bounded = inr (earns_nothing_free P);
    }

-- ---- its rows

row_free : (steps : List Step) (row : RouteRow) → route_of (map free_step steps) (free_row row) ≡ free_route (route_of steps row)
row_free steps row =
    ap (λ own. record {
      tail = row.tail;
      head = row.head;
      least = row.least;
      steps = own;
      last_most = row.last_most;
      last_cost = pos 0;
      both = row.both;
    })
    (ap (take row.step_count) (drop-map free_step row.first_step steps) ∙ take-map free_step row.step_count (drop row.first_step steps))

rows_free : (steps : List Step) (rows : List RouteRow) → map (route_of (map free_step steps)) (map free_row rows) ≡ map free_route (map (route_of steps) rows)
rows_free steps [] = refl
rows_free steps (row ∷ rows) =
    ap (λ (r : Route). r ∷ map (route_of (map free_step steps)) (map free_row rows)) (row_free steps row)
    ∙ ap (λ (rs : List Route). free_route (route_of steps row) ∷ rs) (rows_free steps rows)

listed_free : (steps : List Step) (rows : List RouteRow) → AreListed steps rows → AreListed (map free_step steps) (map free_row rows)
listed_free steps rows h =
    All-map (λ row. row.first_step + row.step_count ≤ length (map free_step steps)) free_row rows
    (all_of (λ row. row.first_step + row.step_count ≤ length steps) (λ row. row.first_step + row.step_count ≤ length (map free_step steps)) rows
    (λ row k. omega (arith, k, length-map steps free_step)) h)

module _ (P : Planner) (places made_places : List Place) (steps made_steps : List Step) (rows made_rows : List RouteRow) (returning made_returning : List ℕ)
    (policy made_policy : Policy) (e : places ≡ P.places) (f : map (route_of steps) rows ≡ P.routes) (b : returning ≡ P.returning) (g : policy ≡ P.policy) (places_are : made_places ≡ map free_place places)
    (steps_are : made_steps ≡ map free_step steps) (rows_are : made_rows ≡ map free_row rows) (returning_are : made_returning ≡ returning) (policy_is : made_policy ≡ counting policy) where
  pub same_shortage : with_tables made_places made_steps made_rows made_returning made_policy ≡ shortage_of P
  same_shortage =
      planner_is (shortage_of P) made_places (map (route_of made_steps) made_rows) made_returning made_policy (places_are ∙ ap (map free_place) e)
      (ap (λ s. map (route_of s) made_rows) steps_are ∙ ap (map (route_of (map free_step steps))) rows_are ∙ rows_free steps rows ∙ ap (map free_route) f)
      (returning_are ∙ b) (policy_is ∙ ap counting g)

  pub makes_shortage : IsProperPlanner P → AreListed steps rows
      → IsProperPlanner (with_tables made_places made_steps made_rows made_returning made_policy) × AreListed made_steps made_rows
  makes_shortage proper listed = (
    subst IsProperPlanner (sym same_shortage) (proper_free P proper),
    subst (λ s. AreListed s made_rows) (sym steps_are) (subst (AreListed (map free_step steps)) (sym rows_are) (listed_free steps rows listed)),
  )
