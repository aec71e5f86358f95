-- Models with which nothing is wrong are those without a first fault, and those without a fault.
use Rattle.std.proofs.Common.{◌≡◌, ℕ, suc, ◌+◌, ◌≤◌, Bool, true, false, ◌&&◌, List, [], ◌∷◌, ◌++◌, cond, length, map, refl, ap, sym, ◌∙◌, arith, ℤ, pos, inl, inr}
use Rattle.std.specs.Prelude.{Option, Some, None, option_map, filter, find, nat_le, ◌↔◌}
use Rattle.std.specs.List.{All}
use Rattle.std.specs.Option.{is_none, option_or}
use Rattle.std.proofs.lemmas.List.Elements.{All-cons, All-head, All-tail, All-map}
use Rattle.std.proofs.lemmas.List.Folds.{list_any_none}
use Rattle.mcf_model.specs.declared.faults.ModelFault.{ModelFault}
use Rattle.mcf_model.specs.declared.faults.RouteFault.{RouteFault}
use Rattle.mcf_model.specs.declared.faults.RouteFault.TheVariants.{Place, Steps, Room, FallingCost, BothWays, NoLimit}
use Rattle.mcf_model.specs.declared.rows.RouteRow.{RouteRow}
use Rattle.mcf_model.specs.declared.rows.Step.{Step}
use Rattle.mcf_model.specs.Faults.{AreListed, applies, earns, fault_from, faults_from, is_place, model_fault, route_faults, row_fault, some_earn}
use Rattle.mcf_model.specs.Laws.{IsBounded, IsProper, StepsTake}
use Rattle.mcf_model.specs.Model.{CostAtLeast, IsLimited, IsSoundRoute, Route}
use Rattle.mcf_model.specs.Tables.{model_of, own_steps, route_of}
use Rattle.mcf_model.proofs.FaultTests.{adds_from, all_of, and_true, any_none, find_none, from_and_true, from_both, from_limited, from_no_earnings, from_node, from_not_false, from_rises, from_takes, is_node, limited_from, may_be_both, no_earnings, none_found, not_false, rises_from, room_both, steps_take}

-- ---- no route has a fault

module _ (test : RouteRow → Option RouteFault) where
  pub each_passes : (k : ℕ) (rows : List RouteRow) → fault_from test k rows ≡ None → All (λ row. test row ≡ None) rows
  each_passes k [] e = λ i d z. absurd (omega arith)
  each_passes k (row ∷ rows) e = go (test row) refl e (each_passes (suc k) rows)
    where
      go : (o : Option RouteFault) → test row ≡ o
          → option_or (option_map (λ what. record { route = k; what = what }) o) (fault_from test (suc k) rows) ≡ None
          → (fault_from test (suc k) rows ≡ None → All (λ row. test row ≡ None) rows) → All (λ row. test row ≡ None) (row ∷ rows)
      go (Some what) is e rest = cc e
      go None is e rest = All-cons (λ row. test row ≡ None) row rows is (rest e)

  pub all_pass : (k : ℕ) (rows : List RouteRow) → All (λ row. test row ≡ None) rows → fault_from test k rows ≡ None
  all_pass k [] h = refl
  all_pass k (row ∷ rows) h =
      rw (All-head (λ row. test row ≡ None) row rows h) (all_pass (suc k) rows (All-tail (λ row. test row ≡ None) row rows h))

unmapped : {X Y : Type 0} (f : X → Y) (xs : List X) → map f xs ≡ [] → xs ≡ []
unmapped f [] e = refl
unmapped f (x ∷ xs) e = cc e

pub neither : {X : Type 0} (xs ys : List X) → xs ++ ys ≡ [] → (xs ≡ []) × (ys ≡ [])
neither [] ys e = (refl, e)
neither (x ∷ xs) ys e = cc e

unfiltered : {X : Type 0} (p : X → Bool) (xs : List X) → filter p xs ≡ [] → find p xs ≡ None
unfiltered p [] e = refl
unfiltered p (x ∷ xs) e = go (p x) e (unfiltered p xs)
  where
    go : (b : Bool) → cond b (x ∷ filter p xs) (filter p xs) ≡ [] → (filter p xs ≡ [] → find p xs ≡ None) → cond b (Some x) (find p xs) ≡ None
    go true e later = cc e
    go false e later = later e

-- without faults, each route has no first fault
pub each_clear : (places : ℕ) (steps : List Step) (earning : Bool) (number : ℕ) (rows : List RouteRow)
    → faults_from places steps earning number rows ≡ [] → All (λ row. row_fault places steps earning row ≡ None) rows
each_clear places steps earning number [] e = λ k d z. absurd (omega arith)
each_clear places steps earning number (row ∷ rows) e =
    let found = filter (applies places steps earning row) route_faults in
    let number_it : RouteFault → ModelFault = λ what. record { route = number; what = what } in
    let both = neither (map number_it found) (faults_from places steps earning (suc number) rows) e in
    All-cons (λ row. row_fault places steps earning row ≡ None) row rows (unfiltered (applies places steps earning row) route_faults (unmapped number_it found both.0))
    (each_clear places steps earning (suc number) rows both.1)

-- ---- one route

module _ (places : ℕ) (steps : List Step) (earning : Bool) (row : RouteRow) where
  -- what a route without a fault keeps
  pub record IsFaultless : Type 0 where
    pub sound : IsSoundRoute places (route_of steps row)
    pub listed : (row.first_step + row.step_count) ≤ length steps
    pub takes : StepsTake (route_of steps row)
    pub limited : (earning && is_none row.last_most) ≡ false

  pub faultless : row_fault places steps earning row ≡ None → IsFaultless
  faultless e =
      let all = find_none (applies places steps earning row) route_faults e in
      let own = own_steps steps row in
      let ends = and_true (is_place places row.tail) (is_place places row.head)
      (not_false (is_place places row.tail && is_place places row.head) (all 0 Place (omega arith))) in
      let below = all 2 Place (omega arith) in
      record {
        sound = record {
          tail_is_place = is_node places row.tail ends.0;
          head_is_place = is_node places row.head ends.1;
          rises = rises_from own row.last_cost (all 3 Place (omega arith));
          adds = adds_from own row.both row.last_most below;
          may_be_both = may_be_both row.both row.least own row.last_most row.last_cost below (all 4 Place (omega arith));
        };
        listed = fits (row.first_step + row.step_count) (length steps) (not_false (nat_le (row.first_step + row.step_count) (length steps)) (all 1 Place (omega arith)));
        takes = steps_take own row.both row.last_most below;
        limited = all 5 Place (omega arith);
      }
    where
      fits : (x y : ℕ) → nat_le x y ≡ true → x ≤ y
      fits x y h = grind arith

  pub passes : IsFaultless → row_fault places steps earning row ≡ None
  passes h =
      let own = own_steps steps row in
      let q = applies places steps earning row in
      let P : RouteFault → Type 0 = λ x. q x ≡ false in
      let s = h.sound in
      let nil : All P [] = λ k d z. absurd (omega arith) in
      none_found q route_faults
      (All-cons P Place (Steps ∷ Room ∷ FallingCost ∷ BothWays ∷ NoLimit ∷ []) (from_not_false (is_place places row.tail && is_place places row.head)
      (from_and_true (is_place places row.tail) (is_place places row.head) (from_node places row.tail s.tail_is_place) (from_node places row.head s.head_is_place)))
      (All-cons P Steps (Room ∷ FallingCost ∷ BothWays ∷ NoLimit ∷ []) (from_not_false (nat_le (row.first_step + row.step_count) (length steps)) (fits (row.first_step + row.step_count) (length steps) h.listed))
      (All-cons P Room (FallingCost ∷ BothWays ∷ NoLimit ∷ []) (from_takes own row.both row.last_most h.takes s.adds (room_both row.both row.least own row.last_most row.last_cost s.may_be_both))
      (All-cons P FallingCost (BothWays ∷ NoLimit ∷ []) (from_rises own row.last_cost s.rises)
      (All-cons P BothWays (NoLimit ∷ []) (from_both row.both row.least own row.last_most row.last_cost s.may_be_both)
      (All-cons P NoLimit [] h.limited nil))))))
    where
      fits : (x y : ℕ) → x ≤ y → nat_le x y ≡ true
      fits x y k = grind arith

-- ---- all routes

module _ (supplies : List ℤ) (steps : List Step) (rows : List RouteRow) where
  abbrev earning : Bool
  earning = some_earn steps rows

  abbrev row_earns : RouteRow → Bool
  row_earns row = earns (own_steps steps row) row.last_cost

  pub unmap : (P : Route → Type 0) (rows : List RouteRow) → All P (map (route_of steps) rows) → All (λ row. P (route_of steps row)) rows
  unmap P [] h = λ k d z. absurd (omega arith)
  unmap P (row ∷ rows) h =
      All-cons (λ row. P (route_of steps row)) row rows (All-head P (route_of steps row) (map (route_of steps) rows) h)
      (unmap P rows (All-tail P (route_of steps row) (map (route_of steps) rows) h))

  bounded_from : (b : Bool) → some_earn steps rows ≡ b → All (λ row. (b && is_none row.last_most) ≡ false) rows → IsBounded (model_of supplies steps rows)
  bounded_from true e h =
      inl (All-map (λ r. IsLimited r.last_most) (route_of steps) rows
      (all_of (λ row. is_none row.last_most ≡ false) (λ row. IsLimited row.last_most) rows (λ row k. limited_from row.last_most k) h))
  bounded_from false e h =
      inr (All-map (λ r. CostAtLeast (pos 0) r.steps r.last_cost) (route_of steps) rows
      (all_of (λ row. row_earns row ≡ false) (λ row. CostAtLeast (pos 0) (own_steps steps row) row.last_cost) rows
      (λ row k. no_earnings (own_steps steps row) row.last_cost k) (any_none row_earns rows e)))

  pub proper_from : model_fault (length supplies) steps rows ≡ None → IsProper (model_of supplies steps rows) × AreListed steps rows
  proper_from e =
      let F = IsFaultless (length supplies) steps earning in
      let each : All F rows = all_of (λ row. row_fault (length supplies) steps earning row ≡ None) F rows (λ row k. faultless (length supplies) steps earning row k)
      (each_passes (row_fault (length supplies) steps earning) 1 rows e) in (
        record {
          sound = All-map (IsSoundRoute (length supplies)) (route_of steps) rows
              (all_of F (λ row. IsSoundRoute (length supplies) (route_of steps row)) rows (λ row k. k.sound) each);
          bounded = bounded_from earning refl (all_of F (λ row. (earning && is_none row.last_most) ≡ false) rows (λ row k. k.limited) each);
          steps_take = All-map StepsTake (route_of steps) rows (all_of F (λ row. StepsTake (route_of steps row)) rows (λ row k. k.takes) each);
        },
        all_of F (λ row. (row.first_step + row.step_count) ≤ length steps) rows (λ row k. k.listed) each,
      )

  limits_from : IsBounded (model_of supplies steps rows) → All (λ row. (earning && is_none row.last_most) ≡ false) rows
  limits_from (inl limited) =
      all_of (λ row. IsLimited row.last_most) (λ row. (earning && is_none row.last_most) ≡ false) rows
      (λ row k. ap (λ b. earning && b) (from_limited row.last_most k) ∙ and_false earning)
      (unmap (λ r. IsLimited r.last_most) rows limited)
    where
      and_false : (b : Bool) → (b && false) ≡ false
      and_false true = refl
      and_false false = refl
  limits_from (inr none) =
      let e : earning ≡ false = list_any_none row_earns rows (all_of (λ row. CostAtLeast (pos 0) (own_steps steps row) row.last_cost) (λ row. row_earns row ≡ false) rows
      (λ row k. from_no_earnings (own_steps steps row) row.last_cost k) (unmap (λ r. CostAtLeast (pos 0) r.steps r.last_cost) rows none)) in
      all_of (λ row. Unit {0}) (λ row. (earning && is_none row.last_most) ≡ false) rows (λ row k. ap (λ b. b && is_none row.last_most) e) (λ k d l. tt)

  pub no_fault : IsProper (model_of supplies steps rows) × AreListed steps rows → model_fault (length supplies) steps rows ≡ None
  no_fault h =
      let m = h.0 in
      let sound = unmap (IsSoundRoute (length supplies)) rows m.sound in
      let takes = unmap StepsTake rows m.steps_take in
      let limits = limits_from m.bounded in
      all_pass (row_fault (length supplies) steps earning) 1 rows
      (λ k d l. passes (length supplies) steps earning _ (record { sound = sound k d l; listed = h.1 k d l; takes = takes k d l; limited = limits k d l }))

  -- what a call finds
  pub same_fault : (places : ℕ) (table : List Step) (list : List RouteRow) (o : Option ModelFault) → places ≡ length supplies → table ≡ steps → list ≡ rows
      → o ≡ model_fault places table list → o ≡ model_fault (length supplies) steps rows
  same_fault places table list o e f g is =
      is ∙ ap (λ n. model_fault n table list) e ∙ ap (λ t. model_fault (length supplies) t list) f ∙ ap (λ l. model_fault (length supplies) steps l) g

  pub found_iff : (fault : ModelFault) → model_fault (length supplies) steps rows ≡ Some fault
      → (false ≡ true) ↔ (IsProper (model_of supplies steps rows) × AreListed steps rows)
  found_iff fault e = (λ bad. cc bad, λ h. cc (sym (no_fault h) ∙ e))
