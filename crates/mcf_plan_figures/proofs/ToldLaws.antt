-- What is told of the model of a problem is told of the problem.
use Rattle.std.proofs.Common.{◌≡◌, ℕ, zero, suc, ◌+◌, ◌-◌, ◌<◌, true, List, [], ◌∷◌, ◌++◌, length, map, get_or, take, refl, ap, sym, ◌∙◌, arith, ℤ, pos, int_lt, if◌then◌else◌}
use Rattle.std.specs.Prelude.{IfSome, Option, Some, None, option_map}
use Rattle.std.specs.Option.{option_to_list}
use Rattle.std.proofs.lemmas.List.{get_or-append_right, get_or-take, get_or_append_left}
use Rattle.mcf_flows.proofs.AllZips.{length-AllZip}
use Rattle.mcf_flows.specs.Network.{IsNode, at_node}
use Rattle.mcf_model.specs.Model.{IsPlan as IsModelPlan, MayCarry, Route}
use Rattle.mcf_model.specs.Tables.{route_at}
use Rattle.mcf_figures.specs.Figures.{amount_at, dearer, saving}
use Rattle.mcf_places.specs.declared.answering.ShownModel.{ShownModel}
use Rattle.mcf_places.specs.declared.places.Bounds.{Bounds}
use Rattle.mcf_places.specs.declared.places.Place.{Place}
use Rattle.mcf_places.specs.LimitedPlanners.{limit_for, limited, limited_bounds, limited_place}
use Rattle.mcf_places.specs.Models.{amounts_by, exit_of, hub_of, missing_route, model_of, place_at, plain_route, plan_of, routes_by, routes_of, stay_route, through_route, with_first}
use Rattle.mcf_places.specs.PlannerLaws.{IsSound, PlannersAreModels, has_bounds}
use Rattle.mcf_places.specs.Planners.{Plan, Planner, passes, total_missing}
use Rattle.mcf_plan_figures.specs.PlannerFigures.{home_of, route_dearer, route_saves, through_dearer, through_number, through_saves}
use Rattle.mcf_plan_figures.specs.Told.{ToldFiguresAreThePlanners, by_own_limit, pass_told, place_told, way_told}
use Rattle.mcf_plan_figures.proofs.LimitedModels.{limited_at, same_exit}
use Rattle.mcf_plan_figures.proofs.RouteRooms.{route_is}
use Rattle.mcf_plan_figures.proofs.ThroughRooms.{T, bounds_of, through_route_is}
use Rattle.mcf_plan_figures.proofs.ToldFigures.{first_length}

abbrev no_place : Place
no_place = record { supply = pos 0; through = None; penalty = None }

-- ---- savings

route_saves_are : (most : ℤ) (P : Planner) (s : ShownModel) (groups : List ℕ) (k : ℕ) → s.model ≡ model_of most P → IsNode (length P.routes) k
    → (way_told s groups k).saves ≡ route_saves s.prices.items P k
route_saves_are most P s groups k e h =
    ap (λ m. saving s.prices.items (route_at m k)) e ∙ ap (saving s.prices.items) (route_is most P k h)

through_saves_are : (most : ℤ) (P : Planner) (s : ShownModel) (groups : List ℕ) (v : ℕ) → s.model ≡ model_of most P → IsNode (length P.places) v
    → has_bounds P.places v ≡ true
    → (way_told s groups (through_number P v)).saves ≡ through_saves s.prices.items (length P.places) v (place_at P.places v).through
through_saves_are most P s groups v e h has =
    let found = bounds_of (place_at P.places v).through has in
    ap (λ m. saving s.prices.items (route_at m (through_number P v))) e
    ∙ ap (saving s.prices.items) (through_route_is most P v h found.0 found.1)
    ∙ sym (ap (through_saves s.prices.items (length P.places) v) found.1)

-- ---- what passes

-- the amount of a place with bounds among those made for places
record HasAmount (n v : ℕ) (ps : List Place) (i w : ℕ) (amount : ℕ → Place → ℤ) : Type 0 where
  inside : length (routes_by (T n) v (take i ps)) < length (amounts_by (T n) amount v ps)
  amount_is : get_or (amounts_by (T n) amount v ps) (length (routes_by (T n) v (take i ps))) (pos 0) ≡ amount w (get_or ps i no_place)

has_amount : (n v : ℕ) (ps : List Place) (i w : ℕ) (b : Bounds) (amount : ℕ → Place → ℤ) → i < length ps → v + i ≡ w → (get_or ps i no_place).through ≡ Some b
    → HasAmount n v ps i w amount
has_amount n v [] i w b amount h at e = absurd (omega (arith, h))
has_amount n v (p ∷ ps) zero w b amount h at e =
    let here : v ≡ w = omega (arith, at) in
    let made : T n v p ≡ Some (plain_route v (n + 2 + v) b.least b.most b.cost) = ap (option_map (λ (b : Bounds). plain_route v (n + 2 + v) b.least b.most b.cost)) e in
    let all : amounts_by (T n) amount v (p ∷ ps) ≡ amount v p ∷ amounts_by (T n) amount (suc v) ps =
    ap (λ (o : Option Route). with_first (option_map (λ (r : Route). amount v p) o) (amounts_by (T n) amount (suc v) ps)) made in
    record {
      inside = omega (arith, ap length all);
      amount_is = ap (λ xs. get_or xs 0 (pos 0)) all ∙ ap (λ u. amount u p) here;
    }
has_amount n v (p ∷ ps) (suc i) w b amount h at e =
    let k = go (T n v p) (has_amount n (suc v) ps i w b amount (omega (arith, h)) (omega (arith, at)) e) in
    record { inside = k.0; amount_is = k.1 }
  where
    go : (o : Option Route) → HasAmount n (suc v) ps i w amount
        → (length (with_first o (routes_by (T n) (suc v) (take i ps))) < length (with_first (option_map (λ (r : Route). amount v p) o) (amounts_by (T n) amount (suc v) ps)))
        × (get_or (with_first (option_map (λ (r : Route). amount v p) o) (amounts_by (T n) amount (suc v) ps)) (length (with_first o (routes_by (T n) (suc v) (take i ps)))) (pos 0)
        ≡ amount w (get_or ps i no_place))
    go (Some q) k = (omega (arith, k.inside), k.amount_is)
    go None k = (k.inside, k.amount_is)

pub passes_at : (P : Planner) (x : Plan) (v : ℕ) → length P.routes ≡ length x.carries → IsNode (length P.places) v → has_bounds P.places v ≡ true
    → amount_at (routes_of P x) (through_number P v) ≡ passes P x v (place_at P.places v)
passes_at P x v long h has =
    let found = bounds_of (place_at P.places v).through has in
    let n = length P.places in
    let i : v - 1 < length P.places = omega (arith, h.0, h.1) in
    let at = has_amount n 1 P.places (v - 1) v found.0 (passes P x) i (omega (arith, h.0)) found.1 in
    let j = length (routes_by (T n) 1 (take (v - 1) P.places)) in
    let own = x.carries in
    let thr = amounts_by (T n) (passes P x) 1 P.places in
    let rest = amounts_by (stay_route P.policy.unused (hub_of P.places)) (λ v p. at_node x.stays v) 1 P.places
    ++ (amounts_by (missing_route P.policy P.places) (λ v p. at_node x.missing v) 1 P.places ++ total_missing P x ∷ []) in
    let place : through_number P v - 1 ≡ length own + j = omega (arith, long) in
    let more : length own + j - length own ≡ j = omega arith in
    ap (λ k. get_or (own ++ (thr ++ rest)) k (pos 0)) place
    ∙ get_or-append_right own (thr ++ rest) (length own) (length own + j) (pos 0) refl (omega arith)
    ∙ ap (λ k. get_or (thr ++ rest) k (pos 0)) more ∙ get_or_append_left thr rest (pos 0) j at.inside ∙ at.amount_is

passes_are : PlannersAreModels → (most : ℤ) (P : Planner) (carries : List ℤ) (v : ℕ) → IsSound P → IsModelPlan (model_of most P) carries → IsNode (length P.places) v
    → has_bounds P.places v ≡ true → amount_at carries (through_number P v) ≡ passes P (plan_of P carries) v (place_at P.places v)
passes_are law most P carries v sound is_plan h has =
    let of = law.model_plans_are_plans most P carries sound is_plan in
    ap (λ xs. amount_at xs (through_number P v)) (sym of.back_again)
    ∙ passes_at P (plan_of P carries) v (length-AllZip MayCarry P.routes (plan_of P carries).carries of.is_plan.may_carry) h has

-- ---- one unit more

route_dearer_is : (most : ℤ) (P : Planner) (s : ShownModel) (groups : List ℕ) (k : ℕ) → s.model ≡ model_of most P → IsNode (length P.routes) k
    → (way_told s groups k).dearer ≡ route_dearer s.prices.items P k (amount_at (plan_of P s.carries.items).carries k)
route_dearer_is most P s groups k e h =
    let prices = s.prices.items in
    let carries = s.carries.items in
    ap (λ m. dearer prices (route_at m k) (amount_at carries k)) e ∙ ap (λ (r : Route). dearer prices r (amount_at carries k)) (route_is most P k h)
    ∙ sym (ap (route_dearer prices P k) (get_or-take (length P.routes) carries (k - 1) (pos 0) (omega (arith, h.0, h.1))))

pass_dearer : (s : ShownModel) (groups : List ℕ) (k : ℕ) (most : Option ℤ) → (by_own_limit most (way_told s groups k)).dearer ≡ (way_told s groups k).dearer
pass_dearer s groups k (Some most) = refl
pass_dearer s groups k None = refl

through_dearer_is : (most : ℤ) (P : Planner) (s : ShownModel) (groups : List ℕ) (v : ℕ) → s.model ≡ model_of most P → IsNode (length P.places) v
    → IfSome (place_told P s groups v).passes (λ f. f.row.dearer ≡ through_dearer s.prices.items (length P.places) v (place_at P.places v).through f.amount)
through_dearer_is most P s groups v e h = go (place_at P.places v).through refl
  where
    go : (o : Option Bounds) → (place_at P.places v).through ≡ o
        → IfSome (pass_told s groups (through_number P v) o)
        (λ f. f.row.dearer ≡ through_dearer s.prices.items (length P.places) v o f.amount)
    go None f = tt
    go (Some b) f =
        let prices = s.prices.items in
        let x = amount_at s.carries.items (through_number P v) in
        pass_dearer s groups (through_number P v) b.most
        ∙ (ap (λ m. dearer prices (route_at m (through_number P v)) x) e ∙ ap (λ (r : Route). dearer prices r x) (through_route_is most P v h b f))

-- ---- bounds with limits

as_many : (limit : Option ℤ) (o : Option Bounds) → length (option_to_list (option_map (limited_bounds limit) o)) ≡ length (option_to_list o)
as_many limit (Some b) = refl
as_many limit None = refl

same_count : (qs rs : List Place) (limit : Option ℤ) (v : ℕ) (ps : List Place) (i : ℕ)
    → length (routes_by (through_route qs) v (take i (map (limited_place limit) ps))) ≡ length (routes_by (through_route rs) v (take i ps))
same_count qs rs limit v [] zero = refl
same_count qs rs limit v [] (suc i) = refl
same_count qs rs limit v (p ∷ ps) zero = refl
same_count qs rs limit v (p ∷ ps) (suc i) =
    omega (
      arith,
      first_length (option_map (limited_bounds limit) p.through) (λ (b : Bounds). plain_route v (length qs + 2 + v) b.least b.most b.cost)
          (routes_by (through_route qs) (suc v) (take i (map (limited_place limit) ps))),
      first_length p.through (λ (b : Bounds). plain_route v (length rs + 2 + v) b.least b.most b.cost) (routes_by (through_route rs) (suc v) (take i ps)),
      as_many limit p.through,
      same_count qs rs limit (suc v) ps i,
    )

pub same_number : (P : Planner) (v : ℕ) → through_number (limited P) v ≡ through_number P v
same_number P v = ap (λ k. suc (length P.routes + k)) (same_count (limited P).places P.places (limit_for P) 1 P.places (v - 1))

same_home : (P : Planner) (v : ℕ) → home_of (limited P) v ≡ home_of P v
same_home P v =
    let qs = (limited P).places in
    let at = limited_at (limit_for P) P.places (v - 1) in
    let supply = ap (λ (p : Place). p.supply) at in
    ap (λ z. if int_lt (pos 0) z then v else exit_of qs v) supply ∙ ap (λ e. if int_lt (pos 0) (place_at P.places v).supply then v else e) (same_exit P v)

pub told_figures_are_the_planners_lem : PlannersAreModels → ToldFiguresAreThePlanners
told_figures_are_the_planners_lem law =
    record {
      route_is = route_is;
      route_saves_are = route_saves_are;
      route_dearer_is = route_dearer_is;
      through_is = λ most P v b h has. through_route_is most P v h b has;
      through_saves_are = through_saves_are;
      through_dearer_is = through_dearer_is;
      passes_are = passes_are law;
      same_number = same_number;
      same_home = same_home;
    }
