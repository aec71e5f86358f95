-- Routes without a limit: a flow that prices show within the reach is least beyond it, and a set
-- that blocks within it blocks beyond it.
use Rattle.std.proofs.Common.{◌≡◌, ℕ, eqb, Bool, true, false, not, ◌&&◌, List, [], ◌∷◌, ◌++◌, length, refl, ap, sym, ◌∙◌, subst, arith, ℤ, pos, ◌+ℤ◌, ◌-ℤ◌, ◌≤ℤ◌, ◌<ℤ◌, inl, inr}
use Rattle.std.specs.Prelude.{Option, Some, None}
use Rattle.std.specs.Int.{int_max, int_min}
use Rattle.std.specs.List.{All, AllZip}
use Rattle.std.proofs.Math.IntN.{◌*ℤ◌}
use Rattle.std.proofs.lemmas.Int.{ints, clamps}
use Rattle.std.proofs.lemmas.List.Elements.{All-append, All-cons, All-head, All-tail}
use Rattle.mcf_flows.specs.declared.arc.Arc.{Arc}
use Rattle.mcf_flows.specs.declared.problem.Problem.TheVariants.{Min}
use Rattle.mcf_flows.specs.declared.problem.Side.{Side}
use Rattle.mcf_flows.specs.declared.problem.Side.TheVariants.{Send, Take}
use Rattle.mcf_flows.specs.Blocking.{Blocks}
use Rattle.mcf_flows.specs.Network.{arc_sum, at_node, when}
use Rattle.mcf_flows.specs.Flow.{CanCarry, IsComplementary, IsFeasible, IsLeast, IsWithinBounds, Shows, cost, net, reduced_cost}
use Rattle.mcf_flows.specs.WellFormed.{HasEnds}
use Rattle.mcf_flows.proofs.AllZips.{AllZip-at, AllZip_from, length-AllZip}
use Rattle.mcf_flows.proofs.NodeSums.{node_sum_at_least_zero}
use Rattle.mcf_flows.proofs.Duality.{shown_flows_are_least_lem}
use Rattle.mcf_flows.proofs.Hoffman.{blocked_has_no_flow_lem}
use Rattle.mcf_model.specs.declared.rows.Step.{Step}
use Rattle.mcf_model.specs.Model.{CostAtLeast, Fits, HasNoEarnings, IsLimited, IsSound, IsSoundRoute, MayCarry, Model, Route, charged, plan_cost, room, size}
use Rattle.mcf_model.specs.Arcs.{arcs_of, back, flow_of, last_cap, network_of, plan_of, reach_of, there, way, way_back}
use Rattle.mcf_model.specs.Laws.{BlockedModelsHaveNoPlan, IsBounded, IsWithin, ShownFlowsCostTheSame, ShownFlowsGiveLeastPlans}
use Rattle.mcf_model.proofs.Cuts.{IsPlaced, low_sizes, saving_small, size_is, sizes_in, supply_in_small}
use Rattle.mcf_model.proofs.Plans.{flows_are_plans_lem, plans_are_flows_lem}
use Rattle.mcf_model.proofs.Raised.{IsRaised, arcs_raised, caps_or_reach, carry_over, same_arc_sum, same_flow_sum}

-- ---- facts of all arcs of a model

abbrev CostsAre : (ℤ → Type 0) → List Step → ℤ → Type 0
CostsAre Q [] c = Q c
CostsAre Q (s ∷ steps) c = Q s.cost × CostsAre Q steps c

any_costs : (steps : List Step) (c : ℤ) → CostsAre (λ k. Unit {0}) steps c
any_costs [] c = tt
any_costs (s ∷ steps) c = (tt, any_costs steps c)

costs_are : (steps : List Step) (c : ℤ) → CostAtLeast (pos 0) steps c → CostsAre (λ k. pos 0 ≤ℤ k) steps c
costs_are [] c h = h
costs_are (s ∷ steps) c h = (h.0, costs_are steps c h.1)

way_all : (P : Arc → Type 0) (tail head : ℕ) (least : ℤ) (steps : List Step) (cap c : ℤ) (Q : ℤ → Type 0)
    → ((l u k : ℤ) → Q k → P (record { src = tail; dst = head; low = l; cap = u; cost = k })) → CostsAre Q steps c → All P (way tail head least steps cap c)
way_all P tail head least [] cap c Q h q = All-cons P _ [] (h least cap c q) (λ k d z. absurd (omega arith))
way_all P tail head least (s ∷ steps) cap c Q h q =
    All-cons P _ (way tail head (least -ℤ int_min least s.most) steps cap c) (h (int_min least s.most) s.most s.cost q.0)
    (way_all P tail head (least -ℤ int_min least s.most) steps cap c Q h q.1)

back_all : (P : Arc → Type 0) (both : Bool) (tail head : ℕ) (steps : List Step) (cap c : ℤ) (Q : ℤ → Type 0)
    → ((l u k : ℤ) → Q k → P (record { src = head; dst = tail; low = l; cap = u; cost = k })) → CostsAre Q steps c → All P (way_back both tail head steps cap c)
back_all P true tail head steps cap c Q h q = way_all P head tail (pos 0) steps cap c Q h q
back_all P false tail head steps cap c Q h q = λ k d z. absurd (omega arith)

pub arcs_have_ends : (places : ℕ) (reach : ℤ) (routes : List Route) → All (IsSoundRoute places) routes → All (HasEnds places) (arcs_of reach routes)
arcs_have_ends places reach [] sound = λ k d z. absurd (omega arith)
arcs_have_ends places reach (r ∷ routes) sound =
    let s = All-head (IsSoundRoute places) r routes sound in
    All-append (HasEnds places) (there reach r) (back reach r ++ arcs_of reach routes)
    (way_all (HasEnds places) r.tail r.head r.least r.steps (last_cap reach r.last_most) r.last_cost (λ k. Unit {0})
    (λ l u k q. record { src_is_node = s.tail_is_place; dst_is_node = s.head_is_place }) (any_costs r.steps r.last_cost))
    (All-append (HasEnds places) (back reach r) (arcs_of reach routes)
    (back_all (HasEnds places) r.both r.tail r.head r.steps (last_cap reach r.last_most) r.last_cost (λ k. Unit {0})
    (λ l u k q. record { src_is_node = s.head_is_place; dst_is_node = s.tail_is_place }) (any_costs r.steps r.last_cost))
    (arcs_have_ends places reach routes (All-tail (IsSoundRoute places) r routes sound)))

-- no arc costs less than 0
abbrev IsNotEarning : Arc → Type 0
IsNotEarning a = pos 0 ≤ℤ a.cost

arcs_earn_nothing : (reach : ℤ) (routes : List Route) → All (λ r. CostAtLeast (pos 0) r.steps r.last_cost) routes → All IsNotEarning (arcs_of reach routes)
arcs_earn_nothing reach [] h = λ k d z. absurd (omega arith)
arcs_earn_nothing reach (r ∷ routes) h =
    let here = costs_are r.steps r.last_cost (All-head (λ r. CostAtLeast (pos 0) r.steps r.last_cost) r routes h) in
    All-append IsNotEarning (there reach r) (back reach r ++ arcs_of reach routes)
    (way_all IsNotEarning r.tail r.head r.least r.steps (last_cap reach r.last_most) r.last_cost (λ k. pos 0 ≤ℤ k) (λ l u k q. q) here)
    (All-append IsNotEarning (back reach r) (arcs_of reach routes)
    (back_all IsNotEarning r.both r.tail r.head r.steps (last_cap reach r.last_most) r.last_cost (λ k. pos 0 ≤ℤ k) (λ l u k q. q) here)
    (arcs_earn_nothing reach routes (All-tail (λ r. CostAtLeast (pos 0) r.steps r.last_cost) r routes h)))

-- ---- how much a plan carries beyond the steps before the last

abbrev pub enough_for : List Route → List ℤ → ℤ
enough_for [] plan = pos 0
enough_for (r ∷ routes) [] = pos 0
enough_for (r ∷ routes) (x ∷ plan) = int_max (charged r.both x -ℤ room r.steps (pos 0)) (enough_for routes plan)

room_plus : (steps : List Step) (x : ℤ) → room steps x ≡ room steps (pos 0) +ℤ x
room_plus [] x = omega (arith, ints)
room_plus (s ∷ steps) x = omega (arith, ints, room_plus steps x)

pub fits_reach : (reach : ℤ) (steps : List Step) (most : Option ℤ) (x : ℤ) → Fits steps most x → (x -ℤ room steps (pos 0)) ≤ℤ reach
    → x ≤ℤ room steps (last_cap reach most)
fits_reach reach steps (Some m) x h k = h
fits_reach reach steps None x h k = omega (arith, ints, k, room_plus steps reach)

pub within_reach : (reach : ℤ) (routes : List Route) (plan : List ℤ) → AllZip MayCarry routes plan → enough_for routes plan ≤ℤ reach
    → AllZip (IsWithin reach) routes plan
within_reach reach [] [] h k = tt
within_reach reach [] (x ∷ plan) h k = absurd h
within_reach reach (r ∷ routes) [] h k = absurd h
within_reach reach (r ∷ routes) (x ∷ plan) h k = (
  fits_reach reach r.steps r.last_most (charged r.both x) h.0.fits (omega (arith, ints, clamps, k)),
  within_reach reach routes plan h.1 (omega (arith, ints, clamps, k)),
)

-- ---- the reach

pub reach_is : (m : Model) → reach_of m ≡ pos 1 +ℤ sizes_in m.supplies +ℤ low_sizes (arcs_of (reach_of m) m.routes)
reach_is m =
    ap (λ z. pos 1 +ℤ sizes_in m.supplies +ℤ z)
    (sym (same_arc_sum (pos 0) (reach_of m) (λ a. size a.low) (λ a b r. ap size r.low) (arcs_of (pos 0) m.routes) (arcs_of (reach_of m) m.routes)
    (arcs_raised (pos 0) (reach_of m) m.routes)))

low_sizes_at_least_zero : (arcs : List Arc) → pos 0 ≤ℤ low_sizes arcs
low_sizes_at_least_zero [] = omega (arith, ints)
low_sizes_at_least_zero (a ∷ arcs) = omega (arith, ints, (size_is a.low).0, low_sizes_at_least_zero arcs)

pub reach_above_zero : (m : Model) → pos 0 ≤ℤ reach_of m
reach_above_zero m =
    let sizes : pos 0 ≤ℤ sizes_in m.supplies = node_sum_at_least_zero (λ v. size (at_node m.supplies v)) (length m.supplies) (λ v h. (size_is (at_node m.supplies v)).0) in
    omega (arith, ints, sizes, low_sizes_at_least_zero (arcs_of (pos 0) m.routes))

-- ---- a shown flow is least beyond the reach

-- an arc carries what it may, prices show it, and where it saves it carries less than the reach
record IsKept (prices : List ℤ) (reach : ℤ) (a : Arc) (f : ℤ) : Type 0 where
  carries : CanCarry a f
  shown : IsComplementary prices a f
  small : reduced_cost prices a <ℤ pos 0 → f <ℤ reach

placed : (prices : List ℤ) (arcs : List Arc) (flow : List ℤ) → IsWithinBounds arcs flow → Shows arcs prices flow → All IsNotEarning arcs
    → AllZip (IsPlaced prices) arcs flow
placed prices [] [] h k c = tt
placed prices [] (f ∷ flow) h k c = absurd h
placed prices (a ∷ arcs) [] h k c = absurd h
placed prices (a ∷ arcs) (f ∷ flow) h k c =
    (record { carries = h.0; shown = k.0; costs = All-head IsNotEarning a arcs c }, placed prices arcs flow h.1 k.1 (All-tail IsNotEarning a arcs c))

kept : (m : Model) (prices flow : List ℤ) → IsSound m → HasNoEarnings m → IsFeasible (network_of (reach_of m) m) flow
    → Shows (arcs_of (reach_of m) m.routes) prices flow → AllZip (IsKept prices (reach_of m)) (arcs_of (reach_of m) m.routes) flow
kept m prices flow sound none feasible shows =
    let arcs = arcs_of (reach_of m) m.routes in
    let earns = arcs_earn_nothing (reach_of m) m.routes none in
    AllZip_from (IsKept prices (reach_of m)) arcs flow (length-AllZip CanCarry arcs flow feasible.within_bounds)
    (λ i h d e. record {
      carries = AllZip-at CanCarry arcs flow i d e feasible.within_bounds h;
      shown = AllZip-at (IsComplementary prices) arcs flow i d e shows h;
      small = λ saves.
          omega (
            arith,
            ints,
            reach_is m,
            saving_small (network_of (reach_of m) m) prices flow i d e (arcs_have_ends (length m.supplies) (reach_of m) m.routes sound) feasible
                (placed prices arcs flow feasible.within_bounds shows earns) h saves (earns i d h),
          );
    })

same_reduced : (prices : List ℤ) (reach higher : ℤ) (a b : Arc) → IsRaised reach higher a b → reduced_cost prices b ≡ reduced_cost prices a
same_reduced prices reach higher a b r = omega (arith, ints, r.cost, ap (at_node prices) r.src, ap (at_node prices) r.dst)

kept_carries : (prices : List ℤ) (reach higher : ℤ) → reach ≤ℤ higher → (a b : Arc) (f : ℤ) → IsRaised reach higher a b → IsKept prices reach a f → CanCarry b f
kept_carries prices reach higher h a b f r k = (
  omega (arith, ints, r.low, k.carries.0),
  elim r.cap [ inl same ↦ omega (arith, ints, same, k.carries.1) | inr two ↦ omega (arith, ints, h, two.0, two.1, k.carries.1) ],
)

kept_shown : (prices : List ℤ) (reach higher : ℤ) (a b : Arc) (f : ℤ) → IsRaised reach higher a b → IsKept prices reach a f → IsComplementary prices b f
kept_shown prices reach higher a b f r k =
    let e = same_reduced prices reach higher a b r in (
      (λ above. k.shown.0 (omega (arith, ints, e, above)) ∙ sym r.low),
      (λ saves.
          let saves' : reduced_cost prices a <ℤ pos 0 = omega (arith, ints, e, saves) in
          elim r.cap [
            | inl same ↦ k.shown.1 saves' ∙ sym same
            | inr two ↦ absurd (omega (arith, ints, k.shown.1 saves', k.small saves', two.0))
          ]),
    )

same_net : (reach higher : ℤ) (arcs raised : List Arc) (flow : List ℤ) (v : ℕ) → AllZip (IsRaised reach higher) arcs raised → net raised flow v ≡ net arcs flow v
same_net reach higher arcs raised flow v h =
    omega (
      arith,
      ints,
      same_flow_sum reach higher (λ a f. when (eqb a.src v) f) (λ a b f r. ap (λ s. when (eqb s v) f) r.src) arcs raised flow h,
      same_flow_sum reach higher (λ a f. when (eqb a.dst v) f) (λ a b f r. ap (λ s. when (eqb s v) f) r.dst) arcs raised flow h,
    )

-- in a network of greater reach the flow is least, too
least_beyond : (m : Model) (prices flow : List ℤ) (higher : ℤ) → IsSound m → HasNoEarnings m → IsFeasible (network_of (reach_of m) m) flow
    → Shows (arcs_of (reach_of m) m.routes) prices flow → reach_of m ≤ℤ higher → IsLeast (network_of higher m) flow
least_beyond m prices flow higher sound none feasible shows h =
    let arcs = arcs_of (reach_of m) m.routes in
    let raised = arcs_of higher m.routes in
    let r = arcs_raised (reach_of m) higher m.routes in
    let k = kept m prices flow sound none feasible shows in
    shown_flows_are_least_lem (network_of higher m) prices flow (arcs_have_ends (length m.supplies) higher m.routes sound)
    (record {
      within_bounds = carry_over (reach_of m) higher (IsKept prices (reach_of m)) CanCarry (kept_carries prices (reach_of m) higher h) arcs raised flow r k;
      meets_supplies = λ v n. same_net (reach_of m) higher arcs raised flow v r ∙ feasible.meets_supplies v n;
    })
    (carry_over (reach_of m) higher (IsKept prices (reach_of m)) (IsComplementary prices) (kept_shown prices (reach_of m) higher) arcs raised flow r k)

-- where each route has a limit, the reach is nowhere
same_cap : (reach higher : ℤ) (most : Option ℤ) → IsLimited most → last_cap reach most ≡ last_cap higher most
same_cap reach higher (Some m) h = refl
same_cap reach higher None h = absurd h

same_arcs : (reach higher : ℤ) (routes : List Route) → All (λ r. IsLimited r.last_most) routes → arcs_of reach routes ≡ arcs_of higher routes
same_arcs reach higher [] h = refl
same_arcs reach higher (r ∷ routes) h =
    let e = same_cap reach higher r.last_most (All-head (λ r. IsLimited r.last_most) r routes h) in
    ap (λ cap. way r.tail r.head r.least r.steps cap r.last_cost ++ (way_back r.both r.tail r.head r.steps cap r.last_cost ++ arcs_of reach routes)) e
    ∙ ap (λ more. there higher r ++ (back higher r ++ more)) (same_arcs reach higher routes (All-tail (λ r. IsLimited r.last_most) r routes h))

least_within : (m : Model) (prices flow : List ℤ) (higher : ℤ) → IsSound m → All (λ r. IsLimited r.last_most) m.routes
    → IsFeasible (network_of (reach_of m) m) flow → Shows (arcs_of (reach_of m) m.routes) prices flow → IsLeast (network_of higher m) flow
least_within m prices flow higher sound limited feasible shows =
    subst (λ arcs. IsLeast (record { problem = Min; arcs = arcs; supplies = m.supplies }) flow) (same_arcs (reach_of m) higher m.routes limited)
    (shown_flows_are_least_lem (network_of (reach_of m) m) prices flow (arcs_have_ends (length m.supplies) (reach_of m) m.routes sound) feasible shows)

least_in_any : (m : Model) (prices flow : List ℤ) (higher : ℤ) → IsSound m → IsBounded m → IsFeasible (network_of (reach_of m) m) flow
    → Shows (arcs_of (reach_of m) m.routes) prices flow → reach_of m ≤ℤ higher → IsLeast (network_of higher m) flow
least_in_any m prices flow higher sound (inl limited) feasible shows h = least_within m prices flow higher sound limited feasible shows
least_in_any m prices flow higher sound (inr none) feasible shows h = least_beyond m prices flow higher sound none feasible shows h

-- in a network of greater reach the same prices show the flow
pub shown_in_any : (m : Model) (prices flow : List ℤ) (higher : ℤ) → IsSound m → IsBounded m → IsFeasible (network_of (reach_of m) m) flow
    → Shows (arcs_of (reach_of m) m.routes) prices flow → reach_of m ≤ℤ higher → IsFeasible (network_of higher m) flow × Shows (arcs_of higher m.routes) prices flow
shown_in_any m prices flow higher sound (inl limited) feasible shows h =
    subst (λ arcs. IsFeasible (record { problem = Min; arcs = arcs; supplies = m.supplies }) flow × Shows arcs prices flow)
    (same_arcs (reach_of m) higher m.routes limited) (feasible, shows)
shown_in_any m prices flow higher sound (inr none) feasible shows h =
    let r = arcs_raised (reach_of m) higher m.routes in (
      (least_beyond m prices flow higher sound none feasible shows h).feasible,
      carry_over (reach_of m) higher (IsKept prices (reach_of m)) (IsComplementary prices) (kept_shown prices (reach_of m) higher) (arcs_of (reach_of m) m.routes)
          (arcs_of higher m.routes) flow r (kept m prices flow sound none feasible shows),
    )

pub shown_flows_give_least_plans_lem : ShownFlowsGiveLeastPlans
shown_flows_give_least_plans_lem m prices flow sound bounded feasible shows =
    record {
      is_plan = (flows_are_plans_lem m (reach_of m) flow sound (reach_above_zero m) feasible).is_plan;
      least = λ other is.
          let higher = int_max (reach_of m) (enough_for m.routes other) in
          let more : reach_of m ≤ℤ higher = omega (arith, ints, clamps) in
          let zero : pos 0 ≤ℤ higher = omega (arith, ints, more, reach_above_zero m) in
          let least = least_in_any m prices flow higher sound bounded feasible shows more in
          let mine = flows_are_plans_lem m higher flow sound zero least.feasible in
          let its = plans_are_flows_lem m higher other sound is zero (within_reach higher m.routes other is.may_carry (omega (arith, ints, clamps))) in
          omega (arith, ints, mine.costs_no_more, its.same_cost, least.least (flow_of m.routes other) its.feasible);
    }

pub shown_flows_cost_the_same_lem : ShownFlowsCostTheSame
shown_flows_cost_the_same_lem m prices flow sound bounded feasible shows =
    let plan = plan_of m.routes flow in
    let mine = flows_are_plans_lem m (reach_of m) flow sound (reach_above_zero m) feasible in
    let higher = int_max (reach_of m) (enough_for m.routes plan) in
    let more : reach_of m ≤ℤ higher = omega (arith, ints, clamps) in
    let zero : pos 0 ≤ℤ higher = omega (arith, ints, more, reach_above_zero m) in
    let least = least_in_any m prices flow higher sound bounded feasible shows more in
    let its = plans_are_flows_lem m higher plan sound mine.is_plan zero (within_reach higher m.routes plan mine.is_plan.may_carry (omega (arith, ints, clamps))) in
    let same = same_flow_sum (reach_of m) higher (λ a f. a.cost *ℤ f) (λ a b f r. ap (λ z. z *ℤ f) r.cost) (arcs_of (reach_of m) m.routes)
    (arcs_of higher m.routes) flow (arcs_raised (reach_of m) higher m.routes) in
    antisym (plan_cost m plan) (cost (arcs_of (reach_of m) m.routes) flow) mine.costs_no_more
    (omega (arith, ints, same, its.same_cost, least.least (flow_of m.routes plan) its.feasible))
  where
    antisym : (x y : ℤ) → x ≤ℤ y → y ≤ℤ x → x ≡ y
    antisym x y h k = omega (arith, ints)

-- ---- a set that blocks does so beyond the reach

-- of two tests that exclude each other
pub apart : (p q : ℕ → ℕ → Bool) → ((s d : ℕ) (x : ℤ) → (when (p s d) (size x) +ℤ when (q s d) x) ≤ℤ size x) → (arcs : List Arc)
    → (arc_sum (λ a. when (p a.src a.dst) (size a.low)) arcs +ℤ arc_sum (λ a. when (q a.src a.dst) a.low) arcs) ≤ℤ low_sizes arcs
apart p q h [] = omega (arith, ints)
apart p q h (a ∷ arcs) = omega (arith, ints, h a.src a.dst a.low, apart p q h arcs)

pub exclusive : (s t : Bool) (x : ℤ) → (when (s && not t) (size x) +ℤ when (t && not s) x) ≤ℤ size x
exclusive true true x = omega (arith, ints, clamps)
exclusive true false x = omega (arith, ints, clamps)
exclusive false true x = omega (arith, ints, clamps)
exclusive false false x = omega (arith, ints, clamps)

same_lows : (reach higher : ℤ) (t : ℕ → ℕ → Bool) (arcs raised : List Arc) → AllZip (IsRaised reach higher) arcs raised
    → arc_sum (λ a. when (t a.src a.dst) a.low) raised ≡ arc_sum (λ a. when (t a.src a.dst) a.low) arcs
same_lows reach higher t arcs raised h =
    same_arc_sum reach higher (λ a. when (t a.src a.dst) a.low)
    (λ a b r. ap (λ s. when (t s b.dst) b.low) r.src ∙ ap (λ d. when (t a.src d) b.low) r.dst ∙ ap (when (t a.src a.dst)) r.low) arcs raised h

blocks_beyond : (m : Model) (set : ℕ → Bool) (side : Side) (flow : List ℤ) (higher : ℤ) → Blocks (network_of (reach_of m) m) set side
    → IsWithinBounds (arcs_of higher m.routes) flow → Blocks (network_of higher m) set side
blocks_beyond m set Send flow higher blocks within =
    let arcs = arcs_of (reach_of m) m.routes in
    let raised = arcs_of higher m.routes in
    let r = arcs_raised (reach_of m) higher m.routes in
    let out = λ (s d : ℕ). set s && not (set d) in
    let home = λ (s d : ℕ). set d && not (set s) in
    elim (caps_or_reach (reach_of m) higher out (reach_above_zero m) arcs raised flow r within) [
      | inl same ↦ omega (arith, ints, blocks, same, same_lows (reach_of m) higher home arcs raised r)
      | inr far ↦ absurd (omega (
        arith,
        ints,
        blocks,
        far,
        reach_is m,
        (supply_in_small m.supplies set).0,
        apart out home (λ s d x. exclusive (set s) (set d) x) arcs,
      ))
    ]
blocks_beyond m set Take flow higher blocks within =
    let arcs = arcs_of (reach_of m) m.routes in
    let raised = arcs_of higher m.routes in
    let r = arcs_raised (reach_of m) higher m.routes in
    let out = λ (s d : ℕ). set s && not (set d) in
    let home = λ (s d : ℕ). set d && not (set s) in
    elim (caps_or_reach (reach_of m) higher home (reach_above_zero m) arcs raised flow r within) [
      | inl same ↦ omega (arith, ints, blocks, same, same_lows (reach_of m) higher out arcs raised r)
      | inr far ↦ absurd (omega (
        arith,
        ints,
        blocks,
        far,
        reach_is m,
        (supply_in_small m.supplies set).1,
        apart home out (λ s d x. exclusive (set d) (set s) x) arcs,
      ))
    ]

pub blocked_models_have_no_plan_lem : BlockedModelsHaveNoPlan
blocked_models_have_no_plan_lem m set side plan sound blocks is =
    let higher = int_max (reach_of m) (enough_for m.routes plan) in
    let zero : pos 0 ≤ℤ higher = omega (arith, ints, clamps, reach_above_zero m) in
    let its = plans_are_flows_lem m higher plan sound is zero (within_reach higher m.routes plan is.may_carry (omega (arith, ints, clamps))) in
    blocked_has_no_flow_lem (network_of higher m) set side (flow_of m.routes plan) (arcs_have_ends (length m.supplies) higher m.routes sound)
    (blocks_beyond m set side (flow_of m.routes plan) higher blocks its.feasible.within_bounds) its.feasible
