-- From what a solver answers to what is answered for a model.
use Rattle.std.proofs.Common.{◌≡◌, ◌≤◌, ◌≤ℤ◌, List, [], ◌∷◌, length, map, ap, sym, ◌∙◌, subst, arith, ℤ, pos}
use Rattle.std.specs.Prelude.{Result, Ok, Err, OnErr}
use Rattle.std.specs.List.{All}
use Rattle.std.proofs.Math.IntN.{◌*ℤ◌}
use Rattle.std.proofs.lemmas.List.Elements.{All-head}
use Rattle.mcf_flows.specs.declared.arc.Arc.{Arc}
use Rattle.mcf_flows.specs.declared.problem.Problem.TheVariants.{Min}
use Rattle.mcf_flows.specs.Blocking.{in_list}
use Rattle.mcf_flows.specs.Flow.{CanCarry}
use Rattle.mcf_flows.specs.Limits.{limits}
use Rattle.mcf_flows.specs.WellFormed.{IsWellFormed}
use Rattle.mcf_flows.proofs.AllZips.{length-AllZip}
use Rattle.mcf_instance.specs.declared.arrays.RawArc.{RawArc}
use Rattle.mcf_instance.specs.Arrays.{arc_of_numbers, flow_problem}
use Rattle.mcf_model.specs.declared.planning.Bottleneck.{Bottleneck}
use Rattle.mcf_model.specs.declared.planning.LeastPlan.{LeastPlan}
use Rattle.mcf_model.specs.declared.planning.ShownFlow.{ShownFlow}
use Rattle.mcf_model.specs.Arcs.{arcs_of, network_of, plan_of, reach_of}
use Rattle.mcf_model.specs.Laws.{IsProper}
use Rattle.mcf_model.specs.Model.{IsLeastPlan, IsSoundRoute, Model, Route, plan_cost}
use Rattle.mcf_model.specs.Planning.{HasNoPlan, IsBestPlan, IsBlocked, IsShownFlow}
use Rattle.mcf_model.specs.Prices.{ShowsPlan}
use Rattle.mcf_model.specs.Scaling.{scaled}
use Rattle.mcf_model.proofs.Exact.{finer_plans_undercut_none_lem}
use Rattle.mcf_model.proofs.Narrow.{blocking_sets_are_bottlenecks_lem}
use Rattle.mcf_model.proofs.PricedPlans.{shown_flows_show_plans_lem}
use Rattle.mcf_model.proofs.Raised.{IsRaised, arcs_raised}
use Rattle.mcf_model.proofs.Unlimited.{blocked_models_have_no_plan_lem, shown_flows_cost_the_same_lem, shown_flows_give_least_plans_lem}

-- a fact that holds whatever is answered holds on want of memory
pub on_err : {X E : Type 0} (r : Result X E) (P : Type 0) → P → OnErr r P
on_err (Ok x) P h = tt
on_err (Err e) P h = h

-- the network that arrays are made of
pub made_network : (m : Model) (cap : ℤ) (supplies given : List ℤ) (arcs lent : List RawArc) → given ≡ supplies → supplies ≡ m.supplies → lent ≡ arcs
    → map arc_of_numbers arcs ≡ arcs_of cap m.routes → flow_problem given lent ≡ network_of cap m
made_network m cap supplies given arcs lent e f g is =
    ap (λ s. flow_problem s lent) (e ∙ f)
    ∙ ap (λ (xs : List Arc). record { problem = Min; arcs = xs; supplies = m.supplies }) (ap (map arc_of_numbers) g ∙ is)

pub has_places : (m : Model) → IsProper m → 1 ≤ length m.routes → 1 ≤ length m.supplies
has_places m proper h = go m.routes proper.sound h
  where
    go : (routes : List Route) → All (IsSoundRoute (length m.supplies)) routes → 1 ≤ length routes → 1 ≤ length m.supplies
    go [] sound h = absurd (omega arith)
    go (r ∷ routes) sound h =
        let first = All-head (IsSoundRoute (length m.supplies)) r routes sound in omega (arith, first.tail_is_place.0, first.tail_is_place.1)

pub flow_is_long : (m : Model) (s : ShownFlow) → IsShownFlow (network_of (reach_of m) m) s → length s.flow.items ≡ length (arcs_of (pos 0) m.routes)
flow_is_long m s h =
    sym (length-AllZip CanCarry (arcs_of (reach_of m) m.routes) s.flow.items h.feasible.within_bounds)
    ∙ sym (length-AllZip (IsRaised (pos 0) (reach_of m)) (arcs_of (pos 0) m.routes) (arcs_of (reach_of m) m.routes) (arcs_raised (pos 0) (reach_of m) m.routes))

pub best_plan : (m : Model) (s : ShownFlow) (p : LeastPlan) → IsProper m → IsShownFlow (network_of (reach_of m) m) s
    → p.carries.items ≡ plan_of m.routes s.flow.items → p.cost ≡ s.cost → p.prices.items ≡ s.prices.items → IsBestPlan m p
best_plan m s p proper h is same priced =
    let flow = s.flow.items in
    let prices = s.prices.items in
    record {
      least = subst (IsLeastPlan m) (sym is) (shown_flows_give_least_plans_lem m prices flow proper.sound proper.bounded h.feasible h.shown);
      cost_is = same ∙ h.cost_is ∙ sym (shown_flows_cost_the_same_lem m prices flow proper.sound proper.bounded h.feasible h.shown) ∙ ap (plan_cost m) (sym is);
      shown = subst (λ ys. ShowsPlan m.routes ys p.carries.items) (sym priced)
          (subst (ShowsPlan m.routes prices) (sym is) (shown_flows_show_plans_lem m prices flow proper.sound proper.bounded h.feasible h.shown));
      least_in_finer_units = λ k k1.
          subst (λ plan. IsLeastPlan (scaled k m) (map (λ x. k *ℤ x) plan)) (sym is)
          (finer_plans_undercut_none_lem k m prices flow k1 proper.sound proper.bounded h.feasible h.shown);
    }

pub no_plan : (m : Model) (b : Bottleneck) → IsProper m → IsWellFormed limits (network_of (reach_of m) m) → IsBlocked (network_of (reach_of m) m) b → HasNoPlan m b
no_plan m b proper within h =
    let set = in_list b.places.items in
    let ordered : All (λ a. a.low ≤ℤ a.cap) (arcs_of (reach_of m) m.routes) = λ k d l. (within.within.arcs k d l).ordered in
    record {
      are_places = h.are_nodes;
      is_bottleneck = blocking_sets_are_bottlenecks_lem m set b.side ordered h.blocks;
      none = λ plan. blocked_models_have_no_plan_lem m set b.side plan proper.sound h.blocks;
    }
